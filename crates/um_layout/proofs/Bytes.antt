-- The bytes before an entry: those of the entries that are placed before it, and those that stand before it.
use Rattle.std.proofs.Common.{◌≡◌, inl, inr, ℕ, zero, suc, ◌+◌, ◌<◌, ◌≤◌, true, false, cond, List, [], ◌∷◌, length, take, map, get_or, refl, sym, ap, ◌∙◌, arith}
use Rattle.std.specs.List.{sum_by}
use Rattle.std.specs.List.Sorted.{IsPermutation}
use Rattle.std.proofs.lemmas.Bool.{cases_lt}
use Rattle.std.proofs.lemmas.Bool.Decides.{nat_tests}
use Rattle.std.proofs.lemmas.List.{ext_get_or, get_or_default}
use Rattle.std.proofs.lemmas.List.Sums.{sum_by-cons}
use Rattle.std.proofs.lemmas.List.Sorted.{sum_by-IsPermutation}
use Rattle.um_base.specs.declared.names.Mpu.{Mpu}
use Rattle.um_base.specs.Layout.{rounded, bytes_before}
use Rattle.um_layout.specs.Entries.{AreEntriesOf, AreOrdered, before, bytes_of}
use Rattle.um_layout.specs.declared.entries.Entry.{Entry}

-- what an entry adds before y
abbrev pub earlier : Mpu → Entry → Entry → ℕ
earlier mpu y e = cond (before mpu e y) e.size 0

-- entries of sizes, numbered from i on
abbrev pub numbered : Mpu → ℕ → List ℕ → List Entry
numbered mpu i [] = []
numbered mpu i (n ∷ ns) = record { size = rounded mpu n; number = i } ∷ numbered mpu (i + 1) ns

length-numbered : (mpu : Mpu) (i : ℕ) (ns : List ℕ) → length (numbered mpu i ns) ≡ length ns
length-numbered mpu i [] = refl
length-numbered mpu i (n ∷ ns) = ap suc (length-numbered mpu (i + 1) ns)

get_or-numbered : (mpu : Mpu) (i : ℕ) (ns : List ℕ) (k : ℕ) (d : Entry) → k < length ns → get_or (numbered mpu i ns) k d ≡ record { size = rounded mpu (get_or ns k 0); number = i + k }
get_or-numbered mpu i [] k d h = absurd (omega arith)
get_or-numbered mpu i (n ∷ ns) zero d h = ap (λ (m : ℕ). record { size = rounded mpu n; number = m }) (omega arith)
get_or-numbered mpu i (n ∷ ns) (suc k) d h =
    get_or-numbered mpu (i + 1) ns k d (omega arith) ∙ ap (λ (m : ℕ). record { size = rounded mpu (get_or ns k 0); number = m }) (omega arith)

bytes_before-numbered : (mpu : Mpu) (y : Entry) (i : ℕ) (ns : List ℕ) → bytes_before mpu (map (rounded mpu) ns) i y.size y.number ≡ sum_by (earlier mpu y) (numbered mpu i ns)
bytes_before-numbered mpu y i [] = refl
bytes_before-numbered mpu y i (n ∷ ns) =
    ap (λ m. earlier mpu y (record { size = rounded mpu n; number = i }) + m) (bytes_before-numbered mpu y (i + 1) ns)
    ∙ sym (sum_by-cons (earlier mpu y) (record { size = rounded mpu n; number = i }) (numbered mpu (i + 1) ns))

blank : Entry
blank = record { size = 0; number = 0 }

pub are_numbered : (mpu : Mpu) (asked : List ℕ) (xs : List Entry) → AreEntriesOf mpu asked xs → xs ≡ numbered mpu 0 asked
are_numbered mpu asked xs h =
    ext_get_or blank xs (numbered mpu 0 asked) (h.len ∙ sym (length-numbered mpu 0 asked))
    (λ i inside. h.each i blank inside ∙ ap (λ (m : ℕ). record { size = rounded mpu (get_or asked i 0); number = m }) (omega arith) ∙ sym (get_or-numbered mpu 0 asked i blank (omega (arith, h.len))))

-- where a list begins with what f keeps, and goes on with what it drops
taken_sum : (f : Entry → ℕ) (ys : List Entry) (k : ℕ)
    → ((j : ℕ) (d : Entry) → j < k → j < length ys → f (get_or ys j d) ≡ (get_or ys j d).size)
    → ((j : ℕ) (d : Entry) → k ≤ j → j < length ys → f (get_or ys j d) ≡ 0)
    → sum_by f ys ≡ bytes_of (take k ys)
taken_sum f [] zero kept dropped = refl
taken_sum f [] (suc k) kept dropped = refl
taken_sum f (y ∷ ys) zero kept dropped =
    let rest = taken_sum f ys 0 (λ j d h _. absurd (omega arith)) (λ j d h l. dropped (suc j) d (omega arith) (omega arith)) in
    omega (arith, sum_by-cons f y ys, dropped 0 y (omega arith) (omega arith))
taken_sum f (y ∷ ys) (suc k) kept dropped =
    let rest = taken_sum f ys k (λ j d h l. kept (suc j) d (omega arith) (omega arith)) (λ j d h l. dropped (suc j) d (omega arith) (omega arith)) in
    omega (arith, sum_by-cons f y ys, sum_by-cons (λ (e : Entry). e.size) y (take k ys), kept 0 y (omega arith) (omega arith))

earlier_yes : (mpu : Mpu) (y e : Entry) → before mpu e y ≡ true → earlier mpu y e ≡ e.size
earlier_yes mpu y e h = rw h refl

earlier_no : (mpu : Mpu) (y e : Entry) → before mpu e y ≡ false → earlier mpu y e ≡ 0
earlier_no mpu y e h = rw h refl

before_one_way : (mpu : Mpu) (x y : Entry) → before mpu x y ≡ true → before mpu y x ≡ false
before_one_way Mpu.V7 x y h = grind (arith, nat_tests)
before_one_way Mpu.V8 x y h = grind (arith, nat_tests)

before_itself : (mpu : Mpu) (x : Entry) → before mpu x x ≡ false
before_itself Mpu.V7 x = grind (arith, nat_tests)
before_itself Mpu.V8 x = grind (arith, nat_tests)

not_before : (mpu : Mpu) (ys : List Entry) (k j : ℕ) (d : Entry) → AreOrdered mpu ys → k ≤ j → j < length ys → before mpu (get_or ys j d) (get_or ys k d) ≡ false
not_before mpu ys k j d ordered h l =
    elim (cases_lt k j) [
      | inl less ↦ before_one_way mpu (get_or ys k d) (get_or ys j d) (ordered k j d less l)
      | inr same ↦ let here : j ≡ k = omega arith in rw here (before_itself mpu (get_or ys k d))
    ]

earlier_sum : (mpu : Mpu) (ys : List Entry) (k : ℕ) (c : Entry) → AreOrdered mpu ys → k < length ys → sum_by (earlier mpu (get_or ys k c)) ys ≡ bytes_of (take k ys)
earlier_sum mpu ys k c ordered h =
    taken_sum (earlier mpu (get_or ys k c)) ys k
    (λ j d l m. earlier_yes mpu (get_or ys k c) (get_or ys j d) (ap (before mpu (get_or ys j d)) (get_or_default ys k c d h) ∙ ordered j k d l h))
    (λ j d l m. earlier_no mpu (get_or ys k c) (get_or ys j d) (ap (before mpu (get_or ys j d)) (get_or_default ys k c d h) ∙ not_before mpu ys k j d ordered l m))

-- what stands before the k-th entry is what is placed before it
pub bytes_before-ordered : (mpu : Mpu) (asked : List ℕ) (xs ys : List Entry) (k : ℕ) (d : Entry)
    → AreEntriesOf mpu asked xs → IsPermutation xs ys → AreOrdered mpu ys → k < length ys
    → bytes_before mpu (map (rounded mpu) asked) 0 (get_or ys k d).size (get_or ys k d).number ≡ bytes_of (take k ys)
bytes_before-ordered mpu asked xs ys k d entries p ordered h =
    bytes_before-numbered mpu (get_or ys k d) 0 asked ∙ ap (sum_by (earlier mpu (get_or ys k d))) (sym (are_numbered mpu asked xs entries))
    ∙ sym (sum_by-IsPermutation (earlier mpu (get_or ys k d)) xs ys p) ∙ earlier_sum mpu ys k d ordered h

pub bytes_mono : (ys : List Entry) (i j : ℕ) → i ≤ j → bytes_of (take i ys) ≤ bytes_of (take j ys)
bytes_mono [] zero zero h = omega arith
bytes_mono [] zero (suc j) h = omega arith
bytes_mono [] (suc i) zero h = omega arith
bytes_mono [] (suc i) (suc j) h = omega arith
bytes_mono (y ∷ ys) zero j h = omega arith
bytes_mono (y ∷ ys) (suc i) zero h = absurd (omega arith)
bytes_mono (y ∷ ys) (suc i) (suc j) h =
    omega (arith, bytes_mono ys i j (omega arith), sum_by-cons (λ (e : Entry). e.size) y (take i ys), sum_by-cons (λ (e : Entry). e.size) y (take j ys))
