-- In a lawful image each row has an address of its own.
use Rattle.um_invariants.proofs.Facts.{is_equal, both_of, either_left, either_right, or_else_right, is_le, le_is}
use Rattle.um_base.specs.declared.names.Kind.{Kind}
use Rattle.um_base.specs.declared.image.Setup.{Setup}
use Rattle.um_base.specs.declared.image.ObjectDef.{ObjectDef}
use Rattle.um_base.specs.declared.image.Image.{Image}
use Rattle.std.proofs.lemmas.Bool.{cases_lt}
use Rattle.std.specs.List.{list_all, list_any}
use Rattle.std.proofs.Common.{◌≡◌, ◌≢◌, ◌⊎◌, inl, inr, ℕ, zero, suc, ◌+◌, ◌<◌, ◌≤◌, Bool, true, false, List, [], ◌∷◌, length, get_or, sum, refl, sym, ap, subst, ◌∙◌, arith, if◌then◌else◌, ◌*◌, ◌==◌, nat_le, lit<}
use Rattle.std.proofs.lemmas.Bool.Decides.{nat_tests}
use Rattle.std.proofs.lemmas.List.{get_or-map, length-map}
use Rattle.std.proofs.lemmas.List.Sums.{sum_by-cons}
use Rattle.um_base.specs.declared.limits.TheConstants.{AREA_SIZE, STATIC_ROWS, OBJECTS, OBJECT_STEP, STACK_AREA, DYNAMIC_OBJECTS, AREA_ENTRY}
use Rattle.um_base.specs.declared.names.Mpu.{Mpu}
use Rattle.um_base.specs.declared.names.Range.{Range}
use Rattle.um_base.specs.Layout.{is_before, bytes_before, starts_from, rounded, first_from, powers}
use Rattle.um_base.specs.Lawful.{ArePlaced, sizes_of, IsLawful, is_setup_of, is_within, stack_ranges, addr_given, stand_in_rows}

first_choice : (n size rest : ℕ) (b : Bool) → nat_le n size ≡ b → 0 < n → (b ≡ false → 0 < rest) → 0 < (if b then size else rest)
first_choice n size rest true e some later = let h = is_le n size e in omega (arith, h, some)
first_choice n size rest false e some later = later refl

-- the bytes before a placed entry
before_later : (mpu : Mpu) (n j s k t l : ℕ) → is_before mpu s k t l ≡ true → is_before mpu n j s k ≡ true → is_before mpu n j t l ≡ true
before_later Mpu.V7 n j s k t l h b = grind (arith, nat_tests)
before_later Mpu.V8 n j s k t l h b = grind (arith, nat_tests)

before_itself : (mpu : Mpu) (s k : ℕ) → is_before mpu s k s k ≡ false
before_itself Mpu.V7 s k = grind (arith, nat_tests)
before_itself Mpu.V8 s k = grind (arith, nat_tests)

before_either : (mpu : Mpu) (s k t l : ℕ) → k ≢ l → (is_before mpu s k t l ≡ true) ⊎ (is_before mpu t l s k ≡ true)
before_either Mpu.V7 s k t l h = grind (arith, nat_tests)
before_either Mpu.V8 s k t l h = grind (arith, nat_tests)

part_le : (a b : Bool) (n : ℕ) → (a ≡ true → b ≡ true) → (if a then n else 0) ≤ (if b then n else 0)
part_le true true n h = omega arith
part_le true false n h = let e : false ≡ true = h refl in cc
part_le false b n h = omega arith

bytes_le : (mpu : Mpu) (ns : List ℕ) (i s k t l : ℕ) → is_before mpu s k t l ≡ true → bytes_before mpu ns i s k ≤ bytes_before mpu ns i t l
bytes_le mpu [] i s k t l h = omega arith
bytes_le mpu (n ∷ ns) i s k t l h =
    let first = part_le (is_before mpu n i s k) (is_before mpu n i t l) n (before_later mpu n i s k t l h) in
    let rest = bytes_le mpu ns (i + 1) s k t l h in omega (arith, first, rest)

bytes_less : (mpu : Mpu) (ns : List ℕ) (i j s t l : ℕ) → j < length ns → get_or ns j 0 ≡ s → is_before mpu s (i + j) t l ≡ true → bytes_before mpu ns i s (i + j) + s ≤ bytes_before mpu ns i t l
bytes_less mpu [] i j s t l inside e h = absurd (omega (arith, inside))
bytes_less mpu (n ∷ ns) i zero s t l inside e h =
    let here : i + 0 ≡ i = omega arith in
    let b : is_before mpu s i t l ≡ true = subst (λ (k : ℕ). is_before mpu s k t l ≡ true) here h in
    let rest = bytes_le mpu ns (i + 1) s i t l b in
    rw (here, e, before_itself mpu s i, b) (omega (arith, rest))
bytes_less mpu (n ∷ ns) i (suc j) s t l inside e h =
    let here : i + suc j ≡ i + 1 + j = omega arith in
    let b : is_before mpu s (i + 1 + j) t l ≡ true = subst (λ (k : ℕ). is_before mpu s k t l ≡ true) here h in
    let rest = bytes_less mpu ns (i + 1) j s t l (omega (arith, inside)) e b in
    let first = part_le (is_before mpu n i s (i + 1 + j)) (is_before mpu n i t l) n (before_later mpu n i s (i + 1 + j) t l b) in
    rw here (omega (arith, rest, first))

bytes_within : (mpu : Mpu) (ns : List ℕ) (i s k : ℕ) → bytes_before mpu ns i s k ≤ sum ns
bytes_within mpu [] i s k = omega arith
bytes_within mpu (n ∷ ns) i s k =
    let rest = bytes_within mpu ns (i + 1) s k in
    let first = part_le (is_before mpu n i s k) true n (λ h. refl) in omega (arith, rest, first, sum_by-cons (λ (m : ℕ). m) n ns)

starts_at : (mpu : Mpu) (a : ℕ) (all ns : List ℕ) (j i : ℕ) → i < length ns → get_or (starts_from mpu a all ns j) i 0 ≡ a + bytes_before mpu all 0 (get_or ns i 0) (j + i)
starts_at mpu a all [] j i h = absurd (omega (arith, h))
starts_at mpu a all (n ∷ ns) j zero h = ap (λ m. a + bytes_before mpu all 0 n m) (omega arith)
starts_at mpu a all (n ∷ ns) j (suc i) h =
    starts_at mpu a all ns (j + 1) i (omega (arith, h)) ∙ ap (λ m. a + bytes_before mpu all 0 (get_or ns i 0) m) (omega arith)

-- where ranges are placed, the k-th starts behind the bytes before it
placed_at : (mpu : Mpu) (area : ℕ) (ranges : List Range) (k : ℕ) (d : Range) → ArePlaced mpu area ranges → k < length ranges
    → (get_or ranges k d).start.0 ≡ area + bytes_before mpu (sizes_of ranges) 0 (get_or ranges k d).size k
placed_at mpu area ranges k d placed h =
    let many : length (sizes_of ranges) ≡ length ranges = length-map ranges (λ (r : Range). r.size) in
    let inside : k < length (sizes_of ranges) = omega (arith, many, h) in
    sym (get_or-map (λ (r : Range). r.start.0) ranges k d 0 h) ∙ ap (λ (ns : List ℕ). get_or ns k 0) placed.starts_are ∙ starts_at mpu area (sizes_of ranges) (sizes_of ranges) 0 k inside
    ∙ ap (λ n. area + bytes_before mpu (sizes_of ranges) 0 n (0 + k)) (get_or-map (λ (r : Range). r.size) ranges k d 0 h)
    ∙ ap (λ m. area + bytes_before mpu (sizes_of ranges) 0 (get_or ranges k d).size m) (omega arith)

placed_within : (mpu : Mpu) (area : ℕ) (ranges : List Range) (k : ℕ) (d : Range) → ArePlaced mpu area ranges → k < length ranges → (get_or ranges k d).start.0 ≤ area + AREA_SIZE
placed_within mpu area ranges k d placed h =
    let e = placed_at mpu area ranges k d placed h in
    let few = bytes_within mpu (sizes_of ranges) 0 (get_or ranges k d).size k in
    let fit = placed.fit in omega (arith, e, few, fit)

-- two ranges that aren't empty start at different places
placed_first : (mpu : Mpu) (area : ℕ) (ranges : List Range) (k l : ℕ) (d : Range) → ArePlaced mpu area ranges → k < length ranges → l < length ranges → 0 < (get_or ranges k d).size
    → is_before mpu (get_or ranges k d).size k (get_or ranges l d).size l ≡ true → (get_or ranges k d).start.0 < (get_or ranges l d).start.0
placed_first mpu area ranges k l d placed h g some b =
    let e = placed_at mpu area ranges k d placed h in
    let f = placed_at mpu area ranges l d placed g in
    let many : length (sizes_of ranges) ≡ length ranges = length-map ranges (λ (r : Range). r.size) in
    let inside : k < length (sizes_of ranges) = omega (arith, many, h) in
    let zeroth : 0 + k ≡ k = omega arith in
    let less = bytes_less mpu (sizes_of ranges) 0 k (get_or ranges k d).size (get_or ranges l d).size l inside (get_or-map (λ (r : Range). r.size) ranges k d 0 h)
    (subst (λ m. is_before mpu (get_or ranges k d).size m (get_or ranges l d).size l ≡ true) (sym zeroth) b) in
    let less2 : bytes_before mpu (sizes_of ranges) 0 (get_or ranges k d).size k + (get_or ranges k d).size ≤ bytes_before mpu (sizes_of ranges) 0 (get_or ranges l d).size l =
    subst (λ m. bytes_before mpu (sizes_of ranges) 0 (get_or ranges k d).size m + (get_or ranges k d).size ≤ bytes_before mpu (sizes_of ranges) 0 (get_or ranges l d).size l) zeroth less in
    omega (arith, e, f, less2, some)

placed_apart : (mpu : Mpu) (area : ℕ) (ranges : List Range) (k l : ℕ) (d : Range) → ArePlaced mpu area ranges → k < length ranges → l < length ranges
    → 0 < (get_or ranges k d).size → 0 < (get_or ranges l d).size → k ≢ l → (get_or ranges k d).start.0 ≢ (get_or ranges l d).start.0
placed_apart mpu area ranges k l d placed h g some more differ e =
    elim (before_either mpu (get_or ranges k d).size k (get_or ranges l d).size l differ) as (λ _. ⊥) [
      | inl b ↦ let less = placed_first mpu area ranges k l d placed h g some b in omega (arith, less, e)
      | inr b ↦ let less = placed_first mpu area ranges l k d placed g h more b in omega (arith, less, e)
    ]

-- sizes of thread stacks are positive
any_at : (p : ℕ → Bool) (xs : List ℕ) (k : ℕ) → k < length xs → p (get_or xs k 0) ≡ true → list_any p xs ≡ true
any_at p [] k inside h = absurd (omega (arith, inside))
any_at p (x ∷ xs) zero inside h = either_left (p x) _ h
any_at p (x ∷ xs) (suc k) inside h = either_right (p x) _ (any_at p xs k (omega (arith, inside)) h)

first_some : (sizes : List ℕ) (n : ℕ) → 0 < n → list_any (λ size. nat_le n size) sizes ≡ true → 0 < first_from sizes n
first_some [] n some h = cc
first_some (size ∷ sizes) n some h = first_choice n size (first_from sizes n) (nat_le n size) refl some (λ no. first_some sizes n some (or_else_right (nat_le n size) _ no h))

rounded_some : (mpu : Mpu) (n : ℕ) → 0 < n → n ≤ 65536 → 0 < rounded mpu n
rounded_some Mpu.V7 n some few = first_some powers n some (any_at (λ size. nat_le n size) powers 11 (lit< tt) (le_is n 65536 few))
rounded_some Mpu.V8 n some few = omega (arith, some)

stack_some : (mpu : Mpu) (kind : Kind) (range : Range) (declared : ℕ) → is_setup_of mpu kind (Setup.ThreadStack range declared) ≡ true → 0 < range.size
stack_some mpu Kind.ThreadStack range declared h =
    let (within, same) = both_of (is_within 1 AREA_ENTRY declared) _ h in
    let (low, high) = both_of (nat_le 1 declared) _ within in
    let e : rounded mpu declared ≡ range.size = is_equal (rounded mpu declared) range.size same in
    let some = rounded_some mpu declared (is_le 1 declared low) (is_le declared 65536 high) in omega (arith, e, some)
stack_some mpu _ range declared h = cc

-- how many thread stacks stand before a row
abbrev after_stack : Setup → ℕ → ℕ
after_stack (Setup.ThreadStack range declared) n = suc n
after_stack _ n = n

abbrev stacks_before : List ObjectDef → ℕ → ℕ
stacks_before [] i = 0
stacks_before (o ∷ os) zero = 0
stacks_before (o ∷ os) (suc i) = after_stack o.setup (stacks_before os i)

abbrev with_stack : Setup → List Range → List Range
with_stack setup ranges = elim setup as (λ _. List Range) [ Setup.ThreadStack range declared ↦ range ∷ ranges | _ ↦ ranges ]

-- a range is the n-th of these
abbrev IsNth : List Range → ℕ → Range → Type 0
IsNth ranges n range = (n < length ranges) × ((d : Range) → get_or ranges n d ≡ range)

one_behind : (setup : Setup) (ranges : List Range) (n : ℕ) (range : Range) → IsNth ranges n range → IsNth (with_stack setup ranges) (after_stack setup n) range
one_behind (Setup.ThreadStack first declared) ranges n range h = (omega (arith, h.0), h.1)
one_behind _ ranges n range h = h

stack_is : (os : List ObjectDef) (i : ℕ) (d : ObjectDef) (range : Range) (declared : ℕ) → i < length os → (get_or os i d).setup ≡ Setup.ThreadStack range declared → IsNth (stack_ranges os) (stacks_before os i) range
stack_is [] i d range declared inside e = absurd (omega (arith, inside))
stack_is (o ∷ os) zero d range declared inside e = subst (λ (setup : Setup). IsNth (with_stack setup (stack_ranges os)) 0 range) (sym e) (omega arith, λ c. refl)
stack_is (o ∷ os) (suc i) d range declared inside e = one_behind o.setup (stack_ranges os) (stacks_before os i) range (stack_is os i d range declared (omega (arith, inside)) e)

after_less : (setup : Setup) (n m : ℕ) → n < m → after_stack setup n < after_stack setup m
after_less (Setup.ThreadStack range declared) n m h = omega (arith, h)
after_less _ n m h = h

stack_less : (os : List ObjectDef) (i j : ℕ) (d : ObjectDef) (range : Range) (declared : ℕ) → i < j → j < length os → (get_or os i d).setup ≡ Setup.ThreadStack range declared → stacks_before os i < stacks_before os j
stack_less [] i j d range declared less inside e = absurd (omega (arith, inside))
stack_less (o ∷ os) i zero d range declared less inside e = absurd (omega (arith, less))
stack_less (o ∷ os) zero (suc j) d range declared less inside e = subst (λ (setup : Setup). 0 < after_stack setup (stacks_before os j)) (sym e) (omega arith)
stack_less (o ∷ os) (suc i) (suc j) d range declared less inside e =
    after_less o.setup (stacks_before os i) (stacks_before os j) (stack_less os i j d range declared (omega (arith, less)) (omega (arith, inside)) e)

-- where objects stand
stands_at : (os : List ObjectDef) (x i : ℕ) (d : ObjectDef) → stand_in_rows os x ≡ true → i < length os → (get_or os i d).addr.0 ≡ addr_given (get_or os i d).setup (x + i)
stands_at [] x i d h inside = absurd (omega (arith, inside))
stands_at (o ∷ os) x zero d h inside =
    let zeroth : x ≡ x + 0 = omega arith in is_equal o.addr.0 (addr_given o.setup x) (both_of (o.addr.0 == addr_given o.setup x) _ h).0 ∙ ap (addr_given o.setup) zeroth
stands_at (o ∷ os) x (suc i) d h inside =
    let next : x + 1 + i ≡ x + suc i = omega arith in
    stands_at os (x + 1) i d (both_of (o.addr.0 == addr_given o.setup x) _ h).1 (omega (arith, inside)) ∙ ap (addr_given (get_or os i d).setup) next

-- a row stands at a thread stack, or at its own place among the objects
data StandsAt (setup : Setup) (x : ℕ) : Type 0 where
  stack : (range : Range) (declared : ℕ) → setup ≡ Setup.ThreadStack range declared → addr_given setup x ≡ range.start.0 → StandsAt setup x
  object : addr_given setup x ≡ OBJECTS + OBJECT_STEP * x → StandsAt setup x

which_stands : (setup : Setup) (x : ℕ) → StandsAt setup x
which_stands (Setup.ThreadStack range declared) x = stack range declared refl refl
which_stands _ x = object refl

pub all_at : (p : ObjectDef → Bool) (os : List ObjectDef) (i : ℕ) (d : ObjectDef) → list_all p os ≡ true → i < length os → p (get_or os i d) ≡ true
all_at p [] i d h inside = absurd (omega (arith, inside))
all_at p (o ∷ os) zero d h inside = (both_of (p o) _ h).0
all_at p (o ∷ os) (suc i) d h inside = all_at p os i d (both_of (p o) _ h).1 (omega (arith, inside))

no_range : Range
no_range = record { start = record { 0 = 0 }; size = 0 }

-- a thread stack's number, place and size
record IsStack (image : Image) (i : ℕ) (range : Range) : Type 0 where
  nth : IsNth (stack_ranges image.objects) (stacks_before image.objects i) range
  low : range.start.0 ≤ STACK_AREA + AREA_SIZE
  some : 0 < range.size

is_stack : (image : Image) → IsLawful image → (i : ℕ) (d : ObjectDef) (range : Range) (declared : ℕ) → i < length image.objects → (get_or image.objects i d).setup ≡ Setup.ThreadStack range declared → IsStack image i range
is_stack image lawful i d range declared inside e =
    let nth = stack_is image.objects i d range declared inside e in
    let n = stacks_before image.objects i in
    let kept = all_at (λ (o : ObjectDef). is_setup_of image.mpu o.kind o.setup) image.objects i d lawful.objects inside in
    record {
      nth = nth;
      low = subst (λ (r : Range). r.start.0 ≤ STACK_AREA + AREA_SIZE) (nth.1 no_range) (placed_within image.mpu STACK_AREA (stack_ranges image.objects) n no_range lawful.stacks_placed nth.0);
      some = stack_some image.mpu (get_or image.objects i d).kind range declared (subst (λ (setup : Setup). is_setup_of image.mpu (get_or image.objects i d).kind setup ≡ true) e kept);
    }

number_apart : (os : List ObjectDef) (i j : ℕ) (d : ObjectDef) (r s : Range) (k l : ℕ) → i < length os → j < length os → i ≢ j
    → (get_or os i d).setup ≡ Setup.ThreadStack r k → (get_or os j d).setup ≡ Setup.ThreadStack s l → stacks_before os i ≢ stacks_before os j
number_apart os i j d r s k l inside within differ e f same =
    elim (cases_lt i j) as (λ _. ⊥) [
      | inl less ↦ let n = stack_less os i j d r k less within e in omega (arith, n, same)
      | inr more ↦
          elim (cases_lt j i) as (λ _. ⊥) [ inl less ↦ let n = stack_less os j i d s l less inside f in omega (arith, n, same) | inr again ↦ differ (omega (arith, more, again)) ]
    ]

stacks_apart : (image : Image) → IsLawful image → (i j : ℕ) (r s : Range) → IsStack image i r → IsStack image j s → stacks_before image.objects i ≢ stacks_before image.objects j → r.start.0 ≢ s.start.0
stacks_apart image lawful i j r s one two differ e =
    let ranges = stack_ranges image.objects in
    let n = stacks_before image.objects i in
    let m = stacks_before image.objects j in
    placed_apart image.mpu STACK_AREA ranges n m no_range lawful.stacks_placed one.nth.0 two.nth.0
    (subst (λ (range : Range). 0 < range.size) (sym (one.nth.1 no_range)) one.some) (subst (λ (range : Range). 0 < range.size) (sym (two.nth.1 no_range)) two.some) differ
    (ap (λ (range : Range). range.start.0) (one.nth.1 no_range) ∙ e ∙ sym (ap (λ (range : Range). range.start.0) (two.nth.1 no_range)))

place_of : (image : Image) → IsLawful image → (i : ℕ) (d : ObjectDef) → i < length image.objects → (get_or image.objects i d).addr.0 ≡ addr_given (get_or image.objects i d).setup i
place_of image lawful i d inside =
    let zeroth : 0 + i ≡ i = omega arith in stands_at image.objects 0 i d lawful.rows inside ∙ ap (addr_given (get_or image.objects i d).setup) zeroth

pub static_apart : (image : Image) → IsLawful image → (i j : ℕ) (d : ObjectDef) → i < length image.objects → j < length image.objects → i ≢ j → (get_or image.objects i d).addr.0 ≢ (get_or image.objects j d).addr.0
static_apart image lawful i j d inside within differ e =
    let p = place_of image lawful i d inside in
    let q = place_of image lawful j d within in
    elim (which_stands (get_or image.objects i d).setup i) as (λ _. ⊥) [
      | stack r k f g ↦
          let one = is_stack image lawful i d r k inside f in
          let low = one.low in
          elim (which_stands (get_or image.objects j d).setup j) as (λ _. ⊥) [
            | stack s l h m ↦
                stacks_apart image lawful i j r s one (is_stack image lawful j d s l within h) (number_apart image.objects i j d r s k l inside within differ f h) (sym g ∙ sym p ∙ e ∙ q ∙ m)
            | object m ↦ omega (arith, p, q, e, g, m, low)
          ]
      | object g ↦
          elim (which_stands (get_or image.objects j d).setup j) as (λ _. ⊥) [
            | stack s l h m ↦ let two = is_stack image lawful j d s l within h in let low = two.low in omega (arith, p, q, e, g, m, low)
            | object m ↦ differ (omega (arith, p, q, e, g, m))
          ]
    ]

pub static_low : (image : Image) → IsLawful image → length image.objects ≤ STATIC_ROWS → (i : ℕ) (d : ObjectDef) → i < length image.objects → (get_or image.objects i d).addr.0 < DYNAMIC_OBJECTS
static_low image lawful few i d inside =
    let p = place_of image lawful i d inside in
    elim (which_stands (get_or image.objects i d).setup i) as (λ _. (get_or image.objects i d).addr.0 < DYNAMIC_OBJECTS) [
      | stack r k f g ↦ let one = is_stack image lawful i d r k inside f in let low = one.low in omega (arith, p, g, low)
      | object g ↦ omega (arith, p, g, inside, few)
    ]
