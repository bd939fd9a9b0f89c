-- Names of variables that stand behind the partitions' names leave all names distinct.
use Rattle.std.proofs.Common.{◌≡◌, ℕ, zero, suc, ◌+◌, ◌^◌, ◌<◌, Bool, true, false, not, List, [], ◌∷◌, ◌++◌, map, take, filter, length, decimal, bytes_eq, refl, sym, ◌∙◌, subst, arith, append_assoc, inl, inr}
use Rattle.std.proofs.lemmas.Bool.{and_parts, or_parts, cases_Bool, false≢true, not-true}
use Rattle.std.proofs.lemmas.Fmt.{decimal_injective}
use Rattle.std.proofs.lemmas.Slice.Eq.{bytes_eq-Decides}
use Rattle.std.specs.List.{range_with_len}
use Rattle.um_base.specs.Lawful.{are_distinct_names}
use Rattle.um_description.specs.Names.{Text, is_among}
use Rattle.um_description.proofs.LawfulDistinct.{are_new}
use Rattle.um_canonical.specs.Fresh.{variable_name, is_taken, fresh_names}

-- each name, and the variable behind it
abbrev pub woven : List Text → List Text → List Text
woven [] vs = []
woven (n ∷ ns) [] = n ∷ woven ns []
woven (n ∷ ns) (v ∷ vs) = n ∷ v ∷ woven ns vs

apart_twice : (a b : Text) → bytes_eq a b ≡ false → bytes_eq b a ≡ false
apart_twice a b other =
    elim (cases_Bool (bytes_eq b a)) [
      | inl same ↦
          let is : b ≡ a = (bytes_eq-Decides b a).0 same in
          absurd (false≢true (sym other ∙ (bytes_eq-Decides a b).1 (sym is)))
      | inr apart ↦ apart
    ]

among_parts : (t : Text) (xs ys : List Text) → is_among t (xs ++ ys) ≡ false → (is_among t xs ≡ false) × (is_among t ys ≡ false)
among_parts t [] ys h = (refl, h)
among_parts t (x ∷ xs) ys h =
    let parts = or_parts (bytes_eq t x) (is_among t (xs ++ ys)) h in
    let more = among_parts t xs ys parts.1 in
    (rw (parts.0, more.0) refl, more.1)

among_both : (t : Text) (xs ys : List Text) → is_among t xs ≡ false → is_among t ys ≡ false → is_among t (xs ++ ys) ≡ false
among_both t [] ys h k = k
among_both t (x ∷ xs) ys h k =
    let parts = or_parts (bytes_eq t x) (is_among t xs) h in
    rw (parts.0, among_both t xs ys parts.1 k) refl

-- one more name between others
insert_one : (xs ys : List Text) (v : Text) → are_distinct_names (xs ++ ys) ≡ true → is_among v (xs ++ ys) ≡ false → are_distinct_names (xs ++ v ∷ ys) ≡ true
insert_one [] ys v h k = rw (k, h) refl
insert_one (x ∷ xs) ys v h k =
    let own = and_parts (not (is_among x (xs ++ ys))) (are_distinct_names (xs ++ ys)) h in
    let other = or_parts (bytes_eq v x) (is_among v (xs ++ ys)) k in
    let around = among_parts x xs ys (not-true _ own.0) in
    let behind : is_among x (v ∷ ys) ≡ false = rw (apart_twice v x other.0, around.1) refl in
    rw (among_both x xs (v ∷ ys) around.0 behind, insert_one xs ys v own.1 other.1) refl

abbrev pub AreFree : List Text → List Text → Type 0
AreFree [] names = Unit {0}
AreFree (v ∷ vs) names = (is_among v names ≡ false) × AreFree vs names

-- others stay free when one of them is put in
still_free : (vs xs ys : List Text) (v : Text) → is_among v vs ≡ false → AreFree vs (xs ++ ys) → AreFree vs (xs ++ v ∷ ys)
still_free [] xs ys v h k = tt
still_free (w ∷ vs) xs ys v h k =
    let parts = or_parts (bytes_eq v w) (is_among v vs) h in
    let around = among_parts w xs ys k.0 in
    let behind : is_among w (v ∷ ys) ≡ false = rw (apart_twice v w parts.0, around.1) refl in
    (among_both w xs (v ∷ ys) around.0 behind, still_free vs xs ys v parts.1 k.1)

moved : (xs : List Text) (n : Text) (ys : List Text) → (xs ++ n ∷ []) ++ ys ≡ xs ++ n ∷ ys
moved xs n ys = append_assoc xs (n ∷ []) ys

pub woven_distinct : (before ns vs rest : List Text) → are_distinct_names (before ++ (ns ++ rest)) ≡ true → AreFree vs (before ++ (ns ++ rest)) → are_distinct_names vs ≡ true
    → are_distinct_names (before ++ (woven ns vs ++ rest)) ≡ true
woven_distinct before [] vs rest h free apart = h
woven_distinct before (n ∷ ns) [] rest h free apart =
    let step = woven_distinct (before ++ n ∷ []) ns [] rest (rw (moved before n (ns ++ rest)) h) tt refl in
    subst (λ (xs : List Text). are_distinct_names xs ≡ true) (moved before n (woven ns [] ++ rest)) step
woven_distinct before (n ∷ ns) (v ∷ vs) rest h free apart =
    let own = and_parts (not (is_among v vs)) (are_distinct_names vs) apart in
    let head = before ++ n ∷ [] in
    let same = moved before n (ns ++ rest) in
    let inner : are_distinct_names (head ++ (ns ++ rest)) ≡ true = rw same h in
    let gone : is_among v (head ++ (ns ++ rest)) ≡ false = rw same free.0 in
    let others : AreFree vs (head ++ (ns ++ rest)) = subst (λ (xs : List Text). AreFree vs xs) (sym same) free.1 in
    let with_one = insert_one head (ns ++ rest) v inner gone in
    let with_rest = still_free vs head (ns ++ rest) v (not-true _ own.0) others in
    let next = moved head v (ns ++ rest) in
    let step = woven_distinct (head ++ v ∷ []) ns vs rest (rw next with_one) (subst (λ (xs : List Text). AreFree vs xs) (sym next) with_rest) own.1 in
    subst (λ (xs : List Text). are_distinct_names xs ≡ true) (moved head v (woven ns vs ++ rest) ∙ moved before n (v ∷ (woven ns vs ++ rest))) step

-- distinct names that none before has are new
pub distinct_new : (before names : List Text) → AreFree names before → are_distinct_names names ≡ true → are_new before names ≡ true
distinct_new before [] free h = refl
distinct_new before (n ∷ names) free h =
    let own = and_parts (not (is_among n names)) (are_distinct_names names) h in
    rw (free.0, distinct_new (n ∷ before) names (still_free names [] before n (not-true _ own.0) free.1) own.1) refl

-- ---- the names of variables are free, and distinct

abbrev is_free : List Text → ℕ → Bool
is_free taken n = not (is_taken taken n)

free_none : (taken : List Text) (count : ℕ) → AreFree (map variable_name (take count [])) taken
free_none taken zero = tt
free_none taken (suc count) = tt

taken_by : (taken : List Text) (count n : ℕ) (ns : List ℕ) (b : Bool) → is_taken taken n ≡ b → ((c : ℕ) → AreFree (map variable_name (take c (filter (is_free taken) ns))) taken)
    → AreFree (map variable_name (take count (filter (is_free taken) (n ∷ ns)))) taken
taken_by taken count n ns true is more = rw is (more count)
taken_by taken zero n ns false is more = tt
taken_by taken (suc count) n ns false is more = rw is (is, more count)

taken_free : (taken : List Text) (count : ℕ) (ns : List ℕ) → AreFree (map variable_name (take count (filter (is_free taken) ns))) taken
taken_free taken count [] = free_none taken count
taken_free taken count (n ∷ ns) = taken_by taken count n ns (is_taken taken n) refl (λ c. taken_free taken c ns)

names_apart : (a b : ℕ) → a < 2 ^ 64 → b < 2 ^ 64 → a < b → bytes_eq (variable_name a) (variable_name b) ≡ false
names_apart a b small also lt =
    elim (cases_Bool (bytes_eq (variable_name a) (variable_name b))) [
      | inl same ↦
          let is : variable_name a ≡ variable_name b = (bytes_eq-Decides (variable_name a) (variable_name b)).0 same in
          let digits : decimal a ≡ decimal b = cc in
          let equal = decimal_injective a b small also digits in
          absurd (omega (arith, equal, lt))
      | inr apart ↦ apart
    ]

below_none : (taken : List Text) (ns : List ℕ) (a : ℕ) → is_among (variable_name a) (map variable_name (take 0 ns)) ≡ false
below_none taken [] a = refl
below_none taken (n ∷ ns) a = refl

none_apart : (ns : List ℕ) → are_distinct_names (map variable_name (take 0 ns)) ≡ true
none_apart [] = refl
none_apart (n ∷ ns) = refl

-- a number below all of these isn't among them
none_below : (taken : List Text) (b count m a : ℕ) → a < b → b + m < 2 ^ 64 → is_among (variable_name a) (map variable_name (take count (filter (is_free taken) (range_with_len b m)))) ≡ false
none_below taken b zero m a lt small = below_none taken (filter (is_free taken) (range_with_len b m)) a
none_below taken b (suc count) zero a lt small = refl
none_below taken b (suc count) (suc m) a lt small =
    elim (cases_Bool (is_taken taken b)) [
      | inl used ↦ rw used (none_below taken (b + 1) (suc count) m a (omega arith) (omega arith))
      | inr free ↦
          let other = names_apart a b (omega arith) (omega arith) lt in
          rw (free, other) (none_below taken (b + 1) count m a (omega arith) (omega arith))
    ]

numbers_apart : (taken : List Text) (b count m : ℕ) → b + m < 2 ^ 64 → are_distinct_names (map variable_name (take count (filter (is_free taken) (range_with_len b m)))) ≡ true
numbers_apart taken b zero m small = none_apart (filter (is_free taken) (range_with_len b m))
numbers_apart taken b (suc count) zero small = refl
numbers_apart taken b (suc count) (suc m) small =
    elim (cases_Bool (is_taken taken b)) [
      | inl used ↦ rw used (numbers_apart taken (b + 1) (suc count) m (omega arith))
      | inr free ↦
          let gone = none_below taken (b + 1) count m b (omega arith) (omega arith) in
          rw (free, gone) (numbers_apart taken (b + 1) count m (omega arith))
    ]

pub variables_free : (taken : List Text) (count : ℕ) → AreFree (fresh_names taken count) taken
variables_free taken count = taken_free taken count (range_with_len 0 (count + length taken))

pub variables_distinct : (taken : List Text) (count : ℕ) → count + length taken < 2 ^ 64 → are_distinct_names (fresh_names taken count) ≡ true
variables_distinct taken count small = numbers_apart taken 0 count (count + length taken) (omega (arith, small))
