-- The names of what is printed are distinct, and those of variables well-formed; so nothing printed stands twice.
use Rattle.std.proofs.Common.{◌≡◌, ℕ, zero, suc, ◌+◌, ◌^◌, ◌<◌, ◌≤◌, Bool, true, false, if◌then◌else◌, not, nat_le, nat_lt, List, [], ◌∷◌, ◌++◌, map, take, filter, length, decimal, IsTrue, refl, ◌∙◌, subst, arith, append_assoc}
use Rattle.std.proofs.lemmas.Bool.{and_parts, not-true}
use Rattle.std.proofs.lemmas.Bool.Decides.{nat_tests}
use Rattle.std.proofs.lemmas.Fmt.{length-decimal-le}
use Rattle.std.specs.List.{list_all, range_with_len}
use Rattle.um_base.specs.Lawful.{is_name, is_name_byte, are_distinct_names}
use Rattle.um_base.specs.declared.names.Mpu.{Mpu}
use Rattle.um_document.specs.declared.description.Description.{Description}
use Rattle.um_document.specs.declared.description.DomainEntry.{DomainEntry}
use Rattle.um_document.specs.declared.description.PartitionEntry.{PartitionEntry}
use Rattle.um_document.specs.declared.description.VariableEntry.{VariableEntry}
use Rattle.um_document.specs.declared.place.Place.{Place}
use Rattle.um_document.specs.declared.shape.Key.{Key}
use Rattle.um_document.specs.declared.shape.Section.{Section}
use Rattle.um_document.proofs.EmptyLists.{no_front, no_back}
use Rattle.um_script.specs.Numbers.{is_digit}
use Rattle.um_script.proofs.DigitsAgain.{list_all-weaker, decimal-spells}
use Rattle.um_description.specs.Duplicates.{if_again, names_again, variables_again, partitions_again, parts_again, domain_again, domains_again, added}
use Rattle.um_description.specs.Names.{Text, is_among, items, variables_of, variable_names, names_within, pool_names, partition_names, domain_names, object_names, script_names, futex_names}
use Rattle.um_description.proofs.LawfulDistinct.{are_new}
use Rattle.um_description.proofs.LawfulLists.{length_mapped}
use Rattle.um_description.proofs.LawfulNames.{all_names, HasNoDuplicates, names_distinct}
use Rattle.um_canonical.specs.Fresh.{variable_name, is_taken, free_numbers, fresh_names}
use Rattle.um_canonical.proofs.EnoughNames.{enough}
use Rattle.um_canonical.proofs.FreshNames.{woven, AreFree, woven_distinct, distinct_new}
use Rattle.um_canonical.proofs.RoundedPartitions.{entries_by}

-- ---- as many fresh names as are wanted, each well-formed

length_taken : {A : Type 0} (n : ℕ) (xs : List A) → n ≤ length xs → length (take n xs) ≡ n
length_taken zero xs h = refl
length_taken (suc n) [] h = absurd (omega (arith, h))
length_taken (suc n) (x ∷ xs) h = omega (arith, length_taken n xs (omega (arith, h)))

pub as_many : (taken : List Text) (count : ℕ) → count + length taken < 2 ^ 64 → length (fresh_names taken count) ≡ count
as_many taken count small =
    length_mapped variable_name (free_numbers taken count)
    ∙ length_taken count (filter (λ n. not (is_taken taken n)) (range_with_len 0 (count + length taken))) (enough taken count small)

digit_names : (b : ℕ) → IsTrue (is_digit false b) → IsTrue (is_name_byte b)
digit_names b h = grind (arith, nat_tests)

variable_lawful : (n : ℕ) → n < 1000 → is_name (variable_name n) ≡ true
variable_lawful n lt =
    let bytes = list_all-weaker (is_digit false) is_name_byte digit_names (decimal n) (decimal-spells n (omega (arith, lt))).digits_all in
    let long = length-decimal-le 3 n (omega arith) (omega (arith, lt)) (omega (arith, lt)) in
    let short : nat_le (length (variable_name n)) 24 ≡ true = grind (arith, nat_tests, long) in
    rw (short, bytes) refl

abbrev is_small : ℕ → Bool
is_small n = nat_lt n 1000

range_small : (m a : ℕ) → a + m < 1000 → list_all is_small (range_with_len a m) ≡ true
range_small zero a h = refl
range_small (suc m) a h =
    let here : nat_lt a 1000 ≡ true = grind (arith, nat_tests, h) in
    rw (here, range_small m (a + 1) (omega (arith, h))) refl

filter_by : (b : Bool) (n : ℕ) (ns : List ℕ) → is_small n ≡ true → list_all is_small ns ≡ true → list_all is_small (if b then n ∷ ns else ns) ≡ true
filter_by true n ns h k = rw (h, k) refl
filter_by false n ns h k = k

filter_small : (q : ℕ → Bool) (ns : List ℕ) → list_all is_small ns ≡ true → list_all is_small (filter q ns) ≡ true
filter_small q [] h = refl
filter_small q (n ∷ ns) h =
    let both = and_parts (is_small n) (list_all is_small ns) h in filter_by (q n) n (filter q ns) both.0 (filter_small q ns both.1)

take_small : (k : ℕ) (ns : List ℕ) → list_all is_small ns ≡ true → list_all is_small (take k ns) ≡ true
take_small zero ns h = refl
take_small (suc k) [] h = refl
take_small (suc k) (n ∷ ns) h =
    let both = and_parts (is_small n) (list_all is_small ns) h in rw (both.0, take_small k ns both.1) refl

named_well : (ns : List ℕ) → list_all is_small ns ≡ true → list_all is_name (map variable_name ns) ≡ true
named_well [] h = refl
named_well (n ∷ ns) h =
    let both = and_parts (is_small n) (list_all is_small ns) h in
    let lt : n < 1000 = grind (arith, nat_tests, both.0) in
    rw (variable_lawful n lt, named_well ns both.1) refl

pub fresh_lawful : (taken : List Text) (count : ℕ) → count + length taken < 1000 → list_all is_name (fresh_names taken count) ≡ true
fresh_lawful taken count small =
    named_well (free_numbers taken count)
    (take_small count (filter (λ n. not (is_taken taken n)) (range_with_len 0 (count + length taken)))
    (filter_small (λ n. not (is_taken taken n)) (range_with_len 0 (count + length taken)) (range_small (count + length taken) 0 (omega (arith, small)))))

-- ---- names that are new stand in no place

pub none_again : (before : List Text) (place : Place) (text : Text) → not (is_among text before) ≡ true → if_again before place text ≡ []
none_again before place text h = let no = not-true (is_among text before) h in rw no refl

pub no_names_again : (before : List Text) (s : Section) (i : ℕ) (names : List Text) → are_new before names ≡ true → names_again before s i names ≡ []
no_names_again before s i [] h = refl
no_names_again before s i (name ∷ names) h =
    let both = and_parts (not (is_among name before)) (are_new (name ∷ before) names) h in
    rw (none_again before (Place.Field s i Key.Name) name both.0, no_names_again (name ∷ before) s (i + 1) names both.1) refl

abbrev variable_text : VariableEntry → Text
variable_text v = v.name

no_variables_again : (before : List Text) (i j : ℕ) (vs : List VariableEntry) → are_new before (map variable_text vs) ≡ true → variables_again before i j vs ≡ []
no_variables_again before i j [] h = refl
no_variables_again before i j (v ∷ vs) h =
    let both = and_parts (not (is_among v.name before)) (are_new (v.name ∷ before) (map variable_text vs)) h in
    rw (none_again before (Place.Variable i j Key.Name) v.name both.0, no_variables_again (v.name ∷ before) i (j + 1) vs both.1) refl

-- new names are new in two steps
pub new_split : (before xs ys : List Text) → are_new before (xs ++ ys) ≡ true → (are_new before xs ≡ true) × (are_new (added before xs) ys ≡ true)
new_split before [] ys h = (refl, h)
new_split before (x ∷ xs) ys h =
    let both = and_parts (not (is_among x before)) (are_new (x ∷ before) (xs ++ ys)) h in
    let more = new_split (x ∷ before) xs ys both.1 in
    (rw (both.0, more.0) refl, more.1)

pub no_partitions_again : (before : List Text) (i : ℕ) (ps : List PartitionEntry) → are_new before (names_within ps) ≡ true → partitions_again before i ps ≡ []
no_partitions_again before i [] h = refl
no_partitions_again before i (p ∷ ps) h =
    let both = and_parts (not (is_among p.name before)) (are_new (p.name ∷ before) (variable_names p ++ names_within ps)) h in
    let inner = new_split (p.name ∷ before) (variable_names p) (names_within ps) both.1 in
    rw (
      none_again before (Place.Field Section.Partition i Key.Name) p.name both.0,
      no_variables_again (p.name ∷ before) i 0 (variables_of p.contents) inner.0,
      no_partitions_again (added (p.name ∷ before) (variable_names p)) (i + 1) ps inner.1,
    ) refl

abbrev domain_text : DomainEntry → Text
domain_text m = m.name

-- the domains' own lists don't depend on what stood before
pub no_domains_again : (before other : List Text) (i : ℕ) (ms : List DomainEntry) → are_new before (map domain_text ms) ≡ true → domains_again other i ms ≡ [] → domains_again before i ms ≡ []
no_domains_again before other i [] h k = refl
no_domains_again before other i (m ∷ ms) h k =
    let both = and_parts (not (is_among m.name before)) (are_new (m.name ∷ before) (map domain_text ms)) h in
    let back = domains_again (m.name ∷ other) (i + 1) ms in
    let own = no_back (if_again other (Place.Field Section.Domain i Key.Name) m.name) (parts_again [] i 0 (items m.partitions)) (no_front (domain_again other i m) back k) in
    rw (
      none_again before (Place.Field Section.Domain i Key.Name) m.name both.0,
      own,
      no_domains_again (m.name ∷ before) (m.name ∷ other) (i + 1) ms both.1 (no_back (domain_again other i m) back k),
    ) refl

-- ---- the names of what is printed

abbrev partition_text : PartitionEntry → Text
partition_text p = p.name

pub within_woven : (mpu : Mpu) (variables : List Text) (ps : List PartitionEntry) → length variables ≡ length ps → names_within (entries_by mpu variables ps) ≡ woven (map partition_text ps) variables
within_woven mpu [] [] h = refl
within_woven mpu (v ∷ vs) [] h = absurd (omega (arith, h))
within_woven mpu [] (p ∷ ps) h = absurd (omega (arith, h))
within_woven mpu (v ∷ vs) (p ∷ ps) h = rw (within_woven mpu vs ps (omega (arith, h))) refl

-- all names of a description, in another nesting
nested : (a b c e f g : List Text) → a ++ b ++ c ++ e ++ f ++ g ≡ a ++ (b ++ (c ++ (e ++ (f ++ g))))
nested a b c e f g = simp append_assoc refl

free_of_none : (names : List Text) → AreFree names []
free_of_none [] = tt
free_of_none (n ∷ names) = (refl, free_of_none names)

-- the names that are printed are all new, one behind the other
pub all_new : (d : Description) (variables : List Text) → HasNoDuplicates d → AreFree variables (all_names d) → are_distinct_names variables ≡ true
    → are_new [] (pool_names d ++ (woven (partition_names d) variables ++ (domain_names d ++ (object_names d ++ (script_names d ++ futex_names d))))) ≡ true
all_new d variables h free apart =
    let rest = domain_names d ++ (object_names d ++ (script_names d ++ futex_names d)) in
    let same = nested (pool_names d) (partition_names d) (domain_names d) (object_names d) (script_names d) (futex_names d) in
    let distinct : are_distinct_names (pool_names d ++ (partition_names d ++ rest)) ≡ true = subst (λ (xs : List Text). are_distinct_names xs ≡ true) same (names_distinct d h) in
    let free_too : AreFree variables (pool_names d ++ (partition_names d ++ rest)) = subst (λ (xs : List Text). AreFree variables xs) same free in
    let woven_too = woven_distinct (pool_names d) (partition_names d) variables rest distinct free_too apart in
    distinct_new [] (pool_names d ++ (woven (partition_names d) variables ++ rest)) (free_of_none (pool_names d ++ (woven (partition_names d) variables ++ rest))) woven_too
