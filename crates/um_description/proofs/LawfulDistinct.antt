-- Texts that are all new are distinct, and so are their numbers among names.
use Rattle.std.proofs.Common.{◌≡◌, ℕ, suc, ◌+◌, ◌<◌, Bool, true, false, not, ◌&&◌, ◌||◌, ◌==◌, nat_lt, List, [], ◌∷◌, ◌++◌, length, map, IsTrue, if◌then◌else◌, Option, Some, None, option_map, is_some, bytes_eq, refl, ap, sym, ◌∙◌, subst, arith}
use Rattle.std.specs.Prelude.{unwrap_or}
use Rattle.std.specs.List.{list_any, list_all}
use Rattle.std.proofs.lemmas.Bool.{false≢true, true≢false, ne_eqb, or_parts}
use Rattle.std.proofs.lemmas.Bool.Decides.{nat_tests}
use Rattle.um_base.specs.Lawful.{are_distinct, are_distinct_names}
use Rattle.um_document.specs.declared.description.BootEntry.{BootEntry}
use Rattle.um_document.specs.declared.description.DomainEntry.{DomainEntry}
use Rattle.um_document.specs.declared.description.FutexEntry.{FutexEntry}
use Rattle.um_document.specs.declared.description.PartitionEntry.{PartitionEntry}
use Rattle.um_document.specs.declared.description.VariableEntry.{VariableEntry}
use Rattle.um_document.specs.declared.place.Place.{Place}
use Rattle.um_document.specs.declared.shape.Key.{Key}
use Rattle.um_document.specs.declared.shape.Section.{Section}
use Rattle.um_description.specs.Duplicates.{if_again, names_again, variables_again, partition_again, partitions_again, parts_again, domain_again, domains_again, boot_again, boots_again, spot_text, futex_again, futexes_again, added}
use Rattle.um_description.specs.Names.{Text, is_among, items, named, variables_of, variable_names, names_within}
use Rattle.um_description.specs.Resolve.{number_named}
use Rattle.um_description.proofs.LawfulLists.{no_front, no_back, and_true, both_true, not_true, none_if, or_more, same_text, text_itself}

-- none of these names stands before
abbrev pub are_new : List Text → List Text → Bool
are_new before [] = true
are_new before (name ∷ names) = not (is_among name before) && are_new (name ∷ before) names

one_new : (before : List Text) (place : Place) (text : Text) → if_again before place text ≡ [] → IsTrue (not (is_among text before))
one_new before place text h = not_true (is_among text before) (none_if (is_among text before) place h)

pub new_names : (before : List Text) (s : Section) (i : ℕ) (names : List Text) → names_again before s i names ≡ [] → IsTrue (are_new before names)
new_names before s i [] h = refl
new_names before s i (name ∷ names) h =
    let front = if_again before (Place.Field s i Key.Name) name in
    let back = names_again (name ∷ before) s (i + 1) names in
    both_true (not (is_among name before)) (are_new (name ∷ before) names) (one_new before (Place.Field s i Key.Name) name (no_front front back h)) (new_names (name ∷ before) s (i + 1) names (no_back front back h))

pub new_parts : (before : List Text) (i j : ℕ) (texts : List Text) → parts_again before i j texts ≡ [] → IsTrue (are_new before texts)
new_parts before i j [] h = refl
new_parts before i j (text ∷ texts) h =
    let front = if_again before (Place.Item Section.Domain i Key.Partitions j) text in
    let back = parts_again (text ∷ before) i (j + 1) texts in
    both_true (not (is_among text before)) (are_new (text ∷ before) texts) (one_new before (Place.Item Section.Domain i Key.Partitions j) text (no_front front back h)) (new_parts (text ∷ before) i (j + 1) texts (no_back front back h))

abbrev pub domain_name : DomainEntry → Text
domain_name m = m.name

pub new_domains : (before : List Text) (i : ℕ) (ms : List DomainEntry) → domains_again before i ms ≡ [] → IsTrue (are_new before (map domain_name ms))
new_domains before i [] h = refl
new_domains before i (m ∷ ms) h =
    let own = if_again before (Place.Field Section.Domain i Key.Name) m.name in
    let back = domains_again (m.name ∷ before) (i + 1) ms in
    both_true (not (is_among m.name before)) (are_new (m.name ∷ before) (map domain_name ms))
    (one_new before (Place.Field Section.Domain i Key.Name) m.name (no_front own (parts_again [] i 0 (items m.partitions)) (no_front (domain_again before i m) back h)))
    (new_domains (m.name ∷ before) (i + 1) ms (no_back (domain_again before i m) back h))

abbrev pub boot_thread : BootEntry → Text
boot_thread b = b.thread

abbrev pub boot_stack : BootEntry → Text
boot_stack b = b.stack

-- the threads and the stacks of boot entries
pub new_boots : (threads stacks : List Text) (i : ℕ) (bs : List BootEntry) → boots_again threads stacks i bs ≡ []
    → IsTrue (are_new threads (map boot_thread bs)) × IsTrue (are_new stacks (map boot_stack bs))
new_boots threads stacks i [] h = (refl, refl)
new_boots threads stacks i (b ∷ bs) h =
    let at_thread = Place.Field Section.Boot i Key.Thread in
    let at_stack = Place.Field Section.Boot i Key.Stack in
    let thread = if_again threads at_thread b.thread in
    let stack = if_again stacks at_stack b.stack in
    let back = boots_again (b.thread ∷ threads) (b.stack ∷ stacks) (i + 1) bs in
    let own = no_front (boot_again threads stacks i b) back h in
    let rest = new_boots (b.thread ∷ threads) (b.stack ∷ stacks) (i + 1) bs (no_back (boot_again threads stacks i b) back h) in (
      both_true (not (is_among b.thread threads)) (are_new (b.thread ∷ threads) (map boot_thread bs)) (one_new threads at_thread b.thread (no_front thread stack own)) rest.0,
      both_true (not (is_among b.stack stacks)) (are_new (b.stack ∷ stacks) (map boot_stack bs)) (one_new stacks at_stack b.stack (no_back thread stack own)) rest.1,
    )

abbrev pub futex_name : FutexEntry → Text
futex_name f = f.name

-- the names of futexes, and where they lie
pub new_futexes : (names spots : List Text) (i : ℕ) (fs : List FutexEntry) → futexes_again names spots i fs ≡ []
    → IsTrue (are_new names (map futex_name fs)) × IsTrue (are_new spots (map spot_text fs))
new_futexes names spots i [] h = (refl, refl)
new_futexes names spots i (f ∷ fs) h =
    let at_name = Place.Field Section.Futex i Key.Name in
    let at_spot = Place.Field Section.Futex i Key.Offset in
    let name = if_again names at_name f.name in
    let spot = if_again spots at_spot (spot_text f) in
    let back = futexes_again (f.name ∷ names) (spot_text f ∷ spots) (i + 1) fs in
    let own = no_front (futex_again names spots i f) back h in
    let rest = new_futexes (f.name ∷ names) (spot_text f ∷ spots) (i + 1) fs (no_back (futex_again names spots i f) back h) in (
      both_true (not (is_among f.name names)) (are_new (f.name ∷ names) (map futex_name fs)) (one_new names at_name f.name (no_front name spot own)) rest.0,
      both_true (not (is_among (spot_text f) spots)) (are_new (spot_text f ∷ spots) (map spot_text fs)) (one_new spots at_spot (spot_text f) (no_back name spot own)) rest.1,
    )

-- names behind others
pub new_append : (before xs ys : List Text) → IsTrue (are_new before xs) → IsTrue (are_new (added before xs) ys) → IsTrue (are_new before (xs ++ ys))
new_append before [] ys h k = k
new_append before (x ∷ xs) ys h k =
    let both = and_true (not (is_among x before)) (are_new (x ∷ before) xs) h in
    both_true (not (is_among x before)) (are_new (x ∷ before) (xs ++ ys)) both.0 (new_append (x ∷ before) xs ys both.1 k)

pub added_append : (before xs ys : List Text) → added before (xs ++ ys) ≡ added (added before xs) ys
added_append before [] ys = refl
added_append before (x ∷ xs) ys = added_append (x ∷ before) xs ys

-- ---- the names of partitions among those of their variables

-- each text of the first list stands in the second
abbrev pub IsIncluded : List Text → List Text → Type 0
IsIncluded a b = (q : Text) → IsTrue (is_among q a) → IsTrue (is_among q b)

more_by : (here there other : Bool) → (IsTrue there → IsTrue other) → IsTrue (here || there) → IsTrue (here || other)
more_by true there other h k = refl
more_by false there other h k = h k

included_more : (a b : List Text) (text : Text) → IsIncluded a b → IsIncluded (text ∷ a) (text ∷ b)
included_more a b text h q = more_by (bytes_eq q text) (is_among q a) (is_among q b) (h q)

or_later : (here there : Bool) → IsTrue there → IsTrue (here || there)
or_later true there h = refl
or_later false there h = h

included_added : (b names : List Text) → IsIncluded b (added b names)
included_added b [] q h = h
included_added b (name ∷ names) q h = included_added (name ∷ b) names q (or_later (bytes_eq q name) (is_among q b) h)

pub added_included : (a b names : List Text) → IsIncluded a b → IsIncluded (added a names) (added b names)
added_included a b [] h = h
added_included a b (name ∷ names) h = added_included (name ∷ a) (name ∷ b) names (included_more a b name h)

still_not : (a b : Bool) → (IsTrue a → IsTrue b) → IsTrue (not b) → IsTrue (not a)
still_not true b h k = absurd (both_ways b (h refl) k)
  where
    both_ways : (c : Bool) → IsTrue c → IsTrue (not c) → ⊥
    both_ways true x y = false≢true y
    both_ways false x y = false≢true x
still_not false b h k = refl

-- what is new beside more texts is new beside fewer
pub new_beside_fewer : (a b xs : List Text) → IsIncluded a b → IsTrue (are_new b xs) → IsTrue (are_new a xs)
new_beside_fewer a b [] h k = refl
new_beside_fewer a b (x ∷ xs) h k =
    let both = and_true (not (is_among x b)) (are_new (x ∷ b) xs) k in
    both_true (not (is_among x a)) (are_new (x ∷ a) xs) (still_not (is_among x a) (is_among x b) (h x) both.0) (new_beside_fewer (x ∷ a) (x ∷ b) xs (included_more a b x h) both.1)

new_behind : (b xs ys : List Text) → IsTrue (are_new b (xs ++ ys)) → IsTrue (are_new b ys)
new_behind b [] ys h = h
new_behind b (x ∷ xs) ys h =
    let both = and_true (not (is_among x b)) (are_new (x ∷ b) (xs ++ ys)) h in
    new_beside_fewer b (x ∷ b) ys (λ q. or_later (bytes_eq q x) (is_among q b)) (new_behind (x ∷ b) xs ys both.1)

abbrev pub partition_name : PartitionEntry → Text
partition_name p = p.name

-- the names of partitions alone
pub new_without_variables : (b : List Text) (ps : List PartitionEntry) → IsTrue (are_new b (names_within ps)) → IsTrue (are_new b (map partition_name ps))
new_without_variables b [] h = refl
new_without_variables b (p ∷ ps) h =
    let both = and_true (not (is_among p.name b)) (are_new (p.name ∷ b) (variable_names p ++ names_within ps)) h in
    both_true (not (is_among p.name b)) (are_new (p.name ∷ b) (map partition_name ps)) both.0
    (new_without_variables (p.name ∷ b) ps (new_behind (p.name ∷ b) (variable_names p) (names_within ps) both.1))

pub included_within : (a b : List Text) (ps : List PartitionEntry) → IsIncluded a b → IsIncluded (added a (map partition_name ps)) (added b (names_within ps))
included_within a b [] h = h
included_within a b (p ∷ ps) h =
    let next = added (p.name ∷ b) (variable_names p) in
    let grown : IsIncluded (p.name ∷ a) next = λ q k. included_added (p.name ∷ b) (variable_names p) q (included_more a b p.name h q k) in
    subst (λ (c : List Text). IsIncluded (added (p.name ∷ a) (map partition_name ps)) c) (sym (added_append (p.name ∷ b) (variable_names p) (names_within ps)))
    (included_within (p.name ∷ a) next ps grown)

new_variables : (before : List Text) (i j : ℕ) (vs : List VariableEntry) → variables_again before i j vs ≡ [] → IsTrue (are_new before (map (λ (v : VariableEntry). v.name) vs))
new_variables before i j [] h = refl
new_variables before i j (v ∷ vs) h =
    let front = if_again before (Place.Variable i j Key.Name) v.name in
    let back = variables_again (v.name ∷ before) i (j + 1) vs in
    both_true (not (is_among v.name before)) (are_new (v.name ∷ before) (map (λ (v : VariableEntry). v.name) vs))
    (one_new before (Place.Variable i j Key.Name) v.name (no_front front back h)) (new_variables (v.name ∷ before) i (j + 1) vs (no_back front back h))

pub new_partitions : (before : List Text) (i : ℕ) (ps : List PartitionEntry) → partitions_again before i ps ≡ [] → IsTrue (are_new before (names_within ps))
new_partitions before i [] h = refl
new_partitions before i (p ∷ ps) h =
    let next = added (p.name ∷ before) (variable_names p) in
    let back = partitions_again next (i + 1) ps in
    let one = if_again before (Place.Field Section.Partition i Key.Name) p.name in
    let vars = variables_again (p.name ∷ before) i 0 (variables_of p.contents) in
    let own : partition_again before i p ≡ [] = no_front (partition_again before i p) back h in
    both_true (not (is_among p.name before)) (are_new (p.name ∷ before) (variable_names p ++ names_within ps))
    (one_new before (Place.Field Section.Partition i Key.Name) p.name (no_front one vars own))
    (new_append (p.name ∷ before) (variable_names p) (names_within ps) (new_variables (p.name ∷ before) i 0 (variables_of p.contents) (no_back one vars own))
    (new_partitions next (i + 1) ps (no_back (partition_again before i p) back h)))

-- ---- new texts are distinct

pub not_false : (a : Bool) → IsTrue (not a) → a ≡ false
not_false true h = absurd (false≢true h)
not_false false h = refl

absent : (b x : Text) (before : List Text) → IsTrue (is_among b before) → is_among x before ≡ false → bytes_eq b x ≡ false
absent b x before there gone = absent_by b x before (bytes_eq b x) refl there gone
  where
    absent_by : (b x : Text) (before : List Text) (same : Bool) → bytes_eq b x ≡ same → IsTrue (is_among b before) → is_among x before ≡ false → same ≡ false
    absent_by b x before false is there gone = refl
    absent_by b x before true is there gone = absurd (true≢false (sym (subst (λ (t : Text). IsTrue (is_among t before)) (same_text b x is) there) ∙ gone))

pub not_later : (before names : List Text) → IsTrue (are_new before names) → (b : Text) → IsTrue (is_among b before) → is_among b names ≡ false
not_later before [] h b there = refl
not_later before (name ∷ names) h b there =
    let both = and_true (not (is_among name before)) (are_new (name ∷ before) names) h in
    let first = absent b name before there (not_false (is_among name before) both.0) in
    let rest = not_later (name ∷ before) names both.1 b (or_more (bytes_eq b name) (is_among b before) there) in
    rw (first, rest) refl

pub distinct_names : (before names : List Text) → IsTrue (are_new before names) → IsTrue (are_distinct_names names)
distinct_names before [] h = refl
distinct_names before (name ∷ names) h =
    let both = and_true (not (is_among name before)) (are_new (name ∷ before) names) h in
    let itself : IsTrue (is_among name (name ∷ before)) = rw (text_itself name) refl in
    both_true (not (is_among name names)) (are_distinct_names names) (not_true (is_among name names) (not_later (name ∷ before) names both.1 name itself)) (distinct_names (name ∷ before) names both.1)

-- ---- numbers among names

abbrev pub is_known : List Text → Text → Bool
is_known names text = is_some (named names text)

below_by : (here : Bool) (o : Option ℕ) (n : ℕ) → IsTrue (is_some (if here then Some 0 else option_map (λ i. i + 1) o)) → (IsTrue (is_some o) → unwrap_or o 0 < n)
    → unwrap_or (if here then Some 0 else option_map (λ i. i + 1) o) 0 < suc n
below_by true o n known later = omega arith
below_by false None n known later = absurd (false≢true known)
below_by false (Some i) n known later = omega (arith, later refl)

pub number_below : (names : List Text) (text : Text) → IsTrue (is_known names text) → number_named names text < length names
number_below [] text known = absurd (false≢true known)
number_below (name ∷ names) text known = below_by (bytes_eq text name) (named names text) (length names) known (number_below names text)

same_by : (a b name : Text) (p q : Bool) (s t : Option ℕ) → bytes_eq a name ≡ p → bytes_eq b name ≡ q
    → IsTrue (is_some (if p then Some 0 else option_map (λ i. i + 1) s)) → IsTrue (is_some (if q then Some 0 else option_map (λ i. i + 1) t))
    → unwrap_or (if p then Some 0 else option_map (λ i. i + 1) s) 0 ≡ unwrap_or (if q then Some 0 else option_map (λ i. i + 1) t) 0
    → (IsTrue (is_some s) → IsTrue (is_some t) → unwrap_or s 0 ≡ unwrap_or t 0 → a ≡ b) → a ≡ b
same_by a b name true true s t is_a is_b known_a known_b same later = same_text a name is_a ∙ sym (same_text b name is_b)
same_by a b name true false s None is_a is_b known_a known_b same later = absurd (false≢true known_b)
same_by a b name true false s (Some j) is_a is_b known_a known_b same later = absurd (omega (arith, same))
same_by a b name false true None t is_a is_b known_a known_b same later = absurd (false≢true known_a)
same_by a b name false true (Some i) t is_a is_b known_a known_b same later = absurd (omega (arith, same))
same_by a b name false false None t is_a is_b known_a known_b same later = absurd (false≢true known_a)
same_by a b name false false (Some i) None is_a is_b known_a known_b same later = absurd (false≢true known_b)
same_by a b name false false (Some i) (Some j) is_a is_b known_a known_b same later = later refl refl (omega (arith, same))

pub same_number : (names : List Text) (a b : Text) → IsTrue (is_known names a) → IsTrue (is_known names b) → number_named names a ≡ number_named names b → a ≡ b
same_number [] a b known_a known_b same = absurd (false≢true known_a)
same_number (name ∷ names) a b known_a known_b same =
    same_by a b name (bytes_eq a name) (bytes_eq b name) (named names a) (named names b) refl refl known_a known_b same (same_number names a b)

other_number : (names : List Text) (a b : Text) → IsTrue (is_known names a) → IsTrue (is_known names b) → bytes_eq a b ≡ false → (number_named names a == number_named names b) ≡ false
other_number names a b known_a known_b other =
    ne_eqb (number_named names a) (number_named names b) (λ same. true≢false (sym (text_itself a) ∙ ap (bytes_eq a) (same_number names a b known_a known_b same) ∙ other))

no_number : (names : List Text) (a : Text) (texts : List Text) → IsTrue (is_known names a) → IsTrue (list_all (is_known names) texts) → is_among a texts ≡ false
    → list_any (λ y. number_named names a == y) (map (number_named names) texts) ≡ false
no_number names a [] known all gone = refl
no_number names a (text ∷ texts) known all gone =
    let both = and_true (is_known names text) (list_all (is_known names) texts) all in
    let parts = or_parts (bytes_eq a text) (is_among a texts) gone in
    rw (other_number names a text known both.0 parts.0, no_number names a texts known both.1 parts.1) refl

pub distinct_numbers : (names texts : List Text) → IsTrue (list_all (is_known names) texts) → IsTrue (are_distinct_names texts) → IsTrue (are_distinct (map (number_named names) texts))
distinct_numbers names [] all h = refl
distinct_numbers names (text ∷ texts) all h =
    let known = and_true (is_known names text) (list_all (is_known names) texts) all in
    let both = and_true (not (is_among text texts)) (are_distinct_names texts) h in
    both_true (not (list_any (λ y. number_named names text == y) (map (number_named names) texts))) (are_distinct (map (number_named names) texts))
    (not_true (list_any (λ y. number_named names text == y) (map (number_named names) texts)) (no_number names text texts known.0 known.1 (not_false (is_among text texts) both.0)))
    (distinct_numbers names texts known.1 both.1)

pub numbers_below : (names texts : List Text) (n : ℕ) → length names ≡ n → IsTrue (list_all (is_known names) texts) → IsTrue (list_all (λ i. nat_lt i n) (map (number_named names) texts))
numbers_below names [] n few all = refl
numbers_below names (text ∷ texts) n few all =
    let known = and_true (is_known names text) (list_all (is_known names) texts) all in
    let below = number_below names text known.0 in
    let first : IsTrue (nat_lt (number_named names text) n) = grind (arith, nat_tests, few, below) in
    both_true (nat_lt (number_named names text) n) (list_all (λ i. nat_lt i n) (map (number_named names) texts)) first (numbers_below names texts n few known.1)
