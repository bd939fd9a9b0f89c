-- Domains: their partitions are known, distinct and few.
use Rattle.std.proofs.Common.{◌≡◌, ℕ, ◌+◌, ◌≤◌, ◌&&◌, nat_lt, nat_le, List, [], ◌∷◌, length, map, IsTrue, Option, Some, None, option_map, is_some, pos, int_lt, refl, arith}
use Rattle.std.specs.List.{list_all}
use Rattle.std.proofs.lemmas.Bool.Decides.{nat_tests}
use Rattle.um_base.specs.declared.image.DomainDef.{DomainDef}
use Rattle.um_base.specs.declared.limits.TheConstants.{DOMAINS}
use Rattle.um_base.specs.Lawful.{are_distinct, are_lawful_parts}
use Rattle.um_document.specs.declared.description.Description.{Description}
use Rattle.um_document.specs.declared.description.DomainEntry.{DomainEntry}
use Rattle.um_document.specs.declared.place.Place.{Place}
use Rattle.um_document.specs.declared.shape.Key.{Key}
use Rattle.um_document.specs.declared.shape.Section.{Section}
use Rattle.um_description.specs.declared.flaw.Counted.TheVariants as counted
use Rattle.um_description.specs.declared.flaw.Flaw.{Flaw}
use Rattle.um_description.specs.Duplicates.{if_again, parts_again, domain_again, domains_again}
use Rattle.um_description.specs.Limits.{longer, one_too_many, domain_limits}
use Rattle.um_description.specs.Names.{Text, each, items, named, partition_names}
use Rattle.um_description.specs.Resolve.{domain_of, number_named}
use Rattle.um_description.specs.Unknown.{unless, unknown_in_domain}
use Rattle.um_description.proofs.LawfulDistinct.{is_known, new_parts, distinct_names, distinct_numbers, numbers_below}
use Rattle.um_description.proofs.LawfulLists.{no_front, no_back, both_true, none_if, none_unless, all_of, length_mapped}

-- each text is a name
pub all_known : (names : List Text) (place : ℕ → Place) (texts : List Text) → each (λ j text. unless (is_some (named names text)) (place j)) 0 texts ≡ [] → IsTrue (list_all (is_known names) texts)
all_known names place texts h =
    all_of (λ (j : ℕ) (text : Text). unless (is_some (named names text)) (place j)) (is_known names) (λ j text none. none_unless (is_known names text) (place j) none) 0 texts h

few_parts : (most : ℕ) (i : ℕ) (m : DomainEntry) → domain_limits most i m ≡ [] → length (items m.partitions) ≤ most
unfolding domain_limits
few_parts most i m h =
    let no = none_if (int_lt (pos most) (pos (length (items m.partitions)))) (Flaw.Limit (counted.Key Key.Partitions) (pos most) (Place.Item Section.Domain i Key.Partitions most))
    (no_back (one_too_many Section.Domain DOMAINS i) (longer Key.Partitions (pos most) (Place.Item Section.Domain i Key.Partitions most) (length (items m.partitions))) h) in
    grind (arith, nat_tests)

parts_lawful : (names : List Text) (most n i : ℕ) (o : Option (List Text)) → length names ≡ n → length (items o) ≤ most → IsTrue (list_all (is_known names) (items o)) → parts_again [] i 0 (items o) ≡ []
    → IsTrue (are_lawful_parts most n (option_map (λ (texts : List Text). map (number_named names) texts) o))
parts_lawful names most n i None same few known new = refl
parts_lawful names most n i (Some texts) same few known new =
    let size : length (map (number_named names) texts) ≡ length texts = length_mapped (number_named names) texts in
    let short : IsTrue (nat_le (length (map (number_named names) texts)) most) = grind (arith, nat_tests, size, few) in
    both_true (nat_le (length (map (number_named names) texts)) most && list_all (λ j. nat_lt j n) (map (number_named names) texts)) (are_distinct (map (number_named names) texts))
    (both_true (nat_le (length (map (number_named names) texts)) most) (list_all (λ j. nat_lt j n) (map (number_named names) texts)) short (numbers_below names texts n same known))
    (distinct_numbers names texts known (distinct_names [] texts (new_parts [] i 0 texts new)))

pub domains_lawful : (d : Description) (most n i : ℕ) (before : List Text) (ms : List DomainEntry) → length (partition_names d) ≡ n
    → each (domain_limits most) i ms ≡ [] → each (unknown_in_domain d) i ms ≡ [] → domains_again before i ms ≡ []
    → IsTrue (list_all (λ (m : DomainDef). are_lawful_parts most n m.parts) (map (domain_of (partition_names d)) ms))
domains_lawful d most n i before [] same limits unknown new = refl
domains_lawful d most n i before (m ∷ ms) same limits unknown new =
    let names = partition_names d in
    let own = domain_again before i m in
    let back = domains_again (m.name ∷ before) (i + 1) ms in
    both_true (are_lawful_parts most n (domain_of names m).parts) (list_all (λ (x : DomainDef). are_lawful_parts most n x.parts) (map (domain_of names) ms))
    (parts_lawful names most n i m.partitions same
    (few_parts most i m (no_front (domain_limits most i m) (each (domain_limits most) (i + 1) ms) limits))
    (all_known names (λ j. Place.Item Section.Domain i Key.Partitions j) (items m.partitions) (no_front (unknown_in_domain d i m) (each (unknown_in_domain d) (i + 1) ms) unknown))
    (no_back (if_again before (Place.Field Section.Domain i Key.Name) m.name) (parts_again [] i 0 (items m.partitions)) (no_front own back new)))
    (domains_lawful d most n (i + 1) (m.name ∷ before) ms same (no_back (domain_limits most i m) (each (domain_limits most) (i + 1) ms) limits)
    (no_back (unknown_in_domain d i m) (each (unknown_in_domain d) (i + 1) ms) unknown) (no_back own back new))
