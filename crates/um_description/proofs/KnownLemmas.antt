-- A name that stands among others has a number there.
use Rattle.std.proofs.Common.{◌≡◌, ℕ, ◌+◌, Bool, true, false, ◌||◌, List, [], ◌∷◌, ◌++◌, Option, Some, None, is_some, refl, ap, ◌∙◌}
use Rattle.std.specs.Prelude.{option_map, if◌then◌else◌, bytes_eq}
use Rattle.um_document.specs.declared.description.BootEntry.{BootEntry}
use Rattle.um_document.specs.declared.description.Description.{Description}
use Rattle.um_document.specs.declared.description.DomainEntry.{DomainEntry}
use Rattle.um_document.specs.declared.place.Place.{Place}
use Rattle.um_document.specs.declared.shape.Key.{Key}
use Rattle.um_document.specs.declared.shape.Section.{Section}
use Rattle.um_document.specs.First.{first_of}
use Rattle.std.specs.Option.{option_or}
use Rattle.um_description.proofs.Firsts.{or_two}
use Rattle.um_description.specs.Duplicates.{SameTexts, added}
use Rattle.um_description.specs.Known.{unknown_item, unknown_pool, unknown_keys}
use Rattle.um_description.specs.Names.{Text, each, is_among, items, named, passes, is_thread, is_thread_stack, is_initialised, partition_names, domain_names, object_names, script_names}
use Rattle.um_description.specs.Unknown.{unless, unknown_in_domain, unknown_in_boot}

or_step : (a b c : Bool) → ((a || b) || c) ≡ (b || (a || c))
or_step true true c = refl
or_step true false c = refl
or_step false true c = refl
or_step false false c = refl

or_none : (a : Bool) → a ≡ (a || false)
or_none true = refl
or_none false = refl

among_added : (q : Text) (before names : List Text) → is_among q (added before names) ≡ (is_among q before || is_among q names)
among_added q before [] = or_none (is_among q before)
among_added q before (name ∷ names) = among_added q (name ∷ before) names ∙ or_step (bytes_eq q name) (is_among q before) (is_among q names)

-- the names that were added to none are those names
pub same_as_added : (names : List Text) → SameTexts (added [] names) names
same_as_added names q = among_added q [] names

is_some_next : (o : Option ℕ) → is_some (option_map (λ i. i + 1) o) ≡ is_some o
is_some_next None = refl
is_some_next (Some i) = refl

named_cons : (b : Bool) (o : Option ℕ) → is_some (if b then Some 0 else option_map (λ i. i + 1) o) ≡ (b || is_some o)
named_cons true o = refl
named_cons false o = is_some_next o

pub among_named : (q : Text) (names : List Text) → is_some (named names q) ≡ is_among q names
among_named q [] = refl
among_named q (name ∷ names) = named_cons (bytes_eq q name) (named names q) ∙ ap (λ b. bytes_eq q name || b) (among_named q names)

-- the unknown items of a list, by the same names in another order
pub items_same : (known names : List Text) → SameTexts known names → (s : Section) (i : ℕ) (key : Key) (j : ℕ) (texts : List Text)
    → each (unknown_item known s i key) j texts ≡ each (λ j text. unless (is_some (named names text)) (Place.Item s i key j)) j texts
unfolding unknown_item
items_same known names same s i key j [] = refl
items_same known names same s i key j (text ∷ texts) =
    rw (items_same known names same s i key (j + 1) texts, same text, among_named text names) refl

pub domain_same : (d : Description) (known : List Text) → SameTexts known (partition_names d) → (i : ℕ) (m : DomainEntry)
    → each (unknown_item known Section.Domain i Key.Partitions) 0 (items m.partitions) ≡ unknown_in_domain d i m
domain_same d known same i m = items_same known (partition_names d) same Section.Domain i Key.Partitions 0 (items m.partitions)

pub boot_same : (d : Description) (known : List Text) → SameTexts known (object_names d) → (i : ℕ) (b : BootEntry)
    → unknown_keys d i b ++ each (unknown_item known Section.Boot i Key.Grants) 0 b.grants ≡ unknown_in_boot d i b
unfolding unknown_keys unknown_pool
boot_same d known same i b = rw (items_same known (object_names d) same Section.Boot i Key.Grants 0 b.grants) refl

-- the first of the keys of a boot entry that name nothing
pub key_found : (d : Description) (i : ℕ) (b : BootEntry) (thread stack script domain : Bool) {p q r s t found two three four : Option Place}
    → thread ≡ passes is_thread d.objects (named (object_names d) b.thread) → stack ≡ passes is_thread_stack d.objects (named (object_names d) b.stack)
    → script ≡ is_some (named (script_names d) b.script) → domain ≡ passes is_initialised d.domains (named (domain_names d) b.domain)
    → p ≡ first_of (unless thread (Place.Field Section.Boot i Key.Thread)) → q ≡ first_of (unless stack (Place.Field Section.Boot i Key.Stack))
    → r ≡ first_of (unless script (Place.Field Section.Boot i Key.Script)) → s ≡ first_of (unless domain (Place.Field Section.Boot i Key.Domain))
    → t ≡ first_of (unknown_pool d i b) → two ≡ option_or p q → three ≡ option_or two r → four ≡ option_or three s → found ≡ option_or four t
    → found ≡ first_of (unknown_keys d i b)
unfolding unknown_keys
key_found d i b thread stack script domain th st sc dm p q r s t two three four found =
    or_two _ _ (or_two _ _ (or_two _ _ (or_two _ _ (rw th at p) (rw st at q) two) (rw sc at r) three) (rw dm at s) four) t found
