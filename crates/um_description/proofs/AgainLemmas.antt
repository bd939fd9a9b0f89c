-- Only which texts stood before matters, and not their order.
use Rattle.std.proofs.Common.{◌≡◌, ℕ, ◌+◌, ◌<◌, suc, length, get_or, drop, add-one, drop-cons, true, false, List, [], ◌∷◌, ◌++◌, Bool, Option, Some, None, is_some, map, refl, sym, ap, ◌∙◌}
use Rattle.um_document.specs.declared.description.BootEntry.{BootEntry}
use Rattle.um_document.specs.declared.description.DomainEntry.{DomainEntry}
use Rattle.um_document.specs.declared.description.FutexEntry.{FutexEntry}
use Rattle.um_document.specs.declared.description.PartitionEntry.{PartitionEntry}
use Rattle.um_document.specs.declared.description.VariableEntry.{VariableEntry}
use Rattle.um_document.specs.declared.place.Place.{Place}
use Rattle.um_document.specs.declared.shape.Key.{Key}
use Rattle.um_document.specs.declared.shape.Section.{Section}
use Rattle.um_document.specs.First.{first_of}
use Rattle.um_description.specs.Names.{Text, is_among, variables_of, variable_names, names_within}
use Rattle.um_description.specs.Duplicates.{SameTexts, names_again, variables_again, partition_again, partitions_again, parts_again, domain_again, domains_again, boot_again, boots_again, spot_text, futex_again, futexes_again, added}

pub same_one_more : (text : Text) (a b : List Text) → SameTexts a b → SameTexts (text ∷ a) (text ∷ b)
same_one_more text a b h q = rw (h q) refl

pub same_names : (a b : List Text) → SameTexts a b → (s : Section) (i : ℕ) (names : List Text) → names_again a s i names ≡ names_again b s i names
same_names a b h s i [] = refl
same_names a b h s i (name ∷ names) = rw (h name, same_names (name ∷ a) (name ∷ b) (same_one_more name a b h) s (i + 1) names) refl

pub same_parts : (a b : List Text) → SameTexts a b → (i j : ℕ) (texts : List Text) → parts_again a i j texts ≡ parts_again b i j texts
same_parts a b h i j [] = refl
same_parts a b h i j (text ∷ texts) = rw (h text, same_parts (text ∷ a) (text ∷ b) (same_one_more text a b h) i (j + 1) texts) refl

pub same_added : (a b : List Text) → SameTexts a b → (names : List Text) → SameTexts (added a names) (added b names)
same_added a b h [] q = h q
same_added a b h (name ∷ names) q = same_added (name ∷ a) (name ∷ b) (same_one_more name a b h) names q

-- a name that didn't stand before, and those behind it
pub name_passed : (before after : List Text) (s : Section) (i : ℕ) (name : Text) (names : List Text) (total : Option Place) (again : Bool) → again ≡ is_among name before → again ≡ false
    → SameTexts after (name ∷ before) → first_of (names_again before s i (name ∷ names)) ≡ total → first_of (names_again after s (i + 1) names) ≡ total
name_passed before after s i name names total again is fresh put so_far =
    let unseen : is_among name before ≡ false = sym is ∙ fresh in
    let one : names_again before s i (name ∷ names) ≡ names_again (name ∷ before) s (i + 1) names = rw unseen refl in
    ap first_of (same_names after (name ∷ before) put s (i + 1) names ∙ sym one) ∙ so_far

pub part_passed : (before after : List Text) (i j : ℕ) (text : Text) (texts : List Text) (total : Option Place) (again : Bool) → again ≡ is_among text before → again ≡ false
    → SameTexts after (text ∷ before) → first_of (parts_again before i j (text ∷ texts)) ≡ total → first_of (parts_again after i (j + 1) texts) ≡ total
part_passed before after i j text texts total again is fresh put so_far =
    let unseen : is_among text before ≡ false = sym is ∙ fresh in
    let one : parts_again before i j (text ∷ texts) ≡ parts_again (text ∷ before) i (j + 1) texts = rw unseen refl in
    ap first_of (same_parts after (text ∷ before) put i (j + 1) texts ∙ sym one) ∙ so_far

-- one that did
pub name_found : (before : List Text) (s : Section) (i : ℕ) (name : Text) (names : List Text) (total : Option Place) (again : Bool) → again ≡ is_among name before → again ≡ true
    → first_of (names_again before s i (name ∷ names)) ≡ total → Some (Place.Field s i Key.Name) ≡ total
name_found before s i name names total again is old so_far =
    let there : is_among name before ≡ true = sym is ∙ old in
    let one : first_of (names_again before s i (name ∷ names)) ≡ Some (Place.Field s i Key.Name) = rw there refl in
    sym one ∙ so_far

pub part_found : (before : List Text) (i j : ℕ) (text : Text) (texts : List Text) (total : Option Place) (again : Bool) → again ≡ is_among text before → again ≡ true
    → first_of (parts_again before i j (text ∷ texts)) ≡ total → Some (Place.Item Section.Domain i Key.Partitions j) ≡ total
part_found before i j text texts total again is old so_far =
    let there : is_among text before ≡ true = sym is ∙ old in
    let one : first_of (parts_again before i j (text ∷ texts)) ≡ Some (Place.Item Section.Domain i Key.Partitions j) = rw there refl in
    sym one ∙ so_far

cut_at : {A : Type 0} (xs : List A) (k : ℕ) (x : A) → k < length xs → x ≡ get_or xs k x → drop k xs ≡ x ∷ drop (k + 1) xs
cut_at xs k x lt is = rw add-one (drop-cons xs k x lt ∙ ap (λ w. w ∷ drop (suc k) xs) (sym is))

-- the next of some names didn't stand before
pub name_step : (before after names : List Text) (s : Section) (i k : ℕ) (name slice : Text) (total : Option Place) (again : Bool) → k < length names → name ≡ get_or names k name → slice ≡ name
    → again ≡ is_among slice before → again ≡ false → SameTexts after (slice ∷ before) → first_of (names_again before s i (drop k names)) ≡ total
    → first_of (names_again after s (i + 1) (drop (k + 1) names)) ≡ total
name_step before after names s i k name slice total again lt at is seen fresh put so_far =
    name_passed before after s i name (drop (k + 1) names) total again (seen ∙ ap (λ t. is_among t before) is) fresh (λ q. put q ∙ ap (λ t. is_among q (t ∷ before)) is)
    (ap (λ ns. first_of (names_again before s i ns)) (sym (cut_at names k name lt at)) ∙ so_far)

pub part_step : (before after texts : List Text) (i j k : ℕ) (text slice : Text) (total : Option Place) (again : Bool) → k < length texts → text ≡ get_or texts k text → slice ≡ text
    → again ≡ is_among slice before → again ≡ false → SameTexts after (slice ∷ before) → first_of (parts_again before i j (drop k texts)) ≡ total
    → first_of (parts_again after i (j + 1) (drop (k + 1) texts)) ≡ total
part_step before after texts i j k text slice total again lt at is seen fresh put so_far =
    part_passed before after i j text (drop (k + 1) texts) total again (seen ∙ ap (λ t. is_among t before) is) fresh (λ q. put q ∙ ap (λ t. is_among q (t ∷ before)) is)
    (ap (λ ts. first_of (parts_again before i j ts)) (sym (cut_at texts k text lt at)) ∙ so_far)

-- and all of them are then added
pub added_step : (before after names whole : List Text) (k : ℕ) (name slice : Text) → k < length names → name ≡ get_or names k name → slice ≡ name
    → SameTexts after (slice ∷ before) → SameTexts (added before (drop k names)) whole → SameTexts (added after (drop (k + 1) names)) whole
added_step before after names whole k name slice lt at is put so_far q =
    same_added after (name ∷ before) (λ t. put t ∙ ap (λ u. is_among t (u ∷ before)) is) (drop (k + 1) names) q
    ∙ ap (λ ns. is_among q (added before ns)) (sym (cut_at names k name lt at)) ∙ so_far q

none_of : {A : Type 0} (o : Option A) → is_some o ≡ false → o ≡ None
none_of None gone = refl
none_of (Some x) gone = cc

front : (xs ys : List Place) (found : Option Place) → found ≡ first_of xs → is_some found ≡ true → first_of (xs ++ ys) ≡ found
front [] ys found is there = let gone : found ≡ None = is in cc (gone, there)
front (x ∷ xs) ys found is there = sym is

behind : (xs ys : List Place) (found : Option Place) → found ≡ first_of xs → is_some found ≡ false → first_of (xs ++ ys) ≡ first_of ys
behind [] ys found is gone = refl
behind (x ∷ xs) ys found is gone = let there : found ≡ Some x = is in cc (gone, there)

same_domain : (a b : List Text) → SameTexts a b → (i : ℕ) (m : DomainEntry) → domain_again a i m ≡ domain_again b i m
same_domain a b h i m = rw (h m.name) refl

pub same_domains : (a b : List Text) → SameTexts a b → (i : ℕ) (ms : List DomainEntry) → domains_again a i ms ≡ domains_again b i ms
same_domains a b h i [] = refl
same_domains a b h i (m ∷ ms) = rw (same_domain a b h i m, same_domains (m.name ∷ a) (m.name ∷ b) (same_one_more m.name a b h) (i + 1) ms) refl

pub domain_step : (before after : List Text) (ms : List DomainEntry) (i k : ℕ) (m : DomainEntry) (found total : Option Place) → k < length ms → m ≡ get_or ms k m
    → found ≡ first_of (domain_again before i m) → is_some found ≡ false → SameTexts after (m.name ∷ before) → first_of (domains_again before i (drop k ms)) ≡ total
    → first_of (domains_again after (i + 1) (drop (k + 1) ms)) ≡ total
domain_step before after ms i k m found total lt at is gone put so_far =
    ap first_of (same_domains after (m.name ∷ before) put (i + 1) (drop (k + 1) ms))
    ∙ sym (behind (domain_again before i m) (domains_again (m.name ∷ before) (i + 1) (drop (k + 1) ms)) found is gone)
    ∙ ap (λ xs. first_of (domains_again before i xs)) (sym (cut_at ms k m lt at)) ∙ so_far

pub domain_here : (before : List Text) (ms : List DomainEntry) (i k : ℕ) (m : DomainEntry) (found total : Option Place) → k < length ms → m ≡ get_or ms k m
    → found ≡ first_of (domain_again before i m) → is_some found ≡ true → first_of (domains_again before i (drop k ms)) ≡ total → found ≡ total
domain_here before ms i k m found total lt at is there so_far =
    sym (front (domain_again before i m) (domains_again (m.name ∷ before) (i + 1) (drop (k + 1) ms)) found is there)
    ∙ ap (λ xs. first_of (domains_again before i xs)) (sym (cut_at ms k m lt at)) ∙ so_far

abbrev pub domain_name : DomainEntry → Text
domain_name m = m.name

pub domain_added_step : (before after whole : List Text) (ms : List DomainEntry) (k : ℕ) (m : DomainEntry) → k < length ms → m ≡ get_or ms k m
    → SameTexts after (m.name ∷ before) → SameTexts (added before (map domain_name (drop k ms))) whole → SameTexts (added after (map domain_name (drop (k + 1) ms))) whole
domain_added_step before after whole ms k m lt at put so_far q =
    same_added after (m.name ∷ before) put (map domain_name (drop (k + 1) ms)) q
    ∙ ap (λ xs. is_among q (added before (map domain_name xs))) (sym (cut_at ms k m lt at)) ∙ so_far q

abbrev pub variable_name : VariableEntry → Text
variable_name v = v.name

pub same_variables : (a b : List Text) → SameTexts a b → (i j : ℕ) (vs : List VariableEntry) → variables_again a i j vs ≡ variables_again b i j vs
same_variables a b h i j [] = refl
same_variables a b h i j (v ∷ vs) = rw (h v.name, same_variables (v.name ∷ a) (v.name ∷ b) (same_one_more v.name a b h) i (j + 1) vs) refl

pub variable_step : (before after : List Text) (vs : List VariableEntry) (i j k : ℕ) (v : VariableEntry) (slice : Text) (total : Option Place) (again : Bool) → k < length vs → v ≡ get_or vs k v
    → slice ≡ v.name → again ≡ is_among slice before → again ≡ false → SameTexts after (slice ∷ before) → first_of (variables_again before i j (drop k vs)) ≡ total
    → first_of (variables_again after i (j + 1) (drop (k + 1) vs)) ≡ total
variable_step before after vs i j k v slice total again lt at is seen fresh put so_far =
    let unseen : is_among v.name before ≡ false = ap (λ t. is_among t before) (sym is) ∙ sym seen ∙ fresh in
    let one : variables_again before i j (v ∷ drop (k + 1) vs) ≡ variables_again (v.name ∷ before) i (j + 1) (drop (k + 1) vs) = rw unseen refl in
    ap first_of (same_variables after (v.name ∷ before) (λ q. put q ∙ ap (λ t. is_among q (t ∷ before)) is) i (j + 1) (drop (k + 1) vs) ∙ sym one)
    ∙ ap (λ xs. first_of (variables_again before i j xs)) (sym (cut_at vs k v lt at)) ∙ so_far

pub variable_here : (before : List Text) (vs : List VariableEntry) (i j k : ℕ) (v : VariableEntry) (slice : Text) (total : Option Place) (again : Bool) → k < length vs → v ≡ get_or vs k v
    → slice ≡ v.name → again ≡ is_among slice before → again ≡ true → first_of (variables_again before i j (drop k vs)) ≡ total → Some (Place.Variable i j Key.Name) ≡ total
variable_here before vs i j k v slice total again lt at is seen old so_far =
    let there : is_among v.name before ≡ true = ap (λ t. is_among t before) (sym is) ∙ sym seen ∙ old in
    let one : first_of (variables_again before i j (v ∷ drop (k + 1) vs)) ≡ Some (Place.Variable i j Key.Name) = rw there refl in
    sym one ∙ ap (λ xs. first_of (variables_again before i j xs)) (sym (cut_at vs k v lt at)) ∙ so_far

pub variable_added_step : (before after whole : List Text) (vs : List VariableEntry) (k : ℕ) (v : VariableEntry) (slice : Text) → k < length vs → v ≡ get_or vs k v → slice ≡ v.name
    → SameTexts after (slice ∷ before) → SameTexts (added before (map variable_name (drop k vs))) whole → SameTexts (added after (map variable_name (drop (k + 1) vs))) whole
variable_added_step before after whole vs k v slice lt at is put so_far q =
    same_added after (v.name ∷ before) (λ t. put t ∙ ap (λ u. is_among t (u ∷ before)) is) (map variable_name (drop (k + 1) vs)) q
    ∙ ap (λ xs. is_among q (added before (map variable_name xs))) (sym (cut_at vs k v lt at)) ∙ so_far q

same_partition : (a b : List Text) → SameTexts a b → (i : ℕ) (p : PartitionEntry) → partition_again a i p ≡ partition_again b i p
same_partition a b h i p = rw (h p.name, same_variables (p.name ∷ a) (p.name ∷ b) (same_one_more p.name a b h) i 0 (variables_of p.contents)) refl

pub same_partitions : (a b : List Text) → SameTexts a b → (i : ℕ) (ps : List PartitionEntry) → partitions_again a i ps ≡ partitions_again b i ps
same_partitions a b h i [] = refl
same_partitions a b h i (p ∷ ps) =
    rw (
      same_partition a b h i p,
      same_partitions (added (p.name ∷ a) (variable_names p)) (added (p.name ∷ b) (variable_names p))
          (same_added (p.name ∷ a) (p.name ∷ b) (same_one_more p.name a b h) (variable_names p)) (i + 1) ps,
    ) refl

-- a partition whose name is new, and then its variables
pub partition_passed : (before after : List Text) (i : ℕ) (p : PartitionEntry) (slice : Text) (again : Bool) (found : Option Place) → slice ≡ p.name → again ≡ is_among slice before → again ≡ false
    → SameTexts after (slice ∷ before) → found ≡ first_of (variables_again after i 0 (variables_of p.contents)) → found ≡ first_of (partition_again before i p)
partition_passed before after i p slice again found is seen fresh put found_is =
    let unseen : is_among p.name before ≡ false = ap (λ t. is_among t before) (sym is) ∙ sym seen ∙ fresh in
    let one : partition_again before i p ≡ variables_again (p.name ∷ before) i 0 (variables_of p.contents) = rw unseen refl in
    found_is ∙ ap first_of (same_variables after (p.name ∷ before) (λ q. put q ∙ ap (λ t. is_among q (t ∷ before)) is) i 0 (variables_of p.contents) ∙ sym one)

pub partition_again_here : (before : List Text) (i : ℕ) (p : PartitionEntry) (slice : Text) (again : Bool) → slice ≡ p.name → again ≡ is_among slice before → again ≡ true
    → Some (Place.Field Section.Partition i Key.Name) ≡ first_of (partition_again before i p)
partition_again_here before i p slice again is seen old =
    let there : is_among p.name before ≡ true = ap (λ t. is_among t before) (sym is) ∙ sym seen ∙ old in rw there refl

pub partition_put : (before after new : List Text) (p : PartitionEntry) (slice : Text) → slice ≡ p.name → SameTexts after (slice ∷ before) → SameTexts new (added after (variable_names p))
    → SameTexts new (added (p.name ∷ before) (variable_names p))
partition_put before after new p slice is put more q =
    more q ∙ same_added after (p.name ∷ before) (λ t. put t ∙ ap (λ u. is_among t (u ∷ before)) is) (variable_names p) q

pub partition_step : (before after : List Text) (ps : List PartitionEntry) (i k : ℕ) (p : PartitionEntry) (found total : Option Place) → k < length ps → p ≡ get_or ps k p
    → found ≡ first_of (partition_again before i p) → is_some found ≡ false → SameTexts after (added (p.name ∷ before) (variable_names p)) → first_of (partitions_again before i (drop k ps)) ≡ total
    → first_of (partitions_again after (i + 1) (drop (k + 1) ps)) ≡ total
partition_step before after ps i k p found total lt at is gone put so_far =
    let next = added (p.name ∷ before) (variable_names p) in
    ap first_of (same_partitions after next put (i + 1) (drop (k + 1) ps))
    ∙ sym (behind (partition_again before i p) (partitions_again next (i + 1) (drop (k + 1) ps)) found is gone)
    ∙ ap (λ xs. first_of (partitions_again before i xs)) (sym (cut_at ps k p lt at)) ∙ so_far

pub partition_here : (before : List Text) (ps : List PartitionEntry) (i k : ℕ) (p : PartitionEntry) (found total : Option Place) → k < length ps → p ≡ get_or ps k p
    → found ≡ first_of (partition_again before i p) → is_some found ≡ true → first_of (partitions_again before i (drop k ps)) ≡ total → found ≡ total
partition_here before ps i k p found total lt at is there so_far =
    sym (front (partition_again before i p) (partitions_again (added (p.name ∷ before) (variable_names p)) (i + 1) (drop (k + 1) ps)) found is there)
    ∙ ap (λ xs. first_of (partitions_again before i xs)) (sym (cut_at ps k p lt at)) ∙ so_far

pub added_behind : (before xs ys : List Text) → added before (xs ++ ys) ≡ added (added before xs) ys
added_behind before [] ys = refl
added_behind before (x ∷ xs) ys = added_behind (x ∷ before) xs ys

pub partition_added_step : (before after whole : List Text) (ps : List PartitionEntry) (k : ℕ) (p : PartitionEntry) → k < length ps → p ≡ get_or ps k p
    → SameTexts after (added (p.name ∷ before) (variable_names p)) → SameTexts (added before (names_within (drop k ps))) whole → SameTexts (added after (names_within (drop (k + 1) ps))) whole
partition_added_step before after whole ps k p lt at put so_far q =
    same_added after (added (p.name ∷ before) (variable_names p)) put (names_within (drop (k + 1) ps)) q
    ∙ ap (is_among q) (sym (added_behind (p.name ∷ before) (variable_names p) (names_within (drop (k + 1) ps))))
    ∙ ap (λ xs. is_among q (added before (names_within xs))) (sym (cut_at ps k p lt at)) ∙ so_far q

-- nothing is found, so there is nothing
pub nothing_there : (o : Option Place) → is_some o ≡ false → o ≡ None
nothing_there o gone = none_of o gone

same_boot : (a b c e : List Text) → SameTexts a b → SameTexts c e → (i : ℕ) (x : BootEntry) → boot_again a c i x ≡ boot_again b e i x
same_boot a b c e h g i x = rw (h x.thread, g x.stack) refl

pub same_boots : (a b c e : List Text) → SameTexts a b → SameTexts c e → (i : ℕ) (xs : List BootEntry) → boots_again a c i xs ≡ boots_again b e i xs
same_boots a b c e h g i [] = refl
same_boots a b c e h g i (x ∷ xs) =
    rw (same_boot a b c e h g i x, same_boots (x.thread ∷ a) (x.thread ∷ b) (x.stack ∷ c) (x.stack ∷ e) (same_one_more x.thread a b h) (same_one_more x.stack c e g) (i + 1) xs) refl

pub boot_step : (threads stacks after_threads after_stacks : List Text) (xs : List BootEntry) (i k : ℕ) (x : BootEntry) (found total : Option Place) → k < length xs → x ≡ get_or xs k x
    → found ≡ first_of (boot_again threads stacks i x) → is_some found ≡ false → SameTexts after_threads (x.thread ∷ threads) → SameTexts after_stacks (x.stack ∷ stacks)
    → first_of (boots_again threads stacks i (drop k xs)) ≡ total → first_of (boots_again after_threads after_stacks (i + 1) (drop (k + 1) xs)) ≡ total
boot_step threads stacks after_threads after_stacks xs i k x found total lt at is gone put_thread put_stack so_far =
    ap first_of (same_boots after_threads (x.thread ∷ threads) after_stacks (x.stack ∷ stacks) put_thread put_stack (i + 1) (drop (k + 1) xs))
    ∙ sym (behind (boot_again threads stacks i x) (boots_again (x.thread ∷ threads) (x.stack ∷ stacks) (i + 1) (drop (k + 1) xs)) found is gone)
    ∙ ap (λ ys. first_of (boots_again threads stacks i ys)) (sym (cut_at xs k x lt at)) ∙ so_far

pub boot_here : (threads stacks : List Text) (xs : List BootEntry) (i k : ℕ) (x : BootEntry) (found total : Option Place) → k < length xs → x ≡ get_or xs k x
    → found ≡ first_of (boot_again threads stacks i x) → is_some found ≡ true → first_of (boots_again threads stacks i (drop k xs)) ≡ total → found ≡ total
boot_here threads stacks xs i k x found total lt at is there so_far =
    sym (front (boot_again threads stacks i x) (boots_again (x.thread ∷ threads) (x.stack ∷ stacks) (i + 1) (drop (k + 1) xs)) found is there)
    ∙ ap (λ ys. first_of (boots_again threads stacks i ys)) (sym (cut_at xs k x lt at)) ∙ so_far

same_futex : (a b c e : List Text) → SameTexts a b → SameTexts c e → (i : ℕ) (x : FutexEntry) → futex_again a c i x ≡ futex_again b e i x
same_futex a b c e h g i x = rw (h x.name, g (spot_text x)) refl

pub same_futexes : (a b c e : List Text) → SameTexts a b → SameTexts c e → (i : ℕ) (xs : List FutexEntry) → futexes_again a c i xs ≡ futexes_again b e i xs
same_futexes a b c e h g i [] = refl
same_futexes a b c e h g i (x ∷ xs) =
    rw (
      same_futex a b c e h g i x,
      same_futexes (x.name ∷ a) (x.name ∷ b) (spot_text x ∷ c) (spot_text x ∷ e) (same_one_more x.name a b h) (same_one_more (spot_text x) c e g) (i + 1) xs,
    ) refl

pub futex_step : (names spots after_names after_spots : List Text) (xs : List FutexEntry) (i k : ℕ) (x : FutexEntry) (found total : Option Place) → k < length xs → x ≡ get_or xs k x
    → found ≡ first_of (futex_again names spots i x) → is_some found ≡ false → SameTexts after_names (x.name ∷ names) → SameTexts after_spots (spot_text x ∷ spots)
    → first_of (futexes_again names spots i (drop k xs)) ≡ total → first_of (futexes_again after_names after_spots (i + 1) (drop (k + 1) xs)) ≡ total
futex_step names spots after_names after_spots xs i k x found total lt at is gone put_name put_spot so_far =
    ap first_of (same_futexes after_names (x.name ∷ names) after_spots (spot_text x ∷ spots) put_name put_spot (i + 1) (drop (k + 1) xs))
    ∙ sym (behind (futex_again names spots i x) (futexes_again (x.name ∷ names) (spot_text x ∷ spots) (i + 1) (drop (k + 1) xs)) found is gone)
    ∙ ap (λ ys. first_of (futexes_again names spots i ys)) (sym (cut_at xs k x lt at)) ∙ so_far

pub futex_here : (names spots : List Text) (xs : List FutexEntry) (i k : ℕ) (x : FutexEntry) (found total : Option Place) → k < length xs → x ≡ get_or xs k x
    → found ≡ first_of (futex_again names spots i x) → is_some found ≡ true → first_of (futexes_again names spots i (drop k xs)) ≡ total → found ≡ total
futex_here names spots xs i k x found total lt at is there so_far =
    sym (front (futex_again names spots i x) (futexes_again (x.name ∷ names) (spot_text x ∷ spots) (i + 1) (drop (k + 1) xs)) found is there)
    ∙ ap (λ ys. first_of (futexes_again names spots i ys)) (sym (cut_at xs k x lt at)) ∙ so_far
