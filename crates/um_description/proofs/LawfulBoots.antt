-- Boot entries: what they name is known and of the right kind, and each thread and stack is named once.
use Rattle.std.proofs.Common.{◌≡◌, ℕ, zero, suc, ◌+◌, ◌≤◌, ◌<◌, Bool, true, false, ◌&&◌, nat_lt, List, [], ◌∷◌, ◌++◌, length, map, drop, IsTrue, if◌then◌else◌, Option, Some, None, option_map, is_some, slice_get, ℤ, pos, negsuc, int_lt, refl, ap, sym, ◌∙◌, subst, arith}
use Rattle.std.specs.Prelude.{unwrap_or}
use Rattle.std.specs.List.{list_all}
use Rattle.std.proofs.lemmas.Bool.{false≢true}
use Rattle.std.proofs.lemmas.Bool.Decides.{nat_tests}
use Rattle.um_base.specs.declared.image.Boot.{Boot}
use Rattle.um_base.specs.declared.limits.TheConstants.{BOOTS}
use Rattle.um_base.specs.declared.names.Kind.{Kind}
use Rattle.um_base.specs.declared.names.Range.{Range}
use Rattle.um_base.specs.declared.names.Row.{Row}
use Rattle.um_base.specs.Lawful as lawful
use Rattle.um_base.specs.Lawful.{are_distinct, object_passes, pool_stands, is_priority, is_lawful_boot, is_stack}
use Rattle.um_document.specs.declared.description.BootEntry.{BootEntry}
use Rattle.um_document.specs.declared.description.Description.{Description}
use Rattle.um_document.specs.declared.description.DomainEntry.{DomainEntry}
use Rattle.um_document.specs.declared.description.ObjectEntry.{ObjectEntry}
use Rattle.um_document.specs.declared.place.Place.{Place}
use Rattle.um_document.specs.declared.shape.Key.{Key}
use Rattle.um_document.specs.declared.shape.Section.{Section}
use Rattle.um_description.specs.Duplicates.{boots_again}
use Rattle.um_description.specs.Limits.{outside, one_too_many, boot_limits, threads_after}
use Rattle.um_description.specs.Names.{Text, is_among, each, named, passes, is_thread, is_thread_stack, is_initialised, pool_names, partition_names, domain_names, object_names, script_names}
use Rattle.um_description.specs.Resolve.{lowered, first_range, ranges_taken, object_def, objects_from, number_named, rows_among, domain_of, boot_of, script_of, pool_of, without_scripts, image_in}
use Rattle.um_description.specs.Unknown.{unless, unknown_in_boot}
use Rattle.um_description.proofs.LawfulDistinct.{is_known, boot_thread, boot_stack, new_boots, are_new, distinct_names, distinct_numbers, number_below}
use Rattle.um_description.proofs.LawfulLists.{no_front, no_back, both_true, none_unless, length_mapped}
use Rattle.um_description.proofs.LawfulObjects.{of_entry}
use Rattle.um_description.proofs.LawfulRanges.{inside}

-- ---- what stands at a number

-- an object passes in the image what its entry passes
object_at : (test : ObjectEntry → Bool) (kept : Kind → Bool) → ((range : Range) (x t : ℕ) (o : ObjectEntry) → test o ≡ kept (object_def range x t o).kind)
    → (ranges : List Range) (x t : ℕ) (os : List ObjectEntry) (i : ℕ) → IsTrue (passes test os (Some i)) → IsTrue (object_passes (λ o. kept o.kind) (slice_get (objects_from ranges x t os) i))
object_at test kept same ranges x t [] i h = absurd (false≢true h)
object_at test kept same ranges x t (o ∷ os) zero h = sym (same (first_range ranges) x t o) ∙ h
object_at test kept same ranges x t (o ∷ os) (suc i) h = object_at test kept same (drop (ranges_taken o) ranges) (x + 1) (threads_after t o) os i h

initialised_by : (names : List Text) (name : Text) (o : Option (List Text)) → IsTrue (is_some o) → IsTrue (lawful.is_initialised (Some (domain_of names (record { name = name; partitions = o }))))
initialised_by names name None h = absurd (false≢true h)
initialised_by names name (Some texts) h = refl

domain_at : (names : List Text) (ms : List DomainEntry) (i : ℕ) → IsTrue (passes is_initialised ms (Some i)) → IsTrue (lawful.is_initialised (slice_get (map (domain_of names) ms) i))
domain_at names [] i h = absurd (false≢true h)
domain_at names (m ∷ ms) zero h = initialised_by names m.name m.partitions h
domain_at names (m ∷ ms) (suc i) h = domain_at names ms i h

passes_number : {A : Type 0} (test : A → Bool) (xs : List A) (o : Option ℕ) → IsTrue (passes test xs o) → IsTrue (passes test xs (Some (unwrap_or o 0)))
passes_number test xs None h = absurd (false≢true h)
passes_number test xs (Some i) h = h

passes_known : {A : Type 0} (test : A → Bool) (xs : List A) (o : Option ℕ) → IsTrue (passes test xs o) → IsTrue (is_some o)
passes_known test xs None h = absurd (false≢true h)
passes_known test xs (Some i) h = refl

-- ---- what an entry names

lowered_same : (z : ℤ) → int_lt z (negsuc 15) ≡ false → int_lt (pos 14) z ≡ false → IsTrue (is_priority (lowered z))
lowered_same (pos n) h k =
    let most : n ≤ 14 = grind (arith, nat_tests) in
    let small : nat_lt 127 n ≡ false = grind (arith, nat_tests) in
    let again : lowered (pos n) ≡ pos n = rw small refl in
    subst (λ (z : ℤ). IsTrue (is_priority z)) (sym again) (rw k refl)
lowered_same (negsuc n) h k =
    let most : n ≤ 15 = grind (arith, nat_tests) in
    let small : nat_lt 127 n ≡ false = grind (arith, nat_tests) in
    let again : lowered (negsuc n) ≡ negsuc n = rw small refl in
    subst (λ (z : ℤ). IsTrue (is_priority z)) (sym again) (rw h refl)

-- what an entry names is there
pub record IsKnownBoot (d : Description) (b : BootEntry) : Type 0 where
  pub thread : IsTrue (passes is_thread d.objects (named (object_names d) b.thread))
  pub stack : IsTrue (passes is_thread_stack d.objects (named (object_names d) b.stack))
  pub script : IsTrue (is_known (script_names d) b.script)
  pub domain : IsTrue (passes is_initialised d.domains (named (domain_names d) b.domain))
  pub pool : elim b.pool as (λ _. Type 0) [ None ↦ Unit {0} | Some text ↦ IsTrue (is_known (pool_names d) text) ]

abbrev pool_unknown : Description → ℕ → Option Text → List Place
pool_unknown d i o = elim o as (λ _. List Place) [ None ↦ [] | Some text ↦ unless (is_some (named (pool_names d) text)) (Place.Field Section.Boot i Key.Pool) ]

pool_known : (d : Description) (i : ℕ) (o : Option Text) → pool_unknown d i o ≡ [] → elim o as (λ _. Type 0) [ None ↦ Unit {0} | Some text ↦ IsTrue (is_known (pool_names d) text) ]
pool_known d i None h = tt
pool_known d i (Some text) h = none_unless (is_known (pool_names d) text) (Place.Field Section.Boot i Key.Pool) h

pub known_boot : (d : Description) (i : ℕ) (b : BootEntry) → unknown_in_boot d i b ≡ [] → IsKnownBoot d b
known_boot d i b h =
    let is_t = passes is_thread d.objects (named (object_names d) b.thread) in
    let is_s = passes is_thread_stack d.objects (named (object_names d) b.stack) in
    let is_c = is_some (named (script_names d) b.script) in
    let is_m = passes is_initialised d.domains (named (domain_names d) b.domain) in
    let xs0 = unless is_t (Place.Field Section.Boot i Key.Thread) in
    let xs1 = unless is_s (Place.Field Section.Boot i Key.Stack) in
    let xs2 = unless is_c (Place.Field Section.Boot i Key.Script) in
    let xs3 = unless is_m (Place.Field Section.Boot i Key.Domain) in
    let xs4 = pool_unknown d i b.pool in
    let xs5 = each (λ j text. unless (is_some (named (object_names d) text)) (Place.Item Section.Boot i Key.Grants j)) 0 b.grants in
    let f4 = no_front (xs0 ++ xs1 ++ xs2 ++ xs3 ++ xs4) xs5 h in
    let f3 = no_front (xs0 ++ xs1 ++ xs2 ++ xs3) xs4 f4 in
    let f2 = no_front (xs0 ++ xs1 ++ xs2) xs3 f3 in
    let f1 = no_front (xs0 ++ xs1) xs2 f2 in
    record {
      thread = none_unless is_t (Place.Field Section.Boot i Key.Thread) (no_front xs0 xs1 f1);
      stack = none_unless is_s (Place.Field Section.Boot i Key.Stack) (no_back xs0 xs1 f1);
      script = none_unless is_c (Place.Field Section.Boot i Key.Script) (no_back (xs0 ++ xs1) xs2 f2);
      domain = none_unless is_m (Place.Field Section.Boot i Key.Domain) (no_back (xs0 ++ xs1 ++ xs2) xs3 f3);
      pool = pool_known d i b.pool (no_back (xs0 ++ xs1 ++ xs2 ++ xs3) xs4 f4);
    }

abbrev below : ℕ → Row → Bool
below n x = nat_lt x.0 n

rows_by : (here : Bool) (x n : ℕ) (rows : List Row) → x < n → IsTrue (list_all (below n) rows) → IsTrue (list_all (below n) ((if here then record { 0 = x } ∷ [] else []) ++ rows))
rows_by true x n rows lt h = let first : IsTrue (nat_lt x n) = grind (arith, nat_tests) in both_true (nat_lt x n) (list_all (below n) rows) first h
rows_by false x n rows lt h = h

rows_below : (texts : List Text) (x n : ℕ) (names : List Text) → x + length names ≤ n → IsTrue (list_all (below n) (rows_among texts x names))
rows_below texts x n [] h = refl
rows_below texts x n (name ∷ names) h =
    rows_by (is_among name texts) x n (rows_among texts (x + 1) names) (omega (arith, h)) (rows_below texts (x + 1) n names (omega (arith, h)))

length_objects : (ranges : List Range) (x t : ℕ) (os : List ObjectEntry) → length (objects_from ranges x t os) ≡ length os
length_objects ranges x t [] = refl
length_objects ranges x t (o ∷ os) = omega (arith, length_objects (drop (ranges_taken o) ranges) (x + 1) (threads_after t o) os)

pool_by : (d : Description) (ps ss : List Range) (o : Option Text) → elim o as (λ _. Type 0) [ None ↦ Unit {0} | Some text ↦ IsTrue (is_known (pool_names d) text) ]
    → IsTrue (pool_stands (image_in d ps ss) (option_map (number_named (pool_names d)) o))
pool_by d ps ss None h = refl
pool_by d ps ss (Some text) h =
    let lt = number_below (pool_names d) text h in
    let here = length_mapped (λ p. p.name) d.pools in
    let there = length_mapped pool_of d.pools in
    grind (arith, nat_tests)

boot_lawful : (d : Description) (ps ss : List Range) (i : ℕ) (b : BootEntry) → boot_limits i b ≡ [] → unknown_in_boot d i b ≡ [] → IsTrue (is_lawful_boot (image_in d ps ss) (boot_of d b))
unfolding boot_limits
boot_lawful d ps ss i b limits unknown =
    let known = known_boot d i b unknown in
    let image = image_in d ps ss in
    let boot = boot_of d b in
    let priority = inside Key.Priority (negsuc 15) (pos 14) (Place.Field Section.Boot i Key.Priority) b.priority
    (no_back (one_too_many Section.Boot BOOTS i) (outside Key.Priority (negsuc 15) (pos 14) (Place.Field Section.Boot i Key.Priority) b.priority) limits) in
    let is_t = object_passes (λ o. lawful.is_thread o.kind) (slice_get image.objects boot.thread.0) in
    let is_s = object_passes (λ o. is_stack o.kind) (slice_get image.objects boot.stack.0) in
    let is_c = nat_lt boot.script (length image.scripts) in
    let is_p = is_priority boot.priority in
    let is_m = lawful.is_initialised (slice_get image.domains boot.domain) in
    let is_o = pool_stands image boot.pool in
    let is_g = list_all (below (length image.objects)) boot.grants in
    let lt = number_below (script_names d) b.script known.script in
    let names = length_mapped (λ s. s.name) d.scripts in
    let scripts = length_mapped (script_of (without_scripts d ps ss) d) d.scripts in
    let objects = length_objects ss 0 0 d.objects in
    let object_count = length_mapped (λ o. o.name) d.objects in
    let t : IsTrue is_t = object_at is_thread lawful.is_thread (λ range x t o. (of_entry range x t o).thread) ss 0 0 d.objects (number_named (object_names d) b.thread) (passes_number is_thread d.objects (named (object_names d) b.thread) known.thread) in
    let s : IsTrue is_s = object_at is_thread_stack is_stack (λ range x t o. (of_entry range x t o).stack) ss 0 0 d.objects (number_named (object_names d) b.stack) (passes_number is_thread_stack d.objects (named (object_names d) b.stack) known.stack) in
    let c : IsTrue is_c = grind (arith, nat_tests, lt, names, scripts) in
    let p : IsTrue is_p = lowered_same b.priority priority.0 priority.1 in
    let m : IsTrue is_m = domain_at (partition_names d) d.domains (number_named (domain_names d) b.domain) (passes_number is_initialised d.domains (named (domain_names d) b.domain) known.domain) in
    let o : IsTrue is_o = pool_by d ps ss b.pool known.pool in
    let g : IsTrue is_g = rows_below b.grants 0 (length image.objects) (object_names d) (omega (arith, objects, object_count)) in
    both_true (is_t && is_s && is_c && is_p && is_m && is_o) is_g
    (both_true (is_t && is_s && is_c && is_p && is_m) is_o
    (both_true (is_t && is_s && is_c && is_p) is_m
    (both_true (is_t && is_s && is_c) is_p (both_true (is_t && is_s) is_c (both_true is_t is_s t s) c) p) m) o) g

pub boots_lawful : (d : Description) (ps ss : List Range) (i : ℕ) (bs : List BootEntry) → each boot_limits i bs ≡ [] → each (unknown_in_boot d) i bs ≡ []
    → IsTrue (list_all (is_lawful_boot (image_in d ps ss)) (map (boot_of d) bs))
boots_lawful d ps ss i [] limits unknown = refl
boots_lawful d ps ss i (b ∷ bs) limits unknown =
    both_true (is_lawful_boot (image_in d ps ss) (boot_of d b)) (list_all (is_lawful_boot (image_in d ps ss)) (map (boot_of d) bs))
    (boot_lawful d ps ss i b (no_front (boot_limits i b) (each boot_limits (i + 1) bs) limits) (no_front (unknown_in_boot d i b) (each (unknown_in_boot d) (i + 1) bs) unknown))
    (boots_lawful d ps ss (i + 1) bs (no_back (boot_limits i b) (each boot_limits (i + 1) bs) limits) (no_back (unknown_in_boot d i b) (each (unknown_in_boot d) (i + 1) bs) unknown))

-- ---- each thread and each stack is named once

-- what each entry names, which is known, is named once where it is new at each
once : (d : Description) (name : BootEntry → Text) (row : Boot → ℕ) → ((b : BootEntry) → row (boot_of d b) ≡ number_named (object_names d) (name b))
    → ((i : ℕ) (b : BootEntry) → unknown_in_boot d i b ≡ [] → IsTrue (is_known (object_names d) (name b)))
    → (bs : List BootEntry) → each (unknown_in_boot d) 0 bs ≡ [] → IsTrue (are_new [] (map name bs)) → IsTrue (are_distinct (map row (map (boot_of d) bs)))
once d name row is known bs unknown new =
    ap are_distinct (rows bs) ∙ distinct_numbers (object_names d) (map name bs) (all 0 bs unknown) (distinct_names [] (map name bs) new)
  where
    all : (i : ℕ) (bs : List BootEntry) → each (unknown_in_boot d) i bs ≡ [] → IsTrue (list_all (is_known (object_names d)) (map name bs))
    all i [] h = refl
    all i (b ∷ bs) h =
        both_true (is_known (object_names d) (name b)) (list_all (is_known (object_names d)) (map name bs))
        (known i b (no_front (unknown_in_boot d i b) (each (unknown_in_boot d) (i + 1) bs) h)) (all (i + 1) bs (no_back (unknown_in_boot d i b) (each (unknown_in_boot d) (i + 1) bs) h))

    rows : (bs : List BootEntry) → map row (map (boot_of d) bs) ≡ map (number_named (object_names d)) (map name bs)
    rows [] = refl
    rows (b ∷ bs) = rw (is b, rows bs) refl

pub threads_once : (d : Description) (bs : List BootEntry) → each (unknown_in_boot d) 0 bs ≡ [] → boots_again [] [] 0 bs ≡ [] → IsTrue (are_distinct (map (λ (b : Boot). b.thread.0) (map (boot_of d) bs)))
threads_once d bs unknown new =
    once d boot_thread (λ b. b.thread.0) (λ b. refl) (λ i b h. passes_known is_thread d.objects (named (object_names d) b.thread) (known_boot d i b h).thread) bs unknown (new_boots [] [] 0 bs new).0

pub stacks_once : (d : Description) (bs : List BootEntry) → each (unknown_in_boot d) 0 bs ≡ [] → boots_again [] [] 0 bs ≡ [] → IsTrue (are_distinct (map (λ (b : Boot). b.stack.0) (map (boot_of d) bs)))
stacks_once d bs unknown new =
    once d boot_stack (λ b. b.stack.0) (λ b. refl) (λ i b h. passes_known is_thread_stack d.objects (named (object_names d) b.stack) (known_boot d i b h).stack) bs unknown (new_boots [] [] 0 bs new).1
