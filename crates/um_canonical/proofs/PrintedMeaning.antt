-- What is printed for a description without flaws means the same image.
use Rattle.std.proofs.Common.{◌≡◌, ℕ, zero, suc, ◌+◌, ◌^◌, ◌<◌, arith, length-append, drop, Bool, true, false, ◌||◌, if◌then◌else◌, nat_lt, List, [], ◌∷◌, ◌++◌, map, length, take, sum, Option, Some, None, is_some, bytes_eq, IsTrue, Ok, pos, refl, ap, ◌∙◌, subst, append_assoc}
use Rattle.um_base.specs.declared.image.Image.{Image}
use Rattle.um_base.specs.declared.image.Script.{Script}
use Rattle.um_base.specs.declared.limits.TheConstants.{PARTITION_AREA, STACK_AREA, SCRIPTS, LINES, MOST_WEIGHT}
use Rattle.um_base.specs.Weight.{weight}
use Rattle.um_base.specs.declared.names.Mpu.{Mpu}
use Rattle.um_document.specs.declared.description.BootEntry.{BootEntry}
use Rattle.um_document.specs.declared.description.Description.{Description}
use Rattle.um_document.specs.declared.description.DomainEntry.{DomainEntry}
use Rattle.um_document.specs.declared.description.FutexEntry.{FutexEntry}
use Rattle.um_document.specs.declared.description.ObjectEntry.{ObjectEntry}
use Rattle.um_document.specs.declared.description.PartitionEntry.{PartitionEntry}
use Rattle.um_document.specs.declared.description.PoolEntry.{PoolEntry}
use Rattle.um_document.specs.declared.description.ScriptEntry.{ScriptEntry}
use Rattle.um_document.specs.declared.place.Place.{Place}
use Rattle.um_document.specs.declared.shape.Key.{Key}
use Rattle.um_document.specs.declared.shape.Section.{Section}
use Rattle.um_document.proofs.EmptyLists.{no_front, no_back}
use Rattle.um_description.specs.declared.flaw.Flaw.{Flaw}
use Rattle.um_description.specs.Duplicates.{boots_again, added, duplicates}
use Rattle.um_description.specs.Flaws.{too_large, image_flaws, flaws, meaning}
use Rattle.um_description.specs.Limits.{outside, one_too_many, top_limits, partition_limits, boot_limits, script_limits, limits}
use Rattle.um_description.specs.Lines.{unread_in, unread_lines, broken_blocks, blocks_in, blocks_of, unknown_in, unknown_in_script, script_named, scripts_up_to, is_misordered, misordered_at, misordered_in, misordered_script, if_bad, line_place}
use Rattle.um_description.specs.Names.{Text, each, is_among, named, items, names_within, pool_names, partition_names, domain_names, object_names, script_names, futex_names}
use Rattle.um_description.specs.Resolve.{partition_sizes, stack_sizes, placed, rows_among, boot_of, without_scripts, script_of, image_of}
use Rattle.um_description.specs.Unknown.{unless, unknown_in_domain, unknown_besides_grants, unknown_in_boot, unknown_in_futex, unknown_names}
use Rattle.um_description.proofs.LawfulDistinct.{is_known, are_new}
use Rattle.um_description.proofs.LawfulFutexes.{AllLie, all_lie}
use Rattle.um_description.proofs.LawfulImage.{no_flaws, all_within}
use Rattle.um_description.proofs.LawfulLines.{known_among}
use Rattle.um_description.proofs.LawfulLists.{text_itself, length_mapped}
use Rattle.um_description.proofs.LawfulNames.{all_names, no_duplicates}
use Rattle.um_description.proofs.WithoutLimits.{in_limits}
use Rattle.um_canonical.specs.Entries.{Packed, partition_entry, row_names}
use Rattle.um_canonical.specs.Fresh.{fresh_names}
use Rattle.um_canonical.proofs.PrintedEntries.{granted, rows_named, grants_again}
use Rattle.um_canonical.proofs.PrintedFutexes.{futex_limits_again, futexes_known, no_futexes_again}
use Rattle.um_canonical.proofs.RoundedPartitions.{repacked_by, entries_by, placed_alike, all_limits_again, sizes_alike, regranted}
use Rattle.um_canonical.proofs.FreshNames.{variables_free, variables_distinct}
use Rattle.um_canonical.proofs.NamedAlike.{AreNamedAlike}
use Rattle.um_canonical.proofs.DistinctNames.{as_many, no_names_again, new_split, no_partitions_again, no_domains_again, within_woven, all_new}
use Rattle.um_canonical.proofs.PrintedScripts.{printed_lines, lines_back}

abbrev pub script_again : Image → Description → ScriptEntry → ScriptEntry
script_again image d s = record { name = s.name; lines = printed_lines image d s.lines }

abbrev pub scripts_again : Image → Description → List ScriptEntry → List ScriptEntry
scripts_again image d ss = map (script_again image d) ss

-- the image but for its scripts
abbrev pub base_of : Description → Image
base_of d = without_scripts d (placed d.mpu PARTITION_AREA (partition_sizes d)) (placed d.mpu STACK_AREA (stack_sizes d))

-- the names of the variables that are printed
abbrev pub variables_for : Description → List Text
variables_for d = fresh_names (all_names d) (length d.partitions)

abbrev pub repacked : Description → List Packed
repacked d = repacked_by d.mpu (variables_for d) d.partitions

-- what is printed: partitions of one variable with rounded sizes, grants in order, canonical lines; the rest is as it was
abbrev pub reprinted : Description → Description
reprinted d =
    record d {
      partitions = map partition_entry (repacked d);
      boots = map (regranted (object_names d)) d.boots;
      scripts = scripts_again (base_of d) d d.scripts;
    }

-- ---- names

abbrev partition_name : PartitionEntry → Text
partition_name p = p.name

abbrev script_name : ScriptEntry → Text
script_name s = s.name

partitions_named : (mpu : Mpu) (variables : List Text) (ps : List PartitionEntry) → map partition_name (entries_by mpu variables ps) ≡ map partition_name ps
partitions_named mpu variables [] = refl
partitions_named mpu variables (p ∷ ps) = rw (partitions_named mpu (drop 1 variables) ps) refl

scripts_named : (image : Image) (d : Description) (ss : List ScriptEntry) → map script_name (scripts_again image d ss) ≡ map script_name ss
scripts_named image d [] = refl
scripts_named image d (s ∷ ss) = rw (scripts_named image d ss) refl

pub named_alike : (d : Description) → AreNamedAlike (reprinted d) d
named_alike d = record {
  pools = refl;
  partitions = partitions_named d.mpu (variables_for d) d.partitions;
  domains = refl;
  objects = refl;
  scripts = scripts_named (base_of d) d d.scripts;
  rodata = refl;
}

each_alike : {A B : Type 0} (f g : ℕ → A → List B) → ((i : ℕ) (x : A) → f i x ≡ g i x) → (i : ℕ) (xs : List A) → each f i xs ≡ each g i xs
each_alike f g same i [] = refl
each_alike f g same i (x ∷ xs) = rw (same i x, each_alike f g same (i + 1) xs) refl

-- ---- duplicates

boots_alike : (threads stacks : List Text) (i : ℕ) (objects : List Text) (bs : List BootEntry) → boots_again threads stacks i (map (regranted objects) bs) ≡ boots_again threads stacks i bs
boots_alike threads stacks i objects [] = refl
boots_alike threads stacks i objects (b ∷ bs) = rw (boots_alike (b.thread ∷ threads) (b.stack ∷ stacks) (i + 1) objects bs) refl

-- fewer names than there are numbers for variables
pub few_names : (d : Description) → limits d ≡ [] → length d.partitions + length (all_names d) < 1000
few_names d h =
    let is = in_limits d h in
    let a = length_mapped (λ (p : PoolEntry). p.name) d.pools in
    let b = length_mapped partition_name d.partitions in
    let c = length_mapped (λ (m : DomainEntry). m.name) d.domains in
    let e = length_mapped (λ (o : ObjectEntry). o.name) d.objects in
    let f = length_mapped script_name d.scripts in
    let l1 = length-append (pool_names d) (partition_names d) in
    let l2 = length-append (pool_names d ++ partition_names d) (domain_names d) in
    let l3 = length-append (pool_names d ++ partition_names d ++ domain_names d) (object_names d) in
    let l4 = length-append (pool_names d ++ partition_names d ++ domain_names d ++ object_names d) (script_names d) in
    let g = length_mapped (λ (x : FutexEntry). x.name) d.futexes in
    let l5 = length-append (pool_names d ++ partition_names d ++ domain_names d ++ object_names d ++ script_names d) (futex_names d) in
    omega (arith, is.pools, is.partitions, is.domains, is.objects, is.scripts, is.futexes, a, b, c, e, f, g, l1, l2, l3, l4, l5)

no_duplicates_again : (d : Description) → duplicates d ≡ [] → limits d ≡ [] → duplicates (reprinted d) ≡ []
no_duplicates_again d none within =
    let h = no_duplicates d none in
    let few = few_names d within in
    let taken = all_names d in
    let count = length d.partitions in
    let vars = variables_for d in
    let small : count + length taken < 2 ^ 64 = omega (arith, few) in
    let new = all_new d vars h (variables_free taken count) (variables_distinct taken count small) in
    let weave = within_woven d.mpu vars d.partitions (as_many taken count small) in
    let w = names_within (reprinted d).partitions in
    let rest = domain_names d ++ (object_names d ++ (script_names d ++ futex_names d)) in
    let all : are_new [] (pool_names d ++ (w ++ rest)) ≡ true = rw weave new in
    let b1 = added [] (pool_names d) in
    let b2 = added b1 w in
    let b3 = added b2 (domain_names d) in
    let b4 = added b3 (object_names d) in
    let b5 = added b4 (script_names d) in
    let s1 = new_split [] (pool_names d) (w ++ rest) all in
    let s2 = new_split b1 w rest s1.1 in
    let s3 = new_split b2 (domain_names d) (object_names d ++ (script_names d ++ futex_names d)) s2.1 in
    let s4 = new_split b3 (object_names d) (script_names d ++ futex_names d) s3.1 in
    let s5 = new_split b4 (script_names d) (futex_names d) s4.1 in
    let scripts = (named_alike d).scripts in
    let boots = boots_alike [] [] 0 (object_names d) d.boots ∙ h.boots in
    rw (
      no_names_again [] Section.Pool 0 (pool_names d) s1.0,
      no_partitions_again b1 0 (reprinted d).partitions s2.0,
      no_domains_again b2 _ 0 d.domains s3.0 h.domains,
      no_names_again b3 Section.Object 0 (object_names d) s4.0,
      boots,
      scripts,
      no_names_again b4 Section.Script 0 (script_names d) s5.0,
      no_futexes_again b5 [] 0 d.futexes s5.1 h.spots,
    ) refl

-- ---- names in keys

abbrev domain_unknown : Section → ℕ → Key → ℕ → List Text → List Text → List Place
domain_unknown s i k j names texts = each (λ j text. unless (is_some (named names text)) (Place.Item s i k j)) j texts

domains_alike : (e d : Description) → AreNamedAlike e d → (i : ℕ) (ms : List DomainEntry) → each (unknown_in_domain e) i ms ≡ each (unknown_in_domain d) i ms
domains_alike e d h i ms =
    each_alike (unknown_in_domain e) (unknown_in_domain d) (λ k m. ap (λ (ns : List Text). domain_unknown Section.Domain k Key.Partitions 0 ns (items m.partitions)) h.partitions) i ms

either : (a b : Bool) → IsTrue b → IsTrue (a || b)
either true b h = refl
either false b h = h

among_middle : (before : List Text) (name : Text) (names : List Text) → IsTrue (is_among name (before ++ name ∷ names))
among_middle [] name names = rw (text_itself name) refl
among_middle (b ∷ before) name names = either (bytes_eq name b) (is_among name (before ++ name ∷ names)) (among_middle before name names)

granted_step : (i j : ℕ) (all : List Text) (name : Text) (texts names : List Text) (b : Bool) → is_among name texts ≡ b → IsTrue (is_known all name)
    → ((j : ℕ) → domain_unknown Section.Boot i Key.Grants j all (granted texts names) ≡ []) → domain_unknown Section.Boot i Key.Grants j all (granted texts (name ∷ names)) ≡ []
granted_step i j all name texts names true is known more = rw (is, known) (more (j + 1))
granted_step i j all name texts names false is known more = rw is (more j)

granted_known : (i j : ℕ) (before names texts : List Text) → domain_unknown Section.Boot i Key.Grants j (before ++ names) (granted texts names) ≡ []
granted_known i j before [] texts = refl
granted_known i j before (name ∷ names) texts =
    let all = before ++ name ∷ names in
    let joined : (before ++ name ∷ []) ++ names ≡ all = append_assoc before (name ∷ []) names in
    granted_step i j all name texts names (is_among name texts) refl (known_among all name (among_middle before name names))
    (λ k. subst (λ (ns : List Text). domain_unknown Section.Boot i Key.Grants k ns (granted texts names) ≡ []) joined (granted_known i k (before ++ name ∷ []) names texts))

boot_known : (d : Description) (i : ℕ) (b : BootEntry) → unknown_in_boot d i b ≡ [] → unknown_in_boot (reprinted d) i (regranted (object_names d) b) ≡ []
boot_known d i b h =
    let own : unknown_besides_grants d i b ≡ [] = no_front (unknown_besides_grants d i b) (domain_unknown Section.Boot i Key.Grants 0 (object_names d) b.grants) h in
    let scripts = (named_alike d).scripts in
    let first : unknown_besides_grants (reprinted d) i (regranted (object_names d) b) ≡ [] = rw scripts own in
    let grants : domain_unknown Section.Boot i Key.Grants 0 (object_names d) (row_names (object_names d) (rows_among b.grants 0 (object_names d))) ≡ [] =
    rw (rows_named [] (object_names d) b.grants) (granted_known i 0 [] (object_names d) b.grants) in
    rw (first, grants) refl

boots_known : (d : Description) (i : ℕ) (bs : List BootEntry) → each (unknown_in_boot d) i bs ≡ [] → each (unknown_in_boot (reprinted d)) i (map (regranted (object_names d)) bs) ≡ []
boots_known d i [] h = refl
boots_known d i (b ∷ bs) h =
    rw (boot_known d i b (no_front (unknown_in_boot d i b) (each (unknown_in_boot d) (i + 1) bs) h), boots_known d (i + 1) bs (no_back (unknown_in_boot d i b) (each (unknown_in_boot d) (i + 1) bs) h)) refl

-- no entry names anything that isn't there
pub record AreKnown (d : Description) : Type 0 where
  pub domains : each (unknown_in_domain d) 0 d.domains ≡ []
  pub boots : each (unknown_in_boot d) 0 d.boots ≡ []
  pub futexes : each (unknown_in_futex d) 0 d.futexes ≡ []

pub entries_known : (d : Description) → unknown_names d ≡ [] → AreKnown d
entries_known d h =
    let ms = each (unknown_in_domain d) 0 d.domains in
    let bs = each (unknown_in_boot d) 0 d.boots in
    let fs = each (unknown_in_futex d) 0 d.futexes in
    let front = no_front (ms ++ bs) fs h in
    record { domains = no_front ms bs front; boots = no_back ms bs front; futexes = no_back (ms ++ bs) fs h }

-- each futex lies in its partition
pub futexes_lie : (d : Description) → unknown_names d ≡ [] → limits d ≡ [] → AllLie d d.futexes
futexes_lie d known h = let w = all_within d h in all_lie d 0 d.futexes w.partitions (entries_known d known).futexes w.futexes

names_known : (d : Description) → unknown_names d ≡ [] → unknown_names (reprinted d) ≡ []
names_known d h =
    let own = entries_known d h in
    rw (
      domains_alike (reprinted d) d (named_alike d) 0 d.domains ∙ own.domains,
      boots_known d 0 d.boots own.boots,
      futexes_known (reprinted d) d (named_alike d).partitions 0 d.futexes ∙ own.futexes,
    ) refl

-- ---- limits

boot_limit : (i : ℕ) (objects : List Text) (b : BootEntry) → boot_limits i (regranted objects b) ≡ boot_limits i b
unfolding boot_limits
boot_limit i objects b = refl

boot_limits_alike : (i : ℕ) (objects : List Text) (bs : List BootEntry) → each boot_limits i (map (regranted objects) bs) ≡ each boot_limits i bs
boot_limits_alike i objects [] = refl
boot_limits_alike i objects (b ∷ bs) = rw (boot_limit i objects b, boot_limits_alike (i + 1) objects bs) refl

-- what every script keeps
record AreKept (d : Description) (i : ℕ) (ss : List ScriptEntry) : Type 0 where
  limits : each script_limits i (scripts_again (base_of d) d ss) ≡ each script_limits i ss
  read : each unread_lines i (scripts_again (base_of d) d ss) ≡ []
  blocks : each blocks_of i (scripts_again (base_of d) d ss) ≡ each blocks_of i ss
  known : each (unknown_in_script (reprinted d)) i (scripts_again (base_of d) d ss) ≡ []
  order : each (misordered_script d) i (scripts_again (base_of d) d ss) ≡ each (misordered_script d) i ss
  same : map (script_of (base_of d) (reprinted d)) (scripts_again (base_of d) d ss) ≡ map (script_of (base_of d) d) ss

record IsKept (d : Description) (i : ℕ) (s : ScriptEntry) : Type 0 where
  limits : script_limits i (script_again (base_of d) d s) ≡ script_limits i s
  read : unread_lines i (script_again (base_of d) d s) ≡ []
  blocks : blocks_of i (script_again (base_of d) d s) ≡ blocks_of i s
  known : unknown_in_script (reprinted d) i (script_again (base_of d) d s) ≡ []
  order : misordered_script d i (script_again (base_of d) d s) ≡ misordered_script d i s
  same : script_of (base_of d) (reprinted d) (script_again (base_of d) d s) ≡ script_of (base_of d) d s

script_kept : (d : Description) (i : ℕ) (s : ScriptEntry) → unread_lines i s ≡ [] → unknown_in_script d i s ≡ [] → IsKept d i s
unfolding script_limits unread_in blocks_in unknown_in misordered_in
script_kept d i s read known =
    let back = lines_back (base_of d) (reprinted d) d (named_alike d) i 0 s.lines read known in
    record {
      limits = ap (λ (n : ℕ). one_too_many Section.Script SCRIPTS i ++ outside Key.Lines (pos 1) (pos LINES) (Place.Field Section.Script i Key.Lines) (pos n)) back.long;
      read = back.read;
      blocks = ap (broken_blocks false i 0) back.brackets;
      known = back.known;
      order = back.order;
      same = rw back.same refl;
    }

scripts_kept : (d : Description) (i : ℕ) (ss : List ScriptEntry) → each unread_lines i ss ≡ [] → each (unknown_in_script d) i ss ≡ [] → AreKept d i ss
scripts_kept d i [] read known = record { limits = refl; read = refl; blocks = refl; known = refl; order = refl; same = refl }
scripts_kept d i (s ∷ ss) read known =
    let here = script_kept d i s (no_front (unread_lines i s) (each unread_lines (i + 1) ss) read) (no_front (unknown_in_script d i s) (each (unknown_in_script d) (i + 1) ss) known) in
    let more = scripts_kept d (i + 1) ss (no_back (unread_lines i s) (each unread_lines (i + 1) ss) read) (no_back (unknown_in_script d i s) (each (unknown_in_script d) (i + 1) ss) known) in
    record {
      limits = rw (here.limits, more.limits) refl;
      read = rw (here.read, more.read) refl;
      blocks = rw (here.blocks, more.blocks) refl;
      known = rw (here.known, more.known) refl;
      order = rw (here.order, more.order) refl;
      same = rw (here.same, more.same) refl;
    }

-- ---- the same under the printed description's names

named_up_to : (image : Image) (d : Description) (n : ℕ) (ss : List ScriptEntry) → map script_name (take n (scripts_again image d ss)) ≡ map script_name (take n ss)
named_up_to image d zero ss = refl
named_up_to image d (suc n) [] = refl
named_up_to image d (suc n) (s ∷ ss) = rw (named_up_to image d n ss) refl

misordered_by : (e d : Description) (i : ℕ) → scripts_up_to e i ≡ scripts_up_to d i → (o : Option Text) → is_misordered e i o ≡ is_misordered d i o
misordered_by e d i same None = refl
misordered_by e d i same (Some name) = ap (λ (ns : List Text). is_among name ns) same

misordered_alike : (d : Description) (i j : ℕ) (line : Text) → misordered_at (reprinted d) i j line ≡ misordered_at d i j line
unfolding misordered_at
misordered_alike d i j line =
    ap (λ (b : Bool). if_bad b (line_place i j)) (misordered_by (reprinted d) d i (named_up_to (base_of d) d (i + 1) d.scripts) (script_named line))

misordered_scripts_alike : (d : Description) (i : ℕ) (ss : List ScriptEntry) → each (misordered_script (reprinted d)) i ss ≡ each (misordered_script d) i ss
unfolding misordered_in
misordered_scripts_alike d i ss =
    each_alike (misordered_script (reprinted d)) (misordered_script d) (λ k s. each_alike (misordered_at (reprinted d) k) (misordered_at d k) (misordered_alike d k) 0 s.lines) i ss

boot_image : (d : Description) (b : BootEntry) → boot_of (reprinted d) (regranted (object_names d) b) ≡ boot_of d b
boot_image d b =
    let scripts = (named_alike d).scripts in
    let grants = grants_again (object_names d) b.grants in
    rw (scripts, grants) refl

boots_image : (d : Description) (bs : List BootEntry) → map (boot_of (reprinted d)) (map (regranted (object_names d)) bs) ≡ map (boot_of d) bs
boots_image d [] = refl
boots_image d (b ∷ bs) = rw (boot_image d b, boots_image d bs) refl

-- ---- the image

sizes_again : (d : Description) → each partition_limits 0 d.partitions ≡ [] → partition_sizes (reprinted d) ≡ partition_sizes d
sizes_again d h = sizes_alike d.mpu (variables_for d) 0 d.partitions h

base_again : (d : Description) → each partition_limits 0 d.partitions ≡ [] → base_of (reprinted d) ≡ base_of d
base_again d h =
    let names = (named_alike d).partitions in
    rw (sizes_again d h, placed_alike d.mpu (variables_for d) (placed d.mpu PARTITION_AREA (partition_sizes d)) d.partitions, names, boots_image d d.boots) refl

image_again : (d : Description) → each partition_limits 0 d.partitions ≡ [] → AreKept d 0 d.scripts → image_of (reprinted d) ≡ image_of d
image_again d h kept =
    let base = base_again d h in
    let scripts : map (script_of (base_of (reprinted d)) (reprinted d)) (scripts_again (base_of d) d d.scripts) ≡ map (script_of (base_of d) d) d.scripts =
    ap (λ (image : Image). map (script_of image (reprinted d)) (scripts_again (base_of d) d d.scripts)) base
    ∙ kept.same in
    ap (λ (x : Image). record x { scripts = map (script_of (base_of (reprinted d)) (reprinted d)) (scripts_again (base_of d) d d.scripts) }) base
    ∙ ap (λ (ss : List Script). record (base_of d) { scripts = ss }) scripts

-- ---- no flaw

top_alike : (d : Description) → top_limits (reprinted d) ≡ top_limits d
unfolding top_limits
top_alike d = refl

within : (d : Description) → unknown_names d ≡ [] → limits d ≡ [] → AreKept d 0 d.scripts → limits (reprinted d) ≡ []
within d known h kept =
    let is = all_within d h in
    rw (
      top_alike d ∙ is.top,
      is.pools,
      all_limits_again d.mpu (variables_for d) 0 d.partitions is.partitions,
      is.domains,
      is.objects,
      boot_limits_alike 0 (object_names d) d.boots ∙ is.boots,
      kept.limits ∙ is.scripts,
      futex_limits_again d (variables_for d) 0 d.futexes is.partitions (futexes_lie d known h) is.futexes,
    ) refl

abbrev heavy : Image → List Flaw
heavy image = if nat_lt MOST_WEIGHT (weight image) then Flaw.Weight ∷ [] else []

pub no_flaws_again : (d : Description) → flaws d ≡ [] → flaws (reprinted d) ≡ []
no_flaws_again d h =
    let none = no_flaws d h in
    let kept = scripts_kept d 0 d.scripts none.read none.known in
    let is = all_within d none.within in
    let sizes = sizes_again d is.partitions in
    let image = image_again d is.partitions kept in
    let a = no_duplicates_again d none.names_new none.within in
    let b = names_known d none.names_known in
    let c = within d none.names_known none.within kept in
    let f = kept.known in
    let g = misordered_scripts_alike d 0 (scripts_again (base_of d) d d.scripts) ∙ kept.order ∙ none.order in
    let last : image_flaws (reprinted d) ≡ [] =
    ap (λ (x : Image). heavy x ++ too_large false (sum (partition_sizes (reprinted d))) ++ too_large true (sum (stack_sizes d))) image
    ∙ ap (λ (ns : List ℕ). heavy (image_of d) ++ too_large false (sum ns) ++ too_large true (sum (stack_sizes d))) sizes ∙ none.image in
    rw (a, b, c, kept.read, kept.blocks ∙ none.blocks, f, g, last) refl

-- what is printed for a description that means an image means the same image
pub means_again : (d : Description) (image : Image) → flaws d ≡ [] → image_of d ≡ image → meaning (reprinted d) ≡ Ok image
means_again d image none is =
    let kept = scripts_kept d 0 d.scripts (no_flaws d none).read (no_flaws d none).known in
    let again = image_again d (all_within d (no_flaws d none).within).partitions kept in
    rw (no_flaws_again d none) (ap (λ (x : Image). Ok x) (again ∙ is))
