-- Partitions come back with their rounded sizes, which are placed alike; boot entries come back with their grants in the order of the objects.
use Rattle.std.proofs.Common.{◌≡◌, ℕ, ◌+◌, ◌≤◌, Bool, false, ◌==◌, nat_le, nat_lt, List, [], ◌∷◌, map, drop, length, Option, Some, None, option_map, is_some, IsTrue, ℤ, pos, negsuc, int_lt, refl, ap, ◌∙◌, arith}
use Rattle.std.proofs.lemmas.Bool.{false≢true}
use Rattle.std.proofs.lemmas.Bool.Decides.{nat_tests}
use Rattle.um_base.specs.declared.limits.TheConstants.{AREA_ENTRY, PARTITIONS, BOOTS}
use Rattle.um_base.specs.declared.names.Mpu.{Mpu}
use Rattle.um_base.specs.declared.names.Range.{Range}
use Rattle.um_base.specs.Lawful.{is_within, is_rounded}
use Rattle.um_base.specs.Layout.{rounded}
use Rattle.um_document.specs.declared.description.Alignment.{Alignment}
use Rattle.um_document.specs.declared.description.BootEntry.{BootEntry}
use Rattle.um_document.specs.declared.description.Description.{Description}
use Rattle.um_document.specs.declared.description.PartitionEntry.{PartitionEntry}
use Rattle.um_document.specs.declared.description.VariableEntry.{VariableEntry}
use Rattle.um_document.specs.declared.place.Place.{Place}
use Rattle.um_document.specs.declared.shape.Key.{Key}
use Rattle.um_document.specs.declared.shape.Section.{Section}
use Rattle.um_description.specs.Limits.{outside, longer, one_too_many, variable_limits, contents_limits, partition_limits, boot_limits}
use Rattle.um_description.specs.Names.{Text, each, items, named, passes, is_thread, is_thread_stack, is_initialised, pool_names, domain_names, object_names, script_names}
use Rattle.um_description.specs.Packing.{size_of, bytes_of, asked_size, first_bytes}
use Rattle.um_description.specs.Resolve.{lowered, ranges_at, placed_partitions, number_named, rows_among, boot_of}
use Rattle.um_description.proofs.LawfulBoots.{IsKnownBoot}
use Rattle.um_description.proofs.LawfulDistinct.{is_known}
use Rattle.um_description.proofs.LawfulLayout.{sizes_asked}
use Rattle.um_description.proofs.LawfulLists.{no_front, no_back, and_true}
use Rattle.um_description.proofs.LawfulRanges.{inside, rounded_size}
use Rattle.um_description.proofs.WithoutLimits.{contents_right}
use Rattle.um_canonical.specs.Entries.{Packed, given, partition_entry, packed_by, boot_entry, row_names}
use Rattle.um_canonical.specs.Fresh.{first_name}
use Rattle.um_canonical.specs.Named.{name_at}
use Rattle.um_canonical.proofs.PrintedLines.{name_back}

-- ---- partitions

-- partitions with rounded sizes, and these names for their variables
abbrev pub repacked_by : Mpu → List Text → List PartitionEntry → List Packed
repacked_by mpu variables [] = []
repacked_by mpu variables (p ∷ ps) =
    record { name = p.name; attr = p.attr; variable = first_name variables; size = pos (rounded mpu (asked_size p)); bytes = first_bytes p }
    ∷ repacked_by mpu (drop 1 variables) ps

abbrev pub entries_by : Mpu → List Text → List PartitionEntry → List PartitionEntry
entries_by mpu variables ps = map partition_entry (repacked_by mpu variables ps)

pub partitions_back : (mpu : Mpu) (variables : List Text) (places : List ℕ) (ps : List PartitionEntry) → length places ≡ length ps
    → packed_by variables (placed_partitions (ranges_at places (sizes_asked mpu ps)) ps) ≡ repacked_by mpu variables ps
partitions_back mpu variables [] [] h = refl
partitions_back mpu variables [] (p ∷ ps) h = absurd (omega (arith, h))
partitions_back mpu variables (place ∷ places) [] h = absurd (omega (arith, h))
partitions_back mpu variables (place ∷ places) (p ∷ ps) h = rw (partitions_back mpu (drop 1 variables) places ps (omega (arith, h))) refl

-- one variable at the start has its bytes and its size
abbrev one_variable : Text → ℕ → List ℕ → VariableEntry
one_variable name n bytes = record { name = name; size = pos n; align = Alignment.ThirtyTwo; «data» = given bytes }

bytes_kept : (name : Text) (n : ℕ) (bytes : List ℕ) → bytes_of (one_variable name n bytes ∷ []) ≡ bytes
bytes_kept name n [] = refl
bytes_kept name n (b ∷ bs) = refl

given_kept : (bytes : List ℕ) → items (given bytes) ≡ bytes
given_kept [] = refl
given_kept (b ∷ bs) = refl

pub size_kept : (name : Text) (n : ℕ) (bytes : List ℕ) → n ≤ 65536 → size_of (one_variable name n bytes ∷ []) ≡ n
size_kept name n bytes most = omega (arith, most)

pub placed_alike : (mpu : Mpu) (variables : List Text) (ranges : List Range) (ps : List PartitionEntry) → placed_partitions ranges (entries_by mpu variables ps) ≡ placed_partitions ranges ps
placed_alike mpu variables [] ps = refl
placed_alike mpu variables (range ∷ ranges) [] = refl
placed_alike mpu variables (range ∷ ranges) (p ∷ ps) =
    rw (bytes_kept (first_name variables) (rounded mpu (asked_size p)) (first_bytes p), placed_alike mpu (drop 1 variables) ranges ps) refl

-- a rounded size, in its limits
pub record IsRound (mpu : Mpu) (n : ℕ) : Type 0 where
  pub least : 1 ≤ n
  pub most : n ≤ 65536
  pub again : rounded mpu n ≡ n

round_by : (mpu : Mpu) (n : ℕ) → IsTrue (is_rounded mpu n) → IsRound mpu n
round_by mpu n h =
    let both = and_true (is_within 1 AREA_ENTRY n) (rounded mpu n == n) h in
    let range = and_true (nat_le 1 n) (nat_le n AREA_ENTRY) both.0 in
    record { least = grind (arith, nat_tests, range.0); most = grind (arith, nat_tests, range.1); again = grind (arith, nat_tests, both.1) }

-- what the limits of a partition give
pub record IsSized (mpu : Mpu) (p : PartitionEntry) : Type 0 where
  pub round : IsRound mpu (rounded mpu (asked_size p))
  pub room : length (first_bytes p) ≤ rounded mpu (asked_size p)

pub sized : (mpu : Mpu) (i : ℕ) (p : PartitionEntry) → partition_limits i p ≡ [] → IsSized mpu p
unfolding partition_limits
sized mpu i p h =
    let c = contents_right i p.contents (no_back (one_too_many Section.Partition PARTITIONS i) (contents_limits i p.contents) h) in
    let room = rounded_size mpu (asked_size p) (record { least = c.0; most = c.1 }) in
    let few : length (first_bytes p) ≤ asked_size p = c.2 in
    let wide = room.room in
    record { round = round_by mpu (rounded mpu (asked_size p)) room.guarded; room = omega (arith, few, wide) }

pub none_outside : (key : Key) (low high n : ℕ) (place : Place) → low ≤ n → n ≤ high → outside key (pos low) (pos high) place (pos n) ≡ []
none_outside key low high n place h k =
    let a : nat_lt n low ≡ false = grind (arith, nat_tests) in
    let b : nat_lt high n ≡ false = grind (arith, nat_tests) in
    rw (a, b) refl

none_longer : (key : Key) (most n : ℕ) (place : Place) → n ≤ most → longer key (pos most) place n ≡ []
none_longer key most n place h = let a : nat_lt most n ≡ false = grind (arith, nat_tests) in rw a refl

-- such a partition has no limit that it exceeds
limits_again : (mpu : Mpu) (variables : List Text) (i : ℕ) (p : PartitionEntry) (ps : List PartitionEntry) → partition_limits i p ≡ []
    → partition_limits i (partition_entry (record { name = p.name; attr = p.attr; variable = first_name variables; size = pos (rounded mpu (asked_size p)); bytes = first_bytes p })) ≡ []
unfolding partition_limits contents_limits variable_limits
limits_again mpu variables i p ps h =
    let is = sized mpu i p h in
    let n = rounded mpu (asked_size p) in
    let bytes = first_bytes p in
    let first = no_front (one_too_many Section.Partition PARTITIONS i) (contents_limits i p.contents) h in
    let whole = none_longer Key.Size AREA_ENTRY n (Place.Field Section.PackedPartition i Key.Vars) is.round.most in
    rw (
      first,
      none_outside Key.Size 1 AREA_ENTRY n (Place.Variable i 0 Key.Size) is.round.least is.round.most,
      given_kept bytes,
      none_longer Key.Data n (length bytes) (Place.Variable i 0 Key.Data) is.room,
      size_kept (first_name variables) n bytes is.round.most,
      whole,
    ) refl

pub all_limits_again : (mpu : Mpu) (variables : List Text) (i : ℕ) (ps : List PartitionEntry) → each partition_limits i ps ≡ [] → each partition_limits i (entries_by mpu variables ps) ≡ []
all_limits_again mpu variables i [] h = refl
all_limits_again mpu variables i (p ∷ ps) h =
    rw (limits_again mpu variables i p ps (no_front (partition_limits i p) (each partition_limits (i + 1) ps) h))
    (all_limits_again mpu (drop 1 variables) (i + 1) ps (no_back (partition_limits i p) (each partition_limits (i + 1) ps) h))

pub sizes_alike : (mpu : Mpu) (variables : List Text) (i : ℕ) (ps : List PartitionEntry) → each partition_limits i ps ≡ [] → sizes_asked mpu (entries_by mpu variables ps) ≡ sizes_asked mpu ps
sizes_alike mpu variables i [] h = refl
sizes_alike mpu variables i (p ∷ ps) h =
    let is = sized mpu i p (no_front (partition_limits i p) (each partition_limits (i + 1) ps) h) in
    let n = rounded mpu (asked_size p) in
    let round = is.round in
    let here : rounded mpu (size_of (one_variable (first_name variables) n (first_bytes p) ∷ [])) ≡ n = ap (rounded mpu) (size_kept (first_name variables) n (first_bytes p) round.most) ∙ round.again in
    rw (here, sizes_alike mpu (drop 1 variables) (i + 1) ps (no_back (partition_limits i p) (each partition_limits (i + 1) ps) h)) refl

-- ---- boot entries

abbrev pub regranted : List Text → BootEntry → BootEntry
regranted objects b = record b { grants = row_names objects (rows_among b.grants 0 objects) }

priority_kept : (z : ℤ) → int_lt z (negsuc 15) ≡ false → int_lt (pos 14) z ≡ false → lowered z ≡ z
priority_kept (pos n) h k = let small : nat_lt 127 n ≡ false = grind (arith, nat_tests) in rw small refl
priority_kept (negsuc n) h k = let small : nat_lt 127 n ≡ false = grind (arith, nat_tests) in rw small refl

passed : {A : Type 0} (test : A → Bool) (xs : List A) (o : Option ℕ) → IsTrue (passes test xs o) → IsTrue (is_some o)
passed test xs None h = absurd (false≢true h)
passed test xs (Some i) h = refl

pool_back : (names : List Text) (o : Option Text) → elim o as (λ _. Type 0) [ None ↦ Unit {0} | Some text ↦ IsTrue (is_known names text) ] → option_map (name_at names) (option_map (number_named names) o) ≡ o
pool_back names None h = refl
pool_back names (Some text) h = ap Some (name_back names text h)

pub boot_back : (d : Description) (i : ℕ) (b : BootEntry) → boot_limits i b ≡ [] → IsKnownBoot d b
    → boot_entry (object_names d) (script_names d) (domain_names d) (pool_names d) (boot_of d b) ≡ regranted (object_names d) b
unfolding boot_limits
boot_back d i b limits known =
    let z = inside Key.Priority (negsuc 15) (pos 14) (Place.Field Section.Boot i Key.Priority) b.priority
    (no_back (one_too_many Section.Boot BOOTS i) (outside Key.Priority (negsuc 15) (pos 14) (Place.Field Section.Boot i Key.Priority) b.priority) limits) in
    let thread = name_back (object_names d) b.thread (passed is_thread d.objects (named (object_names d) b.thread) known.thread) in
    let stack = name_back (object_names d) b.stack (passed is_thread_stack d.objects (named (object_names d) b.stack) known.stack) in
    let script = name_back (script_names d) b.script known.script in
    let domain = name_back (domain_names d) b.domain (passed is_initialised d.domains (named (domain_names d) b.domain) known.domain) in
    let pool = pool_back (pool_names d) b.pool known.pool in
    let kept = priority_kept b.priority z.0 z.1 in
    rw (thread, stack, script, domain, pool, kept) refl
