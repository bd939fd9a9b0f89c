-- A description none of whose counts and numbers is out of its range is in its limits.
use Rattle.std.proofs.Common.{◌≡◌, ℕ, ◌+◌, ◌-◌, ◌^◌, ◌≤◌, min, Bool, true, false, refl, arith, List, [], ◌∷◌, ◌++◌, length, replicate, Option, Some, None, ℤ, pos, negsuc, if◌then◌else◌}
use Rattle.std.specs.Prelude.{nat_lt, nat_le, int_lt, ◌==◌, All}
use Rattle.std.proofs.Math.Nat.{min-le_left, min-eq_left}
use Rattle.std.proofs.lemmas.Bool.Decides.{nat_tests}
use Rattle.std.proofs.lemmas.List.{length-replicate, length-append}
use Rattle.std.proofs.lemmas.List.Elements.{All-cons, All-nil}
use Rattle.um_base.specs.declared.limits.TheConstants.{POOLS, PARTITIONS, DOMAINS, STATIC_ROWS, BOOTS, SCRIPTS, FUTEXES, LINES, AREA_ENTRY, DOMAIN_PARTITIONS}
use Rattle.um_document.specs.declared.description.BootEntry.{BootEntry}
use Rattle.um_document.specs.declared.description.Description.{Description}
use Rattle.um_document.specs.declared.description.Details.{Details}
use Rattle.um_document.specs.declared.description.DomainEntry.{DomainEntry}
use Rattle.um_document.specs.declared.description.FutexEntry.{FutexEntry}
use Rattle.um_document.specs.declared.description.ObjectEntry.{ObjectEntry}
use Rattle.um_document.specs.declared.description.PartitionContents.{PartitionContents}
use Rattle.um_document.specs.declared.description.PartitionEntry.{PartitionEntry}
use Rattle.um_document.specs.declared.description.PoolEntry.{PoolEntry}
use Rattle.um_document.specs.declared.description.ScriptEntry.{ScriptEntry}
use Rattle.um_document.specs.declared.description.VariableEntry.{VariableEntry}
use Rattle.um_document.specs.declared.place.Place.{Place}
use Rattle.um_document.specs.declared.shape.Key.{Key}
use Rattle.um_document.specs.declared.shape.Section.{Section}
use Rattle.um_description.specs.declared.flaw.Flaw.{Flaw}
use Rattle.um_description.specs.InLimits.{IsSize, IsInLimits}
use Rattle.um_description.specs.Limits.{outside, longer, pool_limits, variable_limits, contents_limits, partition_limits, most_parts, domain_limits, details_limits, threads_after, object_limits, objects_limits, boot_limits, script_limits, futex_limits, top_limits, limits}
use Rattle.um_description.specs.Names.{each, items}
use Rattle.um_description.specs.Numbers.{natural, clamped}
use Rattle.um_description.specs.Packing.{offset_of, end_of, last_end, size_of, with_data, bytes_from, bytes_of, size_by, asked_size, bytes_by, first_bytes}
use Rattle.um_description.specs.Resolve.{asked_stack}
use Rattle.um_description.proofs.PackingLemmas.{ends_grow}

pub none_both : {A : Type 0} (xs ys : List A) → xs ++ ys ≡ [] → (xs ≡ []) × (ys ≡ [])
none_both [] ys h = (refl, h)
none_both (x ∷ xs) ys h = cc

not_told : (b : Bool) (x : Flaw) → (if b then x ∷ [] else []) ≡ [] → b ≡ false
not_told true x h = cc
not_told false x h = refl

neither_told : (b c : Bool) (x y : Flaw) → (if b then x ∷ [] else if c then y ∷ [] else []) ≡ [] → (b ≡ false) × (c ≡ false)
neither_told true c x y h = cc
neither_told false c x y h = (refl, not_told c y h)

-- a number from 1 to the bytes of the greatest entry
size_is : (key : Key) (place : Place) (z : ℤ) → outside key (pos 1) (pos AREA_ENTRY) place z ≡ [] → (n : ℕ) × (z ≡ pos n) × (1 ≤ n) × (n ≤ AREA_ENTRY)
size_is key place (pos n) h =
    let t = neither_told (int_lt (pos n) (pos 1)) (int_lt (pos AREA_ENTRY) (pos n)) _ _ h in
    let low : nat_lt n 1 ≡ false = t.0 in
    let high : nat_lt AREA_ENTRY n ≡ false = t.1 in
    (n, refl, grind (arith, nat_tests), grind (arith, nat_tests))
size_is key place (negsuc n) h = cc

size_in : (n : ℕ) → 1 ≤ n → n ≤ AREA_ENTRY → IsSize (clamped (pos n))
size_in n low high =
    let same : min n (2 ^ 32 - 1) ≡ n = min-eq_left (omega (arith, high)) in
    let above : nat_le 1 n ≡ true = grind (arith, nat_tests) in
    let below : nat_le n 65536 ≡ true = grind (arith, nat_tests) in
    rw (same, above, below) refl

size_right : (key : Key) (place : Place) (z : ℤ) → outside key (pos 1) (pos AREA_ENTRY) place z ≡ [] → IsSize (clamped z)
size_right key place z h = let s = size_is key place z h in rw s.1 (size_in s.0 s.2 s.3)

-- a list at a key
no_longer : (key : Key) (most : ℕ) (place : Place) (n : ℕ) → longer key (pos most) place n ≡ [] → n ≤ most
no_longer key most place n h =
    let few : nat_lt most n ≡ false = not_told (int_lt (pos most) (pos n)) _ h in
    grind (arith, nat_tests)

-- how many entries a list has none of which is one too many
count_in : {A : Type 0} (most : ℕ) (f : ℕ → A → List Flaw) → ((i : ℕ) (x : A) → f i x ≡ [] → (i == most) ≡ false)
    → (i : ℕ) (xs : List A) → i ≤ most → each f i xs ≡ [] → i + length xs ≤ most
count_in most f one i [] le h = omega (arith, le)
count_in most f one i (x ∷ xs) le h =
    let p = none_both (f i x) (each f (i + 1) xs) h in
    let other : (i == most) ≡ false = one i x p.0 in
    let next : i + 1 ≤ most = grind (arith, nat_tests) in
    let rest : (i + 1) + length xs ≤ most = count_in most f one (i + 1) xs next p.1 in
    omega (arith, rest)

each_right : {A : Type 0} (P : A → Type 0) (f : ℕ → A → List Flaw) → ((i : ℕ) (x : A) → f i x ≡ [] → P x) → (i : ℕ) (xs : List A) → each f i xs ≡ [] → All P xs
each_right P f one i [] h = All-nil P
each_right P f one i (x ∷ xs) h =
    let p = none_both (f i x) (each f (i + 1) xs) h in
    All-cons P x xs (one i x p.0) (each_right P f one (i + 1) xs p.1)

none_three : {A : Type 0} (xs ys zs : List A) → xs ++ ys ++ zs ≡ [] → (xs ≡ []) × (ys ≡ []) × (zs ≡ [])
none_three xs ys zs h =
    let p = none_both (xs ++ ys) zs h in
    let q = none_both xs ys p.0 in
    (q.0, q.1, p.1)

-- Entry by entry.

pool_right : (i : ℕ) (p : PoolEntry) → pool_limits i p ≡ [] → (i == POOLS) ≡ false
unfolding pool_limits
pool_right i p h = not_told (i == POOLS) _ (none_both _ _ h).0

-- a variable's size, and no more data than that
pub variable_right : (i j : ℕ) (v : VariableEntry) → variable_limits i j v ≡ [] → (1 ≤ natural v.size) × (length (items v.data) ≤ natural v.size)
unfolding variable_limits
variable_right i j v h =
    let t = none_both _ _ h in
    let s = size_is Key.Size _ v.size t.0 in
    let few : length (items v.data) ≤ s.0 = no_longer Key.Data s.0 (Place.Variable i j Key.Data) (length (items v.data)) (rw s.1 at t.1) in
    rw s.1 (s.2, few)

-- bytes with a variable's data behind them end where the variable ends
pub data_ends : (bytes : List ℕ) (e : ℕ) (v : VariableEntry) (given : Option (List ℕ)) → length bytes ≤ e → length (items given) ≤ natural v.size
    → length (with_data bytes (offset_of e v) given) ≤ end_of e v
data_ends bytes e v None few short = omega (arith, few)
data_ends bytes e v (Some xs) few short =
    let zero : ℕ = 0 in
    let zeros = length-replicate (offset_of e v - length bytes) zero in
    let first = length-append bytes (replicate (offset_of e v - length bytes) 0) in
    let whole = length-append (bytes ++ replicate (offset_of e v - length bytes) 0) xs in
    omega (arith, few, short, zeros, first, whole)

bytes_end : (i j e : ℕ) (bytes : List ℕ) (vs : List VariableEntry) → each (variable_limits i) j vs ≡ [] → length bytes ≤ e → length (bytes_from bytes e vs) ≤ last_end e vs
bytes_end i j e bytes [] h few = few
bytes_end i j e bytes (v ∷ vs) h few =
    let t = none_both (variable_limits i j v) (each (variable_limits i) (j + 1) vs) h in
    bytes_end i (j + 1) (end_of e v) (with_data bytes (offset_of e v) v.data) vs t.1 (data_ends bytes e v v.data few (variable_right i j v t.0).1)

-- some variable makes some size
some_end : (i : ℕ) (vs : List VariableEntry) → nat_lt (length vs) 1 ≡ false → each (variable_limits i) 0 vs ≡ [] → 1 ≤ last_end 0 vs
some_end i [] some h = cc
some_end i (v ∷ vs) some h =
    let t = none_both (variable_limits i 0 v) (each (variable_limits i) 1 vs) h in
    let low = (variable_right i 0 v t.0).0 in
    let grows = ends_grow (end_of 0 v) vs in
    omega (arith, low, grows)

packed_right : (i : ℕ) (vs : List VariableEntry) → contents_limits i (PartitionContents.Variables vs) ≡ [] → (1 ≤ size_of vs) × (size_of vs ≤ AREA_ENTRY) × (length (bytes_of vs) ≤ size_of vs)
unfolding contents_limits
packed_right i vs h =
    let t = none_three _ _ _ h in
    let some : nat_lt (length vs) 1 ≡ false = (neither_told (int_lt (pos (length vs)) (pos 1)) (int_lt (pos 32) (pos (length vs))) _ _ t.0).0 in
    let low = some_end i vs some t.2 in
    let high : size_of vs ≤ AREA_ENTRY = no_longer Key.Size AREA_ENTRY _ (size_of vs) t.1 in
    let ends = bytes_end i 0 0 [] vs t.2 (omega arith) in
    (omega (arith, low), high, omega (arith, high, ends))

few_in : (n most : ℕ) → most ≤ AREA_ENTRY → n ≤ most → n ≤ clamped (pos most)
few_in n most high few = omega (arith, high, few)

-- the size that a partition asks for, and no more bytes than that
pub contents_right : (i : ℕ) (c : PartitionContents) → contents_limits i c ≡ [] → (1 ≤ size_by c) × (size_by c ≤ AREA_ENTRY) × (length (bytes_by c) ≤ size_by c)
unfolding contents_limits
contents_right i (PartitionContents.Variables vs) h = packed_right i vs h
contents_right i (PartitionContents.Whole size bytes) h =
    let t = none_both _ _ h in
    let s = size_is Key.Size _ size t.0 in
    let low : 1 ≤ s.0 = s.2 in
    let high : s.0 ≤ AREA_ENTRY = s.3 in
    let few : length bytes ≤ s.0 = no_longer Key.Data s.0 (Place.Field Section.Partition i Key.Data) (length bytes) (rw s.1 at t.1) in
    rw s.1 (omega (arith, low, high), omega (arith, low, high), few_in (length bytes) s.0 high few)

size_within : (n : ℕ) → 1 ≤ n → n ≤ AREA_ENTRY → IsSize n
size_within n low high =
    let above : nat_le 1 n ≡ true = grind (arith, nat_tests) in
    let below : nat_le n 65536 ≡ true = grind (arith, nat_tests) in
    rw (above, below) refl

partition_right : (i : ℕ) (p : PartitionEntry) → partition_limits i p ≡ [] → ((i == PARTITIONS) ≡ false) × IsSize (asked_size p) × (length (first_bytes p) ≤ AREA_ENTRY)
unfolding partition_limits
partition_right i p h =
    let t = none_both _ _ h in
    let c = contents_right i p.contents t.1 in
    let high : asked_size p ≤ AREA_ENTRY = c.1 in
    let few : length (first_bytes p) ≤ asked_size p = c.2 in
    (not_told (i == PARTITIONS) _ t.0, size_within (asked_size p) c.0 high, omega (arith, high, few))

domain_right : (most : ℕ) → most ≤ DOMAIN_PARTITIONS → (i : ℕ) (m : DomainEntry) → domain_limits most i m ≡ [] → ((i == DOMAINS) ≡ false) × (length (items m.partitions) ≤ PARTITIONS)
unfolding domain_limits
domain_right most le i m h =
    let t = none_both _ _ h in
    let few : length (items m.partitions) ≤ most = no_longer Key.Partitions most _ (length (items m.partitions)) t.1 in
    (not_told (i == DOMAINS) _ t.0, omega (arith, few, le))

abbrev sizes_in : Details → List ℕ
sizes_in k = elim k as (λ _. List ℕ) [ Details.ThreadStack size ↦ clamped size ∷ [] | _ ↦ [] ]

stack_right : (i : ℕ) (k : Details) → details_limits i k ≡ [] → All IsSize (sizes_in k)
unfolding details_limits
stack_right i (Details.ThreadStack size) h = All-cons IsSize (clamped size) [] (size_right Key.Size _ size h) (All-nil IsSize)
stack_right i Details.Thread h = All-nil IsSize
stack_right i (Details.Sem numbers) h = All-nil IsSize
stack_right i (Details.Mutex init) h = All-nil IsSize
stack_right i (Details.Msgq numbers) h = All-nil IsSize
stack_right i (Details.Stack entries) h = All-nil IsSize
stack_right i (Details.Pipe size) h = All-nil IsSize
stack_right i Details.Timer h = All-nil IsSize

object_right : (threads i : ℕ) (o : ObjectEntry) → object_limits threads i o ≡ [] → ((i == STATIC_ROWS) ≡ false) × All IsSize (asked_stack o)
unfolding object_limits
object_right threads i o h =
    let t = none_three _ _ _ h in
    (not_told (i == STATIC_ROWS) _ t.0, stack_right i o.details t.2)

objects_right : (threads i : ℕ) (os : List ObjectEntry) → i ≤ STATIC_ROWS → objects_limits threads i os ≡ []
    → (i + length os ≤ STATIC_ROWS) × All (λ (o : ObjectEntry). All IsSize (asked_stack o)) os
objects_right threads i [] le h = (omega (arith, le), All-nil (λ (o : ObjectEntry). All IsSize (asked_stack o)))
objects_right threads i (o ∷ os) le h =
    let p = none_both (object_limits threads i o) (objects_limits (threads_after threads o) (i + 1) os) h in
    let one = object_right threads i o p.0 in
    let other : (i == STATIC_ROWS) ≡ false = one.0 in
    let next : i + 1 ≤ STATIC_ROWS = grind (arith, nat_tests) in
    let rest = objects_right (threads_after threads o) (i + 1) os next p.1 in
    let few : (i + 1) + length os ≤ STATIC_ROWS = rest.0 in
    (omega (arith, few), All-cons (λ (x : ObjectEntry). All IsSize (asked_stack x)) o os one.1 rest.1)

boot_right : (i : ℕ) (b : BootEntry) → boot_limits i b ≡ [] → (i == BOOTS) ≡ false
unfolding boot_limits
boot_right i b h = not_told (i == BOOTS) _ (none_both _ _ h).0

script_right : (i : ℕ) (s : ScriptEntry) → script_limits i s ≡ [] → ((i == SCRIPTS) ≡ false) × (length s.lines ≤ LINES)
unfolding script_limits
script_right i s h =
    let t = none_both _ _ h in
    let few : nat_lt LINES (length s.lines) ≡ false = (neither_told (int_lt (pos (length s.lines)) (pos 1)) (int_lt (pos LINES) (pos (length s.lines))) _ _ t.1).1 in
    (not_told (i == SCRIPTS) _ t.0, grind (arith, nat_tests))

futex_right : (ps : List PartitionEntry) (i : ℕ) (f : FutexEntry) → futex_limits ps i f ≡ [] → (i == FUTEXES) ≡ false
unfolding futex_limits
futex_right ps i f h = not_told (i == FUTEXES) _ (none_both _ _ h).0

rodata_right : (d : Description) → top_limits d ≡ [] → length d.rodata ≤ AREA_ENTRY
unfolding top_limits
rodata_right d h = no_longer Key.Rodata AREA_ENTRY _ (length d.rodata) (none_both _ _ h).1

from_zero : (n most : ℕ) → 0 + n ≤ most → n ≤ most
from_zero n most h = omega (arith, h)

pub in_limits : (d : Description) → limits d ≡ [] → IsInLimits d
in_limits d h =
    let most = most_parts d.regions in
    let t7 = none_both _ (each (futex_limits d.partitions) 0 d.futexes) h in
    let t6 = none_both _ (each script_limits 0 d.scripts) t7.0 in
    let t5 = none_both _ (each boot_limits 0 d.boots) t6.0 in
    let t4 = none_both _ (objects_limits 0 0 d.objects) t5.0 in
    let t3 = none_both _ (each (domain_limits most) 0 d.domains) t4.0 in
    let t2 = none_both _ (each partition_limits 0 d.partitions) t3.0 in
    let t1 = none_both (top_limits d) (each pool_limits 0 d.pools) t2.0 in
    let few : most ≤ DOMAIN_PARTITIONS = min-le_left DOMAIN_PARTITIONS (natural d.regions - 3) in
    let os = objects_right 0 0 d.objects (omega arith) t4.1 in
    record {
      rodata = rodata_right d t1.0;
      pools = from_zero _ _ (count_in POOLS pool_limits pool_right 0 d.pools (omega arith) t1.1);
      partitions = from_zero _ _ (count_in PARTITIONS partition_limits (λ i p e. (partition_right i p e).0) 0 d.partitions (omega arith) t2.1);
      sizes = each_right (λ (p : PartitionEntry). IsSize (asked_size p)) partition_limits (λ i p e. (partition_right i p e).1) 0 d.partitions t2.1;
      bytes = each_right (λ (p : PartitionEntry). length (first_bytes p) ≤ AREA_ENTRY) partition_limits (λ i p e. (partition_right i p e).2) 0 d.partitions t2.1;
      domains = from_zero _ _ (count_in DOMAINS (domain_limits most) (λ i m e. (domain_right most few i m e).0) 0 d.domains (omega arith) t3.1);
      parts = each_right (λ (m : DomainEntry). length (items m.partitions) ≤ PARTITIONS) (domain_limits most) (λ i m e. (domain_right most few i m e).1) 0 d.domains t3.1;
      objects = from_zero _ _ os.0;
      stacks = os.1;
      boots = from_zero _ _ (count_in BOOTS boot_limits boot_right 0 d.boots (omega arith) t5.1);
      scripts = from_zero _ _ (count_in SCRIPTS script_limits (λ i s e. (script_right i s e).0) 0 d.scripts (omega arith) t6.1);
      futexes = from_zero _ _ (count_in FUTEXES (futex_limits d.partitions) (futex_right d.partitions) 0 d.futexes (omega arith) t7.1);
      lines = each_right (λ (s : ScriptEntry). length s.lines ≤ LINES) script_limits (λ i s e. (script_right i s e).1) 0 d.scripts t6.1;
    }
