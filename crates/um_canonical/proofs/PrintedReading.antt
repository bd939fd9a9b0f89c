-- The printed text of an image is read as the description that is printed, which means that image.
use Rattle.std.proofs.Common.{◌≡◌, ℕ, zero, suc, ℤ, ◌+◌, ◌-◌, ◌*◌, ◌∙◌, ◌++◌, length, replicate, ◌^◌, ◌<◌, ◌≤◌, pos, negsuc, int_lt, Bool, true, false, if◌then◌else◌, List, [], ◌∷◌, map, bytes_eq, Option, Some, None, option_map, is_some, IsTrue, Ok, refl, sym, ap, subst, arith}
use Rattle.std.proofs.lemmas.Bool.{and_parts, false≢true, true≢false}
use Rattle.std.proofs.lemmas.Bool.Decides.{nat_tests}
use Rattle.std.proofs.lemmas.List.Folds.{list_all-append}
use Rattle.std.specs.List.{list_all}
use Rattle.toml.specs.Data.{as_table, as_array, Items, no_items, item, Members}
use Rattle.um_base.specs.declared.image.Image.{Image}
use Rattle.um_base.specs.declared.limits.TheConstants.{POOLS, AREA_ENTRY, BOOTS}
use Rattle.um_base.specs.declared.names.Mpu.{Mpu}
use Rattle.um_base.specs.Lawful.{is_name}
use Rattle.um_document.specs.declared.description.BootEntry.{BootEntry}
use Rattle.um_document.specs.declared.description.Description.{Description}
use Rattle.um_document.specs.declared.description.Details.{Details}
use Rattle.um_document.specs.declared.description.DomainEntry.{DomainEntry}
use Rattle.um_document.specs.declared.description.FutexEntry.{FutexEntry}
use Rattle.um_document.specs.declared.description.ObjectEntry.{ObjectEntry}
use Rattle.um_document.specs.declared.description.PartitionEntry.{PartitionEntry}
use Rattle.um_document.specs.declared.description.PoolEntry.{PoolEntry}
use Rattle.um_document.specs.declared.description.ScriptEntry.{ScriptEntry}
use Rattle.um_document.specs.declared.description.VariableEntry.{VariableEntry}
use Rattle.um_document.specs.declared.place.Place.{Place}
use Rattle.um_document.specs.declared.shape.Key.{Key}
use Rattle.um_document.specs.declared.shape.Section.{Section}
use Rattle.um_document.specs.Faults.{ReadsDocument}
use Rattle.um_document.specs.Forms.{digit_value, decoded}
use Rattle.um_document.specs.LawfulNames.{has_given_attr, AreLawfulNames}
use Rattle.um_document.specs.Parts.{◌>>=◌, value_at}
use Rattle.um_document.specs.Reading.{with_table, text_at, text_given, entries_of, variable_of, contents_by, partition_of}
use Rattle.um_document.proofs.EmptyLists.{and_true, no_front, no_back}
use Rattle.um_description.specs.Flaws.{flaws}
use Rattle.um_description.specs.Limits.{outside, longer, one_too_many, limits, top_limits, pool_limits, partition_limits, details_limits, objects_limits, boot_limits, threads_after}
use Rattle.um_description.specs.Lines.{unread_in, unread_lines, unknown_in, unknown_in_script}
use Rattle.um_description.specs.Names.{Text, each, items, is_among, named, passes, is_thread, is_thread_stack, is_initialised, pool_names, partition_names, domain_names, object_names, script_names}
use Rattle.um_description.specs.Packing.{offset_of, end_of, with_data, bytes_from, bytes_by, first_bytes}
use Rattle.um_description.specs.Resolve.{rows_among, image_of}
use Rattle.um_description.specs.Unknown.{unknown_in_domain, unknown_in_boot}
use Rattle.um_description.proofs.LawfulDistinct.{is_known}
use Rattle.um_description.proofs.LawfulDomains.{all_known}
use Rattle.um_description.proofs.LawfulFutexes.{AllLie}
use Rattle.um_description.proofs.LawfulImage.{no_flaws, all_within}
use Rattle.um_description.proofs.LawfulLists.{same_text}
use Rattle.um_description.proofs.LawfulNames.{all_names}
use Rattle.um_description.proofs.LawfulObjects.{own_limits, later_limits}
use Rattle.um_description.proofs.LawfulRanges.{inside}
use Rattle.um_canonical.specs.Printed.{document_lines}
use Rattle.um_canonical.proofs.Toml.Ascii.{lines_utf8}
use Rattle.um_canonical.proofs.Toml.Runs.{document_again}
use Rattle.um_canonical.proofs.Toml.Values.{ArePlain}
use Rattle.um_canonical.specs.Entries.{Packed, partition_entry, row_names}
use Rattle.um_canonical.specs.Text.{top_of, sections_of, text_for, described, printed_text}
use Rattle.um_description.proofs.LawfulBoots.{known_boot}
use Rattle.um_canonical.proofs.PrintedDescription.{packed_again, described_again}
use Rattle.um_canonical.proofs.PrintedEntries.{granted, rows_named, natural_count}
use Rattle.um_canonical.proofs.PrintedForm.{table_for, partition_is, boot_is, script_is, IsFormed, no_form_faults, description_again}
use Rattle.um_canonical.proofs.PrintedMeaning.{variables_for, repacked, reprinted, named_alike, few_names, base_of, scripts_again, entries_known, futexes_lie}
use Rattle.um_canonical.proofs.DistinctNames.{as_many, fresh_lawful}
use Rattle.um_canonical.proofs.RoundedPartitions.{repacked_by, regranted, sized}
use Rattle.um_canonical.proofs.PlainDocument.{Fits, Plain, GivenPlain, DetailsFit, PoolPlain, Each, PoolIsPlain, PartitionIsPlain, DomainIsPlain, ObjectIsPlain, BootIsPlain, ScriptIsPlain, FutexIsPlain, IsPlainDescription, pos_fits, negative_fits, document_plain}
use Rattle.um_canonical.proofs.PlainLines.{name_plain}
use Rattle.um_canonical.proofs.PrintedScripts.{lines_back}
use Rattle.um_canonical.proofs.PrintedSections.{is_byte}

-- ---- bytes

digit_small : (b : ℕ) → digit_value b < 16
digit_small b = grind (arith, nat_tests)

pub decoded_bytes : (s : List ℕ) → list_all is_byte (decoded s) ≡ true
decoded_bytes [] = refl
decoded_bytes (a ∷ []) = refl
decoded_bytes (a ∷ b ∷ s) =
    let high = digit_small a in
    let low = digit_small b in
    let small : 16 * digit_value a + digit_value b < 256 = omega (arith, high, low) in
    let here : is_byte (16 * digit_value a + digit_value b) ≡ true = grind (arith, nat_tests, small) in
    rw (here, decoded_bytes s) refl

-- what a partition begins with are bytes
abbrev pub has_bytes : PartitionEntry → Bool
has_bytes p = list_all is_byte (first_bytes p)

abbrev variable_bytes : VariableEntry → Bool
variable_bytes v = list_all is_byte (items v.data)

zero_bytes : (n : ℕ) → list_all is_byte (replicate n 0) ≡ true
zero_bytes zero = refl
zero_bytes (suc n) = zero_bytes n

both_bytes : (xs ys : List ℕ) → list_all is_byte xs ≡ true → list_all is_byte ys ≡ true → list_all is_byte (xs ++ ys) ≡ true
both_bytes xs ys h k = list_all-append is_byte xs ys ∙ rw (h, k) refl

put_bytes : (bytes : List ℕ) (offset : ℕ) (o : Option (List ℕ)) → list_all is_byte bytes ≡ true → list_all is_byte (items o) ≡ true → list_all is_byte (with_data bytes offset o) ≡ true
put_bytes bytes offset None h k = h
put_bytes bytes offset (Some xs) h k =
    let zeros = replicate (offset - length bytes) 0 in
    both_bytes (bytes ++ zeros) xs (both_bytes bytes zeros h (zero_bytes (offset - length bytes))) k

from_bytes : (bytes : List ℕ) (end : ℕ) (vs : List VariableEntry) → list_all is_byte bytes ≡ true → list_all variable_bytes vs ≡ true → list_all is_byte (bytes_from bytes end vs) ≡ true
from_bytes bytes end [] h k = h
from_bytes bytes end (v ∷ vs) h k =
    let both = and_parts (variable_bytes v) (list_all variable_bytes vs) k in
    from_bytes (with_data bytes (offset_of end v) v.data) (end_of end v) vs (put_bytes bytes (offset_of end v) v.data h both.0) both.1

given_decoded : (o : Option (List ℕ)) → list_all is_byte (items (option_map decoded o)) ≡ true
given_decoded None = refl
given_decoded (Some s) = decoded_bytes s

variable_by : (o : Option Members) (rest : List VariableEntry) → list_all variable_bytes rest ≡ true → list_all variable_bytes (with_table variable_of o rest) ≡ true
variable_by None rest h = h
variable_by (Some t) rest h = rw (given_decoded (text_given Key.Data t), h) refl

variables_bytes : (ds : Items) → list_all variable_bytes (entries_of variable_of ds) ≡ true
variables_bytes no_items = refl
variables_bytes (item d ds) = variable_by (as_table d) (entries_of variable_of ds) (variables_bytes ds)

contents_bytes : (o : Option Items) (t : Members) → list_all is_byte (bytes_by (contents_by o t)) ≡ true
contents_bytes None t = decoded_bytes (text_at Key.Data t)
contents_bytes (Some ds) t = from_bytes [] 0 (entries_of variable_of ds) refl (variables_bytes ds)

with_bytes : (o : Option Members) (rest : List PartitionEntry) → list_all has_bytes rest ≡ true → list_all has_bytes (with_table partition_of o rest) ≡ true
with_bytes None rest h = h
with_bytes (Some t) rest h = rw (contents_bytes (value_at Key.Vars t >>= as_array) t, h) refl

pub entries_bytes : (ds : Items) → list_all has_bytes (entries_of partition_of ds) ≡ true
entries_bytes no_items = refl
entries_bytes (item d ds) = with_bytes (as_table d) (entries_of partition_of ds) (entries_bytes ds)

-- ---- lists

unmapped : {A : Type 0} (f : A → Text) (xs : List A) → list_all is_name (map f xs) ≡ true → list_all (λ x. is_name (f x)) xs ≡ true
unmapped f [] h = refl
unmapped f (x ∷ xs) h =
    let both = and_parts (is_name (f x)) (list_all is_name (map f xs)) h in
    rw (both.0, unmapped f xs both.1) refl

-- names for as many variables as there are partitions
abbrev AreNamesFor : List Text → List PartitionEntry → Type 0
AreNamesFor variables ps = (list_all is_name variables ≡ true) × (length variables ≡ length ps)

partitions_formed : (mpu : Mpu) (variables : List Text) (ps : List PartitionEntry) → AreNamesFor variables ps → list_all is_name (map (λ (p : PartitionEntry). p.name) ps) ≡ true → list_all has_given_attr ps ≡ true → list_all has_bytes ps ≡ true
    → list_all partition_is (repacked_by mpu variables ps) ≡ true
partitions_formed mpu [] [] vars h k l = refl
partitions_formed mpu (v ∷ vs) [] vars h k l = refl
partitions_formed mpu [] (p ∷ ps) vars h k l = absurd (omega (arith, vars.1))
partitions_formed mpu (v ∷ vs) (p ∷ ps) vars h k l =
    let a = and_parts (is_name p.name) (list_all is_name (map (λ (p : PartitionEntry). p.name) ps)) h in
    let b = and_parts (has_given_attr p) (list_all has_given_attr ps) k in
    let c = and_parts (has_bytes p) (list_all has_bytes ps) l in
    let e = and_parts (is_name v) (list_all is_name vs) vars.0 in
    rw (a.0, b.0, c.0, e.0, partitions_formed mpu vs ps (e.1, omega (arith, vars.1)) a.1 b.1 c.1) refl

names_for : (d : Description) → limits d ≡ [] → AreNamesFor (variables_for d) d.partitions
names_for d h =
    let few = few_names d h in
    (fresh_lawful (all_names d) (length d.partitions) few, as_many (all_names d) (length d.partitions) (omega (arith, few)))

boots_formed : (bs : List BootEntry) → list_all boot_is bs ≡ true
boots_formed [] = refl
boots_formed (b ∷ bs) = boots_formed bs

scripts_formed : (image : Image) (d : Description) (ss : List ScriptEntry) → list_all is_name (map (λ (s : ScriptEntry). s.name) ss) ≡ true → list_all script_is (scripts_again image d ss) ≡ true
scripts_formed image d [] h = refl
scripts_formed image d (s ∷ ss) h =
    let both = and_parts (is_name s.name) (list_all is_name (map (λ (s : ScriptEntry). s.name) ss)) h in
    rw (both.0, scripts_formed image d ss both.1) refl

formed : (d : Description) → AreLawfulNames d → list_all is_byte d.rodata ≡ true → list_all has_bytes d.partitions ≡ true → limits d ≡ [] → IsFormed (reprinted d) (repacked d)
formed d words rodata bytes within = record {
  rodata = rodata;
  pools = unmapped (λ (p : PoolEntry). p.name) d.pools words.pools;
  partitions = partitions_formed d.mpu (variables_for d) d.partitions (names_for d within) words.partitions words.attributes bytes;
  domains = unmapped (λ (m : DomainEntry). m.name) d.domains words.domains;
  objects = unmapped (λ (o : ObjectEntry). o.name) d.objects words.objects;
  boots = boots_formed (map (regranted (object_names d)) d.boots);
  scripts = scripts_formed (base_of d) d d.scripts words.scripts;
  futexes = unmapped (λ (f : FutexEntry). f.name) d.futexes words.futexes;
}

-- ---- numbers that a document can write

fits_between : (low high : ℕ) (z : ℤ) → high < 2 ^ 63 → int_lt z (pos low) ≡ false → int_lt (pos high) z ≡ false → Fits z
fits_between low high (pos n) small h k = let most : n ≤ high = grind (arith, nat_tests) in pos_fits n (omega (arith, most, small))
fits_between low high (negsuc n) small h k = absurd (true≢false h)

fits_in : (key : Key) (low high : ℕ) (place : Place) (z : ℤ) → high < 2 ^ 63 → outside key (pos low) (pos high) place z ≡ [] → Fits z
fits_in key low high place z small h = let both = inside key (pos low) (pos high) place z h in fits_between low high z small both.0 both.1

count_fits : (count limit : ℤ) → int_lt count (pos 0) ≡ false → int_lt limit count ≡ false → int_lt (pos 4294967295) limit ≡ false → Fits count
count_fits count limit h k m =
    let n = natural_count count limit h k m in
    subst Fits (sym n.1) (pos_fits n.0 (omega (arith, n.2)))

priority_fits : (z : ℤ) → int_lt z (negsuc 15) ≡ false → int_lt (pos 14) z ≡ false → Fits z
priority_fits (pos n) h k = let most : n ≤ 14 = grind (arith, nat_tests) in pos_fits n (omega (arith, most))
priority_fits (negsuc n) h k = let most : n ≤ 15 = grind (arith, nat_tests) in negative_fits n (omega (arith, most))

details_fit : (i : ℕ) (details : Details) → details_limits i details ≡ [] → DetailsFit details
unfolding details_limits
details_fit i Details.Thread h = tt
details_fit i (Details.ThreadStack size) h = fits_in Key.Size 1 65536 (Place.Field Section.Object i Key.Size) size (omega arith) h
details_fit i (Details.Sem None) h = tt
details_fit i (Details.Sem (Some n)) h =
    let first = outside Key.Count (pos 0) n.limit (Place.Field Section.Object i Key.Count) n.count in
    let second = outside Key.Limit (pos 1) (pos 4294967295) (Place.Field Section.Object i Key.Limit) n.limit in
    let count = inside Key.Count (pos 0) n.limit (Place.Field Section.Object i Key.Count) n.count (no_front first second h) in
    let limit = inside Key.Limit (pos 1) (pos 4294967295) (Place.Field Section.Object i Key.Limit) n.limit (no_back first second h) in
    (count_fits n.count n.limit count.0 count.1 limit.1, fits_between 1 4294967295 n.limit (omega arith) limit.0 limit.1)
details_fit i (Details.Mutex init) h = tt
details_fit i (Details.Msgq None) h = tt
details_fit i (Details.Msgq (Some n)) h =
    let first = outside Key.MsgSize (pos 1) (pos 256) (Place.Field Section.Object i Key.MsgSize) n.msg_size in
    let second = outside Key.MaxMsgs (pos 1) (pos 64) (Place.Field Section.Object i Key.MaxMsgs) n.max_msgs in (
      fits_in Key.MsgSize 1 256 (Place.Field Section.Object i Key.MsgSize) n.msg_size (omega arith) (no_front first second h),
      fits_in Key.MaxMsgs 1 64 (Place.Field Section.Object i Key.MaxMsgs) n.max_msgs (omega arith) (no_back first second h),
    )
details_fit i (Details.Stack None) h = tt
details_fit i (Details.Stack (Some n)) h = fits_in Key.Entries 1 64 (Place.Field Section.Object i Key.Entries) n (omega arith) h
details_fit i (Details.Pipe None) h = tt
details_fit i (Details.Pipe (Some n)) h = fits_in Key.Size 1 256 (Place.Field Section.Object i Key.Size) n (omega arith) h
details_fit i Details.Timer h = tt

-- ---- texts are names

some_of : (o : Option ℕ) → IsTrue (is_some (option_map (λ i. i + 1) o)) → IsTrue (is_some o)
some_of None h = h
some_of (Some i) h = refl

known_by : (text name : Text) (names : List Text) (b : Bool) → bytes_eq text name ≡ b → is_name name ≡ true → IsTrue (is_some (if b then Some 0 else option_map (λ i. i + 1) (named names text)))
    → (IsTrue (is_known names text) → Plain text) → Plain text
known_by text name names true is lawful known later = subst (λ (t : Text). Plain t) (sym (same_text text name is)) (name_plain name lawful)
known_by text name names false is lawful known later = later (some_of (named names text) known)

known_plain : (names : List Text) (text : Text) → list_all is_name names ≡ true → IsTrue (is_known names text) → Plain text
known_plain [] text h known = absurd (false≢true known)
known_plain (name ∷ names) text h known =
    let both = and_parts (is_name name) (list_all is_name names) h in
    known_by text name names (bytes_eq text name) refl both.0 known (known_plain names text both.1)

texts_plain : (names texts : List Text) → list_all is_name names ≡ true → IsTrue (list_all (is_known names) texts) → ArePlain texts
texts_plain names [] h known = tt
texts_plain names (t ∷ ts) h known =
    let both = and_true (is_known names t) (list_all (is_known names) ts) known in
    (known_plain names t h both.0, texts_plain names ts h both.1)

granted_by : (texts : List Text) (name : Text) (names : List Text) (b : Bool) → is_among name texts ≡ b → Plain name → ArePlain (granted texts names) → ArePlain (granted texts (name ∷ names))
granted_by texts name names true is here more = rw is (here, more)
granted_by texts name names false is here more = rw is more

granted_plain : (texts names : List Text) → list_all is_name names ≡ true → ArePlain (granted texts names)
granted_plain texts [] h = tt
granted_plain texts (name ∷ names) h =
    let both = and_parts (is_name name) (list_all is_name names) h in
    granted_by texts name names (is_among name texts) refl (name_plain name both.0) (granted_plain texts names both.1)

passed : {A : Type 0} (test : A → Bool) (xs : List A) (o : Option ℕ) → IsTrue (passes test xs o) → IsTrue (is_some o)
passed test xs None h = absurd (false≢true h)
passed test xs (Some i) h = refl

-- ---- the printed description is plain

pools_plain : (i : ℕ) (ps : List PoolEntry) → list_all is_name (map (λ (p : PoolEntry). p.name) ps) ≡ true → each pool_limits i ps ≡ [] → Each PoolIsPlain ps
unfolding pool_limits
pools_plain i [] h k = tt
pools_plain i (p ∷ ps) h k =
    let both = and_parts (is_name p.name) (list_all is_name (map (λ (p : PoolEntry). p.name) ps)) h in
    let own = no_front (pool_limits i p) (each pool_limits (i + 1) ps) k in
    let size = no_back (one_too_many Section.Pool POOLS i) (outside Key.Size (pos 0) (pos AREA_ENTRY) (Place.Field Section.Pool i Key.Size) p.size) own in
    ((name_plain p.name both.0, fits_in Key.Size 0 AREA_ENTRY (Place.Field Section.Pool i Key.Size) p.size (omega arith) size), pools_plain (i + 1) ps both.1 (no_back (pool_limits i p) (each pool_limits (i + 1) ps) k))

partitions_plain : (mpu : Mpu) (variables : List Text) (i : ℕ) (ps : List PartitionEntry) → AreNamesFor variables ps → list_all is_name (map (λ (p : PartitionEntry). p.name) ps) ≡ true → list_all has_bytes ps ≡ true
    → each partition_limits i ps ≡ [] → Each PartitionIsPlain (repacked_by mpu variables ps)
partitions_plain mpu [] i [] vars h l k = tt
partitions_plain mpu (v ∷ vs) i [] vars h l k = tt
partitions_plain mpu [] i (p ∷ ps) vars h l k = absurd (omega (arith, vars.1))
partitions_plain mpu (v ∷ vs) i (p ∷ ps) vars h l k =
    let both = and_parts (is_name p.name) (list_all is_name (map (λ (p : PartitionEntry). p.name) ps)) h in
    let bytes = and_parts (has_bytes p) (list_all has_bytes ps) l in
    let e = and_parts (is_name v) (list_all is_name vs) vars.0 in
    let is = sized mpu i p (no_front (partition_limits i p) (each partition_limits (i + 1) ps) k) in
    let most = is.round.most in (
      (name_plain p.name both.0, name_plain v e.0, pos_fits _ (omega (arith, most)), bytes.0),
      partitions_plain mpu vs (i + 1) ps (e.1, omega (arith, vars.1)) both.1 bytes.1 (no_back (partition_limits i p) (each partition_limits (i + 1) ps) k),
    )

given_plain : (names : List Text) (o : Option (List Text)) → list_all is_name names ≡ true → IsTrue (list_all (is_known names) (items o)) → GivenPlain o
given_plain names None h known = tt
given_plain names (Some ts) h known = texts_plain names ts h known

domains_plain : (d : Description) (i : ℕ) (ms : List DomainEntry) → list_all is_name (partition_names d) ≡ true → list_all is_name (map (λ (m : DomainEntry). m.name) ms) ≡ true → each (unknown_in_domain d) i ms ≡ [] → Each DomainIsPlain ms
domains_plain d i [] l h k = tt
domains_plain d i (m ∷ ms) l h k =
    let both = and_parts (is_name m.name) (list_all is_name (map (λ (m : DomainEntry). m.name) ms)) h in
    let known = all_known (partition_names d) (λ j. Place.Item Section.Domain i Key.Partitions j) (items m.partitions) (no_front (unknown_in_domain d i m) (each (unknown_in_domain d) (i + 1) ms) k) in
    ((name_plain m.name both.0, given_plain (partition_names d) m.partitions l known), domains_plain d (i + 1) ms l both.1 (no_back (unknown_in_domain d i m) (each (unknown_in_domain d) (i + 1) ms) k))

objects_plain : (t i : ℕ) (os : List ObjectEntry) → list_all is_name (map (λ (o : ObjectEntry). o.name) os) ≡ true → objects_limits t i os ≡ [] → Each ObjectIsPlain os
objects_plain t i [] h k = tt
objects_plain t i (o ∷ os) h k =
    let both = and_parts (is_name o.name) (list_all is_name (map (λ (o : ObjectEntry). o.name) os)) h in
    ((name_plain o.name both.0, details_fit i o.details (own_limits t i o os k)), objects_plain (threads_after t o) (i + 1) os both.1 (later_limits t i o os k))

pool_plain : (names : List Text) (o : Option Text) → list_all is_name names ≡ true → elim o as (λ _. Type 0) [ None ↦ Unit {0} | Some text ↦ IsTrue (is_known names text) ] → PoolPlain o
pool_plain names None h known = tt
pool_plain names (Some text) h known = known_plain names text h known

boots_plain : (d : Description) (i : ℕ) (bs : List BootEntry) → AreLawfulNames d → each boot_limits i bs ≡ [] → each (unknown_in_boot d) i bs ≡ [] → Each BootIsPlain (map (regranted (object_names d)) bs)
unfolding boot_limits
boots_plain d i [] words k l = tt
boots_plain d i (b ∷ bs) words k l =
    let known = known_boot d i b (no_front (unknown_in_boot d i b) (each (unknown_in_boot d) (i + 1) bs) l) in
    let z = inside Key.Priority (negsuc 15) (pos 14) (Place.Field Section.Boot i Key.Priority) b.priority
    (no_back (one_too_many Section.Boot BOOTS i) (outside Key.Priority (negsuc 15) (pos 14) (Place.Field Section.Boot i Key.Priority) b.priority) (no_front (boot_limits i b) (each boot_limits (i + 1) bs) k)) in
    let grants : ArePlain (row_names (object_names d) (rows_among b.grants 0 (object_names d))) = rw (rows_named [] (object_names d) b.grants) (granted_plain b.grants (object_names d) words.objects) in (
      record {
        thread = known_plain (object_names d) b.thread words.objects (passed is_thread d.objects (named (object_names d) b.thread) known.thread);
        stack = known_plain (object_names d) b.stack words.objects (passed is_thread_stack d.objects (named (object_names d) b.stack) known.stack);
        script = known_plain (script_names d) b.script words.scripts known.script;
        priority = priority_fits b.priority z.0 z.1;
        domain = known_plain (domain_names d) b.domain words.domains (passed is_initialised d.domains (named (domain_names d) b.domain) known.domain);
        pool = pool_plain (pool_names d) b.pool words.pools known.pool;
        grants = grants;
      },
      boots_plain d (i + 1) bs words (no_back (boot_limits i b) (each boot_limits (i + 1) bs) k) (no_back (unknown_in_boot d i b) (each (unknown_in_boot d) (i + 1) bs) l),
    )

scripts_plain : (d : Description) (i : ℕ) (ss : List ScriptEntry) → list_all is_name (map (λ (s : ScriptEntry). s.name) ss) ≡ true → each unread_lines i ss ≡ [] → each (unknown_in_script d) i ss ≡ []
    → Each ScriptIsPlain (scripts_again (base_of d) d ss)
unfolding unread_in unknown_in
scripts_plain d i [] h k l = tt
scripts_plain d i (s ∷ ss) h k l =
    let both = and_parts (is_name s.name) (list_all is_name (map (λ (s : ScriptEntry). s.name) ss)) h in
    let back = lines_back (base_of d) (reprinted d) d (named_alike d) i 0 s.lines (no_front (unread_lines i s) (each unread_lines (i + 1) ss) k) (no_front (unknown_in_script d i s) (each (unknown_in_script d) (i + 1) ss) l) in
    ((name_plain s.name both.0, back.plain), scripts_plain d (i + 1) ss both.1 (no_back (unread_lines i s) (each unread_lines (i + 1) ss) k) (no_back (unknown_in_script d i s) (each (unknown_in_script d) (i + 1) ss) l))

futexes_plain : (d : Description) (fs : List FutexEntry) → list_all is_name (map (λ (f : FutexEntry). f.name) fs) ≡ true → list_all is_name (partition_names d) ≡ true → AllLie d fs → Each FutexIsPlain fs
futexes_plain d [] h k lie = tt
futexes_plain d (f ∷ fs) h k lie =
    let both = and_parts (is_name f.name) (list_all is_name (map (λ (f : FutexEntry). f.name) fs)) h in
    let fits = lie.0.fits in
    let small = lie.0.at.small in
    let offset = subst Fits (sym lie.0.is) (pos_fits lie.0.offset (omega (arith, fits, small))) in
    ((name_plain f.name both.0, known_plain (partition_names d) f.partition k lie.0.known, offset), futexes_plain d fs both.1 k lie.1)

regions_fit : (d : Description) → top_limits d ≡ [] → Fits d.regions
unfolding top_limits
regions_fit d h =
    fits_in Key.Regions 4 32 (Place.Top Key.Regions) d.regions (omega arith)
    (no_front (outside Key.Regions (pos 4) (pos 32) (Place.Top Key.Regions) d.regions) (longer Key.Rodata (pos AREA_ENTRY) (Place.Top Key.Rodata) _) h)

plain : (d : Description) → AreLawfulNames d → list_all is_byte d.rodata ≡ true → list_all has_bytes d.partitions ≡ true → flaws d ≡ [] → IsPlainDescription (reprinted d) (repacked d)
plain d words rodata bytes none =
    let h = no_flaws d none in
    let w = all_within d h.within in
    let known = entries_known d h.names_known in
    record {
      regions = regions_fit d w.top;
      rodata = rodata;
      pools = pools_plain 0 d.pools words.pools w.pools;
      partitions = partitions_plain d.mpu (variables_for d) 0 d.partitions (names_for d h.within) words.partitions bytes w.partitions;
      domains = domains_plain d 0 d.domains words.partitions words.domains known.domains;
      objects = objects_plain 0 0 d.objects words.objects w.objects;
      boots = boots_plain d 0 d.boots words w.boots known.boots;
      scripts = scripts_plain d 0 d.scripts words.scripts h.read h.known;
      futexes = futexes_plain d d.futexes words.futexes words.partitions (futexes_lie d h.names_known h.within);
    }

-- ---- the text

reads_again : (d : Description) (ps : List Packed) → IsFormed d ps → IsPlainDescription d ps → d.partitions ≡ map partition_entry ps → ReadsDocument (Ok d) (text_for d ps)
reads_again d ps formed_d plain_d same =
    let document = document_plain d ps plain_d in (
      table_for d ps,
      record { utf8 = lines_utf8 (document_lines (top_of d) (sections_of d ps)) document.lines_are; parsed = document_again (top_of d) (sections_of d ps) document },
      no_form_faults d ps formed_d,
      sym (description_again d ps formed_d ∙ ap (λ (qs : List PartitionEntry). record d { partitions = qs }) (sym same)),
    )

-- the printed text of an image that a description means is read as the printed description
pub printed_reads : (d : Description) → AreLawfulNames d → list_all is_byte d.rodata ≡ true → list_all has_bytes d.partitions ≡ true → flaws d ≡ []
    → ReadsDocument (Ok (described (image_of d))) (printed_text (image_of d))
printed_reads d words rodata bytes none =
    let within = (no_flaws d none).within in
    let reads = reads_again (reprinted d) (repacked d) (formed d words rodata bytes within) (plain d words rodata bytes none) refl in
    subst (λ (ps : List Packed). ReadsDocument (Ok (described (image_of d))) (text_for (described (image_of d)) ps)) (sym (packed_again d))
    (subst (λ (e : Description). ReadsDocument (Ok e) (text_for e (repacked d))) (sym (described_again d none)) reads)
