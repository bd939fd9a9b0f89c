-- What is printed for the parts of an image that a description gives are the description's own entries again: its pools, objects and domains, and the same grants.
use Rattle.std.proofs.Common.{◌≡◌, ℕ, ◌+◌, ◌-◌, ◌^◌, ◌≤◌, Bool, true, false, ◌||◌, List, [], ◌∷◌, ◌++◌, map, length, drop, filter, Option, Some, None, bytes_eq, IsTrue, ℤ, pos, negsuc, int_lt, refl, sym, ap, subst, ◌∙◌, arith, append_assoc, inl, inr}
use Rattle.std.proofs.lemmas.Bool.{false≢true, true≢false, cases_Bool, or_parts}
use Rattle.std.proofs.lemmas.Bool.Decides.{nat_tests}
use Rattle.std.specs.List.{list_all}
use Rattle.um_base.specs.declared.names.Range.{Range}
use Rattle.um_document.specs.declared.description.Details.{Details}
use Rattle.um_document.specs.declared.description.ObjectEntry.{ObjectEntry}
use Rattle.um_document.specs.declared.description.PoolEntry.{PoolEntry}
use Rattle.um_document.specs.declared.place.Place.{Place}
use Rattle.um_document.specs.declared.shape.Key.{Key}
use Rattle.um_document.specs.declared.shape.Section.{Section}
use Rattle.um_base.specs.declared.limits.TheConstants.{POOLS, AREA_ENTRY}
use Rattle.um_description.specs.Limits.{outside, details_limits, objects_limits, threads_after, pool_limits, one_too_many}
use Rattle.um_description.specs.Names.{Text, each, is_among}
use Rattle.um_description.specs.Numbers.{clamped}
use Rattle.um_description.specs.Resolve.{first_range, ranges_taken, object_def, objects_from, pool_of, domain_of, number_named, rows_among}
use Rattle.um_description.proofs.LawfulDistinct.{is_known}
use Rattle.um_description.proofs.LawfulLists.{no_front, no_back, and_true, same_text, text_itself}
use Rattle.um_description.proofs.LawfulObjects.{own_limits, later_limits}
use Rattle.um_description.proofs.LawfulRanges.{inside}
use Rattle.um_canonical.specs.Entries.{pool_entry, domain_entry, object_entry, row_names}
use Rattle.um_canonical.specs.Named.{name_at}
use Rattle.um_canonical.proofs.PrintedLines.{name_back}

-- ---- numbers in their limits are kept

kept : (low high : ℕ) (z : ℤ) → high ≤ 2 ^ 32 - 1 → int_lt z (pos low) ≡ false → int_lt (pos high) z ≡ false → pos (clamped z) ≡ z
kept low high (pos n) small h k = let most : n ≤ high = grind (arith, nat_tests) in ap pos (omega (arith, most))
kept low high (negsuc n) small h k = absurd (true≢false h)

pub number_kept : (key : Key) (low high : ℕ) (place : Place) (z : ℤ) → high ≤ 2 ^ 32 - 1 → outside key (pos low) (pos high) place z ≡ [] → pos (clamped z) ≡ z
number_kept key low high place z small h = let both = inside key (pos low) (pos high) place z h in kept low high z small both.0 both.1

-- a count that isn't below 0, nor above a limit that fits, is a small number
pub natural_count : (count limit : ℤ) → int_lt count (pos 0) ≡ false → int_lt limit count ≡ false → int_lt (pos 4294967295) limit ≡ false
    → (n : ℕ) × (count ≡ pos n) × (n ≤ 4294967295)
natural_count (pos c) (pos l) h k m =
    let few : c ≤ l = grind (arith, nat_tests) in
    let most : l ≤ 4294967295 = grind (arith, nat_tests) in
    (c, refl, omega (arith, few, most))
natural_count (pos c) (negsuc l) h k m = absurd (true≢false k)
natural_count (negsuc c) limit h k m = absurd (true≢false h)

count_by_limit : (count limit : ℤ) → int_lt count (pos 0) ≡ false → int_lt limit count ≡ false → int_lt (pos 4294967295) limit ≡ false → pos (clamped count) ≡ count
count_by_limit count limit h k m =
    let n = natural_count count limit h k m in
    let same : pos (clamped (pos n.0)) ≡ pos n.0 = ap pos (omega (arith, n.2)) in
    subst (λ (z : ℤ). pos (clamped z) ≡ z) (sym n.1) same

-- ---- objects

abbrev entry_by : Text → Bool → Details → ObjectEntry
entry_by name public details = record { name = name; public = public; details = details }

details_back : (range : Range) (x t i : ℕ) (name : Text) (public : Bool) (details : Details) → details_limits i details ≡ [] → object_entry (object_def range x t (entry_by name public details)) ≡ entry_by name public details
unfolding details_limits
details_back range x t i name public Details.Thread h = refl
details_back range x t i name public (Details.ThreadStack size) h =
    ap (λ (z : ℤ). entry_by name public (Details.ThreadStack z)) (number_kept Key.Size 1 65536 (Place.Field Section.Object i Key.Size) size (omega arith) h)
details_back range x t i name public (Details.Sem None) h = refl
details_back range x t i name public (Details.Sem (Some n)) h =
    let first = outside Key.Count (pos 0) n.limit (Place.Field Section.Object i Key.Count) n.count in
    let second = outside Key.Limit (pos 1) (pos 4294967295) (Place.Field Section.Object i Key.Limit) n.limit in
    let count = inside Key.Count (pos 0) n.limit (Place.Field Section.Object i Key.Count) n.count (no_front first second h) in
    let limit = inside Key.Limit (pos 1) (pos 4294967295) (Place.Field Section.Object i Key.Limit) n.limit (no_back first second h) in
    let a = count_by_limit n.count n.limit count.0 count.1 limit.1 in
    let b = kept 1 4294967295 n.limit (omega arith) limit.0 limit.1 in
    rw (a, b) refl
details_back range x t i name public (Details.Mutex true) h = refl
details_back range x t i name public (Details.Mutex false) h = refl
details_back range x t i name public (Details.Msgq None) h = refl
details_back range x t i name public (Details.Msgq (Some n)) h =
    let first = outside Key.MsgSize (pos 1) (pos 256) (Place.Field Section.Object i Key.MsgSize) n.msg_size in
    let second = outside Key.MaxMsgs (pos 1) (pos 64) (Place.Field Section.Object i Key.MaxMsgs) n.max_msgs in
    let a = number_kept Key.MsgSize 1 256 (Place.Field Section.Object i Key.MsgSize) n.msg_size (omega arith) (no_front first second h) in
    let b = number_kept Key.MaxMsgs 1 64 (Place.Field Section.Object i Key.MaxMsgs) n.max_msgs (omega arith) (no_back first second h) in
    rw (a, b) refl
details_back range x t i name public (Details.Stack None) h = refl
details_back range x t i name public (Details.Stack (Some n)) h =
    ap (λ (z : ℤ). entry_by name public (Details.Stack (Some z))) (number_kept Key.Entries 1 64 (Place.Field Section.Object i Key.Entries) n (omega arith) h)
details_back range x t i name public (Details.Pipe None) h = refl
details_back range x t i name public (Details.Pipe (Some n)) h =
    ap (λ (z : ℤ). entry_by name public (Details.Pipe (Some z))) (number_kept Key.Size 1 256 (Place.Field Section.Object i Key.Size) n (omega arith) h)
details_back range x t i name public Details.Timer h = refl

pub objects_back : (ranges : List Range) (x t i : ℕ) (os : List ObjectEntry) → objects_limits t i os ≡ [] → map object_entry (objects_from ranges x t os) ≡ os
objects_back ranges x t i [] h = refl
objects_back ranges x t i (o ∷ os) h =
    let here = details_back (first_range ranges) x t i o.name o.public o.details (own_limits t i o os h) in
    let more = objects_back (drop (ranges_taken o) ranges) (x + 1) (threads_after t o) (i + 1) os (later_limits t i o os h) in
    rw (here, more) refl

-- ---- pools

pub pools_back : (i : ℕ) (ps : List PoolEntry) → each pool_limits i ps ≡ [] → map pool_entry (map pool_of ps) ≡ ps
unfolding pool_limits
pools_back i [] h = refl
pools_back i (p ∷ ps) h =
    let own = no_front (pool_limits i p) (each pool_limits (i + 1) ps) h in
    let first = one_too_many Section.Pool POOLS i in
    let size = outside Key.Size (pos 0) (pos AREA_ENTRY) (Place.Field Section.Pool i Key.Size) p.size in
    let here = number_kept Key.Size 0 AREA_ENTRY (Place.Field Section.Pool i Key.Size) p.size (omega arith) (no_back first size own) in
    let more = pools_back (i + 1) ps (no_back (pool_limits i p) (each pool_limits (i + 1) ps) h) in
    rw (here, more) refl

-- ---- domains

texts_back : (names texts : List Text) → IsTrue (list_all (is_known names) texts) → map (name_at names) (map (number_named names) texts) ≡ texts
texts_back names [] h = refl
texts_back names (text ∷ texts) h =
    let both = and_true (is_known names text) (list_all (is_known names) texts) h in
    rw (name_back names text both.0, texts_back names texts both.1) refl

pub domain_back : (names : List Text) (name : Text) (texts : Option (List Text)) → ((ts : List Text) → texts ≡ Some ts → IsTrue (list_all (is_known names) ts))
    → domain_entry names (domain_of names (record { name = name; partitions = texts })) ≡ record { name = name; partitions = texts }
domain_back names name None h = refl
domain_back names name (Some texts) h = rw (texts_back names texts (h texts refl)) refl

-- ---- grants: a set of objects comes back as the same rows

abbrev pub granted : List Text → List Text → List Text
granted texts names = filter (λ name. is_among name texts) names

at_end : (before : List Text) (name : Text) (names : List Text) → name_at (before ++ name ∷ names) (length before) ≡ name
at_end [] name names = refl
at_end (b ∷ before) name names = at_end before name names

one_longer : (before : List Text) (name : Text) → length (before ++ name ∷ []) ≡ length before + 1
one_longer [] name = refl
one_longer (b ∷ before) name = omega (arith, one_longer before name)

rows_step : (all : List Text) (x : ℕ) (name : Text) (texts names : List Text) (b : Bool) → is_among name texts ≡ b → name_at all x ≡ name → row_names all (rows_among texts (x + 1) names) ≡ granted texts names
    → row_names all (rows_among texts x (name ∷ names)) ≡ granted texts (name ∷ names)
rows_step all x name texts names true is at more = rw (is, at, more) refl
rows_step all x name texts names false is at more = rw is more

pub rows_named : (before names texts : List Text) → row_names (before ++ names) (rows_among texts (length before) names) ≡ granted texts names
rows_named before [] texts = refl
rows_named before (name ∷ names) texts =
    let more = rows_named (before ++ name ∷ []) names texts in
    let joined : (before ++ name ∷ []) ++ names ≡ before ++ name ∷ names = append_assoc before (name ∷ []) names in
    let long = one_longer before name in
    let rest : row_names (before ++ name ∷ names) (rows_among texts (length before + 1) names) ≡ granted texts names = rw (sym joined, sym long) more in
    rows_step (before ++ name ∷ names) (length before) name texts names (is_among name texts) refl (at_end before name names) rest

either : (a b : Bool) → IsTrue b → IsTrue (a || b)
either true b h = refl
either false b h = h

first_among : (name : Text) (names : List Text) → IsTrue (is_among name (name ∷ names))
first_among name names = rw (text_itself name) refl

later_among : (other name : Text) (names : List Text) → IsTrue (is_among other names) → IsTrue (is_among other (name ∷ names))
later_among other name names h = either (bytes_eq other name) (is_among other names) h

same_rows : (ts us : List Text) (x : ℕ) (names : List Text) → ((name : Text) → IsTrue (is_among name names) → is_among name ts ≡ is_among name us) → rows_among ts x names ≡ rows_among us x names
same_rows ts us x [] same = refl
same_rows ts us x (name ∷ names) same =
    let here = same name (first_among name names) in
    let more = same_rows ts us (x + 1) names (λ other h. same other (later_among other name names h)) in
    rw (here, more) refl

-- a name among some is granted where it is asked for
kept_by : (q n : Text) (texts names : List Text) (b c : Bool) → is_among n texts ≡ b → bytes_eq q n ≡ c → IsTrue (c || is_among q names) → (IsTrue (is_among q names) → is_among q (granted texts names) ≡ is_among q texts)
    → (is_among q names ≡ false → is_among q (granted texts names) ≡ false) → is_among q (granted texts (n ∷ names)) ≡ is_among q texts
kept_by q n texts names true true is eq h later none =
    let same : q ≡ n = same_text q n eq in
    rw (is, eq) (sym (ap (λ (m : Text). is_among m texts) same ∙ is))
kept_by q n texts names true false is eq h later none = rw (is, eq) (later h)
kept_by q n texts names false true is eq h later none =
    let same : q ≡ n = same_text q n eq in
    let asked : is_among q texts ≡ false = ap (λ (m : Text). is_among m texts) same ∙ is in
    rw is (elim (cases_Bool (is_among q names)) [
      | inl here ↦ later here
      | inr gone ↦ none gone ∙ sym asked
    ])
kept_by q n texts names false false is eq h later none = rw is (later h)

none_granted : (q : Text) (texts names : List Text) → is_among q names ≡ false → is_among q (granted texts names) ≡ false
none_granted q texts [] h = refl
none_granted q texts (n ∷ names) h =
    let parts = or_parts (bytes_eq q n) (is_among q names) h in
    elim (cases_Bool (is_among n texts)) [
      | inl asked ↦ rw (asked, parts.0) (none_granted q texts names parts.1)
      | inr not_asked ↦ rw not_asked (none_granted q texts names parts.1)
    ]

still_among : (q : Text) (texts names : List Text) → IsTrue (is_among q names) → is_among q (granted texts names) ≡ is_among q texts
still_among q texts [] h = absurd (false≢true h)
still_among q texts (n ∷ names) h =
    kept_by q n texts names (is_among n texts) (bytes_eq q n) refl refl h (still_among q texts names) (none_granted q texts names)

-- the grants that are printed give the same rows
pub grants_again : (names texts : List Text) → rows_among (row_names names (rows_among texts 0 names)) 0 names ≡ rows_among texts 0 names
grants_again names texts =
    rw (rows_named [] names texts) (same_rows (granted texts names) texts 0 names (λ name h. still_among name texts names h))
