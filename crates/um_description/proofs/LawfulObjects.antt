-- Objects: their setups, the indices of threads, their addresses, and the ranges of stacks.
use Rattle.std.proofs.Common.{◌≡◌, ℕ, ◌+◌, ◌-◌, ◌^◌, ◌≤◌, Bool, true, false, ◌&&◌, ◌==◌, nat_le, List, [], ◌∷◌, ◌++◌, length, map, drop, IsTrue, if◌then◌else◌, Option, Some, None, ℤ, pos, negsuc, int_lt, flat_map, refl, ap, arith}
use Rattle.std.specs.List.{list_all}
use Rattle.std.proofs.lemmas.Bool.{true≢false, eq-eqb}
use Rattle.std.proofs.lemmas.Bool.Decides.{nat_tests}
use Rattle.um_base.specs.declared.image.ObjectDef.{ObjectDef}
use Rattle.um_base.specs.declared.limits.TheConstants.{AREA_ENTRY, STATIC_ROWS, STATIC_THREADS}
use Rattle.um_base.specs.declared.names.Kind.{Kind}
use Rattle.um_base.specs.declared.names.Mpu.{Mpu}
use Rattle.um_base.specs.declared.names.Range.{Range}
use Rattle.um_base.specs.Lawful as lawful
use Rattle.um_base.specs.Lawful.{is_within, is_setup_of, has_indices, stand_in_rows, stack_ranges}
use Rattle.um_base.specs.Layout.{rounded}
use Rattle.um_document.specs.declared.description.Details.{Details}
use Rattle.um_document.specs.declared.description.MsgqNumbers.{MsgqNumbers}
use Rattle.um_document.specs.declared.description.ObjectEntry.{ObjectEntry}
use Rattle.um_document.specs.declared.description.SemNumbers.{SemNumbers}
use Rattle.um_document.specs.declared.place.Place.{Place}
use Rattle.um_document.specs.declared.shape.Key.{Key}
use Rattle.um_document.specs.declared.shape.Section.{Section}
use Rattle.um_description.specs.declared.flaw.Counted.TheVariants as counted
use Rattle.um_description.specs.declared.flaw.Flaw.{Flaw}
use Rattle.um_description.specs.Limits.{outside, one_too_many, one_thread_too_many, details_limits, object_limits, objects_limits, threads_after}
use Rattle.um_description.specs.Names.{Text, is_thread, is_thread_stack}
use Rattle.um_description.specs.Numbers.{clamped}
use Rattle.um_description.specs.Resolve.{ranges_at, row_addr, asked_stack, first_range, object_def, objects_from, ranges_taken, sem_setup, msgq_setup, stack_setup, pipe_setup}
use Rattle.um_description.proofs.LawfulLists.{no_front, no_back, both_true, none_if}
use Rattle.um_description.proofs.LawfulRanges.{inside, clamped_in, is_within-IsIn}

-- an object by its parts
abbrev pub entry : Text → Bool → Details → ObjectEntry
entry name public details = record { name = name; public = public; details = details }

-- what an object of the image has of its entry
pub record IsOfEntry (range : Range) (x t : ℕ) (o : ObjectEntry) : Type 0 where
  pub name : (object_def range x t o).name ≡ o.name
  pub thread : is_thread o ≡ lawful.is_thread (object_def range x t o).kind
  pub stack : is_thread_stack o ≡ lawful.is_stack (object_def range x t o).kind

by_details : (range : Range) (x t : ℕ) (name : Text) (public : Bool) (details : Details) → IsOfEntry range x t (entry name public details)
by_details range x t name public Details.Thread = record { name = refl; thread = refl; stack = refl }
by_details range x t name public (Details.ThreadStack size) = record { name = refl; thread = refl; stack = refl }
by_details range x t name public (Details.Sem numbers) = record { name = refl; thread = refl; stack = refl }
by_details range x t name public (Details.Mutex init) = record { name = refl; thread = refl; stack = refl }
by_details range x t name public (Details.Msgq numbers) = record { name = refl; thread = refl; stack = refl }
by_details range x t name public (Details.Stack entries) = record { name = refl; thread = refl; stack = refl }
by_details range x t name public (Details.Pipe size) = record { name = refl; thread = refl; stack = refl }
by_details range x t name public Details.Timer = record { name = refl; thread = refl; stack = refl }

pub of_entry : (range : Range) (x t : ℕ) (o : ObjectEntry) → IsOfEntry range x t o
of_entry range x t o = by_details range x t o.name o.public o.details

-- ---- what the limits of an object give

pub own_limits : (threads i : ℕ) (o : ObjectEntry) (os : List ObjectEntry) → objects_limits threads i (o ∷ os) ≡ [] → details_limits i o.details ≡ []
unfolding object_limits
own_limits threads i o os h =
    no_back (one_too_many Section.Object STATIC_ROWS i ++ one_thread_too_many threads i o) (details_limits i o.details)
    (no_front (object_limits threads i o) (objects_limits (threads_after threads o) (i + 1) os) h)

pub later_limits : (threads i : ℕ) (o : ObjectEntry) (os : List ObjectEntry) → objects_limits threads i (o ∷ os) ≡ [] → objects_limits (threads_after threads o) (i + 1) os ≡ []
later_limits threads i o os h = no_back (object_limits threads i o) (objects_limits (threads_after threads o) (i + 1) os) h

room_for_thread : (threads i : ℕ) (o : ObjectEntry) (os : List ObjectEntry) → objects_limits threads i (o ∷ os) ≡ [] → (is_thread o && threads == STATIC_THREADS) ≡ false
unfolding object_limits
room_for_thread threads i o os h =
    none_if (is_thread o && threads == STATIC_THREADS) (Flaw.Limit counted.Threads (pos STATIC_THREADS) (Place.Entry Section.Object i))
    (no_back (one_too_many Section.Object STATIC_ROWS i) (one_thread_too_many threads i o)
    (no_front (one_too_many Section.Object STATIC_ROWS i ++ one_thread_too_many threads i o) (details_limits i o.details)
    (no_front (object_limits threads i o) (objects_limits (threads_after threads o) (i + 1) os) h)))

-- ---- setups

within_limit : (key : Key) (low high : ℕ) (i : ℕ) (n : ℤ) → high ≤ 2 ^ 32 - 1 → outside key (pos low) (pos high) (Place.Field Section.Object i key) n ≡ [] → IsTrue (is_within low high (clamped n))
within_limit key low high i n small h = is_within-IsIn low high (clamped n) (clamped_in key low high (Place.Field Section.Object i key) n small h)

fewer : (count limit : ℤ) → int_lt limit count ≡ false → IsTrue (nat_le (clamped count) (clamped limit))
fewer (pos c) (pos l) h = grind (arith, nat_tests)
fewer (negsuc c) limit h = grind (arith, nat_tests)
fewer (pos c) (negsuc l) h = absurd (true≢false h)

some_limit : (limit : ℤ) → int_lt limit (pos 1) ≡ false → IsTrue (nat_le 1 (clamped limit))
some_limit (pos l) h = grind (arith, nat_tests)
some_limit (negsuc l) h = absurd (true≢false h)

sem_lawful : (mpu : Mpu) (i : ℕ) (numbers : Option SemNumbers) → details_limits i (Details.Sem numbers) ≡ [] → IsTrue (is_setup_of mpu Kind.Sem (sem_setup numbers))
unfolding details_limits
sem_lawful mpu i None h = refl
sem_lawful mpu i (Some numbers) h =
    let counts = outside Key.Count (pos 0) numbers.limit (Place.Field Section.Object i Key.Count) numbers.count in
    let limits = outside Key.Limit (pos 1) (pos 4294967295) (Place.Field Section.Object i Key.Limit) numbers.limit in
    let count = inside Key.Count (pos 0) numbers.limit (Place.Field Section.Object i Key.Count) numbers.count (no_front counts limits h) in
    let limit = inside Key.Limit (pos 1) (pos 4294967295) (Place.Field Section.Object i Key.Limit) numbers.limit (no_back counts limits h) in
    both_true (nat_le 1 (clamped numbers.limit)) (nat_le (clamped numbers.count) (clamped numbers.limit)) (some_limit numbers.limit limit.0) (fewer numbers.count numbers.limit count.1)

msgq_lawful : (mpu : Mpu) (i : ℕ) (numbers : Option MsgqNumbers) → details_limits i (Details.Msgq numbers) ≡ [] → IsTrue (is_setup_of mpu Kind.Msgq (msgq_setup numbers))
unfolding details_limits
msgq_lawful mpu i None h = refl
msgq_lawful mpu i (Some numbers) h =
    let sizes = outside Key.MsgSize (pos 1) (pos 256) (Place.Field Section.Object i Key.MsgSize) numbers.msg_size in
    let mosts = outside Key.MaxMsgs (pos 1) (pos 64) (Place.Field Section.Object i Key.MaxMsgs) numbers.max_msgs in
    both_true (is_within 1 256 (clamped numbers.msg_size)) (is_within 1 64 (clamped numbers.max_msgs))
    (within_limit Key.MsgSize 1 256 i numbers.msg_size (omega arith) (no_front sizes mosts h)) (within_limit Key.MaxMsgs 1 64 i numbers.max_msgs (omega arith) (no_back sizes mosts h))

stack_lawful : (mpu : Mpu) (i : ℕ) (entries : Option ℤ) → details_limits i (Details.Stack entries) ≡ [] → IsTrue (is_setup_of mpu Kind.Stack (stack_setup entries))
unfolding details_limits
stack_lawful mpu i None h = refl
stack_lawful mpu i (Some entries) h = within_limit Key.Entries 1 64 i entries (omega arith) h

pipe_lawful : (mpu : Mpu) (i : ℕ) (size : Option ℤ) → details_limits i (Details.Pipe size) ≡ [] → IsTrue (is_setup_of mpu Kind.Pipe (pipe_setup size))
unfolding details_limits
pipe_lawful mpu i None h = refl
pipe_lawful mpu i (Some size) h = within_limit Key.Size 1 256 i size (omega arith) h

abbrev pub has_setup : Mpu → ObjectDef → Bool
has_setup mpu o = is_setup_of mpu o.kind o.setup

-- the rounded sizes that stacks ask for
abbrev pub stacks_asked : Mpu → List ObjectEntry → List ℕ
stacks_asked mpu os = map (rounded mpu) (flat_map asked_stack os)

-- an object that takes no range, and those behind it
abbrev LaterLawful : Mpu → List ObjectEntry → Type 0
LaterLawful mpu os = (places : List ℕ) (x t : ℕ) → length places ≡ length (flat_map asked_stack os) → IsTrue (list_all (has_setup mpu) (objects_from (ranges_at places (stacks_asked mpu os)) x t os))

thread_stack_lawful : (mpu : Mpu) (place i : ℕ) (size : ℤ) → details_limits i (Details.ThreadStack size) ≡ []
    → IsTrue (is_within 1 AREA_ENTRY (clamped size) && rounded mpu (clamped size) == rounded mpu (clamped size))
unfolding details_limits
thread_stack_lawful mpu place i size h =
    both_true (is_within 1 AREA_ENTRY (clamped size)) (rounded mpu (clamped size) == rounded mpu (clamped size))
    (within_limit Key.Size 1 65536 i size (omega arith) h) (eq-eqb (rounded mpu (clamped size)) (rounded mpu (clamped size)) refl)

mutex_lawful : (mpu : Mpu) (ranges : Range) (x t : ℕ) (name : Text) (public init : Bool) → IsTrue (has_setup mpu (object_def ranges x t (entry name public (Details.Mutex init))))
mutex_lawful mpu range x t name public true = refl
mutex_lawful mpu range x t name public false = refl

objects_by : (mpu : Mpu) (places : List ℕ) (i x t : ℕ) (name : Text) (public : Bool) (details : Details) (os : List ObjectEntry) → details_limits i details ≡ []
    → length places ≡ length (flat_map asked_stack (entry name public details ∷ os)) → LaterLawful mpu os
    → IsTrue (list_all (has_setup mpu) (objects_from (ranges_at places (stacks_asked mpu (entry name public details ∷ os))) x t (entry name public details ∷ os)))
objects_by mpu places i x t name public Details.Thread os h same later = later places (x + 1) (t + 1) same
objects_by mpu [] i x t name public (Details.ThreadStack size) os h same later = absurd (omega (arith, same))
objects_by mpu (place ∷ places) i x t name public (Details.ThreadStack size) os h same later =
    both_true (is_within 1 AREA_ENTRY (clamped size) && rounded mpu (clamped size) == rounded mpu (clamped size))
    (list_all (has_setup mpu) (objects_from (ranges_at places (stacks_asked mpu os)) (x + 1) t os)) (thread_stack_lawful mpu place i size h) (later places (x + 1) t (omega (arith, same)))
objects_by mpu places i x t name public (Details.Sem numbers) os h same later =
    both_true (is_setup_of mpu Kind.Sem (sem_setup numbers)) (list_all (has_setup mpu) (objects_from (ranges_at places (stacks_asked mpu os)) (x + 1) t os)) (sem_lawful mpu i numbers h) (later places (x + 1) t same)
objects_by mpu places i x t name public (Details.Mutex init) os h same later =
    both_true (has_setup mpu (object_def (first_range (ranges_at places (stacks_asked mpu os))) x t (entry name public (Details.Mutex init)))) (list_all (has_setup mpu) (objects_from (ranges_at places (stacks_asked mpu os)) (x + 1) t os))
    (mutex_lawful mpu (first_range (ranges_at places (stacks_asked mpu os))) x t name public init) (later places (x + 1) t same)
objects_by mpu places i x t name public (Details.Msgq numbers) os h same later =
    both_true (is_setup_of mpu Kind.Msgq (msgq_setup numbers)) (list_all (has_setup mpu) (objects_from (ranges_at places (stacks_asked mpu os)) (x + 1) t os)) (msgq_lawful mpu i numbers h) (later places (x + 1) t same)
objects_by mpu places i x t name public (Details.Stack entries) os h same later =
    both_true (is_setup_of mpu Kind.Stack (stack_setup entries)) (list_all (has_setup mpu) (objects_from (ranges_at places (stacks_asked mpu os)) (x + 1) t os)) (stack_lawful mpu i entries h) (later places (x + 1) t same)
objects_by mpu places i x t name public (Details.Pipe size) os h same later =
    both_true (is_setup_of mpu Kind.Pipe (pipe_setup size)) (list_all (has_setup mpu) (objects_from (ranges_at places (stacks_asked mpu os)) (x + 1) t os)) (pipe_lawful mpu i size h) (later places (x + 1) t same)
objects_by mpu places i x t name public Details.Timer os h same later = later places (x + 1) t same

pub objects_lawful : (mpu : Mpu) (threads i : ℕ) (os : List ObjectEntry) → objects_limits threads i os ≡ [] → LaterLawful mpu os
objects_lawful mpu threads i [] h places x t same = refl
objects_lawful mpu threads i (o ∷ os) h places x t same =
    objects_by mpu places i x t o.name o.public o.details os (own_limits threads i o os h) same
    (objects_lawful mpu (threads_after threads o) (i + 1) os (later_limits threads i o os h))

-- ---- threads count up

one_more_thread : (t : ℕ) → t ≤ STATIC_THREADS → (t == STATIC_THREADS) ≡ false → t + 1 ≤ STATIC_THREADS
one_more_thread t h k = grind (arith, nat_tests)

indices_by : (t x : ℕ) (range : Range) (name : Text) (public : Bool) (details : Details) (os : List ObjectDef) → IsTrue (has_indices os (threads_after t (entry name public details)))
    → IsTrue (has_indices (object_def range x t (entry name public details) ∷ os) t)
indices_by t x range name public Details.Thread os later = both_true (t == t) (has_indices os (t + 1)) (eq-eqb t t refl) later
indices_by t x range name public (Details.ThreadStack size) os later = later
indices_by t x range name public (Details.Sem None) os later = later
indices_by t x range name public (Details.Sem (Some numbers)) os later = later
indices_by t x range name public (Details.Mutex true) os later = later
indices_by t x range name public (Details.Mutex false) os later = later
indices_by t x range name public (Details.Msgq None) os later = later
indices_by t x range name public (Details.Msgq (Some numbers)) os later = later
indices_by t x range name public (Details.Stack None) os later = later
indices_by t x range name public (Details.Stack (Some entries)) os later = later
indices_by t x range name public (Details.Pipe None) os later = later
indices_by t x range name public (Details.Pipe (Some size)) os later = later
indices_by t x range name public Details.Timer os later = later

few_threads : (t : ℕ) (thread : Bool) → t ≤ STATIC_THREADS → (thread && t == STATIC_THREADS) ≡ false → (if thread then t + 1 else t) ≤ STATIC_THREADS
few_threads t true h k = one_more_thread t h k
few_threads t false h k = h

pub indices_lawful : (ranges : List Range) (t i x : ℕ) (os : List ObjectEntry) → t ≤ STATIC_THREADS → objects_limits t i os ≡ [] → IsTrue (has_indices (objects_from ranges x t os) t)
indices_lawful ranges t i x [] few h = grind (arith, nat_tests)
indices_lawful ranges t i x (o ∷ os) few h =
    indices_by t x (first_range ranges) o.name o.public o.details (objects_from (drop (ranges_taken o) ranges) (x + 1) (threads_after t o) os)
    (indices_lawful (drop (ranges_taken o) ranges) (threads_after t o) (i + 1) (x + 1) os (few_threads t (is_thread o) few (room_for_thread t i o os h)) (later_limits t i o os h))

-- ---- addresses

rows_by : (t x : ℕ) (range : Range) (name : Text) (public : Bool) (details : Details) (os : List ObjectDef) → IsTrue (stand_in_rows os (x + 1))
    → IsTrue (stand_in_rows (object_def range x t (entry name public details) ∷ os) x)
rows_by t x range name public Details.Thread os later = both_true (row_addr x == row_addr x) (stand_in_rows os (x + 1)) (eq-eqb (row_addr x) (row_addr x) refl) later
rows_by t x range name public (Details.ThreadStack size) os later =
    both_true (range.start.0 == range.start.0) (stand_in_rows os (x + 1)) (eq-eqb range.start.0 range.start.0 refl) later
rows_by t x range name public (Details.Sem None) os later = both_true (row_addr x == row_addr x) (stand_in_rows os (x + 1)) (eq-eqb (row_addr x) (row_addr x) refl) later
rows_by t x range name public (Details.Sem (Some numbers)) os later = both_true (row_addr x == row_addr x) (stand_in_rows os (x + 1)) (eq-eqb (row_addr x) (row_addr x) refl) later
rows_by t x range name public (Details.Mutex true) os later = both_true (row_addr x == row_addr x) (stand_in_rows os (x + 1)) (eq-eqb (row_addr x) (row_addr x) refl) later
rows_by t x range name public (Details.Mutex false) os later = both_true (row_addr x == row_addr x) (stand_in_rows os (x + 1)) (eq-eqb (row_addr x) (row_addr x) refl) later
rows_by t x range name public (Details.Msgq None) os later = both_true (row_addr x == row_addr x) (stand_in_rows os (x + 1)) (eq-eqb (row_addr x) (row_addr x) refl) later
rows_by t x range name public (Details.Msgq (Some numbers)) os later = both_true (row_addr x == row_addr x) (stand_in_rows os (x + 1)) (eq-eqb (row_addr x) (row_addr x) refl) later
rows_by t x range name public (Details.Stack None) os later = both_true (row_addr x == row_addr x) (stand_in_rows os (x + 1)) (eq-eqb (row_addr x) (row_addr x) refl) later
rows_by t x range name public (Details.Stack (Some entries)) os later = both_true (row_addr x == row_addr x) (stand_in_rows os (x + 1)) (eq-eqb (row_addr x) (row_addr x) refl) later
rows_by t x range name public (Details.Pipe None) os later = both_true (row_addr x == row_addr x) (stand_in_rows os (x + 1)) (eq-eqb (row_addr x) (row_addr x) refl) later
rows_by t x range name public (Details.Pipe (Some size)) os later = both_true (row_addr x == row_addr x) (stand_in_rows os (x + 1)) (eq-eqb (row_addr x) (row_addr x) refl) later
rows_by t x range name public Details.Timer os later = both_true (row_addr x == row_addr x) (stand_in_rows os (x + 1)) (eq-eqb (row_addr x) (row_addr x) refl) later

pub rows_lawful : (ranges : List Range) (t x : ℕ) (os : List ObjectEntry) → IsTrue (stand_in_rows (objects_from ranges x t os) x)
rows_lawful ranges t x [] = refl
rows_lawful ranges t x (o ∷ os) =
    rows_by t x (first_range ranges) o.name o.public o.details (objects_from (drop (ranges_taken o) ranges) (x + 1) (threads_after t o) os)
    (rows_lawful (drop (ranges_taken o) ranges) (threads_after t o) (x + 1) os)

-- ---- the ranges of stacks

abbrev LaterRanges : List ObjectEntry → Type 0
LaterRanges os = (ranges : List Range) (x t : ℕ) → length ranges ≡ length (flat_map asked_stack os) → stack_ranges (objects_from ranges x t os) ≡ ranges

stacks_by : (ranges : List Range) (x t : ℕ) (name : Text) (public : Bool) (details : Details) (os : List ObjectEntry) → length ranges ≡ length (flat_map asked_stack (entry name public details ∷ os))
    → LaterRanges os → stack_ranges (objects_from ranges x t (entry name public details ∷ os)) ≡ ranges
stacks_by ranges x t name public Details.Thread os same later = later ranges (x + 1) (t + 1) same
stacks_by [] x t name public (Details.ThreadStack size) os same later = absurd (omega (arith, same))
stacks_by (range ∷ ranges) x t name public (Details.ThreadStack size) os same later = ap (λ (rs : List Range). range ∷ rs) (later ranges (x + 1) t (omega (arith, same)))
stacks_by ranges x t name public (Details.Sem None) os same later = later ranges (x + 1) t same
stacks_by ranges x t name public (Details.Sem (Some numbers)) os same later = later ranges (x + 1) t same
stacks_by ranges x t name public (Details.Mutex true) os same later = later ranges (x + 1) t same
stacks_by ranges x t name public (Details.Mutex false) os same later = later ranges (x + 1) t same
stacks_by ranges x t name public (Details.Msgq None) os same later = later ranges (x + 1) t same
stacks_by ranges x t name public (Details.Msgq (Some numbers)) os same later = later ranges (x + 1) t same
stacks_by ranges x t name public (Details.Stack None) os same later = later ranges (x + 1) t same
stacks_by ranges x t name public (Details.Stack (Some entries)) os same later = later ranges (x + 1) t same
stacks_by ranges x t name public (Details.Pipe None) os same later = later ranges (x + 1) t same
stacks_by ranges x t name public (Details.Pipe (Some size)) os same later = later ranges (x + 1) t same
stacks_by ranges x t name public Details.Timer os same later = later ranges (x + 1) t same

pub ranges_of_stacks : (os : List ObjectEntry) → LaterRanges os
ranges_of_stacks [] [] x t same = refl
ranges_of_stacks [] (range ∷ ranges) x t same = absurd (omega (arith, same))
ranges_of_stacks (o ∷ os) ranges x t same = stacks_by ranges x t o.name o.public o.details os same (ranges_of_stacks os)
