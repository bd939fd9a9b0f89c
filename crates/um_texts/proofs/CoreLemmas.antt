-- What of a state the steps of threads depend on: all but who cleans an object, and some of what is left of an instruction.
use Rattle.std.proofs.Common.{◌≡◌, ℕ, zero, suc, ◌+◌, ◌-◌, Bool, true, false, List, [], ◌∷◌, refl, sym, ap, ◌∙◌, Option, Some, None, if◌then◌else◌, slice_index_or, slice_set, map}
use Rattle.std.proofs.lemmas.List.{map-set}
use Rattle.std.specs.Prelude.{◌==◌, ◌||◌}
use Rattle.um_base.specs.declared.ask.Told.{Told}
use Rattle.um_base.specs.declared.ask.Waiter.{Waiter}
use Rattle.um_base.specs.declared.names.Reply.{Reply}
use Rattle.um_base.specs.declared.names.ThreadIx.{ThreadIx}
use Rattle.um_machine.specs.declared.object.Object.{Object}
use Rattle.um_machine.specs.declared.pending.Pending.{Pending}
use Rattle.um_machine.specs.declared.thread.Thread.{Thread}
use Rattle.um_machine.specs.State.{State, nobody, vacant, thread_at, object_at, with_thread, with_object, with_waiters}
use Rattle.um_base.specs.declared.limits.TheConstants.{FUTEX_CELL, JOIN_CELL, PARTITION_AREA, STACK_AREA}
use Rattle.um_base.specs.Regions.{Partitions}
use Rattle.um_machine.specs.Memory.{with_bytes, put_bytes}
use Rattle.um_machine.specs.Order.{Steps}
use Rattle.um_machine.specs.Writes.{Flag, with_due, with_dues, paired, all_woken, cut, flagged}

-- what is left of an instruction, where a drop that is to come counts as done, and the drops of an end are all one
abbrev pub settled : Steps → Steps
settled (Pending.DropPair who a ∷ rest) = Pending.Answer (Some Reply.Void) None ∷ []
settled (Pending.Drops from ∷ rest) = Pending.Drops 0 ∷ rest
settled steps = steps

abbrev pub core_thread : Thread → Thread
core_thread me = record me { pending = settled me.pending }

abbrev pub core_object : Object → Object
core_object o = record o { cleaner = None }

abbrev pub core : State → State
core s = record s { threads = map core_thread s.threads; objects = map core_object s.objects }

settled_twice : (steps : Steps) → settled (settled steps) ≡ settled steps
settled_twice (Pending.DropPair who a ∷ rest) = refl
settled_twice (Pending.Drops from ∷ rest) = refl
settled_twice [] = refl
settled_twice steps = refl

pub core_thread_twice : (m : Thread) → core_thread (core_thread m) ≡ core_thread m
core_thread_twice m = ap (λ (steps : Steps). record m { pending = steps }) (settled_twice m.pending)

core_threads_twice : (ts : List Thread) → map core_thread (map core_thread ts) ≡ map core_thread ts
core_threads_twice [] = refl
core_threads_twice (me ∷ ts) =
    ap (λ (steps : Steps). record me { pending = steps } ∷ map core_thread (map core_thread ts)) (settled_twice me.pending) ∙ ap (λ (xs : List Thread). core_thread me ∷ xs) (core_threads_twice ts)

core_objects_twice : (os : List Object) → map core_object (map core_object os) ≡ map core_object os
core_objects_twice [] = refl
core_objects_twice (o ∷ os) = ap (λ (xs : List Object). core_object o ∷ xs) (core_objects_twice os)

pub core_core : (s : State) → core (core s) ≡ core s
core_core s =
    ap (λ (ts : List Thread). record s { threads = ts; objects = map core_object (map core_object s.objects) }) (core_threads_twice s.threads)
    ∙ ap (λ (os : List Object). record s { threads = map core_thread s.threads; objects = os }) (core_objects_twice s.objects)

thread_in : (ts : List Thread) (t : ℕ) → slice_index_or (map core_thread ts) t nobody ≡ core_thread (slice_index_or ts t nobody)
thread_in [] t = refl
thread_in (me ∷ ts) zero = refl
thread_in (me ∷ ts) (suc t) = thread_in ts t

object_in : (os : List Object) (x : ℕ) → slice_index_or (map core_object os) x vacant ≡ core_object (slice_index_or os x vacant)
object_in [] x = refl
object_in (o ∷ os) zero = refl
object_in (o ∷ os) (suc x) = object_in os x

pub core_thread_at : (s : State) (t : ℕ) → thread_at (core s) t ≡ core_thread (thread_at s t)
core_thread_at s t = thread_in s.threads t

pub core_object_at : (s : State) (x : ℕ) → object_at (core s) x ≡ core_object (object_at s x)
core_object_at s x = object_in s.objects x

-- Two states with one core.

pub same_thread : (s2 s : State) → core s2 ≡ core s → (t : ℕ) → core_thread (thread_at s2 t) ≡ core_thread (thread_at s t)
same_thread s2 s e t = sym (core_thread_at s2 t) ∙ ap (λ (k : State). thread_at k t) e ∙ core_thread_at s t

pub same_object : (s2 s : State) → core s2 ≡ core s → (x : ℕ) → core_object (object_at s2 x) ≡ core_object (object_at s x)
same_object s2 s e x = sym (core_object_at s2 x) ∙ ap (λ (k : State). object_at k x) e ∙ core_object_at s x

core_with_thread : (s : State) (t : ℕ) (me : Thread) → core (with_thread s t me) ≡ with_thread (core s) t (core_thread me)
core_with_thread s t me = ap (λ (ts : List Thread). record s { threads = ts; objects = map core_object s.objects }) (map-set core_thread s.threads t me)

core_with_object : (s : State) (x : ℕ) (o : Object) → core (with_object s x o) ≡ with_object (core s) x (core_object o)
core_with_object s x o = ap (λ (os : List Object). record s { threads = map core_thread s.threads; objects = os }) (map-set core_object s.objects x o)

pub same_with_thread : (s2 s : State) → core s2 ≡ core s → (t : ℕ) (me2 me : Thread) → core_thread me2 ≡ core_thread me → core (with_thread s2 t me2) ≡ core (with_thread s t me)
same_with_thread s2 s e t me2 me f =
    core_with_thread s2 t me2 ∙ ap (λ (k : State). with_thread k t (core_thread me2)) e ∙ ap (λ (m : Thread). with_thread (core s) t m) f ∙ sym (core_with_thread s t me)

pub same_with_object : (s2 s : State) → core s2 ≡ core s → (x : ℕ) (o2 o : Object) → core_object o2 ≡ core_object o → core (with_object s2 x o2) ≡ core (with_object s x o)
same_with_object s2 s e x o2 o f =
    core_with_object s2 x o2 ∙ ap (λ (k : State). with_object k x (core_object o2)) e ∙ ap (λ (p : Object). with_object (core s) x p) f ∙ sym (core_with_object s x o)

-- a thread is written that depends on who it was, but not on what was left of its instruction
pub same_written : (s2 s : State) → core s2 ≡ core s → (t : ℕ) (f : Thread → Thread) → ((m : Thread) → core_thread (f (core_thread m)) ≡ core_thread (f m)) → core (with_thread s2 t (f (thread_at s2 t))) ≡ core (with_thread s t (f (thread_at s t)))
same_written s2 s e t f h =
    same_with_thread s2 s e t (f (thread_at s2 t)) (f (thread_at s t))
    (sym (h (thread_at s2 t)) ∙ ap (λ (m : Thread). core_thread (f m)) (same_thread s2 s e t) ∙ h (thread_at s t))

pub same_written_object : (s2 s : State) → core s2 ≡ core s → (x : ℕ) (f : Object → Object) → ((o : Object) → core_object (f (core_object o)) ≡ core_object (f o)) → core (with_object s2 x (f (object_at s2 x))) ≡ core (with_object s x (f (object_at s x)))
same_written_object s2 s e x f h =
    same_with_object s2 s e x (f (object_at s2 x)) (f (object_at s x))
    (sym (h (object_at s2 x)) ∙ ap (λ (o : Object). core_object (f o)) (same_object s2 s e x) ∙ h (object_at s x))

pub same_if : (b : Bool) (s2 s r2 r : State) → core s2 ≡ core s → core r2 ≡ core r → core (if b then s2 else r2) ≡ core (if b then s else r)
same_if true s2 s r2 r h k = h
same_if false s2 s r2 r h k = k

-- Pairs.

core_dues : (x t : ℕ) (holders : List Bool) (ts : List Thread) → map core_thread (with_dues x t holders ts) ≡ with_dues x t holders (map core_thread ts)
core_dues x t holders [] = refl
core_dues x t holders (me ∷ ts) = ap (λ (xs : List Thread). core_thread (with_due x t holders me) ∷ xs) (core_dues x (t + 1) holders ts)

core_paired : (s : State) (t x : ℕ) (there : Bool) → core (paired s t x there) ≡ paired (core s) t x there
core_paired s t x there =
    let pairs = slice_set s.pairs x (slice_set (slice_index_or s.pairs x []) t there) in
    ap (λ (ts : List Thread). record s { pairs = pairs; threads = ts; objects = map core_object s.objects }) (core_dues x 0 (slice_index_or pairs x []) s.threads)

pub same_paired : (s2 s : State) → core s2 ≡ core s → (t x : ℕ) (there : Bool) → core (paired s2 t x there) ≡ core (paired s t x there)
same_paired s2 s e t x there = core_paired s2 t x there ∙ ap (λ (k : State). paired k t x there) e ∙ sym (core_paired s t x there)

-- Memory, pools and domains.

bytes_by : (s2 s : State) (low : Bool) (m2 m n2 n : List ℕ) → core s2 ≡ core s → m2 ≡ m → n2 ≡ n → core (if low then record s2 { memory = m2 } else record s2 { stacks = n2 }) ≡ core (if low then record s { memory = m } else record s { stacks = n })
bytes_by s2 s true m2 m n2 n e f g = ap (λ (bytes : List ℕ). record (core s2) { memory = bytes }) f ∙ ap (λ (k : State). record k { memory = m }) e
bytes_by s2 s false m2 m n2 n e f g = ap (λ (bytes : List ℕ). record (core s2) { stacks = bytes }) g ∙ ap (λ (k : State). record k { stacks = n }) e

pub same_bytes : (s2 s : State) → core s2 ≡ core s → (a : ℕ) (bytes : List ℕ) → core (with_bytes s2 a bytes) ≡ core (with_bytes s a bytes)
same_bytes s2 s e a bytes =
    bytes_by s2 s _ _ _ _ _ e (ap (λ (k : State). put_bytes k.memory (a - PARTITION_AREA) bytes) e) (ap (λ (k : State). put_bytes k.stacks (a - STACK_AREA) bytes) e)

pub same_pools : (s2 s : State) → core s2 ≡ core s → (f : List ℕ → List ℕ) → core (record s2 { pools = f s2.pools }) ≡ core (record s { pools = f s.pools })
same_pools s2 s e f = ap (λ (k : State). record k { pools = f k.pools }) e

pub same_domains : (s2 s : State) → core s2 ≡ core s → (f : List (Option Partitions) → List (Option Partitions)) → core (record s2 { domains = f s2.domains }) ≡ core (record s { domains = f s.domains })
same_domains s2 s e f = ap (λ (k : State). record k { domains = f k.domains }) e

-- Virtual time, and those who wait in a cell.

pub same_armed : (s2 s : State) → core s2 ≡ core s → (f : List ℕ → List ℕ) → core (record s2 { armed = f s2.armed }) ≡ core (record s { armed = f s.armed })
same_armed s2 s e f = ap (λ (k : State). record k { armed = f k.armed }) e

pub same_now : (s2 s : State) → core s2 ≡ core s → (now : ℕ) → core (record s2 { now = now }) ≡ core (record s { now = now })
same_now s2 s e now = ap (λ (k : State). record k { now = now }) e

waiters_by : (s : State) (c : ℕ) (ws : List Waiter) (joins futexes : Bool) → core (record s { objects = if joins || futexes then s.objects else slice_set s.objects c (record (object_at s c) { waiters = ws }); joins = if joins then ws else s.joins; futexes = if futexes then ws else s.futexes })
    ≡ record (core s) { objects = if joins || futexes then (core s).objects else slice_set (core s).objects c (record (object_at (core s) c) { waiters = ws }); joins = if joins then ws else s.joins; futexes = if futexes then ws else s.futexes }
waiters_by s c ws true futexes = refl
waiters_by s c ws false true = refl
waiters_by s c ws false false =
    ap (λ (os : List Object). record s { threads = map core_thread s.threads; objects = os })
    (map-set core_object s.objects c (record (object_at s c) { waiters = ws }) ∙ ap (λ (o : Object). slice_set (map core_object s.objects) c (record o { waiters = ws })) (sym (core_object_at s c)))

core_waiters : (s : State) (c : ℕ) (ws : List Waiter) → core (with_waiters s c ws) ≡ with_waiters (core s) c ws
core_waiters s c ws = waiters_by s c ws (c == JOIN_CELL) (c == FUTEX_CELL)

pub same_waiters : (s2 s : State) → core s2 ≡ core s → (c : ℕ) (ws : List Waiter) → core (with_waiters s2 c ws) ≡ core (with_waiters s c ws)
same_waiters s2 s e c ws = core_waiters s2 c ws ∙ ap (λ (k : State). with_waiters k c ws) e ∙ sym (core_waiters s c ws)

-- Other threads.

pub same_moved : (s2 s : State) → core s2 ≡ core s → (who d : ℕ) → core (with_thread s2 who (record (thread_at s2 who) { domain = d })) ≡ core (with_thread s who (record (thread_at s who) { domain = d }))
same_moved s2 s e who d = same_written s2 s e who (λ (m : Thread). record m { domain = d }) (λ m. ap (λ (steps : Steps). record m { domain = d; pending = steps }) (settled_twice m.pending))

pub same_woken : (ws : List (ThreadIx × Told)) (s2 s : State) → core s2 ≡ core s → core (all_woken ws s2) ≡ core (all_woken ws s)
same_woken [] s2 s e = e
same_woken (w ∷ ws) s2 s e =
    same_woken ws (with_thread s2 w.0.0 (record (thread_at s2 w.0.0) { told = Some w.1 })) (with_thread s w.0.0 (record (thread_at s w.0.0) { told = Some w.1 }))
    (same_written s2 s e w.0.0 (λ (m : Thread). record m { told = Some w.1 }) (λ m. ap (λ (steps : Steps). record m { told = Some w.1; pending = steps }) (settled_twice m.pending)))

pub same_doomed : (s2 s : State) → core s2 ≡ core s → (who : ℕ) → core (with_thread s2 who (record (thread_at s2 who) { doomed = true })) ≡ core (with_thread s who (record (thread_at s who) { doomed = true }))
same_doomed s2 s e who = same_written s2 s e who (λ (m : Thread). record m { doomed = true }) (λ m. ap (λ (steps : Steps). record m { doomed = true; pending = steps }) (settled_twice m.pending))

pub same_flagged : (s2 s : State) → core s2 ≡ core s → (who : ℕ) (flag : Flag) → core (with_thread s2 who (flagged flag (thread_at s2 who))) ≡ core (with_thread s who (flagged flag (thread_at s who)))
same_flagged s2 s e who Flag.aborted = same_written s2 s e who (flagged Flag.aborted) (λ m. ap (λ (steps : Steps). record m { aborted = true; pending = steps }) (settled_twice m.pending))
same_flagged s2 s e who (Flag.suspended on) = same_written s2 s e who (flagged (Flag.suspended on)) (λ m. ap (λ (steps : Steps). record m { suspended = on; pending = steps }) (settled_twice m.pending))

pub same_cut : (s2 s : State) → core s2 ≡ core s → (who : ℕ) → core (with_thread s2 who (cut (thread_at s2 who))) ≡ core (with_thread s who (cut (thread_at s who)))
same_cut s2 s e who = same_written s2 s e who cut (λ m. refl)
