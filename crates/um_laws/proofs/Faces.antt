-- What a step changes of time, of the flags of aborted threads and of the deadlines of calls: first of each kind of write and of each way
-- to go on, and then of each step.
use Rattle.std.proofs.Common.{◌≡◌, ℕ, zero, suc, ◌+◌, Bool, true, false, List, [], ◌∷◌, length, map, refl, ap, ◌∙◌, Option, Some, None, slice_index_or, slice_set, if◌then◌else◌, unwrap_or}
use Rattle.std.specs.List.{list_all}
use Rattle.std.proofs.lemmas.Bool.{false≢true}
use Rattle.std.proofs.Math.Seq.{map-set_same}
use Rattle.um_base.specs.declared.act.Answer.{Answer}
use Rattle.um_base.specs.declared.act.Found.{Found}
use Rattle.um_base.specs.declared.names.Access.TheVariants as Access
use Rattle.um_base.specs.declared.names.Addr.{Addr}
use Rattle.um_base.specs.declared.names.Errno.{Errno}
use Rattle.um_machine.specs.declared.pending.Pending.{Pending}
use Rattle.um_machine.specs.declared.thread.Thread.{Thread}
use Rattle.um_machine.specs.Futexes.{futex_answer, futex_refusal, futex_woken, wake_answer}
use Rattle.um_machine.specs.Goes.{Change, Next, at_end, at_steps, changed, gone, held, reserve_change, steps_by, text_change, went, with_answer, work_change}
use Rattle.um_machine.specs.Joins.{join_answer}
use Rattle.um_machine.specs.Memory.{allowed, string_read}
use Rattle.um_machine.specs.Order.{Steps, end_steps, fatal_steps, to_deadline}
use Rattle.um_machine.specs.Outcomes.{is_fault, reserved_in, value_in}
use Rattle.um_machine.specs.State.{State, nobody, no_rows, with_pair, thread_at, with_thread, is_living}
use Rattle.um_machine.specs.Table.{act_of, after, amount_of, came_with, reply_of, work_of}
use Rattle.um_machine.specs.Time.{next_deadline}
use Rattle.um_machine.specs.Writes.{Effect, Effects, Flag, cut, effect, flagged, newborn, only, with_dues, write, wrote}
use Rattle.um_machine.proofs.AfterLemmas.{after-is, bytes-leave}
use Rattle.um_machine.proofs.EffectLemmas.{all-wrote, effects_of, next_of, woken-by}
use Rattle.um_invariants.proofs.Facts.{each-of}

-- of a thread, whether it is aborted, and the deadline of its call
pub record Note : Type 0 where
  pub aborted : Bool
  pub until : Option ℕ

-- of a state, this of all threads, and the time
pub record Face : Type 0 where
  pub notes : List Note
  pub now : ℕ

abbrev pub note_of : Thread → Note
note_of me = record { aborted = me.aborted; until = me.until }

abbrev pub face : State → Face
face s = record { notes = map note_of s.threads; now = s.now }

abbrev pub note_at : Face → ℕ → Note
note_at f u = slice_index_or f.notes u (note_of nobody)

abbrev pub with_note : Face → ℕ → Note → Face
with_note f t n = record f { notes = slice_set f.notes t n }

map_set : {A B : Type 0} (f : A → B) (xs : List A) (t : ℕ) (x : A) → map f (slice_set xs t x) ≡ slice_set (map f xs) t (f x)
map_set f [] t x = refl
map_set f (y ∷ ys) zero x = refl
map_set f (y ∷ ys) (suc t) x = ap (λ zs. f y ∷ zs) (map_set f ys t x)

map_at : {A B : Type 0} (f : A → B) (xs : List A) (u : ℕ) (d : A) → slice_index_or (map f xs) u (f d) ≡ f (slice_index_or xs u d)
map_at f [] u d = refl
map_at f (y ∷ ys) zero d = refl
map_at f (y ∷ ys) (suc u) d = map_at f ys u d

pub note_is : (s : State) (u : ℕ) → note_at (face s) u ≡ note_of (thread_at s u)
note_is s u = map_at note_of s.threads u nobody

-- a thread is written
written : (s : State) (t : ℕ) (me : Thread) → face (with_thread s t me) ≡ with_note (face s) t (note_of me)
written s t me = ap (λ (ns : List Note). record (face s) { notes = ns }) (map_set note_of s.threads t me)

same : (s : State) (t : ℕ) (me : Thread) → note_of me ≡ note_of (thread_at s t) → face (with_thread s t me) ≡ face s
same s t me e = ap (λ (ns : List Note). record (face s) { notes = ns }) (map-set_same note_of s.threads t me nobody e)

-- Writes.

-- a write that leaves it all
abbrev leaves_face : Effect → Bool
leaves_face (Effect.flags who Flag.aborted) = false
leaves_face (Effect.starts who thread) = false
leaves_face (Effect.passes now) = false
leaves_face e = true

dues : (x u : ℕ) (holders : List Bool) (ts : List Thread) → map note_of (with_dues x u holders ts) ≡ map note_of ts
dues x u holders [] = refl
dues x u holders (me ∷ ts) = ap (λ ns. note_of me ∷ ns) (dues x (u + 1) holders ts)

face-effect : (f : Face) (e : Effect) (s : State) → leaves_face e ≡ true → face s ≡ f → face (effect e s) ≡ f
face-effect f (Effect.wakes woken) s h was = woken-by (λ (s : State). face s ≡ f) (λ s u told e. same s u (record (thread_at s u) { told = Some told }) refl ∙ e) woken s was
face-effect f (Effect.moves who d) s h was = same s who (record (thread_at s who) { domain = d }) refl ∙ was
face-effect f (Effect.dooms who) s h was = same s who (record (thread_at s who) { doomed = true }) refl ∙ was
face-effect f (Effect.flags who Flag.aborted) s h was = absurd (false≢true h)
face-effect f (Effect.flags who (Flag.suspended on)) s h was = same s who (flagged (Flag.suspended on) (thread_at s who)) refl ∙ was
face-effect f (Effect.cuts who) s h was = same s who (cut (thread_at s who)) refl ∙ was
face-effect f (Effect.starts who thread) s h was = absurd (false≢true h)
face-effect f (Effect.pair who x there) s h was = ap (λ (ns : List Note). record (face s) { notes = ns }) (dues x 0 (slice_index_or (with_pair s who x there).pairs x []) s.threads) ∙ was
face-effect f (Effect.bytes a bs) s h was = bytes-leave face (λ s b. refl) (λ s b. refl) s a bs ∙ was
face-effect f (Effect.passes now) s h was = absurd (false≢true h)
face-effect f e s h was = was

abbrev LeaveFace : Effects → Type 0
LeaveFace ws = list_all (λ (w : Bool × Effect). leaves_face w.1) ws ≡ true

face-wrote : (ws : Effects) (s : State) → LeaveFace ws → face (wrote ws s) ≡ face s
face-wrote ws s h = all-wrote (λ (u : State). face u ≡ face s) (λ e. leaves_face e ≡ true) (face-effect (face s)) ws s (each-of leaves_face (λ e. leaves_face e ≡ true) (λ e leaves. leaves) ws h) refl

-- Ways to go on.

-- a change that leaves the deadline of the call
abbrev keeps_until : Change → Bool
keeps_until (Change.until deadline) = false
keeps_until change = true

abbrev keeps_note : Next → Bool
keeps_note (Next.on change way) = keeps_until change
keeps_note (Next.answers to reply) = false
keeps_note Next.exits = false
keeps_note (Next.fatal reason) = false
keeps_note next = true

note-changed : (change : Change) (me : Thread) → keeps_until change ≡ true → note_of (changed change me) ≡ note_of me
note-changed Change.nothing me h = refl
note-changed (Change.until deadline) me h = absurd (false≢true h)
note-changed change me h = refl

note-held : (x : ℕ) (v : Option Errno) (me : Thread) → note_of (held x v me) ≡ note_of me
note-held x None me = refl
note-held x (Some e) me = refl

face-went : (left : Steps) (s : State) (t : ℕ) (next : Next) → keeps_note next ≡ true → face (went left s t next) ≡ face s
face-went left s t Next.stays h = refl
face-went left s t (Next.begins None) h = refl
face-went left s t (Next.resumes None) h = refl
face-went left s t (Next.on change way) h = same s t (at_steps s.image (changed change (thread_at s t)) (steps_by left way)) (note-changed change (thread_at s t) h)
face-went left s t (Next.checks x v way) h = same s t (at_steps s.image (held x v (thread_at s t)) (steps_by left way)) (note-held x v (thread_at s t))
face-went left s t (Next.answers to reply) h = absurd (false≢true h)
face-went left s t Next.exits h = absurd (false≢true h)
face-went left s t (Next.fatal reason) h = absurd (false≢true h)
face-went left s t next h = same s t (gone left s t next (thread_at s t)) refl

-- a step that writes and goes on so
plain : (s : State) (t x : ℕ) (p : Pending) (rest : Steps) → LeaveFace (effects_of s t x p) → keeps_note (next_of s t x p) ≡ true → face (after s t x p rest) ≡ face s
plain s t x p rest h g =
    let u = wrote (effects_of s t x p) s in ap face (after-is s t x p rest) ∙ (face-went rest u t (next_of s t x p) g ∙ face-wrote (effects_of s t x p) s h)

-- the changes of some steps
keeps-if : (b : Bool) (one other : Change) → keeps_until one ≡ true → keeps_until other ≡ true → keeps_until (if b then one else other) ≡ true
keeps-if true one other e f = e
keeps-if false one other e f = f

keeps-text : (came : List ℕ) (found : Found) → keeps_until (text_change came found) ≡ true
keeps-text came (Found.Length n) = refl
keeps-text came Found.Unreadable = refl
keeps-text came Found.TooLong = refl

keeps-work : (answer : Answer) (came : List ℕ) → keeps_until (work_change answer came) ≡ true
keeps-work Answer.Wait came = refl
keeps-work (Answer.Now reply) came = refl

keeps-reserve : (a : Option Addr) → keeps_until (reserve_change a) ≡ true
keeps-reserve None = refl
keeps-reserve (Some a) = refl

-- Steps.

-- the note of a thread whose call ends
abbrev pub without_deadline : Note → Note
without_deadline n = record n { until = None }

-- a thread is aborted, where it lives
abbrev pub marked : State → ℕ → State
marked s who = write (only (is_living (thread_at s who).life) (Effect.flags who Flag.aborted)) s

-- what a step leaves of it all
abbrev pub face_after : State → ℕ → Pending → Face
face_after s t (Pending.Answer reply to) = with_note (face s) t (without_deadline (note_of (thread_at s t)))
face_after s t Pending.Exit = with_note (face s) t (without_deadline (note_of (thread_at s t)))
face_after s t (Pending.Fatal reason cause) = with_note (face s) t (without_deadline (note_of (thread_at s t)))
face_after s t Pending.Killed = with_note (face s) t (without_deadline (note_of (thread_at s t)))
face_after s t (Pending.Arm ticks) = with_note (face s) t (record { aborted = (thread_at s t).aborted; until = Some (s.now + ticks) })
face_after s t (Pending.ArmTimer ticks) = with_note (face s) t (without_deadline (note_of (thread_at s t)))
face_after s t (Pending.Abort who) = face (marked s who.0)
face_after s t (Pending.Start who script stack priority mode) = with_note (face s) who.0 (note_of nobody)
face_after s t Pending.Tick = record (face s) { now = unwrap_or (next_deadline s.now s.armed) s.now }
face_after s t p = face s

pub faces : (s : State) (t x : ℕ) (p : Pending) (rest : Steps) → face (after s t x p rest) ≡ face_after s t p
faces s t x Pending.Exit rest = written s t (at_end s t (thread_at s t) (end_steps s.image t (thread_at s t)))
faces s t x Pending.Killed rest = written s t (at_end s t (thread_at s t) (end_steps s.image t (thread_at s t)))
faces s t x (Pending.Fatal reason cause) rest = written s t (at_end s t (thread_at s t) (fatal_steps s.image t (thread_at s t) reason s.image.policy))
faces s t x (Pending.Answer reply to) rest =
    let me = thread_at s t in
    written s t (at_steps s.image (record me { checked = no_rows; until = None; registers = with_answer me.registers to (reply_of me reply) }) rest)
faces s t x (Pending.Load to a n) rest =
    let act = act_of s t x (Pending.Load to a n) in plain s t x (Pending.Load to a n) rest refl (keeps-if (is_fault act) Change.nothing (Change.register to (value_in act)) refl refl)
faces s t x (Pending.CopyIn a amount) rest =
    plain s t x (Pending.CopyIn a amount) rest refl
    (keeps-if (allowed s t Access.Read a.0 (amount_of s amount)) (Change.copies (came_with s t (Pending.CopyIn a amount))) Change.nothing refl refl)
faces s t x (Pending.CopyStr a) rest = plain s t x (Pending.CopyStr a) rest refl (keeps-text (came_with s t (Pending.CopyStr a)) (string_read s t a.0 32))
faces s t x (Pending.Work a ask) rest = plain s t x (Pending.Work a ask) rest refl (keeps-work (work_of s t a ask).answer (work_of s t a ask).taken)
faces s t x (Pending.Join who timeout) rest = plain s t x (Pending.Join who timeout) rest refl (keeps-work (join_answer s t x who.0 timeout) [])
faces s t x (Pending.FutexWait a value timeout) rest = plain s t x (Pending.FutexWait a value timeout) rest refl (keeps-work (futex_answer s t a.0 value timeout) [])
faces s t x (Pending.FutexWake a all) rest =
    plain s t x (Pending.FutexWake a all) rest refl (keeps-work (wake_answer (futex_refusal s t a.0) (length (futex_woken s t a.0 all))) [])
faces s t x (Pending.Reserve kind) rest = plain s t x (Pending.Reserve kind) rest refl (keeps-reserve (reserved_in (act_of s t x (Pending.Reserve kind))))
faces s t x (Pending.Start who script stack priority mode) rest =
    let child = newborn s (thread_at s t) who.0 script (Pending.Start who script stack priority mode) in
    let s2 = with_thread s who.0 child in same s2 t (at_steps s2.image (record (thread_at s2 t) { child = None }) rest) refl ∙ written s who.0 child
faces s t x (Pending.Arm ticks) rest = written s t (at_steps s.image (record (thread_at s t) { until = Some (s.now + ticks) }) rest)
faces s t x (Pending.ArmTimer ticks) rest = written s t (at_steps s.image (record (thread_at s t) { until = None }) (to_deadline (s.now + ticks) rest))
faces s t x (Pending.Abort who) rest = let s2 = marked s who.0 in same s2 t (at_steps s2.image (thread_at s2 t) rest) refl
faces s t x Pending.Tick rest = refl
faces s t x p rest = plain s t x p rest refl refl
