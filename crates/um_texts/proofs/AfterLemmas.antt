-- The core of the state after a step depends on the core of the state before it alone: states with one core have the same writes and go on in the same way.
use Rattle.std.proofs.Common.{◌≡◌, ℕ, List, [], ◌∷◌, ◌++◌, refl, ap, ◌∙◌, Option, Some, None, is_some, slice_set, take}
use Rattle.um_base.specs.declared.act.Act.{Act}
use Rattle.um_base.specs.declared.act.Found.{Found}
use Rattle.um_base.specs.declared.image.Image.{Image}
use Rattle.um_base.specs.declared.instr.Instr.{Instr}
use Rattle.um_base.specs.declared.ask.Ask.{Ask}
use Rattle.um_base.specs.declared.ask.Told.{Told}
use Rattle.um_base.specs.declared.ask.Waiter.{Waiter}
use Rattle.um_base.specs.declared.limits.TheConstants.{FUTEX_CELL, JOIN_CELL, PIECE}
use Rattle.um_base.specs.declared.names.ThreadIx.{ThreadIx}
use Rattle.um_base.specs.declared.names.Errno.{Errno}
use Rattle.um_base.specs.Places.{own_row}
use Rattle.um_base.specs.Regions.{Partitions}
use Rattle.um_machine.specs.declared.contents.Contents.{Contents}
use Rattle.um_machine.specs.declared.object.Object.{Object}
use Rattle.um_machine.specs.declared.pending.Pending.{Pending}
use Rattle.um_machine.specs.declared.thread.Thread.{Thread}
use Rattle.um_machine.specs.Goes.{Change, Next, at_steps, gone, went, with_begin}
use Rattle.um_machine.specs.Memory.{bytes_at, string_bytes, string_read}
use Rattle.um_machine.specs.Order.{Steps, steps_of}
use Rattle.um_machine.specs.Outcomes.{answer_in, fits_in, reserved_in}
use Rattle.um_machine.specs.Readings.{row_of, work_of}
use Rattle.um_machine.specs.Services.{Acted, in_order, runs_out, still_waiting, without}
use Rattle.um_machine.specs.State.{State, object_at, thread_at, with_thread}
use Rattle.um_machine.specs.Table.{act_of, after, came_with, continues, effects}
use Rattle.um_machine.specs.Time.{told_late}
use Rattle.um_machine.specs.Writes.{Edit, Effect, Effects, buffer_cost, cost_of, does, edited, effect, newborn, only, paid_back, paid_from, says_wait, wrote}
use Rattle.um_machine.proofs.EffectLemmas.{effects_of, next_of}
use Rattle.um_texts.proofs.CoreLemmas.{core, core_object, core_object_at, core_thread, core_thread_at, core_thread_twice, same_armed, same_bytes, same_cut, same_domains, same_doomed, same_flagged, same_if, same_moved, same_now, same_paired, same_pools, same_waiters, same_with_thread, same_woken, same_written, same_written_object}
use Rattle.um_texts.proofs.SaidLemmas.{both, core_act, core_amount, core_queued, core_roused, core_string, core_string_bytes, core_waiting, core_work}

-- The writes.

same_edit : (edit : Edit) (o : Object) → core_object (edited edit (core_object o)) ≡ core_object (edited edit o)
same_edit (Edit.inits init) o = refl
same_edit edit o = refl

same_effect : (x : Effect) (s2 s : State) → core s2 ≡ core s → core (effect x s2) ≡ core (effect x s)
same_effect (Effect.wakes woken) s2 s e = same_woken woken s2 s e
same_effect (Effect.moves who d) s2 s e = same_moved s2 s e who d
same_effect (Effect.dooms who) s2 s e = same_doomed s2 s e who
same_effect (Effect.flags who flag) s2 s e = same_flagged s2 s e who flag
same_effect (Effect.cuts who) s2 s e = same_cut s2 s e who
same_effect (Effect.waiters c ws) s2 s e = same_waiters s2 s e c ws
same_effect (Effect.arms deadline) s2 s e = same_armed s2 s e (λ (ds : List ℕ). ds ++ deadline ∷ [])
same_effect (Effect.passes now) s2 s e = same_now s2 s e now
same_effect (Effect.starts who thread) s2 s e = same_with_thread s2 s e who thread thread refl
same_effect (Effect.pair who x there) s2 s e = same_paired s2 s e who x there
same_effect (Effect.object x edit) s2 s e = same_written_object s2 s e x (edited edit) (same_edit edit)
same_effect (Effect.bytes a bs) s2 s e = same_bytes s2 s e a bs
same_effect (Effect.takes pool size) s2 s e = same_pools s2 s e (paid_from pool size)
same_effect (Effect.returns cost) s2 s e = same_pools s2 s e (paid_back cost)
same_effect (Effect.edits d parts) s2 s e = same_domains s2 s e (λ (ds : List (Option Partitions)). slice_set ds d parts)

pub same_wrote : (ws : Effects) (s2 s : State) → core s2 ≡ core s → core (wrote ws s2) ≡ core (wrote ws s)
same_wrote [] s2 s e = e
same_wrote ((b, x) ∷ ws) s2 s e = same_wrote ws _ _ (same_if b (effect x s2) (effect x s) s2 s (same_effect x s2 s e) e)

core_effects : (k : State) (t x : ℕ) (p : Pending) (act : Act) → effects (core k) t x p act ≡ effects k t x p act
core_effects k t x (Pending.CopyOut a) act = ap (λ (m : Thread). only (fits_in act) (Effect.bytes a.0 m.buffer) ∷ []) (core_thread_at k t)
core_effects k t x (Pending.Work a ask) act =
    let y = row_of k a in
    let writes : Acted → Object → Effects = λ w o. does (Effect.object y (Edit.works w.contents w.waiters (buffer_cost ask w.answer o.buffer))) ∷ does (Effect.wakes w.woken) ∷ [] in
    ap (λ (w : Acted). writes w (object_at (core k) y)) (core_work k t a ask) ∙ ap (writes (work_of k t a ask)) (core_object_at k y)
core_effects k t x (Pending.Named who) act = ap (λ (m : Thread). does (Effect.object (own_row k.image who.0) (Edit.named m.buffer)) ∷ []) (core_thread_at k t)
core_effects k t x (Pending.Reserve kind) act =
    let found = is_some (reserved_in act) in
    ap (λ (m : Thread). only found (Effect.takes m.pool 64) ∷ only found (Effect.object x (Edit.reserved kind (cost_of m.pool 64))) ∷ []) (core_thread_at k t)
core_effects k t x (Pending.Buffer size) act = ap (λ (m : Thread). only (fits_in act) (Effect.takes m.pool size) ∷ []) (core_thread_at k t)
core_effects k t x (Pending.Unbuffer size) act = ap (λ (m : Thread). does (Effect.returns (cost_of m.pool size)) ∷ []) (core_thread_at k t)
core_effects k t x (Pending.Start who script stack priority mode) act =
    let p = Pending.Start who script stack priority mode in
    let born : Thread → Thread → Effects = λ me was. does (Effect.starts who.0 (record (newborn k me who.0 script p) { doomed = was.doomed })) ∷ [] in
    ap (λ (m : Thread). born m (thread_at (core k) who.0)) (core_thread_at k t) ∙ ap (born (thread_at k t)) (core_thread_at k who.0)
core_effects k t x Pending.Recycle act =
    ap (λ (o : Object). does (Effect.object x Edit.vacates) ∷ does (Effect.returns o.cost) ∷ does (Effect.returns o.buffer) ∷ []) (core_object_at k x)
core_effects k t x (Pending.Join who timeout) act = ap (λ (ws : List Waiter). only (says_wait (answer_in act)) (Effect.waiters JOIN_CELL ws) ∷ []) (core_queued k t JOIN_CELL (Ask.Join who))
core_effects k t x (Pending.FutexWait a value timeout) act =
    ap (λ (ws : List Waiter). only (says_wait (answer_in act)) (Effect.waiters FUTEX_CELL ws) ∷ []) (core_queued k t FUTEX_CELL (Ask.FutexWait a))
core_effects k t x (Pending.FutexWake a all) act =
    ap (λ (woken : List (ThreadIx × Told)). does (Effect.waiters FUTEX_CELL (still_waiting woken k.futexes)) ∷ does (Effect.wakes woken) ∷ []) (core_roused k t a.0 all)
core_effects k t x (Pending.TimeOut who) act = ap (λ (ws : List Waiter). does (Effect.waiters x (without who.0 ws)) ∷ does (Effect.wakes (told_late who x)) ∷ []) (core_waiting k x)
core_effects k t x Pending.Expire act =
    let out : Object → Contents × List Waiter × List (ThreadIx × Told) = λ o. runs_out o.waiters (in_order o.waiters) in
    ap (λ (o : Object). does (Effect.object x (Edit.runs_out (out o).0 (out o).1)) ∷ does (Effect.wakes (out o).2) ∷ []) (core_object_at k x)
core_effects k t x (Pending.Cut who) act = ap (λ (ws : List Waiter). does (Effect.waiters x (without who.0 ws)) ∷ does (Effect.cuts who.0) ∷ []) (core_waiting k x)
core_effects k t x p act = refl

same_effects : (s2 s : State) → core s2 ≡ core s → (t x : ℕ) (p : Pending) → effects_of s2 t x p ≡ effects_of s t x p
same_effects s2 s e t x p =
    both (λ (k : State). effects_of k t x p) (λ k. ap (effects (core k) t x p) (core_act k t x p) ∙ core_effects k t x p (act_of k t x p)) s2 s e

-- How the thread goes on.

core_gone : (left : Steps) (k : State) (t : ℕ) (next : Next) (m : Thread) → gone left (core k) t next m ≡ gone left k t next m
core_gone left k t (Next.begins None) m = refl
core_gone left k t (Next.begins (Some instr)) m = refl
core_gone left k t (Next.resumes None) m = refl
core_gone left k t (Next.resumes (Some told)) m = refl
core_gone left k t next m = refl

gone_core : (left : Steps) (s : State) (t : ℕ) (next : Next) (m : Thread) → core_thread (gone left s t next (core_thread m)) ≡ core_thread (gone left s t next m)
gone_core left s t (Next.on change way) m = by change
  where
    by : (change : Change) → core_thread (gone left s t (Next.on change way) (core_thread m)) ≡ core_thread (gone left s t (Next.on change way) m)
    by Change.nothing = refl
    by change = refl
gone_core left s t (Next.checks x v way) m = by v
  where
    by : (v : Option Errno) → core_thread (gone left s t (Next.checks x v way) (core_thread m)) ≡ core_thread (gone left s t (Next.checks x v way) m)
    by None = refl
    by (Some c) = refl
gone_core left s t Next.stays m = core_thread_twice m
gone_core left s t (Next.begins None) m = core_thread_twice m
gone_core left s t (Next.begins (Some instr)) m =
    ap (λ (steps : Steps). core_thread (at_steps s.image (record m { registers = with_begin m.registers instr }) steps)) (steps_core s.image t m instr)
  where
    steps_core : (image : Image) (t : ℕ) (m : Thread) (instr : Instr) → steps_of image t (core_thread m) instr ≡ steps_of image t m instr
    steps_core image t m instr = refl
gone_core left s t (Next.resumes None) m = core_thread_twice m
gone_core left s t (Next.resumes (Some told)) m = refl
gone_core left s t next m = refl

same_went : (left : Steps) (s2 s : State) → core s2 ≡ core s → (t : ℕ) (next : Next) → core (went left s2 t next) ≡ core (went left s t next)
same_went left s2 s e t next = by next
  where
    written : (next : Next) → core (with_thread s2 t (gone left s2 t next (thread_at s2 t))) ≡ core (with_thread s t (gone left s t next (thread_at s t)))
    written next =
        ap (λ (m : Thread). core (with_thread s2 t m)) (both (λ (k : State). gone left k t next (thread_at s2 t)) (λ k. core_gone left k t next (thread_at s2 t)) s2 s e)
        ∙ same_written s2 s e t (gone left s t next) (gone_core left s t next)

    by : (next : Next) → core (went left s2 t next) ≡ core (went left s t next)
    by Next.stays = e
    by (Next.begins None) = e
    by (Next.resumes None) = e
    by next = written next

core_came : (k : State) (t : ℕ) (p : Pending) → came_with (core k) t p ≡ came_with k t p
core_came k t (Pending.CopyIn a amount) = ap (λ (n : ℕ). take PIECE (bytes_at k a.0 n)) (core_amount k amount)
core_came k t (Pending.CopyStr a) =
    ap (λ (found : Found). elim found as (λ _. List ℕ) [ Found.Length n ↦ string_bytes (core k) a.0 n | _ ↦ [] ]) (core_string k t a.0 32) ∙ read (string_read k t a.0 32)
  where
    read : (found : Found) → (elim found as (λ _. List ℕ) [ Found.Length n ↦ string_bytes (core k) a.0 n | _ ↦ [] ]) ≡ (elim found as (λ _. List ℕ) [ Found.Length n ↦ string_bytes k a.0 n | _ ↦ [] ])
    read (Found.Length n) = core_string_bytes k a.0 n
    read found = refl
core_came k t (Pending.Work a ask) = ap (λ (w : Acted). w.taken) (core_work k t a ask)
core_came k t p = refl

core_continues : (image : Image) (t : ℕ) (m : Thread) (x : ℕ) (p : Pending) (act : Act) (came : List ℕ) → continues image t (core_thread m) x p act came ≡ continues image t m x p act came
core_continues image t m x Pending.Begin act came = refl
core_continues image t m x p act came = refl

core_next : (k : State) (t x : ℕ) (p : Pending) → next_of (core k) t x p ≡ next_of k t x p
core_next k t x p =
    let image = k.image in
    let me = thread_at (core k) t in
    let act = act_of k t x p in
    let came = came_with k t p in
    ap (λ (a : Act). continues image t me x p a (came_with (core k) t p)) (core_act k t x p) ∙ ap (continues image t me x p act) (core_came k t p)
    ∙ ap (λ (m : Thread). continues image t m x p act came) (core_thread_at k t) ∙ core_continues image t (thread_at k t) x p act came

pub same_after : (s2 s : State) → core s2 ≡ core s → (t x : ℕ) (p : Pending) (rest : Steps) → core (after s2 t x p rest) ≡ core (after s t x p rest)
same_after s2 s e t x p rest =
    let next = next_of s2 t x p in
    let ws = effects_of s t x p in
    ap (λ (ws : Effects). core (went rest (wrote ws s2) t next)) (same_effects s2 s e t x p)
    ∙ ap (λ (n : Next). core (went rest (wrote ws s2) t n)) (both (λ (k : State). next_of k t x p) (λ k. core_next k t x p) s2 s e)
    ∙ same_went rest (wrote ws s2) (wrote ws s) (same_wrote ws s2 s e) t (next_of s t x p)
