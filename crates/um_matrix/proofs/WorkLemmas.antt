-- What work on an object leaves to threads, in the words of the state.
use Rattle.std.proofs.Common.{◌≡◌, ◌∙◌, Bool, List, [], ◌∷◌, ℕ, Some, length, slice_index_or, slice_set, refl, sym, ap}
use Rattle.um_base.specs.declared.ask.Ask.{Ask}
use Rattle.um_base.specs.declared.ask.Told.{Told}
use Rattle.um_base.specs.declared.ask.Waiter.{Waiter}
use Rattle.um_base.specs.declared.limits.TheConstants.{FUTEX_CELL, JOIN_CELL}
use Rattle.um_base.specs.declared.names.Addr.{Addr}
use Rattle.um_base.specs.declared.names.Mode.{Mode}
use Rattle.um_base.specs.declared.names.ThreadIx.{ThreadIx}
use Rattle.um_machine.specs.declared.contents.Contents.{Contents}
use Rattle.um_machine.specs.declared.object.Object.{Object}
use Rattle.um_machine.specs.declared.pending.Pending.TheVariants as Pending
use Rattle.um_machine.specs.declared.thread.Thread.{Thread}
use Rattle.um_machine.specs.Futexes.{futex_refusal, futex_woken, wake_answer}
use Rattle.um_machine.specs.Goes.{Next, asked_way, at_steps, changed, steps_by, went, work_change, work_way}
use Rattle.um_machine.specs.Joins.{all_joined, without_joins}
use Rattle.um_machine.specs.Order.{Steps}
use Rattle.um_machine.specs.Services.{Acted, in_order, runs_out, still_waiting}
use Rattle.um_machine.specs.State.{State, nobody, thread_at, object_at, with_thread, with_object, with_waiters}
use Rattle.um_machine.specs.Table.{after, row_of, work_of}
use Rattle.um_machine.specs.Writes.{Edit, Effect, all_woken, buffer_cost, does, wrote}
use Rattle.um_matrix.proofs.PairLemmas.{pending-all_woken, stays}
use Rattle.um_matrix.specs.Worked.{threads_woken, answered, asked}

pub all_woken-threads : (ws : List (ThreadIx × Told)) (s : State) → all_woken ws s ≡ record s { threads = threads_woken ws s.threads }
all_woken-threads [] s = refl
all_woken-threads (w ∷ ws) s = all_woken-threads ws (with_thread s w.0.0 (record (thread_at s w.0.0) { told = Some w.1 }))

-- the same under a name that code may cite
pub woken_threads : (ws : List (ThreadIx × Told)) (s : State) → all_woken ws s ≡ record s { threads = threads_woken ws s.threads }
woken_threads ws s = all_woken-threads ws s

-- the steps that a thread has left stay where others are told something, and so does its mode
pub pending-threads_woken : (ws : List (ThreadIx × Told)) (s : State) (t : ℕ) → (slice_index_or (threads_woken ws s.threads) t nobody).pending ≡ (thread_at s t).pending
pending-threads_woken ws s t = ap (λ (s2 : State). (thread_at s2 t).pending) (sym (all_woken-threads ws s)) ∙ pending-all_woken ws s t

mode-threads_woken : (ws : List (ThreadIx × Told)) (s : State) (t : ℕ) → (slice_index_or (threads_woken ws s.threads) t nobody).mode ≡ (thread_at s t).mode
mode-threads_woken ws s t =
    ap (λ (s2 : State). (thread_at s2 t).mode) (sym (all_woken-threads ws s))
    ∙ stays (λ (me : Thread). me.mode) (record { due = λ h me due. refl; told = λ h me told. refl; domain = λ h me domain. refl; doomed = λ h me. refl; flagged = λ h me aborted suspended. refl }) (does (Effect.wakes ws) ∷ []) s t refl

-- the state after an act on the object of a row
abbrev pub acted_on : State → ℕ → ℕ → Ask → Steps → Acted → State
acted_on s t x ask rest w =
    let edit = Edit.works w.contents w.waiters (buffer_cost ask w.answer (object_at s x).buffer) in
    went rest (wrote (does (Effect.object x edit) ∷ does (Effect.wakes w.woken) ∷ []) s) t (Next.on (work_change w.answer w.taken) (work_way (thread_at s t).mode ask w.answer))

-- the object, the woken and the thread that did the work, one after another
pub worked : (s : State) (t : ℕ) (a : Addr) (ask : Ask) (rest : Steps) (w : Acted) (x : ℕ) (object : Object) (threads : List Thread) (me : Thread)
    → w ≡ work_of s t a ask → x ≡ row_of s a
    → object ≡ record (object_at s x) { contents = w.contents; waiters = w.waiters; buffer = buffer_cost ask w.answer (object_at s x).buffer }
    → threads ≡ threads_woken w.woken s.threads → me ≡ answered s.image (slice_index_or threads t nobody) ask w.taken rest w.answer
    → ◌≡◌ {A = State} (record s { objects = slice_set s.objects x object; threads = slice_set threads t me }) (after s t 0 (Pending.Work a ask) rest)
worked s t a ask rest w x object threads me work row is woken answers =
    let s2 = with_object s x (record (object_at s x) { contents = w.contents; waiters = w.waiters; buffer = buffer_cost ask w.answer (object_at s x).buffer }) in
    let s3 : State = record s2 { threads = threads_woken w.woken s.threads } in
    let change = work_change w.answer w.taken in
    let parts : ◌≡◌ {A = State} (record s { objects = slice_set s.objects x object; threads = slice_set threads t me }) (with_thread s3 t (answered s.image (thread_at s3 t) ask w.taken rest w.answer)) =
    rw (answers, woken, is) refl in
    parts
    ∙ ap (λ (mode : Mode). with_thread s3 t (at_steps s.image (changed change (thread_at s3 t)) (steps_by rest (work_way mode ask w.answer)))) (mode-threads_woken w.woken s t)
    ∙ ap (λ (s4 : State). went rest s4 t (Next.on change (work_way (thread_at s t).mode ask w.answer))) (sym (all_woken-threads w.woken s2))
    ∙ ap (λ (v : Acted). acted_on s t x ask rest v) work
    ∙ ap (λ (y : ℕ). acted_on s t y ask rest (work_of s t a ask)) row

-- who waits for the end of a thread is told of it
pub left-is : (s : State) (t : ℕ) (rest : Steps) (woken : List (ThreadIx × Told)) (ws : List Waiter) (threads : List Thread) → woken ≡ all_joined s t → ws ≡ without_joins s t → threads ≡ threads_woken woken s.threads
    → ◌≡◌ {A = State} (record s { threads = threads; joins = ws }) (after s t 0 Pending.Left rest)
left-is s t rest woken ws threads w is told =
    let s2 = with_waiters s JOIN_CELL ws in
    let parts : ◌≡◌ {A = State} (record s { threads = threads; joins = ws }) (record s2 { threads = threads_woken woken s2.threads }) = rw told refl in
    parts ∙ sym (all_woken-threads woken s2)
    ∙ ap (λ (v : List Waiter). all_woken woken (with_waiters s JOIN_CELL v)) is
    ∙ ap (λ (v : List (ThreadIx × Told)). all_woken v (with_waiters s JOIN_CELL (without_joins s t))) w

-- a timer runs out
pub expire-is : (s : State) (x : ℕ) (contents : Contents) (ws : List Waiter) (woken : List (ThreadIx × Told)) (object : Object) (threads : List Thread)
    → runs_out (object_at s x).waiters (in_order (object_at s x).waiters) ≡ (contents, ws, woken) → object ≡ record (object_at s x) { contents = contents; waiters = ws } → threads ≡ threads_woken woken s.threads
    → ◌≡◌ {A = State} (record s { threads = threads; objects = slice_set s.objects x object }) (after s 0 x Pending.Expire [])
expire-is s x contents ws woken object threads out is told =
    let made = runs_out (object_at s x).waiters (in_order (object_at s x).waiters) in
    let s2 = with_object s x (record (object_at s x) { contents = contents; waiters = ws }) in
    let parts : ◌≡◌ {A = State} (record s { threads = threads; objects = slice_set s.objects x object }) (record s2 { threads = threads_woken woken s2.threads }) = rw (told, is) refl in
    parts ∙ sym (all_woken-threads woken s2)
    ∙ ap (λ (v : Contents × List Waiter × List (ThreadIx × Told)). all_woken v.2 (with_object s x (record (object_at s x) { contents = v.0; waiters = v.1 }))) (sym out)

-- who waits on a futex is woken
pub still-none : (ws : List Waiter) → still_waiting [] ws ≡ ws
still-none [] = refl
still-none (w ∷ ws) = ap (λ (vs : List Waiter). w ∷ vs) (still-none ws)

abbrev answered_wake : State → ℕ → ℕ → Steps → State → ℕ → State
answered_wake s t a rest to n = let answer = wake_answer (futex_refusal s t a) n in went rest to t (Next.on (work_change answer []) (asked_way answer))

pub woken-is : (s : State) (t : ℕ) (a : Addr) (all : Bool) (rest : Steps) (woken : List (ThreadIx × Told)) (ws : List Waiter) (threads : List Thread) (me : Thread)
    → woken ≡ futex_woken s t a.0 all → ws ≡ still_waiting woken s.futexes → threads ≡ threads_woken woken s.threads
    → me ≡ asked s.image (slice_index_or threads t nobody) rest (wake_answer (futex_refusal s t a.0) (length woken))
    → ◌≡◌ {A = State} (record s { threads = slice_set threads t me; futexes = ws }) (after s t 0 (Pending.FutexWake a all) rest)
woken-is s t a all rest woken ws threads me w is told asks =
    let s2 = with_waiters s FUTEX_CELL ws in
    let s3 : State = record s2 { threads = threads_woken woken s.threads } in
    let parts : ◌≡◌ {A = State} (record s { threads = slice_set threads t me; futexes = ws }) (answered_wake s t a.0 rest s3 (length woken)) = rw (asks, told) refl in
    parts
    ∙ ap (λ (s4 : State). answered_wake s t a.0 rest s4 (length woken)) (sym (all_woken-threads woken s2))
    ∙ ap (λ (v : List Waiter). answered_wake s t a.0 rest (all_woken woken (with_waiters s FUTEX_CELL v)) (length woken)) is
    ∙ ap (λ (v : List (ThreadIx × Told)). answered_wake s t a.0 rest (all_woken v (with_waiters s FUTEX_CELL (still_waiting v s.futexes))) (length v)) w
