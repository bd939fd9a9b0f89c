-- Each step of the machine keeps what the states of a run have in common, and lowers their measure.
use Rattle.std.proofs.Common.{◌≡◌, ◌<◌, ◌≤◌, ℕ, true, [], ◌∷◌, length, refl, sym, subst, arith, Option, Some}
use Rattle.std.specs.List.{list_all}
use Rattle.std.proofs.lemmas.Bool.{and_parts, false≢true}
use Rattle.um_base.specs.declared.act.Event.{Event}
use Rattle.um_machine.specs.declared.pending.Pending.{Pending}
use Rattle.um_machine.specs.declared.thread.Life.{Life}
use Rattle.um_machine.specs.Order.{Steps}
use Rattle.um_machine.specs.Run.{Offers, MayChoose, is_tending, Step, ChoosesDue}
use Rattle.um_machine.specs.State.{State, object_at, thread_at}
use Rattle.um_machine.specs.Table.{after, act_of, amount_of, pays, row_of, set_said}
use Rattle.um_machine.specs.Goes.{Next, Way, went}
use Rattle.um_machine.specs.Memory.{allowed, string_read}
use Rattle.um_machine.specs.Objects.{verdict}
use Rattle.um_machine.specs.Outcomes.{is_fault, reserved_in}
use Rattle.um_base.specs.declared.ask.Told.{Told}
use Rattle.um_base.specs.declared.names.Access.TheVariants as Access
use Rattle.um_base.specs.declared.names.Errno.{Errno}
use Rattle.um_base.specs.declared.names.Reply.{Reply}
use Rattle.um_invariants.proofs.Turns.{even-if, even-text}
use Rattle.um_measure.proofs.GoesLemmas.{checked-most, access-most, copied-most, even-most, set-most, reserve-most, told-none, step-made, went-made}
use Rattle.um_measure.proofs.WriteLemmas.{base-self}
use Rattle.um_measure.specs.Measure.{measure, armings}
use Rattle.um_measure.specs.Reached.{may_wait, passes_on, is_child, IsReached}
use Rattle.um_measure.proofs.PassLemmas.{drop_pair, own, inherit}
use Rattle.um_measure.proofs.LifeLemmas.{exit, stop, killed, fatal, begin, enter, dooms, drops}
use Rattle.um_measure.proofs.StartLemmas.{start}
use Rattle.um_measure.proofs.CleanLemmas.{clean_pair, recycle}
use Rattle.um_measure.proofs.TimeLemmas.{left, tick, timeout, expire, cut}
use Rattle.um_measure.proofs.WaitLemmas.{work, join, futex_wait, futex_wake}
use Rattle.um_measure.proofs.MadeLemmas.{IsMade, IsReady}

pub not-begin : (life : Life) → may_wait life Pending.Begin ≡ true → ⊥
not-begin Life.Unborn h = false≢true h
not-begin Life.Living h = false≢true h
not-begin Life.Ended h = false≢true h

pub not-exit : (life : Life) → may_wait life Pending.Exit ≡ true → ⊥
not-exit Life.Unborn h = false≢true h
not-exit Life.Living h = false≢true h
not-exit Life.Ended h = false≢true h

-- a step that is pending
ready-made : (s : State) → IsReached s → (t x : ℕ) (step : Pending) (rest : Steps) → IsReady s t step rest → MayChoose s t x step → IsMade s (after s t x step rest) (ChoosesDue s t step x)
ready-made s reached t x Pending.Begin rest ready chosen = absurd (not-begin (thread_at s t).life (and_parts (may_wait (thread_at s t).life Pending.Begin) _ ready.waits).0)
ready-made s reached t x Pending.Exit rest ready chosen = absurd (not-exit (thread_at s t).life (and_parts (may_wait (thread_at s t).life Pending.Exit) _ ready.waits).0)
ready-made s reached t x (Pending.Check a kind want refusal) rest ready chosen =
    step-made s reached t x (Pending.Check a kind want refusal) rest ready refl refl (λ h. refl) (omega (arith, checked-most (thread_at s t).mode refusal (verdict s t a.0 kind want))) ready.passes
ready-made s reached t x (Pending.Load to a n) rest ready chosen =
    step-made s reached t x (Pending.Load to a n) rest ready refl refl (λ h. refl) (omega (arith, access-most (is_fault (act_of s t x (Pending.Load to a n))))) ready.passes
ready-made s reached t x (Pending.Store a n value) rest ready chosen =
    step-made s reached t x (Pending.Store a n value) rest ready refl refl (λ h. refl) (omega (arith, access-most (is_fault (act_of s t x (Pending.Store a n value))))) ready.passes
ready-made s reached t x (Pending.Fetch a) rest ready chosen =
    step-made s reached t x (Pending.Fetch a) rest ready refl refl (λ h. refl) (omega (arith, access-most (is_fault (act_of s t x (Pending.Fetch a))))) ready.passes
ready-made s reached t x (Pending.Probe a amount) rest ready chosen =
    step-made s reached t x (Pending.Probe a amount) rest ready refl refl (λ h. refl) (omega (arith, copied-most (thread_at s t).mode (allowed s t Access.Write a.0 (amount_of s amount)))) ready.passes
ready-made s reached t x (Pending.CopyIn a amount) rest ready chosen =
    step-made s reached t x (Pending.CopyIn a amount) rest ready refl refl (λ h. refl) (omega (arith, copied-most (thread_at s t).mode (allowed s t Access.Read a.0 (amount_of s amount)))) ready.passes
ready-made s reached t x (Pending.CopyOut a) rest ready chosen =
    step-made s reached t x (Pending.CopyOut a) rest ready refl refl (λ h. refl) (omega (arith, copied-most (thread_at s t).mode (allowed s t Access.Write a.0 (length (thread_at s t).buffer)))) ready.passes
ready-made s reached t x (Pending.CopyStr a) rest ready chosen =
    step-made s reached t x (Pending.CopyStr a) rest ready refl refl (λ h. refl) (omega (arith, even-most _ (even-text (string_read s t a.0 32)))) ready.passes
ready-made s reached t x (Pending.Work a ask) rest ready chosen = work s reached t x rest a ask ready
ready-made s reached t x (Pending.Join who timeout) rest ready chosen = join s reached t x rest who timeout ready
ready-made s reached t x (Pending.FutexWait a value timeout) rest ready chosen = futex_wait s reached t x rest a value timeout ready
ready-made s reached t x (Pending.FutexWake a all) rest ready chosen = futex_wake s reached t x rest a all ready
ready-made s reached t x (Pending.SetInit a strict undo) rest ready chosen =
    step-made s reached t x (Pending.SetInit a strict undo) rest ready refl refl (λ h. refl) (omega (arith, set-most (thread_at s t).mode undo (set_said (object_at s (row_of s a)) strict))) ready.passes
ready-made s reached t x (Pending.Reserve kind) rest ready chosen =
    step-made s reached t x (Pending.Reserve kind) rest ready refl refl (λ h. refl) (omega (arith, reserve-most (reserved_in (act_of s t x (Pending.Reserve kind))))) ready.passes
ready-made s reached t x (Pending.Buffer size) rest ready chosen =
    step-made s reached t x (Pending.Buffer size) rest ready refl refl (λ h. refl) (omega (arith, even-most _ (even-if (pays s (thread_at s t).pool size) Way.rest (Way.replies (Reply.Fail Errno.ENOMEM)) refl refl))) ready.passes
ready-made s reached t x Pending.Resume rest ready chosen =
    subst (λ (told : Option Told). IsMade s (went rest s t (Next.resumes told)) (Unit {0})) (sym chosen.1)
    (went-made s reached t Pending.Resume rest ready s 0 (base-self s reached.sized) (Next.resumes (Some chosen.0)) refl (λ h. refl) (omega (arith, told-none chosen.0.reply)) ready.passes)
ready-made s reached t x (Pending.DropPair who a) rest ready chosen = drop_pair s reached t x rest who a ready
ready-made s reached t x (Pending.Own who) rest ready chosen = own s reached t x rest who ready
ready-made s reached t x (Pending.Inherit who) rest ready chosen = inherit s reached t x rest who ready chosen.0
ready-made s reached t x (Pending.Start who script stack priority mode) rest ready chosen = start s reached t x rest who script stack priority mode ready
ready-made s reached t x (Pending.EnterUser script) rest ready chosen = enter s reached t x rest script ready
ready-made s reached t x (Pending.Fatal reason cause) rest ready chosen = fatal s reached t x rest reason cause ready
ready-made s reached t x (Pending.Drops from) rest ready chosen = drops s reached t x rest from ready chosen.1
ready-made s reached t x (Pending.Dooms from) rest ready chosen = dooms s reached t x rest from ready
ready-made s reached t x (Pending.CleanPair who) rest ready chosen = clean_pair s reached t x rest who chosen.1
ready-made s reached t x Pending.Recycle rest ready chosen = recycle s reached t x rest chosen.0.0
ready-made s reached t x Pending.Killed rest ready chosen = killed s reached t x rest ready
ready-made s reached t x Pending.Left rest ready chosen = left s reached t x rest chosen
ready-made s reached t x Pending.Tick rest ready chosen = tick s reached t x rest chosen
ready-made s reached t x (Pending.TimeOut who) rest ready chosen = timeout s reached t x rest who (and_parts _ _ (and_parts _ _ chosen).1).1
ready-made s reached t x Pending.Expire rest ready chosen = expire s reached t x rest chosen
ready-made s reached t x (Pending.Cut who) rest ready chosen =
    let waits = and_parts _ _ (and_parts _ _ chosen).1 in cut s reached t x rest who waits.1 (and_parts _ _ waits.0).0
ready-made s reached t x step rest ready chosen = step-made s reached t x step rest ready refl refl (λ h. cc) (omega arith) ready.passes

-- The steps that are offered.

ready-next : (s : State) → IsReached s → (t : ℕ) (step : Pending) (rest : Steps) → (thread_at s t).pending ≡ step ∷ rest → IsReady s t step rest
ready-next s reached t step rest e =
    let sound = reached.sound t in
    record {
      first = step;
      others = rest;
      are = e;
      cost = rw e (omega arith);
      waits = subst (λ (steps : Steps). list_all (may_wait (thread_at s t).life) steps ≡ true) e sound.waits;
      passes = subst (λ (steps : Steps). passes_on (thread_at s t).child steps ≡ true) e sound.passes;
    }

ready-behind : (s : State) → IsReached s → (t : ℕ) (first step : Pending) (rest : Steps) → (thread_at s t).pending ≡ first ∷ step ∷ rest
    → (passes_on (thread_at s t).child (first ∷ step ∷ rest) ≡ true → passes_on (thread_at s t).child (step ∷ rest) ≡ true) → IsReady s t step rest
ready-behind s reached t first step rest e passes =
    let sound = reached.sound t in
    record {
      first = first;
      others = step ∷ rest;
      are = e;
      cost = rw e (omega arith);
      waits = (and_parts (may_wait (thread_at s t).life first) _ (subst (λ (steps : Steps). list_all (may_wait (thread_at s t).life) steps ≡ true) e sound.waits)).1;
      passes = passes (subst (λ (steps : Steps). passes_on (thread_at s t).child steps ≡ true) e sound.passes);
    }

-- a step that isn't of an instruction
tended : (s : State) → IsReached s → (t x : ℕ) (step : Pending) (rest : Steps) → is_tending step ≡ true → MayChoose s t x step → IsMade s (after s t x step rest) (ChoosesDue s t step x)
tended s reached t x (Pending.CleanPair who) rest is chosen = clean_pair s reached t x rest who chosen.1
tended s reached t x Pending.Recycle rest is chosen = recycle s reached t x rest chosen.0.0
tended s reached t x Pending.Tick rest is chosen = tick s reached t x rest chosen
tended s reached t x (Pending.TimeOut who) rest is chosen = timeout s reached t x rest who (and_parts _ _ (and_parts _ _ chosen).1).1
tended s reached t x Pending.Expire rest is chosen = expire s reached t x rest chosen
tended s reached t x (Pending.Cut who) rest is chosen =
    let waits = and_parts _ _ (and_parts _ _ chosen).1 in cut s reached t x rest who waits.1 (and_parts _ _ waits.0).0
tended s reached t x step rest is chosen = cc

offered-made : (s : State) → IsReached s → (t x : ℕ) (step : Pending) (rest : Steps) → Offers s t step rest → MayChoose s t x step → IsMade s (after s t x step rest) (ChoosesDue s t step x)
offered-made s reached t x step rest (Offers.goes e) chosen = ready-made s reached t x step rest (ready-next s reached t step rest e) chosen
offered-made s reached t x step rest (Offers.skips_inherit {who = who} e d) chosen =
    ready-made s reached t x step rest (ready-behind s reached t (Pending.Inherit who) step rest e (λ h. (and_parts (is_child (thread_at s t).child who) _ h).1)) chosen
offered-made s reached t x step rest (Offers.skips_drops {from = from} e d) chosen =
    ready-made s reached t x step rest (ready-behind s reached t (Pending.Drops from) step rest e (λ h. h)) chosen
offered-made s reached t x step rest (Offers.begins none living sane some) chosen = begin s reached t x [] none living some
offered-made s reached t x step rest (Offers.exits none living sane gone) chosen = exit s reached t x [] none living
offered-made s reached t x step rest (Offers.stops none living must) chosen = stop s reached t x [] none living
offered-made s reached t x step rest (Offers.leaves ending) chosen = left s reached t x (thread_at s t).pending chosen
offered-made s reached t x step rest (Offers.tends is started) chosen = tended s reached t x step (thread_at s t).pending is chosen

made-by : (s s2 : State) (event : Event) → IsReached s → (made : Step s event s2) → IsMade s s2 (ChoosesDue s event.thread.0 made.step made.row)
made-by s s2 event reached made =
    subst (λ (to : State). IsMade s to (ChoosesDue s event.thread.0 made.step made.row)) (sym made.leaves)
    (offered-made s reached event.thread.0 made.row made.step made.rest made.offered made.chosen)

-- a step leads to a state that a run may reach
pub keeps : (s s2 : State) (event : Event) → IsReached s → Step s event s2 → IsReached s2
keeps s s2 event reached made =
    let m = made-by s s2 event reached made in
    record { lawful = rw m.image_is reached.lawful; sized = m.sized; sound = λ t. rw m.image_is (m.sound t) }

-- a step that is due lowers the measure
pub falls : (s s2 : State) (event : Event) → IsReached s → (made : Step s event s2) → ChoosesDue s event.thread.0 made.step made.row → measure s2 < measure s
falls s s2 event reached made due = (made-by s s2 event reached made).falls due

-- a step raises no bound on the deadlines
pub arms : (s s2 : State) (event : Event) → IsReached s → Step s event s2 → armings s2 ≤ armings s
arms s s2 event reached made = (made-by s s2 event reached made).arms
