-- How a thread goes on in its call is paid by the step that it made: once for each way to go on.
use Rattle.std.proofs.Common.{◌≡◌, ◌<◌, ◌≤◌, ℕ, ◌+◌, Bool, true, false, [], ◌∷◌, refl, sym, subst, arith, Option, Some, None, if◌then◌else◌}
use Rattle.std.specs.List.{list_all}
use Rattle.std.proofs.lemmas.Bool.{and_parts, and_from, false≢true}
use Rattle.um_base.specs.declared.act.SetSaid.{SetSaid}
use Rattle.um_base.specs.declared.ask.Ask.{Ask}
use Rattle.um_base.specs.declared.image.Image.{Image}
use Rattle.um_base.specs.declared.names.Addr.{Addr}
use Rattle.um_base.specs.declared.names.Errno.{Errno}
use Rattle.um_base.specs.declared.names.Mode.{Mode}
use Rattle.um_base.specs.declared.names.Reply.{Reply}
use Rattle.um_base.specs.declared.names.ThreadIx.{ThreadIx}
use Rattle.um_machine.specs.declared.pending.Pending.{Pending}
use Rattle.um_machine.specs.declared.pending.Refusal.{Refusal}
use Rattle.um_machine.specs.declared.thread.Life.{Life}
use Rattle.um_machine.specs.declared.thread.Thread.{Thread}
use Rattle.um_machine.specs.Goes.{Change, Next, Way, at_steps, changed, checked_way, copied, held, no_access, reserve_way, set_way, steps_by, told_way, went, without_copy}
use Rattle.um_machine.specs.Order.{Steps, to_deadline}
use Rattle.um_machine.specs.State.{State, no_rows, thread_at, with_thread}
use Rattle.um_machine.specs.Table.{after}
use Rattle.um_machine.specs.Writes.{wrote}
use Rattle.um_machine.proofs.AfterLemmas.{after-is}
use Rattle.um_machine.proofs.EffectLemmas.{effects_of, next_of}
use Rattle.um_invariants.proofs.Turns.{is_even}
use Rattle.um_measure.specs.Measure.{total, step_cost, due_cost}
use Rattle.um_measure.specs.Reached.{is_of_end, may_wait, passes_on, IsReached}
use Rattle.um_measure.proofs.EasedLemmas.{IsEased, at-eased, due-le, eased-same, eased-then}
use Rattle.um_measure.proofs.MadeLemmas.{IsMade, IsReady, goes, ready-living, ready-rest}
use Rattle.um_measure.proofs.WriteLemmas.{IsBase, AreBounded, all_added, base-wrote}

-- steps that cost at most so much, and that a thread of this life and child may have pending
pub record IsLeft (image : Image) (life : Life) (child : Option ThreadIx) (most : ℕ) (steps : Steps) : Type 0 where
  pub cost : total (step_cost image) steps ≤ most
  pub waits : list_all (may_wait life) steps ≡ true
  pub passes : passes_on child steps ≡ true

-- what a way adds to the cost of the steps that are left
abbrev pub way_cost : Way → ℕ
way_cost Way.rest = 0
way_cost Way.skips_copy = 0
way_cost Way.waits = 1
way_cost (Way.bears a) = 3
way_cost (Way.runs_to deadline) = 0
way_cost (Way.replies reply) = 1
way_cost (Way.fails reason cause) = 0
way_cost (Way.gives_back size reason cause) = 1
way_cost (Way.clears a reason cause) = 1

-- a way that adds no step
abbrev pub adds_none : Way → Bool
adds_none Way.rest = true
adds_none Way.skips_copy = true
adds_none (Way.runs_to deadline) = true
adds_none way = false

way-left : (image : Image) (life : Life) (child : Option ThreadIx) (most : ℕ) (left : Steps) (way : Way) → IsLeft image life child most left → (adds_none way ≡ false → life ≡ Life.Living) → IsLeft image life child (most + way_cost way) (steps_by left way)
way-left image life child most left Way.rest h living = record { cost = omega (arith, h.cost); waits = h.waits; passes = h.passes }
way-left image life child most left Way.skips_copy h living = without left h
  where
    without : (steps : Steps) → IsLeft image life child most steps → IsLeft image life child (most + 0) (without_copy steps)
    without [] h = record { cost = omega arith; waits = refl; passes = refl }
    without (Pending.CopyOut a ∷ steps) h = record { cost = omega (arith, h.cost); waits = (and_parts _ _ h.waits).1; passes = h.passes }
    without (step ∷ steps) h = record { cost = omega (arith, h.cost); waits = h.waits; passes = h.passes }
way-left image life child most left Way.waits h living =
    record { cost = omega (arith, h.cost); waits = and_from (may_wait life Pending.Resume) _ (rw (living refl) refl) h.waits; passes = h.passes }
way-left image life child most left (Way.bears a) h living =
    record { cost = omega (arith, h.cost); waits = and_from (may_wait life (Pending.Born a)) _ (rw (living refl) refl) h.waits; passes = h.passes }
way-left image life child most left (Way.runs_to deadline) h living = ahead life left h
  where
    ahead : (life : Life) (steps : Steps) → IsLeft image life child most steps → IsLeft image life child (most + 0) (to_deadline deadline steps)
    ahead life [] h = record { cost = omega (arith, h.cost); waits = h.waits; passes = h.passes }
    ahead Life.Unborn (Pending.Work a (Ask.TimerStart before) ∷ steps) h = record { cost = omega (arith, h.cost); waits = h.waits; passes = h.passes }
    ahead Life.Living (Pending.Work a (Ask.TimerStart before) ∷ steps) h = record { cost = omega (arith, h.cost); waits = h.waits; passes = h.passes }
    ahead Life.Ended (Pending.Work a (Ask.TimerStart before) ∷ steps) h = record { cost = omega (arith, h.cost); waits = h.waits; passes = h.passes }
    ahead life (step ∷ steps) h = record { cost = omega (arith, h.cost); waits = h.waits; passes = h.passes }
way-left image life child most left (Way.replies reply) h living = record { cost = omega arith; waits = rw (living refl) refl; passes = refl }
way-left image life child most left (Way.fails reason cause) h living = record { cost = omega arith; waits = rw (living refl) refl; passes = refl }
way-left image life child most left (Way.gives_back size reason cause) h living = record { cost = omega arith; waits = rw (living refl) refl; passes = refl }
way-left image life child most left (Way.clears a reason cause) h living = record { cost = omega arith; waits = rw (living refl) refl; passes = refl }

-- What the ways of some steps add.

pub even-most : (way : Way) → is_even way ≡ true → way_cost way ≤ 1
even-most (Way.bears a) h = absurd (false≢true h)
even-most (Way.clears a reason cause) h = absurd (false≢true h)
even-most way h = omega arith

pub checked-most : (mode : Mode) (refusal : Refusal) (v : Option Errno) → way_cost (checked_way mode refusal v) ≤ 1
checked-most mode refusal None = omega arith
checked-most mode Refusal.Fails (Some e) = omega arith
checked-most Mode.User Refusal.FailsUser (Some e) = omega arith
checked-most Mode.Supervisor Refusal.FailsUser (Some e) = omega arith
checked-most mode (Refusal.Answers reply) (Some e) = omega arith
checked-most mode (Refusal.AnswersUninit reply) (Some Errno.EINVAL) = omega arith
checked-most mode (Refusal.AnswersUninit reply) (Some e) = omega arith

pub access-most : (fault : Bool) → way_cost (if fault then no_access else Way.rest) ≤ 0
access-most true = omega arith
access-most false = omega arith

pub copied-most : (mode : Mode) (fits : Bool) → way_cost (copied mode fits) ≤ 0
copied-most mode true = omega arith
copied-most Mode.User false = omega arith
copied-most Mode.Supervisor false = omega arith

pub set-most : (mode : Mode) (undo : Option Addr) (said : SetSaid) → way_cost (set_way mode undo said) ≤ 1
set-most mode None (SetSaid.Fail e) = omega arith
set-most mode (Some a) (SetSaid.Fail e) = omega arith
set-most mode undo SetSaid.Done = omega arith
set-most mode undo SetSaid.Gone = omega arith

pub reserve-most : (found : Option Addr) → way_cost (reserve_way found) ≤ 3
reserve-most None = omega arith
reserve-most (Some a) = omega arith

pub told-none : (reply : Reply) → way_cost (told_way reply) ≤ 0
told-none (Reply.Fail e) = omega arith
told-none reply = omega arith

-- In its call.

-- the way of a thread that goes on in its call, or behind it
abbrev pub way_of : Next → Way
way_of (Next.on change way) = way
way_of (Next.checks x verdict way) = way
way_of (Next.resumes (Some told)) = told_way told.reply
way_of next = Way.rest

abbrev pub goes_on_by : Next → Bool
goes_on_by (Next.on change way) = true
goes_on_by (Next.checks x verdict way) = true
goes_on_by (Next.answers to reply) = true
goes_on_by (Next.owns keeps) = true
goes_on_by (Next.resumes (Some told)) = true
goes_on_by next = false

module _ (s : State) (reached : IsReached s) (t : ℕ) (step : Pending) (rest : Steps) (ready : IsReady s t step rest) (u : State) (extra : ℕ) (base : IsBase s u extra) where
  -- a thread that is as it was in what counts
  with-way : (me : Thread) → IsEased (thread_at u t) me → (way : Way) → (adds_none way ≡ false → is_of_end step ≡ false) → extra + way_cost way < step_cost s.image step → passes_on (thread_at s t).child rest ≡ true
      → IsMade s (with_thread u t (at_steps u.image me (steps_by rest way))) (Unit {0})
  with-way me same way lives cost passes =
      let now = thread_at s t in
      let alike = eased-then now (thread_at u t) me (at-eased s.threads u.threads base.eased t) same in
      let left = way-left s.image now.life now.child (total (step_cost s.image) rest) rest way (record { cost = omega arith; waits = ready-rest s t step rest ready; passes = passes }) (λ h. ready-living s t step rest ready (lives h)) in
      let due : due_cost me.child me.due ≤ due_cost now.child now.due = rw alike.child (due-le now.child me.due now.due alike.due) in
      goes s reached t step rest ready u extra base me (steps_by rest way) alike.life alike.place (omega (arith, due, left.cost, cost)) left.waits (rw alike.child left.passes)

  eased-changed : (change : Change) (me : Thread) → IsEased me (changed change me)
  eased-changed Change.nothing me = eased-same me
  eased-changed change me = record { life = refl; place = refl; pending = refl; child = refl; due = omega arith }

  eased-held : (x : ℕ) (v : Option Errno) (me : Thread) → IsEased me (held x v me)
  eased-held x None me = record { life = refl; place = refl; pending = refl; child = refl; due = omega arith }
  eased-held x (Some e) me = eased-same me

  pub went-made : (next : Next) → goes_on_by next ≡ true → (adds_none (way_of next) ≡ false → is_of_end step ≡ false) → extra + way_cost (way_of next) < step_cost s.image step → passes_on (thread_at s t).child rest ≡ true
      → IsMade s (went rest u t next) (Unit {0})
  went-made (Next.on change way) h lives cost passes = with-way (changed change (thread_at u t)) (eased-changed change (thread_at u t)) way lives cost passes
  went-made (Next.checks x v way) h lives cost passes = with-way (held x v (thread_at u t)) (eased-held x v (thread_at u t)) way lives cost passes
  went-made (Next.answers to reply) h lives cost passes = with-way (record (thread_at u t) { checked = no_rows; until = None; registers = _ }) (record { life = refl; place = refl; pending = refl; child = refl; due = omega arith }) Way.rest lives cost passes
  went-made (Next.owns keeps) h lives cost passes = with-way (record (thread_at u t) { keeps_own = _ }) (record { life = refl; place = refl; pending = refl; child = refl; due = omega arith }) Way.rest lives cost passes
  went-made (Next.resumes (Some told)) h lives cost passes =
      with-way (record (thread_at u t) { told = None; reply = told.reply; buffer = told.taken }) (record { life = refl; place = refl; pending = refl; child = refl; due = omega arith }) (told_way told.reply) lives cost passes
  went-made (Next.resumes None) h lives cost passes = absurd (false≢true h)
  went-made (Next.begins instr) h lives cost passes = absurd (false≢true h)
  went-made next h lives cost passes = absurd (false≢true h)

-- a step whose writes have their bounds, and that its thread goes on from in its call or behind it
pub step-made : (s : State) → IsReached s → (t x : ℕ) (step : Pending) (rest : Steps) → IsReady s t step rest → AreBounded (effects_of s t x step) → goes_on_by (next_of s t x step) ≡ true
    → (adds_none (way_of (next_of s t x step)) ≡ false → is_of_end step ≡ false) → all_added (effects_of s t x step) + way_cost (way_of (next_of s t x step)) < step_cost s.image step → passes_on (thread_at s t).child rest ≡ true
    → IsMade s (after s t x step rest) (Unit {0})
step-made s reached t x step rest ready starts on lives cost passes =
    let ws = effects_of s t x step in
    let base = base-wrote s reached.sized ws starts in
    subst (λ (to : State). IsMade s to (Unit {0})) (sym (after-is s t x step rest)) (went-made s reached t step rest ready (wrote ws s) (all_added ws) base (next_of s t x step) on lives cost passes)
