-- Steps by which threads begin lines, start, end, and are doomed.
use Rattle.std.proofs.Common.{◌≡◌, ◌<◌, ◌≤◌, ℕ, ◌+◌, ◌-◌, Bool, true, false, List, [], ◌∷◌, refl, subst, arith, Option, Some, None, if◌then◌else◌}
use Rattle.std.specs.Prelude.{IsTrue, ◌==◌, nat_lt, is_some}
use Rattle.std.specs.List.{list_all}
use Rattle.std.proofs.lemmas.Bool.{and_parts, false≢true, ltb-true}
use Rattle.um_base.specs.declared.act.Cause.{Cause}
use Rattle.um_base.specs.declared.image.Image.{Image}
use Rattle.um_base.specs.declared.instr.Instr.{Instr}
use Rattle.um_base.specs.declared.limits.TheConstants.{THREADS}
use Rattle.um_base.specs.declared.names.Mode.{Mode}
use Rattle.um_base.specs.declared.names.Policy.{Policy}
use Rattle.um_base.specs.declared.names.ThreadIx.{ThreadIx}
use Rattle.um_machine.specs.declared.pending.Pending.{Pending}
use Rattle.um_machine.specs.declared.thread.Life.{Life}
use Rattle.um_machine.specs.declared.thread.Place.{Place}
use Rattle.um_machine.specs.declared.thread.Thread.{Thread}
use Rattle.um_machine.specs.Order.{Steps, end_steps, fatal_steps, steps_of}
use Rattle.um_machine.specs.State.{State, pair_at, no_rows, thread_at, with_thread, is_living, first_place, instruction_at, next_place}
use Rattle.um_machine.specs.Goes.{Next, at_end, at_steps, next_doom, rows_held, went, with_begin}
use Rattle.um_machine.specs.Table.{after, dropped}
use Rattle.um_machine.specs.Writes.{wrote}
use Rattle.um_machine.proofs.EffectLemmas.{effects_of}
use Rattle.um_measure.specs.Measure.{total, end_cost, step_cost, lines_left, life_cost, due_cost, thread_cost}
use Rattle.um_measure.specs.Reached.{makes_steps, is_of_end, may_wait, passes_on, IsSound, IsReached}
use Rattle.um_measure.proofs.EasedLemmas.{at-eased, sound-eased, due-le}
use Rattle.um_measure.proofs.LineLemmas.{line-plan}
use Rattle.um_measure.proofs.MadeLemmas.{IsMade, IsReady, begun_cost, cost-at_steps, cost-pending, sound-at_steps, writes, ready-living, living-waits}
use Rattle.um_measure.proofs.NextLemmas.{next-line, first-stands}
use Rattle.um_measure.proofs.ScriptLemmas.{lawful-line}
use Rattle.um_measure.proofs.StoreLemmas.{store-dropped}
use Rattle.um_measure.proofs.WriteLemmas.{base-self, base-wrote, base-drop, drops-armed}

life-living : (life : Life) → IsTrue (is_living life) → life ≡ Life.Living
life-living Life.Unborn h = absurd (false≢true h)
life-living Life.Living h = refl
life-living Life.Ended h = absurd (false≢true h)

-- what a living thread at rest costs
pub cost-rests : (image : Image) (me : Thread) → me.pending ≡ [] → me.life ≡ Life.Living → thread_cost image me ≡ end_cost + lines_left image me.place + due_cost me.child me.due
unfolding thread_cost
cost-rests image me h e = rw (h, e) (omega arith)

pub begun-living : (image : Image) (life : Life) (place : Place) → life ≡ Life.Living → begun_cost image life place ≡ end_cost + lines_left image (next_place image place)
begun-living image life place e = rw e refl

-- what an ended one costs
cost-ended : (image : Image) (me : Thread) (steps : Steps) (due checked : List Bool) → thread_cost image (record me { life = Life.Ended; checked = checked; until = None; told = None; child = None; due = due; pending = steps }) ≡ total (step_cost image) steps
unfolding thread_cost
cost-ended image me steps due checked = omega arith

-- Ends.

-- the steps of an end
pub record IsLast (image : Image) (steps : Steps) : Type 0 where
  pub cost : total (step_cost image) steps < end_cost
  pub waits : list_all is_of_end steps ≡ true
  pub passes : passes_on None steps ≡ true

end-last : (image : Image) (t : ℕ) (me : Thread) → IsLast image (end_steps image t me)
end-last image t me = record { cost = omega arith; waits = refl; passes = refl }

dooms-last : (image : Image) → IsLast image (Pending.Dooms 0 ∷ [])
dooms-last image = record { cost = omega arith; waits = refl; passes = refl }

abort-last : (image : Image) (t : ℕ) (me : Thread) (b : Bool) → IsLast image (if b then Pending.Dooms 0 ∷ [] else end_steps image t me)
abort-last image t me true = dooms-last image
abort-last image t me false = end-last image t me

fatal-last : (image : Image) (t : ℕ) (me : Thread) (reason : ℕ) (policy : Policy) → IsLast image (fatal_steps image t me reason policy)
fatal-last image t me reason Policy.Halt = dooms-last image
fatal-last image t me reason Policy.Abort = abort-last image t me (reason == 4)

-- a living thread ends
ends : (s : State) → IsReached s → (t : ℕ) (steps : Steps) → IsLast s.image steps → end_cost ≤ thread_cost s.image (thread_at s t) → IsMade s (with_thread s t (at_end s t (thread_at s t) steps)) (Unit {0})
ends s reached t steps last cost =
    let after-it = cost-ended s.image (thread_at s t) steps (rows_held s t) no_rows in
    let few = last.cost in
    writes s reached t s 0 (base-self s reached.sized) (at_end s t (thread_at s t) steps) (Unit {0}) (record { place = λ living. absurd (false≢true living); waits = last.waits; passes = last.passes })
    (λ due. omega (arith, after-it, few, cost)) (omega (arith, after-it, few, cost))

pub exit : (s : State) → IsReached s → (t x : ℕ) (rest : Steps) → (thread_at s t).pending ≡ [] → IsTrue (is_living (thread_at s t).life) → IsMade s (after s t x Pending.Exit rest) (Unit {0})
exit s reached t x rest none living =
    let cost = cost-rests s.image (thread_at s t) none (life-living (thread_at s t).life living) in
    ends s reached t (end_steps s.image t (thread_at s t)) (end-last s.image t (thread_at s t)) (omega (arith, cost))

-- an aborted thread ends at rest, or by its next step
pub stop : (s : State) → IsReached s → (t x : ℕ) (rest : Steps) → (thread_at s t).pending ≡ [] → IsTrue (is_living (thread_at s t).life) → IsMade s (after s t x Pending.Killed rest) (Unit {0})
stop s reached t x rest none living = exit s reached t x rest none living

pub killed : (s : State) → IsReached s → (t x : ℕ) (rest : Steps) → IsReady s t Pending.Killed rest → IsMade s (after s t x Pending.Killed rest) (Unit {0})
killed s reached t x rest ready =
    let cost = cost-pending s.image (thread_at s t) ready.first ready.others ready.are in
    let begun = begun-living s.image (thread_at s t).life (thread_at s t).place (ready-living s t Pending.Killed rest ready refl) in
    ends s reached t (end_steps s.image t (thread_at s t)) (end-last s.image t (thread_at s t)) (omega (arith, cost, begun))

pub fatal : (s : State) → IsReached s → (t x : ℕ) (rest : Steps) (reason : ℕ) (cause : Cause) → IsReady s t (Pending.Fatal reason cause) rest → IsMade s (after s t x (Pending.Fatal reason cause) rest) (Unit {0})
fatal s reached t x rest reason cause ready =
    let cost = cost-pending s.image (thread_at s t) ready.first ready.others ready.are in
    let begun = begun-living s.image (thread_at s t).life (thread_at s t).place (ready-living s t (Pending.Fatal reason cause) rest ready refl) in
    ends s reached t (fatal_steps s.image t (thread_at s t) reason s.image.policy) (fatal-last s.image t (thread_at s t) reason s.image.policy) (omega (arith, cost, begun))

-- Begins.

begin-made : (s : State) → IsReached s → (t : ℕ) (left : Steps) → (thread_at s t).pending ≡ [] → IsTrue (is_living (thread_at s t).life) → (instr : Option Instr) → instruction_at s.image (thread_at s t).place ≡ instr → IsTrue (is_some instr)
    → IsMade s (went left s t (Next.begins instr)) (Unit {0})
begin-made s reached t left none living None e some = absurd (false≢true some)
begin-made s reached t left none living (Some line) e some =
    let me = thread_at s t in
    let alive = life-living me.life living in
    let place = (reached.sound t).place living in
    let makes : makes_steps (Some line) ≡ true = subst (λ (o : Option Instr). makes_steps o ≡ true) e place.makes in
    let next = next-line s.image reached.lawful me.place place line e in
    let plan = line-plan s.image reached.lawful me.place.script t me line (lawful-line s.image reached.lawful me.place.script me.place.line line e) makes in
    let me2 = record me { registers = with_begin me.registers line } in
    let steps = steps_of s.image t me line in
    let before = cost-rests s.image me none alive in
    let after-it = cost-at_steps s.image me2 steps in
    let begun = begun-living s.image me.life me.place alive in
    let cost = plan.cost in
    let less = next.1 in
    writes s reached t s 0 (base-self s reached.sized) (at_steps s.image me2 steps) (Unit {0})
    (sound-at_steps s.image reached.lawful me2 steps (λ l. place) (living-waits me.life steps alive plan.waits) (plan.passes me.child))
    (λ due. omega (arith, before, after-it, begun, cost, less)) (omega (arith, before, after-it, begun, cost, less))

pub begin : (s : State) → IsReached s → (t x : ℕ) (rest : Steps) → (thread_at s t).pending ≡ [] → IsTrue (is_living (thread_at s t).life) → IsTrue (is_some (instruction_at s.image (thread_at s t).place)) → IsMade s (after s t x Pending.Begin rest) (Unit {0})
begin s reached t x rest none living some = begin-made s reached t rest none living (instruction_at s.image (thread_at s t).place) refl some

-- Another script.

cost-enters : (image : Image) (me : Thread) (place : Place) (mode : Mode) → me.life ≡ Life.Living → thread_cost image (record me { mode = mode; place = place; pending = [] }) ≡ end_cost + lines_left image place + due_cost me.child me.due
unfolding thread_cost
cost-enters image me place mode e = rw e (omega arith)

pub enter : (s : State) → IsReached s → (t x : ℕ) (rest : Steps) (script : ℕ) → IsReady s t (Pending.EnterUser script) rest → IsMade s (after s t x (Pending.EnterUser script) rest) (Unit {0})
enter s reached t x rest script ready =
    let me = thread_at s t in
    let alive = ready-living s t (Pending.EnterUser script) rest ready refl in
    let first = first-stands s.image reached.lawful script in
    let before = cost-pending s.image me ready.first ready.others ready.are in
    let begun = begun-living s.image me.life me.place alive in
    let after-it = cost-enters s.image me (first_place s.image script) Mode.User alive in
    let cost = ready.cost in
    writes s reached t s 0 (base-self s reached.sized) (record me { mode = Mode.User; place = first_place s.image script; pending = [] }) (Unit {0})
    (record { place = λ l. first.stands; waits = refl; passes = refl })
    (λ due. omega (arith, before, begun, after-it, cost)) (omega (arith, before, begun, after-it, cost))

-- Dooms and drops.

-- a thread that isn't living has no lines
ended-lines : (image : Image) (life : Life) (from : ℕ) (place : Place) (steps : Steps) → may_wait life (Pending.Dooms from) ≡ true → life_cost image life place steps ≡ 0
ended-lines image Life.Unborn from place steps h = refl
ended-lines image Life.Living from place steps h = absurd (false≢true h)
ended-lines image Life.Ended from place steps h = refl

next-waits : (life : Life) (from n : ℕ) (b : Bool) → may_wait life (Pending.Dooms from) ≡ true → list_all (may_wait life) (if b then Pending.Dooms n ∷ [] else []) ≡ true
next-waits life from n false h = refl
next-waits Life.Unborn from n true h = refl
next-waits Life.Living from n true h = absurd (false≢true h)
next-waits Life.Ended from n true h = refl

next-passes : (child : Option ThreadIx) (n : ℕ) (b : Bool) → passes_on child (if b then Pending.Dooms n ∷ [] else []) ≡ true
next-passes child n false = refl
next-passes child n true = refl

next-cost : (image : Image) (from : ℕ) (b : Bool) → nat_lt (from + 1) THREADS ≡ b → total (step_cost image) (if b then Pending.Dooms (from + 1) ∷ [] else []) < 1 + (THREADS - from)
next-cost image from true h = let less = ltb-true (from + 1) THREADS h in omega (arith, less)
next-cost image from false h = omega arith

cost-lines : (image : Image) (me : Thread) (steps : Steps) → thread_cost image (record me { pending = steps }) ≡ life_cost image me.life me.place steps + total (step_cost image) steps + due_cost me.child me.due
unfolding thread_cost
cost-lines image me steps = refl

pub dooms : (s : State) → IsReached s → (t x : ℕ) (rest : Steps) (from : ℕ) → IsReady s t (Pending.Dooms from) rest → IsMade s (after s t x (Pending.Dooms from) rest) (Unit {0})
dooms s reached t x rest from ready =
    let s2 = with_thread s from (record (thread_at s from) { doomed = true }) in
    let base = base-wrote s reached.sized (effects_of s t x (Pending.Dooms from)) refl in
    let same = at-eased s.threads s2.threads base.eased t in
    let may = (and_parts (may_wait (thread_at s t).life (Pending.Dooms from)) _ ready.waits).0 in
    let may2 : may_wait (thread_at s2 t).life (Pending.Dooms from) ≡ true = rw same.life may in
    let steps = next_doom from in
    let me = record (thread_at s2 t) { pending = steps } in
    let before = cost-pending s.image (thread_at s t) ready.first ready.others ready.are in
    let after-it = cost-lines s.image (thread_at s2 t) steps in
    let lines = ended-lines s.image (thread_at s2 t).life from (thread_at s2 t).place steps may2 in
    let due : due_cost (thread_at s2 t).child (thread_at s2 t).due ≤ due_cost (thread_at s t).child (thread_at s t).due = rw same.child (due-le (thread_at s t).child (thread_at s2 t).due (thread_at s t).due same.due) in
    let less = next-cost s.image from (nat_lt (from + 1) THREADS) refl in
    let cost = ready.cost in
    writes s reached t s2 0 base me (Unit {0})
    (record {
      place = (sound-eased s.image (thread_at s t) (thread_at s2 t) same (reached.sound t)).place;
      waits = next-waits (thread_at s2 t).life from (from + 1) (nat_lt (from + 1) THREADS) may2;
      passes = next-passes (thread_at s2 t).child (from + 1) (nat_lt (from + 1) THREADS);
    })
    (λ d. omega (arith, before, after-it, lines, due, less, cost)) (omega (arith, before, after-it, lines, due, less, cost))

drops-wait : (life : Life) (from n : ℕ) (rest : Steps) → list_all (may_wait life) (Pending.Drops from ∷ rest) ≡ true → list_all (may_wait life) (Pending.Drops n ∷ rest) ≡ true
drops-wait Life.Unborn from n rest h = h
drops-wait Life.Living from n rest h = h
drops-wait Life.Ended from n rest h = h

pub drops : (s : State) → IsReached s → (t x : ℕ) (rest : Steps) (from : ℕ) → IsReady s t (Pending.Drops from) rest → pair_at s t x ≡ true → IsMade s (after s t x (Pending.Drops from) rest) (Unit {0})
drops s reached t x rest from ready held =
    let s2 = wrote (effects_of s t x (Pending.Drops from)) s in
    let base = base-drop s t x reached.sized in
    let same = at-eased s.threads s2.threads base.eased t in
    let me = record (thread_at s2 t) { pending = Pending.Drops (x + 1) ∷ rest } in
    let before = cost-pending s.image (thread_at s t) ready.first ready.others ready.are in
    let after-it = cost-pending s.image me (Pending.Drops (x + 1)) rest refl in
    let begun : begun_cost s.image me.life me.place ≡ begun_cost s.image (thread_at s t).life (thread_at s t).place = rw (same.life, same.place) refl in
    let due : due_cost (thread_at s2 t).child (thread_at s2 t).due ≤ due_cost (thread_at s t).child (thread_at s t).due = rw same.child (due-le (thread_at s t).child (thread_at s2 t).due (thread_at s t).due same.due) in
    let less = store-dropped s t x held in
    let armed : s2.armed ≡ s.armed = drops-armed s t x (dropped s t x) in
    let cost = ready.cost in
    let sound : IsSound s.image (record (thread_at s t) { pending = Pending.Drops (x + 1) ∷ rest }) = record {
      place = (reached.sound t).place;
      waits = drops-wait (thread_at s t).life from (x + 1) rest ready.waits;
      passes = ready.passes;
    } in
    writes s reached t s2 0 base me (Unit {0})
    (sound-eased s.image (record (thread_at s t) { pending = Pending.Drops (x + 1) ∷ rest }) me (record { life = same.life; place = same.place; pending = refl; child = same.child; due = same.due }) sound)
    (λ d. omega (arith, before, after-it, begun, due, less, cost)) (rw armed (omega (arith, before, after-it, begun, due, cost)))
