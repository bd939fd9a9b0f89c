-- What a thread has left with the steps that follow an event.
use Rattle.std.proofs.Common.{◌≡◌, ◌≤◌, ℕ, ◌+◌, ◌*◌, ◌-◌, Bool, true, false, [], ◌∷◌, length, refl, arith, if◌then◌else◌, Option, Some, None}
use Rattle.std.specs.Prelude.{◌==◌, nat_lt}
use Rattle.std.proofs.lemmas.Bool.{ltb-true, true≢false}
use Rattle.um_base.specs.declared.act.Answer.{Answer}
use Rattle.um_base.specs.declared.act.Found.{Found}
use Rattle.um_base.specs.declared.act.SetSaid.{SetSaid}
use Rattle.um_base.specs.declared.ask.Ask.{Ask}
use Rattle.um_base.specs.declared.image.Image.{Image}
use Rattle.um_base.specs.declared.limits.TheConstants.{ROWS, THREADS}
use Rattle.um_base.specs.declared.names.Addr.{Addr}
use Rattle.um_base.specs.declared.names.Errno.{Errno}
use Rattle.um_base.specs.declared.names.Mode.{Mode}
use Rattle.um_base.specs.declared.names.Policy.{Policy}
use Rattle.um_base.specs.declared.names.Reply.{Reply}
use Rattle.um_machine.specs.declared.pending.Pending.{Pending}
use Rattle.um_machine.specs.declared.pending.Refusal.{Refusal}
use Rattle.um_machine.specs.Order.{Steps, end_steps, fatal_steps, to_deadline}
use Rattle.um_machine.specs.Services.{is_empty}
use Rattle.um_machine.specs.State.{next_place}
use Rattle.um_machine.specs.Goes.{Way, asked_way, checked_way, copied, error_way, next_doom, no_access, reserve_way, set_way, steps_by, text_way, without_copy, work_way}
use Rattle.um_measure.specs.Measure.{lines_ahead, lines_left}
use Rattle.um_fine.specs.Context.{Context, as_thread}
use Rattle.um_fine.specs.Continues.{goes_on}
use Rattle.um_fine_measure.specs.Measure.{ahead_cost, cleaning_cost, end_cost, rest_cost, steps_cost, put_back_cost, waiting_cost}
use Rattle.um_fine_measure.proofs.Between.{joins}

-- Steps that follow.

pub without-cost : (image : Image) (steps : Steps) → steps_cost image (without_copy steps) ≤ steps_cost image steps
without-cost image [] = omega arith
without-cost image (Pending.CopyOut a ∷ steps) = omega arith
without-cost image (q ∷ steps) = omega arith

-- what a way to go on costs more than the steps behind
abbrev pub way_cost : Way → ℕ
way_cost (Way.bears a) = 1 + cleaning_cost
way_cost (Way.replies reply) = 1
way_cost (Way.gives_back size reason cause) = 1
way_cost (Way.clears a reason cause) = 3
way_cost way = 0

-- a timer that is started to a deadline
deadline-cost : (image : Image) (d : ℕ) (steps : Steps) → steps_cost image (to_deadline d steps) ≡ steps_cost image steps
deadline-cost image d (Pending.Work a (Ask.TimerStart e) ∷ steps) = refl
deadline-cost image d steps = refl

pub way-cost : (image : Image) (way : Way) (steps : Steps) → steps_cost image (steps_by steps way) ≤ way_cost way + steps_cost image steps
way-cost image Way.skips_copy steps = let less = without-cost image steps in omega (arith, less)
way-cost image (Way.runs_to d) steps = let same = deadline-cost image d steps in omega (arith, same)
way-cost image way steps = omega arith

pub fault-way : (b : Bool) → way_cost (if b then no_access else Way.rest) ≡ 0
fault-way true = refl
fault-way false = refl

pub copied-way : (mode : Mode) (b : Bool) → way_cost (copied mode b) ≡ 0
copied-way mode true = refl
copied-way Mode.User false = refl
copied-way Mode.Supervisor false = refl

pub text-way : (found : Found) → way_cost (text_way found) ≤ 1
text-way (Found.Length n) = omega arith
text-way found = omega arith

pub refused-way : (mode : Mode) (refusal : Refusal) (e : Errno) → way_cost (checked_way mode refusal (Some e)) ≤ 1
refused-way mode Refusal.Fails e = omega arith
refused-way Mode.User Refusal.FailsUser e = omega arith
refused-way Mode.Supervisor Refusal.FailsUser e = omega arith
refused-way mode (Refusal.Answers reply) e = omega arith
refused-way mode (Refusal.AnswersUninit reply) Errno.EINVAL = omega arith
refused-way mode (Refusal.AnswersUninit reply) e = omega arith

error-way : (mode : Mode) (ask : Ask) (e : Errno) → way_cost (error_way mode ask e) ≤ 1
error-way mode (Ask.SemInit count limit) e = omega arith
error-way mode Ask.MutexInit e = omega arith
error-way mode (Ask.MsgqInit size most pool) e = omega arith
error-way mode (Ask.StackInit most pool) e = omega arith
error-way mode (Ask.PipeInit size pool) e = omega arith
error-way mode ask e = omega arith

pub work-way : (mode : Mode) (ask : Ask) (answer : Answer) → way_cost (work_way mode ask answer) + waiting_cost * joins answer ≤ waiting_cost
work-way mode ask Answer.Wait = omega arith
work-way mode ask (Answer.Now (Reply.Fail e)) = let less = error-way mode ask e in omega (arith, less)
work-way mode ask (Answer.Now reply) = omega arith

pub asked-way : (answer : Answer) → way_cost (asked_way answer) ≡ 0
asked-way Answer.Wait = refl
asked-way (Answer.Now reply) = refl

pub set-way : (mode : Mode) (undo : Option Addr) (said : SetSaid) → way_cost (set_way mode undo said) ≤ 3
set-way mode None (SetSaid.Fail e) = omega arith
set-way mode (Some a) (SetSaid.Fail e) = omega arith
set-way mode undo said = omega arith

pub reserve-way : (found : Option Addr) → way_cost (reserve_way found) ≤ 1 + cleaning_cost
reserve-way None = omega arith
reserve-way (Some a) = omega arith

pub buffer-way : (fits : Bool) → way_cost (if fits then Way.rest else Way.replies (Reply.Fail Errno.ENOMEM)) ≤ 1
buffer-way true = omega arith
buffer-way false = omega arith

pub end-cost : (image : Image) (t : ℕ) (c : Context) → steps_cost image (end_steps image t (as_thread c)) ≡ ROWS + 6
end-cost image t c = refl

pub fatal-cost : (image : Image) (t : ℕ) (c : Context) (reason : ℕ) (policy : Policy) → steps_cost image (fatal_steps image t (as_thread c) reason policy) ≤ ROWS + 6
fatal-cost image t c reason Policy.Halt = omega arith
fatal-cost image t c reason Policy.Abort = by (reason == 4)
  where
    by : (b : Bool) → steps_cost image (if b then Pending.Dooms 0 ∷ [] else end_steps image t (as_thread c)) ≤ ROWS + 6
    by true = omega arith
    by false = omega arith

pub doom-cost : (image : Image) (from : ℕ) → steps_cost image (next_doom from) ≤ THREADS - from
doom-cost image from = by (nat_lt (from + 1) THREADS) refl
  where
    by : (b : Bool) → nat_lt (from + 1) THREADS ≡ b → steps_cost image (if b then Pending.Dooms (from + 1) ∷ [] else []) ≤ THREADS - from
    by true h = let below = ltb-true (from + 1) THREADS h in omega (arith, below)
    by false h = omega arith

module _ (image : Image) where
  -- what a thread has left, with the claims of its call
  abbrev pub left_cost : Context → ℕ
  left_cost c = length c.claims + rest_cost image c

  -- its end, and the lines after the one that it has begun
  abbrev pub behind_line : Context → ℕ
  behind_line c = if c.ended then 0 else end_cost + lines_left image (next_place image c.place)

  pub goes-cost : (c : Context) (steps : Steps) → left_cost (goes_on image c steps) ≡ length c.claims + (behind_line c + steps_cost image steps + put_back_cost)
  goes-cost c [] = refl
  goes-cost c (q ∷ steps) = refl

  pub ahead-begun : (c : Context) → is_empty c.pending ≡ false → ahead_cost image c ≡ behind_line c
  ahead-begun c h = by c.pending h
    where
      by : (steps : Steps) → is_empty steps ≡ false → (if c.ended then 0 else end_cost + lines_ahead image c.place steps) ≡ behind_line c
      by [] e = absurd (true≢false e)
      by (q ∷ steps) e = refl
