-- What the steps of a line cost, with its begin and the end of its turn.
use Rattle.std.proofs.Common.{◌≡◌, ◌≤◌, ℕ, ◌+◌, Bool, true, false, ◌&&◌, ◌||◌, [], ◌∷◌, arith, if◌then◌else◌, Option, Some, None}
use Rattle.std.specs.Prelude.{◌==◌, nat_lt, unwrap_or, ℤ}
use Rattle.std.proofs.lemmas.Bool.{and_parts, false≢true}
use Rattle.um_base.specs.Lawful.{IsLawful, is_lawful_line, is_later, is_operand}
use Rattle.um_base.specs.Places.{row_at, setup_at, thread_of_addr}
use Rattle.um_base.specs.Weight.{line_cost, weight_named}
use Rattle.um_base.specs.declared.act.Cause.{Cause}
use Rattle.um_base.specs.declared.ask.Ask.{Ask}
use Rattle.um_base.specs.declared.image.Image.{Image}
use Rattle.um_base.specs.declared.instr.Instr.{Instr}
use Rattle.um_base.specs.declared.instr.Options.{Options}
use Rattle.um_base.specs.declared.names.Errno.{Errno}
use Rattle.um_base.specs.declared.names.Kind.{Kind}
use Rattle.um_base.specs.declared.names.Mode.{Mode}
use Rattle.um_base.specs.declared.names.Ref.{Ref}
use Rattle.um_base.specs.declared.names.Timeout.{Timeout}
use Rattle.um_base.specs.declared.names.Want.{Want}
use Rattle.um_machine.specs.declared.pending.Pending.{Pending}
use Rattle.um_machine.specs.declared.thread.Thread.{Thread}
use Rattle.um_machine.specs.Order.{Steps, aborts, answer, answer_void, arms, to_addr, to_thread, needs, work, answer_error, answer_zero, buffered, privileged, creates, creation_refusal, stack_declared, number_of, steps_of}
use Rattle.um_machine.specs.State.{value_of, first_place}
use Rattle.um_measure.specs.Measure.{lines_left, weights_behind}
use Rattle.um_measure.specs.Reached.{makes_steps}
use Rattle.um_fine_measure.specs.Measure.{rouse_cost, steps_cost, put_back_cost, waking_cost}
use Rattle.um_measure.proofs.NextLemmas.{first-stands}
use Rattle.um_measure.proofs.ScriptLemmas.{weight-later}

-- the begin of a line, its steps, and the end of its turn cost no more than so much
abbrev pub CostsMost : Image → ℕ → Steps → Type 0
CostsMost image most steps = 1 + steps_cost image steps + put_back_cost ≤ most

module _ (image : Image) where
  privileged-cost : (most : ℕ) (mode : Mode) (steps : Steps) → CostsMost image most steps → 3 ≤ most → CostsMost image most (privileged mode steps)
  privileged-cost most Mode.User steps h some = omega (arith, some)
  privileged-cost most Mode.Supervisor steps h some = h

  sem-cost : (x c l : ℕ) (b : Bool) → CostsMost image 40 (needs x Kind.Sem Want.Any ∷ (if b then answer_error Errno.EINVAL else work x (Ask.SemInit c l) ∷ Pending.SetInit (to_addr x) false None ∷ answer_zero))
  sem-cost x c l true = omega arith
  sem-cost x c l false = omega arith

  buffered-cost : (a : ℕ) (kind : Kind) (b : Bool) (size : ℕ) (ask : Ask) → CostsMost image 40 (buffered a kind b size ask)
  buffered-cost a kind true size ask = omega arith
  buffered-cost a kind false size ask = omega arith

  -- with a number of ticks a deadline is armed
  arms-cost : (timeout : Timeout) (steps : Steps) → steps_cost image (arms timeout steps) ≤ 7 + steps_cost image steps
  arms-cost Timeout.NoWait steps = omega arith
  arms-cost Timeout.Forever steps = omega arith
  arms-cost (Timeout.Ticks n) steps = omega arith

  aborts-cost : (t who : ℕ) → steps_cost image (aborts t who) ≤ 2 + rouse_cost + waking_cost
  aborts-cost t who = by (who == t)
    where
      by : (b : Bool) → steps_cost image (Pending.Abort (to_thread who) ∷ (if b then Pending.Killed ∷ [] else answer_void)) ≤ 2 + rouse_cost + waking_cost
      by true = omega arith
      by false = omega arith

  -- what a script that a line names costs, from its first place on
  script-cost : IsLawful image → (i : ℕ) (script : Ref) → is_later image i script ≡ true → lines_left image (first_place image (number_of script)) + 240 ≤ weight_named (weights_behind image i) i script
  script-cost lawful i script h =
      let first = first-stands image lawful (number_of script) in
      let weight = weight-later image i script h in omega (arith, first.cost, weight)

  creates-cost : (mode : Mode) (a most script stack stack_addr : ℕ) (priority : ℤ) (options : Options) (refusal : Option Cause) → lines_left image (first_place image script) + 440 ≤ most
      → CostsMost image most (needs a Kind.Thread Want.Uninit ∷ needs stack_addr Kind.ThreadStack Want.Uninit ∷ creates mode (thread_of_addr image a) stack a stack_addr script priority options refusal)
  creates-cost mode a most script stack stack_addr priority options (Some cause) h = omega (arith, h)
  creates-cost mode a most script stack stack_addr priority options None h = by options.inherit
    where
      by : (inherits : Bool)
          → CostsMost image most (needs a Kind.Thread Want.Uninit ∷ needs stack_addr Kind.ThreadStack Want.Uninit
          ∷ creates mode (thread_of_addr image a) stack a stack_addr script priority (record options { inherit = inherits }) None)
      by true = omega (arith, h)
      by false = omega (arith, h)

  -- a line costs what its weight says, at most
  pub line-cost : IsLawful image → (i t : ℕ) (me : Thread) (line : Instr) → is_lawful_line image i line ≡ true → makes_steps (Some line) ≡ true
      → CostsMost image (line_cost (weights_behind image i) i line) (steps_of image t me line)
  line-cost lawful i t me (Instr.Repeat times) h makes = absurd (false≢true makes)
  line-cost lawful i t me Instr.End h makes = absurd (false≢true makes)
  line-cost lawful i t me (Instr.DomainInit domain parts) h makes = privileged-cost 40 me.mode _ (omega arith) (omega arith)
  line-cost lawful i t me (Instr.DomainAdd domain part) h makes = privileged-cost 40 me.mode _ (omega arith) (omega arith)
  line-cost lawful i t me (Instr.DomainRemove domain part) h makes = privileged-cost 40 me.mode _ (omega arith) (omega arith)
  line-cost lawful i t me (Instr.DomainMove domain thread) h makes = privileged-cost 40 me.mode _ (omega arith) (omega arith)
  line-cost lawful i t me (Instr.Revoke object thread) h makes = privileged-cost 40 me.mode _ (omega arith) (omega arith)
  line-cost lawful i t me (Instr.AllGrant object) h makes = privileged-cost 40 me.mode _ (omega arith) (omega arith)
  line-cost lawful i t me (Instr.UserMode script) h makes =
      let named = script-cost lawful i script h in
      privileged-cost _ me.mode _ (omega (arith, named)) (omega arith)
  line-cost lawful i t me (Instr.Create thread stack size script priority options) h makes =
      let later : is_later image i script ≡ true = (and_parts (is_operand thread && is_operand stack && is_operand size) (is_later image i script) h).1 in
      let named = script-cost lawful i script later in
      creates-cost me.mode (value_of me.registers thread) _ (number_of script) (unwrap_or (row_at image (value_of me.registers stack)) 0) (value_of me.registers stack) priority options
      (creation_refusal me.mode me.priority (stack_declared (setup_at image (unwrap_or (row_at image (value_of me.registers stack)) 0))) (value_of me.registers size) priority options)
      (omega (arith, named))
  line-cost lawful i t me (Instr.SemInit object count limit) h makes =
      sem-cost (value_of me.registers object) (value_of me.registers count) (value_of me.registers limit) (value_of me.registers limit == 0 || nat_lt (value_of me.registers limit) (value_of me.registers count))
  line-cost lawful i t me (Instr.MsgqInit object msg_size max_msgs) h makes = buffered-cost _ Kind.Msgq _ _ _
  line-cost lawful i t me (Instr.StackInit object entries) h makes = buffered-cost _ Kind.Stack _ _ _
  line-cost lawful i t me (Instr.PipeInit object size) h makes = buffered-cost _ Kind.Pipe _ _ _
  line-cost lawful i t me (Instr.SemTake object timeout) h makes =
      let armed = arms-cost timeout (work (value_of me.registers object) (Ask.SemTake timeout) ∷ answer) in omega (arith, armed)
  line-cost lawful i t me (Instr.MutexLock object timeout) h makes =
      let armed = arms-cost timeout (work (value_of me.registers object) (Ask.MutexLock timeout) ∷ answer) in omega (arith, armed)
  line-cost lawful i t me (Instr.MsgqPut object addr timeout) h makes =
      let armed = arms-cost timeout (work (value_of me.registers object) (Ask.MsgqPut timeout) ∷ answer) in omega (arith, armed)
  line-cost lawful i t me (Instr.MsgqGet object addr timeout) h makes =
      let armed = arms-cost timeout (work (value_of me.registers object) (Ask.MsgqGet timeout) ∷ Pending.CopyOut (to_addr (value_of me.registers addr)) ∷ answer) in omega (arith, armed)
  line-cost lawful i t me (Instr.StackPop object addr timeout) h makes =
      let armed = arms-cost timeout (work (value_of me.registers object) (Ask.StackPop timeout) ∷ Pending.CopyOut (to_addr (value_of me.registers addr)) ∷ answer) in omega (arith, armed)
  line-cost lawful i t me (Instr.PipeWrite object addr length timeout) h makes =
      let armed = arms-cost timeout (work (value_of me.registers object) (Ask.PipeWrite (value_of me.registers length) timeout) ∷ answer) in omega (arith, armed)
  line-cost lawful i t me (Instr.PipeRead object addr length timeout) h makes =
      let armed = arms-cost timeout (work (value_of me.registers object) (Ask.PipeRead (value_of me.registers length) timeout) ∷ Pending.CopyOut (to_addr (value_of me.registers addr)) ∷ answer) in
      omega (arith, armed)
  line-cost lawful i t me (Instr.Abort thread) h makes =
      let cost = aborts-cost t (thread_of_addr image (value_of me.registers thread)) in omega (arith, cost)
  line-cost lawful i t me (Instr.Join thread timeout) h makes =
      let armed = arms-cost timeout (Pending.Join (to_thread (thread_of_addr image (value_of me.registers thread))) timeout ∷ answer) in omega (arith, armed)
  line-cost lawful i t me (Instr.FutexWait addr value timeout) h makes =
      let armed = arms-cost timeout (Pending.FutexWait (to_addr (value_of me.registers addr)) (value_of me.registers value) timeout ∷ answer) in omega (arith, armed)
  line-cost lawful i t me line h makes = omega arith
