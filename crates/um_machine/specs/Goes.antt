-- How a thread goes on after a step, as data: what changes of its own part, and which steps it has left. Both machines make it of the same data.
use Rattle.std.specs.Prelude.{ℕ, ◌+◌, ◌*◌, ◌%◌, ◌^◌, Bool, true, false, ◌&&◌, not, nat_lt, if◌then◌else◌, List, [], ◌∷◌, map, Option, Some, None, slice_index, slice_index_or, slice_set}
use Rattle.um_base.specs.declared.names.Addr.{Addr}
use Rattle.um_base.specs.declared.names.Errno.{Errno}
use Rattle.um_base.specs.declared.names.Mode.{Mode}
use Rattle.um_base.specs.declared.names.Reply.{Reply}
use Rattle.um_base.specs.declared.names.ThreadIx.{ThreadIx}
use Rattle.um_base.specs.declared.act.Answer.{Answer}
use Rattle.um_base.specs.declared.ask.Ask.{Ask}
use Rattle.um_base.specs.declared.act.Found.{Found}
use Rattle.um_base.specs.declared.act.SetSaid.{SetSaid}
use Rattle.um_base.specs.declared.ask.Told.{Told}
use Rattle.um_base.specs.declared.image.Image.{Image}
use Rattle.um_base.specs.declared.instr.Instr.{Instr}
use Rattle.um_machine.specs.declared.pending.Pending.{Pending}
use Rattle.um_machine.specs.declared.pending.Refusal.{Refusal}
use Rattle.um_machine.specs.declared.thread.Thread.{Thread}
use Rattle.um_machine.specs.State.{State, no_rows, thread_at, with_thread, next_place, first_place, value_of}
use Rattle.um_base.specs.declared.limits.TheConstants.{THREADS}
use Rattle.um_base.specs.Places.{own_row}
use Rattle.um_machine.specs.Objects.{verdict}
use Rattle.um_machine.specs.Services.{is_empty}
use Rattle.um_machine.specs.Order.{Steps, rounded, to_deadline, steps_of, end_steps, fatal_steps, refusal_reason}
use Rattle.um_base.specs.declared.act.Cause.{Cause}
use Rattle.um_machine.specs.declared.thread.Life.{Life}

-- a thread goes on with these steps; where none is left it is at rest at its next place
abbrev pub at_steps : Image → Thread → Steps → Thread
at_steps image me rest = record me { pending = rest; place = if is_empty rest then next_place image me.place else me.place }

-- the rows with which a thread has a pair
abbrev pub rows_held : State → ℕ → List Bool
rows_held s t = map (λ (flags : List Bool). slice_index_or flags t false) s.pairs

-- the rows with which a thread has a pair and another has none
abbrev pub rows_to_pass : State → ℕ → ℕ → List Bool
rows_to_pass s t who = map (λ (holders : List Bool). slice_index_or holders t false && not (slice_index_or holders who false)) s.pairs

-- what is left to do after an error: nothing is copied out
abbrev pub without_copy : Steps → Steps
without_copy (Pending.CopyOut a ∷ rest) = rest
without_copy rest = rest

-- the registers after an answer
abbrev pub with_answer : List ℕ → Option ℕ → Reply → List ℕ
with_answer registers None reply = registers
with_answer registers (Some to) (Reply.Num n) = slice_set registers to n
with_answer registers (Some to) (Reply.At a) = slice_set registers to a.0
with_answer registers (Some to) Reply.Null = slice_set registers to 0
with_answer registers (Some to) reply = registers

-- the registers after the begin of an instruction
abbrev pub with_begin : List ℕ → Instr → List ℕ
with_begin registers (Instr.Set to value) = slice_set registers to (value_of registers value)
with_begin registers (Instr.Add to value) = slice_set registers to ((slice_index registers to + value_of registers value) % 2 ^ 32)
with_begin registers instr = registers

abbrev pub next_doom : ℕ → Steps
next_doom from = if nat_lt (from + 1) THREADS then Pending.Dooms (from + 1) ∷ [] else []

-- a change of what a thread's call has worked out
pub data Change : Type 0 where
  nothing : Change
  register : ℕ → ℕ → Change
  copies : List ℕ → Change
  says : Reply → Change
  outcome : Reply → List ℕ → Change
  until : Option ℕ → Change

abbrev pub changed : Change → Thread → Thread
changed Change.nothing me = me
changed (Change.register to value) me = record me { registers = slice_set me.registers to value }
changed (Change.copies bs) me = record me { buffer = bs }
changed (Change.says reply) me = record me { reply = reply }
changed (Change.outcome reply taken) me = record me { reply = reply; buffer = taken }
changed (Change.until deadline) me = record me { until = deadline }

-- Which steps it has left: those behind the step, without a copy that comes first, behind a wait or a birth, or with the deadline of a
-- timer that starts first; an answer; or a fatal error, at once or behind a step that undoes.
pub data Way : Type 0 where
  rest : Way
  skips_copy : Way
  waits : Way
  bears : Addr → Way
  runs_to : ℕ → Way
  replies : Reply → Way
  fails : ℕ → Cause → Way
  gives_back : ℕ → ℕ → Cause → Way
  clears : Addr → ℕ → Cause → Way

abbrev pub steps_by : Steps → Way → Steps
steps_by left Way.rest = left
steps_by left Way.skips_copy = without_copy left
steps_by left Way.waits = Pending.Resume ∷ left
steps_by left (Way.bears a) = Pending.Born a ∷ left
steps_by left (Way.runs_to deadline) = to_deadline deadline left
steps_by left (Way.replies reply) = Pending.Answer (Some reply) None ∷ []
steps_by left (Way.fails reason cause) = Pending.Fatal reason cause ∷ []
steps_by left (Way.gives_back size reason cause) = Pending.Unbuffer size ∷ Pending.Fatal reason cause ∷ []
steps_by left (Way.clears a reason cause) = Pending.ClearInit a ∷ Pending.Fatal reason cause ∷ []

-- How a thread goes on.
pub data Next : Type 0 where
  -- its own part stays
  stays : Next
  -- in its call
  on : Change → Way → Next
  -- in its call, which holds the object of this row where the verdict is ok
  checks : ℕ → Option Errno → Way → Next
  -- behind its call, which holds nothing any more
  answers : Option ℕ → Reply → Next
  -- with its own object only if it isn't this one
  owns : Bool → Next
  -- into the steps of an instruction, where there is one
  begins : Option Instr → Next
  -- with what it was told, if it was
  resumes : Option Told → Next
  -- with a new thread as its child, whose pairs are due
  creates : ThreadIx → Next
  -- without a child, which is started
  starts : Next
  -- with a visit of the next row
  inherits : ThreadIx → Next
  drops : ℕ → Next
  -- with the next doom
  dooms : ℕ → Next
  -- in user mode, in a script
  enters : ℕ → Next
  -- it ends
  exits : Next
  fatal : ℕ → Next

-- a thread that ends: what its call holds is let go, and its pairs are due
abbrev pub at_end : State → ℕ → Thread → Steps → Thread
at_end s t me steps =
    record me { life = Life.Ended; checked = no_rows; until = None; told = None; child = None; due = rows_held s t; pending = steps }

-- the steps of one that was told this reply
abbrev pub told_way : Reply → Way
told_way (Reply.Fail e) = Way.skips_copy
told_way reply = Way.rest

abbrev pub held : ℕ → Option Errno → Thread → Thread
held x None me = record me { checked = slice_set me.checked x true }
held x (Some e) me = me

-- a thread that goes on so, in a state, with these steps behind the one that it made
abbrev pub gone : Steps → State → ℕ → Next → Thread → Thread
gone left s t (Next.on change way) me = at_steps s.image (changed change me) (steps_by left way)
gone left s t (Next.checks x verdict way) me = at_steps s.image (held x verdict me) (steps_by left way)
gone left s t (Next.answers to reply) me =
    at_steps s.image (record me { checked = no_rows; until = None; registers = with_answer me.registers to reply }) left
gone left s t (Next.owns keeps) me = at_steps s.image (record me { keeps_own = me.keeps_own && keeps }) left
gone left s t (Next.begins (Some instr)) me =
    at_steps s.image (record me { registers = with_begin me.registers instr }) (steps_of s.image t me instr)
gone left s t (Next.resumes (Some told)) me =
    at_steps s.image (record me { told = None; reply = told.reply; buffer = told.taken }) (steps_by left (told_way told.reply))
gone left s t (Next.creates who) me =
    at_steps s.image (record me { child = Some who; due = slice_set (rows_to_pass s t who.0) (own_row s.image t) false }) left
gone left s t Next.starts me = at_steps s.image (record me { child = None }) left
gone left s t (Next.inherits who) me = record me { pending = Pending.Inherit who ∷ left }
gone left s t (Next.drops from) me = record me { pending = Pending.Drops from ∷ left }
gone left s t (Next.dooms from) me = record me { pending = next_doom from }
gone left s t (Next.enters script) me = record me { mode = Mode.User; place = first_place s.image script; pending = [] }
gone left s t Next.exits me = at_end s t me (end_steps s.image t me)
gone left s t (Next.fatal reason) me = at_end s t me (fatal_steps s.image t me reason s.image.policy)
gone left s t next me = me

-- the state in which a thread goes on so
abbrev pub went : Steps → State → ℕ → Next → State
went left s t Next.stays = s
went left s t (Next.begins None) = s
went left s t (Next.resumes None) = s
went left s t next = with_thread s t (gone left s t next (thread_at s t))

-- a refused call, and a copy that isn't allowed
abbrev pub refused : Mode → Errno → Way
refused mode e = Way.fails (refusal_reason mode) (Cause.Refused e)

abbrev pub no_access : Way
no_access = Way.fails 0 Cause.Access

abbrev pub copied : Mode → Bool → Way
copied mode true = Way.rest
copied Mode.User false = Way.fails 3 (Cause.Refused Errno.EFAULT)
copied Mode.Supervisor false = no_access

abbrev pub checked_way : Mode → Refusal → Option Errno → Way
checked_way mode refusal None = Way.rest
checked_way mode Refusal.Fails (Some e) = refused mode e
checked_way Mode.User Refusal.FailsUser (Some e) = refused Mode.User e
checked_way Mode.Supervisor Refusal.FailsUser (Some e) = Way.replies Reply.Void
checked_way mode (Refusal.Answers reply) (Some e) = Way.replies reply
checked_way mode (Refusal.AnswersUninit reply) (Some Errno.EINVAL) = Way.replies reply
checked_way mode (Refusal.AnswersUninit reply) (Some e) = refused mode e

abbrev pub text_way : Found → Way
text_way (Found.Length n) = Way.rest
text_way Found.Unreadable = Way.replies (Reply.Fail Errno.EFAULT)
text_way Found.TooLong = Way.replies (Reply.Fail Errno.EINVAL)

abbrev pub text_change : List ℕ → Found → Change
text_change bs (Found.Length n) = Change.copies bs
text_change bs found = Change.nothing

abbrev pub undone : Mode → Errno → Option Addr → Way
undone mode e None = refused mode e
undone mode e (Some a) = Way.clears a (refusal_reason mode) (Cause.Refused e)

abbrev pub set_way : Mode → Option Addr → SetSaid → Way
set_way mode undo (SetSaid.Fail e) = undone mode e undo
set_way mode undo said = Way.rest

-- what follows an act that answered an error
abbrev pub error_way : Mode → Ask → Errno → Way
error_way mode (Ask.SemInit count limit) e = refused mode e
error_way mode Ask.MutexInit e = refused mode e
error_way mode (Ask.MsgqInit size most pool) e = Way.gives_back (rounded (size * most)) (refusal_reason mode) (Cause.Refused e)
error_way mode (Ask.StackInit most pool) e = Way.gives_back (rounded (4 * most)) (refusal_reason mode) (Cause.Refused e)
error_way mode (Ask.PipeInit size pool) e = Way.gives_back (rounded size) (refusal_reason mode) (Cause.Refused e)
error_way mode ask e = Way.skips_copy

abbrev pub work_way : Mode → Ask → Answer → Way
work_way mode ask Answer.Wait = Way.waits
work_way mode ask (Answer.Now (Reply.Fail e)) = error_way mode ask e
work_way mode ask (Answer.Now reply) = Way.rest

abbrev pub work_change : Answer → List ℕ → Change
work_change Answer.Wait taken = Change.nothing
work_change (Answer.Now reply) taken = Change.outcome reply taken

-- what follows a call that asks no object
abbrev pub asked_way : Answer → Way
asked_way Answer.Wait = Way.waits
asked_way (Answer.Now reply) = Way.rest

abbrev pub reserve_way : Option Addr → Way
reserve_way None = Way.rest
reserve_way (Some a) = Way.bears a

abbrev pub reserve_change : Option Addr → Change
reserve_change None = Change.says Reply.Null
reserve_change (Some a) = Change.says (Reply.At a)
