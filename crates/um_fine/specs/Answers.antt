-- The answers that are in acts, in words, and in what goes between a processor and a site.
use Rattle.std.specs.Prelude.{ℕ, Bool, true, false, List, [], Option, None, pos}
use Rattle.um_base.specs.declared.names.Mode.{Mode}
use Rattle.um_base.specs.declared.names.Reply.{Reply}
use Rattle.um_base.specs.declared.act.Act.{Act}
use Rattle.um_base.specs.declared.act.Answer.{Answer}
use Rattle.um_base.specs.declared.act.Event.{Event}
use Rattle.um_base.specs.declared.ask.Ask.{Ask}
use Rattle.um_base.specs.declared.ask.Told.{Told}
use Rattle.um_base.specs.declared.ask.Waiter.{Waiter}
use Rattle.um_base.specs.declared.names.ThreadIx.{ThreadIx}
use Rattle.um_base.specs.Regions.{Partitions}
use Rattle.um_machine.specs.declared.object.Cost.{Cost}
use Rattle.um_machine.specs.declared.thread.Life.{Life}
pub use Rattle.um_machine.specs.Outcomes.{answer_in, deadline_in, domain_reply_in, fits_in, found_in, given_in, is_done_in, is_fault, leftover_in, now_in, reserved_in, set_in, value_in, verdict_in, woken_in}
use Rattle.um_words.specs.declared.fine.FineAct.{FineAct}
use Rattle.um_words.specs.declared.fine.Mark.{Mark}
use Rattle.um_words.specs.declared.fine.Unseen.{Unseen}
use Rattle.um_words.specs.declared.row_word.RowWord.{RowWord}
use Rattle.um_words.specs.declared.row_word.Stage.{Stage}
use Rattle.um_words.specs.declared.thread_word.ThreadWord.{ThreadWord}
use Rattle.um_words.specs.declared.dom_word.DomWord.{DomWord}
use Rattle.um_fine.specs.Context.{Context, no_context}
use Rattle.um_fine.specs.Steps.{Exchange, Outcome, Word}

-- In acts.

-- the event of a step that is shown: of any other, an exit of the first thread
abbrev pub no_event : Event
no_event = record { thread = record { 0 = 0 }; act = Act.Exit }

abbrev pub event_in : FineAct → Event
event_in (FineAct.Shown event more) = event
event_in (FineAct.Unseen unseen) = no_event

abbrev pub act_in : FineAct → Act
act_in act = (event_in act).act

abbrev pub is_visit : FineAct → Bool
is_visit (FineAct.Unseen Unseen.Visit) = true
is_visit _ = false

abbrev pub is_word_read : FineAct → Bool
is_word_read (FineAct.Unseen Unseen.WordRead) = true
is_word_read _ = false

abbrev pub is_void : FineAct → Bool
is_void (FineAct.Unseen Unseen.Void) = true
is_void _ = false

abbrev pub is_killed_act : Act → Bool
is_killed_act Act.Killed = true
is_killed_act _ = false

abbrev pub is_killed : FineAct → Bool
is_killed (FineAct.Shown event more) = is_killed_act event.act
is_killed _ = false

abbrev pub is_shut_act : FineAct → Bool
is_shut_act (FineAct.Unseen (Unseen.Shut who)) = true
is_shut_act _ = false

abbrev pub is_due_act : FineAct → Bool
is_due_act (FineAct.Unseen Unseen.Due) = true
is_due_act _ = false

abbrev pub is_tick_act : Act → Bool
is_tick_act (Act.Tick now) = true
is_tick_act _ = false

abbrev pub is_tick : FineAct → Bool
is_tick (FineAct.Shown event more) = is_tick_act event.act
is_tick _ = false

abbrev pub ready_in : FineAct → Bool
ready_in (FineAct.Unseen (Unseen.Cut who ready)) = ready
ready_in (FineAct.Unseen (Unseen.Wake who ready)) = ready
ready_in (FineAct.Unseen (Unseen.Park who ready)) = ready
ready_in _ = false

-- In what goes between.

abbrev pub bytes_in : Exchange → List ℕ
bytes_in (Exchange.bytes bs) = bs
bytes_in (Exchange.text n bs) = bs
bytes_in _ = []

abbrev pub no_outcome : Outcome
no_outcome = record { answer = Answer.Wait; taken = []; woken = [] }

abbrev pub outcome_in : Exchange → Outcome
outcome_in (Exchange.asked caller noted outcome) = outcome
outcome_in _ = no_outcome

abbrev pub no_caller : Waiter
no_caller = record { thread = record { 0 = 0 }; priority = pos 0; ask = Ask.SemGive; bytes = []; until = None }

abbrev pub caller_in : Exchange → Waiter
caller_in (Exchange.asked caller noted outcome) = caller
caller_in _ = no_caller

abbrev pub noted_in : Exchange → ℕ
noted_in (Exchange.asked caller noted outcome) = noted
noted_in _ = 0

abbrev pub ticks_in : Exchange → ℕ
ticks_in (Exchange.armed ticks mark) = ticks
ticks_in _ = 0

abbrev pub no_mark : Mark
no_mark = Mark.Timer (record { 0 = 0 })

abbrev pub mark_in : Exchange → Mark
mark_in (Exchange.armed ticks mark) = mark
mark_in (Exchange.mark deadline mark) = mark
mark_in _ = no_mark

-- the deadline of a mark
abbrev pub due_in : Exchange → ℕ
due_in (Exchange.mark deadline mark) = deadline
due_in _ = 0

abbrev pub sought_in : Exchange → ThreadIx
sought_in (Exchange.sought who before) = who
sought_in _ = record { 0 = 0 }

abbrev pub charge_in : Exchange → Option Cost
charge_in (Exchange.charge cost) = cost
charge_in _ = None

abbrev pub parts_in : Exchange → Partitions
parts_in (Exchange.parts ps) = ps
parts_in _ = []

abbrev pub before_in : Exchange → Option Partitions
before_in (Exchange.edited before after) = before
before_in _ = None

abbrev pub limit_in : Exchange → ℕ
limit_in (Exchange.text n bs) = n
limit_in _ = 0

abbrev pub told_nothing : Told
told_nothing = record { reply = Reply.Void; taken = [] }

abbrev pub wake_in : Exchange → Told
wake_in (Exchange.told told) = told
wake_in _ = told_nothing

abbrev pub size_in : Exchange → ℕ
size_in (Exchange.size n) = n
size_in _ = 0

abbrev pub context_in : Exchange → Context
context_in (Exchange.thread c told) = c
context_in _ = no_context

-- In words: that of a row, of a thread, of a domain.

abbrev pub no_row : RowWord
no_row = record { permissions = []; init = false; public = false; dynamic = false; stage = Stage.Free; claims = 0; number = 0 }

abbrev pub no_thread : ThreadWord
no_thread =
    record {
      life = Life.Unborn;
      doomed = false;
      held = false;
      mode = Mode.User;
      domain = 0;
      aborted = false;
      suspended = false;
      note = None;
      number = 0;
    }

abbrev pub no_domain : DomWord
no_domain = record { init = false; writer = false; readers = 0; version = 0; number = 0 }

abbrev pub row_in : Word → RowWord
row_in (Word.row w) = w
row_in _ = no_row

abbrev pub thread_in : Word → ThreadWord
thread_in (Word.thread w) = w
thread_in _ = no_thread

abbrev pub domain_in : Word → DomWord
domain_in (Word.domain w) = w
domain_in _ = no_domain
