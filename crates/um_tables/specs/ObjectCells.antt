-- What a processor asks of an object's cell: the steps as they are made at a cell with these contents and this step number, and what comes
-- of a call's work.
use Rattle.std.specs.Prelude.{ℕ, List, [], None}
use Rattle.um_base.specs.declared.act.Act.{Act}
use Rattle.um_base.specs.declared.act.Answer.{Answer}
use Rattle.um_base.specs.declared.ask.Waiter.{Waiter}
use Rattle.um_base.specs.declared.image.Image.{Image}
use Rattle.um_base.specs.declared.names.Addr.{Addr}
use Rattle.um_base.specs.declared.names.ThreadIx.{ThreadIx}
use Rattle.um_machine.specs.declared.contents.Contents.{Contents}
use Rattle.um_service.specs.declared.outcome.Outcome.{Outcome as Served}
use Rattle.um_words.specs.declared.fine.FineAct.{FineAct}
use Rattle.um_machine.specs.Order.{to_row}
use Rattle.um_words.specs.declared.fine.Mark.{Mark}
use Rattle.um_words.specs.declared.fine.More.{More}
use Rattle.um_words.specs.declared.fine.Unseen.{Unseen}
use Rattle.um_fine.specs.Answers.{no_outcome}
use Rattle.um_fine.specs.Cells.{Cell}
use Rattle.um_fine.specs.Objects.{ObjectCell as Kept}
use Rattle.um_fine.specs.Opening.{no_notes}
use Rattle.um_fine.specs.Steps.{Exchange, FineStep, Outcome, Site}
use Rattle.um_tables.specs.Asked.{cell_made, shown}
use Rattle.um_tables.specs.declared.object_cell.ObjectCell.{ObjectCell}

-- the contents without the number of steps
abbrev pub kept_in : ObjectCell → Kept
kept_in c = record { contents = c.contents; waiters = c.waiters; noted = c.noted; buffer = c.buffer }

-- a cell that keeps nothing, with this step number
abbrev pub cleared : ℕ → ObjectCell
cleared n = record { contents = Contents.Nothing; waiters = []; noted = no_notes; buffer = None; steps = n }

abbrev pub wiped : ObjectCell → ObjectCell
wiped c = record c { contents = Contents.Nothing; waiters = []; buffer = None }

abbrev pub named_as : ObjectCell → List ℕ → ObjectCell
named_as c name = record c { contents = Contents.Named name }

abbrev pub outcome_by : Served → Outcome
outcome_by served = record { answer = served.answer; taken = served.taken; woken = served.woken }

-- a call's work on the object at an address
abbrev pub work_act : Addr → Waiter → FineAct
work_act a who = shown who.thread (Act.Work a Answer.Wait []) More.Nothing

abbrev pub object_made : Image → ℕ → ℕ → ℕ → Kept → FineAct → Exchange → FineStep
object_made image cpu x n o act moved = cell_made image cpu (Site.object x) n (Cell.object o) act moved

abbrev pub worked_made : Image → ℕ → ℕ → ℕ → Kept → Addr → Waiter → ℕ → FineStep
worked_made image cpu x n o a who noted = object_made image cpu x n o (work_act a who) (Exchange.asked who noted no_outcome)

-- a thread gives a thread object a name
abbrev pub named_made : Image → ℕ → ℕ → ℕ → Kept → ThreadIx → ThreadIx → List ℕ → FineStep
named_made image cpu x n o t who name = object_made image cpu x n o (shown t (Act.Named who) More.Nothing) (Exchange.bytes name)

-- a look at the size of a queue's messages
abbrev pub looked_made : Image → ℕ → ℕ → ℕ → Kept → FineStep
looked_made image cpu x n o = object_made image cpu x n o (FineAct.Unseen Unseen.SizeLook) Exchange.nothing

-- the contents are cleared
abbrev pub cleared_made : Image → ℕ → ℕ → ℕ → Kept → FineStep
cleared_made image cpu x n o = object_made image cpu x n o (FineAct.Unseen Unseen.Wipe) Exchange.nothing

-- the timer at an address runs out, by the mark with this deadline
abbrev pub expiry : ThreadIx → Addr → FineAct
expiry t a = shown t (Act.Expire a []) More.Nothing

abbrev pub expired_made : Image → ℕ → ℕ → ℕ → Kept → ThreadIx → Addr → ℕ → FineStep
expired_made image cpu x n o t a deadline = object_made image cpu x n o (expiry t a) (Exchange.mark deadline (Mark.Timer (to_row x)))
