-- What a processor asks of the scheduler's cell: the steps as they are made at a cell with these contents and this step number.
use Rattle.std.specs.Prelude.{ℕ, false, None}
use Rattle.um_base.specs.declared.ask.Told.{Told}
use Rattle.um_base.specs.declared.image.Image.{Image}
use Rattle.um_base.specs.declared.names.ThreadIx.{ThreadIx}
use Rattle.um_machine.specs.Order.{to_thread}
use Rattle.um_words.specs.declared.fine.FineAct.{FineAct}
use Rattle.um_words.specs.declared.fine.Unseen.{Unseen}
use Rattle.um_fine.specs.Cells.{Cell}
use Rattle.um_fine.specs.Context.{Context}
use Rattle.um_fine.specs.Scheduler.{Scheduler}
use Rattle.um_fine.specs.Steps.{Exchange, FineStep, Site}
use Rattle.um_tables.specs.Asked.{cell_made}

abbrev pub scheduler_made : Image → ℕ → ℕ → Scheduler → Unseen → Exchange → FineStep
scheduler_made image cpu n s unseen moved = cell_made image cpu Site.scheduler n (Cell.scheduler s) (FineAct.Unseen unseen) moved

-- the first ready thread is taken: the site says which it is, and whether it resumes
abbrev pub taken_made : Image → ℕ → ℕ → Scheduler → FineStep
taken_made image cpu n s = scheduler_made image cpu n s (Unseen.Next (to_thread 0)) Exchange.nothing

abbrev pub woken_made : Image → ℕ → ℕ → Scheduler → ThreadIx → Told → FineStep
woken_made image cpu n s who told = scheduler_made image cpu n s (Unseen.Wake who false) (Exchange.told told)

abbrev pub added_made : Image → ℕ → ℕ → Scheduler → Context → FineStep
added_made image cpu n s c = scheduler_made image cpu n s (Unseen.Add (to_thread c.thread)) (Exchange.thread c None)

abbrev pub parked_made : Image → ℕ → ℕ → Scheduler → Context → FineStep
parked_made image cpu n s c = scheduler_made image cpu n s (Unseen.Park (to_thread c.thread) false) (Exchange.thread c None)

abbrev pub done_made : Image → ℕ → ℕ → Scheduler → FineStep
done_made image cpu n s = scheduler_made image cpu n s Unseen.Done Exchange.nothing

-- a thread that was cut is to be killed
abbrev pub cut_made : Image → ℕ → ℕ → Scheduler → ThreadIx → FineStep
cut_made image cpu n s who = scheduler_made image cpu n s (Unseen.Cut who false) Exchange.nothing

-- a mark is owed, and paid
abbrev pub owed_made : Image → ℕ → ℕ → Scheduler → FineStep
owed_made image cpu n s = scheduler_made image cpu n s Unseen.Owe Exchange.nothing

abbrev pub paid_made : Image → ℕ → ℕ → Scheduler → FineStep
paid_made image cpu n s = scheduler_made image cpu n s Unseen.Paid Exchange.nothing
