-- What a processor asks of the joins' cell: the steps as they are made at a cell with these contents and this step number.
use Rattle.std.specs.Prelude.{◌≡◌, ℕ, Bool, true, false, None}
use Rattle.um_base.specs.declared.act.Act.{Act}
use Rattle.um_base.specs.declared.act.Answer.{Answer}
use Rattle.um_base.specs.declared.ask.Ask.{Ask}
use Rattle.um_base.specs.declared.image.Image.{Image}
use Rattle.um_base.specs.declared.names.ThreadIx.{ThreadIx}
use Rattle.um_base.specs.declared.names.Timeout.{Timeout}
use Rattle.um_words.specs.declared.fine.FineAct.{FineAct}
use Rattle.um_words.specs.declared.fine.More.{More}
use Rattle.um_words.specs.declared.fine.Unseen.{Unseen}
use Rattle.um_fine.specs.Cells.{Cell}
use Rattle.um_fine.specs.Context.{Context}
use Rattle.um_fine.specs.Joins.{Joins}
use Rattle.um_fine.specs.Steps.{Exchange, FineStep, Site}
use Rattle.um_tables.specs.Asked.{cell_made, shown}
use Rattle.um_tables.specs.Seekers.{seeking}
use Rattle.um_tables.specs.declared.seeker.Seeker.{Seeker}

abbrev pub joins_made : Image → ℕ → ℕ → Joins → FineAct → Exchange → FineStep
joins_made image cpu n j act moved = cell_made image cpu Site.joins n (Cell.joins j) act moved

-- a thread asks for the end of another one
abbrev pub join_act : Seeker → ThreadIx → Timeout → FineAct
join_act s who timeout = shown s.thread (Act.Join who Answer.Wait) (More.Waits true timeout)

abbrev pub joined_made : Image → ℕ → ℕ → Joins → Seeker → ThreadIx → Timeout → FineStep
joined_made image cpu n j s who timeout = joins_made image cpu n j (join_act s who timeout) (seeking s (Ask.Join who))

-- the end of a thread comes: the cell says whether somebody waits for it
abbrev pub left_made : Image → ℕ → ℕ → Joins → ThreadIx → FineStep
left_made image cpu n j who = joins_made image cpu n j (FineAct.Unseen (Unseen.Shut who)) Exchange.nothing

-- a thread that is started next may be joined
abbrev pub unshut_made : Image → ℕ → ℕ → Joins → ThreadIx → FineStep
unshut_made image cpu n j who = joins_made image cpu n j (FineAct.Unseen (Unseen.Unshut who)) Exchange.nothing

-- a suspended thread goes to sleep
abbrev pub slept_made : Image → ℕ → ℕ → Joins → Context → FineStep
slept_made image cpu n j c = joins_made image cpu n j (FineAct.Unseen Unseen.Sleep) (Exchange.thread c None)

-- a thread that sleeps is taken, if it does
abbrev pub roused_made : Image → ℕ → ℕ → Joins → ThreadIx → FineStep
roused_made image cpu n j who = joins_made image cpu n j (FineAct.Unseen (Unseen.Rouse who)) Exchange.nothing

-- the own part that comes of it, where the thread sleeps
abbrev pub RousedIs : Bool → Context → Exchange → Type 0
RousedIs true c moved = moved ≡ Exchange.thread c None
RousedIs false c moved = Unit {0}
