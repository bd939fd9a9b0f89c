-- Looks for a thread that waits, in the cell of an object, of memory or of the joins: the steps as they are made at a cell with these
-- contents and this step number.
use Rattle.std.specs.Prelude.{ℕ, Bool, true, false, ◌&&◌, ◌||◌, ◌==◌, nat_le, nat_lt, List, Some}
use Rattle.um_base.specs.declared.act.Act.{Act}
use Rattle.um_base.specs.declared.ask.Waiter.{Waiter}
use Rattle.um_base.specs.declared.image.Image.{Image}
use Rattle.um_base.specs.declared.names.ThreadIx.{ThreadIx}
use Rattle.um_machine.specs.Services.{without}
use Rattle.um_words.specs.declared.fine.FineAct.{FineAct}
use Rattle.um_words.specs.declared.fine.Mark.{Mark}
use Rattle.um_words.specs.declared.fine.More.{More}
use Rattle.um_fine.specs.Cells.{Cell}
use Rattle.um_fine.specs.Joins.{Joins}
use Rattle.um_fine.specs.Memory.{Bytes}
use Rattle.um_fine.specs.Objects.{ObjectCell}
use Rattle.um_fine.specs.Steps.{Exchange, FineStep, Site}
use Rattle.um_tables.specs.Asked.{cell_made, shown}
use Rattle.um_tables.specs.declared.look.Look.{Look}
use Rattle.um_tables.specs.declared.look.Waiting.{Waiting}

-- what a cell keeps in which threads wait
abbrev pub KeptIn : Waiting → Type 0
KeptIn (Waiting.Object x) = ObjectCell
KeptIn Waiting.Memory = Bytes
KeptIn Waiting.Joins = Joins

abbrev pub site_in : Waiting → Site
site_in (Waiting.Object x) = Site.object x.0
site_in Waiting.Memory = Site.memory
site_in Waiting.Joins = Site.joins

abbrev pub cell_in : (w : Waiting) → KeptIn w → Cell
cell_in (Waiting.Object x) o = Cell.object o
cell_in Waiting.Memory m = Cell.memory m
cell_in Waiting.Joins j = Cell.joins j

-- whether threads wait at the site of this number: sites past the last one are the joins
abbrev pub is_waited_at : ℕ → Bool
is_waited_at n = (nat_le 168 n && nat_lt n 296) || (n == 304) || nat_le 308 n

-- the act without the answer of the cell, and what goes with it
abbrev pub look_act : Look → FineAct
look_act (Look.Aborted t who before) = shown t (Act.Cut who) More.Nothing
look_act (Look.Late t who deadline site) = shown t (Act.TimedOut who) More.Nothing

abbrev pub look_sent : Look → Exchange
look_sent (Look.Aborted t who before) = Exchange.sought who (Some before)
look_sent (Look.Late t who deadline site) = Exchange.mark deadline (Mark.Thread who site)

abbrev pub looked_in : Image → ℕ → (w : Waiting) → ℕ → KeptIn w → Look → FineStep
looked_in image cpu w n kept look = cell_made image cpu (site_in w) n (cell_in w kept) (look_act look) (look_sent look)

-- who is looked for, and who waits then
abbrev pub sought_by : Look → ThreadIx
sought_by (Look.Aborted t who before) = who
sought_by (Look.Late t who deadline site) = who

abbrev pub left_by : Bool → Look → List Waiter → List Waiter
left_by true look ws = without (sought_by look).0 ws
left_by false look ws = ws
