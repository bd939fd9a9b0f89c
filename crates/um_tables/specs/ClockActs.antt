-- What a processor asks of the clock's cell: the steps as they are made at a cell with these contents and this step number.
use Rattle.std.specs.Prelude.{ℕ}
use Rattle.um_base.specs.declared.act.Act.{Act}
use Rattle.um_base.specs.declared.image.Image.{Image}
use Rattle.um_base.specs.declared.names.ThreadIx.{ThreadIx}
use Rattle.um_words.specs.declared.fine.FineAct.{FineAct}
use Rattle.um_words.specs.declared.fine.Mark.{Mark}
use Rattle.um_words.specs.declared.fine.More.{More}
use Rattle.um_words.specs.declared.fine.Unseen.{Unseen}
use Rattle.um_fine.specs.Cells.{Cell}
use Rattle.um_fine.specs.Clock.{Clock}
use Rattle.um_fine.specs.Steps.{Exchange, FineStep, Site}
use Rattle.um_tables.specs.Asked.{cell_made, shown}

abbrev pub clock_made : Image → ℕ → ℕ → Clock → FineAct → Exchange → FineStep
clock_made image cpu n c act moved = cell_made image cpu Site.clock n (Cell.clock c) act moved

abbrev pub arm_act : ThreadIx → FineAct
arm_act t = shown t (Act.Arm 0) More.Nothing

abbrev pub tick_act : ThreadIx → FineAct
tick_act t = shown t (Act.Tick 0) More.Nothing

-- a thread arms a deadline, so many ticks from now
abbrev pub armed_made : Image → ℕ → ℕ → Clock → ThreadIx → ℕ → Mark → FineStep
armed_made image cpu n c t ticks mark = clock_made image cpu n c (arm_act t) (Exchange.armed ticks mark)

-- a mark is settled
abbrev pub settled_made : Image → ℕ → ℕ → Clock → ℕ → Mark → FineStep
settled_made image cpu n c deadline mark = clock_made image cpu n c (FineAct.Unseen Unseen.Settle) (Exchange.mark deadline mark)

-- the first mark that is due is given
abbrev pub given_made : Image → ℕ → ℕ → Clock → FineStep
given_made image cpu n c = clock_made image cpu n c (FineAct.Unseen Unseen.Due) Exchange.nothing

-- time goes on to the next deadline, by a thread
abbrev pub ticked_made : Image → ℕ → ℕ → Clock → ThreadIx → FineStep
ticked_made image cpu n c t = clock_made image cpu n c (tick_act t) Exchange.nothing
