-- Short words for the parts of images, events and choices.
use Rattle.std.specs.Prelude.{ℕ}
use Rattle.um_base.specs.declared.attr.Attr.{Attr}
use Rattle.um_base.specs.declared.names.Addr.{Addr}
use Rattle.um_base.specs.declared.names.Range.{Range}
use Rattle.um_base.specs.declared.names.Row.{Row}
use Rattle.um_base.specs.declared.names.ThreadIx.{ThreadIx}
use Rattle.um_base.specs.declared.act.Act.{Act}
use Rattle.um_base.specs.declared.act.Event.{Event}
use Rattle.um_worked_runs.specs.Evaluate.{Choice, Way, goes}

abbrev pub at : ℕ → Addr
at a = record { 0 = a }

abbrev pub thread : ℕ → ThreadIx
thread t = record { 0 = t }

abbrev pub row : ℕ → Row
row x = record { 0 = x }

abbrev pub range : ℕ → ℕ → Range
range start size = record { start = at start; size = size }

abbrev pub rights : ℕ → Attr
rights bits = record { 0 = bits }

-- a thread makes an act
abbrev pub by : ℕ → Act → Event
by t act = record { thread = thread t; act = act }

-- a thread makes the next step of its instruction
abbrev pub on : ℕ → Choice
on t = record { thread = t; row = 0; way = goes }

-- a thread makes a step with a row, by a way
abbrev pub choose : ℕ → ℕ → Way → Choice
choose t x way = record { thread = t; row = x; way = way }
