-- What lists of events are to the access-matrix machine.
use Rattle.std.specs.Prelude.{List}
use Rattle.um_base.specs.declared.act.Event.{Event}
use Rattle.um_base.specs.declared.image.Image.{Image}
use Rattle.um_machine.specs.Run.{IsComplete, Runs, opening}
use Rattle.um_machine.specs.State.{State}

-- the events are a run from the image's opening
abbrev pub AreRun : Image → List Event → Type 0
AreRun image events = (last : State) × Runs (opening image) events last

-- and no event is a step after it
abbrev pub AreCompleteRun : Image → List Event → Type 0
AreCompleteRun image events = (last : State) × Runs (opening image) events last × IsComplete last
