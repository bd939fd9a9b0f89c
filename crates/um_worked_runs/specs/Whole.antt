-- A run with all that is shown of it.
use Rattle.std.specs.Prelude.{Bool, List}
use Rattle.um_base.specs.declared.act.Event.{Event}
use Rattle.um_base.specs.declared.image.Image.{Image}
use Rattle.um_worked_runs.specs.Evaluate.{Choice, is_complete, run_of}
use Rattle.um_worked_runs.specs.Dump.{Dump, dump_of}

pub record Whole : Type 0 where
  pub events : List Event
  pub is_lawful : Bool  -- each choice is offered and may be chosen
  pub is_complete : Bool  -- no step is left
  pub dump : Dump

-- the run of an image by choices
abbrev pub whole_run : Image → List Choice → Whole
whole_run image choices =
    let ran = run_of image choices in
    record { events = ran.events; is_lawful = ran.is_lawful; is_complete = is_complete ran.last; dump = dump_of ran.last }
