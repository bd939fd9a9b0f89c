-- A worked fine run with all that is shown of it.
use Rattle.std.specs.Prelude.{ℕ, Bool, List, map}
use Rattle.um_base.specs.declared.act.Event.{Event}
use Rattle.um_base.specs.declared.image.Image.{Image}
use Rattle.um_fine.specs.Erasure.{shown}
use Rattle.um_worked_runs.specs.Dump.{Dump}
use Rattle.um_worked_runs.specs.Whole.{Whole}
use Rattle.um_worked_runs.specs.Fine.Evaluate.{FineCourse, alone, fine_course, is_still, opening_board}
use Rattle.um_worked_runs.specs.Fine.Brief.{Brief, brief}
use Rattle.um_worked_runs.specs.Fine.Left.{left_dump}

pub record WholeFine : Type 0 where
  pub steps : List Brief
  pub events : List Event  -- those that it shows
  pub is_lawful : Bool  -- each processor could make its step, and its site took it
  pub is_complete : Bool  -- at the end no processor can make another
  pub dump : Dump  -- without priorities

abbrev pub whole_of : (image : Image) → ℕ → FineCourse image → WholeFine
whole_of image cpus ran =
    record {
      steps = map brief ran.made;
      events = shown ran.made;
      is_lawful = ran.is_lawful;
      is_complete = is_still image cpus ran.last;
      dump = left_dump image ran.last;
    }

-- the run of an image in which these processors make a step each, one after another
abbrev pub whole_fine_run : Image → ℕ → List ℕ → WholeFine
whole_fine_run image cpus processors = whole_of image cpus (fine_course image processors (opening_board image cpus))

-- the run of an image in which one processor makes all steps, at most so many
abbrev pub whole_run_alone : Image → ℕ → WholeFine
whole_run_alone image most = whole_of image 1 (alone image most (opening_board image 1))

-- what is seen of it, but for the steps that it doesn't show
abbrev pub seen : WholeFine → Whole
seen w = record { events = w.events; is_lawful = w.is_lawful; is_complete = w.is_complete; dump = w.dump }
