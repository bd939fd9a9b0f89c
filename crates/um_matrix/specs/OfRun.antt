-- States to which runs lead.
use Rattle.std.specs.Prelude.{◌≤◌, List, length}
use Rattle.um_base.specs.declared.act.Event.{Event}
use Rattle.um_base.specs.declared.limits.TheConstants.{STATIC_ROWS}
use Rattle.um_base.specs.Lawful.{IsLawful}
use Rattle.um_machine.specs.Run.{IsRun}
use Rattle.um_machine.specs.State.{State}

-- A run of a lawful image, whose objects have a row each, leads to the state.
pub record IsOfRun (s : State) : Type 0 where
  pub lawful : IsLawful s.image
  pub few : length s.image.objects ≤ STATIC_ROWS
  pub events : List Event
  pub run : IsRun s.image events s
