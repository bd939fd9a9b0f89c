-- What the bytes of a text tell.
use Rattle.std.specs.Prelude.{◌≡◌, List}
use Rattle.um_base.specs.declared.act.Event.{Event}
use Rattle.um_base.specs.declared.image.Image.{Image}
use Rattle.um_machine.specs.State.{State}
use Rattle.um_machine.specs.Run.{IsRun}
use Rattle.um_trace.specs.Text.{text}

-- A text names its run: runs of one image with the same text are the same events.
abbrev pub NamesItsRun : Image → Type 0
NamesItsRun image =
    (events others : List Event) (last other : State) → IsRun image events last → IsRun image others other → text image events last ≡ text image others other
    → events ≡ others
