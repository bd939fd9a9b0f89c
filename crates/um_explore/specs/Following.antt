-- How the lines of a text are followed, one step after another.
use Rattle.std.specs.Prelude.{◌≡◌, ◌≢◌, ℕ, ◌<◌, ◌≤◌, List, [], ◌++◌, drop, length, Option, Some, None}
use Rattle.um_base.specs.declared.act.Event.{Event}
use Rattle.um_base.specs.declared.image.Image.{Image}
use Rattle.um_machine.specs.Run.{Step}
use Rattle.um_machine.specs.State.{State}
use Rattle.um_trace.specs.Acts.{event_line}
use Rattle.um_explore.specs.Questions.{AreLines, IsFollowed, IsNoLine}
use Rattle.um_explore.specs.Steps.{Has}

-- one line of a text is followed, if it is that of a step: so many bytes of the rest are that line
abbrev pub FollowsLine : Image → List ℕ → State → State → Option ℕ → Type 0
FollowsLine image rest s s2 None = IsNoLine image rest s × (s2 ≡ s)
FollowsLine image rest s s2 (Some n) = (event : Event) × Step s event s2 × (rest ≡ event_line image event ++ drop n rest) × (0 < n) × (n ≤ length rest)

-- which of some events has the line that comes first in a text: that line stands in a room
abbrev pub IsFirstOf : Image → List Event → List ℕ → List ℕ → Option Event → Type 0
IsFirstOf image events rest room None = (event : Event) (more : List ℕ) → Has events event → rest ≡ event_line image event ++ more → ⊥
IsFirstOf image events rest room (Some event) = (more : List ℕ) × Has events event × (room ≡ event_line image event) × (rest ≡ event_line image event ++ more)

-- all lines of a text were followed, or only so many
abbrev pub Followed : Image → List ℕ → State → Option ℕ → Type 0
Followed image bytes s None = AreLines image bytes s
Followed image bytes s (Some count) = (rest : List ℕ) × IsFollowed image bytes rest count s × (rest ≢ []) × IsNoLine image rest s
