-- How far the lines of a text have been followed.
use Rattle.std.specs.Prelude.{◌≡◌, ℕ, ◌+◌, ◌≤◌, Bool, true, false, not, List, [], ◌∷◌, ◌++◌, length}
use Rattle.std.specs.List.{list_all}
use Rattle.um_base.specs.declared.image.Image.{Image}
use Rattle.um_machine.specs.State.{State}
use Rattle.um_machine.specs.Run.{opening}
use Rattle.um_audit.specs.declared.auditing.Stop.{Stop}
use Rattle.um_audit.specs.Lines.{pieces, line_of, is_dump}
use Rattle.um_audit.specs.Steps.{IsNoStepLine, AreStepLines}

abbrev pub is_events : List ℕ → Bool
is_events piece = not (is_dump piece)

-- The first lines of a text, this many and none of them `dump`, are those of steps that lead to s, and the rest of the text follows.
pub record IsAt (image : Image) (text rest : List ℕ) (lines : ℕ) (s : State) : Type 0 where
  pub done : List (List ℕ)
  pub whole : pieces text ≡ done ++ pieces rest
  pub events : list_all is_events done ≡ true
  pub count : length done ≡ lines
  pub short : lines + length rest ≤ length text
  pub led : AreStepLines image (opening image) done s

-- the rest of a text begins with a line that is no step, or is nothing
pub data IsStuck (image : Image) (rest : List ℕ) (s : State) : Type 0 where
  nothing : pieces rest ≡ [] → IsStuck image rest s
  refused : {piece : List ℕ} {more : List (List ℕ)} → pieces rest ≡ piece ∷ more → is_dump piece ≡ false → IsNoStepLine image (line_of piece) s → IsStuck image rest s

-- the rest begins with a line `dump`
abbrev pub BeginsDump : List ℕ → Type 0
BeginsDump rest = (piece : List ℕ) × (more : List (List ℕ)) × (pieces rest ≡ piece ∷ more) × (is_dump piece ≡ true)

abbrev pub Stopped : Image → List ℕ → Stop → State → Type 0
Stopped image text (Stop.NoStep lines) s = (rest : List ℕ) × IsAt image text rest lines s × IsStuck image rest s
Stopped image text (Stop.Dump lines rest) s = IsAt image text rest.now lines s × BeginsDump rest.now
