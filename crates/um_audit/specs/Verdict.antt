-- What is said of a text: whether it is that of a complete run of an image, and else where it isn't.
use Rattle.std.specs.Prelude.{◌≡◌, ◌≢◌, ℕ, ◌+◌, List, [], length, take, Some, slice_get}
use Rattle.um_base.specs.declared.act.Event.{Event}
use Rattle.um_base.specs.declared.image.Image.{Image}
use Rattle.um_machine.specs.State.{State}
use Rattle.um_machine.specs.Run.{IsRun, IsComplete, opening}
use Rattle.um_trace.specs.Dump.{dump}
use Rattle.um_trace.specs.Text.{text}
use Rattle.um_audit.specs.declared.verdict.Verdict.{Verdict}
use Rattle.um_audit.specs.Lines.{pieces, line_of, before_dump, from_dump}
use Rattle.um_audit.specs.Steps.{IsNoStepLine, AreStepLines}

-- the lines of a text before its first line `dump`, and those from there on
abbrev pub event_pieces : List ℕ → List (List ℕ)
event_pieces bytes = before_dump (pieces bytes)

abbrev pub dump_pieces : List ℕ → List (List ℕ)
dump_pieces bytes = from_dump (pieces bytes)

-- all lines before `dump` are those of steps, and lead to s
abbrev pub LeadsTo : Image → List ℕ → State → Type 0
LeadsTo image bytes s = AreStepLines image (opening image) (event_pieces bytes) s

-- The lines with the first k numbers are steps that lead to s, and the next one is none, or is missing where there is no line `dump`.
pub data StopsAt (image : Image) (bytes : List ℕ) (k : ℕ) (s : State) : Type 0 where
  no_step : {piece : List ℕ} → slice_get (event_pieces bytes) k ≡ Some piece → IsNoStepLine image (line_of piece) s → StopsAt image bytes k s
  no_line : k ≡ length (event_pieces bytes) → dump_pieces bytes ≡ [] → StopsAt image bytes k s

-- the first place at which two lists differ: one has another element there, or none
abbrev pub DiffersAt : List (List ℕ) → List (List ℕ) → ℕ → Type 0
DiffersAt xs ys j = (take j xs ≡ take j ys) × (slice_get xs j ≢ slice_get ys j)

-- The verdict on a text. Lines are numbered from 1.
abbrev pub IsVerdict : Image → List ℕ → Verdict → Type 0
IsVerdict image bytes Verdict.Yes = (s : State) × LeadsTo image bytes s × IsComplete s × (dump_pieces bytes ≡ pieces (dump image s))
IsVerdict image bytes (Verdict.NoStep line) =
    (k : ℕ) × (s : State) × (line ≡ k + 1) × AreStepLines image (opening image) (take k (event_pieces bytes)) s × StopsAt image bytes k s
IsVerdict image bytes Verdict.NotComplete = (s : State) × LeadsTo image bytes s × (dump_pieces bytes ≢ []) × (IsComplete s → ⊥)
IsVerdict image bytes (Verdict.NoDump line) =
    (j : ℕ) × (s : State) × (line ≡ length (event_pieces bytes) + j + 1) × LeadsTo image bytes s × (dump_pieces bytes ≢ []) × IsComplete s
    × DiffersAt (dump_pieces bytes) (pieces (dump image s)) j

-- the text is that of a complete run of the image
abbrev pub IsTextOfRun : Image → List ℕ → Type 0
IsTextOfRun image bytes = (events : List Event) × (last : State) × IsRun image events last × IsComplete last × (bytes ≡ text image events last)
