-- The lines of a text that is to be audited.
use Rattle.std.specs.Prelude.{◌≡◌, ℕ, Bool, ◌==◌, if◌then◌else◌, List, [], ◌∷◌, bytes_eq, codes}

-- a byte put in front of the first of some pieces
abbrev pub led : ℕ → List (List ℕ) → List (List ℕ)
led b [] = (b ∷ []) ∷ []
led b (piece ∷ more) = (b ∷ piece) ∷ more

-- The pieces of a text: each goes up to a newline and has that newline; the last one is what stands after the last newline, if anything
-- does.
unfoldable pub pieces : List ℕ → List (List ℕ)
pieces [] = []
pieces (b ∷ bytes) = if b == 10 then (b ∷ []) ∷ pieces bytes else led b (pieces bytes)

-- the line of a piece: without its newline
unfoldable pub line_of : List ℕ → List ℕ
line_of [] = []
line_of (b ∷ bytes) = if b == 10 then [] else b ∷ line_of bytes

-- this is the line of the first piece of a text, and that follows the piece
pub record IsFirstLine (text line behind : List ℕ) : Type 0 where
  pub piece : List ℕ
  pub first : pieces text ≡ piece ∷ pieces behind
  pub is : line ≡ line_of piece

-- whether a piece is the line with which a dump begins
abbrev pub is_dump : List ℕ → Bool
is_dump piece = bytes_eq (line_of piece) (codes "dump")

-- the pieces before the first such line, and those from it on
unfoldable pub before_dump : List (List ℕ) → List (List ℕ)
before_dump [] = []
before_dump (piece ∷ more) = if is_dump piece then [] else piece ∷ before_dump more

unfoldable pub from_dump : List (List ℕ) → List (List ℕ)
from_dump [] = []
from_dump (piece ∷ more) = if is_dump piece then piece ∷ more else from_dump more
