-- The two parts of an input: a description and a trace, with a line `=====` between them.
use Rattle.std.specs.Prelude.{◌≡◌, ℕ, Bool, if◌then◌else◌, List, [], ◌∷◌, ◌++◌, flat_map, Option, Some, None, bytes_eq, codes}
use Rattle.um_audit.specs.Lines.{pieces, line_of}

-- whether a piece is the line between the two parts
abbrev pub is_between : List ℕ → Bool
is_between piece = bytes_eq (line_of piece) (codes "=====")

-- what stands before the first such line, or all where there is none
unfoldable pub before_line : List (List ℕ) → List ℕ
before_line [] = []
before_line (piece ∷ more) = if is_between piece then [] else piece ++ before_line more

-- what stands after it, where there is one
unfoldable pub behind_line : List (List ℕ) → Option (List ℕ)
behind_line [] = None
behind_line (piece ∷ more) = if is_between piece then Some (flat_map (λ p. p) more) else behind_line more

abbrev pub description_part : List ℕ → List ℕ
description_part input = before_line (pieces input)

abbrev pub trace_part : List ℕ → Option (List ℕ)
trace_part input = behind_line (pieces input)

-- Some prefix of an input has no such line, and this rest follows it.
pub record IsBehind (input rest : List ℕ) : Type 0 where
  pub front : List ℕ
  pub whole : input ≡ front ++ rest
  pub before : description_part input ≡ front ++ description_part rest
  pub behind : trace_part input ≡ trace_part rest
