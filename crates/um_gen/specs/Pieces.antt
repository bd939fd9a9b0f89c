-- Pieces of text in which draws are made, from left to right.
use Rattle.std.specs.Prelude.{◌≡◌, ℕ, zero, suc, ◌+◌, ◌*◌, ◌≤◌, List, [], ◌∷◌, ◌++◌, decimal, vec_len, vec_capacity}
use Rattle.rand_pcg.specs.Lcg.{Lcg}
use Rattle.um_gen.specs.Draws.{draw, drawn}
use Rattle.um_gen.specs.declared.writer.Writer.{Writer}

-- the text that a generator makes of it, and the generator behind its draws
abbrev pub Piece : Type 0
Piece = Lcg → List ℕ × Lcg

-- text without a draw
abbrev pub plain : List ℕ → Piece
plain text g = (text, g)

-- a number without a draw
abbrev pub number : ℕ → Piece
number n = plain (decimal n)

-- a drawn number below k
abbrev pub drawn_number : ℕ → Piece
drawn_number k g = (decimal (draw k g), drawn g)

-- where a drawn word of a stack stands
abbrev pub drawn_offset : Piece
drawn_offset g = (decimal (4 * draw 32 g), drawn g)

-- one piece behind the other
unfoldable pub in_turn : List Piece → Piece
in_turn [] g = ([], g)
in_turn (p ∷ []) g = p g
in_turn (p ∷ q ∷ pieces) g = let first = p g in let rest = in_turn (q ∷ pieces) first.1 in (first.0 ++ rest.0, rest.1)

-- a piece for each number below n, in turn
unfoldable pub each : (ℕ → Piece) → ℕ → Piece
each piece zero g = ([], g)
each piece (suc n) g = let before = each piece n g in let last = piece n before.1 in (before.0 ++ last.0, last.1)

-- A piece of at most so many bytes comes behind what stands there, the generator makes its draws, and the room stays reserved.
pub record Writes (old new : Writer) (piece : Piece) (most : ℕ) : Type 0 where
  pub items : new.text.items ≡ old.text.items ++ (piece old.random).0
  pub random : new.random ≡ (piece old.random).1
  pub len : vec_len new.text ≤ vec_len old.text + most
  pub capacity : vec_capacity old.text ≤ vec_capacity new.text
