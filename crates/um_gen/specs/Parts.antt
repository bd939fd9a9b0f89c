-- What the parts of the text of a numbered thing are.
use Rattle.std.specs.Prelude.{ℕ, ◌<◌, ⊤, List, length, map}
use Rattle.um_gen.specs.Description.{grants}
use Rattle.um_gen.specs.Pieces.{Piece, plain, number, drawn_number, drawn_offset, in_turn}
use Rattle.um_gen.specs.declared.parts.Part.{Part}

abbrev pub part_piece : ℕ → Part → Piece
part_piece n (Part.Words words) = plain words.now
part_piece n Part.Number = number n
part_piece n (Part.Drawn below) = drawn_number below
part_piece n Part.Offset = drawn_offset
part_piece n Part.Grants = grants

-- one part behind the other
abbrev pub parts_piece : List Part → ℕ → Piece
parts_piece parts n = in_turn (map (part_piece n) parts)

-- how many bytes a part takes at most
abbrev pub part_room : Part → ℕ
part_room (Part.Words words) = length words.now
part_room Part.Grants = 36
part_room part = 10

-- a number can be drawn only below another
abbrev pub is_drawable : Part → Type 0
is_drawable (Part.Drawn below) = 0 < below
is_drawable part = ⊤
