-- The words of a line: what stands between its spaces.
use Rattle.std.specs.Prelude.{ℕ, ◌+◌, List, [], ◌∷◌, Bool, false, not, ◌==◌, ◌||◌, if◌then◌else◌}
use Rattle.std.specs.List.{take_while}

abbrev pub is_space : ℕ → Bool
is_space b = b == 32

abbrev pub is_word_byte : ℕ → Bool
is_word_byte b = not (is_space b)

-- words in their order, each with its bytes and the column of its first byte, and the column where the line ends
pub data Words : Type 0 where
  ends : ℕ → Words
  word : List ℕ → ℕ → Words → Words

-- the words that begin in these bytes, the first of which stands in this column. A word begins at each byte that is no space and isn't
-- inside of a word, and goes up to the next space.
abbrev pub words_from : Bool → ℕ → List ℕ → Words
words_from inside column [] = ends column
words_from inside column (b ∷ bs) =
    let behind = words_from (is_word_byte b) (column + 1) bs in
    if inside || is_space b then behind else word (take_while is_word_byte (b ∷ bs)) column behind

-- columns are counted from 1
abbrev pub words_of_line : List ℕ → Words
words_of_line line = words_from false 1 line
