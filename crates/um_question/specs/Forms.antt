-- Forms of lines: words, in which `*` stands for any word.
use Rattle.std.specs.Prelude.{◌≡◌, ◌<◌, ℕ, Bool, true, false, ◌==◌, ◌&&◌, ◌||◌, if◌then◌else◌, List, [], ◌∷◌, length, bytes_eq, codes}

-- a byte put in front of the first of some words
abbrev pub led : ℕ → List (List ℕ) → List (List ℕ)
led b [] = (b ∷ []) ∷ []
led b (word ∷ more) = (b ∷ word) ∷ more

-- the words of a line, between single spaces, up to its newline
unfoldable pub words : List ℕ → List (List ℕ)
words [] = [] ∷ []
words (b ∷ bytes) = if b == 10 then [] ∷ [] else if b == 32 then [] ∷ words bytes else led b (words bytes)

-- whether a word of a form stands for a word
abbrev pub is_word : List ℕ → List ℕ → Bool
is_word form word = bytes_eq form (codes "*") || bytes_eq form word

abbrev pub are_words : List (List ℕ) → List (List ℕ) → Bool
are_words [] [] = true
are_words (form ∷ forms) (word ∷ more) = is_word form word && are_words forms more
are_words _ _ = false

-- whether a line is of a form
abbrev pub fits : List ℕ → List ℕ → Bool
fits form line = are_words (words form) (words line)

-- This is the first word of a line. The words of this rest follow, or no more.
pub record IsFirstWord (line word rest : List ℕ) (more : Bool) : Type 0 where
  pub first : words line ≡ word ∷ (if more then words rest else [])
  pub shorter : more ≡ true → length rest < length line
