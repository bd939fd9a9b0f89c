-- The history of a board: each step with the name of the seat that made it.
use Rattle.std.specs.Prelude.{◌≡◌, ℕ, ◌+◌, ◌-◌, ◌%◌, ◌<◌, ◌≤◌, eqb, Bool, nat_lt, if◌then◌else◌, List, [], ◌∷◌, map, length, slice_index}
use Rattle.um_words.specs.Sublists.{RunsBy, sub, same_name}
use Rattle.um_words.specs.Steps.{WordMay, number}
use Rattle.um_words.specs.declared.made.Made.{Made}

-- a step with the name of the seat that made it
abbrev pub Entry : Type 0
Entry = List ℕ × Made

abbrev pub made_of : Entry → Made
made_of e = e.1

abbrev pub is_by : List ℕ → Entry → Bool
is_by n e = same_name e.0 n

abbrev pub is_at : ℕ → Entry → Bool
is_at i e = eqb e.1.site i

abbrev pub by_seat : List ℕ → List Entry → List Made
by_seat n h = map made_of (sub (is_by n) h)

abbrev pub by_site : ℕ → List Entry → List Made
by_site i h = map made_of (sub (is_at i) h)

-- a site's word without the turn of a cell, which no step counts
abbrev pub bare : ℕ → ℕ → ℕ
bare site w = if nat_lt site 168 then w else w - w % 2

-- the word goes from w by these steps, each lawful, to z
abbrev pub Words : ℕ → ℕ → List Made → ℕ → Type 0
Words i w [] z = w ≡ z
Words i w (m ∷ ms) z = (WordMay i w m.act m.word) × Words i m.word ms z

-- the step numbers of a site's steps go on from n without a gap
abbrev pub Numbers : ℕ → ℕ → List Made → Type 0
Numbers i n [] = Unit {0}
Numbers i n (m ∷ ms) = (number i m.word ≡ n + 1) × Numbers i (n + 1) ms

-- The history of a board from these opening words, said of its sublists alone. Each site's steps are lawful, lead from its opening word to
-- the word that stands, a cell's turn aside, and are numbered from 1 without a gap. Each seat's steps may follow one another.
pub record IsHistory (goes : List ℕ → List Made → Made → Type 0) (opening words : List ℕ) (h : List Entry) : Type 0 where
  pub wide : length words ≡ length opening
  pub opened : (i : ℕ) → i < length opening → number i (slice_index opening i) ≡ 0
  pub inside : (i : ℕ) → length words ≤ i → by_site i h ≡ []
  pub sites : (i : ℕ) → i < length words → Words i (slice_index opening i) (by_site i h) (bare i (slice_index words i))
  pub numbers : (i : ℕ) → i < length words → Numbers i 0 (by_site i h)
  pub seats : (n : List ℕ) → RunsBy (goes n) [] (by_seat n h)
