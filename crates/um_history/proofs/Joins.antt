-- Lists under names, when those of another seat are put after them.
use Rattle.std.proofs.Common.{ℕ, List, [], ◌∷◌, ◌++◌, ◌⊎◌, inl, inr, ⊎_elim}
use Rattle.um_words.specs.declared.made.Made.{Made}
use Rattle.um_site.specs.History.{Among}
use Rattle.um_history.specs.Played.{StandsUnder}

pub among-parts : (xs ys : List (List ℕ × List Made)) (n : List ℕ) → Among (xs ++ ys) n → Among xs n ⊎ Among ys n
among-parts [] ys n among = inr among
among-parts (x ∷ xs) ys n (inl is) = inl (inl is)
among-parts (x ∷ xs) ys n (inr rest) = ⊎_elim (λ a. inl (inr a)) (λ b. inr b) (among-parts xs ys n rest)

pub stands-before : (xs ys : List (List ℕ × List Made)) (n : List ℕ) (made : List Made) → StandsUnder xs n made → StandsUnder (xs ++ ys) n made
stands-before [] ys n made stands = absurd stands
stands-before (x ∷ xs) ys n made (inl is) = inl is
stands-before (x ∷ xs) ys n made (inr rest) = inr (stands-before xs ys n made rest)

pub stands-behind : (xs ys : List (List ℕ × List Made)) (n : List ℕ) (made : List Made) → StandsUnder ys n made → StandsUnder (xs ++ ys) n made
stands-behind [] ys n made stands = stands
stands-behind (x ∷ xs) ys n made stands = inr (stands-behind xs ys n made stands)
