-- The steps of a board's history as fine steps: each by the processor whose seat has it.
use Rattle.std.proofs.Common.{◌≡◌, ℕ, zero, suc, List, [], ◌∷◌, refl, map}
use Rattle.um_words.specs.History.{Entry}
use Rattle.um_fine.specs.Steps.{FineStep}
use Rattle.um_board.specs.NextSteps.{seat_name}
use Rattle.um_board.specs.Noted.{made_of}
use Rattle.um_board.specs.ReadBack.{IsReadBack, fine_at}
use Rattle.um_board.proofs.NextRuns.{read-back}
use Rattle.um_history.specs.Played.{Each}

abbrev pub name_cpu : List ℕ → ℕ
name_cpu [] = 0
name_cpu (k ∷ rest) = suc k

pub name-back : (k : ℕ) → name_cpu (seat_name k) ≡ k
name-back zero = refl
name-back (suc k) = refl

abbrev pub fine_of : Entry → FineStep
fine_of e = fine_at (name_cpu e.0) e.1

-- steps that can be read back are those that stand in the list
pub listed : (k : ℕ) (steps : List FineStep) → Each (λ (s : FineStep). (s.cpu ≡ k) × IsReadBack s) steps → map (fine_at k) (map made_of steps) ≡ steps
listed k [] whole = refl
listed k (s ∷ steps) whole = λ i. read-back k s whole.0.0 whole.0.1 i ∷ listed k steps whole.1 i
