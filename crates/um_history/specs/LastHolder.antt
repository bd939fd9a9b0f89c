-- Who has still to clean an object that is gone and that nobody holds, and what the claims of its row are held for.
use Rattle.std.specs.Prelude.{◌≡◌, ◌≢◌, ℕ, ◌<◌, true, false, List, [], ◌∷◌, ◌++◌}
use Rattle.um_base.specs.declared.image.Image.{Image}
use Rattle.um_base.specs.declared.limits.TheConstants.{ROWS}
use Rattle.um_machine.specs.State.{State}
use Rattle.um_words.specs.Rows.{is_cleaning}
use Rattle.um_fine.specs.FineRun.{IsFineRun}
use Rattle.um_fine.specs.Steps.{FineStep, Site}
use Rattle.um_refinement.specs.After.{left_by}
use Rattle.um_refinement.specs.Claims.{claims}
use Rattle.um_refinement.specs.Fine.{row}
use Rattle.um_refinement.specs.Lists.{counted, is_vacate}

-- after a fine run: whether the row x stands in cleaning, and how often the processor k has still to vacate it
abbrev pub InCleaning : Image → ℕ → ℕ → List FineStep → Type 0
InCleaning image cpus x g = is_cleaning (row (left_by image cpus g) x).stage ≡ true

abbrev pub still_vacates : Image → ℕ → ℕ → List FineStep → ℕ → ℕ
still_vacates image cpus x g k = counted (is_vacate x) ((left_by image cpus g).processors k).todo

-- it holds after these steps, and after each one more
abbrev pub Since : (List FineStep → Type 0) → List FineStep → List FineStep → Type 0
Since P done [] = P done
Since P done (e ∷ more) = P done × Since P (done ++ e ∷ []) more

-- This step of the run moved the row to cleaning, where it has been since. Nobody has a claim on it. The processor of that step still has
-- to vacate it, once, and no other processor has to; any step that takes the row out of cleaning is that processor's.
pub record IsCleanedSince (image : Image) (cpus x : ℕ) (before : List FineStep) (e : FineStep) (behind : List FineStep) : Type 0 where
  pub here : e.site ≡ Site.row x
  pub first : is_cleaning (row (left_by image cpus before) x).stage ≡ false
  pub since : Since (InCleaning image cpus x) (before ++ e ∷ []) behind
  pub unclaimed : (row (left_by image cpus (before ++ e ∷ behind)) x).claims ≡ 0
  pub one : e.cpu < cpus
  pub own : still_vacates image cpus x (before ++ e ∷ behind) e.cpu ≡ 1
  pub others : (k : ℕ) → k < cpus → k ≢ e.cpu → still_vacates image cpus x (before ++ e ∷ behind) k ≡ 0
  pub vacates : (v : FineStep) → IsFineRun image cpus ((before ++ e ∷ behind) ++ v ∷ [])
      → is_cleaning (row (left_by image cpus ((before ++ e ∷ behind) ++ v ∷ [])) x).stage ≡ false → v.cpu ≡ e.cpu

-- A row that is in cleaning after a fine run was moved there by a step of that run.
abbrev pub HasLastHolder : Image → ℕ → List FineStep → ℕ → Type 0
HasLastHolder image cpus g x =
    InCleaning image cpus x g
    → (before : List FineStep) × (e : FineStep) × (behind : List FineStep) × (g ≡ before ++ e ∷ behind) × IsCleanedSince image cpus x before e behind

-- The word of each row counts exactly the claims that have still to be ended, given the machine's state after the events that the run has
-- shown: those of the calls of running and of parked threads, of the lives of threads, and of lives that creators are about to begin.
abbrev pub AreHeld : Image → ℕ → List FineStep → State → Type 0
AreHeld image cpus g last = (x : ℕ) → x < ROWS → (row (left_by image cpus g) x).claims ≡ claims (left_by image cpus g) last x
