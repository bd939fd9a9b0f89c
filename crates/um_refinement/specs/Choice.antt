-- What a processor without a thread does: it takes the first thread that is ready; where none is, a mark that is due; where none is due either and
-- no thread runs, it lets time go on. A fine run doesn't ask for that: an order of processors does, and so does a processor on a board.
use Rattle.std.specs.Prelude.{◌≡◌, ℕ, true, List, [], ◌∷◌, ◌++◌, None}
use Rattle.um_base.specs.declared.image.Image.{Image}
use Rattle.um_fine.specs.Answers.{is_due_act, is_tick}
use Rattle.um_fine.specs.Clock.{first_due}
use Rattle.um_fine.specs.FineRun.{ByOneOf}
use Rattle.um_fine.specs.Sites.{SiteMay}
use Rattle.um_fine.specs.Steps.{FineStep}
use Rattle.um_refinement.specs.After.{left_by}
use Rattle.um_refinement.specs.Fine.{Fine, clock, scheduler}

pub record IsChosen (f : Fine) (e : FineStep) : Type 0 where
  pub due : is_due_act e.act ≡ true → (scheduler f).ready ≡ []
  pub tick : is_tick e.act ≡ true → ((scheduler f).ready ≡ []) × (first_due (clock f).now (clock f).marks ≡ None) × ((scheduler f).running ≡ 0)

-- No processor has a lawful step that is chosen.
abbrev pub NoneChosen : Fine → Type 0
NoneChosen f = (e : FineStep) → ByOneOf f.image f.cpus (f.processors e.cpu) e → SiteMay f.image (f.sites e.site) e → IsChosen f e → ⊥

-- Each of these steps is chosen where it is made, behind others.
abbrev pub AreChosenBehind : Image → ℕ → List FineStep → List FineStep → Type 0
AreChosenBehind image cpus done [] = Unit {0}
AreChosenBehind image cpus done (e ∷ steps) = IsChosen (left_by image cpus done) e × AreChosenBehind image cpus (done ++ e ∷ []) steps

-- Each step of a fine run is chosen.
abbrev pub AreChosen : Image → ℕ → List FineStep → Type 0
AreChosen image cpus steps = AreChosenBehind image cpus [] steps

-- Quiet, as one look at the scheduler's word shows it: nothing is ready, runs or is owed. Then no processor has a step left.
pub record IsQuiet (f : Fine) : Type 0 where
  pub ready : (scheduler f).ready ≡ []
  pub running : (scheduler f).running ≡ 0
  pub owed : (scheduler f).owed ≡ 0
