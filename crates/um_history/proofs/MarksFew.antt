-- The clock has no more marks than the image's weight: each was armed by an event of the machine's run.
use Rattle.std.proofs.Common.{◌≡◌, ℕ, suc, ◌≤◌, List, [], ◌∷◌, length, refl, sym, ap, ◌∙◌, subst}
use Rattle.um_base.specs.Weight.{weight}
use Rattle.um_base.specs.declared.act.Event.{Event}
use Rattle.um_base.specs.declared.image.Image.{Image}
use Rattle.um_machine.specs.Run.{Runs, opening}
use Rattle.um_machine.specs.State.{State}
use Rattle.um_fine.specs.Clock.{Marked, deadlines}
use Rattle.um_fine.specs.Erasure.{shown}
use Rattle.um_fine.specs.FineRun.{IsFineRun}
use Rattle.um_fine.specs.Steps.{FineStep}
use Rattle.um_refinement.specs.After.{left_by}
use Rattle.um_refinement.specs.Fine.{clock}
use Rattle.um_refinement.specs.Relation.{Rel}

deadlines-long : (marks : List Marked) → length marks ≡ length (deadlines marks)
deadlines-long [] = refl
deadlines-long (m ∷ marks) = ap suc (deadlines-long marks)

module _ (image : Image) (cpus : ℕ)
    (runs : (g : List FineStep) → IsFineRun image cpus g → (last : State) × Runs (opening image) (shown g) last × Rel (left_by image cpus g) last)
    (armed : (events : List Event) (s : State) → Runs (opening image) events s → length s.armed ≤ weight image) where
  pub marks-few : (g : List FineStep) → IsFineRun image cpus g → length (clock (left_by image cpus g)).marks ≤ weight image
  marks-few g run =
      let (last, is, rel) = runs g run in
      let same : length last.armed ≡ length (clock (left_by image cpus g)).marks = sym (deadlines-long (clock (left_by image cpus g)).marks ∙ ap length rel.clock.armed) in
      subst (λ (n : ℕ). n ≤ weight image) same (armed (shown g) last is)
