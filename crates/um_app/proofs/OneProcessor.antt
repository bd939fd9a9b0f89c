-- A fine run of chosen steps by as many processors as one is: what the laws of one processor say of it.
use Rattle.std.proofs.Common.{◌≡◌, ℕ, List, Option, subst, sym}
use Rattle.um_base.specs.declared.act.Event.{Event}
use Rattle.um_base.specs.declared.image.Image.{Image}
use Rattle.um_core.specs.PickedRun.{IsOver, IsPickedRun}
use Rattle.um_fine.specs.Erasure.{shown}
use Rattle.um_fine.specs.FineRun.{IsFineRun}
use Rattle.um_fine.specs.Steps.{FineStep}
use Rattle.um_invariants.specs.InOrder.{IsInOrder}
use Rattle.um_refinement.specs.Choice.{AreChosen}

module _ (image : Image) (cpus : ℕ) (steps : List FineStep) where
  pub in_order : (run : List Event) → 1 ≡ cpus → IsFineRun image cpus steps → AreChosen image 1 steps → run ≡ shown steps
      → (IsFineRun image 1 steps → AreChosen image 1 steps → IsInOrder image (shown steps)) → IsInOrder image run
  in_order run one fine chosen shows law = subst (IsInOrder image) (sym shows) (law (subst (λ (n : ℕ). IsFineRun image n steps) (sym one) fine) chosen)

  pub picked : (pick : Option ℕ) → 1 ≡ cpus → IsFineRun image cpus steps → AreChosen image 1 steps → IsOver image cpus steps
      → (IsFineRun image 1 steps → AreChosen image 1 steps → IsOver image 1 steps → IsPickedRun image 1 pick steps) → IsPickedRun image cpus pick steps
  picked pick one fine chosen over law =
      subst (λ (n : ℕ). IsPickedRun image n pick steps) one
      (law (subst (λ (n : ℕ). IsFineRun image n steps) (sym one) fine) chosen (subst (λ (n : ℕ). IsOver image n steps) (sym one) over))
