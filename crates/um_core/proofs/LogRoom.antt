-- A log with room for the longest fine run is never full before a step that may follow.
use Rattle.std.proofs.Common.{ℕ, suc, ◌≤◌, List, [], ◌∷◌, ◌++◌, length, arith}
use Rattle.std.proofs.lemmas.List.{length-append}
use Rattle.um_base.specs.declared.image.Image.{Image}
use Rattle.um_words.specs.declared.fine.FineAct.{FineAct}
use Rattle.um_fine.specs.Erasure.{shown, shown_by}
use Rattle.um_fine.specs.FineRun.{IsFineRun}
use Rattle.um_fine.specs.Steps.{FineStep}
use Rattle.um_core.specs.PickedRun.{IsOver}
use Rattle.um_core.proofs.OneRun.{fine-more}

-- each step shows one event at most
pub shown-few : (done : List FineStep) → length (shown done) ≤ length done
shown-few [] = omega arith
shown-few (e ∷ done) = by e.act (shown-few done)
  where
    by : (act : FineAct) → length (shown done) ≤ length done → length (shown_by act (shown done)) ≤ suc (length done)
    by (FineAct.Shown event more) few = omega (arith, few)
    by (FineAct.Unseen unseen) few = omega (arith, few)

pub full-none : (image : Image) (cpus most : ℕ) → ((h : List FineStep) → IsFineRun image cpus h → length h ≤ most) → (done : List FineStep) → IsFineRun image cpus done
    → most ≤ length (shown done) → IsOver image cpus done
full-none image cpus most longest done run full e follows =
    let more = longest (done ++ e ∷ []) (fine-more image cpus done e run follows) in
    let count = length-append done (e ∷ []) in
    let few = shown-few done in
    omega (arith, more, count, few, full)
