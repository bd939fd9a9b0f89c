-- The events of a fine run of a described image by at most eight processors are a complete run of the access-matrix machine where no processor can
-- make another step, though each site can still count one.
use Rattle.um_refinement.proofs.Words.{◌≡◌, ◌⊎◌, inl, inr, ℕ, ◌<◌, List, [], ◌∷◌, length, map, refl, ap, ◌∙◌, Boot, Image, IsComplete, Runs, opening, State, is_opening, is_sited, IsDescribed, shown, IsFineRun, boot_index, FineStep, left_by, CanCount, CanRun, IsStuck, occurs}
use Rattle.um_refinement.proofs.BoundedRuns.{bounded-runs}
use Rattle.um_refinement.proofs.ChildrenKnown.{children-known}
use Rattle.um_refinement.proofs.ErasedRuns.{no-boots, no-steps, none-or-some}
use Rattle.um_refinement.proofs.First.{first}
use Rattle.um_refinement.proofs.FirstLawful.{opens-described}
use Rattle.um_refinement.proofs.FirstObjects.{opening-image}
use Rattle.um_refinement.proofs.IdleComplete.{idle-complete}
use Rattle.um_refinement.proofs.Reachable.{opening-wide}
use Rattle.um_refinement.proofs.StuckComplete.{stuck-complete}

-- Without an object there is no thread, and no step.
none-complete : (image : Image) (cpus : ℕ) → IsDescribed image → length image.objects ≡ 0 → IsComplete (opening image)
none-complete image cpus described none =
    let boots = ap (λ (i : Image). i.boots) (opening-image image) ∙ no-boots image image.boots described.lawful.boots none in
    idle-complete (first image cpus) (opening image) (opens-described image described cpus)
    (record { lists = λ k l. refl; ready = λ t l. ap (λ (bs : List Boot). occurs t (map (boot_index (opening image)) bs)) boots; due = refl; next = refl })
    (opening-wide image described.few) (children-known image cpus (opening image) ([], refl))

pub complete-runs : (image : Image) (cpus : ℕ) → IsDescribed image → CanRun image cpus → (h : List FineStep) → IsFineRun image cpus h
    → CanCount (left_by image cpus h) → IsStuck (left_by image cpus h) → (m : State) × Runs (opening image) (shown h) m × IsComplete m
complete-runs image cpus described can = by (none-or-some (length image.objects))
  where
    by : (length image.objects ≡ 0) ⊎ (0 < length image.objects) → (h : List FineStep) → IsFineRun image cpus h → CanCount (left_by image cpus h) → IsStuck (left_by image cpus h)
        → (m : State) × Runs (opening image) (shown h) m × IsComplete m
    by (inl none) [] run counts stuck = (opening image, refl, none-complete image cpus described none)
    by (inl none) (e ∷ h) run counts stuck = absurd (no-steps image cpus described none e h run)
    by (inr some) h run counts stuck =
        let known = (is_opening image (is_sited image described.lawful described.few some) described.lawful).known in
        let r = bounded-runs image cpus described known h run in
        (r.0, r.1, stuck-complete image cpus described known can _ _ r.0 r.2 (shown h, r.1) r.3 counts stuck)
