-- What is known of what a fine run of a described image leaves: the relation to a state of the access-matrix machine, the bounds, and of that state
-- what each has that a run reaches.
use Rattle.std.proofs.Common.{◌≡◌, ◌⊎◌, inl, inr, ℕ, ◌<◌, ◌≤◌, List, [], ◌∷◌, length, refl}
use Rattle.um_base.specs.declared.image.Image.{Image}
use Rattle.um_base.specs.declared.limits.TheConstants.{DOMAINS, STATIC_ROWS}
use Rattle.um_machine.specs.State.{State}
use Rattle.um_invariants.proofs.Opening.{is_opening}
use Rattle.um_invariants.proofs.SitedImages.{is_sited}
use Rattle.um_invariants.specs.Described.{IsDescribed}
use Rattle.um_fine.specs.Erasure.{shown}
use Rattle.um_fine.specs.FineRun.{IsFineRun}
use Rattle.um_fine.specs.Steps.{FineStep}
use Rattle.um_refinement.specs.After.{left_by}
use Rattle.um_refinement.specs.Fine.{Fine}
use Rattle.um_refinement.specs.Relation.{Rel}
use Rattle.um_refinement.specs.Room.{CanCount, CanRun}
use Rattle.um_refinement.proofs.BoundedRuns.{bounded-runs}
use Rattle.um_refinement.proofs.Bounds.{AreBounded}
use Rattle.um_refinement.proofs.CallsProper.{AreProper}
use Rattle.um_refinement.proofs.ChildrenKnown.{children-known}
use Rattle.um_refinement.proofs.DomainsKnown.{started-placed}
use Rattle.um_refinement.proofs.Erased.{IsReachable}
use Rattle.um_refinement.proofs.ErasedRuns.{no-steps, none-or-some}
use Rattle.um_refinement.proofs.MemoryPart.{InDomains}
use Rattle.um_refinement.proofs.Reachable.{IsSound, reachable-sound}
use Rattle.um_refinement.proofs.RoomKnown.{has-room}
use Rattle.um_refinement.proofs.Stuck.{HasRoom}
use Rattle.um_refinement.proofs.SuitsKnown.{proper-known, tells-known}
use Rattle.um_core.proofs.NamedThreads.{AllNamed, named-known}

pub record IsLeft (f : Fine) (m : State) : Type 0 where
  pub rel : Rel f m
  pub bounds : AreBounded f
  pub proper : AreProper m.image m
  pub sound : IsSound m
  pub placed : InDomains f m
  pub named : AllNamed m
  pub domains : length f.image.domains ≤ DOMAINS
  pub objects : length f.image.objects ≤ STATIC_ROWS
  pub room : CanCount f → HasRoom f

pub left-some : (image : Image) (cpus : ℕ) → IsDescribed image → CanRun image cpus → 0 < length image.objects → (done : List FineStep) → IsFineRun image cpus done
    → (m : State) × IsLeft (left_by image cpus done) m
left-some image cpus described can some done run =
    let known = (is_opening image (is_sited image described.lawful described.few some) described.lawful).known in
    let r = bounded-runs image cpus described known done run in
    let m = r.0 in
    let reach : IsReachable image cpus m = (shown done, r.1) in
    let proper = proper-known image cpus described known m reach in
    let sound = reachable-sound image cpus described.few m reach known in (
      m,
      record {
        rel = r.2;
        bounds = r.3;
        proper = proper;
        sound = sound;
        placed = λ t l started. started-placed image cpus described m reach t started;
        named = named-known image cpus described.lawful known m reach;
        domains = can.domains;
        objects = described.few;
        room = λ counts. has-room (left_by image cpus done) m r.2 proper sound r.3 (tells-known image cpus described known m reach) (children-known image cpus m reach) can counts;
      },
    )

-- An image without objects has no step.
pub left-known : (image : Image) (cpus : ℕ) → IsDescribed image → CanRun image cpus → (done : List FineStep) → IsFineRun image cpus done
    → (done ≡ []) ⊎ ((m : State) × IsLeft (left_by image cpus done) m)
left-known image cpus described can = by (none-or-some (length image.objects))
  where
    by : (length image.objects ≡ 0) ⊎ (0 < length image.objects) → (done : List FineStep) → IsFineRun image cpus done → (done ≡ []) ⊎ ((m : State) × IsLeft (left_by image cpus done) m)
    by (inl none) [] run = inl refl
    by (inl none) (e ∷ done) run = absurd (no-steps image cpus described none e done run)
    by (inr some) done run = inr (left-some image cpus described can some done run)
