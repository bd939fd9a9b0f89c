-- In every state that a run of a described image reaches a thread that gets a permission or a name is one whose object stands at a static row,
-- or is held by the call, permissions are passed on to the thread that is started next, and a thread moves to domains of the image.
use Rattle.um_refinement.proofs.Words.{◌≡◌, ℕ, ◌∷◌, length, subst, Image, Pending, Steps, opening, State, thread_at, core_of, IsKnown, IsDescribed}
use Rattle.um_refinement.proofs.CallSteps.{Proper}
use Rattle.um_refinement.proofs.CallsProper.{offered-proper}
use Rattle.um_refinement.proofs.ContentsPart.{NamesHeld}
use Rattle.um_refinement.proofs.EmptiedPart.{GivesHeld}
use Rattle.um_refinement.proofs.Erased.{IsReachable}
use Rattle.um_refinement.proofs.ReplyPart.{MovesIn}
use Rattle.um_refinement.proofs.SuitsKnown.{proper-known}

module _ (image : Image) (cpus : ℕ) (described : IsDescribed image) (known : IsKnown (core_of (opening image))) (m : State) (reach : IsReachable image cpus m) where
  pub names-known : NamesHeld m
  names-known t who rest offers = (offered-proper m t 0 (proper-known image cpus described known m reach t) (Pending.Named who) rest offers).0.0

  pub gives-known : GivesHeld m
  gives-known =
      record {
        grants = λ t who a rest offers. (offered-proper m t 0 (proper-known image cpus described known m reach t) (Pending.Grant who a) rest offers).0.0;
        passes = λ t who rest at. (subst (Proper m.image (thread_at m t).checked) at (proper-known image cpus described known m reach t).0).0;
      }

  -- a thread moves to domains of the image
  pub moves-known : MovesIn m (length m.image.domains)
  moves-known =
      let proper : (t : ℕ) (steps : Steps) → (thread_at m t).pending ≡ steps → Proper m.image (thread_at m t).checked steps =
      λ t steps at. subst (Proper m.image (thread_at m t).checked) at (proper-known image cpus described known m reach t).0 in
      record {
        next = λ t d who rest at. (proper t (Pending.DomMove d who ∷ rest) at).0;
        passed = λ t d u who rest at. absurd (proper t (Pending.Inherit u ∷ Pending.DomMove d who ∷ rest) at).0;
        dropped = λ t d from who rest at. (proper t (Pending.Drops from ∷ Pending.DomMove d who ∷ rest) at).0;
      }
