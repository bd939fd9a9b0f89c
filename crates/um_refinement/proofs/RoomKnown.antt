-- Words and lists of what a fine run of a described image leaves have room for the next step, where words can count it; and each event that is next
-- is one that its site takes, but for a move of a thread that is held.
use Rattle.um_refinement.proofs.Words.{◌≡◌, ℕ, ◌<◌, false, ◌∷◌, length, refl, sym, subst, Pending, Steps, State, Context, Todo, Todos, Fine, Fits, IsOffered, Rel, CanCount, CanRun, true≢false, ◌∙◌}
use Rattle.um_refinement.proofs.Bounds.{AreBounded}
use Rattle.um_refinement.proofs.CallBounds.{Bounded}
use Rattle.um_refinement.proofs.CallsProper.{AreProper}
use Rattle.um_refinement.proofs.ChildrenKnown.{AllCreate}
use Rattle.um_refinement.proofs.ClaimRoom.{claim-room, reader-room}
use Rattle.um_refinement.proofs.CleanRoom.{clean-room}
use Rattle.um_refinement.proofs.ClearsKnown.{clears-stand}
use Rattle.um_refinement.proofs.Reachable.{IsSound}
use Rattle.um_refinement.proofs.Offered.{runs-first}
use Rattle.um_refinement.proofs.ReadyRoom.{ready-room}
use Rattle.um_refinement.proofs.ResumeSteps.{TellsWaiters}
use Rattle.um_refinement.proofs.StepsLeft.{is_first, offered-left}
use Rattle.um_refinement.proofs.Stuck.{HasRoom}
use Rattle.um_refinement.proofs.StuckEvents.{EventsStand}

module _ (f : Fine) (m : State) (rel : Rel f m) (proper : AreProper m.image m) (sound : IsSound m) (bounds : AreBounded f) where
  -- the steps that are left behind one that is next
  offered-bounded : (c : Context) (q : Pending) (rest : Steps) → Bounded f.image (length c.claims) c.pending → IsOffered f.image c q rest → is_first q ≡ false → Bounded f.image (length c.claims) (q ∷ rest)
  offered-bounded c q rest h offered other =
      offered-left f.image c (Bounded f.image (length c.claims)) (λ who rest h. h) (λ from rest h. h) h q rest (λ on is. absurd (true≢false (sym is ∙ other))) offered

  shown-bounded : (k : ℕ) (q : Pending) (rest : Steps) (todo : Todos) → k < f.cpus → (f.processors k).todo ≡ Todo.show q rest ∷ todo → is_first q ≡ false
      → Bounded f.image (length (f.processors k).context.claims) (q ∷ rest)
  shown-bounded k q rest todo l at other =
      let c = (f.processors k).context in
      offered-bounded c q rest (bounds.running k l (runs-first rel l (Todo.show q rest) todo at (λ hand. hand))).steps (subst (Fits f.image c) at (rel.processors k l).list.fits).0 other

  pub events-stand : EventsStand f
  events-stand = record { single = bounds.single; clears = λ k a rest todo l at. clears-stand f m rel proper sound bounds k l a rest todo at }

  pub has-room : TellsWaiters m → AllCreate m → CanRun f.image f.cpus → CanCount f → HasRoom f
  has-room tells children can counts =
      record {
        counts = counts;
        readers = reader-room f m rel can.few;
        domains = can.domains;
        inside = bounds.inside;
        claims = claim-room f m rel sound children bounds can.few;
        checks = λ k a kind want refusal rest todo l at. (shown-bounded k (Pending.Check a kind want refusal) rest todo l at refl).0;
        loads = λ k to a n rest todo l at. (shown-bounded k (Pending.Load to a n) rest todo l at refl).0;
        ready = ready-room f m rel tells bounds;
        cleaned = λ k e l makes taken begins. clean-room f m rel sound k l e makes taken begins;
      }
