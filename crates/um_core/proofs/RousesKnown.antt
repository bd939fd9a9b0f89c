-- Along a fine run of a described image each thread that is to be roused is one that there is.
use Rattle.std.proofs.Common.{◌≡◌, ◌⊎◌, inl, inr, ℕ, ◌<◌, Bool, true, false, cond, List, [], ◌∷◌, ◌++◌, refl, sym, subst, eq-eqb}
use Rattle.std.specs.Prelude.{◌==◌}
use Rattle.std.proofs.lemmas.Bool.{eqb-true}
use Rattle.um_base.specs.declared.image.Image.{Image}
use Rattle.um_machine.specs.State.{State}
use Rattle.um_invariants.specs.Described.{IsDescribed}
use Rattle.um_fine.specs.FineRun.{IsFineRun, cpu_of, p_start, same_cpu}
use Rattle.um_fine.specs.Follows.{p_next}
use Rattle.um_fine.specs.Places.{Todo, Todos}
use Rattle.um_fine.specs.Processor.{Processor}
use Rattle.um_fine.specs.Steps.{FineStep}
use Rattle.um_fine.proofs.FineRuns.{by_last, state_push}
use Rattle.um_refinement.specs.After.{left_by}
use Rattle.um_refinement.specs.Room.{CanRun}
use Rattle.um_core.specs.PickedRun.{processor_after}
use Rattle.um_core.proofs.LeftKnown.{IsLeft, left-known}
use Rattle.um_core.proofs.OneWhole.{fine-less}
use Rattle.um_core.proofs.RousesKept.{AreWell, Names, rouses-kept}
use Rattle.um_core.proofs.SitesThere.{fits-at, names-one, own-thread, run-at}

module _ (image : Image) (cpus : ℕ) (described : IsDescribed image) (can : CanRun image cpus) where
  -- what is next names threads that there are
  names-known : (done : List FineStep) → IsFineRun image cpus done → (k : ℕ) → k < cpus → (e : FineStep) → Names image (processor_after image done k) e (processor_after image done k).todo
  names-known done run k l e = by (left-known image cpus described can done run)
    where
      by-list : (m : State) → IsLeft (left_by image cpus done) m → (todo : Todos) → (processor_after image done k).todo ≡ todo → Names image (processor_after image done k) e todo
      by-list m is (Todo.show q rest ∷ todo) at =
          let f = left_by image cpus done in
          names-one f m is k l (run-at f m is k l (Todo.show q rest) todo at (λ hand. hand)) q rest (fits-at f m is k l (Todo.show q rest ∷ todo) at).0
      by-list m is (Todo.reread_asleep ∷ todo) at =
          let f = left_by image cpus done in own-thread f m is k l (run-at f m is k l Todo.reread_asleep todo at (λ hand. hand))
      by-list m is todo at = tt

      by : (done ≡ []) ⊎ ((m : State) × IsLeft (left_by image cpus done) m) → Names image (processor_after image done k) e (processor_after image done k).todo
      by (inl none) = subst (λ d. Names image (processor_after image d k) e (processor_after image d k).todo) (sym none) tt
      by (inr left) = by-list left.0 left.1 (processor_after image done k).todo refl

  step-well : (done : List FineStep) (e : FineStep) → (IsFineRun image cpus done → (k : ℕ) → k < cpus → AreWell (processor_after image done k).todo)
      → IsFineRun image cpus (done ++ e ∷ []) → (k : ℕ) → k < cpus → AreWell (processor_after image (done ++ e ∷ []) k).todo
  step-well done e before run k l =
      subst (λ (p : Processor). AreWell p.todo) (sym (state_push same_cpu (λ k. eq-eqb k k refl) (λ j k h. eqb-true j k h) cpu_of (λ p (x : FineStep). Unit {0}) (p_next image) p_start done e k))
      (by (e.cpu == k))
    where
      first : IsFineRun image cpus done
      first = (fine-less image cpus done e run).0

      by : (b : Bool) → AreWell (cond b (p_next image (processor_after image done k) e) (processor_after image done k)).todo
      by true = rouses-kept image (processor_after image done k) e (names-known done first k l e) (before first k l)
      by false = before first k l

  pub rouses-known : (done : List FineStep) → IsFineRun image cpus done → (k : ℕ) → k < cpus → AreWell (processor_after image done k).todo
  rouses-known = by_last (λ done. IsFineRun image cpus done → (k : ℕ) → k < cpus → AreWell (processor_after image done k).todo) (λ run k l. refl) step-well
