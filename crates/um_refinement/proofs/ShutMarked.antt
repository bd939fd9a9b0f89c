-- The object of an index that a thread keeps, or that a processor starts next, is initialised.
use Rattle.um_refinement.proofs.Words.{◌≡◌, ℕ, ◌<◌, true, Some, refl, sym, ap, ◌∙◌, is_some, Image, own_row, Thread, State, object_at, thread_at, claims, Call, call_is, Fine, Rel}
use Rattle.um_invariants.proofs.Cores.{init_is}
use Rattle.um_refinement.specs.Stops.{IsOwned, keeps, starting, starts}
use Rattle.um_refinement.proofs.HandReads.{read-runs}
use Rattle.um_refinement.proofs.Offered.{own-unless}
use Rattle.um_refinement.proofs.Reachable.{IsSound}
use Rattle.um_refinement.proofs.ListStarts.{list-claims}

module _ (f : Fine) (m : State) (rel : Rel f m) (sound : IsSound m) (t : ℕ) where
  claimed : (k : ℕ) → k < f.cpus → starts (f.processors k).todo ≡ Some t → claims m.image t (thread_at m (f.processors k).context.thread).pending ≡ true
  claimed k l h =
      let c = (f.processors k).context in
      let claim = list-claims f.image c t (f.processors k).todo (rel.processors k l).list.fits h in
      let run = read-runs starts refl (λ who told todo. refl) (λ todo. refl) (λ deadline mark todo. refl) rel l (ap is_some h) in
      let of = (rel.contexts.running k l run).of claim.2 in
      let pending : c.pending ≡ (thread_at m c.thread).pending = ap (λ (z : Thread). z.pending) (own-unless of claim.1) in
      ap (λ (i : Image). claims i t (thread_at m c.thread).pending) rel.image ∙ (ap (claims f.image t) (sym pending) ∙ claim.0)

  pub owned-marked : IsOwned f m t → (object_at m (own_row m.image t)).init ≡ true
  owned-marked (keeps h) = sym (init_is m (own_row m.image t)) ∙ sound.known.claimed.marked t (ap (λ (call : Call). call.keeps) (call_is m t) ∙ h)
  owned-marked (starting k l h) =
      let u = (f.processors k).context.thread in
      sym (init_is m (own_row m.image t)) ∙ sound.known.claimed.inited u t (ap (λ (call : Call). claims m.image t call.pending) (call_is m u) ∙ claimed k l h)
