-- The scheduler has a place for each thread index, after every lawful step.
use Rattle.um_refinement.proofs.Words.{◌≡◌, ℕ, Bool, true, false, List, [], ◌∷◌, length, refl, ap, ◌∙◌, length-set, State, FineAct, Unseen, Scheduler, first_taken, sched_after, same_site, Exchange, FineStep, Site, same-sound, Fine, scheduler, SchedulerIs}
use Rattle.um_refinement.proofs.Erased.{around}
use Rattle.um_refinement.proofs.Leaves.{Lawful}
use Rattle.um_refinement.proofs.SchedulerSteps.{sched-else, sched-later}

-- as many places as before
record Wide (s r : Scheduler) : Type 0 where
  parked : length s.parked ≡ length r.parked
  told : length s.told ≡ length r.told
  cuts : length s.cuts ≡ length r.cuts

taken-wide : (s : Scheduler) (ready : List ℕ) → Wide (first_taken s ready) s
taken-wide s [] = record { parked = refl; told = refl; cuts = refl }
taken-wide s (t ∷ ready) = record { parked = length-set s.parked t _; told = length-set s.told t _; cuts = length-set s.cuts t _ }

after-wide : (s : Scheduler) (act : FineAct) (moved : Exchange) → Wide (sched_after s act moved) s
after-wide s (FineAct.Shown event more) moved = taken-wide s s.ready
after-wide s (FineAct.Unseen (Unseen.Next who)) moved = taken-wide s s.ready
after-wide s (FineAct.Unseen (Unseen.Wake who ready)) moved = record { parked = refl; told = length-set s.told who.0 _; cuts = refl }
after-wide s (FineAct.Unseen (Unseen.Cut who ready)) moved = record { parked = refl; told = refl; cuts = length-set s.cuts who.0 _ }
after-wide s (FineAct.Unseen (Unseen.Park who ready)) moved = record { parked = length-set s.parked _ _; told = refl; cuts = refl }
after-wide s (FineAct.Unseen (Unseen.Add who)) moved = record { parked = length-set s.parked _ _; told = refl; cuts = refl }
after-wide s (FineAct.Unseen u) moved = record { parked = refl; told = refl; cuts = refl }

module _ (f : Fine) (m : State) (e : FineStep) (law : Lawful f m e) where
  open around f e use {later}

  pub scheduler-part : SchedulerIs later
  scheduler-part = by (same_site e.site Site.scheduler) refl
    where
      was : SchedulerIs f
      was = law.rel.scheduler

      by : (b : Bool) → same_site e.site Site.scheduler ≡ b → SchedulerIs later
      by true q =
          let now = sched-later f m e law (same-sound e.site Site.scheduler q) e.act refl in
          let wide = after-wide (scheduler f) e.act e.moved in
          record {
            parked = ap (λ (s : Scheduler). length s.parked) now ∙ (wide.parked ∙ was.parked);
            told = ap (λ (s : Scheduler). length s.told) now ∙ (wide.told ∙ was.told);
            cuts = ap (λ (s : Scheduler). length s.cuts) now ∙ (wide.cuts ∙ was.cuts);
          }
      by false q =
          let now = sched-else f m e law q in
          record { parked = ap (λ (s : Scheduler). length s.parked) now ∙ was.parked; told = ap (λ (s : Scheduler). length s.told) now ∙ was.told; cuts = ap (λ (s : Scheduler). length s.cuts) now ∙ was.cuts }
