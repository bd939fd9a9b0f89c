-- Behind a fine run of a described image: where no step by which a processor without a thread takes one may follow, none is ready; and where none may
-- by which it is given a mark either, none is due.
use Rattle.std.proofs.Common.{◌≡◌, ℕ, ◌<◌, Bool, true, false, List, [], ◌∷◌, None, refl, sym, ap, ◌∙◌, subst, arith}
use Rattle.std.specs.Prelude.{◌||◌, if◌then◌else◌, is_some}
use Rattle.std.proofs.lemmas.Bool.{false≢true}
use Rattle.um_base.specs.declared.image.Image.{Image}
use Rattle.um_machine.specs.State.{State}
use Rattle.um_fine.specs.Answers.{is_due_act, is_tick}
use Rattle.um_fine.specs.Clock.{first_due}
use Rattle.um_fine.specs.FineRun.{ByOneOf}
use Rattle.um_fine.specs.Sites.{same_site}
use Rattle.um_fine.specs.Steps.{FineStep, Site}
use Rattle.um_refinement.specs.After.{left_by}
use Rattle.um_refinement.specs.Fine.{Fine, clock, one_if, scheduler}
use Rattle.um_refinement.specs.Lists.{runs}
use Rattle.um_refinement.specs.Room.{CanCount, CanRun}
use Rattle.um_refinement.proofs.FirstThreads.{one-most}
use Rattle.um_refinement.proofs.Stuck as S
use Rattle.um_refinement.proofs.StuckComplete.{due-lawful, first-lawful, none-there}
use Rattle.um_refinement.proofs.Totals.{total-most}
use Rattle.um_core.specs.PickedRun.{MayFollow, processor_after}
use Rattle.um_core.proofs.Chosen.{turn-ready, untimed}
use Rattle.um_core.proofs.LeftKnown.{IsLeft}
use Rattle.um_core.proofs.Sorts.{sorts-after}

-- what is made at the scheduler doesn't tend to time
scheduled-plain : (timed : Bool) → (if timed then Site.clock else Site.scheduler) ≡ Site.scheduler → timed ≡ false
scheduled-plain false h = refl
scheduled-plain true h = absurd (false≢true (ap (λ i. same_site i Site.scheduler) h))

module _ (image : Image) (cpus : ℕ) (can : CanRun image cpus) (done : List FineStep) (m : State) (is : IsLeft (left_by image cpus done) m) (counts : CanCount (left_by image cpus done))
    (k : ℕ) (l : k < cpus) (empty : (processor_after image done k).todo ≡ []) where
  abbrev f : Fine
  f = left_by image cpus done

  few-run : (scheduler f).running < 255
  few-run =
      let most = total-most (λ j. one_if (runs (f.processors j))) f.cpus (λ j l. one-most (runs (f.processors j))) in
      let same = is.rel.running.running in
      let few = can.few in
      omega (arith, few, most, same)

  follows-of : (e : FineStep) → e.cpu ≡ k → S.IsLawfulOf f m is.rel (is.room counts) k [] e → MayFollow image cpus done e
  follows-of e same lawful = record { makes = subst (λ n. ByOneOf image cpus (processor_after image done n) e) (sym same) lawful.by; takes = lawful.taken }

  pub ready-none : ((e : FineStep) → e.cpu ≡ k → is_due_act e.act ≡ false → is_tick e.act ≡ false → MayFollow image cpus done e → ⊥) → (scheduler f).ready ≡ []
  ready-none none = by (scheduler f).ready refl
    where
      by : (ready : List ℕ) → (scheduler f).ready ≡ ready → ready ≡ []
      by [] at = refl
      by (t ∷ ready) at =
          let first = first-lawful f m is.rel (is.room counts) is.bounds.ready k l empty few-run t ready at in
          let e = first.0 in
          let plain = untimed (is_due_act e.act) (is_tick e.act) (scheduled-plain (is_due_act e.act || is_tick e.act) (first.3.there ∙ first.2)) in
          absurd (none e first.1 plain.0 plain.1 (follows-of e first.1 first.3))

  pub due-none : (scheduler f).ready ≡ [] → ((e : FineStep) → e.cpu ≡ k → is_due_act e.act ≡ true → MayFollow image cpus done e → ⊥)
      → first_due (clock f).now (clock f).marks ≡ None
  due-none ready none = none-there f m is.rel (is.room counts) is.bounds.ready (first_due (clock f).now (clock f).marks) given
    where
      given : is_some (first_due (clock f).now (clock f).marks) ≡ true → ⊥
      given some =
          let due = due-lawful f m is.rel (is.room counts) is.bounds.ready k l empty some in
          by due.0 due.1 due.2 due.3 (is_due_act due.0.act) refl
        where
          by : (e : FineStep) → e.cpu ≡ k → is_tick e.act ≡ false → S.IsLawfulOf f m is.rel (is.room counts) k [] e → (b : Bool) → is_due_act e.act ≡ b → ⊥
          by e same tick lawful true h = none e same h (follows-of e same lawful)
          by e same tick lawful false h = turn-ready image (processor_after image done k) f (sorts-after image done) empty e lawful.by.may.makes lawful.taken h tick ready
