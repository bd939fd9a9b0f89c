-- In the order of a choice there is one run. It is a fine run, and each of its steps is chosen.
use Rattle.std.proofs.Common.{◌≡◌, inl, inr, ℕ, suc, ◌+◌, ◌%◌, List, [], ◌∷◌, ◌++◌, length, Option, Some, None, refl, sym, ap, ◌∙◌, subst, arith, append_assoc, append-nil, eq-eqb}
use Rattle.std.proofs.lemmas.Bool.{eqb-true}
use Rattle.std.proofs.lemmas.Bool.Decides.{leb_tells}
use Rattle.um_base.specs.declared.image.Image.{Image}
use Rattle.um_fine.specs.FineRun.{ByOneOf, IsFineRun, cpu_of, p_start, same_cpu, site_of}
use Rattle.um_fine.specs.Follows.{p_next}
use Rattle.um_fine.specs.Opening.{s_start}
use Rattle.um_fine.specs.Sites.{SiteMay, s_next, same_site}
use Rattle.um_fine.specs.Steps.{FineStep}
use Rattle.um_fine.proofs.FineRuns.{runs_push}
use Rattle.um_fine.proofs.Keys.{same-itself, same-sound}
use Rattle.rand_pcg.specs.Pcg.{pcg32}
use Rattle.um_core.specs.Order.{drawn_from, preferred, round_from, seeded}
use Rattle.um_refinement.specs.After.{left_by}
use Rattle.um_refinement.specs.Choice.{AreChosen, AreChosenBehind}
use Rattle.um_core.specs.Moments.{AreAlike}
use Rattle.um_core.specs.PickedRun.{ArePicked, IsNext, IsOver, IsPicked, IsPickedRun, MayFollow, behind, processor_after, site_after}
use Rattle.um_core.proofs.Chosen.{chosen-alike}
use Rattle.um_core.proofs.OneStep.{one-step}
use Rattle.um_core.proofs.Sorts.{sorts-after}

-- the steps of one kind that one moment offers a processor are one
follows-one : (image : Image) (cpus : ℕ) (done : List FineStep) (e g : FineStep) → e.cpu ≡ g.cpu → AreAlike e g → MayFollow image cpus done e → MayFollow image cpus done g → e ≡ g
follows-one image cpus done e g same alike l r =
    one-step image (processor_after image done e.cpu) (site_after image done) (sorts-after image done) e g same alike
    (record { makes = l.makes.may; takes = l.takes })
    (record { makes = (subst (λ k. ByOneOf image cpus (processor_after image done k) g) (sym same) r.makes).may; takes = r.takes })

-- and the one that is next is the only one: the choice is between the kinds
next-one : (image : Image) (cpus : ℕ) (done : List FineStep) (e g : FineStep) → e.cpu ≡ g.cpu → IsNext image cpus done e → IsNext image cpus done g → e ≡ g
next-one image cpus done e g same l r =
    follows-one image cpus done e g same
    (chosen-alike image (processor_after image done e.cpu) (left_by image cpus done) (sorts-after image done) e g l.follows.makes.may l.follows.takes
    (subst (λ k. ByOneOf image cpus (processor_after image done k) g) (sym same) r.follows.makes).may r.follows.takes l.chosen r.chosen)
    l.follows r.follows

-- and so is the one that is picked
picked-one : (image : Image) (cpus first : ℕ) (done : List FineStep) (e g : FineStep) → IsPicked image cpus first done e → IsPicked image cpus first done g → e ≡ g
picked-one image cpus first done e g l r =
    elim (leb_tells l.turn r.turn) [
      | inl below ↦ elim (leb_tells r.turn l.turn) [
        | inl above ↦ next-one image cpus done e g (l.made_by ∙ (ap (behind cpus first) (omega (arith, below.1, above.1)) ∙ sym r.made_by)) l.next r.next
        | inr less ↦ absurd (r.others l.turn e less.1 l.made_by l.next)
      ]
      | inr more ↦ absurd (l.others r.turn g more.1 r.made_by r.next)
    ]

-- A stream of preferred processors, of which each takes the first from it.
module _ {S : Type 0} (first : S → ℕ) (rest : S → S) (from : S → ℕ → List ℕ) (none : (s : S) → from s 0 ≡ []) (more : (s : S) (n : ℕ) → from s (suc n) ≡ first s ∷ from (rest s) n)
    (image : Image) (cpus : ℕ) where
  pub one-order : (s : S) (done h g : List FineStep) → ArePicked image cpus done (from s (length h)) h → IsOver image cpus (done ++ h)
      → ArePicked image cpus done (from s (length g)) g → IsOver image cpus (done ++ g) → h ≡ g
  one-order s done [] [] l over r over' = refl
  one-order s done [] (e ∷ g) l over r over' =
      let here = subst (λ firsts. ArePicked image cpus done firsts (e ∷ g)) (more s (length g)) r in
      absurd (over e (subst (λ d. MayFollow image cpus d e) (sym (append-nil done)) here.0.next.follows))
  one-order s done (e ∷ h) [] l over r over' =
      let here = subst (λ firsts. ArePicked image cpus done firsts (e ∷ h)) (more s (length h)) l in
      absurd (over' e (subst (λ d. MayFollow image cpus d e) (sym (append-nil done)) here.0.next.follows))
  one-order s done (e ∷ h) (f ∷ g) l over r over' =
      let here = subst (λ firsts. ArePicked image cpus done firsts (e ∷ h)) (more s (length h)) l in
      let there = subst (λ firsts. ArePicked image cpus done firsts (f ∷ g)) (more s (length g)) r in
      let same : e ≡ f = picked-one image cpus (first s) done e f here.0 there.0 in
      let behind = one-order (rest s) (done ++ e ∷ []) h g here.1
      (λ x m. over x (subst (λ d. MayFollow image cpus d x) (append_assoc done (e ∷ []) h) m))
      (subst (λ x. ArePicked image cpus (done ++ x ∷ []) (from (rest s) (length g)) g) (sym same) there.1)
      (λ x m. over' x (subst (λ d. MayFollow image cpus d x) (append_assoc done (f ∷ []) g) (subst (λ y. MayFollow image cpus ((done ++ y ∷ []) ++ g) x) same m))) in
      λ i. same i ∷ behind i

pub one-run : (image : Image) (cpus : ℕ) (pick : Option ℕ) (h g : List FineStep) → IsPickedRun image cpus pick h → IsPickedRun image cpus pick g → h ≡ g
one-run image cpus None h g l r = one-order (λ i. i % cpus) (λ i. i + 1) (round_from cpus) (λ i. refl) (λ i n. refl) image cpus 0 [] h g l.picked l.over r.picked r.over
one-run image cpus (Some seed) h g l r =
    one-order (λ words. (pcg32 words).0 % cpus) (λ words. (pcg32 words).1) (drawn_from cpus) (λ words. refl) (λ words n. refl) image cpus (seeded seed) [] h g l.picked l.over r.picked r.over

-- steps that are picked are a fine run
module _ (image : Image) (cpus : ℕ) where
  pub fine-more : (done : List FineStep) (e : FineStep) → IsFineRun image cpus done → MayFollow image cpus done e → IsFineRun image cpus (done ++ e ∷ [])
  fine-more done e run follows =
      record {
        processors = runs_push same_cpu (λ k. eq-eqb k k refl) (λ j k h. eqb-true j k h) cpu_of (ByOneOf image cpus) (p_next image) p_start done e run.processors follows.makes;
        sites = runs_push same_site same-itself same-sound site_of (SiteMay image) (s_next image) (s_start image) done e run.sites follows.takes;
      }

  fine-on : (done firsts' : List FineStep) → IsFineRun image cpus done → (firsts : List ℕ) → ArePicked image cpus done firsts firsts' → IsFineRun image cpus (done ++ firsts')
  fine-on done [] run firsts picked = subst (IsFineRun image cpus) (sym (append-nil done)) run
  fine-on done (e ∷ steps) run [] picked = absurd picked
  fine-on done (e ∷ steps) run (first ∷ firsts) picked =
      subst (IsFineRun image cpus) (append_assoc done (e ∷ []) steps) (fine-on (done ++ e ∷ []) steps (fine-more done e run picked.0.next.follows) firsts picked.1)

  pub picked-fine : (pick : Option ℕ) (h : List FineStep) → IsPickedRun image cpus pick h → IsFineRun image cpus h
  picked-fine pick h run = fine-on [] h (record { processors = λ k. tt; sites = λ i. tt }) (preferred cpus pick (length h)) run.picked

  -- and each of them is chosen
  chosen-on : (done firsts' : List FineStep) (firsts : List ℕ) → ArePicked image cpus done firsts firsts' → AreChosenBehind image cpus done firsts'
  chosen-on done [] firsts picked = tt
  chosen-on done (e ∷ steps) [] picked = absurd picked
  chosen-on done (e ∷ steps) (first ∷ firsts) picked = (picked.0.next.chosen, chosen-on (done ++ e ∷ []) steps firsts picked.1)

  pub picked-chosen : (pick : Option ℕ) (h : List FineStep) → IsPickedRun image cpus pick h → AreChosen image cpus h
  picked-chosen pick h run = chosen-on [] h (preferred cpus pick (length h)) run.picked
