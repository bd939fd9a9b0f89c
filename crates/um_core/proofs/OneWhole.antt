-- On one processor there is one run of chosen steps that is over, whatever the pick: each step of a fine run may follow those before it, and the one processor
-- is always the preferred one.
use Rattle.std.proofs.Common.{◌≡◌, ℕ, suc, ◌+◌, ◌%◌, ◌<◌, List, [], ◌∷◌, ◌++◌, length, Option, Some, None, refl, sym, subst, arith, append_assoc, append-nil, eq-eqb}
use Rattle.std.proofs.Math.Nat.{mod-lt}
use Rattle.std.proofs.lemmas.Bool.{eqb-true}
use Rattle.um_base.specs.declared.image.Image.{Image}
use Rattle.um_fine.specs.FineRun.{ByOneOf, IsFineRun, cpu_of, p_start, same_cpu, site_of}
use Rattle.um_fine.specs.Follows.{p_next}
use Rattle.um_fine.specs.Opening.{s_start}
use Rattle.um_fine.specs.Sites.{SiteMay, s_next, same_site}
use Rattle.um_fine.specs.Steps.{FineStep}
use Rattle.um_fine.proofs.FineRuns.{by_last, runs_pop}
use Rattle.um_fine.proofs.Keys.{same-itself, same-sound}
use Rattle.rand_pcg.specs.Pcg.{pcg32}
use Rattle.um_core.specs.Order.{drawn_from, round_from, seeded}
use Rattle.um_refinement.specs.After.{left_by}
use Rattle.um_refinement.specs.Choice.{AreChosen, AreChosenBehind, IsChosen}
use Rattle.um_core.specs.PickedRun.{ArePicked, IsNext, IsOver, IsPicked, IsPickedRun, MayFollow}
use Rattle.um_core.proofs.OneRun.{one-run}

-- The steps of a fine run, taken apart.
module _ (image : Image) (cpus : ℕ) where
  pub fine-less : (done : List FineStep) (e : FineStep) → IsFineRun image cpus (done ++ e ∷ []) → IsFineRun image cpus done × MayFollow image cpus done e
  fine-less done e run =
      let a = runs_pop same_cpu (λ k. eq-eqb k k refl) (λ j k h. eqb-true j k h) cpu_of (ByOneOf image cpus) (p_next image) p_start done e run.processors in
      let b = runs_pop same_site same-itself same-sound site_of (SiteMay image) (s_next image) (s_start image) done e run.sites in
      (record { processors = a.0; sites = b.0 }, record { makes = a.1; takes = b.1 })

  -- its first steps are one too
  fine-first : (done rest : List FineStep) → IsFineRun image cpus (done ++ rest) → IsFineRun image cpus done
  fine-first done =
      by_last (λ rest. IsFineRun image cpus (done ++ rest) → IsFineRun image cpus done) (λ run. subst (IsFineRun image cpus) (append-nil done) run)
      (λ rest e before run. before (fine-less (done ++ rest) e (subst (IsFineRun image cpus) (sym (append_assoc done rest (e ∷ []))) run)).0)

  follows-in : (done : List FineStep) (e : FineStep) (rest : List FineStep) → IsFineRun image cpus (done ++ e ∷ rest) → MayFollow image cpus done e
  follows-in done e rest run = (fine-less done e (fine-first (done ++ e ∷ []) rest (subst (IsFineRun image cpus) (sym (append_assoc done (e ∷ []) rest)) run))).1

-- one more step is chosen behind others
pub chosen-more : (image : Image) (cpus : ℕ) (done steps : List FineStep) (e : FineStep) → AreChosenBehind image cpus done steps → IsChosen (left_by image cpus (done ++ steps)) e
    → AreChosenBehind image cpus done (steps ++ e ∷ [])
chosen-more image cpus done [] e all last = (subst (λ d. IsChosen (left_by image cpus d) e) (append-nil done) last, tt)
chosen-more image cpus done (x ∷ steps) e all last =
    (all.0, chosen-more image cpus (done ++ x ∷ []) steps e all.1 (subst (λ d. IsChosen (left_by image cpus d) e) (sym (append_assoc done (x ∷ []) steps)) last))

module _ (image : Image) where
  -- the one processor is picked, whichever is preferred
  picks-it : (first : ℕ) (done : List FineStep) (e : FineStep) → IsNext image 1 done e → IsPicked image 1 first done e
  picks-it first done e next =
      record {
        next = next;
        turn = 0;
        within = omega arith;
        made_by = (let named = next.follows.makes.named in let some : 0 < 1 = omega arith in let low = mod-lt (first + 0) some in omega (arith, named, low));
        others = λ n g l by may. absurd (omega (arith, l));
      }

  -- A stream of preferred processors, of which each step takes the first.
  module _ {S : Type 0} (first : S → ℕ) (rest : S → S) (from : S → ℕ → List ℕ) (none : (s : S) → from s 0 ≡ []) (more : (s : S) (n : ℕ) → from s (suc n) ≡ first s ∷ from (rest s) n) where
    all-picked : (s : S) (done h : List FineStep) → IsFineRun image 1 (done ++ h) → AreChosenBehind image 1 done h → ArePicked image 1 done (from s (length h)) h
    all-picked s done [] run chosen = subst (λ firsts. ArePicked image 1 done firsts []) (sym (none s)) tt
    all-picked s done (e ∷ h) run chosen =
        subst (λ firsts. ArePicked image 1 done firsts (e ∷ h)) (sym (more s (length h))) (
          picks-it (first s) done e (record { follows = follows-in image 1 done e h run; chosen = chosen.0 }),
          all-picked (rest s) (done ++ e ∷ []) h (subst (IsFineRun image 1) (sym (append_assoc done (e ∷ []) h)) run) chosen.1,
        )

  pub picked-whole : (pick : Option ℕ) (steps : List FineStep) → IsFineRun image 1 steps → AreChosen image 1 steps → IsOver image 1 steps → IsPickedRun image 1 pick steps
  picked-whole None steps run chosen over =
      record { picked = all-picked (λ i. i % 1) (λ i. i + 1) (round_from 1) (λ i. refl) (λ i n. refl) 0 [] steps run chosen; over = over }
  picked-whole (Some seed) steps run chosen over =
      record { picked = all-picked (λ words. (pcg32 words).0 % 1) (λ words. (pcg32 words).1) (drawn_from 1) (λ words. refl) (λ words n. refl) (seeded seed) [] steps run chosen; over = over }

  pub one-whole : (h g : List FineStep) → IsFineRun image 1 h → AreChosen image 1 h → IsOver image 1 h → IsFineRun image 1 g → AreChosen image 1 g → IsOver image 1 g → h ≡ g
  one-whole h g run chosen over run' chosen' over' = one-run image 1 None h g (picked-whole None h run chosen over) (picked-whole None g run' chosen' over')
