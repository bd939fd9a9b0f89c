-- Steps that are picked one after another, as an order of processors prefers them.
use Rattle.std.proofs.Common.{◌≡◌, inl, inr, ℕ, ◌+◌, ◌-◌, ◌%◌, ◌<◌, List, [], ◌∷◌, ◌++◌, sym, ap, ◌∙◌, subst, arith, append_assoc, append-nil, mod-eq_of_lt}
use Rattle.std.proofs.Math.Nat.{add-mod_right}
use Rattle.std.proofs.lemmas.Bool.Decides.{leb_tells}
use Rattle.um_base.specs.declared.image.Image.{Image}
use Rattle.um_fine.specs.Steps.{FineStep}
use Rattle.um_core.specs.PickedRun.{ArePicked, IsPicked, behind}

-- one more step is picked after others, by the processor that is preferred then
pub picked-push : (image : Image) (cpus : ℕ) (done : List FineStep) (firsts : List ℕ) (steps : List FineStep) (first : ℕ) (e : FineStep)
    → ArePicked image cpus done firsts steps → IsPicked image cpus first (done ++ steps) e → ArePicked image cpus done (firsts ++ first ∷ []) (steps ++ e ∷ [])
picked-push image cpus done [] [] first e all next = (subst (λ d. IsPicked image cpus first d e) (append-nil done) next, tt)
picked-push image cpus done [] (x ∷ steps) first e all next = absurd all
picked-push image cpus done (f ∷ firsts) [] first e all next = absurd all
picked-push image cpus done (f ∷ firsts) (x ∷ steps) first e all next =
    (all.0, picked-push image cpus (done ++ x ∷ []) firsts steps first e all.1 (subst (λ d. IsPicked image cpus first d e) (sym (append_assoc done (x ∷ []) steps)) next))

-- each processor is somewhere after the preferred one
pub reached : (cpus first k : ℕ) → first < cpus → k < cpus → (n : ℕ) × (n < cpus) × (behind cpus first n ≡ k)
reached cpus first k within l =
    elim (leb_tells first k) [
      | inl before ↦ let on : first + (k - first) ≡ k = omega (arith, before.1) in (k - first, omega (arith, l, before.1), ap (λ (n : ℕ). n % cpus) on ∙ mod-eq_of_lt l)
      | inr after ↦
          let on : first + (cpus + k - first) ≡ k + cpus = omega (arith, within) in
          (cpus + k - first, omega (arith, within, after.1), ap (λ (n : ℕ). n % cpus) on ∙ (add-mod_right k cpus ∙ mod-eq_of_lt l))
    ]
