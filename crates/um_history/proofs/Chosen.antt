-- Where each processor has some list of steps of which a fact holds, there is a list for each number.
use Rattle.std.proofs.Common.{◌≡◌, ℕ, ◌<◌, Bool, true, false, List, [], refl}
use Rattle.std.specs.Prelude.{nat_lt}
use Rattle.std.proofs.lemmas.Bool.{false≢true, lt-ltb, ltb-true}
use Rattle.std.proofs.Common.{sym, ◌∙◌}

module _ {X : Type 0} (cpus : ℕ) (P : ℕ → List X → Type 0) (some : (k : ℕ) → k < cpus → (xs : List X) × P k xs) where
  chosen-by : (k : ℕ) (b : Bool) → nat_lt k cpus ≡ b → List X
  chosen-by k true e = (some k (ltb-true k cpus e)).0
  chosen-by k false e = []

  holds-by : (k : ℕ) (b : Bool) (e : nat_lt k cpus ≡ b) → k < cpus → P k (chosen-by k b e)
  unfolding chosen-by
  holds-by k true e less = (some k (ltb-true k cpus e)).1
  holds-by k false e less = absurd (false≢true (sym e ∙ lt-ltb k cpus less))

  pub chosen : (lists : ℕ → List X) × ((k : ℕ) → k < cpus → P k (lists k))
  chosen = ((λ k. chosen-by k (nat_lt k cpus) refl), λ k less. holds-by k (nat_lt k cpus) refl less)
