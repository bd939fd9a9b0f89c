use Rattle.std.proofs.Common.{◌≡◌, ℕ, zero, suc, ◌<◌, ◌≤◌, List, [], ◌∷◌, length, get_or, refl, sym, ◌∙◌, arith}
use Rattle.um_canonical.specs.Named.{name_at}
use Rattle.um_canonical.proofs.names.name_at.Goals as goal

within : (names : List (List ℕ)) (i : ℕ) → i < length names → name_at names i ≡ get_or names i []
within [] i h = absurd (omega (arith, h))
within (name ∷ names) zero h = refl
within (name ∷ names) (suc i) h = within names i (omega (arith, h))

beyond : (names : List (List ℕ)) (i : ℕ) → length names ≤ i → name_at names i ≡ []
beyond [] i h = refl
beyond (name ∷ names) zero h = absurd (omega (arith, h))
beyond (name ∷ names) (suc i) h = beyond names i (omega (arith, h))

pub returns-in-Some : goal.returns-in-Some
returns-in-Some c = let at = c.in-Some.ensures.lookup.3 in at.1 [] ∙ sym (within c.args.names.now c.args.index at.0)

pub returns-in-None : goal.returns-in-None
returns-in-None c = c.new.ensures ∙ sym (beyond c.args.names.now c.args.index (c.in-None.ensures.lookup.3))
