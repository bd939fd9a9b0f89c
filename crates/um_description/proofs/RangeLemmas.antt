-- Ranges by their starts and sizes.
use Rattle.std.proofs.Common.{◌≡◌, ℕ, refl, ap, sym, List, [], ◌∷◌}
use Rattle.um_base.specs.declared.names.Range.{Range}
use Rattle.um_base.specs.Lawful.{places_of, sizes_of}
use Rattle.um_description.specs.Resolve.{ranges_at}

pub ranges_again : (ranges : List Range) → ranges_at (places_of ranges) (sizes_of ranges) ≡ ranges
ranges_again [] = refl
ranges_again (range ∷ ranges) = ap (λ (rest : List Range). range ∷ rest) (ranges_again ranges)

pub ranges_are : (ranges : List Range) (starts sizes : List ℕ) → places_of ranges ≡ starts → sizes_of ranges ≡ sizes → ranges ≡ ranges_at starts sizes
ranges_are ranges starts sizes p q = rw (sym p, sym q) (sym (ranges_again ranges))
