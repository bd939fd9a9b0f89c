use Rattle.std.proofs.Common.{◌∙◌, ℕ, ◌++◌, List, ap}
use Rattle.rand_pcg.specs.Lcg.{Lcg}
use Rattle.um_gen.specs.Draws.{started_from}
use Rattle.um_gen.specs.Description.{whole, description}
use Rattle.um_gen.proofs.generating.generate.Goals as goal

pub returns : goal.returns
unfolding description started_from
returns c =
    c.put_whole.ensures.items ∙ ap (λ (xs : List ℕ). xs ++ (whole c.seed_from_u64.result).0) c.in_ok-with_capacity.ensures.items ∙ ap (λ (g : Lcg). (whole g).0) c.seed_from_u64.ensures
