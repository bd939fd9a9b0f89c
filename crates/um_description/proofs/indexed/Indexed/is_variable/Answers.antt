use Rattle.std.proofs.Common.{ap, ◌∙◌, is_some}
use Rattle.um_document.specs.declared.description.Description.{Description}
use Rattle.um_description.specs.Mentions.{names_variable}
use Rattle.um_description.proofs.SpotLemmas.{names_found}
use Rattle.um_description.proofs.indexed.Indexed.is_variable.Goals as goal

pub returns : goal.returns
returns c =
    c.is_some.ensures ∙ ap is_some (c.spot_named.ensures ∙ c.self.invariant c.args.name.now) ∙ names_found c.args.name.now 0 c.self.inside.description.now.partitions
    ∙ ap (λ (d : Description). names_variable d.partitions c.args.name.now) c.self.view_is
