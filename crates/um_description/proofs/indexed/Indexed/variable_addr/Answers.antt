use Rattle.std.proofs.Common.{ap, sym, ◌∙◌}
use Rattle.um_document.specs.declared.description.Description.{Description}
use Rattle.um_description.specs.Resolve.{variable_addr}
use Rattle.um_description.proofs.SpotLemmas.{addr_nowhere, addr_found, there, missing}
use Rattle.um_description.proofs.indexed.Indexed.variable_addr.Goals as goal

pub returns-in-None : goal.returns-in-None
returns-in-None c =
    addr_nowhere c.args.name.now c.args.partitions.now c.self.inside.description.now.partitions (sym c.in-None.is ∙ c.spot_named.ensures ∙ c.self.invariant c.args.name.now)
    ∙ ap (λ (d : Description). variable_addr c.args.name.now c.args.partitions.now d.partitions) c.self.view_is

pub returns-in-None-get : goal.returns-in-None-get
returns-in-None-get c =
    addr_found c.args.name.now c.args.partitions.now c.self.inside.description.now.partitions c.in-Some.spot _
    (missing c.args.partitions.now c.in-Some.spot.partition c.in-None-get.ensures.lookup.0)
    (sym c.in-Some.is ∙ c.spot_named.ensures ∙ c.self.invariant c.args.name.now)
    ∙ ap (λ (d : Description). variable_addr c.args.name.now c.args.partitions.now d.partitions) c.self.view_is

pub returns-in-Some-get : goal.returns-in-Some-get
returns-in-Some-get c =
    addr_found c.args.name.now c.args.partitions.now c.self.inside.description.now.partitions c.in-Some.spot _
    (there c.args.partitions.now c.in-Some.spot.partition c.in-Some-get.partition.now c.in-Some-get.ensures.lookup.0 c.in-Some-get.ensures.lookup.1)
    (sym c.in-Some.is ∙ c.spot_named.ensures ∙ c.self.invariant c.args.name.now)
    ∙ ap (λ (d : Description). variable_addr c.args.name.now c.args.partitions.now d.partitions) c.self.view_is
