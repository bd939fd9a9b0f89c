use Rattle.std.proofs.Common.{sym}
use Rattle.um_matrix.proofs.OfferLemmas.{rest-is-step}
use Rattle.um_explore.proofs.StepLemmas.{ok-so, rest-has}
use Rattle.um_explore.proofs.steps.add_rest.Goals as goal

pub add-requires-clause-step : goal.add-requires-clause-step
add-requires-clause-step c = rest-is-step c.args.tables.now c.args.t c.in-Some.act c.requires.rest (sym c.in-Some.ensures)

pub returns-in-Some-clause-has : goal.returns-in-Some-clause-has
returns-in-Some-clause-has c =
    ok-so _ _ c.add.result c.add.ensures.has (λ has. rest-has c.args.tables.now c.args.t c.add.new.events.items c.in-Some.act (sym c.in-Some.ensures) has)
