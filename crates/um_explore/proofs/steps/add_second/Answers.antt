use Rattle.std.proofs.Common.{sym}
use Rattle.um_matrix.specs.Offered.{second_step}
use Rattle.um_explore.proofs.StepLemmas.{ok-so, only-has, second-offer}
use Rattle.um_explore.proofs.steps.add_second.Goals as goal

pub add_rows-requires-clause-offered : goal.add_rows-requires-clause-offered
add_rows-requires-clause-offered c = second-offer c.args.tables.now c.args.t c.in-Some.step (sym c.in-Some.ensures.value)

pub returns-in-Some-clause-has : goal.returns-in-Some-clause-has
returns-in-Some-clause-has c =
    ok-so _ _ c.add_rows.result c.add_rows.ensures.has
    (λ has. only-has c.args.tables.now c.args.t c.add_rows.new.events.items (second_step c.args.tables.now c.args.t) c.in-Some.step (sym c.in-Some.ensures.value) has)
