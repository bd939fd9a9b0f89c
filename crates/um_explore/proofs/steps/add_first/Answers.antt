use Rattle.std.proofs.Common.{sym}
use Rattle.um_matrix.specs.Offered.{first_step}
use Rattle.um_explore.proofs.StepLemmas.{first-is, first-offer, ok-so, only-has}
use Rattle.um_explore.proofs.steps.add_first.Goals as goal

pub add_rows-requires-clause-offered : goal.add_rows-requires-clause-offered
add_rows-requires-clause-offered c = first-offer c.args.tables.now c.args.t c.in-Some.step (sym c.in-Some.ensures.value)

pub returns-in-Some-clause-has : goal.returns-in-Some-clause-has
returns-in-Some-clause-has c =
    ok-so _ _ c.add_rows.result c.add_rows.ensures.has
    (λ has. only-has c.args.tables.now c.args.t c.add_rows.new.events.items (first_step c.args.tables.now c.args.t) c.in-Some.step (first-is c.args.tables.now c.args.t c.in-Some.step (sym c.in-Some.ensures.value)) has)
