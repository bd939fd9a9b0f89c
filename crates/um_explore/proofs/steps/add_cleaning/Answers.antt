use Rattle.um_explore.proofs.StepLemmas.{further, ok-so}
use Rattle.um_explore.proofs.steps.add_cleaning.Goals as goal

pub returns-clause-goes : goal.returns-clause-goes
returns-clause-goes c =
    ok-so _ _ c.add_pairs.result c.add_pairs.ensures.goes
    (λ on. further c.args.tables.now c.args.events.now.items c.add_tending.new.events.items c.add_pairs.new.events.items c.in_ok-add_tending.ensures.goes on)
