use Rattle.um_explore.proofs.StepLemmas.{further, ok-so}
use Rattle.um_explore.proofs.steps.add_waking.Goals as goal

pub returns-clause-goes : goal.returns-clause-goes
returns-clause-goes c =
    ok-so _ _ c.add_tending-2.result c.add_tending-2.ensures.goes
    (λ on. further c.args.tables.now c.args.events.now.items c.add_tending.new.events.items c.add_tending-2.new.events.items c.in_ok-add_tending.ensures.goes on)
