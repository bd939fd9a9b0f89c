use Rattle.std.proofs.Common.{drop, sym, ◌∙◌}
use Rattle.um_processor.proofs.Standings.{some_busy}
use Rattle.um_processor.proofs.processor.Processor.step.Goals as goal

pub returns-in-None-clause-takes : goal.returns-in-None-clause-takes
returns-in-None-clause-takes g c = λ none.
    let k = c.args.self.now in absurd (some_busy k.cleans k.ends.items (drop k.told k.outcome.woken) k.running (sym c.is_idle.ensures ∙ c.if-is_idle.false) none)
