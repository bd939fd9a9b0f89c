use Rattle.std.proofs.Common.{ap, ◌∙◌}
use Rattle.std.specs.Prelude.{unwrap_or}
use Rattle.um_fine.specs.Context.{Context}
use Rattle.um_processor.specs.declared.running.Running.{Running}
use Rattle.um_processor.specs.Processors.{processor_of}
use Rattle.um_processor.proofs.Runs.{runs-left}
use Rattle.um_processor.proofs.Worked.{behind_work, work-goes}
use Rattle.um_tables.specs.ObjectCells.{outcome_by}
use Rattle.um_processor.proofs.running.Running.work.Goals as goal

pub returns-clause-runs : goal.returns-clause-runs
returns-clause-runs g c = runs-left c.args.here.now.image.now _ _ _ c.calls.new.self _ c.works.ensures

pub returns-clause-turn : goal.returns-clause-turn
returns-clause-turn g c =
    let h = c.in-Made.ensures.said in
    let image = c.args.here.now.image.now in
    let cpu = c.args.here.now.cpu in
    let r = c.args.self.now in
    let called = c.calls.ensures.value in
    let noted = c.note_number-noted.ensures ∙ ap (λ (own : Context). unwrap_or own.noted 0) c.deref.ensures ∙ ap (λ (k : Running). unwrap_or k.context.value.noted 0) called in
    let served = c.work.new.outcome in
    let left =
    c.works.ensures
    ∙ ap (λ (k : Running). behind_work image cpu h.0 h.1 k c.args.addr c.args.ask.now c.row_named.result (outcome_by served)) called in
    let goes =
    work-goes image cpu h.0 h.1 r c.args.addr c.args.ask.now c.row_named.result c.calls.new.self.caller _ served (processor_of c.works.new.self) c.row_named.ensures.value
    (ap (λ (k : Running). k.caller) called)
    noted
    h.3
    left in
    (_, h.2, goes)
