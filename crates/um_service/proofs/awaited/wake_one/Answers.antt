use Rattle.std.proofs.Common.{ap, sym, ◌∙◌, List}
use Rattle.um_base.specs.declared.ask.Told.{Told}
use Rattle.um_base.specs.declared.names.ThreadIx.{ThreadIx}
use Rattle.um_machine.specs.Services.{still_waiting}
use Rattle.um_service.proofs.PipeLemmas.{still_waiting-none}
use Rattle.um_service.proofs.awaited.wake_one.Goals as goal

pub returns-in-None-clause-left : goal.returns-in-None-clause-left
returns-in-None-clause-left c =
    sym (still_waiting-none c.args.waiters.now) ∙ ap (λ (ps : List (ThreadIx × Told)). still_waiting ps c.args.waiters.now) (sym c.clear.ensures)
