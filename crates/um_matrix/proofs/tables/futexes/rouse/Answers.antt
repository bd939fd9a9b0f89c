use Rattle.std.proofs.Common.{◌∙◌, ap, List, sym}
use Rattle.um_base.specs.declared.ask.Told.{Told}
use Rattle.um_base.specs.declared.names.ThreadIx.{ThreadIx}
use Rattle.um_machine.specs.Services.{still_waiting}
use Rattle.um_matrix.proofs.WorkLemmas.{still-none}
use Rattle.um_matrix.proofs.tables.futexes.rouse.Goals as goal

pub returns-in-Some-clause-left : goal.returns-in-Some-clause-left
returns-in-Some-clause-left c = sym (still-none c.args.waiters.now) ∙ ap (λ (w : List (ThreadIx × Told)). still_waiting w c.args.waiters.now) (sym c.clear.ensures)
