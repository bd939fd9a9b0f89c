use Rattle.std.proofs.Common.{◌∙◌, ap, drop, sym}
use Rattle.um_machine.specs.declared.pending.Pending.{Pending}
use Rattle.um_machine.specs.State.{thread_at}
use Rattle.um_machine.specs.Table.{after}
use Rattle.um_matrix.proofs.tables.Tables.make.Goals as goal

pub returns-in-Killed : goal.returns-in-Killed
returns-in-Killed c =
    let s = c.args.self.now in
    let rest = drop c.args.taken (thread_at s c.args.t).pending in c.killed.ensures rest ∙ ap (λ (step : Pending). after s c.args.t c.args.x step rest) (sym c.in-Killed.is)

pub returns-in-Left : goal.returns-in-Left
returns-in-Left c =
    let s = c.args.self.now in
    let rest = drop c.args.taken (thread_at s c.args.t).pending in c.left.ensures rest ∙ ap (λ (step : Pending). after s c.args.t c.args.x step rest) (sym c.in-Left.is)
