use Rattle.std.proofs.Common.{◌∙◌, ap, drop}
use Rattle.um_base.specs.declared.act.Found.{Found}
use Rattle.um_machine.specs.State.{thread_at}
use Rattle.um_matrix.specs.Worked.{string_taken}
use Rattle.um_matrix.proofs.tables.Tables.copy_string.Goals as goal

pub returns : goal.returns
returns c =
    let s = c.args.self.now in
    c.take_string.ensures ∙ ap (λ (found : Found). string_taken s c.args.t c.args.a (drop c.args.taken (thread_at s c.args.t).pending) found) c.string_read-found.ensures.value
