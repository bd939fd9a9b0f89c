use Rattle.std.proofs.Common.{◌<◌, ◌∙◌, ap, length, drop, arith}
use Rattle.um_machine.specs.declared.thread.Thread.{Thread}
use Rattle.um_machine.specs.State.{State, thread_at, with_thread}
use Rattle.um_matrix.proofs.StartLemmas.{started, goes_on_started}
use Rattle.um_matrix.proofs.tables.Tables.start.Goals as goal

pub returns : goal.returns
returns c =
    let s : State = c.args.self.now in
    let inside : c.args.t < length s.threads = omega (arith, c.place_born.ensures.all) in
    c.creator_goes_on.ensures
    ∙ ap (λ (placed : State). goes_on_started placed c.args.t (drop c.args.taken (thread_at placed c.args.t).pending)) c.place_born.ensures.value
    ∙ started s c.args.t c.args.who.0 c.newborn-born.result c.args.taken inside
    ∙ ap (λ (born : Thread). goes_on_started (with_thread s c.args.who.0 born) c.args.t (drop c.args.taken (thread_at s c.args.t).pending)) c.newborn-born.ensures
