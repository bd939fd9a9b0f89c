use Rattle.std.proofs.Common.{refl}
use Rattle.um_machine.specs.declared.pending.Pending.TheVariants as Pending
use Rattle.um_machine.specs.Order.{to_thread}
use Rattle.um_audit.proofs.StepLemmas.{tends-choice}
use Rattle.um_audit.proofs.tending.by_pair_at.Goals as goal

pub returns-then-says_line-clause-some : goal.returns-then-says_line-clause-some
returns-then-says_line-clause-some c =
    tends-choice c.args.image.now c.args.line.now c.args.tables.now c.args.t c.args.x (Pending.CleanPair (to_thread c.loop-who.who)) refl c.requires.started c.requires.row (c.says_line.ensures.says.0 c.if-says_line.true)
