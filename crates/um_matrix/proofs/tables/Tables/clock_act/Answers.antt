use Rattle.std.proofs.Common.{refl}
use Rattle.um_machine.specs.declared.pending.Pending.TheVariants as Pending
use Rattle.um_matrix.proofs.OfferLemmas.{tends-said}
use Rattle.um_matrix.proofs.tables.Tables.clock_act.Goals as goal

pub returns-in-Some-clause-some : goal.returns-in-Some-clause-some
returns-in-Some-clause-some c = tends-said c.args.self.now c.args.t Pending.Tick c.in-Some.act refl c.requires.started c.in-Some.ensures.says

pub returns-in-Some-act_with-clause-some : goal.returns-in-Some-act_with-clause-some
returns-in-Some-act_with-clause-some c = tends-said c.args.self.now c.args.t Pending.Expire c.in-Some-act_with.act refl c.requires.started c.in-Some-act_with.ensures.says
