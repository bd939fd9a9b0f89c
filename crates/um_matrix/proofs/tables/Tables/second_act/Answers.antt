use Rattle.std.proofs.Common.{sym}
use Rattle.um_matrix.proofs.OfferLemmas.{none-second, says-second}
use Rattle.um_matrix.proofs.tables.Tables.second_act.Goals as goal

pub returns-in-Some-clause-some : goal.returns-in-Some-clause-some
returns-in-Some-clause-some c = says-second c.args.self.now c.args.t c.in-Some.step c.act_with.result (sym c.in-Some.ensures.value) c.act_with.ensures.says

pub returns-in-Some-clause-none : goal.returns-in-Some-clause-none
returns-in-Some-clause-none c = none-second c.args.self.now c.args.t c.in-Some.step c.act_with.result (sym c.in-Some.ensures.value) c.act_with.ensures.none
