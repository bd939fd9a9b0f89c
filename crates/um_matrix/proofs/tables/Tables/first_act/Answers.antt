use Rattle.std.proofs.Common.{sym}
use Rattle.um_matrix.proofs.OfferLemmas.{none-first, rest-if-some, says-first}
use Rattle.um_matrix.proofs.tables.Tables.first_act.Goals as goal

pub returns-in-None-clause-some : goal.returns-in-None-clause-some
returns-in-None-clause-some c = rest-if-some c.args.self.now c.args.t c.rest_act.result (sym c.in-None.ensures.value) c.rest_act.ensures

pub returns-in-Some-clause-some : goal.returns-in-Some-clause-some
returns-in-Some-clause-some c = says-first c.args.self.now c.args.t c.in-Some.step c.act_with.result (sym c.in-Some.ensures.value) c.act_with.ensures.says

pub returns-in-Some-clause-none : goal.returns-in-Some-clause-none
returns-in-Some-clause-none c = none-first c.args.self.now c.args.t c.in-Some.step c.act_with.result (sym c.in-Some.ensures.value) c.act_with.ensures.none
