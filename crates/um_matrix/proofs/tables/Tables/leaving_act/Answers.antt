use Rattle.std.proofs.Common.{◌∙◌, sym}
use Rattle.um_matrix.proofs.OfferLemmas.{leaves-said}
use Rattle.um_matrix.proofs.tables.Tables.leaving_act.Goals as goal

pub returns-in-Some-clause-some : goal.returns-in-Some-clause-some
returns-in-Some-clause-some c = leaves-said c.args.self.now c.args.t c.in-Some.act (sym c.is_ending.ensures ∙ c.if-not-is_ending.false) c.in-Some.ensures.says
