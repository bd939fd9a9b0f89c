use Rattle.std.proofs.Common.{◌∙◌, refl, sym}
use Rattle.um_machine.specs.declared.pending.Pending.TheVariants as Pending
use Rattle.um_matrix.proofs.OfferLemmas.{still-cut, still-late, tends-said}
use Rattle.um_matrix.proofs.tables.Tables.waking_of.Goals as goal

pub returns-in-Some-clause-some : goal.returns-in-Some-clause-some
returns-in-Some-clause-some c = tends-said c.args.self.now c.args.t (Pending.TimeOut c.args.who) c.in-Some.act refl c.requires.started c.in-Some.ensures.says

pub returns-in-Some-act_with-clause-some : goal.returns-in-Some-act_with-clause-some
returns-in-Some-act_with-clause-some c = tends-said c.args.self.now c.args.t (Pending.Cut c.args.who) c.in-Some-act_with.act refl c.requires.started c.in-Some-act_with.ensures.says

pub returns-then-not-is_waiting-clause-times : goal.returns-then-not-is_waiting-clause-times
returns-then-not-is_waiting-clause-times c = still-late c.args.self.now c.args.t c.args.who (sym c.is_waiting.ensures ∙ c.if-not-is_waiting.true)

pub returns-then-not-is_waiting-clause-cuts : goal.returns-then-not-is_waiting-clause-cuts
returns-then-not-is_waiting-clause-cuts c = still-cut c.args.self.now c.args.t c.args.who (sym c.is_waiting.ensures ∙ c.if-not-is_waiting.true)
