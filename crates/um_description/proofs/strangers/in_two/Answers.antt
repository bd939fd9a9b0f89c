use Rattle.um_description.proofs.Firsts.{or_strangers}
use Rattle.um_description.proofs.strangers.in_two.Goals as goal

pub returns : goal.returns
returns c = or_strangers c.args.d.now _ _ c.in_term.ensures c.in_term-2.ensures c.or.ensures
