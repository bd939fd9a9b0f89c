use Rattle.um_description.proofs.Firsts.{or_strangers}
use Rattle.um_description.proofs.strangers.in_three.Goals as goal

pub returns : goal.returns
returns c = or_strangers c.args.d.now _ _ c.in_two.ensures c.in_term.ensures c.or.ensures
