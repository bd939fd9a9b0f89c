use Rattle.um_description.proofs.Firsts.{or_strangers}
use Rattle.um_description.proofs.strangers.in_create.Goals as goal

pub returns : goal.returns
returns c = or_strangers c.args.d.now _ _ c.in_three.ensures c.in_ref.ensures c.or.ensures
