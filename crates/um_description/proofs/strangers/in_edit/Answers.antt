use Rattle.um_description.proofs.Firsts.{or_strangers}
use Rattle.um_description.proofs.strangers.in_edit.Goals as goal

pub returns : goal.returns
returns c = or_strangers c.args.d.now _ _ c.in_ref.ensures c.in_part.ensures c.or.ensures
