use Rattle.um_description.proofs.Firsts.{or_strangers}
use Rattle.um_description.proofs.strangers.in_move.Goals as goal

pub returns : goal.returns
returns c = or_strangers c.args.d.now _ _ c.in_ref.ensures c.in_term.ensures c.or.ensures
