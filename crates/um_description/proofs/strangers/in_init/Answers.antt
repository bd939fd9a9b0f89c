use Rattle.um_description.proofs.Firsts.{or_strangers}
use Rattle.um_description.proofs.strangers.in_init.Goals as goal

pub returns : goal.returns
returns c = or_strangers c.args.d.now _ _ c.in_ref.ensures (rw (← c.as_slice.ensures.value) c.in_parts.ensures) c.or.ensures
