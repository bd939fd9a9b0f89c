-- What is said where a test decides between two acts.
use Rattle.std.proofs.Common.{Bool, true, false, if◌then◌else◌}
use Rattle.um_base.specs.declared.act.Act.{Act}

pub either_act : (Says : Act → Type 0) (b : Bool) (one other : Act) → Says one → Says other → Says (if b then one else other)
either_act Says true one other h k = h
either_act Says false one other h k = k
