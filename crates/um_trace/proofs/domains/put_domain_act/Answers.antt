use Rattle.std.proofs.Common.{arith, append_assoc}
use Rattle.um_trace.specs.Acts.{domain_act_text}
use Rattle.um_trace.proofs.domains.put_domain_act.Goals as goal

pub returns-in-DomMove : goal.returns-in-DomMove
unfolding domain_act_text
returns-in-DomMove c = record {
  items = rw (c.put_call-in-DomMove.ensures.items, c.in-DomMove.is) (simp append_assoc);
  len = omega arith;
  capacity = omega arith;
}
