use Rattle.std.proofs.Common.{sym, ◌∙◌}
use Rattle.um_base.specs.Equality.{exact-reply}
use Rattle.um_machine.proofs.same.same_reply.Goals as goal

pub returns : goal.returns
returns c h = exact-reply.same _ _ (sym c.eq.ensures ∙ h)
