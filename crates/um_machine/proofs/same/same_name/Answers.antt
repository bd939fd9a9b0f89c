use Rattle.std.proofs.Common.{sym, ◌∙◌}
use Rattle.um_base.specs.Exact.{exact-option}
use Rattle.um_base.specs.Equality.{exact-thread}
use Rattle.um_machine.proofs.same.same_name.Goals as goal

pub returns : goal.returns
returns c h = (exact-option exact-thread).same _ _ (sym c.eq.ensures ∙ h)
