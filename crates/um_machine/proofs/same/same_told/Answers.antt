use Rattle.std.proofs.Common.{sym, ◌∙◌}
use Rattle.um_base.specs.Exact.{exact-option}
use Rattle.um_machine.proofs.SameLemmas.{told}
use Rattle.um_machine.proofs.same.same_told.Goals as goal

pub returns : goal.returns
returns c h = (exact-option told).same _ _ (sym c.eq.ensures ∙ h)
