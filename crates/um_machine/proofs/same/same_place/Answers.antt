use Rattle.std.proofs.Common.{sym, ◌∙◌}
use Rattle.um_machine.proofs.SameLemmas.{place}
use Rattle.um_machine.proofs.same.same_place.Goals as goal

pub returns : goal.returns
returns c h = place.same _ _ (sym c.eq.ensures ∙ h)
