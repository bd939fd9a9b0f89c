use Rattle.std.proofs.Common.{sym, ◌∙◌}
use Rattle.um_machine.proofs.SameLemmas.{piece}
use Rattle.um_machine.proofs.same.same_piece.Goals as goal

pub returns : goal.returns
returns c h = piece.same _ _ (sym c.eq.ensures ∙ h)
