use Rattle.std.proofs.Common.{sym, ◌∙◌}
use Rattle.um_base.specs.Exact.{exact-flag}
use Rattle.um_machine.proofs.SameLemmas.{items}
use Rattle.um_matrix.proofs.tables.same.same_pairs.Goals as goal

pub returns : goal.returns
returns c h = (items (items exact-flag)).same _ _ (sym c.eq.ensures ∙ h)
