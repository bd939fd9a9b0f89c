use Rattle.std.proofs.Common.{sym, ◌∙◌}
use Rattle.um_base.specs.Exact.{exact-flag}
use Rattle.um_machine.proofs.SameLemmas.{items}
use Rattle.um_machine.proofs.same.same_rows.Goals as goal

pub returns : goal.returns
returns c h = sym c.as_slice.ensures ∙ (items exact-flag).same _ _ (sym c.eq.ensures ∙ h) ∙ c.as_slice-2.ensures
