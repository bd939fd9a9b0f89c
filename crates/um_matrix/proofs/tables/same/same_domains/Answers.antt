use Rattle.std.proofs.Common.{sym, ◌∙◌}
use Rattle.um_base.specs.Exact.{◌&◌, exact-option}
use Rattle.um_base.specs.Equality.{exact-attr, exact-range}
use Rattle.um_machine.proofs.SameLemmas.{in_room, items}
use Rattle.um_matrix.proofs.tables.same.same_domains.Goals as goal

pub returns : goal.returns
returns c h = (items (exact-option (in_room 16 _ (exact-range & exact-attr)))).same _ _ (sym c.eq.ensures ∙ h)
