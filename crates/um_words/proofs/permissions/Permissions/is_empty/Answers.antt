use Rattle.std.proofs.Common.{not, sym, ap, ◌∙◌}
use Rattle.std.specs.List.{list_all}
use Rattle.um_words.specs.BitLists.{all_off-bits}
use Rattle.um_words.proofs.permissions.Permissions.is_empty.Goals as goal

pub returns : goal.returns
returns c = sym (all_off-bits 32 c.self.inside.bits c.self.invariant) ∙ ap (list_all not) c.self.view_is
