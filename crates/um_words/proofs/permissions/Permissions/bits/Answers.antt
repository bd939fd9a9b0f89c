use Rattle.std.proofs.Common.{sym, ap, ◌∙◌}
use Rattle.um_words.specs.Bits.{number_of}
use Rattle.um_words.specs.BitLists.{number_of-bits}
use Rattle.um_words.proofs.permissions.Permissions.bits.Goals as goal

pub returns-clause-value : goal.returns-clause-value
returns-clause-value c = sym (number_of-bits 32 c.self.inside.bits c.self.invariant) ∙ ap number_of c.self.view_is
