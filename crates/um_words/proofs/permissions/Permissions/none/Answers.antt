use Rattle.um_words.specs.BitLists.{bits_of-zero}
use Rattle.um_words.proofs.permissions.Permissions.none.Goals as goal

pub returns : goal.returns
returns c = bits_of-zero 32
