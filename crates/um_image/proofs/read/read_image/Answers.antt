use Rattle.std.proofs.Common.{rules}
use Rattle.um_image.specs.Meaning.{Describes}
use Rattle.um_image.proofs.TextLemmas.{lawful_image}
use Rattle.um_image.proofs.read.read_image.Goals as goal

pub returns-in-Ok-clause-lawful : goal.returns-in-Ok-clause-lawful
returns-in-Ok-clause-lawful c =
    let described : Describes c.args.text.now c.in-Ok.image = search rules in lawful_image c.args.text.now c.in-Ok.image described
