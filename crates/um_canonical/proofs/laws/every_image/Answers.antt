use Rattle.um_canonical.proofs.PrintedDescription.{image_described}
use Rattle.um_canonical.proofs.ReadBack.{read_back}
use Rattle.um_canonical.proofs.laws.every_image.Goals as goal

pub returns-clause-reads : goal.returns-clause-reads
returns-clause-reads c = read_back

pub returns-clause-means : goal.returns-clause-means
returns-clause-means c = image_described
