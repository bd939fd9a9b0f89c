use Rattle.um_fine_measure.proofs.BoundLemmas.{within-weight}
use Rattle.um_fine_measure.proofs.bound.longest_fine_run.Goals as goal

pub returns : goal.returns
returns c = λ image cpus steps described few run. within-weight image cpus described few (λ h first. c.every_fine_run.ensures.run image cpus h described first) steps run
