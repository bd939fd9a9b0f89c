use Rattle.um_measure.proofs.RunLemmas.{armed_within}
use Rattle.um_measure.proofs.bound.every_deadline.Goals as goal

pub returns : goal.returns
returns c = λ image events s lawful few run. armed_within image events s lawful few run
