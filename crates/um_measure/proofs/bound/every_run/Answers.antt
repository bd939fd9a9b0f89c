use Rattle.um_measure.proofs.RunLemmas.{within_weight}
use Rattle.um_measure.proofs.bound.every_run.Goals as goal

pub returns : goal.returns
returns c = λ image events s lawful few run. within_weight image events s lawful few run
