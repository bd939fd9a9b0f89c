use Rattle.um_measure.proofs.OpenLemmas.{opens}
use Rattle.um_measure.proofs.StepLemmas.{keeps, falls}
use Rattle.um_measure.proofs.bound.every_step.Goals as goal

pub returns-clause-opens : goal.returns-clause-opens
returns-clause-opens c = λ image lawful few. opens image lawful few

pub returns-clause-keeps : goal.returns-clause-keeps
returns-clause-keeps c = λ s s2 event reached made. keeps s s2 event reached made

pub returns-clause-falls : goal.returns-clause-falls
returns-clause-falls c = λ s s2 event reached made due. falls s s2 event reached made due
