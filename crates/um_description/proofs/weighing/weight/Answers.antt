use Rattle.um_description.proofs.WeightLemmas.{zeros}
use Rattle.um_description.proofs.weighing.weight.Goals as goal

pub weigh-requires-clause-blank : goal.weigh-requires-clause-blank
weigh-requires-clause-blank c = λ k. zeros 32 k
