use Rattle.um_core.proofs.OneStep.{one-step}
use Rattle.um_core.proofs.laws.every_moment.Goals as goal

pub returns : goal.returns
returns c = λ image p sites sorts e e2 cpu alike may may2. one-step image p sites sorts e e2 cpu alike may may2
