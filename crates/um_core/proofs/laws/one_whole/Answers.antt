use Rattle.um_core.proofs.OneWhole.{one-whole, picked-whole}
use Rattle.um_core.proofs.laws.one_whole.Goals as goal

pub returns-clause-picked : goal.returns-clause-picked
returns-clause-picked c = λ image pick steps run chosen over. picked-whole image pick steps run chosen over

pub returns-clause-one : goal.returns-clause-one
returns-clause-one c = λ image steps steps2 run chosen over run2 chosen2 over2. one-whole image steps steps2 run chosen over run2 chosen2 over2
