use Rattle.um_fine_measure.proofs.OpeningLemmas.{others-nothing, scheduler-start, whole-start}
use Rattle.um_fine_measure.proofs.StepLemmas.{step-falls}
use Rattle.um_fine_measure.proofs.WholeLemmas.{whole-falls}
use Rattle.um_fine_measure.proofs.bound.every_fine_step.Goals as goal

pub returns-clause-opens : goal.returns-clause-opens
returns-clause-opens c = λ image lawful. record { scheduler = scheduler-start image lawful; others = others-nothing image lawful; whole = whole-start image }

pub returns-clause-falls : goal.returns-clause-falls
returns-clause-falls c = λ image lawful p s e cpu site cut step. step-falls image lawful p s e cpu site cut step

pub returns-clause-whole : goal.returns-clause-whole
returns-clause-whole c = λ f m e rel few by taken. whole-falls f m rel e by taken few
