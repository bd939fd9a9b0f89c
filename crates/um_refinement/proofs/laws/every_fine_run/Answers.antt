use Rattle.um_refinement.specs.After.{left_by}
use Rattle.um_refinement.proofs.ChosenStuck.{chosen-runs}
use Rattle.um_refinement.proofs.CompleteRuns.{complete-runs}
use Rattle.um_refinement.proofs.ErasedRuns.{erased-runs}
use Rattle.um_refinement.proofs.QuietIdle.{quiet-stuck}
use Rattle.um_refinement.proofs.Waiting.{waits-for}
use Rattle.um_refinement.proofs.laws.every_fine_run.Goals as goal

pub returns-clause-run : goal.returns-clause-run
returns-clause-run c = λ image cpus steps described run. erased-runs image cpus described steps run

pub returns-clause-complete : goal.returns-clause-complete
returns-clause-complete c = λ image cpus steps described can run stuck counts. complete-runs image cpus described can steps run counts stuck

pub returns-clause-chosen : goal.returns-clause-chosen
returns-clause-chosen c = λ image cpus steps described can run counts none. chosen-runs image cpus described can steps run counts none

pub returns-clause-quiet : goal.returns-clause-quiet
returns-clause-quiet c = λ image cpus steps described run quiet.
    let erased = erased-runs image cpus described steps run in quiet-stuck (left_by image cpus steps) erased.0 erased.2 quiet

pub returns-clause-waits : goal.returns-clause-waits
returns-clause-waits c = λ image cpus steps described can run counts k halted. waits-for image cpus described can steps run counts k halted
