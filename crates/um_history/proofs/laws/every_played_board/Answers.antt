use Rattle.std.specs.Prelude.{List}
use Rattle.um_fine.specs.FineRun.{IsFineRun}
use Rattle.um_fine.specs.Steps.{FineStep}
use Rattle.um_history.proofs.Completed.{complete, fine, g, have-order, noted-run, over}
use Rattle.um_history.proofs.Openings.{opens-well}
use Rattle.um_history.proofs.Ordered.{fine-same}
use Rattle.um_history.proofs.laws.every_played_board.Goals as goal

pub returns-clause-fine : goal.returns-clause-fine
returns-clause-fine c = λ image cpus v words slots logs steps described can played.
    let well = opens-well image cpus described can in
    let longest = λ (run : List FineStep) (fine : IsFineRun image cpus run). c.longest_fine_run.ensures image cpus run described can.few fine in
    (g image cpus v words slots logs steps described can well played longest, fine image cpus v words slots logs steps described can well played longest)

pub returns-clause-order : goal.returns-clause-order
returns-clause-order c = λ image cpus v words slots logs steps described can played.
    have-order image cpus v words slots logs steps described can (opens-well image cpus described can) played (λ run fine. c.longest_fine_run.ensures image cpus run described can.few fine)

pub returns-clause-run : goal.returns-clause-run
returns-clause-run c = λ image cpus v words slots logs steps described can played list same.
    noted-run image cpus v words slots logs steps described can (opens-well image cpus described can) played (λ run fine. c.longest_fine_run.ensures image cpus run described can.few fine)
    (λ run fine. let last = c.every_fine_run.ensures.run image cpus run described fine in (last.0, last.1)) list same

pub returns-clause-same : goal.returns-clause-same
returns-clause-same c = λ image cpus g h same run. fine-same image cpus g h same run

pub returns-clause-over : goal.returns-clause-over
returns-clause-over c = λ image cpus v words slots logs steps described can played saw h of.
    let stuck = over image cpus v words slots logs steps described can (λ run fine. c.longest_fine_run.ensures image cpus run described can.few fine)
    (λ run fine quiet. c.every_fine_run.ensures.quiet image cpus run described fine quiet) played saw h of in
    λ e follows. stuck e follows.makes follows.takes

pub returns-clause-complete : goal.returns-clause-complete
returns-clause-complete c = λ image cpus v words slots logs steps described can played saw list same.
    complete image cpus v words slots logs steps described can (opens-well image cpus described can) played (λ run fine. c.longest_fine_run.ensures image cpus run described can.few fine)
    saw (λ run fine quiet. c.every_fine_run.ensures.quiet image cpus run described fine quiet) (λ run fine stuck counts. c.every_fine_run.ensures.complete image cpus run described can fine stuck counts) list same
