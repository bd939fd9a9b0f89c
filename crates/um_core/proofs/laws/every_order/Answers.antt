use Rattle.std.proofs.Common.{arith}
use Rattle.um_core.proofs.Counts.{can-count}
use Rattle.um_core.proofs.OneRun.{one-run, picked-chosen, picked-fine}
use Rattle.um_core.proofs.laws.every_order.Goals as goal

pub returns-clause-one : goal.returns-clause-one
returns-clause-one c = λ image cpus pick steps steps2 run run2. one-run image cpus pick steps steps2 run run2

pub returns-clause-fine : goal.returns-clause-fine
returns-clause-fine c = λ image cpus pick steps run. picked-fine image cpus pick steps run

pub returns-clause-chosen : goal.returns-clause-chosen
returns-clause-chosen c = λ image cpus pick steps run. picked-chosen image cpus pick steps run

pub returns-clause-run : goal.returns-clause-run
returns-clause-run c = λ image cpus pick steps described run.
    let last = c.every_fine_run.ensures.run image cpus steps described (picked-fine image cpus pick steps run) in (last.0, last.1)

pub returns-clause-complete : goal.returns-clause-complete
returns-clause-complete c = λ image cpus pick steps described can run.
    let fine = picked-fine image cpus pick steps run in
    let few = c.longest_fine_run.ensures image cpus steps described can.few fine in
    let light = described.lawful.light in
    c.every_fine_run.ensures.complete image cpus steps described can fine (λ e by takes. run.over e (record { makes = by; takes = takes })) (can-count image steps (omega (arith, few, light)) cpus)
