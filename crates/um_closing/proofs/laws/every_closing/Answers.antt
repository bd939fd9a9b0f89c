use Rattle.um_refinement.specs.After.{left_by}
use Rattle.um_closing.proofs.Agreed.{agreed}
use Rattle.um_closing.proofs.NotedRuns.{closes, leaves-noted}
use Rattle.um_closing.proofs.Same.{read-same}
use Rattle.um_closing.proofs.laws.every_closing.Goals as goal

pub returns-clause-agrees : goal.returns-clause-agrees
returns-clause-agrees c = λ image cpus steps last described run runs rel idle knows.
    agreed (left_by image cpus steps) last rel ((leaves-noted image cpus described steps run).placed last runs) idle (λ t few started. knows t started)

pub returns-clause-notes : goal.returns-clause-notes
returns-clause-notes c = λ image cpus steps described run.
    let left = leaves-noted image cpus described steps run in (left.last, left.run, left.rel, left.noted.noted)

pub returns-clause-closes : goal.returns-clause-closes
returns-clause-closes c = λ image cpus steps described run idle.
    let left = leaves-noted image cpus described steps run in (left.last, left.run, left.rel, closes image cpus steps left idle)

pub returns-clause-complete : goal.returns-clause-complete
returns-clause-complete c = λ image cpus steps described can run stuck counts.
    let left = leaves-noted image cpus described steps run in
    let ends = left.ends can stuck counts in
    (left.last, left.run, ends.1, closes image cpus steps left ends.0)

pub returns-clause-same : goal.returns-clause-same
returns-clause-same c = read-same
