use Rattle.std.proofs.Common.{◌≡◌, ◌++◌, List}
use Rattle.um_base.specs.declared.act.Event.{Event}
use Rattle.um_machine.specs.Run.{Runs}
use Rattle.um_machine.specs.State.{State}
use Rattle.um_explore.proofs.all_runs.finish.Given as goal

abbrev pub invariant-steps : goal.invariant-steps
invariant-steps l = record {
  run : (s : State) → Runs s l.fn.run.items l.fn.state → Runs s l.run.items l.state;
  more : (more : List Event) × (l.run.items ≡ l.fn.run.items ++ more);
}
