use Rattle.std.proofs.Common.{ℕ, ◌<◌}
use Rattle.um_machine.specs.Run.{MayChoose}
use Rattle.um_machine.specs.Table.{act_of}
use Rattle.um_matrix.specs.Offered.{event_of}
use Rattle.um_explore.specs.Steps.{GoesOn, Has}
use Rattle.um_explore.proofs.steps.add_rows.Given as goal

abbrev pub invariant-loop-x : goal.invariant-loop-x
invariant-loop-x l = record {
  goes : GoesOn l.tables l.fn.events.items l.events.items;
  has : (y : ℕ) → y < l.x → MayChoose l.tables l.t y l.step → Has l.events.items (event_of l.t (act_of l.tables l.t y l.step));
}
