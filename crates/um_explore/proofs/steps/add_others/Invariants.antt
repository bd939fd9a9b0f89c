use Rattle.um_explore.specs.Steps.{GoesOn, HasOthers}
use Rattle.um_explore.proofs.steps.add_others.Given as goal

abbrev pub invariant-loop-who : goal.invariant-loop-who
invariant-loop-who l = record {
  goes : GoesOn l.tables l.fn.events.items l.events.items;
  has : HasOthers l.tables l.t l.who l.events.items;
}
