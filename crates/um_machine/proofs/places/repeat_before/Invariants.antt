use Rattle.std.proofs.Common.{◌≡◌, ◌≤◌}
use Rattle.um_machine.specs.State.{script_lines, repeat_before}
use Rattle.um_machine.proofs.places.repeat_before.Given as goal

abbrev pub invariant-loop-at : goal.invariant-loop-at
invariant-loop-at l = record {
  below : l.at ≤ l.line;
  same : repeat_before (script_lines l.image l.script) l.line ≡ repeat_before (script_lines l.image l.script) l.at;
}

abbrev pub decreases-loop-at : goal.decreases-loop-at
decreases-loop-at l = l.at
