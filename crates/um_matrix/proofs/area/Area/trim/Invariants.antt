use Rattle.std.proofs.Common.{◌≡◌, ◌≤◌, ◌-◌, drop}
use Rattle.um_matrix.proofs.AreaLemmas.{zeros}
use Rattle.um_matrix.proofs.area.Area.trim.Given as goal

abbrev pub invariant-loop-used : goal.invariant-loop-used
invariant-loop-used l = record {
  within : l.used ≤ 524288;
  zeros : drop l.used l.self-inside.bytes.items ≡ zeros (524288 - l.used);
}

abbrev pub decreases-loop-used : goal.decreases-loop-used
decreases-loop-used l = l.used
