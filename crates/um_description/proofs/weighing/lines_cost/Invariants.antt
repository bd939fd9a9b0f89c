use Rattle.std.proofs.Common.{◌≡◌, ℕ, ◌+◌, ◌-◌, ◌^◌, ◌≤◌, List, drop}
use Rattle.um_base.specs.Weight.{lines_cost}
use Rattle.um_description.specs.Weights.{counted, AreCounted}
use Rattle.um_description.proofs.weighing.lines_cost.Given as goal

abbrev pub invariant-loop-line : goal.invariant-loop-line
invariant-loop-line l = record {
  counts : (later : List ℕ) → AreCounted l.weights (l.i + 1) later → counted (l.sum + lines_cost later l.i l.turns (drop l.line-index l.lines)) ≡ counted (lines_cost later l.i 1 l.lines);
  fits : l.sum ≤ 2 ^ 64 - 1;
}
