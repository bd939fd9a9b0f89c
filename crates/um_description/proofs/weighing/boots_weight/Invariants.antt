use Rattle.std.proofs.Common.{◌≡◌, ℕ, ◌+◌, ◌-◌, ◌^◌, ◌≤◌, List, drop}
use Rattle.um_base.specs.Weight.{boots_weight}
use Rattle.um_description.specs.Weights.{counted, AreCounted}
use Rattle.um_description.proofs.weighing.boots_weight.Given as goal

abbrev pub invariant-loop-boot : goal.invariant-loop-boot
invariant-loop-boot l = record {
  counts : (all : List ℕ) → AreCounted l.weights 0 all → counted (l.sum + boots_weight all (drop l.boot-index l.boots)) ≡ counted (boots_weight all l.boots);
  fits : l.sum ≤ 2 ^ 64 - 1;
}
