use Rattle.std.proofs.Common.{◌≡◌, ◌-◌}
use Rattle.um_fine.specs.Heap.{least_open}
use Rattle.um_tables.proofs.heap.Heap.least_open.Given as goal

abbrev pub invariant-loop-x : goal.invariant-loop-x
invariant-loop-x l = least_open l.self l.kind l.x (128 - l.x) ≡ least_open l.self l.kind 0 128
