use Rattle.std.proofs.Common.{◌≡◌, ◌≤◌, drop}
use Rattle.um_description.specs.Packing.{bytes_from, bytes_of, last_end}
use Rattle.um_description.proofs.packing.packed_bytes.Given as goal

abbrev pub invariant-loop-variable : goal.invariant-loop-variable
invariant-loop-variable l = record {
  rest : bytes_from l.bytes.items l.end (drop l.variable-index l.variables) ≡ bytes_of l.variables;
  fits : last_end l.end (drop l.variable-index l.variables) ≤ 65536;
}
