use Rattle.std.proofs.Common.{◌≡◌, drop}
use Rattle.um_description.specs.Numbers.{bounded}
use Rattle.um_description.specs.Packing.{last_end, size_of}
use Rattle.um_description.proofs.packing.packed_size.Given as goal

abbrev pub invariant-loop-variable : goal.invariant-loop-variable
invariant-loop-variable l = record {
  rest : bounded (last_end l.end (drop l.variable-index l.variables)) ≡ size_of l.variables;
  small : bounded l.end ≡ l.end;
}
