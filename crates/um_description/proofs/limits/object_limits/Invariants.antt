use Rattle.std.proofs.Common.{◌≡◌, ◌≤◌, drop}
use Rattle.um_document.specs.First.{first_of}
use Rattle.um_description.specs.Limits.{objects_limits}
use Rattle.um_description.proofs.limits.object_limits.Given as goal

abbrev pub invariant-loop-object : goal.invariant-loop-object
invariant-loop-object l = record {
  rest : first_of (objects_limits l.threads l.index (drop l.object-index l.objects)) ≡ first_of (objects_limits 0 0 l.objects);
  index : l.index ≡ l.object-index;
  few : l.threads ≤ l.object-index;
}
