use Rattle.std.proofs.Common.{◌≡◌, ◌≤◌, ◌++◌, drop, length}
use Rattle.um_description.specs.Resolve.{objects_from}
use Rattle.um_description.proofs.resolve.objects.objects.Given as goal

abbrev pub invariant-loop-x : goal.invariant-loop-x
invariant-loop-x l = record {
  whole : l.all ++ objects_from (drop l.taken l.ranges) l.x l.threads (drop l.x l.entries) ≡ objects_from l.ranges 0 0 l.entries;
  count : length l.all ≡ l.x;
  few : l.threads ≤ l.x;
  short : l.taken ≤ l.x;
}
