use Rattle.std.proofs.Common.{◌≡◌, drop}
use Rattle.um_description.specs.Resolve.{object_addr}
use Rattle.um_description.proofs.resolve.lines.object_addr.Given as goal

abbrev pub invariant-loop-o : goal.invariant-loop-o
invariant-loop-o l = object_addr l.name l.other l.objects ≡ object_addr l.name l.other (drop l.o-index l.objects)
