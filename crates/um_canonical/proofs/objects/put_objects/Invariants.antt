use Rattle.std.proofs.Common.{◌≡◌, ◌++◌, take}
use Rattle.std.specs.List.{flat_map}
use Rattle.um_canonical.specs.Pieces.{object_text}
use Rattle.um_canonical.proofs.objects.put_objects.Given as goal

abbrev pub invariant-loop-object : goal.invariant-loop-object
invariant-loop-object l = l.text.items ≡ l.fn.text.items ++ flat_map object_text (take l.object-index l.objects)
