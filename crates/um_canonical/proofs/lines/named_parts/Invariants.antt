use Rattle.std.proofs.Common.{◌≡◌, map, take}
use Rattle.um_canonical.specs.Named.{named_part}
use Rattle.um_canonical.proofs.lines.named_parts.Given as goal

abbrev pub invariant-loop-part : goal.invariant-loop-part
invariant-loop-part l = l.all ≡ map (named_part l.names) (take l.part-index l.parts)
