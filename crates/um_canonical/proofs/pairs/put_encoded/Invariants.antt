use Rattle.std.proofs.Common.{◌≡◌, ◌++◌, drop}
use Rattle.um_canonical.specs.Sections.{encoded}
use Rattle.um_canonical.proofs.pairs.put_encoded.Given as goal

abbrev pub invariant-loop-byte : goal.invariant-loop-byte
invariant-loop-byte l = l.text.items ++ encoded (drop l.byte-index l.bytes) ≡ l.fn.text.items ++ encoded l.bytes
