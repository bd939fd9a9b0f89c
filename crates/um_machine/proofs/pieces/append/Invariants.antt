use Rattle.std.proofs.Common.{◌≡◌, ◌++◌, take}
use Rattle.um_machine.proofs.pieces.append.Given as goal

abbrev pub invariant-loop-byte : goal.invariant-loop-byte
invariant-loop-byte l = l.piece ≡ l.fn.piece ++ take l.byte-index l.bytes
