use Rattle.std.proofs.Common.{◌≡◌, ◌++◌, length}
use Rattle.um_document.specs.Forms.{decoded}
use Rattle.um_document.proofs.texts.decoded.Given as goal

abbrev pub invariant-pairs : goal.invariant-pairs
invariant-pairs l = l.bytes ++ decoded l.rest ≡ decoded l.fn.digits

abbrev pub decreases-pairs : goal.decreases-pairs
decreases-pairs l = length l.rest
