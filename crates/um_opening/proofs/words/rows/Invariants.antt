use Rattle.std.proofs.Common.{◌≡◌, length}
use Rattle.um_opening.specs.Opened.{AreRows}
use Rattle.um_opening.proofs.words.rows.Given as goal

abbrev pub invariant-loop-x : goal.invariant-loop-x
invariant-loop-x l = record { words : AreRows l.state l.x l.words.items; long : length l.words.items ≡ l.x }
