use Rattle.std.proofs.Common.{◌≡◌, length}
use Rattle.um_opening.specs.Opened.{AreDomains}
use Rattle.um_opening.proofs.words.domains.Given as goal

abbrev pub invariant-loop-d : goal.invariant-loop-d
invariant-loop-d l = record { words : AreDomains l.state l.d l.words.items; long : length l.words.items ≡ l.d }
