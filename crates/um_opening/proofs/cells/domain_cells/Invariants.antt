use Rattle.std.proofs.Common.{◌≡◌, length}
use Rattle.um_opening.specs.Opened.{AreParts}
use Rattle.um_opening.proofs.cells.domain_cells.Given as goal

abbrev pub invariant-loop-d : goal.invariant-loop-d
invariant-loop-d l = record { parts : AreParts l.state l.d l.cells.items; long : length l.cells.items ≡ l.d }
