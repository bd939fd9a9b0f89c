use Rattle.std.proofs.Common.{◌≡◌, ℕ, List, drop}
use Rattle.um_description.specs.Packing.{offset_named}
use Rattle.um_description.specs.Spots.{or_else, spot_at, spot_in}
use Rattle.um_description.proofs.spots.add_variables.Given as goal

abbrev pub invariant-loop-variable : goal.invariant-loop-variable
invariant-loop-variable l =
    (text : List ℕ)
    → or_else (spot_in l.spots text) (spot_at l.partition (offset_named text l.end (drop l.variable-index l.variables)))
    ≡ or_else (spot_in l.fn.spots text) (spot_at l.partition (offset_named text 0 l.variables))
