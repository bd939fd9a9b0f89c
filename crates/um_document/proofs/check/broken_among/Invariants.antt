use Rattle.std.proofs.Common.{◌≡◌, List, Option, flat_map, drop}
use Rattle.um_document.specs.declared.check.Check.{Check}
use Rattle.um_document.specs.declared.place.Place.{Place}
use Rattle.um_document.specs.First.{first_place}
use Rattle.um_document.specs.Parts.{Part}
use Rattle.um_document.proofs.check.broken_among.Given as goal

abbrev pub invariant-loop-one : goal.invariant-loop-one
invariant-loop-one g l =
    (check : Check) (f : g.row.T.Denot → List Part) → ((one : _) (found : Option Place) → goal.F-post g l.find one found → found ≡ first_place check (f one.now))
    → first_place check (flat_map f (drop l.one-index l.all)) ≡ first_place check (flat_map f l.all)
