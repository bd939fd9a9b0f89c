use Rattle.std.proofs.Common.{◌≡◌, ℕ, List, Option, drop}
use Rattle.toml.specs.Data.{Data}
use Rattle.toml.specs.View.{view, items_view}
use Rattle.um_document.specs.declared.check.Check.{Check}
use Rattle.um_document.specs.declared.place.Place.{Place}
use Rattle.um_document.specs.First.{first_place}
use Rattle.um_document.specs.Parts.{Part, each_item}
use Rattle.um_document.proofs.check.broken_at_items.Given as goal

abbrev pub invariant-loop-index : goal.invariant-loop-index
invariant-loop-index g l =
    (check : Check) (f : ℕ → Data → List Part) → ((i : ℕ) (item : _) (found : Option Place) → goal.F-post g l.find i item found → found ≡ first_place check (f i (view item.now)))
    → first_place check (each_item f l.index (items_view (drop l.index l.items))) ≡ first_place check (each_item f 0 (items_view l.items))
