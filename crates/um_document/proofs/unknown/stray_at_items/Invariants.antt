use Rattle.std.proofs.Common.{◌≡◌, ℕ, List, drop}
use Rattle.std.specs.Prelude.{IfOk}
use Rattle.toml.specs.Data.{Data}
use Rattle.toml.specs.View.{view, items_view}
use Rattle.um_document.specs.First.{first_of}
use Rattle.um_document.specs.Parts.{each_item}
use Rattle.um_document.proofs.unknown.stray_at_items.Given as goal

abbrev pub invariant-loop-index : goal.invariant-loop-index
invariant-loop-index g l =
    (f : ℕ → Data → List (List ℕ)) → ((i : ℕ) (item : _) (found : _) → goal.F-post g l.find i item found → IfOk found (λ found. found ≡ first_of (f i (view item.now))))
    → first_of (each_item f l.index (items_view (drop l.index l.items))) ≡ first_of (each_item f 0 (items_view l.items))
