use Rattle.std.proofs.Common.{◌≡◌, ℕ, List, Option, drop}
use Rattle.um_document.specs.First.{first_of}
use Rattle.um_description.specs.Names.{each}
use Rattle.um_description.proofs.first.first_found.Given as goal

abbrev pub invariant-loop-i : goal.invariant-loop-i
invariant-loop-i g l =
    (f : ℕ → g.row.T.Denot → List g.row.B.Denot) → ((i : ℕ) (entry : _) (found : Option g.row.B.Denot) → goal.F-post g l.find i entry found → found ≡ first_of (f i entry.now))
    → first_of (each f l.i (drop l.i l.entries)) ≡ first_of (each f 0 l.entries)
