-- What is in the words and the slots of a closed board, by their numbers.
use Rattle.std.proofs.Common.{◌≡◌, ℕ, zero, suc, List, [], ◌∷◌, refl}
use Rattle.std.specs.Prelude.{IsTrue, slice_index}
use mathlib.Core.Option.{some}
use lib.ListN.{get_elem?}
use Rattle.um_words.specs.declared.kind.CellKind.{CellKind}
use Rattle.um_fine.specs.Cells.{Cell}
use Rattle.um_fine.specs.Sites.{SiteState, is_sort}
use Rattle.um_fine.specs.Steps.{Site}
use Rattle.um_board.specs.Turned.{kind_of}

-- the word that is found at an index stands there
pub found-there : (words : List ℕ) (i w : ℕ) → get_elem? words i ≡ some w → slice_index words i ≡ w
found-there [] i w e = absurd (cc)
found-there (x ∷ words) zero w e = cc
found-there (x ∷ words) (suc i) w e = found-there words i w e

-- a cell of the sort of its site is of the site's kind

pub memory-kind : (n : ℕ) (c : Cell) → IsTrue (is_sort Site.memory (SiteState.cell n c)) → kind_of c ≡ CellKind.Memory
memory-kind n (Cell.memory m) sort = refl
memory-kind n c sort = absurd (cc)

pub heap-kind : (n : ℕ) (c : Cell) → IsTrue (is_sort Site.heap (SiteState.cell n c)) → kind_of c ≡ CellKind.Heap
heap-kind n (Cell.heap h) sort = refl
heap-kind n c sort = absurd (cc)

pub scheduler-kind : (n : ℕ) (c : Cell) → IsTrue (is_sort Site.scheduler (SiteState.cell n c)) → kind_of c ≡ CellKind.Scheduler
scheduler-kind n (Cell.scheduler s) sort = refl
scheduler-kind n c sort = absurd (cc)

pub joins-kind : (n : ℕ) (c : Cell) → IsTrue (is_sort Site.joins (SiteState.cell n c)) → kind_of c ≡ CellKind.Join
joins-kind n (Cell.joins j) sort = refl
joins-kind n c sort = absurd (cc)

pub object-kind : (x n : ℕ) (c : Cell) → IsTrue (is_sort (Site.object x) (SiteState.cell n c)) → kind_of c ≡ CellKind.Object
object-kind x n (Cell.object o) sort = refl
object-kind x n c sort = absurd (cc)
