-- The search for a free address, and that the heap's cell takes each step that is asked of it.
use Rattle.std.proofs.Common.{◌≡◌, ℕ, suc, ◌+◌, ◌-◌, ◌<◌, Some, IsTrue, arith, refl, if◌then◌else◌}
use Rattle.um_base.specs.declared.image.Image.{Image}
use Rattle.um_base.specs.declared.names.Kind.{Kind}
use Rattle.um_words.specs.CellActs.{heap_takes}
use Rattle.um_fine.specs.Heap.{Heap, heap_says, is_open, least_open}
use Rattle.um_fine.specs.Steps.{Exchange}
use Rattle.um_tables.specs.HeapActs.{heap_act}
use Rattle.um_tables.specs.declared.heap_act.HeapAct.{HeapAct}

pub open_more : (h : Heap) (kind : Kind) (x : ℕ) → x < 128
    → least_open h kind x (128 - x) ≡ (if is_open h kind x then Some x else least_open h kind (x + 1) (128 - (x + 1)))
open_more h kind x room = let e : 128 - x ≡ suc (128 - (x + 1)) = omega arith in rw e refl

pub heap-takes : (image : Image) (h : Heap) (moved : Exchange) (act : HeapAct) → IsTrue (heap_takes (heap_says image h moved (heap_act act)))
heap-takes image h moved (HeapAct.Reserve t kind) = refl
heap-takes image h moved (HeapAct.Buffer t n) = refl
heap-takes image h moved (HeapAct.Unbuffer t n) = refl
heap-takes image h moved (HeapAct.Recycle t a) = refl
