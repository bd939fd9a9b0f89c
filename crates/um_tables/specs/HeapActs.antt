-- What a processor asks of the heap's cell: the steps as they are made at a cell with these contents and this step number, and what the
-- cell says.
use Rattle.std.specs.Prelude.{ℕ, false, Option, None}
use Rattle.um_base.specs.declared.act.Act.{Act}
use Rattle.um_base.specs.declared.act.Event.{Event}
use Rattle.um_base.specs.declared.image.Image.{Image}
use Rattle.um_machine.specs.declared.object.Cost.{Cost}
use Rattle.um_words.specs.declared.fine.FineAct.{FineAct}
use Rattle.um_words.specs.declared.fine.More.{More}
use Rattle.um_fine.specs.Answers.{act_in, fits_in, reserved_in}
use Rattle.um_fine.specs.Cells.{Cell}
use Rattle.um_fine.specs.Heap.{Heap}
use Rattle.um_fine.specs.Steps.{Exchange, FineStep, Site}
use Rattle.um_tables.specs.Asked.{by_thread, cell_made, shown}
use Rattle.um_tables.specs.declared.heap_act.HeapAct.{HeapAct}
use Rattle.um_tables.specs.declared.heap_act.HeapSaid.{HeapSaid}

-- the act without the answer of the cell
abbrev pub heap_act : HeapAct → FineAct
heap_act (HeapAct.Reserve t kind) = shown t (Act.Reserve kind None) More.Nothing
heap_act (HeapAct.Buffer t n) = shown t (Act.Buffer n false) More.Nothing
heap_act (HeapAct.Unbuffer t n) = shown t (Act.Unbuffer n) More.Nothing
heap_act (HeapAct.Recycle t a) = shown t (Act.Recycle a) More.Nothing

abbrev pub heap_made : Image → ℕ → ℕ → Heap → HeapAct → Option Cost → FineStep
heap_made image cpu n h act charge = cell_made image cpu Site.heap n (Cell.heap h) (heap_act act) (Exchange.charge charge)

-- what the cell says, by the act with its answer
abbrev pub heap_said : FineAct → HeapSaid
heap_said act = record { addr = reserved_in (act_in act); fits = fits_in (act_in act) }

-- the event of the step, by what the cell says
abbrev pub heap_event : HeapAct → HeapSaid → Event
heap_event (HeapAct.Reserve t kind) said = by_thread t (Act.Reserve kind said.addr)
heap_event (HeapAct.Buffer t n) said = by_thread t (Act.Buffer n said.fits)
heap_event (HeapAct.Unbuffer t n) said = by_thread t (Act.Unbuffer n)
heap_event (HeapAct.Recycle t a) said = by_thread t (Act.Recycle a)
