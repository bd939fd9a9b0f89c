-- The memory's cell takes each step that is asked of it.
use Rattle.std.proofs.Common.{◌≡◌, refl, IsTrue, Some}
use Rattle.um_base.specs.declared.image.Image.{Image}
use Rattle.um_words.specs.CellActs.{memory_takes}
use Rattle.um_fine.specs.Memory.{Bytes, memory_says}
use Rattle.um_fine.specs.Steps.{Exchange}
use Rattle.um_tables.specs.Asked.{event_of}
use Rattle.um_tables.specs.MemoryActs.{memory_act, memory_event, memory_said}
use Rattle.um_tables.specs.declared.memory_act.MemoryAct.{MemoryAct}

-- the event by what the cell says of a step is that of the step
pub memory-made : (image : Image) (m : Bytes) (moved : Exchange) (act : MemoryAct)
    → let said = memory_says image m moved (memory_act act) in IsTrue (memory_takes said) × (Some (memory_event act (memory_said said)) ≡ event_of said)
memory-made image m moved (MemoryAct.Load t a n) = (refl, refl)
memory-made image m moved (MemoryAct.Store t a n value) = (refl, refl)
memory-made image m moved (MemoryAct.Fetch t a) = (refl, refl)
memory-made image m moved (MemoryAct.Fault t access a n) = (refl, refl)
memory-made image m moved (MemoryAct.Probe t a n fits) = (refl, refl)
memory-made image m moved (MemoryAct.CopyIn t a n fits) = (refl, refl)
memory-made image m moved (MemoryAct.CopyOut t a n fits) = (refl, refl)
memory-made image m moved (MemoryAct.CopyStr t a n) = (refl, refl)
memory-made image m moved (MemoryAct.Erase t stack) = (refl, refl)

pub memory-takes : (image : Image) (m : Bytes) (moved : Exchange) (act : MemoryAct) → IsTrue (memory_takes (memory_says image m moved (memory_act act)))
memory-takes image m moved act = (memory-made image m moved act).0
