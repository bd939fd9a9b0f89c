-- Memory and the heap.
use Rattle.std.specs.Prelude.{◌≡◌, ℕ, ◌<◌, false, ◌&&◌, nat_le, length, slice_index_or}
use Rattle.um_base.specs.declared.limits.TheConstants.{STATIC_ROWS, ROWS}
use Rattle.um_machine.specs.Objects.{is_free}
use Rattle.um_machine.specs.State.{State, object_at}
use Rattle.um_fine.specs.Heap.{cost_at}
use Rattle.um_refinement.specs.Fine.{Fine, bytes, heap}

-- The cell of memory has the machine's bytes.
pub record MemoryIs (f : Fine) (m : State) : Type 0 where
  pub memory : (bytes f).memory ≡ m.memory
  pub stacks : (bytes f).stacks ≡ m.stacks
  pub futexes : (bytes f).futexes ≡ m.futexes

-- The heap has what is left in the pools, what each object cost, and the dynamic addresses at which none stands, by row.
pub record HeapIs (f : Fine) (m : State) : Type 0 where
  pub pools : (heap f).pools ≡ m.pools
  pub cost : (x : ℕ) → x < ROWS → cost_at (heap f) x ≡ (object_at m x).cost
  pub free : (x : ℕ) → x < ROWS → slice_index_or (heap f).free x false ≡ (nat_le STATIC_ROWS x && is_free (object_at m x).status)
  pub costs : length (heap f).costs ≡ ROWS
  pub frees : length (heap f).free ≡ ROWS
