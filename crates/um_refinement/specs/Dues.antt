-- Dues: the rows that a thread has still to pass on or to drop aren't visited yet.
use Rattle.std.specs.Prelude.{◌≡◌, ℕ, ◌≤◌, Bool, true, false, ◌∷◌, length, slice_index_or}
use Rattle.um_base.specs.declared.limits.TheConstants.{ROWS}
use Rattle.um_machine.specs.declared.pending.Pending.{Pending}
use Rattle.um_machine.specs.Order.{Steps}
use Rattle.um_machine.specs.State.{State, thread_at}
use Rattle.um_refinement.specs.Fine.{Fine}
use Rattle.um_refinement.specs.Lists.{runs, visited}

-- it passes permissions on, or drops them
abbrev pub is_visiting : Steps → Bool
is_visiting (Pending.Inherit who ∷ rest) = true
is_visiting (Pending.Drops from ∷ rest) = true
is_visiting _ = false

-- A row that is due is the one that the processor visits next, or a higher one. The drops of an end begin at that row or at a lower one.
pub record DuesAre (f : Fine) (m : State) (k : ℕ) : Type 0 where
  pub passes : runs (f.processors k) ≡ true → is_visiting (f.processors k).context.pending ≡ true
      → (x : ℕ) → slice_index_or (thread_at m (f.processors k).context.thread).due x false ≡ true → visited (f.processors k).todo ≤ x
  pub drops : (from : ℕ) (rest : Steps) → runs (f.processors k) ≡ true → (f.processors k).context.pending ≡ Pending.Drops from ∷ rest
      → from ≤ visited (f.processors k).todo
  pub few : length (thread_at m (f.processors k).context.thread).due ≤ ROWS
