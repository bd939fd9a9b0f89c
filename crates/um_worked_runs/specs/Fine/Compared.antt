-- What is compared where the relation is tested on worked runs, and for which threads, rows and domains it is tested.
use Rattle.std.specs.Prelude.{ℕ, ◌+◌, Bool, true, false, ◌==◌, ◌&&◌, ◌||◌, not, List, [], ◌∷◌, length, Option, Some, None, is_some}
use Rattle.um_base.specs.declared.ask.Waiter.{Waiter}
use Rattle.um_base.specs.declared.image.Image.{Image}
use Rattle.um_base.specs.Regions.{Partitions}
use Rattle.um_machine.specs.declared.contents.Contents.{Contents}
use Rattle.um_machine.specs.declared.object.Cost.{Cost}
use Rattle.um_machine.specs.declared.object.Status.{Status}
use Rattle.um_machine.specs.declared.thread.Life.{Life}
use Rattle.um_words.specs.declared.row_word.Stage.{Stage}
use Rattle.um_fine.specs.Objects.{ObjectCell}
use Rattle.um_refinement.specs.Fine.{Fine}
use Rattle.um_worked_runs.specs.Fine.Evaluate.{Board, processor_in, site_in}

-- Equality, as far as it is tested.

abbrev pub same_numbers : List ℕ → List ℕ → Bool
same_numbers [] [] = true
same_numbers (x ∷ xs) (y ∷ ys) = x == y && same_numbers xs ys
same_numbers _ _ = false

abbrev pub same_bool : Bool → Bool → Bool
same_bool true b = b
same_bool false b = not b

abbrev pub same_bools : List Bool → List Bool → Bool
same_bools [] [] = true
same_bools (x ∷ xs) (y ∷ ys) = same_bool x y && same_bools xs ys
same_bools _ _ = false

abbrev pub life_number : Life → ℕ
life_number Life.Unborn = 0
life_number Life.Living = 1
life_number Life.Ended = 2

abbrev pub status_number : Status → ℕ
status_number Status.Free = 0
status_number Status.Reserved = 1
status_number Status.Live = 2
status_number Status.Gone = 3

abbrev pub stage_number : Stage → ℕ
stage_number Stage.Free = 0
stage_number Stage.Live = 1
stage_number Stage.Dying = 2
stage_number Stage.Cleaning = 3

abbrev pub implies : Bool → Bool → Bool
implies a b = not a || b

abbrev pub same_cost : Option Cost → Option Cost → Bool
same_cost None None = true
same_cost (Some a) (Some b) = a.pool == b.pool && a.bytes == b.bytes
same_cost _ _ = false

abbrev pub same_option : Option ℕ → Option ℕ → Bool
same_option None None = true
same_option (Some a) (Some b) = a == b
same_option _ _ = false

-- lists of waiters, by their threads and deadlines
abbrev pub same_waiters : List Waiter → List Waiter → Bool
same_waiters [] [] = true
same_waiters (v ∷ vs) (w ∷ ws) = v.thread.0 == w.thread.0 && same_option v.until w.until && same_waiters vs ws
same_waiters _ _ = false

abbrev pub is_nothing : Contents → Bool
is_nothing Contents.Nothing = true
is_nothing contents = false

abbrev pub is_empty : ObjectCell → Bool
is_empty o = is_nothing o.contents && length o.waiters == 0 && not (is_some o.buffer)

abbrev pub parts_length : Option Partitions → ℕ
parts_length None = 0
parts_length (Some ps) = length ps + 1

-- Which threads, rows and domains are tested.
pub record Tested : Type 0 where
  pub cpus : ℕ
  pub threads : List ℕ
  pub rows : List ℕ
  pub domains : List ℕ

-- the processors and sites of a board
abbrev pub fine_of : Image → Tested → Board → Fine
fine_of image n b = record { image = image; cpus = n.cpus; processors = processor_in b; sites = site_in b }
