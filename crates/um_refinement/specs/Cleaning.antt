-- Cleaning: an object that is gone and that nobody holds has exactly one processor that cleans it.
use Rattle.std.specs.Prelude.{◌≡◌, ℕ, ◌+◌, ◌<◌, ◌≤◌, false, ◌&&◌, not, [], ◌∷◌, ◌++◌, Some, None}
use Rattle.um_base.specs.declared.names.ThreadIx.{ThreadIx}
use Rattle.um_base.specs.declared.image.Image.{Image}
use Rattle.um_base.specs.Places.{thread_of_row}
use Rattle.um_machine.specs.Objects.{is_gone}
use Rattle.um_machine.specs.State.{State, object_at, pair_at}
use Rattle.um_words.specs.declared.row_word.Stage.{Stage}
use Rattle.um_words.specs.Rows.{is_dying}
use Rattle.um_fine.specs.Places.{Todo, Todos, emptying}
use Rattle.um_refinement.specs.Fine.{Fine, one_if, row}
use Rattle.um_refinement.specs.Lists.{cleaned_pairs, counted, is_cleared, is_recycle, is_wipe}
use Rattle.um_refinement.specs.Objects.{recyclers, vacaters}

-- An object in cleaning has no claim, and exactly one processor has to vacate its row and recycle it. That processor has it on its list
-- until its `recycle`.
pub record CleanersAre (f : Fine) (m : State) (x : ℕ) : Type 0 where
  pub unclaimed : (row f x).stage ≡ Stage.Cleaning → (row f x).claims ≡ 0
  pub cleaning : (row f x).stage ≡ Stage.Cleaning → vacaters f x ≡ 1
  pub order : vacaters f x ≤ recyclers f x
  pub cleaner : recyclers f x ≡ one_if (is_gone (object_at m x).status && not (is_dying (row f x).stage))

-- a list begins with these steps
abbrev pub BeginsWith : Todos → Todos → Type 0
BeginsWith block todo = (rest : Todos) × (todo ≡ block ++ rest)

-- On a list, each step of a cleaning is directly followed by the rest of that cleaning.
abbrev pub AreBlocks : Image → Todos → Type 0
AreBlocks image [] = Unit {0}
AreBlocks image (Todo.clean_pair who y ∷ todo) = ((x : ℕ) × (thread_of_row image x ≡ Some who) × BeginsWith (emptying x) todo) × AreBlocks image todo
AreBlocks image (Todo.wipe x ∷ todo) = BeginsWith (Todo.vacate x ∷ Todo.recycle x ∷ []) todo × AreBlocks image todo
AreBlocks image (Todo.vacate x ∷ todo) = BeginsWith (Todo.recycle x ∷ []) todo × AreBlocks image todo
AreBlocks image (q ∷ todo) = AreBlocks image todo

-- a processor has still to recycle this object
abbrev pub Cleans : Fine → ℕ → ℕ → Type 0
Cleans f k x = 0 < counted (is_recycle x) (f.processors k).todo

-- Every object that the machine has begun to clean is on some processor's list.
pub record CleanerIs (f : Fine) (m : State) (x : ℕ) : Type 0 where
  pub none : recyclers f x ≡ 0 → (object_at m x).cleaner ≡ None

-- the pairs of a thread object's thread that a processor has visited are gone
abbrev pub IsEmptied : Fine → State → ℕ → ℕ → Type 0
IsEmptied f m k x =
    (who : ℕ) → thread_of_row f.image x ≡ Some who → Cleans f k x → (y : ℕ) → y < cleaned_pairs who (f.processors k).todo → pair_at m who y ≡ false

-- If the machine has begun to clean an object, the processor that cleans it runs the machine's cleaning thread. The pairs of a thread
-- object's thread that it has visited are gone. It has cleared the cell of at most one object that it still has to recycle, and keeps what
-- that object's buffer cost.
pub record CleaningIs (f : Fine) (m : State) (k x : ℕ) : Type 0 where
  pub begun : (t : ThreadIx) → (object_at m x).cleaner ≡ Some t → Cleans f k x → (f.processors k).context.thread ≡ t.0
  pub emptied : IsEmptied f m k x
  pub order : counted (is_recycle x) (f.processors k).todo ≡ counted (is_wipe x) (f.processors k).todo + one_if (is_cleared x (f.processors k).todo)
  pub charged : Cleans f k x → counted (is_wipe x) (f.processors k).todo ≡ 0 → (f.processors k).charge ≡ (object_at m x).buffer
