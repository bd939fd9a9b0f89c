-- Objects: permissions, status, marks, contents.
use Rattle.std.specs.Prelude.{◌≡◌, ◌≢◌, ℕ, ◌<◌, Bool, true, false, ◌&&◌, not, nat_le, if◌then◌else◌, List, [], None, slice_index_or}
use Rattle.um_base.specs.declared.limits.TheConstants.{STATIC_ROWS}
use Rattle.um_machine.specs.declared.contents.Contents.TheVariants as Contents
use Rattle.um_machine.specs.declared.object.Object.{Object}
use Rattle.um_machine.specs.declared.object.Status.{Status}
use Rattle.um_machine.specs.Objects as Plain
use Rattle.um_machine.specs.State.{State, object_at}
use Rattle.um_words.specs.declared.row_word.Stage.{Stage}
use Rattle.um_words.specs.Rows.{is_free}
use Rattle.um_fine.specs.Objects.{ObjectCell}
use Rattle.um_fine.specs.Processor.{kind_of}
use Rattle.um_refinement.specs.Fine.{Fine, object, over_processors, row}
use Rattle.um_refinement.specs.Lists.{counted, is_recycle, is_vacate, is_wipe}

-- The permissions in the word are the machine's pairs. It is marked as dynamic while an object stands at a dynamic address.
pub record PairsAre (f : Fine) (m : State) (x : ℕ) : Type 0 where
  pub pairs : (row f x).permissions ≡ slice_index_or m.pairs x []
  pub dynamic : (row f x).dynamic ≡ (nat_le STATIC_ROWS x && not (is_free (row f x).stage))

-- the processors that have still to recycle the object, to vacate its row, to clear its cell
abbrev pub recyclers : Fine → ℕ → ℕ
recyclers f x = over_processors f (λ p. counted (is_recycle x) p.todo)

abbrev pub vacaters : Fine → ℕ → ℕ
vacaters f x = over_processors f (λ p. counted (is_vacate x) p.todo)

abbrev pub wipers : Fine → ℕ → ℕ
wipers f x = over_processors f (λ p. counted (is_wipe x) p.todo)

abbrev pub is_reserved : Status → Bool
is_reserved Status.Reserved = true
is_reserved _ = false

-- the status of an object by the stage of its row: a free row has none, or a reserved one
abbrev pub status_of : Stage → Bool → Status
status_of Stage.Live reserved = Status.Live
status_of Stage.Dying reserved = Status.Gone
status_of Stage.Cleaning reserved = Status.Gone
status_of Stage.Free reserved = if reserved then Status.Reserved else Status.Free

-- The word says what the object is. Whether a free row has a reserved object, the heap says. Between its `vacate` and its `recycle` the row
-- is already free, while the machine's object is still gone. A free row has no marks.
pub record StatusIs (f : Fine) (m : State) (x : ℕ) : Type 0 where
  pub status : vacaters f x ≡ recyclers f x → (object_at m x).status ≡ status_of (row f x).stage (is_reserved (object_at m x).status)
  pub vacated : vacaters f x < recyclers f x → ((row f x).stage ≡ Stage.Free) × ((object_at m x).status ≡ Status.Gone)
  pub init : vacaters f x ≡ recyclers f x → (row f x).init ≡ (object_at m x).init
  pub public : vacaters f x ≡ recyclers f x → (row f x).public ≡ (object_at m x).public
  pub bare : (row f x).stage ≡ Stage.Free → ((row f x).init ≡ false) × ((row f x).public ≡ false)
  pub kind : (object_at m x).status ≢ Status.Free → (object_at m x).kind ≡ kind_of f.image x

-- what the cell of an object keeps, and that of a row without one, but for the numbers of notes
abbrev pub cell_of : List ℕ → Object → ObjectCell
cell_of noted o = record { contents = o.contents; waiters = o.waiters; noted = noted; buffer = o.buffer }

abbrev pub empty_cell : List ℕ → ObjectCell
empty_cell noted = record { contents = Contents.Nothing; waiters = []; noted = noted; buffer = None }

-- The cell has the object's contents. It is empty between its clearing and the `recycle`, and where no object stands.
pub record ContentsAre (f : Fine) (m : State) (x : ℕ) : Type 0 where
  pub whole : wipers f x ≡ recyclers f x → object f x ≡ cell_of (object f x).noted (object_at m x)
  pub cleared : wipers f x < recyclers f x → object f x ≡ empty_cell (object f x).noted
  pub vacant : Plain.is_free (object_at m x).status ≡ true → object f x ≡ empty_cell (object f x).noted
