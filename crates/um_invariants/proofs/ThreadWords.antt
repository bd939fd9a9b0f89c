-- What holds of the threads in each state that a run reaches: which steps are left to them, who waits, and what is due.
use Rattle.std.proofs.Common.{◌≡◌, ◌≢◌, ◌⊎◌, ◌≤◌, ◌<◌, ℕ, Bool, true, false, ◌==◌, ◌&&◌, ◌||◌, not, List, [], ◌∷◌, length, Option, Some, None, slice_index_or, slice_get}
use Rattle.std.specs.Prelude.{is_some}
use Rattle.um_base.specs.declared.image.Image.{Image}
use Rattle.um_base.specs.declared.limits.TheConstants.{THREADS}
use Rattle.um_base.specs.declared.names.ThreadIx.{ThreadIx}
use Rattle.um_base.specs.Places.{own_row}
use Rattle.um_machine.specs.declared.pending.Pending.{Pending}
use Rattle.um_machine.specs.declared.thread.Thread.{Thread}
use Rattle.um_machine.specs.Order.{Steps}
use Rattle.um_machine.specs.Run.{is_tending}
use Rattle.um_machine.specs.State.{State, thread_at, is_living}
use Rattle.um_invariants.specs.Lines.{stands}
use Rattle.um_invariants.specs.Ready.{is_ready_step}
use Rattle.um_invariants.proofs.Claims.{claims}
use Rattle.um_invariants.proofs.ThreadCells.{cell}
use Rattle.um_invariants.proofs.ThreadWaits.{times}

-- What a thread may do.

-- it goes on with its instruction, is living and at rest, or stands still
abbrev pub is_on : Thread → Bool
is_on me = is_ready_step (is_some me.told) (slice_get me.pending 0)

abbrev pub is_resting : Thread → Bool
is_resting me = is_living me.life && length me.pending == 0

abbrev pub stands_still : Thread → Bool
stands_still me = me.doomed && length me.pending == 0

-- it can make a step by itself, unless it is suspended: it goes on, or begins its line, or ends
abbrev pub may_step : Thread → Bool
may_step me = is_on me || (is_resting me && not me.doomed)

-- it may be among those that are ready
abbrev pub may_stand : Thread → Bool
may_stand me = may_step me || stands_still me

-- what becomes of a thread by the step of another one, which starts or wakes it or not
pub record IsFramed (x : Thread) (added : Bool) (y : Thread) : Type 0 where
  pub runs : is_on x ≡ true → (is_on y ≡ true) × (added ≡ false)
  pub goes : may_step y ≡ true → (may_step x ≡ true) ⊎ (added ≡ true)
  pub stays : may_stand x ≡ true → may_stand y ≡ true
  pub comes : added ≡ true → may_stand y ≡ true

-- whether a step leaves its own thread as it is: it tends, or tells those who wait for the thread's end
abbrev pub is_beside : Pending → Bool
is_beside Pending.Left = true
is_beside p = is_tending p

-- The steps that are left.

abbrev pub starts_one : Steps → Bool
starts_one (Pending.Start who script stack priority mode ∷ rest) = true
starts_one steps = false

abbrev pub clears_one : Steps → Bool
clears_one (Pending.ClearInit a ∷ rest) = true
clears_one steps = false

-- a start is behind each inheritance, and none of these steps drops what is due or cleans
abbrev pub are_plain : Steps → Bool
are_plain [] = true
are_plain (Pending.Inherit who ∷ rest) = starts_one rest && are_plain rest
are_plain (Pending.Drops from ∷ rest) = false
are_plain (Pending.CleanPair who ∷ rest) = false
are_plain (Pending.Recycle ∷ rest) = false
are_plain (p ∷ rest) = are_plain rest

-- the drops of an end come first, and a clearing is behind them
abbrev pub are_orderly : Steps → Bool
are_orderly (Pending.Drops from ∷ rest) = clears_one rest && are_plain rest
are_orderly steps = are_plain steps

-- drops have all rows before them that are due
abbrev pub DueFrom : Steps → List Bool → Type 0
DueFrom (Pending.Drops from ∷ rest) due = (r : ℕ) → slice_index_or due r false ≡ true → from ≤ r
DueFrom steps due = Unit {0}

abbrev pub is_resume : Steps → Bool
is_resume (Pending.Resume ∷ rest) = true
is_resume steps = false

pub record IsOrderly (me : Thread) : Type 0 where
  pub steps : are_orderly me.pending ≡ true
  pub from : DueFrom me.pending me.due
  -- only one that waits is told something
  pub told : is_resume me.pending ≡ false → me.told ≡ None

-- What is due.

abbrev pub has_pair : List (List Bool) → ℕ → ℕ → Bool
has_pair pairs t r = slice_index_or (slice_index_or pairs r []) t false

-- a row that is due can be passed on, or dropped
abbrev pub MayPass : Image → List (List Bool) → ℕ → Option ThreadIx → ℕ → Type 0
MayPass image pairs t None r = has_pair pairs t r ≡ true
MayPass image pairs t (Some who) r = (has_pair pairs t r ≡ true) × (has_pair pairs who.0 r ≡ false) × (r ≢ own_row image t)

abbrev pub AreDue : Image → List (List Bool) → ℕ → Thread → Type 0
AreDue image pairs t me = (r : ℕ) → slice_index_or me.due r false ≡ true → MayPass image pairs t me.child r

-- States.

pub record AreKept (s : State) : Type 0 where
  pub many : length s.threads ≡ THREADS
  pub orderly : (u : ℕ) → IsOrderly (thread_at s u)
  pub due : (u : ℕ) → AreDue s.image s.pairs u (thread_at s u)
  -- who waits in a cell is to resume and isn't told yet, and waits in that cell alone
  pub waits : (x u : ℕ) → 1 ≤ times u (cell s x) → (is_resume (thread_at s u).pending ≡ true) × ((thread_at s u).told ≡ None)
  pub once : (x u : ℕ) → times u (cell s x) ≤ 1
  pub sole : (x y u : ℕ) → 1 ≤ times u (cell s x) → 1 ≤ times u (cell s y) → x ≡ y

-- a step of a thread keeps that, and these are started or woken by it
pub record IsMade (s : State) (t : ℕ) (line : List ℕ) (s2 : State) : Type 0 where
  pub kept : AreKept s2
  pub others : (u : ℕ) → u ≢ t → IsFramed (thread_at s u) (stands line u) (thread_at s2 u)
  pub apart : stands line t ≡ false

-- the same thread, with less due
pub record IsAlike (x y : Thread) : Type 0 where
  pub life : y.life ≡ x.life
  pub doomed : y.doomed ≡ x.doomed
  pub pending : y.pending ≡ x.pending
  pub told : y.told ≡ x.told
  pub child : y.child ≡ x.child
  pub due : (r : ℕ) → slice_index_or y.due r false ≡ true → slice_index_or x.due r false ≡ true

-- what a step does before it writes its own thread
pub record IsBase (s s1 : State) : Type 0 where
  pub image : s1.image ≡ s.image
  pub many : length s1.threads ≡ length s.threads
  pub alike : (u : ℕ) → IsAlike (thread_at s u) (thread_at s1 u)
  pub due : (u : ℕ) → AreDue s1.image s1.pairs u (thread_at s1 u)
  pub waiters : (x u : ℕ) → times u (cell s1 x) ≤ times u (cell s x)

-- a thread makes one of its steps, or one behind that it skips
pub record IsOffered (s : State) (t : ℕ) (p : Pending) (rest : Steps) : Type 0 where
  pub first : are_orderly (p ∷ rest) ≡ true
  pub behind : are_plain rest ≡ true
  pub from : DueFrom (p ∷ rest) (thread_at s t).due
  pub told : is_resume (p ∷ rest) ≡ false → (thread_at s t).told ≡ None
  pub apart : (x : ℕ) → times t (cell s x) ≡ 0
  pub claim : (w : ℕ) → claims s.image w (p ∷ rest) ≡ true → claims s.image w (thread_at s t).pending ≡ true
  pub inside : t < length s.threads
