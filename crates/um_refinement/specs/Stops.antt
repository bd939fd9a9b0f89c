-- Who is aborted, suspended or joined: notes, cuts, sleepers, and indices that nobody joins.
use Rattle.std.specs.Prelude.{◌≡◌, ◌≢◌, ◌⊎◌, ℕ, ◌+◌, ◌<◌, ◌≤◌, Bool, true, false, ◌==◌, ◌&&◌, nat_lt, if◌then◌else◌, List, [], ◌∷◌, Option, Some, None, is_some, slice_index_or, length, ◌||◌, nat_le}
use Rattle.std.specs.List.{list_all, list_any}
use Rattle.um_base.specs.declared.limits.TheConstants.{FUTEX_CELL, JOIN_CELL, ROWS, THREADS}
use Rattle.um_base.specs.declared.image.Image.{Image}
use Rattle.um_base.specs.Places.{own_row, thread_of_row}
use Rattle.um_machine.specs.declared.pending.Pending.{Pending}
use Rattle.um_machine.specs.declared.thread.Life.{Life}
use Rattle.um_machine.specs.Order.{Steps}
use Rattle.um_machine.specs.State.{State, thread_at, waiters_in}
use Rattle.um_fine.specs.Context.{Context}
use Rattle.um_fine.specs.Addresses.{row_named}
use Rattle.um_fine.specs.Joins.{asleep_at, is_joined, is_shut}
use Rattle.um_fine.specs.Places.{Todo, Todos, noted_cell}
use Rattle.um_fine.specs.Processor.{Processor}
use Rattle.um_fine.specs.Scheduler.{parked_at}
use Rattle.um_fine.specs.Seeking.{stands_in}
use Rattle.um_refinement.specs.Fine.{Fine, bytes, joins, object, scheduler, word}
use Rattle.um_refinement.specs.Lists.{runs_thread}
use Rattle.um_refinement.specs.Offers.{is_over}
use Rattle.um_refinement.specs.Threads.{cutters, told_by}

-- the site of a cell in which threads wait: of an object's row, of the joins, of the futexes
abbrev pub cell_site : ℕ → ℕ
cell_site c = if c == JOIN_CELL then 308 else if c == FUTEX_CELL then 304 else 168 + c

-- whether a site is that of a cell in which threads wait
abbrev pub is_waiting_site : ℕ → Bool
is_waiting_site site = (site == 308) || (site == 304) || (nat_le 168 site && nat_lt site 296)

-- a thread waits in a cell
abbrev pub waits_at : State → ℕ → ℕ → Bool
waits_at m t c = stands_in t (waiters_in m c)

-- the number of its note that a cell keeps of a thread
abbrev pub notes_in : Fine → ℕ → List ℕ
notes_in f c = if c == JOIN_CELL then (joins f).noted else if c == FUTEX_CELL then (bytes f).noted else (object f c).noted

abbrev pub noted_at : Fine → ℕ → ℕ → ℕ
noted_at f c t = slice_index_or (notes_in f c) t 0

-- a step on a list: a look for this thread in the cell of this site; one that reads the own word once more; one that rouses it
abbrev pub is_look : ℕ → ℕ → ℕ → Todo → Bool
is_look t site noted (Todo.look who there before) = who == t && there == site && nat_lt noted before
is_look t site noted _ = false

abbrev pub is_reread : ℕ → Todo → Bool
is_reread site (Todo.reread there) = there == site
is_reread site _ = false

abbrev pub is_rouse : ℕ → Todo → Bool
is_rouse t (Todo.rouse who) = who == t
is_rouse t _ = false

abbrev pub is_reread_asleep : Todo → Bool
is_reread_asleep Todo.reread_asleep = true
is_reread_asleep _ = false

-- Own parts of a thread that has a step left: with a processor that runs it, parked, or asleep.
pub data LiesAt (f : Fine) (t : ℕ) : Context → Type 0 where
  runs_it : (k : ℕ) → k < f.cpus → runs_thread t (f.processors k) ≡ true → is_over (f.processors k).context ≡ false → LiesAt f t (f.processors k).context
  parked : (c : Context) → parked_at (scheduler f) t ≡ Some c → LiesAt f t c
  asleep : (c : Context) → asleep_at (joins f) t ≡ Some c → LiesAt f t c

-- from here on a call makes no act and arms no deadline, and it ends
abbrev pub Ends : Steps → Type 0
Ends [] = ⊥
Ends (Pending.Begin ∷ rest) = ⊥
Ends (Pending.Exit ∷ rest) = ⊥
Ends (Pending.Work a ask ∷ rest) = ⊥
Ends (Pending.Join who timeout ∷ rest) = ⊥
Ends (Pending.FutexWait a value timeout ∷ rest) = ⊥
Ends (Pending.Arm ticks ∷ rest) = ⊥
Ends (Pending.ArmTimer ticks ∷ rest) = ⊥
Ends (Pending.Dooms from ∷ rest) = ⊥
Ends (Pending.EnterUser script ∷ rest) = ⊥
Ends (Pending.Answer reply to ∷ rest) = rest ≡ []
Ends (Pending.Fatal reason cause ∷ rest) = Unit {0}
Ends (Pending.Killed ∷ rest) = Unit {0}
Ends (q ∷ rest) = Ends rest

-- the next step but a visit, or the arming of a deadline, is an act that may wait in the cell of this site, and behind it the call ends
abbrev pub ActsIn : Image → ℕ → Steps → Type 0
ActsIn image site [] = ⊥
ActsIn image site (Pending.Inherit who ∷ rest) = ActsIn image site rest
ActsIn image site (Pending.Drops from ∷ rest) = ActsIn image site rest
ActsIn image site (Pending.Arm ticks ∷ rest) = ActsIn image site rest
ActsIn image site (q ∷ rest) = (noted_cell image (q ∷ []) ≡ Some site) × Ends rest

-- what is left of a call that has noted the cell of this site: it makes its act next, and that in this cell, or has made it
abbrev pub HasNoted : Image → ℕ → Steps → Type 0
HasNoted image site steps = Ends steps ⊎ ActsIn image site steps

-- The word of a thread has a note exactly while its own part has the number of one; that number is one of the word's, and the site that of a
-- cell in which threads wait. A thread that waits is noted at its cell, which keeps that number. One with a note is in a call that has noted
-- that cell: so one at rest has none.
pub record NoteIs (f : Fine) (m : State) (t : ℕ) : Type 0 where
  pub there : (c : Context) → LiesAt f t c → is_some (word f t).note ≡ is_some c.noted
  pub number : (c : Context) (n : ℕ) → LiesAt f t c → c.noted ≡ Some n → n ≤ (word f t).number
  pub cell : (site : ℕ) → (word f t).note ≡ Some site → is_waiting_site site ≡ true
  pub waits : (c : ℕ) → c < ROWS + 2 → waits_at m t c ≡ true → (word f t).note ≡ Some (cell_site c)
  pub kept : (x : ℕ) (c : Context) → x < ROWS + 2 → waits_at m t x ≡ true → LiesAt f t c → c.noted ≡ Some (noted_at f x t)
  pub call : (site : ℕ) → (word f t).note ≡ Some site → HasNoted f.image site (thread_at m t).pending

-- That a thread was cut and isn't taken yet stands in one place at most. Then the machine has nothing left of it but that it is killed,
-- and nobody tells it anything. Who is to be killed so is aborted.
pub record CutIs (f : Fine) (m : State) (t : ℕ) : Type 0 where
  pub once : cutters f t ≤ 1
  pub left : 0 < cutters f t → (thread_at m t).pending ≡ Pending.Killed ∷ []
  pub told : 0 < cutters f t → told_by f t f.cpus ≡ None
  pub aborted : (thread_at m t).pending ≡ Pending.Killed ∷ [] → (word f t).aborted ≡ true

-- an aborted thread that waits in a cell is going to be cut: by a processor that is to look there, for a note as old as its own, or by
-- the one that runs it and is to read its word once more
pub data IsCutComing (f : Fine) (t c : ℕ) : Type 0 where
  looks : (k : ℕ) → k < f.cpus → list_any (is_look t (cell_site c) (noted_at f c t)) (f.processors k).todo ≡ true → IsCutComing f t c
  reads : (k : ℕ) → k < f.cpus → runs_thread t (f.processors k) ≡ true → list_any (is_reread (cell_site c)) (f.processors k).todo ≡ true → IsCutComing f t c

pub record CutComes (f : Fine) (m : State) (t : ℕ) : Type 0 where
  pub comes : (c : ℕ) → c < ROWS + 2 → (word f t).aborted ≡ true → waits_at m t c ≡ true → IsCutComing f t c

abbrev pub Looking : Todos → ℕ → ℕ → ℕ → Type 0
Looking [] t site before = ⊥
Looking (Todo.look who there older ∷ todo) t site before = ((who ≡ t) × (there ≡ site) × (older ≡ before)) ⊎ Looking todo t site before
Looking (q ∷ todo) t site before = Looking todo t site before

-- a step on a list that looks, or may look next, in the cell of a site
abbrev pub looks_in : Todo → Option ℕ
looks_in (Todo.look who site before) = Some site
looks_in (Todo.reread site) = Some site
looks_in _ = None

abbrev pub looks_well : Todo → Bool
looks_well q = elim (looks_in q) as (λ _. Bool) [ None ↦ true | Some site ↦ is_waiting_site site ]

-- Looks are made in cells in which threads wait.
abbrev pub LookThere : Fine → ℕ → Type 0
LookThere f k = list_all looks_well (f.processors k).todo ≡ true

-- A look is for a step of the word that was made. Where the call of a thread has an older note, that thread is aborted: so who a look
-- finds is aborted, and none of a later life is found.
pub record LooksFit (f : Fine) (t : ℕ) : Type 0 where
  pub made : (k site before : ℕ) → k < f.cpus → Looking (f.processors k).todo t site before → before ≤ (word f t).number
  pub aborted : (k site before n : ℕ) (c : Context) → k < f.cpus → Looking (f.processors k).todo t site before → LiesAt f t c → c.noted ≡ Some n → n < before
      → (word f t).aborted ≡ true

-- a thread that sleeps is suspended and not aborted, or somebody is to rouse it, or the one that put it to sleep is to read its word once more
pub data IsRouseComing (f : Fine) (t : ℕ) : Type 0 where
  sleeps : (word f t).suspended ≡ true → (word f t).aborted ≡ false → IsRouseComing f t
  rouses : (k : ℕ) → k < f.cpus → list_any (is_rouse t) (f.processors k).todo ≡ true → IsRouseComing f t
  reads : (k : ℕ) → k < f.cpus → (f.processors k).context.thread ≡ t → list_any is_reread_asleep (f.processors k).todo ≡ true → IsRouseComing f t

pub record SleepIs (f : Fine) (t : ℕ) : Type 0 where
  pub comes : (c : Context) → asleep_at (joins f) t ≡ Some c → IsRouseComing f t

-- the object of a thread is cleared on a list, and all who wait for its end were told
abbrev pub clears : Image → ℕ → Todos → Bool
clears image t [] = false
clears image t (Todo.leave ∷ todo) = false
clears image t (Todo.show (Pending.ClearInit a) rest ∷ todo) = row_named image a == own_row image t
clears image t (Todo.show q rest ∷ todo) = false
clears image t (q ∷ todo) = clears image t todo

-- a processor clears its own thread's object
abbrev pub clears_own : Fine → Processor → Todos → Bool
clears_own f p todo = clears f.image p.context.thread todo

-- a processor starts a thread next, which may be joined by now
abbrev pub starts : Todos → Option ℕ
starts [] = None
starts (Todo.unshut who ∷ todo) = None
starts (Todo.show (Pending.Start who script stack priority mode) rest ∷ todo) = Some who.0
starts (q ∷ todo) = starts todo

-- the object of a thread index is its own
abbrev pub HasOwn : Image → ℕ → Type 0
HasOwn image t = thread_of_row image (own_row image t) ≡ Some t

-- a thread keeps its own object, or a processor starts it next
pub data IsOwned (f : Fine) (m : State) (t : ℕ) : Type 0 where
  keeps : (thread_at m t).keeps_own ≡ true → IsOwned f m t
  starting : (k : ℕ) → k < f.cpus → starts (f.processors k).todo ≡ Some t → IsOwned f m t

-- Nobody joins an index that is shut, which doesn't live. One with an object of its own that isn't shut is of a thread that keeps that object, or is
-- started next. It is shut when its own object is cleared, and isn't when it starts.
pub record ShutIs (f : Fine) (m : State) (t : ℕ) : Type 0 where
  pub dead : is_shut (joins f) t ≡ true → (thread_at m t).life ≢ Life.Living
  pub alone : is_shut (joins f) t ≡ true → is_joined (joins f) t ≡ false
  pub owned : HasOwn f.image t → is_shut (joins f) t ≡ false → IsOwned f m t
  pub clears : (k : ℕ) → k < f.cpus → runs_thread t (f.processors k) ≡ true → clears_own f (f.processors k) (f.processors k).todo ≡ true → is_shut (joins f) t ≡ true
  pub begins : (k : ℕ) → k < f.cpus → starts (f.processors k).todo ≡ Some t → is_shut (joins f) t ≡ false

-- The cell of the joins has the machine's joins, and a place for each thread index.
pub record JoinsAre (f : Fine) (m : State) : Type 0 where
  pub waiters : (joins f).waiters ≡ m.joins
  pub shut : length (joins f).shut ≡ THREADS
  pub asleep : length (joins f).asleep ≡ THREADS

-- Each cell in which threads wait has a place for the number of a note of each thread index.
pub record NotesAre (f : Fine) : Type 0 where
  pub places : (c : ℕ) → c < ROWS + 2 → length (notes_in f c) ≡ THREADS
