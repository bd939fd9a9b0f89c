-- Which step a thread may make, and runs of steps.
use Rattle.std.specs.Prelude.{◌≡◌, ◌≢◌, ◌⊎◌, ℕ, ◌+◌, ◌-◌, ◌≤◌, Bool, true, false, ◌==◌, ◌&&◌, ◌||◌, not, nat_lt, nat_le, IsTrue, List, [], ◌∷◌, map, take, replicate, Option, Some, None, is_some, slice_get, slice_index_or}
use Rattle.std.specs.List.{list_all, list_any}
use Rattle.um_base.specs.declared.names.Kind.{Kind}
use Rattle.um_base.specs.declared.names.Row.{Row}
use Rattle.um_base.specs.declared.act.Event.{Event}
use Rattle.um_base.specs.declared.ask.Told.{Told}
use Rattle.um_base.specs.declared.ask.Waiter.{Waiter}
use Rattle.um_base.specs.declared.image.Boot.{Boot}
use Rattle.um_base.specs.declared.image.DomainDef.{DomainDef}
use Rattle.um_base.specs.declared.image.Image.{Image}
use Rattle.um_base.specs.declared.image.ObjectDef.{ObjectDef}
use Rattle.um_base.specs.declared.image.Partition.{Partition}
use Rattle.um_base.specs.declared.image.Pool.{Pool}
use Rattle.um_base.specs.declared.image.Setup.{Setup}
use Rattle.um_machine.specs.declared.contents.Contents.{Contents}
use Rattle.um_machine.specs.declared.thread.Life.TheVariants as Life
use Rattle.um_machine.specs.declared.object.Object.{Object}
use Rattle.um_machine.specs.declared.pending.Pending.{Pending}
use Rattle.um_machine.specs.declared.object.Status.TheVariants as Status
use Rattle.um_machine.specs.declared.thread.Thread.{Thread}
use Rattle.um_base.specs.declared.limits.TheConstants.{THREADS, ROWS, STATIC_ROWS, AREA_SIZE}
use Rattle.um_base.specs.Places.{own_row, thread_of_row, dynamic_kind}
use Rattle.um_base.specs.Regions.{Partitions}
use Rattle.um_machine.specs.State.{State, nobody, vacant, thread_at, object_at, with_thread, waiters_in, is_waiting, pair_at, with_pair, is_living, is_started, first_place, instruction_at}
use Rattle.um_machine.specs.Memory.{with_bytes}
use Rattle.um_machine.specs.Objects.{is_gone, is_free, is_held, has_none, kind_number}
use Rattle.um_machine.specs.Order.{Steps, to_thread}
use Rattle.um_machine.specs.Services.{queue, stack, pipe}
use Rattle.um_machine.specs.Domains.{part_at}
use Rattle.um_machine.specs.Time.{next_deadline, has_come, has_run_out}
use Rattle.um_machine.specs.Joins.{is_joined, may_say, is_ending}
use Rattle.um_machine.specs.Table.{act_of, after, pays, row_of}

-- whether a thread waits among these
abbrev pub stands_in : ℕ → List Waiter → Bool
stands_in t ws = list_any (λ (w : Waiter). w.thread.0 == t) ws

-- whether a thread waits in a cell
abbrev pub waits_at : State → ℕ → ℕ → Bool
waits_at s t c = is_waiting (thread_at s t) && stands_in t (waiters_in s c)

-- whether nothing is due
abbrev pub none_due : Thread → Bool
none_due me = list_all not me.due

-- what a thread at rest may do: begin its line, or exit after the last one
abbrev pub rest_steps : Option Pending → Steps
rest_steps None = []
rest_steps (Some p) = p ∷ []

-- whether a thread at rest may begin its line, or exit: it is neither doomed nor aborted nor suspended
abbrev pub may_go : Thread → Bool
may_go me = not (me.doomed || me.aborted || me.suspended)

-- whether a thread at rest ends since it was aborted: a doomed one makes no step
abbrev pub must_stop : Thread → Bool
must_stop me = not me.doomed && me.aborted

-- whether a step isn't of an instruction: it tends to time, to one that is aborted, or to what others have left
abbrev pub is_tending : Pending → Bool
is_tending (Pending.CleanPair who) = true
is_tending Pending.Recycle = true
is_tending Pending.Tick = true
is_tending (Pending.TimeOut who) = true
is_tending Pending.Expire = true
is_tending (Pending.Cut who) = true
is_tending step = false

-- The steps of which a thread may make the first.
pub data Offers (s : State) (t : ℕ) : Pending → Steps → Type 0 where
  -- the next step of its instruction
  goes : {p : Pending} {rest : Steps} → (thread_at s t).pending ≡ p ∷ rest → Offers s t p rest
  -- the one after an inheritance or the drops of an end, where nothing is due
  skips_inherit : {who : _} {p : Pending} {rest : Steps} → (thread_at s t).pending ≡ Pending.Inherit who ∷ p ∷ rest → IsTrue (none_due (thread_at s t)) → Offers s t p rest
  skips_drops : {from : ℕ} {p : Pending} {rest : Steps} → (thread_at s t).pending ≡ Pending.Drops from ∷ p ∷ rest → IsTrue (none_due (thread_at s t)) → Offers s t p rest
  -- a living thread at rest that may go begins its line, or exits where none is left; one that is aborted ends
  begins : (thread_at s t).pending ≡ [] → IsTrue (is_living (thread_at s t).life) → IsTrue (may_go (thread_at s t)) → IsTrue (is_some (instruction_at s.image (thread_at s t).place)) → Offers s t Pending.Begin []
  exits : (thread_at s t).pending ≡ [] → IsTrue (is_living (thread_at s t).life) → IsTrue (may_go (thread_at s t)) → instruction_at s.image (thread_at s t).place ≡ None → Offers s t Pending.Exit []
  stops : (thread_at s t).pending ≡ [] → IsTrue (is_living (thread_at s t).life) → IsTrue (must_stop (thread_at s t)) → Offers s t Pending.Killed []
  -- a thread in its end tells those who wait for it
  leaves : IsTrue (is_ending (thread_at s t)) → Offers s t Pending.Left (thread_at s t).pending
  -- any thread that was started may tend
  tends : {p : Pending} → IsTrue (is_tending p) → IsTrue (is_started (thread_at s t).life) → Offers s t p (thread_at s t).pending

-- whether a row is free for an object of this kind
abbrev pub is_free_for : State → Kind → ℕ → Bool
is_free_for s kind x = nat_le STATIC_ROWS x && nat_lt x ROWS && kind_number (dynamic_kind x) == kind_number kind && is_free (object_at s x).status

-- whether a thread cleans an object: it is gone, nobody holds it, and no other thread has begun to clean it
abbrev pub MayClean : State → ℕ → ℕ → Type 0
MayClean s t x = IsTrue (is_gone (object_at s x).status) × IsTrue (not (is_held s x)) × (((object_at s x).cleaner ≡ None) ⊎ ((object_at s x).cleaner ≡ Some (to_thread t)))

-- no pair of a thread object's index is left
abbrev pub NoPairsOf : State → Option ℕ → Type 0
NoPairsOf s None = Unit {0}
NoPairsOf s (Some t) = IsTrue (has_none s t)

-- whether a step may choose this row
abbrev pub MayChoose : State → ℕ → ℕ → Pending → Type 0
MayChoose s t x (Pending.Inherit who) = IsTrue (pair_at s t x) × IsTrue (not (pair_at s who.0 x)) × (x ≢ own_row s.image t)
MayChoose s t x (Pending.Drops from) = (from ≤ x) × IsTrue (pair_at s t x) × IsTrue (list_all not (take x (thread_at s t).due))
MayChoose s t x (Pending.Reserve kind) =
    (IsTrue (pays s (thread_at s t).pool 64) × IsTrue (is_free_for s kind x))
    ⊎ ((x ≡ 0) × (IsTrue (pays s (thread_at s t).pool 64) → (y : ℕ) → is_free_for s kind y ≡ false))
MayChoose s t x (Pending.CleanPair who) = MayClean s t (own_row s.image who.0) × IsTrue (pair_at s who.0 x)
MayChoose s t x Pending.Recycle = MayClean s t x × NoPairsOf s (thread_of_row s.image x)
MayChoose s t x Pending.Resume = (told : Told) × ((thread_at s t).told ≡ Some told)
MayChoose s t x (Pending.ClearInit a) = IsTrue (not (row_of s a == own_row s.image t && is_joined s t))
MayChoose s t x (Pending.Join who timeout) = IsTrue (may_say s t x who.0 timeout)
MayChoose s t x Pending.Left = IsTrue (is_joined s t)
MayChoose s t x Pending.Tick = IsTrue (is_some (next_deadline s.now s.armed))
MayChoose s t x (Pending.TimeOut who) = IsTrue (has_come s.now (thread_at s who.0).until && waits_at s who.0 x)
MayChoose s t x Pending.Expire = IsTrue (has_run_out s.now (object_at s x).contents)
MayChoose s t x (Pending.Cut who) = IsTrue ((thread_at s who.0).aborted && waits_at s who.0 x)
MayChoose s t x p = Unit {0}

-- An event is a step of the machine from s to s2: its thread is offered a pending step with a row that it may choose, and the event
-- says what that step says.
pub record Step (s : State) (event : Event) (s2 : State) : Type 0 where
  pub step : Pending
  pub rest : Steps
  pub row : ℕ
  pub offered : Offers s event.thread.0 step rest
  pub chosen : MayChoose s event.thread.0 row step
  pub says : event.act ≡ act_of s event.thread.0 row step
  pub leaves : s2 ≡ after s event.thread.0 row step rest

-- a run of events, from s to s2
abbrev pub Runs : State → List Event → State → Type 0
Runs s [] s2 = s2 ≡ s
Runs s (event ∷ events) s2 = (mid : State) × Step s event mid × Runs mid events s2

-- an inheritance passes on a pair that is due; any other step may choose as it likes
abbrev pub ChoosesDue : State → ℕ → Pending → ℕ → Type 0
ChoosesDue s t (Pending.Inherit who) x = IsTrue (slice_index_or (thread_at s t).due x false)
ChoosesDue s t step x = Unit {0}

-- An event is a step from s to s2, and inherits nothing that isn't due.
pub record Advances (s : State) (event : Event) (s2 : State) : Type 0 where
  pub made : Step s event s2
  pub due : ChoosesDue s event.thread.0 made.step made.row

-- a run of such events
abbrev pub RunsDue : State → List Event → State → Type 0
RunsDue s [] s2 = s2 ≡ s
RunsDue s (event ∷ events) s2 = (mid : State) × Advances s event mid × RunsDue mid events s2

-- no event is a step
abbrev pub IsComplete : State → Type 0
IsComplete s = (event : Event) (s2 : State) → Step s event s2 → ⊥

-- contents as a description sets them up
abbrev pub setup_contents : Setup → Contents
setup_contents (Setup.Sem count limit) = Contents.Sem count limit
setup_contents Setup.Mutex = Contents.Mutex None 0
setup_contents (Setup.Msgq size most) = queue size most []
setup_contents (Setup.Stack most) = stack most []
setup_contents (Setup.Pipe size) = pipe size [] false
setup_contents Setup.Timer = Contents.Stopped 0
setup_contents _ = Contents.Nothing

abbrev pub is_set_up : Setup → Bool
is_set_up (Setup.Sem count limit) = true
is_set_up Setup.Mutex = true
is_set_up (Setup.Msgq size most) = true
is_set_up (Setup.Stack most) = true
is_set_up (Setup.Pipe size) = true
is_set_up Setup.Timer = true
is_set_up _ = false

-- whether a boot entry has this row as its thread or its stack
abbrev pub boots_row : ℕ → Boot → Bool
boots_row x boot = boot.thread.0 == x || boot.stack.0 == x

-- a static object of a row: one that a boot entry names is initialised
abbrev pub opening_object : List Boot → ℕ → ObjectDef → Object
opening_object boots x o =
    record vacant {
      kind = Some o.kind;
      status = Status.Live;
      public = o.public;
      init = is_set_up o.setup || list_any (boots_row x) boots;
      contents = setup_contents o.setup;
    }

-- the objects of a description, from a row on, and after them none
abbrev pub objects_from : List Boot → ℕ → List ObjectDef → List Object
objects_from boots x [] = replicate (ROWS - x) vacant
objects_from boots x (o ∷ os) = opening_object boots x o ∷ objects_from boots (x + 1) os

-- a boot entry's thread, at its script's first line
abbrev pub boot_thread : Image → Boot → Thread
boot_thread image boot =
    record nobody {
      life = Life.Living;
      mode = boot.mode;
      domain = boot.domain;
      stack = boot.stack;
      priority = boot.priority;
      pool = boot.pool;
      place = first_place image boot.script;
      keeps_own = true;
    }

-- the boot threads stand under their indices, with their own objects and their grants
abbrev pub index_or : Option ℕ → ℕ
index_or None = 0
index_or (Some t) = t

abbrev pub granted : ℕ → List Row → State → State
granted t [] s = s
granted t (x ∷ xs) s = granted t xs (with_pair s t x.0 true)

abbrev pub booted_one : Boot → State → State
booted_one boot s =
    let t = index_or (thread_of_row s.image boot.thread.0) in
    granted t (boot.thread ∷ boot.grants) (with_thread s t (boot_thread s.image boot))

abbrev pub booted : List Boot → State → State
booted [] s = s
booted (boot ∷ boots) s = booted boots (booted_one boot s)

-- the bytes of the partitions stand in memory
abbrev pub loaded : List Partition → State → State
loaded [] s = s
loaded (p ∷ ps) s = loaded ps (with_bytes s p.range.start.0 p.bytes)

abbrev pub parts_of : Image → Option (List ℕ) → Option Partitions
parts_of image None = None
parts_of image (Some numbers) = Some (map (λ i. part_at (slice_get image.partitions i)) numbers)

-- the state of an image without what the partitions and the boot entries put there
unfoldable pub blank : Image → State
blank image =
    record {
      image = image;
      threads = replicate THREADS nobody;
      objects = objects_from image.boots 0 image.objects;
      pairs = replicate ROWS (replicate THREADS false);
      domains = map (λ (d : DomainDef). parts_of image d.parts) image.domains;
      memory = replicate AREA_SIZE 0;
      stacks = replicate AREA_SIZE 0;
      pools = map (λ (p : Pool). p.size) image.pools;
      now = 0;
      armed = [];
      joins = [];
      futexes = [];
    }

-- the opening state of an image
abbrev pub opening : Image → State
opening image = booted image.boots (loaded image.partitions (blank image))

-- a run of an image, which ends in s
abbrev pub IsRun : Image → List Event → State → Type 0
IsRun image events s = Runs (opening image) events s
