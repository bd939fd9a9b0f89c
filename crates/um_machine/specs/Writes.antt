-- What steps write of what threads share, as data: the kinds of write, and the state after each.
use Rattle.std.specs.Prelude.{ℕ, ◌+◌, ◌-◌, ◌*◌, Bool, true, false, ◌&&◌, not, if◌then◌else◌, List, [], ◌∷◌, ◌++◌, replicate, Option, Some, None, slice_index, slice_index_or, slice_set}
use Rattle.um_base.specs.declared.names.Kind.{Kind}
use Rattle.um_base.specs.declared.names.Range.{Range}
use Rattle.um_base.specs.declared.names.Reply.{Reply}
use Rattle.um_base.specs.declared.names.ThreadIx.{ThreadIx}
use Rattle.um_base.specs.declared.act.Answer.{Answer}
use Rattle.um_base.specs.declared.ask.Ask.{Ask}
use Rattle.um_base.specs.declared.act.Given.{Given}
use Rattle.um_base.specs.declared.act.Leftover.{Leftover}
use Rattle.um_base.specs.declared.act.SetSaid.{SetSaid}
use Rattle.um_base.specs.declared.ask.Told.{Told}
use Rattle.um_machine.specs.declared.contents.Contents.{Contents}
use Rattle.um_machine.specs.declared.object.Cost.{Cost}
use Rattle.um_machine.specs.declared.object.Object.{Object}
use Rattle.um_machine.specs.declared.pending.Pending.{Pending}
use Rattle.um_machine.specs.declared.thread.Thread.{Thread}
use Rattle.um_machine.specs.Contents.{saturated}
use Rattle.um_machine.specs.State.{State, nobody, vacant, thread_at, object_at, with_thread, with_object, with_waiters, with_pair, first_place}
use Rattle.um_base.specs.Regions.{Partitions}
use Rattle.um_machine.specs.Memory.{with_bytes}
use Rattle.um_machine.specs.Order.{rounded}
use Rattle.um_base.specs.declared.ask.Waiter.{Waiter}
use Rattle.um_machine.specs.declared.object.Status.{Status}
use Rattle.um_machine.specs.declared.thread.Life.{Life}
use Rattle.um_machine.specs.Readings.{given}

-- a row stays due where the thread still has a pair with it, and the thread that it creates has none
abbrev pub stays_due : ℕ → Option ThreadIx → List Bool → Bool
stays_due t None holders = slice_index_or holders t false
stays_due t (Some child) holders = slice_index_or holders t false && not (slice_index_or holders child.0 false)

-- a thread, after the pairs with one row changed
abbrev pub with_due : ℕ → ℕ → List Bool → Thread → Thread
with_due x t holders me = record me { due = slice_set me.due x (slice_index_or me.due x false && stays_due t me.child holders) }

-- all threads from an index on
abbrev pub with_dues : ℕ → ℕ → List Bool → List Thread → List Thread
with_dues x t holders [] = []
with_dues x t holders (me ∷ rest) = with_due x t holders me ∷ with_dues x (t + 1) holders rest

-- a pair comes or goes, and the row leaves what is due
abbrev pub paired : State → ℕ → ℕ → Bool → State
paired s t x there =
    let s2 = with_pair s t x there in record s2 { threads = with_dues x 0 (slice_index_or s2.pairs x []) s2.threads }

-- a pool gets bytes back
abbrev pub paid_back : Option Cost → List ℕ → List ℕ
paid_back None pools = pools
paid_back (Some cost) pools = slice_set pools cost.pool (saturated (slice_index pools cost.pool + cost.bytes))

-- bytes are taken from a thread's pool
abbrev pub paid_from : Option ℕ → ℕ → List ℕ → List ℕ
paid_from None size pools = pools
paid_from (Some pool) size pools = slice_set pools pool (slice_index pools pool - size)

abbrev pub cost_of : Option ℕ → ℕ → Option Cost
cost_of None size = None
cost_of (Some pool) size = Some (record { pool = pool; bytes = size })

-- the woken threads are told
abbrev pub all_woken : List (ThreadIx × Told) → State → State
all_woken [] s = s
all_woken (w ∷ ws) s = all_woken ws (with_thread s w.0.0 (record (thread_at s w.0.0) { told = Some w.1 }))

-- what an initialisation's buffer cost
abbrev pub buffer_cost : Ask → Answer → Option Cost → Option Cost
buffer_cost (Ask.MsgqInit size most pool) (Answer.Now (Reply.Num n)) before = Some (record { pool = pool; bytes = rounded (size * most) })
buffer_cost (Ask.StackInit most pool) (Answer.Now (Reply.Num n)) before = Some (record { pool = pool; bytes = rounded (4 * most) })
buffer_cost (Ask.PipeInit size pool) (Answer.Now (Reply.Num n)) before = Some (record { pool = pool; bytes = rounded size })
buffer_cost ask answer before = before

-- a new thread, with its creator's pool and domain
abbrev pub newborn : State → Thread → ℕ → ℕ → Pending → Thread
newborn s me who script (Pending.Start w c stack priority mode) =
    record nobody {
      life = Life.Living;
      doomed = (thread_at s who).doomed;
      mode = mode;
      domain = me.domain;
      stack = stack;
      priority = priority;
      pool = me.pool;
      place = first_place s.image script;
      keeps_own = true;
    }
newborn s me who script p = nobody

-- a change of one object
pub data Edit : Type 0 where
  inits : Bool → Edit
  opens : Edit
  becomes : Status → Edit
  works : Contents → List Waiter → Option Cost → Edit
  runs_out : Contents → List Waiter → Edit
  named : List ℕ → Edit
  cleaned : ThreadIx → Edit
  reserved : Kind → Option Cost → Edit
  vacates : Edit

abbrev pub edited : Edit → Object → Object
edited (Edit.inits init) o = record o { init = init }
edited Edit.opens o = record o { public = true }
edited (Edit.becomes status) o = record o { status = status }
edited (Edit.works contents waiters buffer) o = record o { contents = contents; waiters = waiters; buffer = buffer }
edited (Edit.runs_out contents waiters) o = record o { contents = contents; waiters = waiters }
edited (Edit.named text) o = record o { contents = Contents.Named text }
edited (Edit.cleaned by) o = record o { cleaner = Some by }
edited (Edit.reserved kind cost) o = record vacant { kind = Some kind; status = Status.Reserved; cost = cost }
edited Edit.vacates o = vacant

-- a flag that a thread gets or loses
pub data Flag : Type 0 where
  aborted : Flag
  suspended : Bool → Flag

abbrev pub flagged : Flag → Thread → Thread
flagged Flag.aborted me = record me { aborted = true }
flagged (Flag.suspended on) me = record me { suspended = on }

-- a thread that waited and is aborted has only its end left
abbrev pub cut : Thread → Thread
cut me = record me { pending = Pending.Killed ∷ [] }

-- A write of a step, of what threads share: the words of other threads, and what they are told, pairs, objects, bytes, pools, domains,
-- those who wait in a cell, and virtual time with its deadlines.
pub data Effect : Type 0 where
  wakes : List (ThreadIx × Told) → Effect
  moves : ℕ → ℕ → Effect
  dooms : ℕ → Effect
  flags : ℕ → Flag → Effect
  cuts : ℕ → Effect
  starts : ℕ → Thread → Effect
  pair : ℕ → ℕ → Bool → Effect
  object : ℕ → Edit → Effect
  bytes : ℕ → List ℕ → Effect
  takes : Option ℕ → ℕ → Effect
  returns : Option Cost → Effect
  edits : ℕ → Option Partitions → Effect
  waiters : ℕ → List Waiter → Effect
  arms : ℕ → Effect
  passes : ℕ → Effect

abbrev pub effect : Effect → State → State
effect (Effect.wakes woken) s = all_woken woken s
effect (Effect.moves who d) s = with_thread s who (record (thread_at s who) { domain = d })
effect (Effect.dooms who) s = with_thread s who (record (thread_at s who) { doomed = true })
effect (Effect.flags who flag) s = with_thread s who (flagged flag (thread_at s who))
effect (Effect.cuts who) s = with_thread s who (cut (thread_at s who))
effect (Effect.starts who thread) s = with_thread s who thread
effect (Effect.pair who x there) s = paired s who x there
effect (Effect.object x edit) s = with_object s x (edited edit (object_at s x))
effect (Effect.bytes a bs) s = with_bytes s a bs
effect (Effect.takes pool size) s = record s { pools = paid_from pool size s.pools }
effect (Effect.returns cost) s = record s { pools = paid_back cost s.pools }
effect (Effect.edits d parts) s = record s { domains = slice_set s.domains d parts }
effect (Effect.waiters c ws) s = with_waiters s c ws
effect (Effect.arms deadline) s = record s { armed = s.armed ++ deadline ∷ [] }
effect (Effect.passes now) s = record s { now = now }

-- writes, each made or not, one after another
abbrev pub Effects : Type 0
Effects = List (Bool × Effect)

abbrev pub does : Effect → Bool × Effect
does e = (true, e)

abbrev pub only : Bool → Effect → Bool × Effect
only b e = (b, e)

abbrev pub write : Bool × Effect → State → State
write w s = if w.0 then effect w.1 s else s

abbrev pub wrote : Effects → State → State
wrote [] s = s
wrote (w ∷ ws) s = wrote ws (write w s)

-- the writes of a dropped pair
abbrev pub is_there : Leftover → Bool
is_there Leftover.NoPair = false
is_there _ = true

abbrev pub is_last : Leftover → Bool
is_last Leftover.Gone = true
is_last _ = false

abbrev pub drops : ℕ → ℕ → Leftover → Effects
drops who x left = only (is_there left) (Effect.pair who x false) ∷ only (is_last left) (Effect.object x (Edit.becomes Status.Gone)) ∷ []

abbrev pub is_done : SetSaid → Bool
is_done SetSaid.Done = true
is_done _ = false

abbrev pub is_number : Reply → Bool
is_number (Reply.Num n) = true
is_number _ = false

abbrev pub says_wait : Answer → Bool
says_wait Answer.Wait = true
says_wait _ = false

abbrev pub start_of : Option Range → ℕ
start_of None = 0
start_of (Some range) = range.start.0

abbrev pub zeros_of : Option Range → List ℕ
zeros_of None = []
zeros_of (Some range) = replicate range.size 0

abbrev pub was_given : Given → Bool
was_given Given.Gone = false
was_given given = true
