-- What the closing dump shows of a state, as values.
use Rattle.std.specs.Prelude.{ℕ, zero, suc, ◌+◌, ◌/◌, Bool, true, false, ◌==◌, not, nat_lt, if◌then◌else◌, List, [], ◌∷◌, ◌++◌, length, map, filter, take, drop, Option, Some, None, ℤ, position, sum}
use Rattle.std.specs.List.{list_all, list_any}
use Rattle.um_base.specs.declared.ask.Ask.{Ask}
use Rattle.um_base.specs.declared.ask.Waiter.{Waiter}
use Rattle.um_base.specs.declared.image.Partition.{Partition}
use Rattle.um_base.specs.declared.limits.TheConstants.{STATIC_THREADS, PARTITION_AREA, STACK_AREA}
use Rattle.um_base.specs.declared.names.Kind.{Kind}
use Rattle.um_base.specs.declared.names.Mode.{Mode}
use Rattle.um_base.specs.declared.names.Range.{Range}
use Rattle.um_base.specs.Lawful.{stack_ranges}
use Rattle.um_base.specs.Places.{own_row, is_thread_index}
use Rattle.um_base.specs.Regions.{Partitions}
use Rattle.um_machine.specs.declared.contents.Contents.{Contents}
use Rattle.um_machine.specs.declared.object.Object.{Object}
use Rattle.um_machine.specs.declared.thread.Life.{Life}
use Rattle.um_machine.specs.declared.thread.Thread.{Thread}
use Rattle.um_machine.specs.State.{State, thread_at, object_at, pair_at}
use Rattle.um_machine.specs.Objects.{is_free, is_gone}
use Rattle.um_worked_runs.specs.Evaluate.{all_rows, all_threads}

-- how a thread stands that was started: waits has the row of the object, joining the thread for whose end it waits, watching the address of the futex
pub data Standing : Type 0 where
  doomed : Standing
  ended : Standing
  waits : ℕ → Standing
  joining : ℕ → Standing
  watching : ℕ → Standing
  ready : Standing

-- the line of a thread
pub data ThreadLine : Type 0 where
  unborn : ℕ → ThreadLine
  -- its index, standing, mode, priority and domain
  started : ℕ → Standing → Mode → ℤ → ℕ → ThreadLine

pub data Stage : Type 0 where
  initialised : Stage
  uninitialised : Stage
  gone : Stage

-- what an object keeps
pub data Content : Type 0 where
  nothing : Content
  named : List ℕ → Content
  -- so many of at most so many
  filled : ℕ → ℕ → Content
  unlocked : Content
  -- the owner's index and how often it locked
  locked : ℕ → ℕ → Content
  closed : Content
  -- a timer's status, and whether it runs
  timer : ℕ → Bool → Content

-- the line of an object
pub record ObjectLine : Type 0 where
  pub row : ℕ
  pub kind : Option Kind
  pub stage : Stage
  pub public : Bool
  pub holders : List ℕ
  pub content : Content

pub record Dump : Type 0 where
  pub threads : List ThreadLine
  pub objects : List ObjectLine
  pub domains : List (Option Partitions)
  pub pools : List ℕ  -- what is left
  pub memory : List (ℕ × List ℕ)  -- the address and the 32 bytes of each line that isn't all zero

-- Threads.

abbrev pub waits_here : ℕ → Object → Bool
waits_here t o = list_any (λ (w : Waiter). w.thread.0 == t) o.waiters

-- what a thread asks that waits in a list
abbrev pub asks_in : ℕ → List Waiter → Option Ask
asks_in t [] = None
asks_in t (w ∷ ws) = if w.thread.0 == t then Some w.ask else asks_in t ws

abbrev pub waits_or_ready : Option ℕ → Option Ask → Standing
waits_or_ready (Some x) ask = waits x
waits_or_ready None (Some (Ask.Join who)) = joining who.0
waits_or_ready None (Some (Ask.FutexWait a)) = watching a.0
waits_or_ready None _ = ready

abbrev pub living_standing : State → ℕ → Life → Standing
living_standing s t Life.Ended = ended
living_standing s t _ = waits_or_ready (position (waits_here t) s.objects) (asks_in t (s.joins ++ s.futexes))

abbrev pub standing : State → ℕ → Thread → Standing
standing s t me = elim me.doomed as (λ _. Standing) [ true ↦ doomed | false ↦ living_standing s t me.life ]

abbrev pub thread_line : State → ℕ → Thread → ThreadLine
thread_line s t me =
    elim me.life as (λ _. ThreadLine) [ Life.Unborn ↦ unborn t | _ ↦ started t (standing s t me) me.mode me.priority me.domain ]

-- whether a thread object of this index stands
abbrev pub has_thread : State → ℕ → Bool
has_thread s t =
    elim (nat_lt t STATIC_THREADS) as (λ _. Bool) [
      | true ↦ list_any (is_thread_index t) s.image.objects
      | false ↦ not (is_free (object_at s (own_row s.image t)).status)
    ]

abbrev pub thread_lines : State → List ThreadLine
thread_lines s = map (λ t. thread_line s t (thread_at s t)) (filter (has_thread s) all_threads)

-- Objects.

abbrev pub used_content : Contents → Content
used_content (Contents.Sem count limit) = filled count limit
used_content (Contents.Mutex None depth) = unlocked
used_content (Contents.Mutex (Some owner) depth) = locked owner.0 depth
used_content (Contents.Msgq q) = filled (length q.messages) q.most
used_content (Contents.Stack s) = filled (length s.values) s.most
used_content (Contents.Pipe p) = elim p.closed as (λ _. Content) [ true ↦ closed | false ↦ filled (length p.bytes) p.size ]
used_content (Contents.Stopped status) = timer status false
used_content (Contents.Running deadline) = timer 0 true
used_content _ = nothing

abbrev pub name_content : Contents → Content
name_content (Contents.Named (b ∷ bs)) = named (b ∷ bs)
name_content _ = nothing

abbrev pub content_of_kind : Option Kind → Bool → Contents → Content
content_of_kind (Some Kind.Thread) init contents = name_content contents
content_of_kind kind true contents = used_content contents
content_of_kind kind false contents = nothing

abbrev pub content_of : Object → Content
content_of o = elim (is_gone o.status) as (λ _. Content) [ true ↦ nothing | false ↦ content_of_kind o.kind o.init o.contents ]

abbrev pub init_stage : Bool → Stage
init_stage true = initialised
init_stage false = uninitialised

abbrev pub stage_of : Object → Stage
stage_of o = elim (is_gone o.status) as (λ _. Stage) [ true ↦ gone | false ↦ init_stage o.init ]

abbrev pub object_line : State → ℕ → Object → ObjectLine
object_line s x o =
    record {
      row = x;
      kind = o.kind;
      stage = stage_of o;
      public = o.public;
      holders = filter (λ t. pair_at s t x) all_threads;
      content = content_of o;
    }

abbrev pub object_lines : State → List ObjectLine
object_lines s = map (λ x. object_line s x (object_at s x)) (filter (λ x. not (is_free (object_at s x).status)) all_rows)

-- Memory.

abbrev pub sizes : List Range → ℕ
sizes ranges = sum (map (λ (r : Range). r.size) ranges)

-- the first n lines from an address on, of these bytes, that aren't all zero
abbrev pub lines_from : ℕ → ℕ → List ℕ → List (ℕ × List ℕ)
lines_from zero a bytes = []
lines_from (suc n) a bytes =
    let rest = lines_from n (a + 32) (drop 32 bytes) in
    elim (list_all (λ b. b == 0) (take 32 bytes)) as (λ _. List (ℕ × List ℕ)) [ true ↦ rest | false ↦ (a, take 32 bytes) ∷ rest ]

-- the lines of the partitions and of the stacks, which fill the areas from their starts on
abbrev pub memory_lines : State → List (ℕ × List ℕ)
memory_lines s =
    lines_from (sizes (map (λ (p : Partition). p.range) s.image.partitions) / 32) PARTITION_AREA s.memory
    ++ lines_from (sizes (stack_ranges s.image.objects) / 32) STACK_AREA s.stacks

abbrev pub dump_of : State → Dump
dump_of s = record { threads = thread_lines s; objects = object_lines s; domains = s.domains; pools = s.pools; memory = memory_lines s }
