-- The state of the machine, and the words for its parts.
use Rattle.std.specs.Prelude.{ℕ, zero, suc, ◌+◌, ◌-◌, Bool, true, false, ◌==◌, ◌&&◌, ◌||◌, not, nat_le, if◌then◌else◌, List, [], ◌∷◌, replicate, Option, Some, None, is_some, slice_get, slice_index, slice_index_or, slice_set, pos}
use Rattle.um_base.specs.declared.names.Mode.{Mode}
use Rattle.um_base.specs.declared.names.Mpu.{Mpu}
use Rattle.um_base.specs.declared.names.Policy.{Policy}
use Rattle.um_base.specs.declared.names.Reply.TheVariants as Reply
use Rattle.um_base.specs.declared.names.Term.{Term}
use Rattle.um_base.specs.declared.ask.Waiter.{Waiter}
use Rattle.um_base.specs.declared.image.Image.{Image}
use Rattle.um_base.specs.declared.image.Script.{Script}
use Rattle.um_base.specs.declared.instr.Instr.{Instr}
use Rattle.um_base.specs.declared.limits.TheConstants.{ROWS, JOIN_CELL, FUTEX_CELL}
use Rattle.um_base.specs.Regions.{Partitions}
use Rattle.um_machine.specs.declared.pending.Pending.{Pending}
use Rattle.um_machine.specs.declared.thread.Thread.{Thread}
use Rattle.um_machine.specs.declared.thread.Place.{Place}
use Rattle.um_machine.specs.declared.thread.Life.{Life}
use Rattle.um_machine.specs.declared.object.Object.{Object}
use Rattle.um_machine.specs.declared.object.Status.TheVariants as Status
use Rattle.um_machine.specs.declared.contents.Contents.TheVariants as Contents

pub record State : Type 0 where
  pub image : Image
  pub threads : List Thread  -- by thread index
  pub objects : List Object  -- by row
  pub pairs : List (List Bool)  -- which threads have a pair with an object, by row and then by thread index
  pub domains : List (Option Partitions)  -- none where the domain isn't initialised
  pub memory : List ℕ  -- the bytes of the area of the partitions
  pub stacks : List ℕ  -- the bytes of the area of the stacks
  pub pools : List ℕ  -- what is left in each pool
  pub now : ℕ  -- virtual time: the ticks from the beginning
  pub armed : List ℕ  -- the deadlines, in the order in which they were armed
  pub joins : List Waiter  -- those who wait for the end of a thread, in the order in which they began to
  pub futexes : List Waiter  -- those who wait on a futex, in the order in which they began to

-- an image without anything
abbrev pub no_image : Image
no_image =
    record {
      mpu = Mpu.V7;
      regions = 0;
      policy = Policy.Abort;
      rodata = None;
      rodata_bytes = [];
      pools = [];
      partitions = [];
      domains = [];
      objects = [];
      boots = [];
      scripts = [];
      futexes = [];
    }

abbrev pub is_user : Mode → Bool
is_user Mode.User = true
is_user Mode.Supervisor = false

abbrev pub is_living : Life → Bool
is_living Life.Unborn = false
is_living Life.Living = true
is_living Life.Ended = false

abbrev pub is_started : Life → Bool
is_started Life.Unborn = false
is_started Life.Living = true
is_started Life.Ended = true

-- whether a thread waits: it goes on once it is woken, and hasn't been
abbrev pub is_to_resume : List Pending → Bool
is_to_resume (Pending.Resume ∷ rest) = true
is_to_resume _ = false

abbrev pub is_waiting : Thread → Bool
is_waiting me = is_to_resume me.pending && not (is_some me.told)

-- no row
abbrev pub no_rows : List Bool
no_rows = replicate ROWS false

-- an index on which no thread was started
abbrev pub nobody : Thread
nobody =
    record {
      life = Life.Unborn;
      doomed = false;
      aborted = false;
      suspended = false;
      mode = Mode.User;
      domain = 0;
      stack = record { 0 = 0 };
      priority = pos 0;
      pool = None;
      registers = replicate 8 0;
      place = record { script = 0; line = 0; left = 0 };
      pending = [];
      reply = Reply.Void;
      buffer = [];
      until = None;
      told = None;
      checked = no_rows;
      keeps_own = false;
      due = no_rows;
      child = None;
    }

-- a row without an object
abbrev pub vacant : Object
vacant =
    record {
      kind = None;
      status = Status.Free;
      public = false;
      init = false;
      contents = Contents.Nothing;
      waiters = [];
      cost = None;
      buffer = None;
      cleaner = None;
    }

abbrev pub thread_at : State → ℕ → Thread
thread_at s t = slice_index_or s.threads t nobody

abbrev pub object_at : State → ℕ → Object
object_at s x = slice_index_or s.objects x vacant

abbrev pub with_thread : State → ℕ → Thread → State
with_thread s t thread = record s { threads = slice_set s.threads t thread }

abbrev pub with_object : State → ℕ → Object → State
with_object s x object = record s { objects = slice_set s.objects x object }

-- The cells in which threads wait: those of the objects by row, and behind them that of the joins and that of the futexes.
abbrev pub waiters_in : State → ℕ → List Waiter
waiters_in s c = if c == JOIN_CELL then s.joins else if c == FUTEX_CELL then s.futexes else (object_at s c).waiters

abbrev pub with_waiters : State → ℕ → List Waiter → State
with_waiters s c ws =
    record s {
      objects = if c == JOIN_CELL || c == FUTEX_CELL then s.objects else slice_set s.objects c (record (object_at s c) { waiters = ws });
      joins = if c == JOIN_CELL then ws else s.joins;
      futexes = if c == FUTEX_CELL then ws else s.futexes;
    }

-- whether a thread index has a pair with a row
abbrev pub pair_at : State → ℕ → ℕ → Bool
pair_at s t x = slice_index_or (slice_index_or s.pairs x []) t false

-- a pair comes or goes
abbrev pub with_pair : State → ℕ → ℕ → Bool → State
with_pair s t x there = record s { pairs = slice_set s.pairs x (slice_set (slice_index_or s.pairs x []) t there) }

-- the lines of a script
abbrev pub lines_of : Option Script → List Instr
lines_of None = []
lines_of (Some script) = script.lines

abbrev pub script_lines : Image → ℕ → List Instr
script_lines image script = lines_of (slice_get image.scripts script)

abbrev pub is_repeat : Option Instr → Bool
is_repeat (Some (Instr.Repeat times)) = true
is_repeat _ = false

-- the line of the last repeat before this line
abbrev pub repeat_before : List Instr → ℕ → ℕ
repeat_before lines zero = 0
repeat_before lines (suc line) = if is_repeat (slice_get lines line) then line else repeat_before lines line

-- from an end back to the first line of its repeat, where turns are left, and else past it
abbrev pub past_end : List Instr → Place → Option Instr → Place
past_end lines place (Some Instr.End) =
    if nat_le place.left 1 then record { script = place.script; line = place.line + 1; left = 0 }
    else record { script = place.script; line = repeat_before lines place.line + 1; left = place.left - 1 }
past_end lines place _ = place

-- from a repeat to its first line
abbrev pub into_repeat : Place → Option Instr → Place
into_repeat place (Some (Instr.Repeat times)) = record { script = place.script; line = place.line + 1; left = times }
into_repeat place _ = place

-- the first line at or after this place that makes a step
abbrev pub settled : List Instr → Place → Place
settled lines place = let past = past_end lines place (slice_get lines place.line) in into_repeat past (slice_get lines past.line)

abbrev pub first_place : Image → ℕ → Place
first_place image script = settled (script_lines image script) (record { script = script; line = 0; left = 0 })

-- the instruction at a thread's place, or none after the last line
abbrev pub instruction_at : Image → Place → Option Instr
instruction_at image place = slice_get (script_lines image place.script) place.line

-- the place after the instruction at this one
abbrev pub place_after : Image → Place → Option Instr → Place
place_after image place None = place
place_after image place (Some instr) =
    settled (script_lines image place.script) (record { script = place.script; line = place.line + 1; left = place.left })

abbrev pub next_place : Image → Place → Place
next_place image place = place_after image place (instruction_at image place)

-- the value of an operand
abbrev pub value_of : List ℕ → Term → ℕ
value_of registers (Term.Num n) = n
value_of registers (Term.Reg r) = slice_index registers r
value_of registers (Term.Place name offset) = 0
