-- The cell of memory: what it answers, which steps it takes, and what each leaves.
use Rattle.std.specs.Prelude.{ℕ, zero, suc, ◌+◌, Bool, true, ◌==◌, not, if◌then◌else◌, List, [], ◌∷◌, ◌++◌, filter, length, map, take, Option, Some, None, slice_index, slice_set}
use Rattle.std.specs.List.{list_any}
use Rattle.um_base.specs.declared.act.Answer.{Answer}
use Rattle.um_base.specs.declared.ask.Told.{Told}
use Rattle.um_base.specs.declared.ask.Waiter.{Waiter}
use Rattle.um_base.specs.declared.names.Errno.{Errno}
use Rattle.um_base.specs.declared.names.Reply.{Reply}
use Rattle.um_base.specs.declared.names.ThreadIx.{ThreadIx}
use Rattle.um_machine.specs.Futexes.{futex_wait, is_futex, is_on, some_of, wake_answer}
use Rattle.um_machine.specs.Services.{in_order, told, without}
use Rattle.um_words.specs.CellActs.{stops_waiting}
use Rattle.um_words.specs.declared.fine.More.{More}
use Rattle.um_words.specs.declared.fine.Unseen.{Unseen}
use Rattle.um_words.specs.Extra.{allowed_in, all_in, timeout_in}
use Rattle.um_fine.specs.Seeking.{finds, looked_for}
use Rattle.um_base.specs.declared.act.Act.{Act}
use Rattle.um_base.specs.declared.act.Found.{Found}
use Rattle.um_base.specs.declared.image.Image.{Image}
use Rattle.um_base.specs.declared.limits.TheConstants.{PIECE}
use Rattle.um_base.specs.Places.{setup_at}
use Rattle.um_base.specs.Regions.{stack_range}
use Rattle.um_machine.specs.State.{State}
use Rattle.um_machine.specs.Memory.{bytes_at, with_bytes, le_bytes, le_value}
use Rattle.um_machine.specs.Writes.{start_of, zeros_of}
use Rattle.um_machine.specs.Table.{replies_of}
use Rattle.um_words.specs.declared.fine.FineAct.{FineAct}
use Rattle.um_fine.specs.Steps.{Exchange}
use Rattle.um_fine.specs.Answers.{bytes_in, caller_in, limit_in, noted_in}

-- the bytes of the area of the partitions, and of that of the stacks
pub record Bytes : Type 0 where
  pub memory : List ℕ
  pub stacks : List ℕ
  pub futexes : List Waiter  -- those who wait on a futex
  pub noted : List ℕ  -- by thread index: the number of its note when it began to wait here

-- a state of the access-matrix machine with these bytes, and nothing else
abbrev pub with_memory : Image → Bytes → State
with_memory image m =
    record {
      image = image;
      threads = [];
      objects = [];
      pairs = [];
      domains = [];
      memory = m.memory;
      stacks = m.stacks;
      pools = [];
      now = 0;
      armed = [];
      joins = [];
      futexes = m.futexes;
    }

abbrev pub bytes_of : Bytes → State → Bytes
bytes_of m s = record m { memory = s.memory; stacks = s.stacks }

-- those who aren't woken
abbrev pub still_there : List (ThreadIx × Reply) → List Waiter → List Waiter
still_there woken ws = filter (λ (w : Waiter). not (list_any (λ (p : ThreadIx × Reply). p.0.0 == w.thread.0) woken)) ws

module _ (image : Image) where
  abbrev pub read : Bytes → ℕ → ℕ → List ℕ
  read m a n = bytes_at (with_memory image m) a n

  abbrev pub write : Bytes → ℕ → List ℕ → Bytes
  write m a bs = bytes_of m (with_bytes (with_memory image m) a bs)

  abbrev pub byte_at : Bytes → ℕ → ℕ
  byte_at m a = slice_index (read m a 1) 0

  -- a text of which so many bytes may still be read, after so many others: at most 32 are read
  abbrev pub text_found : Bytes → ℕ → ℕ → ℕ → Found
  text_found m a zero before = if before == 32 then Found.TooLong else Found.Unreadable
  text_found m a (suc limit) before = if byte_at m a == 0 then Found.Length before else text_found m (a + 1) limit (before + 1)

  -- its bytes, up to a zero
  abbrev pub text_bytes : Bytes → ℕ → ℕ → List ℕ
  text_bytes m a zero = []
  text_bytes m a (suc limit) = if byte_at m a == 0 then [] else byte_at m a ∷ text_bytes m (a + 1) limit

  -- why a call on a futex is refused, if it is: first since the address may not be read, as the processor's table says
  abbrev pub refusal_of : Bool → ℕ → Option Errno
  refusal_of allowed a = if not allowed then Some Errno.EACCES else if not (is_futex image a) then Some Errno.EINVAL else None

  abbrev pub wait_answer : Bytes → More → ℕ → ℕ → Answer
  wait_answer m more a value = futex_wait value (le_value (read m a 4)) (timeout_in more) (refusal_of (allowed_in more) a)

  -- who is woken, and what they are told
  abbrev pub woken_on : Bytes → More → ℕ → List (ThreadIx × Told)
  woken_on m more a = map (λ (w : Waiter). told w (Reply.Num 0) []) (roused_by (refusal_of (allowed_in more) a))
    where
      roused_by : Option Errno → List Waiter
      roused_by (Some e) = []
      roused_by None = some_of (all_in more) (in_order (filter (is_on a) m.futexes))

  abbrev pub wake_says : Bytes → More → ℕ → Answer
  wake_says m more a = wake_answer (refusal_of (allowed_in more) a) (length (woken_on m more a))

  abbrev pub memory_says_act : Bytes → Exchange → More → Act → Act
  memory_says_act m moved more (Act.Load a n value) = Act.Load a n (le_value (read m a.0 n))
  memory_says_act m moved more (Act.CopyStr a found) = Act.CopyStr a (text_found m a.0 (limit_in moved) 0)
  memory_says_act m moved more (Act.FutexWait a value answer) = Act.FutexWait a value (wait_answer m more a.0 value)
  memory_says_act m moved more (Act.FutexWake a answer woken) = Act.FutexWake a (wake_says m more a.0) (replies_of (woken_on m more a.0))
  memory_says_act m moved more act = act

  abbrev pub memory_says : Bytes → Exchange → FineAct → FineAct
  memory_says m moved (FineAct.Shown event more) =
      let said = FineAct.Shown (record event { act = memory_says_act m moved more event.act }) more in
      if stops_waiting event.act then looked_for (finds m.futexes m.noted moved) said else said
  memory_says m moved (FineAct.Unseen Unseen.Void) = looked_for (finds m.futexes m.noted moved) (FineAct.Unseen Unseen.Void)
  memory_says m moved (FineAct.Unseen unseen) = FineAct.Unseen unseen

  abbrev pub memory_moves : Bytes → Act → Exchange → Exchange
  memory_moves m (Act.CopyIn a n true) moved = Exchange.bytes (take PIECE (read m a.0 n))
  memory_moves m (Act.CopyStr a found) moved = Exchange.text (limit_in moved) (text_bytes m a.0 (limit_in moved))
  memory_moves m act moved = moved

  abbrev pub memory_after : Bytes → Act → Exchange → Bytes
  memory_after m (Act.Store a n value) moved = write m a.0 (le_bytes n value)
  memory_after m (Act.CopyOut a n true) moved = write m a.0 (bytes_in moved)
  memory_after m (Act.Erase stack) moved = let range = stack_range (setup_at image stack.0) in write m (start_of range) (zeros_of range)
  memory_after m (Act.FutexWait a value Answer.Wait) moved =
      let w = caller_in moved in
      record m { futexes = without w.thread.0 m.futexes ++ w ∷ []; noted = slice_set m.noted w.thread.0 (noted_in moved) }
  memory_after m (Act.FutexWake a answer woken) moved = record m { futexes = still_there woken m.futexes }
  memory_after m (Act.TimedOut who) moved = record m { futexes = without who.0 m.futexes }
  memory_after m (Act.Cut who) moved = record m { futexes = without who.0 m.futexes }
  memory_after m act moved = m
