-- The six services: what an act on an object's contents answers, whom it wakes, and what it leaves
-- (Zephyr: Kernel Services, Semaphores, Mutexes, Message Queues, Stacks, Timers; pipes are this project's own).
use Rattle.std.specs.Prelude.{ℕ, ◌+◌, ◌-◌, Bool, true, false, ◌==◌, not, nat_lt, nat_le, if◌then◌else◌, List, [], ◌∷◌, ◌++◌, length, map, filter, take, drop, reverse, Option, Some, None, int_lt}
use Rattle.std.specs.List.{list_any}
use Rattle.um_base.specs.declared.names.Errno.{Errno}
use Rattle.um_base.specs.declared.names.Reply.{Reply}
use Rattle.um_base.specs.declared.names.ThreadIx.{ThreadIx}
use Rattle.um_base.specs.declared.names.Timeout.{Timeout}
use Rattle.um_base.specs.declared.act.Answer.{Answer}
use Rattle.um_base.specs.declared.ask.Ask.{Ask}
use Rattle.um_base.specs.declared.ask.Told.{Told}
use Rattle.um_base.specs.declared.ask.Waiter.{Waiter}
use Rattle.um_machine.specs.declared.contents.Contents.{Contents}
use Rattle.um_machine.specs.Contents.{saturated}
use Rattle.um_machine.specs.Memory.{le_bytes}

-- what an act leaves and answers: the caller's answer with the bytes that it takes, and what each woken thread is told
pub record Acted : Type 0 where
  pub contents : Contents
  pub waiters : List Waiter
  pub answer : Answer
  pub taken : List ℕ
  pub woken : List (ThreadIx × Told)

-- a waiter goes before those that are served after it
abbrev pub with_waiter : Waiter → List Waiter → List Waiter
with_waiter w [] = w ∷ []
with_waiter w (v ∷ ws) = if int_lt v.priority w.priority then v ∷ with_waiter w ws else w ∷ v ∷ ws

-- waiters in the order of service: the least priority number first, among equals the one that has waited longest
abbrev pub in_order : List Waiter → List Waiter
in_order [] = []
in_order (w ∷ ws) = with_waiter w (in_order ws)

-- of a waiter and the one that is first among those behind it, the one that is served first
abbrev pub first_of_two : Waiter → Option Waiter → Waiter
first_of_two w None = w
first_of_two w (Some v) = if int_lt v.priority w.priority then v else w

-- the waiters without one thread
abbrev pub without : ℕ → List Waiter → List Waiter
without t ws = filter (λ (w : Waiter). not (w.thread.0 == t)) ws

-- a thread is told its reply, and what it takes
abbrev pub told : Waiter → Reply → List ℕ → ThreadIx × Told
told w reply taken = (w.thread, record { reply = reply; taken = taken })

-- all of them, in the order of service, are told the same error
abbrev pub all_told : Errno → List Waiter → List (ThreadIx × Told)
all_told e ws = map (λ (w : Waiter). told w (Reply.Fail e) []) (in_order ws)

-- an act that wakes nobody and answers at once
abbrev pub answers : Contents → List Waiter → Reply → Acted
answers contents waiters reply = record { contents = contents; waiters = waiters; answer = Answer.Now reply; taken = []; woken = [] }

-- the same, where bytes are taken
abbrev pub gives : Contents → List Waiter → Reply → List ℕ → Acted
gives contents waiters reply taken = record { contents = contents; waiters = waiters; answer = Answer.Now reply; taken = taken; woken = [] }

-- a queue, a stack and a pipe as contents
abbrev pub queue : ℕ → ℕ → List (List ℕ) → Contents
queue size most messages = Contents.Msgq (record { size = size; most = most; messages = messages })

abbrev pub stack : ℕ → List ℕ → Contents
stack most values = Contents.Stack (record { most = most; values = values })

abbrev pub pipe : ℕ → List ℕ → Bool → Contents
pipe size bytes closed = Contents.Pipe (record { size = size; bytes = bytes; closed = closed })

-- an act that can't be done now: an error without waiting, else the caller waits, behind all others
abbrev pub blocks : Contents → List Waiter → Waiter → Timeout → Errno → Acted
blocks contents waiters who Timeout.NoWait e = answers contents waiters (Reply.Fail e)
blocks contents waiters who _ e =
    record { contents = contents; waiters = without who.thread.0 waiters ++ who ∷ []; answer = Answer.Wait; taken = []; woken = [] }

-- an act that empties the list of waiters
abbrev pub wakes_all : Contents → List Waiter → Reply → Errno → Acted
wakes_all contents waiters reply e =
    record { contents = contents; waiters = []; answer = Answer.Now reply; taken = []; woken = all_told e waiters }

abbrev pub is_empty : {A : Type 0} → List A → Bool
is_empty [] = true
is_empty (x ∷ xs) = false

-- semaphores
abbrev pub sem_take : ℕ → ℕ → List Waiter → Waiter → Timeout → Acted
sem_take count limit ws who timeout =
    if nat_lt 0 count then answers (Contents.Sem (count - 1) limit) ws (Reply.Num 0) else blocks (Contents.Sem count limit) ws who timeout Errno.EBUSY

abbrev pub sem_give : ℕ → ℕ → List Waiter → List Waiter → Acted
sem_give count limit ws [] = answers (Contents.Sem (if nat_lt count limit then count + 1 else limit) limit) ws Reply.Void
sem_give count limit ws (first ∷ _) =
    record {
      contents = Contents.Sem count limit;
      waiters = without first.thread.0 ws;
      answer = Answer.Now Reply.Void;
      taken = [];
      woken = told first (Reply.Num 0) [] ∷ [];
    }

abbrev pub sem_act : ℕ → ℕ → List Waiter → Waiter → Ask → Acted
sem_act count limit ws who (Ask.SemTake timeout) = sem_take count limit ws who timeout
sem_act count limit ws who Ask.SemGive = sem_give count limit ws (in_order ws)
sem_act count limit ws who Ask.SemReset = wakes_all (Contents.Sem 0 limit) ws Reply.Void Errno.EAGAIN
sem_act count limit ws who Ask.SemCount = answers (Contents.Sem count limit) ws (Reply.Num count)
sem_act count limit ws who _ = answers (Contents.Sem count limit) ws Reply.Void

-- mutexes
abbrev pub mutex_lock : Option ThreadIx → ℕ → List Waiter → Waiter → Timeout → Acted
mutex_lock None depth ws who timeout = answers (Contents.Mutex (Some who.thread) 1) ws (Reply.Num 0)
mutex_lock (Some owner) depth ws who timeout =
    if owner.0 == who.thread.0 then answers (Contents.Mutex (Some owner) (saturated (depth + 1))) ws (Reply.Num 0)
    else blocks (Contents.Mutex (Some owner) depth) ws who timeout Errno.EBUSY

-- an unlock at depth 1, with the waiters in the order of service
abbrev pub mutex_passes : List Waiter → List Waiter → Acted
mutex_passes ws [] = answers (Contents.Mutex None 0) ws (Reply.Num 0)
mutex_passes ws (first ∷ _) =
    record {
      contents = Contents.Mutex (Some first.thread) 1;
      waiters = without first.thread.0 ws;
      answer = Answer.Now (Reply.Num 0);
      taken = [];
      woken = told first (Reply.Num 0) [] ∷ [];
    }

abbrev pub mutex_unlock : Option ThreadIx → ℕ → List Waiter → Waiter → Acted
mutex_unlock None depth ws who = answers (Contents.Mutex None depth) ws (Reply.Fail Errno.EINVAL)
mutex_unlock (Some owner) depth ws who =
    if not (owner.0 == who.thread.0) then answers (Contents.Mutex (Some owner) depth) ws (Reply.Fail Errno.EPERM)
    else if nat_lt 1 depth then answers (Contents.Mutex (Some owner) (depth - 1)) ws (Reply.Num 0)
    else mutex_passes ws (in_order ws)

abbrev pub mutex_act : Option ThreadIx → ℕ → List Waiter → Waiter → Ask → Acted
mutex_act owner depth ws who (Ask.MutexLock timeout) = mutex_lock owner depth ws who timeout
mutex_act owner depth ws who Ask.MutexUnlock = mutex_unlock owner depth ws who
mutex_act owner depth ws who _ = answers (Contents.Mutex owner depth) ws Reply.Void

-- message queues
abbrev pub is_getter : Waiter → Bool
is_getter w = elim w.ask as (λ _. Bool) [ Ask.MsgqGet timeout ↦ true | _ ↦ false ]

-- a put, with the waiting getters in the order of service
abbrev pub msgq_put : ℕ → ℕ → List (List ℕ) → List Waiter → Waiter → List ℕ → Timeout → List Waiter → Acted
msgq_put size most messages ws who message timeout [] =
    if nat_lt (length messages) most then answers (queue size most (messages ++ message ∷ [])) ws (Reply.Num 0)
    else blocks (queue size most messages) ws who timeout Errno.ENOMSG
msgq_put size most messages ws who message timeout (first ∷ _) =
    record {
      contents = queue size most messages;
      waiters = without first.thread.0 ws;
      answer = Answer.Now (Reply.Num 0);
      taken = [];
      woken = told first (Reply.Num 0) message ∷ [];
    }

abbrev pub is_putter : Waiter → Bool
is_putter w = elim w.ask as (λ _. Bool) [ Ask.MsgqPut timeout ↦ true | _ ↦ false ]

-- a get of the first message, with the waiting putters in the order of service
abbrev pub msgq_take : ℕ → ℕ → List ℕ → List (List ℕ) → List Waiter → List Waiter → Acted
msgq_take size most message rest ws [] = gives (queue size most rest) ws (Reply.Num 0) message
msgq_take size most message rest ws (first ∷ _) =
    record {
      contents = queue size most (rest ++ first.bytes ∷ []);
      waiters = without first.thread.0 ws;
      answer = Answer.Now (Reply.Num 0);
      taken = message;
      woken = told first (Reply.Num 0) [] ∷ [];
    }

abbrev pub msgq_get : ℕ → ℕ → List (List ℕ) → List Waiter → Waiter → Timeout → Acted
msgq_get size most [] ws who timeout = blocks (queue size most []) ws who timeout Errno.ENOMSG
msgq_get size most (message ∷ rest) ws who timeout = msgq_take size most message rest ws (in_order (filter is_putter ws))

abbrev pub msgq_peek : ℕ → ℕ → List (List ℕ) → List Waiter → Acted
msgq_peek size most [] ws = answers (queue size most []) ws (Reply.Fail Errno.ENOMSG)
msgq_peek size most (message ∷ rest) ws = gives (queue size most (message ∷ rest)) ws (Reply.Num 0) message

abbrev pub msgq_purge : ℕ → ℕ → List Waiter → Acted
msgq_purge size most ws =
    record {
      contents = queue size most [];
      waiters = filter (λ w. not (is_putter w)) ws;
      answer = Answer.Now Reply.Void;
      taken = [];
      woken = all_told Errno.ENOMSG (filter is_putter ws);
    }

abbrev pub msgq_act : ℕ → ℕ → List (List ℕ) → List Waiter → Waiter → Ask → Acted
msgq_act size most messages ws who (Ask.MsgqPut timeout) =
    msgq_put size most messages ws who who.bytes timeout (in_order (filter is_getter ws))
msgq_act size most messages ws who (Ask.MsgqGet timeout) = msgq_get size most messages ws who timeout
msgq_act size most messages ws who Ask.MsgqPeek = msgq_peek size most messages ws
msgq_act size most messages ws who Ask.MsgqPurge = msgq_purge size most ws
msgq_act size most messages ws who Ask.MsgqUsed = answers (queue size most messages) ws (Reply.Num (length messages))
msgq_act size most messages ws who _ = answers (queue size most messages) ws Reply.Void

-- stacks
abbrev pub stack_push : ℕ → List ℕ → List Waiter → ℕ → List Waiter → Acted
stack_push most values ws value [] =
    if nat_lt (length values) most then answers (stack most (values ++ value ∷ [])) ws (Reply.Num 0)
    else answers (stack most values) ws (Reply.Fail Errno.ENOMEM)
stack_push most values ws value (first ∷ _) =
    record {
      contents = stack most values;
      waiters = without first.thread.0 ws;
      answer = Answer.Now (Reply.Num 0);
      taken = [];
      woken = told first (Reply.Num 0) (le_bytes 4 value) ∷ [];
    }

-- a pop, with the values from the last on
abbrev pub stack_pop : ℕ → List ℕ → List Waiter → Waiter → Timeout → Acted
stack_pop most [] ws who timeout = blocks (stack most []) ws who timeout Errno.EBUSY
stack_pop most (value ∷ rest) ws who timeout = gives (stack most (reverse rest)) ws (Reply.Num 0) (le_bytes 4 value)

abbrev pub stack_act : ℕ → List ℕ → List Waiter → Waiter → Ask → Acted
stack_act most values ws who (Ask.StackPush value) = stack_push most values ws value (in_order ws)
stack_act most values ws who (Ask.StackPop timeout) = stack_pop most (reverse values) ws who timeout
stack_act most values ws who _ = answers (stack most values) ws Reply.Void

-- pipes
abbrev pub read_length : Ask → ℕ
read_length (Ask.PipeRead length timeout) = length
read_length _ = 0

abbrev pub is_reader : Waiter → Bool
is_reader w = elim w.ask as (λ _. Bool) [ Ask.PipeRead length timeout ↦ true | _ ↦ false ]

abbrev pub is_writer : Waiter → Bool
is_writer w = elim w.ask as (λ _. Bool) [ Ask.PipeWrite length timeout ↦ true | _ ↦ false ]

-- readers, in the order of service, are served while a byte is there: the bytes that are left, and what they are told
abbrev pub readers_served : List Waiter → List ℕ → List ℕ × List (ThreadIx × Told)
readers_served [] bytes = (bytes, [])
readers_served (w ∷ ws) [] = ([], [])
readers_served (w ∷ ws) (b ∷ bytes) =
    let taken = take (read_length w.ask) (b ∷ bytes) in
    let rest = readers_served ws (drop (read_length w.ask) (b ∷ bytes)) in (rest.0, told w (Reply.Num (length taken)) taken ∷ rest.1)

-- writers, in the order of service, are served while room is there
abbrev pub writers_served : ℕ → List Waiter → List ℕ → List ℕ × List (ThreadIx × Told)
writers_served size [] bytes = (bytes, [])
writers_served size (w ∷ ws) bytes =
    if nat_le size (length bytes) then (bytes, [])
    else
    (let put = take (size - length bytes) w.bytes in
    let rest = writers_served size ws (bytes ++ put) in (rest.0, told w (Reply.Num (length put)) [] ∷ rest.1))

-- the waiters that weren't woken
abbrev pub still_waiting : List (ThreadIx × Told) → List Waiter → List Waiter
still_waiting woken ws = filter (λ (w : Waiter). not (list_any (λ (p : ThreadIx × Told). p.0.0 == w.thread.0) woken)) ws

abbrev pub pipe_write : ℕ → List ℕ → Bool → List Waiter → Waiter → ℕ → List ℕ → Timeout → Acted
pipe_write size bytes closed ws who n given timeout =
    if n == 0 then answers (pipe size bytes closed) ws (Reply.Num 0)
    else if closed then answers (pipe size bytes closed) ws (Reply.Fail Errno.EPIPE)
    else if nat_le size (length bytes) then blocks (pipe size bytes closed) ws who timeout Errno.EAGAIN
    else
    (let put = take (size - length bytes) given in
    let served = readers_served (in_order (filter is_reader ws)) (bytes ++ put) in
    record {
      contents = pipe size served.0 closed;
      waiters = still_waiting served.1 ws;
      answer = Answer.Now (Reply.Num (length put));
      taken = [];
      woken = served.1;
    })

-- a read of n bytes, of which some are there
abbrev pub pipe_take : ℕ → List ℕ → Bool → List Waiter → ℕ → Acted
pipe_take size bytes closed ws n =
    let served = writers_served size (in_order (filter is_writer ws)) (drop n bytes) in
    record {
      contents = pipe size served.0 closed;
      waiters = still_waiting served.1 ws;
      answer = Answer.Now (Reply.Num (length (take n bytes)));
      taken = take n bytes;
      woken = served.1;
    }

abbrev pub pipe_read : ℕ → List ℕ → Bool → List Waiter → Waiter → ℕ → Timeout → Acted
pipe_read size bytes closed ws who n timeout =
    if n == 0 then answers (pipe size bytes closed) ws (Reply.Num 0)
    else if not (is_empty bytes) then pipe_take size bytes closed ws n
    else if closed then answers (pipe size bytes closed) ws (Reply.Fail Errno.EPIPE)
    else blocks (pipe size bytes closed) ws who timeout Errno.EAGAIN

abbrev pub pipe_act : ℕ → List ℕ → Bool → List Waiter → Waiter → Ask → Acted
pipe_act size bytes closed ws who (Ask.PipeWrite n timeout) = pipe_write size bytes closed ws who n who.bytes timeout
pipe_act size bytes closed ws who (Ask.PipeRead n timeout) = pipe_read size bytes closed ws who n timeout
pipe_act size bytes closed ws who Ask.PipeReset = wakes_all (pipe size [] closed) ws Reply.Void Errno.ECANCELED
pipe_act size bytes closed ws who Ask.PipeClose = wakes_all (pipe size bytes true) ws Reply.Void Errno.EPIPE
pipe_act size bytes closed ws who _ = answers (pipe size bytes closed) ws Reply.Void

-- timers
-- a timer that runs stops, with the waiters in the order of service
abbrev pub timer_stops : List Waiter → List Waiter → Acted
timer_stops ws [] = answers (Contents.Stopped 0) ws Reply.Void
timer_stops ws (first ∷ _) =
    record {
      contents = Contents.Stopped 0;
      waiters = without first.thread.0 ws;
      answer = Answer.Now Reply.Void;
      taken = [];
      woken = told first (Reply.Num 0) [] ∷ [];
    }

abbrev pub stopped_act : ℕ → List Waiter → Waiter → Ask → Acted
stopped_act status ws who (Ask.TimerStart deadline) = answers (Contents.Running deadline) ws Reply.Void
stopped_act status ws who Ask.TimerStatus = answers (Contents.Stopped 0) ws (Reply.Num status)
stopped_act status ws who Ask.TimerSync = answers (Contents.Stopped 0) ws (Reply.Num status)
stopped_act status ws who _ = answers (Contents.Stopped status) ws Reply.Void

abbrev pub running_act : ℕ → List Waiter → Waiter → Ask → Acted
running_act deadline ws who (Ask.TimerStart later) = answers (Contents.Running later) ws Reply.Void
running_act deadline ws who Ask.TimerStop = timer_stops ws (in_order ws)
running_act deadline ws who Ask.TimerStatus = answers (Contents.Running deadline) ws (Reply.Num 0)
running_act deadline ws who Ask.TimerSync =
    record { contents = Contents.Running deadline; waiters = without who.thread.0 ws ++ who ∷ []; answer = Answer.Wait; taken = []; woken = [] }
running_act deadline ws who _ = answers (Contents.Running deadline) ws Reply.Void

-- a timer runs out, with the waiters in the order of service: what it is then, who waits, and what the one served is told
abbrev pub runs_out : List Waiter → List Waiter → Contents × List Waiter × List (ThreadIx × Told)
runs_out ws [] = (Contents.Stopped 1, ws, [])
runs_out ws (first ∷ _) = (Contents.Stopped 0, without first.thread.0 ws, told first (Reply.Num 1) [] ∷ [])

-- an initialisation from any state, where nobody waits
abbrev pub renews : Contents → Contents → List Waiter → Acted
renews new old [] = answers new [] (Reply.Num 0)
renews new old (w ∷ ws) = answers old (w ∷ ws) (Reply.Fail Errno.EBUSY)

-- an initialisation of contents that aren't in use
abbrev pub fills : Contents → Contents → List Waiter → Acted
fills new Contents.Nothing ws = answers new ws (Reply.Num 0)
fills new old ws = answers old ws (Reply.Fail Errno.EADDRINUSE)

-- an act on contents that are in use
abbrev pub uses : Contents → List Waiter → Waiter → Ask → Acted
uses (Contents.Sem count limit) ws who ask = sem_act count limit ws who ask
uses (Contents.Mutex owner depth) ws who ask = mutex_act owner depth ws who ask
uses (Contents.Msgq q) ws who ask = msgq_act q.size q.most q.messages ws who ask
uses (Contents.Stack s) ws who ask = stack_act s.most s.values ws who ask
uses (Contents.Pipe p) ws who ask = pipe_act p.size p.bytes p.closed ws who ask
uses (Contents.Stopped status) ws who ask = stopped_act status ws who ask
uses (Contents.Running deadline) ws who ask = running_act deadline ws who ask
uses contents ws who ask = answers contents ws Reply.Void

-- what an act does with contents and waiters
abbrev pub acted_by : Contents → List Waiter → Waiter → Ask → Acted
acted_by contents ws who (Ask.SemInit count limit) = renews (Contents.Sem count limit) contents ws
acted_by contents ws who Ask.MutexInit = renews (Contents.Mutex None 0) contents ws
acted_by contents ws who (Ask.MsgqInit size most pool) = fills (queue size most []) contents ws
acted_by contents ws who (Ask.StackInit most pool) = fills (stack most []) contents ws
acted_by contents ws who (Ask.PipeInit size pool) = fills (pipe size [] false) contents ws
acted_by contents ws who ask = uses contents ws who ask

abbrev pub acted : Contents → List Waiter → Waiter → Acted
acted contents ws who = acted_by contents ws who who.ask
