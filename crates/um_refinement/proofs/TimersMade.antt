-- Only the start of a timer leaves one that runs: contents that don't run before an act run after it only where it starts a timer; and only such an
-- act, or one on that timer, leaves a timer that runs until a deadline.
use Rattle.um_refinement.proofs.Words.{◌≡◌, ◌⊎◌, inl, inr, ℕ, ◌+◌, Bool, true, false, refl, sym, ap, ◌∙◌, if◌then◌else◌, List, [], ◌∷◌, ◌++◌, length, nat_lt, Option, Some, None, not, ◌==◌, true≢false, ThreadIx, Waiter, Answer, Ask, Errno, Reply}
use Rattle.std.specs.Prelude.{◌-◌, filter, nat_le, reverse, take}
use Rattle.um_base.specs.declared.names.Timeout.{Timeout}
use Rattle.um_machine.specs.declared.contents.Contents.{Contents}
use Rattle.um_machine.specs.Contents.{saturated}
use Rattle.um_machine.specs.Services.{Acted, acted_by, answers, blocks, fills, in_order, is_empty, is_getter, is_putter, is_reader, msgq_act, msgq_get, msgq_peek, msgq_put, msgq_take, mutex_act, mutex_lock, mutex_passes, mutex_unlock, pipe, pipe_act, pipe_read, pipe_take, pipe_write, queue, readers_served, renews, sem_act, sem_give, stack, stack_act, stack_pop, stack_push, still_waiting, stopped_act, running_act, timer_stops, uses}

abbrev pub is_running : Contents → Bool
is_running (Contents.Running deadline) = true
is_running contents = false

-- until when a timer runs, or else this
abbrev pub until_or : ℕ → Contents → ℕ
until_or n (Contents.Running deadline) = deadline
until_or n contents = n

module _ (who : Waiter) (ws : List Waiter) where
  -- an act leaves no timer that runs
  abbrev Acts : Acted → Type 0
  Acts a = is_running a.contents ≡ false

  either : (b : Bool) (x y : Acted) → Acts x → Acts y → Acts (if b then x else y)
  either true x y hx hy = hx
  either false x y hx hy = hy

  blocked : (contents : Contents) (timeout : Timeout) (e : Errno) → is_running contents ≡ false → Acts (blocks contents ws who timeout e)
  blocked contents Timeout.NoWait e h = h
  blocked contents Timeout.Forever e h = h
  blocked contents (Timeout.Ticks n) e h = h

  gave : (count limit : ℕ) (order : List Waiter) → Acts (sem_give count limit ws order)
  gave count limit [] = refl
  gave count limit (first ∷ rest) = refl

  semaphore : (count limit : ℕ) (ask : Ask) → Acts (sem_act count limit ws who ask)
  semaphore count limit (Ask.SemTake timeout) =
      either (nat_lt 0 count) (answers (Contents.Sem (count - 1) limit) ws (Reply.Num 0)) (blocks (Contents.Sem count limit) ws who timeout Errno.EBUSY) refl
      (blocked (Contents.Sem count limit) timeout Errno.EBUSY refl)
  semaphore count limit Ask.SemGive = gave count limit (in_order ws)
  semaphore count limit Ask.SemReset = refl
  semaphore count limit ask = refl

  locked : (owner : Option ThreadIx) (depth : ℕ) (timeout : Timeout) → Acts (mutex_lock owner depth ws who timeout)
  locked None depth timeout = refl
  locked (Some owner) depth timeout =
      either (owner.0 == who.thread.0) (answers (Contents.Mutex (Some owner) (saturated (depth + 1))) ws (Reply.Num 0))
      (blocks (Contents.Mutex (Some owner) depth) ws who timeout Errno.EBUSY) refl (blocked (Contents.Mutex (Some owner) depth) timeout Errno.EBUSY refl)

  passed : (order : List Waiter) → Acts (mutex_passes ws order)
  passed [] = refl
  passed (first ∷ rest) = refl

  unlocked : (owner : Option ThreadIx) (depth : ℕ) → Acts (mutex_unlock owner depth ws who)
  unlocked None depth = refl
  unlocked (Some owner) depth =
      let less = answers (Contents.Mutex (Some owner) (depth - 1)) ws (Reply.Num 0) in
      let free = mutex_passes ws (in_order ws) in
      either (not (owner.0 == who.thread.0)) (answers (Contents.Mutex (Some owner) depth) ws (Reply.Fail Errno.EPERM)) (if nat_lt 1 depth then less else free) refl
      (either (nat_lt 1 depth) less free refl (passed (in_order ws)))

  mutex : (owner : Option ThreadIx) (depth : ℕ) (ask : Ask) → Acts (mutex_act owner depth ws who ask)
  mutex owner depth (Ask.MutexLock timeout) = locked owner depth timeout
  mutex owner depth Ask.MutexUnlock = unlocked owner depth
  mutex owner depth ask = refl

  put : (size most : ℕ) (messages : List (List ℕ)) (message : List ℕ) (timeout : Timeout) (order : List Waiter) → Acts (msgq_put size most messages ws who message timeout order)
  put size most messages message timeout [] =
      either (nat_lt (length messages) most) (answers (queue size most (messages ++ message ∷ [])) ws (Reply.Num 0))
      (blocks (queue size most messages) ws who timeout Errno.ENOMSG) refl (blocked (queue size most messages) timeout Errno.ENOMSG refl)
  put size most messages message timeout (first ∷ rest) = refl

  taken : (size most : ℕ) (message : List ℕ) (messages : List (List ℕ)) (order : List Waiter) → Acts (msgq_take size most message messages ws order)
  taken size most message messages [] = refl
  taken size most message messages (first ∷ rest) = refl

  got : (size most : ℕ) (messages : List (List ℕ)) (timeout : Timeout) → Acts (msgq_get size most messages ws who timeout)
  got size most [] timeout = blocked (queue size most []) timeout Errno.ENOMSG refl
  got size most (message ∷ rest) timeout = taken size most message rest (in_order (filter is_putter ws))

  peeked : (size most : ℕ) (messages : List (List ℕ)) → Acts (msgq_peek size most messages ws)
  peeked size most [] = refl
  peeked size most (message ∷ rest) = refl

  message-queue : (size most : ℕ) (messages : List (List ℕ)) (ask : Ask) → Acts (msgq_act size most messages ws who ask)
  message-queue size most messages (Ask.MsgqPut timeout) = put size most messages who.bytes timeout (in_order (filter is_getter ws))
  message-queue size most messages (Ask.MsgqGet timeout) = got size most messages timeout
  message-queue size most messages Ask.MsgqPeek = peeked size most messages
  message-queue size most messages Ask.MsgqPurge = refl
  message-queue size most messages ask = refl

  pushed : (most : ℕ) (values : List ℕ) (value : ℕ) (order : List Waiter) → Acts (stack_push most values ws value order)
  pushed most values value [] =
      either (nat_lt (length values) most) (answers (stack most (values ++ value ∷ [])) ws (Reply.Num 0)) (answers (stack most values) ws (Reply.Fail Errno.ENOMEM)) refl refl
  pushed most values value (first ∷ rest) = refl

  popped : (most : ℕ) (values : List ℕ) (timeout : Timeout) → Acts (stack_pop most values ws who timeout)
  popped most [] timeout = blocked (stack most []) timeout Errno.EBUSY refl
  popped most (value ∷ rest) timeout = refl

  value-stack : (most : ℕ) (values : List ℕ) (ask : Ask) → Acts (stack_act most values ws who ask)
  value-stack most values (Ask.StackPush value) = pushed most values value (in_order ws)
  value-stack most values (Ask.StackPop timeout) = popped most (reverse values) timeout
  value-stack most values ask = refl

  written : (size : ℕ) (bytes : List ℕ) (closed : Bool) (n : ℕ) (given : List ℕ) (timeout : Timeout) → Acts (pipe_write size bytes closed ws who n given timeout)
  written size bytes closed n given timeout =
      let nothing = answers (pipe size bytes closed) ws (Reply.Num 0) in
      let broken = answers (pipe size bytes closed) ws (Reply.Fail Errno.EPIPE) in
      let waiting = blocks (pipe size bytes closed) ws who timeout Errno.EAGAIN in
      let put = take (size - length bytes) given in
      let told = readers_served (in_order (filter is_reader ws)) (bytes ++ put) in
      let some : Acted = record {
        contents = pipe size told.0 closed;
        waiters = still_waiting told.1 ws;
        answer = Answer.Now (Reply.Num (length put));
        taken = [];
        woken = told.1;
      } in
      let last = if nat_le size (length bytes) then waiting else some in
      either (n == 0) nothing (if closed then broken else last) refl
      (either closed broken last refl
      (either (nat_le size (length bytes)) waiting some (blocked (pipe size bytes closed) timeout Errno.EAGAIN refl) refl))

  read : (size : ℕ) (bytes : List ℕ) (closed : Bool) (n : ℕ) (timeout : Timeout) → Acts (pipe_read size bytes closed ws who n timeout)
  read size bytes closed n timeout =
      let nothing = answers (pipe size bytes closed) ws (Reply.Num 0) in
      let some = pipe_take size bytes closed ws n in
      let broken = answers (pipe size bytes closed) ws (Reply.Fail Errno.EPIPE) in
      let waiting = blocks (pipe size bytes closed) ws who timeout Errno.EAGAIN in
      let last = if closed then broken else waiting in
      either (n == 0) nothing (if not (is_empty bytes) then some else last) refl
      (either (not (is_empty bytes)) some last refl
      (either closed broken waiting refl (blocked (pipe size bytes closed) timeout Errno.EAGAIN refl)))

  byte-pipe : (size : ℕ) (bytes : List ℕ) (closed : Bool) (ask : Ask) → Acts (pipe_act size bytes closed ws who ask)
  byte-pipe size bytes closed (Ask.PipeWrite n timeout) = written size bytes closed n who.bytes timeout
  byte-pipe size bytes closed (Ask.PipeRead n timeout) = read size bytes closed n timeout
  byte-pipe size bytes closed Ask.PipeReset = refl
  byte-pipe size bytes closed Ask.PipeClose = refl
  byte-pipe size bytes closed ask = refl

  stops : (order : List Waiter) → Acts (timer_stops ws order)
  stops [] = refl
  stops (first ∷ rest) = refl

  module _ (d : ℕ) where
    -- a timer runs until this deadline after the act
    abbrev Runs : Contents → Type 0
    Runs contents = contents ≡ Contents.Running d

    abbrev Made : Contents → Ask → Type 0
    Made contents ask = Runs contents ⊎ (ask ≡ Ask.TimerStart d)

    none : {A : Type 0} (contents : Contents) → is_running contents ≡ false → Runs contents → A
    none contents off runs = absurd (true≢false (sym (ap is_running runs) ∙ off))

    still-timer : (status : ℕ) (ask : Ask) → Runs (stopped_act status ws who ask).contents → Made (Contents.Stopped status) ask
    still-timer status (Ask.TimerStart deadline) h = inr (ap Ask.TimerStart (ap (until_or d) h))
    still-timer status Ask.TimerStatus h = none _ refl h
    still-timer status Ask.TimerSync h = none _ refl h
    still-timer status ask h = none _ refl h

    running-timer : (deadline : ℕ) (ask : Ask) → Runs (running_act deadline ws who ask).contents → Made (Contents.Running deadline) ask
    running-timer deadline (Ask.TimerStart later) h = inr (ap Ask.TimerStart (ap (until_or d) h))
    running-timer deadline Ask.TimerStop h = none _ (stops (in_order ws)) h
    running-timer deadline Ask.TimerStatus h = inl h
    running-timer deadline Ask.TimerSync h = inl h
    running-timer deadline ask h = inl h

    used : (contents : Contents) (ask : Ask) → Runs (uses contents ws who ask).contents → Made contents ask
    used (Contents.Sem count limit) ask h = none _ (semaphore count limit ask) h
    used (Contents.Mutex owner depth) ask h = none _ (mutex owner depth ask) h
    used (Contents.Msgq q) ask h = none _ (message-queue q.size q.most q.messages ask) h
    used (Contents.Stack s) ask h = none _ (value-stack s.most s.values ask) h
    used (Contents.Pipe p) ask h = none _ (byte-pipe p.size p.bytes p.closed ask) h
    used (Contents.Stopped status) ask h = still-timer status ask h
    used (Contents.Running deadline) ask h = running-timer deadline ask h
    used contents ask h = inl h

    renewed : (new old : Contents) (queue : List Waiter) → is_running new ≡ false → Runs (renews new old queue).contents → Runs old
    renewed new old [] off h = none new off h
    renewed new old (w ∷ queue) off h = h

    filled : (new old : Contents) → is_running new ≡ false → Runs (fills new old ws).contents → Runs old
    filled new Contents.Nothing off h = none new off h
    filled new old off h = h

    -- every act
    pub timer-made : (contents : Contents) (ask : Ask) → Runs (acted_by contents ws who ask).contents → Made contents ask
    timer-made contents (Ask.SemInit count limit) h = inl (renewed (Contents.Sem count limit) contents ws refl h)
    timer-made contents Ask.MutexInit h = inl (renewed (Contents.Mutex None 0) contents ws refl h)
    timer-made contents (Ask.MsgqInit size most pool) h = inl (filled (queue size most []) contents refl h)
    timer-made contents (Ask.StackInit most pool) h = inl (filled (stack most []) contents refl h)
    timer-made contents (Ask.PipeInit size pool) h = inl (filled (pipe size [] false) contents refl h)
    timer-made contents ask h = used contents ask h
