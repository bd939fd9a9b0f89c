-- Who waits on an object after an act: only those who waited there, and the caller where its answer is to wait. So what is known of each of them
-- is so after the act.
use Rattle.um_refinement.proofs.Words.{◌≡◌, ℕ, ◌+◌, Bool, true, false, refl, if◌then◌else◌, List, [], ◌∷◌, ◌++◌, length, nat_lt, Option, Some, None, not, ◌==◌, list_all, and_parts, and_from, ThreadIx, Waiter, Answer, Ask, Errno, Reply, Told}
use Rattle.std.specs.Prelude.{◌-◌, cond, filter, nat_le, reverse, take}
use Rattle.um_base.specs.declared.names.Timeout.{Timeout}
use Rattle.um_machine.specs.declared.contents.Contents.{Contents}
use Rattle.um_machine.specs.Contents.{saturated}
use Rattle.um_machine.specs.Services.{Acted, acted_by, answers, blocks, fills, in_order, is_empty, is_getter, is_putter, is_reader, msgq_act, msgq_get, msgq_peek, msgq_put, msgq_take, mutex_act, mutex_lock, mutex_passes, mutex_unlock, pipe, pipe_act, pipe_read, pipe_take, pipe_write, queue, readers_served, renews, sem_act, sem_give, stack, stack_act, stack_pop, stack_push, still_waiting, stopped_act, running_act, timer_stops, uses, without}

-- so is each of these
abbrev pub All : (Waiter → Bool) → List Waiter → Type 0
All P ws = list_all P ws ≡ true

pub filter-all : (P Q : Waiter → Bool) (ws : List Waiter) → All P ws → All P (filter Q ws)
filter-all P Q [] h = h
filter-all P Q (w ∷ ws) h =
    let parts = and_parts (P w) (list_all P ws) h in
    let more = filter-all P Q ws parts.1 in
    elim (Q w) as (λ b. All P (cond b (w ∷ filter Q ws) (filter Q ws))) [ true ↦ and_from (P w) (list_all P (filter Q ws)) parts.0 more | false ↦ more ]

pub last-all : (P : Waiter → Bool) (ws : List Waiter) (w : Waiter) → All P ws → P w ≡ true → All P (ws ++ w ∷ [])
last-all P [] w h new = and_from (P w) true new refl
last-all P (v ∷ ws) w h new = let parts = and_parts (P v) (list_all P ws) h in and_from (P v) (list_all P (ws ++ w ∷ [])) parts.0 (last-all P ws w parts.1 new)

-- one more behind all others
pub behind-all : (P : Waiter → Bool) (t : ℕ) (ws : List Waiter) (w : Waiter) → All P ws → P w ≡ true → All P (without t ws ++ w ∷ [])
behind-all P t ws w h new = last-all P (without t ws) w (filter-all P (λ (v : Waiter). not (v.thread.0 == t)) ws h) new

module _ (P : Waiter → Bool) (who : Waiter) where
  -- a caller that is to wait is so
  abbrev pub MayJoin : Answer → Type 0
  MayJoin answer = answer ≡ Answer.Wait → P who ≡ true

  module _ (ws : List Waiter) (all : All P ws) where
    abbrev Acts : Acted → Type 0
    Acts a = MayJoin a.answer → All P a.waiters

    some-left : (Q : Waiter → Bool) → All P (filter Q ws)
    some-left Q = filter-all P Q ws all

    left-without : (t : ℕ) → All P (without t ws)
    left-without t = some-left (λ (v : Waiter). not (v.thread.0 == t))

    left-waiting : (woken : List (ThreadIx × Told)) → All P (still_waiting woken ws)
    left-waiting woken = some-left _

    either : (b : Bool) (x y : Acted) → Acts x → Acts y → Acts (if b then x else y)
    either true x y hx hy = hx
    either false x y hx hy = hy

    blocked : (contents : Contents) (timeout : Timeout) (e : Errno) → Acts (blocks contents ws who timeout e)
    blocked contents Timeout.NoWait e new = all
    blocked contents Timeout.Forever e new = behind-all P who.thread.0 ws who all (new refl)
    blocked contents (Timeout.Ticks n) e new = behind-all P who.thread.0 ws who all (new refl)

    -- semaphores
    gave : (count limit : ℕ) (order : List Waiter) → Acts (sem_give count limit ws order)
    gave count limit [] new = all
    gave count limit (first ∷ rest) new = left-without first.thread.0

    semaphore : (count limit : ℕ) (ask : Ask) → Acts (sem_act count limit ws who ask)
    semaphore count limit (Ask.SemTake timeout) =
        either (nat_lt 0 count) (answers (Contents.Sem (count - 1) limit) ws (Reply.Num 0)) (blocks (Contents.Sem count limit) ws who timeout Errno.EBUSY) (λ new. all)
        (blocked (Contents.Sem count limit) timeout Errno.EBUSY)
    semaphore count limit Ask.SemGive = gave count limit (in_order ws)
    semaphore count limit Ask.SemReset = λ new. refl
    semaphore count limit ask = λ new. all

    -- mutexes
    locked : (owner : Option ThreadIx) (depth : ℕ) (timeout : Timeout) → Acts (mutex_lock owner depth ws who timeout)
    locked None depth timeout = λ new. all
    locked (Some owner) depth timeout =
        either (owner.0 == who.thread.0) (answers (Contents.Mutex (Some owner) (saturated (depth + 1))) ws (Reply.Num 0))
        (blocks (Contents.Mutex (Some owner) depth) ws who timeout Errno.EBUSY) (λ new. all) (blocked (Contents.Mutex (Some owner) depth) timeout Errno.EBUSY)

    passed : (order : List Waiter) → Acts (mutex_passes ws order)
    passed [] new = all
    passed (first ∷ rest) new = left-without first.thread.0

    unlocked : (owner : Option ThreadIx) (depth : ℕ) → Acts (mutex_unlock owner depth ws who)
    unlocked None depth = λ new. all
    unlocked (Some owner) depth =
        let less = answers (Contents.Mutex (Some owner) (depth - 1)) ws (Reply.Num 0) in
        let free = mutex_passes ws (in_order ws) in
        either (not (owner.0 == who.thread.0)) (answers (Contents.Mutex (Some owner) depth) ws (Reply.Fail Errno.EPERM)) (if nat_lt 1 depth then less else free) (λ new. all)
        (either (nat_lt 1 depth) less free (λ new. all) (passed (in_order ws)))

    mutex : (owner : Option ThreadIx) (depth : ℕ) (ask : Ask) → Acts (mutex_act owner depth ws who ask)
    mutex owner depth (Ask.MutexLock timeout) = locked owner depth timeout
    mutex owner depth Ask.MutexUnlock = unlocked owner depth
    mutex owner depth ask = λ new. all

    -- message queues
    put : (size most : ℕ) (messages : List (List ℕ)) (message : List ℕ) (timeout : Timeout) (order : List Waiter) → Acts (msgq_put size most messages ws who message timeout order)
    put size most messages message timeout [] =
        either (nat_lt (length messages) most) (answers (queue size most (messages ++ message ∷ [])) ws (Reply.Num 0))
        (blocks (queue size most messages) ws who timeout Errno.ENOMSG) (λ new. all) (blocked (queue size most messages) timeout Errno.ENOMSG)
    put size most messages message timeout (first ∷ rest) = λ new. left-without first.thread.0

    taken : (size most : ℕ) (message : List ℕ) (messages : List (List ℕ)) (order : List Waiter) → Acts (msgq_take size most message messages ws order)
    taken size most message messages [] new = all
    taken size most message messages (first ∷ rest) new = left-without first.thread.0

    got : (size most : ℕ) (messages : List (List ℕ)) (timeout : Timeout) → Acts (msgq_get size most messages ws who timeout)
    got size most [] timeout = blocked (queue size most []) timeout Errno.ENOMSG
    got size most (message ∷ rest) timeout = taken size most message rest (in_order (filter is_putter ws))

    peeked : (size most : ℕ) (messages : List (List ℕ)) → Acts (msgq_peek size most messages ws)
    peeked size most [] new = all
    peeked size most (message ∷ rest) new = all

    message-queue : (size most : ℕ) (messages : List (List ℕ)) (ask : Ask) → Acts (msgq_act size most messages ws who ask)
    message-queue size most messages (Ask.MsgqPut timeout) = put size most messages who.bytes timeout (in_order (filter is_getter ws))
    message-queue size most messages (Ask.MsgqGet timeout) = got size most messages timeout
    message-queue size most messages Ask.MsgqPeek = peeked size most messages
    message-queue size most messages Ask.MsgqPurge = λ new. some-left (λ w. not (is_putter w))
    message-queue size most messages ask = λ new. all

    -- stacks
    pushed : (most : ℕ) (values : List ℕ) (value : ℕ) (order : List Waiter) → Acts (stack_push most values ws value order)
    pushed most values value [] =
        either (nat_lt (length values) most) (answers (stack most (values ++ value ∷ [])) ws (Reply.Num 0)) (answers (stack most values) ws (Reply.Fail Errno.ENOMEM)) (λ new. all) (λ new. all)
    pushed most values value (first ∷ rest) = λ new. left-without first.thread.0

    popped : (most : ℕ) (values : List ℕ) (timeout : Timeout) → Acts (stack_pop most values ws who timeout)
    popped most [] timeout = blocked (stack most []) timeout Errno.EBUSY
    popped most (value ∷ rest) timeout = λ new. all

    value-stack : (most : ℕ) (values : List ℕ) (ask : Ask) → Acts (stack_act most values ws who ask)
    value-stack most values (Ask.StackPush value) = pushed most values value (in_order ws)
    value-stack most values (Ask.StackPop timeout) = popped most (reverse values) timeout
    value-stack most values ask = λ new. all

    -- pipes
    written : (size : ℕ) (bytes : List ℕ) (closed : Bool) (n : ℕ) (given : List ℕ) (timeout : Timeout) → Acts (pipe_write size bytes closed ws who n given timeout)
    written size bytes closed n given timeout =
        let nothing = answers (pipe size bytes closed) ws (Reply.Num 0) in
        let broken = answers (pipe size bytes closed) ws (Reply.Fail Errno.EPIPE) in
        let waiting = blocks (pipe size bytes closed) ws who timeout Errno.EAGAIN in
        let put = take (size - length bytes) given in
        let told = readers_served (in_order (filter is_reader ws)) (bytes ++ put) in
        let some : Acted = record {
          contents = pipe size told.0 closed;
          waiters = still_waiting told.1 ws;
          answer = Answer.Now (Reply.Num (length put));
          taken = [];
          woken = told.1;
        } in
        let last = if nat_le size (length bytes) then waiting else some in
        either (n == 0) nothing (if closed then broken else last) (λ new. all)
        (either closed broken last (λ new. all)
        (either (nat_le size (length bytes)) waiting some (blocked (pipe size bytes closed) timeout Errno.EAGAIN) (λ new. left-waiting told.1)))

    read : (size : ℕ) (bytes : List ℕ) (closed : Bool) (n : ℕ) (timeout : Timeout) → Acts (pipe_read size bytes closed ws who n timeout)
    read size bytes closed n timeout =
        let nothing = answers (pipe size bytes closed) ws (Reply.Num 0) in
        let some = pipe_take size bytes closed ws n in
        let broken = answers (pipe size bytes closed) ws (Reply.Fail Errno.EPIPE) in
        let waiting = blocks (pipe size bytes closed) ws who timeout Errno.EAGAIN in
        let last = if closed then broken else waiting in
        either (n == 0) nothing (if not (is_empty bytes) then some else last) (λ new. all)
        (either (not (is_empty bytes)) some last (λ new. left-waiting some.woken)
        (either closed broken waiting (λ new. all) (blocked (pipe size bytes closed) timeout Errno.EAGAIN)))

    byte-pipe : (size : ℕ) (bytes : List ℕ) (closed : Bool) (ask : Ask) → Acts (pipe_act size bytes closed ws who ask)
    byte-pipe size bytes closed (Ask.PipeWrite n timeout) = written size bytes closed n who.bytes timeout
    byte-pipe size bytes closed (Ask.PipeRead n timeout) = read size bytes closed n timeout
    byte-pipe size bytes closed Ask.PipeReset = λ new. refl
    byte-pipe size bytes closed Ask.PipeClose = λ new. refl
    byte-pipe size bytes closed ask = λ new. all

    -- timers
    stopped : (order : List Waiter) → Acts (timer_stops ws order)
    stopped [] new = all
    stopped (first ∷ rest) new = left-without first.thread.0

    still-timer : (status : ℕ) (ask : Ask) → Acts (stopped_act status ws who ask)
    still-timer status (Ask.TimerStart deadline) new = all
    still-timer status Ask.TimerStatus new = all
    still-timer status Ask.TimerSync new = all
    still-timer status ask new = all

    running-timer : (deadline : ℕ) (ask : Ask) → Acts (running_act deadline ws who ask)
    running-timer deadline (Ask.TimerStart later) new = all
    running-timer deadline Ask.TimerStop new = stopped (in_order ws) new
    running-timer deadline Ask.TimerStatus new = all
    running-timer deadline Ask.TimerSync new = behind-all P who.thread.0 ws who all (new refl)
    running-timer deadline ask new = all

    used : (contents : Contents) (ask : Ask) → Acts (uses contents ws who ask)
    used (Contents.Sem count limit) ask = semaphore count limit ask
    used (Contents.Mutex owner depth) ask = mutex owner depth ask
    used (Contents.Msgq q) ask = message-queue q.size q.most q.messages ask
    used (Contents.Stack s) ask = value-stack s.most s.values ask
    used (Contents.Pipe p) ask = byte-pipe p.size p.bytes p.closed ask
    used (Contents.Stopped status) ask = still-timer status ask
    used (Contents.Running deadline) ask = running-timer deadline ask
    used contents ask = λ new. all

  renewed : (new old : Contents) (ws : List Waiter) → All P ws → All P (renews new old ws).waiters
  renewed new old [] all = all
  renewed new old (w ∷ ws) all = all

  filled : (new old : Contents) (ws : List Waiter) → All P ws → All P (fills new old ws).waiters
  filled new Contents.Nothing ws all = all
  filled new old ws all = all

  -- every act
  pub acts-all : (contents : Contents) (ws : List Waiter) (ask : Ask) → All P ws → MayJoin (acted_by contents ws who ask).answer → All P (acted_by contents ws who ask).waiters
  acts-all contents ws (Ask.SemInit count limit) all new = renewed (Contents.Sem count limit) contents ws all
  acts-all contents ws Ask.MutexInit all new = renewed (Contents.Mutex None 0) contents ws all
  acts-all contents ws (Ask.MsgqInit size most pool) all new = filled (queue size most []) contents ws all
  acts-all contents ws (Ask.StackInit most pool) all new = filled (stack most []) contents ws all
  acts-all contents ws (Ask.PipeInit size pool) all new = filled (pipe size [] false) contents ws all
  acts-all contents ws ask all new = used ws all contents ask new
