-- What each act of a service does with those who wait.
use Rattle.std.proofs.Common.{◌≡◌, ℕ, ◌-◌, Bool, true, false, not, List, [], ◌∷◌, ◌++◌, length, filter, take, drop, reverse, refl, arith, Option, Some, None, if◌then◌else◌, nat_lt, nat_le}
use Rattle.std.specs.Prelude.{◌==◌}
use Rattle.um_base.specs.declared.ask.Ask.{Ask}
use Rattle.um_base.specs.declared.ask.Waiter.{Waiter}
use Rattle.um_base.specs.declared.names.Errno.{Errno}
use Rattle.um_base.specs.declared.names.Reply.{Reply}
use Rattle.um_base.specs.declared.names.ThreadIx.{ThreadIx}
use Rattle.um_base.specs.declared.names.Timeout.{Timeout}
use Rattle.um_machine.specs.declared.contents.Contents.{Contents}
use Rattle.um_machine.specs.Services.{Acted, in_order, without, queue, stack, pipe, blocks, is_empty, sem_take, sem_give, sem_act, mutex_lock, mutex_passes, mutex_unlock, mutex_act, is_getter, is_putter, msgq_put, msgq_take, msgq_get, msgq_peek, msgq_act, stack_push, stack_pop, stack_act, is_reader, is_writer, pipe_write, pipe_take, pipe_read, pipe_act, timer_stops, stopped_act, running_act, renews, fills, uses, acted_by}
use Rattle.um_invariants.proofs.ThreadWaits.{numbers, IsServed, AreApart, Among, times-first, all-order, some-order, served-none, served-blocks, served-waits, served-one, served-all, served-some, served-still, readers-few, readers-times, writers-few, writers-times}

module _ (ws : List Waiter) (who : Waiter) (apart : AreApart ws) where
  abbrev Serves : Acted → Type 0
  Serves w = IsServed ws who.thread.0 w

  none : (w : Acted) → w.woken ≡ [] → w.waiters ≡ ws → Serves w
  none w e f = served-none ws who.thread.0 w apart e f

  wait : (contents : Contents) (timeout : Timeout) (e : Errno) → Serves (blocks contents ws who timeout e)
  wait contents timeout e = served-blocks ws who contents timeout e apart

  first : (v : Waiter) (vs : List Waiter) (w : Acted) → Among (v ∷ vs) ws → numbers w.woken ≡ v.thread.0 ∷ [] → w.waiters ≡ without v.thread.0 ws → Serves w
  first v vs w among e f = served-one ws who.thread.0 v w apart (let here = times-first v vs in let more = among v.thread.0 in omega (arith, here, more)) e f

  either : (b : Bool) (x y : Acted) → Serves x → Serves y → Serves (if b then x else y)
  either true x y f g = f
  either false x y f g = g

  -- Semaphores.

  takes : (count limit : ℕ) (timeout : Timeout) → Serves (sem_take count limit ws who timeout)
  takes count limit timeout = either (nat_lt 0 count) _ _ (none _ refl refl) (wait (Contents.Sem count limit) timeout Errno.EBUSY)

  gives_one : (count limit : ℕ) (vs : List Waiter) → Among vs ws → Serves (sem_give count limit ws vs)
  gives_one count limit [] among = none _ refl refl
  gives_one count limit (v ∷ vs) among = first v vs _ among refl refl

  sems : (count limit : ℕ) (ask : Ask) → Serves (sem_act count limit ws who ask)
  sems count limit (Ask.SemTake timeout) = takes count limit timeout
  sems count limit Ask.SemGive = gives_one count limit (in_order ws) (all-order ws)
  sems count limit Ask.SemReset = served-all ws who.thread.0 Errno.EAGAIN _ apart refl refl
  sems count limit Ask.SemCount = none _ refl refl
  sems count limit _ = none _ refl refl

  -- Mutexes.

  locks : (owner : Option ThreadIx) (depth : ℕ) (timeout : Timeout) → Serves (mutex_lock owner depth ws who timeout)
  locks None depth timeout = none _ refl refl
  locks (Some owner) depth timeout = either (owner.0 == who.thread.0) _ _ (none _ refl refl) (wait (Contents.Mutex (Some owner) depth) timeout Errno.EBUSY)

  passes : (vs : List Waiter) → Among vs ws → Serves (mutex_passes ws vs)
  passes [] among = none _ refl refl
  passes (v ∷ vs) among = first v vs _ among refl refl

  unlocks : (owner : Option ThreadIx) (depth : ℕ) → Serves (mutex_unlock owner depth ws who)
  unlocks None depth = none _ refl refl
  unlocks (Some owner) depth =
      either (not (owner.0 == who.thread.0)) _ _ (none _ refl refl) (either (nat_lt 1 depth) _ _ (none _ refl refl) (passes (in_order ws) (all-order ws)))

  mutexes : (owner : Option ThreadIx) (depth : ℕ) (ask : Ask) → Serves (mutex_act owner depth ws who ask)
  mutexes owner depth (Ask.MutexLock timeout) = locks owner depth timeout
  mutexes owner depth Ask.MutexUnlock = unlocks owner depth
  mutexes owner depth _ = none _ refl refl

  -- Message queues.

  puts : (size most : ℕ) (messages : List (List ℕ)) (message : List ℕ) (timeout : Timeout) (vs : List Waiter) → Among vs ws → Serves (msgq_put size most messages ws who message timeout vs)
  puts size most messages message timeout [] among =
      either (nat_lt (length messages) most) _ _ (none _ refl refl) (wait (queue size most messages) timeout Errno.ENOMSG)
  puts size most messages message timeout (v ∷ vs) among = first v vs _ among refl refl

  takes_message : (size most : ℕ) (message : List ℕ) (rest : List (List ℕ)) (vs : List Waiter) → Among vs ws → Serves (msgq_take size most message rest ws vs)
  takes_message size most message rest [] among = none _ refl refl
  takes_message size most message rest (v ∷ vs) among = first v vs _ among refl refl

  gets : (size most : ℕ) (messages : List (List ℕ)) (timeout : Timeout) → Serves (msgq_get size most messages ws who timeout)
  gets size most [] timeout = wait (queue size most []) timeout Errno.ENOMSG
  gets size most (message ∷ rest) timeout = takes_message size most message rest (in_order (filter is_putter ws)) (some-order is_putter ws)

  peeks : (size most : ℕ) (messages : List (List ℕ)) → Serves (msgq_peek size most messages ws)
  peeks size most [] = none _ refl refl
  peeks size most (message ∷ rest) = none _ refl refl

  queues : (size most : ℕ) (messages : List (List ℕ)) (ask : Ask) → Serves (msgq_act size most messages ws who ask)
  queues size most messages (Ask.MsgqPut timeout) = puts size most messages who.bytes timeout (in_order (filter is_getter ws)) (some-order is_getter ws)
  queues size most messages (Ask.MsgqGet timeout) = gets size most messages timeout
  queues size most messages Ask.MsgqPeek = peeks size most messages
  queues size most messages Ask.MsgqPurge = served-some ws who.thread.0 (Reply.Fail Errno.ENOMSG) is_putter _ apart refl refl
  queues size most messages Ask.MsgqUsed = none _ refl refl
  queues size most messages _ = none _ refl refl

  -- Stacks.

  pushes : (most : ℕ) (values : List ℕ) (value : ℕ) (vs : List Waiter) → Among vs ws → Serves (stack_push most values ws value vs)
  pushes most values value [] among = either (nat_lt (length values) most) _ _ (none _ refl refl) (none _ refl refl)
  pushes most values value (v ∷ vs) among = first v vs _ among refl refl

  pops : (most : ℕ) (values : List ℕ) (timeout : Timeout) → Serves (stack_pop most values ws who timeout)
  pops most [] timeout = wait (stack most []) timeout Errno.EBUSY
  pops most (value ∷ rest) timeout = none _ refl refl

  stacks : (most : ℕ) (values : List ℕ) (ask : Ask) → Serves (stack_act most values ws who ask)
  stacks most values (Ask.StackPush value) = pushes most values value (in_order ws) (all-order ws)
  stacks most values (Ask.StackPop timeout) = pops most (reverse values) timeout
  stacks most values _ = none _ refl refl

  -- Pipes.

  writes : (size : ℕ) (bytes : List ℕ) (closed : Bool) (n : ℕ) (given : List ℕ) (timeout : Timeout) → Serves (pipe_write size bytes closed ws who n given timeout)
  writes size bytes closed n given timeout =
      let put = take (size - length bytes) given in
      let vs = in_order (filter is_reader ws) in
      either (n == 0) _ _ (none _ refl refl) (either closed _ _ (none _ refl refl) (either (nat_le size (length bytes)) _ _ (wait (pipe size bytes closed) timeout Errno.EAGAIN)
      (served-still ws who.thread.0 _ apart (λ u h. (let some = readers-times vs (bytes ++ put) u h in let among = some-order is_reader ws u in omega (arith, some, among)))
      (λ u. (let some = readers-few vs (bytes ++ put) u in let among = some-order is_reader ws u in omega (arith, some, among))) refl)))

  takes_bytes : (size : ℕ) (bytes : List ℕ) (closed : Bool) (n : ℕ) → Serves (pipe_take size bytes closed ws n)
  takes_bytes size bytes closed n =
      let vs = in_order (filter is_writer ws) in
      served-still ws who.thread.0 _ apart (λ u h. (let some = writers-times size vs (drop n bytes) u h in let among = some-order is_writer ws u in omega (arith, some, among)))
      (λ u. (let some = writers-few size vs (drop n bytes) u in let among = some-order is_writer ws u in omega (arith, some, among))) refl

  reads : (size : ℕ) (bytes : List ℕ) (closed : Bool) (n : ℕ) (timeout : Timeout) → Serves (pipe_read size bytes closed ws who n timeout)
  reads size bytes closed n timeout =
      either (n == 0) _ _ (none _ refl refl) (either (not (is_empty bytes)) _ _ (takes_bytes size bytes closed n) (either closed _ _ (none _ refl refl) (wait (pipe size bytes closed) timeout Errno.EAGAIN)))

  pipes : (size : ℕ) (bytes : List ℕ) (closed : Bool) (ask : Ask) → Serves (pipe_act size bytes closed ws who ask)
  pipes size bytes closed (Ask.PipeWrite n timeout) = writes size bytes closed n who.bytes timeout
  pipes size bytes closed (Ask.PipeRead n timeout) = reads size bytes closed n timeout
  pipes size bytes closed Ask.PipeReset = served-all ws who.thread.0 Errno.ECANCELED _ apart refl refl
  pipes size bytes closed Ask.PipeClose = served-all ws who.thread.0 Errno.EPIPE _ apart refl refl
  pipes size bytes closed _ = none _ refl refl

  -- Timers.

  stops : (vs : List Waiter) → Among vs ws → Serves (timer_stops ws vs)
  stops [] among = none _ refl refl
  stops (v ∷ vs) among = first v vs _ among refl refl

  stopped : (status : ℕ) (ask : Ask) → Serves (stopped_act status ws who ask)
  stopped status (Ask.TimerStart deadline) = none _ refl refl
  stopped status Ask.TimerStatus = none _ refl refl
  stopped status Ask.TimerSync = none _ refl refl
  stopped status _ = none _ refl refl

  running : (deadline : ℕ) (ask : Ask) → Serves (running_act deadline ws who ask)
  running deadline (Ask.TimerStart later) = none _ refl refl
  running deadline Ask.TimerStop = stops (in_order ws) (all-order ws)
  running deadline Ask.TimerStatus = none _ refl refl
  running deadline Ask.TimerSync = served-waits ws who (Contents.Running deadline) apart
  running deadline _ = none _ refl refl

  -- Any contents.

  used : (contents : Contents) (ask : Ask) → Serves (uses contents ws who ask)
  used (Contents.Sem count limit) ask = sems count limit ask
  used (Contents.Mutex owner depth) ask = mutexes owner depth ask
  used (Contents.Msgq q) ask = queues q.size q.most q.messages ask
  used (Contents.Stack s) ask = stacks s.most s.values ask
  used (Contents.Pipe p) ask = pipes p.size p.bytes p.closed ask
  used (Contents.Stopped status) ask = stopped status ask
  used (Contents.Running deadline) ask = running deadline ask
  used contents ask = none _ refl refl

  filled : (new contents : Contents) → Serves (fills new contents ws)
  filled new Contents.Nothing = none _ refl refl
  filled new contents = none _ refl refl

  renewed : (new contents : Contents) (vs : List Waiter) → vs ≡ ws → Serves (renews new contents vs)
  renewed new contents [] e = none _ refl e
  renewed new contents (v ∷ vs) e = none _ refl e

  pub served : (contents : Contents) (ask : Ask) → Serves (acted_by contents ws who ask)
  served contents (Ask.SemInit count limit) = renewed (Contents.Sem count limit) contents ws refl
  served contents Ask.MutexInit = renewed (Contents.Mutex None 0) contents ws refl
  served contents (Ask.MsgqInit size most pool) = filled (queue size most []) contents
  served contents (Ask.StackInit most pool) = filled (stack most []) contents
  served contents (Ask.PipeInit size pool) = filled (pipe size [] false) contents
  served contents ask = used contents ask
