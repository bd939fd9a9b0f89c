-- Of those who wait on an object an act leaves each one there, or wakes it; and the caller stands there if it is to wait.
use Rattle.std.specs.List.{list_any}
use Rattle.std.specs.Prelude.{◌==◌, ◌||◌, not, if◌then◌else◌, filter, reverse, nat_lt, nat_le, int_lt}
use Rattle.std.proofs.Common.{◌≡◌, ◌⊎◌, inl, inr, ℕ, Bool, true, false, List, [], ◌∷◌, ◌++◌, Option, Some, None, refl, sym, ap, ◌∙◌, subst, map, length, eq-eqb}
use Rattle.std.proofs.lemmas.Bool.{eqb-true, false≢true, true≢false}
use Rattle.um_base.specs.declared.act.Answer.{Answer}
use Rattle.um_base.specs.declared.ask.Ask.{Ask}
use Rattle.um_base.specs.declared.ask.Told.{Told}
use Rattle.um_base.specs.declared.ask.Waiter.{Waiter}
use Rattle.um_base.specs.declared.names.Errno.{Errno}
use Rattle.um_base.specs.declared.names.Reply.{Reply}
use Rattle.um_base.specs.declared.names.ThreadIx.{ThreadIx}
use Rattle.um_base.specs.declared.names.Timeout.{Timeout}
use Rattle.um_machine.specs.Run.{stands_in}
use Rattle.um_machine.specs.Services.{Acted, acted_by, blocks, fills, in_order, is_empty, is_getter, is_putter, msgq_act, msgq_get, msgq_put, msgq_take, mutex_act, mutex_passes, pipe, pipe_act, queue, renews, running_act, sem_act, sem_give, stack, stack_act, stack_pop, stack_push, still_waiting, stopped_act, timer_stops, told, uses, with_waiter, without}
use Rattle.um_machine.specs.Writes.{says_wait}
use Rattle.um_machine.specs.declared.contents.Contents.{Contents}
use Rattle.um_invariants.proofs.Outcomes.{Outcome, fronts, outcome, purges, serves, stays, tells, waits}

-- whether a thread is among those who are woken
abbrev pub is_told : ℕ → List (ThreadIx × Told) → Bool
is_told u woken = list_any (λ (p : ThreadIx × Told). p.0.0 == u) woken

or-second : (b : Bool) {c : Bool} → c ≡ true → (b || c) ≡ true
or-second true h = refl
or-second false h = h

or-first : (b c : Bool) → b ≡ true → (b || c) ≡ true
or-first true c h = refl
or-first false c h = absurd (false≢true h)

-- Lists of waiters.

pub in-last : (w : Waiter) (ws : List Waiter) → stands_in w.thread.0 (ws ++ w ∷ []) ≡ true
in-last w [] = or-first (w.thread.0 == w.thread.0) false (eq-eqb w.thread.0 w.thread.0 refl)
in-last w (v ∷ ws) = or-second (v.thread.0 == w.thread.0) (in-last w ws)

in-front : (u : ℕ) (ws : List Waiter) (w : Waiter) → stands_in u ws ≡ true → stands_in u (ws ++ w ∷ []) ≡ true
in-front u [] w h = absurd (false≢true h)
in-front u (v ∷ ws) w h = by (v.thread.0 == u) h (in-front u ws w)
  where
    by : (b : Bool) → (b || stands_in u ws) ≡ true → (stands_in u ws ≡ true → stands_in u (ws ++ w ∷ []) ≡ true) → (b || stands_in u (ws ++ w ∷ [])) ≡ true
    by true k more = refl
    by false k more = more k

-- a test leaves a waiter, or its contrary does
in-split : (u : ℕ) (p : Waiter → Bool) (ws : List Waiter) → stands_in u ws ≡ true → (stands_in u (filter p ws) ≡ true) ⊎ (stands_in u (filter (λ v. not (p v)) ws) ≡ true)
in-split u p [] h = absurd (false≢true h)
in-split u p (w ∷ ws) h = by (w.thread.0 == u) refl (p w) h (in-split u p ws)
  where
    Goal : Bool → Type 0
    Goal c = (stands_in u (if c then w ∷ filter p ws else filter p ws) ≡ true) ⊎ (stands_in u (if not c then w ∷ filter (λ v. not (p v)) ws else filter (λ v. not (p v)) ws) ≡ true)

    later : (c : Bool) → (stands_in u (filter p ws) ≡ true) ⊎ (stands_in u (filter (λ v. not (p v)) ws) ≡ true) → Goal c
    later true (inl k) = inl (or-second (w.thread.0 == u) k)
    later true (inr k) = inr k
    later false (inl k) = inl k
    later false (inr k) = inr (or-second (w.thread.0 == u) k)

    by : (b : Bool) → (w.thread.0 == u) ≡ b → (c : Bool) → (b || stands_in u ws) ≡ true
        → (stands_in u ws ≡ true → (stands_in u (filter p ws) ≡ true) ⊎ (stands_in u (filter (λ v. not (p v)) ws) ≡ true)) → Goal c
    by true e true k more = inl (or-first (w.thread.0 == u) _ e)
    by true e false k more = inr (or-first (w.thread.0 == u) _ e)
    by false e c k more = later c (more k)

-- whoever only a test finds meets it
in-meets : (u : ℕ) (p : Waiter → Bool) (Q : Type 0) → ((w : Waiter) → p w ≡ true → w.thread.0 ≡ u → Q) → (ws : List Waiter) → stands_in u (filter p ws) ≡ true → Q
in-meets u p Q meets [] h = absurd (false≢true h)
in-meets u p Q meets (w ∷ ws) h = by (p w) refl h (in-meets u p Q meets ws)
  where
    by : (b : Bool) → p w ≡ b → stands_in u (if b then w ∷ filter p ws else filter p ws) ≡ true → (stands_in u (filter p ws) ≡ true → Q) → Q
    by false e k more = more k
    by true e k more = here (w.thread.0 == u) refl k
      where
        here : (b : Bool) → (w.thread.0 == u) ≡ b → (b || stands_in u (filter p ws)) ≡ true → Q
        here true f g = meets w e (eqb-true w.thread.0 u f)
        here false f g = more g

not-not : (b : Bool) → not (not b) ≡ true → b ≡ true
not-not true h = refl
not-not false h = h

-- all but one stay
pub in-without : (u who : ℕ) (ws : List Waiter) → stands_in u ws ≡ true → (stands_in u (without who ws) ≡ true) ⊎ (who ≡ u)
in-without u who ws h = by (in-split u (λ (w : Waiter). not (w.thread.0 == who)) ws h)
  where
    by : (stands_in u (without who ws) ≡ true) ⊎ (stands_in u (filter (λ (w : Waiter). not (not (w.thread.0 == who))) ws) ≡ true) → (stands_in u (without who ws) ≡ true) ⊎ (who ≡ u)
    by (inl k) = inl k
    by (inr k) =
        inr (in-meets u (λ (w : Waiter). not (not (w.thread.0 == who))) (who ≡ u) (λ w is same. sym (eqb-true w.thread.0 who (not-not (w.thread.0 == who) is)) ∙ same) ws k)

pub in-still : (u : ℕ) (woken : List (ThreadIx × Told)) (ws : List Waiter) → stands_in u ws ≡ true → (stands_in u (still_waiting woken ws) ≡ true) ⊎ (is_told u woken ≡ true)
in-still u woken ws h = by (in-split u (λ (w : Waiter). not (is_told w.thread.0 woken)) ws h)
  where
    by : (stands_in u (still_waiting woken ws) ≡ true) ⊎ (stands_in u (filter (λ (w : Waiter). not (not (is_told w.thread.0 woken))) ws) ≡ true)
        → (stands_in u (still_waiting woken ws) ≡ true) ⊎ (is_told u woken ≡ true)
    by (inl k) = inl k
    by (inr k) =
        inr (in-meets u (λ (w : Waiter). not (not (is_told w.thread.0 woken))) (is_told u woken ≡ true)
        (λ w is same. subst (λ n. is_told n woken ≡ true) same (not-not (is_told w.thread.0 woken) is)) ws k)

in-with : (u : ℕ) (w : Waiter) (ws : List Waiter) → stands_in u (w ∷ ws) ≡ true → stands_in u (with_waiter w ws) ≡ true
in-with u w [] h = h
in-with u w (v ∷ ws) h = by (int_lt v.priority w.priority) (in-with u w ws)
  where
    swap : (a b c : Bool) → (a || (b || c)) ≡ true → (b || (a || c)) ≡ true
    swap true true c k = refl
    swap true false c k = refl
    swap false true c k = refl
    swap false false c k = k

    deep : (b : Bool) {c d : Bool} → (c ≡ true → d ≡ true) → (b || c) ≡ true → (b || d) ≡ true
    deep true more k = refl
    deep false more k = more k

    by : (b : Bool) → (stands_in u (w ∷ ws) ≡ true → stands_in u (with_waiter w ws) ≡ true) → stands_in u (if b then v ∷ with_waiter w ws else w ∷ v ∷ ws) ≡ true
    by true more = deep (v.thread.0 == u) more (swap (w.thread.0 == u) (v.thread.0 == u) (stands_in u ws) h)
    by false more = h

in-order : (u : ℕ) (ws : List Waiter) → stands_in u ws ≡ true → stands_in u (in_order ws) ≡ true
in-order u [] h = h
in-order u (w ∷ ws) h = in-with u w (in_order ws) (by (w.thread.0 == u) h (in-order u ws))
  where
    by : (b : Bool) → (b || stands_in u ws) ≡ true → (stands_in u ws ≡ true → stands_in u (in_order ws) ≡ true) → (b || stands_in u (in_order ws)) ≡ true
    by true k more = refl
    by false k more = more k

told-in : (u : ℕ) (reply : Reply) (vs : List Waiter) → stands_in u vs ≡ true → is_told u (map (λ (w : Waiter). told w reply []) vs) ≡ true
told-in u reply [] h = h
told-in u reply (v ∷ vs) h = by (v.thread.0 == u) h (told-in u reply vs)
  where
    by : (b : Bool) → (b || stands_in u vs) ≡ true → (stands_in u vs ≡ true → is_told u (map (λ (w : Waiter). told w reply []) vs) ≡ true)
        → (b || is_told u (map (λ (w : Waiter). told w reply []) vs)) ≡ true
    by true k more = refl
    by false k more = more k

-- those whom a test finds are all told
pub told-some : (u : ℕ) (reply : Reply) (ws : List Waiter) → stands_in u ws ≡ true → is_told u (map (λ (w : Waiter). told w reply []) (in_order ws)) ≡ true
told-some u reply ws h = told-in u reply (in_order ws) (in-order u ws h)

one-told : (u : ℕ) (first : ThreadIx) (told_so : Told) → first.0 ≡ u → is_told u ((first, told_so) ∷ []) ≡ true
one-told u first told_so same = or-first (first.0 == u) false (eq-eqb first.0 u same)

-- What an act leaves.

abbrev pub Stay : ℕ → List Waiter → List (ThreadIx × Told) → Type 0
Stay u ws woken = (stands_in u ws ≡ true) ⊎ (is_told u woken ≡ true)

pub split-stay : (u : ℕ) (reply : Reply) (p : Waiter → Bool) (ws : List Waiter) → stands_in u ws ≡ true → Stay u (filter (λ v. not (p v)) ws) (map (λ (w : Waiter). told w reply []) (in_order (filter p ws)))
split-stay u reply p ws h = by (in-split u p ws h)
  where
    by : (stands_in u (filter p ws) ≡ true) ⊎ (stands_in u (filter (λ v. not (p v)) ws) ≡ true) → Stay u (filter (λ v. not (p v)) ws) (map (λ (w : Waiter). told w reply []) (in_order (filter p ws)))
    by (inl k) = inr (told-some u reply (filter p ws) k)
    by (inr k) = inl k

first-stays : (u : ℕ) (first : ThreadIx) (told_so : Told) (ws : List Waiter) → stands_in u ws ≡ true → Stay u (without first.0 ws) ((first, told_so) ∷ [])
first-stays u first told_so ws h = by (in-without u first.0 ws h)
  where
    by : (stands_in u (without first.0 ws) ≡ true) ⊎ (first.0 ≡ u) → Stay u (without first.0 ws) ((first, told_so) ∷ [])
    by (inl k) = inl k
    by (inr same) = inr (one-told u first told_so same)

pub taken-out : (u : ℕ) (first : ThreadIx) (told_so : Told) (ws : List Waiter) → stands_in u ws ≡ true → Stay u (without first.0 ws) ((first, told_so) ∷ [])
taken-out = first-stays

pub behind-stays : (u : ℕ) (who : Waiter) (ws : List Waiter) → stands_in u ws ≡ true → stands_in u (without who.thread.0 ws ++ who ∷ []) ≡ true
behind-stays u who ws h = by (in-without u who.thread.0 ws h)
  where
    by : (stands_in u (without who.thread.0 ws) ≡ true) ⊎ (who.thread.0 ≡ u) → stands_in u (without who.thread.0 ws ++ who ∷ []) ≡ true
    by (inl k) = in-front u (without who.thread.0 ws) who k
    by (inr same) = subst (λ n. stands_in n (without who.thread.0 ws ++ who ∷ []) ≡ true) same (in-last who (without who.thread.0 ws))

outcome-stays : (u : ℕ) (ws after : List Waiter) (answer : Answer) (woken : List (ThreadIx × Told)) → Outcome ws after answer woken → stands_in u ws ≡ true → Stay u after woken
outcome-stays u ws _ _ _ stays h = inl h
outcome-stays u ws _ _ _ (waits who) h = inl (behind-stays u who ws h)
outcome-stays u ws _ _ _ (serves which first rest told_so e) h = first-stays u first.thread told_so ws h
outcome-stays u ws _ _ _ (tells e) h = inr (told-some u (Reply.Fail e) ws h)
outcome-stays u ws _ _ _ (purges e) h = split-stay u (Reply.Fail e) is_putter ws h
outcome-stays u ws _ _ woken (fronts which front) h = in-still u woken ws h

pub acted-stays : (u : ℕ) (contents : Contents) (ws : List Waiter) (who : Waiter) (ask : Ask) → stands_in u ws ≡ true
    → Stay u (acted_by contents ws who ask).waiters (acted_by contents ws who ask).woken
acted-stays u contents ws who ask h = let a = acted_by contents ws who ask in outcome-stays u ws a.waiters a.answer a.woken (outcome contents ws who ask) h

-- The caller stands there if it is to wait.

module _ (ws : List Waiter) (who : Waiter) where
  record Joins (w : Acted) : Type 0 where
    joins : w.answer ≡ Answer.Wait → stands_in who.thread.0 w.waiters ≡ true

  now : (w : Acted) → says_wait w.answer ≡ false → Joins w
  now w off = record { joins = λ h. absurd (true≢false (ap says_wait (sym h) ∙ off)) }

  wait : (contents : Contents) (timeout : Timeout) (e : Errno) → Joins (blocks contents ws who timeout e)
  wait contents Timeout.NoWait e = now _ refl
  wait contents Timeout.Forever e = record { joins = λ h. in-last who (without who.thread.0 ws) }
  wait contents (Timeout.Ticks n) e = record { joins = λ h. in-last who (without who.thread.0 ws) }

  either : (b : Bool) (x y : Acted) → Joins x → Joins y → Joins (if b then x else y)
  either true x y f g = f
  either false x y f g = g

  sem-joins : (count limit : ℕ) (ask : Ask) → Joins (sem_act count limit ws who ask)
  sem-joins count limit (Ask.SemTake timeout) = either (nat_lt 0 count) _ _ (now _ refl) (wait (Contents.Sem count limit) timeout Errno.EBUSY)
  sem-joins count limit Ask.SemGive = given (in_order ws)
    where
      given : (vs : List Waiter) → Joins (sem_give count limit ws vs)
      given [] = now _ refl
      given (v ∷ vs) = now _ refl
  sem-joins count limit Ask.SemReset = now _ refl
  sem-joins count limit ask = now _ refl

  passes : (vs : List Waiter) → Joins (mutex_passes ws vs)
  passes [] = now _ refl
  passes (v ∷ vs) = now _ refl

  mutex-joins : (owner : Option ThreadIx) (depth : ℕ) (ask : Ask) → Joins (mutex_act owner depth ws who ask)
  mutex-joins None depth (Ask.MutexLock timeout) = now _ refl
  mutex-joins (Some owner) depth (Ask.MutexLock timeout) = either (owner.0 == who.thread.0) _ _ (now _ refl) (wait (Contents.Mutex (Some owner) depth) timeout Errno.EBUSY)
  mutex-joins None depth Ask.MutexUnlock = now _ refl
  mutex-joins (Some owner) depth Ask.MutexUnlock = either (not (owner.0 == who.thread.0)) _ _ (now _ refl) (either (nat_lt 1 depth) _ _ (now _ refl) (passes (in_order ws)))
  mutex-joins owner depth ask = now _ refl

  puts : (size most : ℕ) (messages : List (List ℕ)) (message : List ℕ) (timeout : Timeout) (vs : List Waiter) → Joins (msgq_put size most messages ws who message timeout vs)
  puts size most messages message timeout [] = either (nat_lt (length messages) most) _ _ (now _ refl) (wait (queue size most messages) timeout Errno.ENOMSG)
  puts size most messages message timeout (v ∷ vs) = now _ refl

  gets : (size most : ℕ) (messages : List (List ℕ)) (timeout : Timeout) → Joins (msgq_get size most messages ws who timeout)
  gets size most [] timeout = wait (queue size most []) timeout Errno.ENOMSG
  gets size most (message ∷ rest) timeout = taken (in_order (filter is_putter ws))
    where
      taken : (vs : List Waiter) → Joins (msgq_take size most message rest ws vs)
      taken [] = now _ refl
      taken (v ∷ vs) = now _ refl

  msgq-joins : (size most : ℕ) (messages : List (List ℕ)) (ask : Ask) → Joins (msgq_act size most messages ws who ask)
  msgq-joins size most messages (Ask.MsgqPut timeout) = puts size most messages who.bytes timeout (in_order (filter is_getter ws))
  msgq-joins size most messages (Ask.MsgqGet timeout) = gets size most messages timeout
  msgq-joins size most [] Ask.MsgqPeek = now _ refl
  msgq-joins size most (message ∷ rest) Ask.MsgqPeek = now _ refl
  msgq-joins size most messages ask = now _ refl

  stack-joins : (most : ℕ) (values : List ℕ) (ask : Ask) → Joins (stack_act most values ws who ask)
  stack-joins most values (Ask.StackPush value) = pushed (in_order ws)
    where
      pushed : (vs : List Waiter) → Joins (stack_push most values ws value vs)
      pushed [] = either (nat_lt (length values) most) _ _ (now _ refl) (now _ refl)
      pushed (v ∷ vs) = now _ refl
  stack-joins most values (Ask.StackPop timeout) = popped (reverse values)
    where
      popped : (vs : List ℕ) → Joins (stack_pop most vs ws who timeout)
      popped [] = wait (stack most []) timeout Errno.EBUSY
      popped (value ∷ rest) = now _ refl
  stack-joins most values ask = now _ refl

  pipe-joins : (size : ℕ) (bytes : List ℕ) (closed : Bool) (ask : Ask) → Joins (pipe_act size bytes closed ws who ask)
  pipe-joins size bytes closed (Ask.PipeWrite n timeout) =
      either (n == 0) _ _ (now _ refl) (either closed _ _ (now _ refl) (either (nat_le size (length bytes)) _ _ (wait (pipe size bytes closed) timeout Errno.EAGAIN) (now _ refl)))
  pipe-joins size bytes closed (Ask.PipeRead n timeout) =
      either (n == 0) _ _ (now _ refl) (either (not (is_empty bytes)) _ _ (now _ refl) (either closed _ _ (now _ refl) (wait (pipe size bytes closed) timeout Errno.EAGAIN)))
  pipe-joins size bytes closed ask = now _ refl

  stopped-joins : (status : ℕ) (ask : Ask) → Joins (stopped_act status ws who ask)
  stopped-joins status (Ask.TimerStart deadline) = now _ refl
  stopped-joins status Ask.TimerStatus = now _ refl
  stopped-joins status Ask.TimerSync = now _ refl
  stopped-joins status ask = now _ refl

  running-joins : (deadline : ℕ) (ask : Ask) → Joins (running_act deadline ws who ask)
  running-joins deadline Ask.TimerSync = record { joins = λ h. in-last who (without who.thread.0 ws) }
  running-joins deadline Ask.TimerStop = stopped (in_order ws)
    where
      stopped : (vs : List Waiter) → Joins (timer_stops ws vs)
      stopped [] = now _ refl
      stopped (v ∷ vs) = now _ refl
  running-joins deadline (Ask.TimerStart later) = now _ refl
  running-joins deadline Ask.TimerStatus = now _ refl
  running-joins deadline ask = now _ refl

  use-joins : (contents : Contents) (ask : Ask) → Joins (uses contents ws who ask)
  use-joins (Contents.Sem count limit) ask = sem-joins count limit ask
  use-joins (Contents.Mutex owner depth) ask = mutex-joins owner depth ask
  use-joins (Contents.Msgq q) ask = msgq-joins q.size q.most q.messages ask
  use-joins (Contents.Stack s) ask = stack-joins s.most s.values ask
  use-joins (Contents.Pipe p) ask = pipe-joins p.size p.bytes p.closed ask
  use-joins (Contents.Stopped status) ask = stopped-joins status ask
  use-joins (Contents.Running deadline) ask = running-joins deadline ask
  use-joins contents ask = now _ refl

  renew-joins : (new old : Contents) (vs : List Waiter) → Joins (renews new old vs)
  renew-joins new old [] = now _ refl
  renew-joins new old (v ∷ vs) = now _ refl

  fill-joins : (new old : Contents) → Joins (fills new old ws)
  fill-joins new Contents.Nothing = now _ refl
  fill-joins new old = now _ refl

  all-joins : (contents : Contents) (ask : Ask) → Joins (acted_by contents ws who ask)
  all-joins contents (Ask.SemInit count limit) = renew-joins (Contents.Sem count limit) contents ws
  all-joins contents Ask.MutexInit = renew-joins (Contents.Mutex None 0) contents ws
  all-joins contents (Ask.MsgqInit size most pool) = fill-joins (queue size most []) contents
  all-joins contents (Ask.StackInit most pool) = fill-joins (stack most []) contents
  all-joins contents (Ask.PipeInit size pool) = fill-joins (pipe size [] false) contents
  all-joins contents ask = use-joins contents ask

  pub acted-joins : (contents : Contents) (ask : Ask) → (acted_by contents ws who ask).answer ≡ Answer.Wait → stands_in who.thread.0 (acted_by contents ws who ask).waiters ≡ true
  acted-joins contents ask h = (all-joins contents ask).joins h
