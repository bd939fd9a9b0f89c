-- Only a call that may wait is told to: so a thread that begins to wait in a cell noted that cell.
use Rattle.um_refinement.proofs.Words.{◌≡◌, ℕ, Bool, true, false, List, [], ◌∷◌, Option, Some, None, refl, sym, ap, ◌∙◌, if◌then◌else◌, not, true≢false, nat_le, nat_lt, ◌==◌, filter, length, Answer, Ask, ThreadIx, Waiter, Acted, in_order}
use Rattle.std.specs.Prelude.{reverse}
use Rattle.um_base.specs.declared.names.Timeout.{Timeout}
use Rattle.um_machine.specs.declared.contents.Contents.{Contents}
use Rattle.um_machine.specs.Services.{acted_by, blocks, fills, is_getter, is_putter, msgq_act, mutex_act, mutex_passes, msgq_put, msgq_take, pipe_act, renews, running_act, sem_act, sem_give, stack_act, stack_pop, stack_push, stopped_act, timer_stops, uses}
use Rattle.um_fine.specs.Places.{is_patient, may_wait}

abbrev is_now : Answer → Bool
is_now (Answer.Now reply) = true
is_now Answer.Wait = false

abbrev IsNow : Acted → Type 0
IsNow a = is_now a.answer ≡ true

either-now : (b : Bool) (x y : Acted) → IsNow x → IsNow y → IsNow (if b then x else y)
either-now true x y h k = h
either-now false x y h k = k

blocks-now : (contents : Contents) (ws : List Waiter) (who : Waiter) (timeout : Timeout) (e : _) → is_patient timeout ≡ false → IsNow (blocks contents ws who timeout e)
blocks-now contents ws who Timeout.NoWait e h = refl
blocks-now contents ws who (Timeout.Ticks n) e h = absurd (true≢false h)
blocks-now contents ws who Timeout.Forever e h = absurd (true≢false h)

sem-now : (count limit : ℕ) (ws : List Waiter) (who : Waiter) (ask : Ask) → may_wait ask ≡ false → IsNow (sem_act count limit ws who ask)
sem-now count limit ws who (Ask.SemTake timeout) h = either-now (nat_lt 0 count) _ _ refl (blocks-now _ _ _ _ _ h)
sem-now count limit ws who Ask.SemGive h = by (in_order ws)
  where
    by : (first : List Waiter) → IsNow (sem_give count limit ws first)
    by [] = refl
    by (w ∷ more) = refl
sem-now count limit ws who ask h = refl

mutex-now : (owner : Option ThreadIx) (depth : ℕ) (ws : List Waiter) (who : Waiter) (ask : Ask) → may_wait ask ≡ false → IsNow (mutex_act owner depth ws who ask)
mutex-now None depth ws who (Ask.MutexLock timeout) h = refl
mutex-now (Some owner) depth ws who (Ask.MutexLock timeout) h = either-now (owner.0 == who.thread.0) _ _ refl (blocks-now _ _ _ _ _ h)
mutex-now None depth ws who Ask.MutexUnlock h = refl
mutex-now (Some owner) depth ws who Ask.MutexUnlock h = either-now (not (owner.0 == who.thread.0)) _ _ refl (either-now (nat_lt 1 depth) _ _ refl (by (in_order ws)))
  where
    by : (first : List Waiter) → IsNow (mutex_passes ws first)
    by [] = refl
    by (w ∷ more) = refl
mutex-now owner depth ws who ask h = refl

msgq-now : (size most : ℕ) (messages : List (List ℕ)) (ws : List Waiter) (who : Waiter) (ask : Ask) → may_wait ask ≡ false → IsNow (msgq_act size most messages ws who ask)
msgq-now size most messages ws who (Ask.MsgqPut timeout) h = by (in_order (filter is_getter ws))
  where
    by : (first : List Waiter) → IsNow (msgq_put size most messages ws who who.bytes timeout first)
    by [] = either-now (nat_lt (length messages) most) _ _ refl (blocks-now _ _ _ _ _ h)
    by (w ∷ more) = refl
msgq-now size most [] ws who (Ask.MsgqGet timeout) h = blocks-now _ _ _ _ _ h
msgq-now size most (message ∷ rest) ws who (Ask.MsgqGet timeout) h = by (in_order (filter is_putter ws))
  where
    by : (first : List Waiter) → IsNow (msgq_take size most message rest ws first)
    by [] = refl
    by (w ∷ more) = refl
msgq-now size most [] ws who Ask.MsgqPeek h = refl
msgq-now size most (message ∷ rest) ws who Ask.MsgqPeek h = refl
msgq-now size most messages ws who ask h = refl

stack-now : (most : ℕ) (values : List ℕ) (ws : List Waiter) (who : Waiter) (ask : Ask) → may_wait ask ≡ false → IsNow (stack_act most values ws who ask)
stack-now most values ws who (Ask.StackPush value) h = by (in_order ws)
  where
    by : (first : List Waiter) → IsNow (stack_push most values ws value first)
    by [] = either-now (nat_lt (length values) most) _ _ refl refl
    by (w ∷ more) = refl
stack-now most values ws who (Ask.StackPop timeout) h = by (reverse values)
  where
    by : (last : List ℕ) → IsNow (stack_pop most last ws who timeout)
    by [] = blocks-now _ _ _ _ _ h
    by (value ∷ rest) = refl
stack-now most values ws who ask h = refl

pipe-now : (size : ℕ) (bytes : List ℕ) (closed : Bool) (ws : List Waiter) (who : Waiter) (ask : Ask) → may_wait ask ≡ false → IsNow (pipe_act size bytes closed ws who ask)
pipe-now size bytes closed ws who (Ask.PipeWrite n timeout) h =
    either-now (n == 0) _ _ refl (either-now closed _ _ refl (either-now (nat_le size (length bytes)) _ _ (blocks-now _ _ _ _ _ h) refl))
pipe-now size [] closed ws who (Ask.PipeRead n timeout) h = either-now (n == 0) _ _ refl (either-now closed _ _ refl (blocks-now _ _ _ _ _ h))
pipe-now size (b ∷ bytes) closed ws who (Ask.PipeRead n timeout) h = either-now (n == 0) _ _ refl refl
pipe-now size bytes closed ws who ask h = refl

running-now : (deadline : ℕ) (ws : List Waiter) (who : Waiter) (ask : Ask) → may_wait ask ≡ false → IsNow (running_act deadline ws who ask)
running-now deadline ws who Ask.TimerStop h = by (in_order ws)
  where
    by : (first : List Waiter) → IsNow (timer_stops ws first)
    by [] = refl
    by (w ∷ more) = refl
running-now deadline ws who Ask.TimerSync h = absurd (true≢false h)
running-now deadline ws who (Ask.TimerStart later) h = refl
running-now deadline ws who Ask.TimerStatus h = refl
running-now deadline ws who ask h = refl

stopped-now : (status : ℕ) (ws : List Waiter) (who : Waiter) (ask : Ask) → IsNow (stopped_act status ws who ask)
stopped-now status ws who (Ask.TimerStart deadline) = refl
stopped-now status ws who Ask.TimerStatus = refl
stopped-now status ws who Ask.TimerSync = refl
stopped-now status ws who ask = refl

uses-now : (contents : Contents) (ws : List Waiter) (who : Waiter) (ask : Ask) → may_wait ask ≡ false → IsNow (uses contents ws who ask)
uses-now (Contents.Sem count limit) ws who ask h = sem-now count limit ws who ask h
uses-now (Contents.Mutex owner depth) ws who ask h = mutex-now owner depth ws who ask h
uses-now (Contents.Msgq q) ws who ask h = msgq-now q.size q.most q.messages ws who ask h
uses-now (Contents.Stack s) ws who ask h = stack-now s.most s.values ws who ask h
uses-now (Contents.Pipe p) ws who ask h = pipe-now p.size p.bytes p.closed ws who ask h
uses-now (Contents.Stopped status) ws who ask h = stopped-now status ws who ask
uses-now (Contents.Running deadline) ws who ask h = running-now deadline ws who ask h
uses-now contents ws who ask h = refl

renews-now : (new old : Contents) (ws : List Waiter) → IsNow (renews new old ws)
renews-now new old [] = refl
renews-now new old (w ∷ ws) = refl

fills-now : (new old : Contents) (ws : List Waiter) → IsNow (fills new old ws)
fills-now new Contents.Nothing ws = refl
fills-now new old ws = refl

acted-now : (contents : Contents) (ws : List Waiter) (who : Waiter) (ask : Ask) → may_wait ask ≡ false → IsNow (acted_by contents ws who ask)
acted-now contents ws who (Ask.SemInit count limit) h = renews-now _ contents ws
acted-now contents ws who Ask.MutexInit h = renews-now _ contents ws
acted-now contents ws who (Ask.MsgqInit size most pool) h = fills-now _ contents ws
acted-now contents ws who (Ask.StackInit most pool) h = fills-now _ contents ws
acted-now contents ws who (Ask.PipeInit size pool) h = fills-now _ contents ws
acted-now contents ws who ask h = uses-now contents ws who ask h

-- an act on an object that is told to wait may wait
pub acts-patient : (contents : Contents) (ws : List Waiter) (who : Waiter) (ask : Ask) → (acted_by contents ws who ask).answer ≡ Answer.Wait → may_wait ask ≡ true
acts-patient contents ws who ask h = by (may_wait ask) refl
  where
    by : (b : Bool) → may_wait ask ≡ b → b ≡ true
    by true k = refl
    by false k = absurd (true≢false (sym (acted-now contents ws who ask k) ∙ ap is_now h))
