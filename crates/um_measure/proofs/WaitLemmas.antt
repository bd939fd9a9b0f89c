-- Calls that may wait, on an object, for the end of a thread or on a futex: one more waits at most, and a timer may run then.
use Rattle.std.proofs.Common.{◌≡◌, ◌≤◌, ℕ, ◌+◌, Bool, not, ◌==◌, length, List, [], ◌∷◌, ◌++◌, refl, arith, Option, Some, None}
use Rattle.std.specs.List.{list_any}
use Rattle.um_base.specs.declared.act.Answer.{Answer}
use Rattle.um_base.specs.declared.ask.Ask.{Ask}
use Rattle.um_base.specs.declared.ask.Told.{Told}
use Rattle.um_base.specs.declared.ask.Waiter.{Waiter}
use Rattle.um_base.specs.declared.limits.TheConstants.{FUTEX_CELL, JOIN_CELL}
use Rattle.um_base.specs.declared.names.Addr.{Addr}
use Rattle.um_base.specs.declared.names.Errno.{Errno}
use Rattle.um_base.specs.declared.names.ThreadIx.{ThreadIx}
use Rattle.um_base.specs.declared.names.Timeout.{Timeout}
use Rattle.um_machine.specs.declared.contents.Contents.{Contents}
use Rattle.um_machine.specs.declared.pending.Pending.{Pending}
use Rattle.um_machine.specs.Futexes.{futex_answer, futex_refusal, futex_woken, wake_answer}
use Rattle.um_machine.specs.Goes.{asked_way}
use Rattle.um_machine.specs.Joins.{join_answer}
use Rattle.um_machine.specs.Order.{Steps, to_thread}
use Rattle.um_machine.specs.Services.{acted_by, is_putter, still_waiting, without}
use Rattle.um_machine.specs.State.{State, thread_at, object_at, waiters_in, with_object, with_waiters}
use Rattle.um_machine.specs.Table.{after, bytes_given, buffer_cost, queued, row_of, work_of}
use Rattle.um_machine.specs.Writes.{Effect, only, says_wait, write}
use Rattle.um_machine.proofs.EffectLemmas.{next_of}
use Rattle.um_invariants.proofs.Outcomes.{Outcome, stays, waits, serves, tells, purges, fronts, outcome}
use Rattle.um_invariants.proofs.Turns.{even-asked, even-work}
use Rattle.um_measure.specs.Measure.{is_running}
use Rattle.um_measure.specs.Reached.{IsReached}
use Rattle.um_measure.proofs.EasedLemmas.{all-same}
use Rattle.um_measure.proofs.GoesLemmas.{even-most, way_cost, went-made}
use Rattle.um_measure.proofs.MadeLemmas.{IsMade, IsReady}
use Rattle.um_measure.proofs.StoreLemmas.{filter-few, one-if-most, store-set, store-waiters}
use Rattle.um_measure.proofs.WriteLemmas.{IsBase, base-more, base-self, base-woken}

length-last : (ws : List Waiter) (w : Waiter) → length (ws ++ w ∷ []) ≡ length ws + 1
length-last [] w = refl
length-last (v ∷ ws) w = let rest = length-last ws w in omega (arith, rest)

-- an act leaves one more waiter at most
outcome-few : (ws ws2 : List Waiter) (answer : Answer) (woken : List (ThreadIx × Told)) → Outcome ws ws2 answer woken → length ws2 ≤ length ws + 1
outcome-few ws _ _ _ stays = omega arith
outcome-few ws _ _ _ (waits who) = let few = filter-few (λ (w : Waiter). not (w.thread.0 == who.thread.0)) ws in let last = length-last (without who.thread.0 ws) who in omega (arith, few, last)
outcome-few ws _ _ _ (serves which first rest told e) = let few = filter-few (λ (w : Waiter). not (w.thread.0 == first.thread.0)) ws in omega (arith, few)
outcome-few ws _ _ _ (tells e) = omega arith
outcome-few ws _ _ _ (purges e) = let few = filter-few (λ w. not (is_putter w)) ws in omega (arith, few)
outcome-few ws _ _ woken (fronts which front) = let few = filter-few (λ (w : Waiter). not (list_any (λ (p : ThreadIx × Told). p.0.0 == w.thread.0) woken)) ws in omega (arith, few)

waiters-few : (contents : Contents) (ws : List Waiter) (who : Waiter) (ask : Ask) → length (acted_by contents ws who ask).waiters ≤ length ws + 1
waiters-few contents ws who ask = let a = acted_by contents ws who ask in outcome-few ws a.waiters a.answer a.woken (outcome contents ws who ask)

-- those who wait in a cell are written, and are at most so many more
pub base-cell : (s : State) → IsReached s → (c n : ℕ) (ws : List Waiter) → length ws ≤ length (waiters_in s c) + n → IsBase s (with_waiters s c ws) n
base-cell s reached c n ws few =
    let store = store-waiters s c ws in record { image = refl; eased = all-same s.threads; sized = reached.sized; store = omega (arith, store, few); armed = omega arith }

abbrev asks_in : State → ℕ → ℕ → Ask → Answer → State
asks_in s t c ask answer = write (only (says_wait answer) (Effect.waiters c (queued s t c ask))) s

base-asks : (s : State) → IsReached s → (t c : ℕ) (ask : Ask) (answer : Answer) → IsBase s (asks_in s t c ask answer) 1
base-asks s reached t c ask (Answer.Now reply) = base-more s s 0 1 (omega arith) (base-self s reached.sized)
base-asks s reached t c ask Answer.Wait =
    let me = thread_at s t in
    let w : Waiter = record { thread = to_thread t; priority = me.priority; ask = ask; bytes = []; until = me.until } in
    let few = filter-few (λ (v : Waiter). not (v.thread.0 == t)) (waiters_in s c) in
    let last = length-last (without t (waiters_in s c)) w in base-cell s reached c 1 (queued s t c ask) (omega (arith, few, last))

-- who wakes others doesn't wait
wake-most : (refusal : Option Errno) (n : ℕ) → way_cost (asked_way (wake_answer refusal n)) ≤ 0
wake-most None n = omega arith
wake-most (Some e) n = omega arith

module _ (s : State) (reached : IsReached s) (t x : ℕ) (rest : Steps) where
  pub work : (a : Addr) (ask : Ask) → IsReady s t (Pending.Work a ask) rest → IsMade s (after s t x (Pending.Work a ask) rest) (Unit {0})
  work a ask ready =
      let w = work_of s t a ask in
      let y = row_of s a in
      let o = record (object_at s y) { contents = w.contents; waiters = w.waiters; buffer = buffer_cost ask w.answer (object_at s y).buffer } in
      let me = thread_at s t in
      let set = store-set s.pairs s.objects y o in
      let few = waiters-few (object_at s y).contents (object_at s y).waiters (record { thread = to_thread t; priority = me.priority; ask = ask; bytes = bytes_given me.buffer ask; until = me.until }) ask in
      let most = one-if-most (is_running w.contents) in
      let base : IsBase s (with_object s y o) 2 = record { image = refl; eased = all-same s.threads; sized = reached.sized; store = omega (arith, set, few, most); armed = omega arith } in
      went-made s reached t (Pending.Work a ask) rest ready _ 2 (base-woken s (with_object s y o) 2 base w.woken) (next_of s t x (Pending.Work a ask)) refl (λ h. refl)
      (let even = even-most _ (even-work me.mode ask w.answer) in omega (arith, even)) ready.passes

  pub join : (who : ThreadIx) (timeout : Timeout) → IsReady s t (Pending.Join who timeout) rest → IsMade s (after s t x (Pending.Join who timeout) rest) (Unit {0})
  join who timeout ready =
      let answer = join_answer s t x who.0 timeout in
      went-made s reached t (Pending.Join who timeout) rest ready _ 1 (base-asks s reached t JOIN_CELL (Ask.Join who) answer) (next_of s t x (Pending.Join who timeout)) refl (λ h. refl)
      (let even = even-most _ (even-asked answer) in omega (arith, even)) ready.passes

  pub futex_wait : (a : Addr) (value : ℕ) (timeout : Timeout) → IsReady s t (Pending.FutexWait a value timeout) rest → IsMade s (after s t x (Pending.FutexWait a value timeout) rest) (Unit {0})
  futex_wait a value timeout ready =
      let answer = futex_answer s t a.0 value timeout in
      went-made s reached t (Pending.FutexWait a value timeout) rest ready _ 1 (base-asks s reached t FUTEX_CELL (Ask.FutexWait a) answer) (next_of s t x (Pending.FutexWait a value timeout)) refl (λ h. refl)
      (let even = even-most _ (even-asked answer) in omega (arith, even)) ready.passes

  pub futex_wake : (a : Addr) (all : Bool) → IsReady s t (Pending.FutexWake a all) rest → IsMade s (after s t x (Pending.FutexWake a all) rest) (Unit {0})
  futex_wake a all ready =
      let woken = futex_woken s t a.0 all in
      let ws = still_waiting woken s.futexes in
      let few = filter-few (λ (w : Waiter). not (list_any (λ (p : ThreadIx × Told). p.0.0 == w.thread.0) woken)) s.futexes in
      let base = base-cell s reached FUTEX_CELL 0 ws (omega (arith, few)) in
      went-made s reached t (Pending.FutexWake a all) rest ready _ 0 (base-woken s (with_waiters s FUTEX_CELL ws) 0 base woken) (next_of s t x (Pending.FutexWake a all)) refl (λ h. refl)
      (let none = wake-most (futex_refusal s t a.0) (length woken) in omega (arith, none)) ready.passes
