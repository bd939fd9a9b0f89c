-- Accesses and verdicts: what a step says was allowed, or is the verdict.
use Rattle.std.proofs.Common.{◌≡◌, ℕ, zero, suc, ◌+◌, ◌≤◌, Bool, true, false, not, List, Some, None, refl, sym, subst, arith, if◌then◌else◌, length, slice_index}
use Rattle.std.specs.Prelude.{IsTrue, ◌==◌}
use Rattle.um_base.specs.declared.act.Act.{Act}
use Rattle.um_base.specs.declared.act.Answer.{Answer}
use Rattle.um_base.specs.declared.names.Errno.{Errno}
use Rattle.um_base.specs.declared.names.Reply.{Reply}
use Rattle.um_base.specs.declared.names.ThreadIx.{ThreadIx}
use Rattle.um_base.specs.declared.names.Timeout.{Timeout}
use Rattle.um_base.specs.declared.act.Event.{Event}
use Rattle.um_base.specs.declared.act.Found.{Found}
use Rattle.um_base.specs.declared.names.Access.TheVariants as Access
use Rattle.um_base.specs.declared.names.Addr.{Addr}
use Rattle.um_machine.specs.declared.pending.Pending.{Pending}
use Rattle.um_machine.specs.State.{State, thread_at}
use Rattle.um_machine.specs.Memory.{allowed, string_from, string_read, bytes_at, le_value}
use Rattle.um_machine.specs.Run.{Step}
use Rattle.um_machine.specs.Futexes.{is_futex, may_wait as wait_or_not, futex_woken, wake_answer}
use Rattle.um_machine.specs.Table.{act_of, amount_of, replies_of}
use Rattle.um_laws.proofs.ActLemmas.{either_act}
use Rattle.um_laws.specs.Laws.{WasReadable, Allows, WasAllowed, SaysVerdict, IsVerdict}

load_allowed : (s : State) (t : ℕ) (a : Addr) (n value : ℕ) (b : Bool) → allowed s t Access.Read a.0 n ≡ b → Allows s t (if b then Act.Load a n value else Act.Fault Access.Read a n)
load_allowed s t a n value true e = e
load_allowed s t a n value false e = tt

store_allowed : (s : State) (t : ℕ) (a : Addr) (n value : ℕ) (b : Bool) → allowed s t Access.Write a.0 n ≡ b → Allows s t (if b then Act.Store a n value else Act.Fault Access.Write a n)
store_allowed s t a n value true e = e
store_allowed s t a n value false e = tt

fetch_allowed : (s : State) (t : ℕ) (a : Addr) (b : Bool) → allowed s t Access.Exec a.0 4 ≡ b → Allows s t (if b then Act.Fetch a else Act.Fault Access.Exec a 4)
fetch_allowed s t a true e = e
fetch_allowed s t a false e = tt

copy_in_allowed : (s : State) (t : ℕ) (a : Addr) (n : ℕ) (b : Bool) → allowed s t Access.Read a.0 n ≡ b → Allows s t (Act.CopyIn a n b)
copy_in_allowed s t a n true e = e
copy_in_allowed s t a n false e = tt

copy_out_allowed : (s : State) (t : ℕ) (a : Addr) (n : ℕ) (b : Bool) → allowed s t Access.Write a.0 n ≡ b → Allows s t (Act.CopyOut a n b)
copy_out_allowed s t a n true e = e
copy_out_allowed s t a n false e = tt

-- where a string read from an address on finds a length, all bytes from there up to the zero are readable
abbrev IsReadableFrom : State → ℕ → ℕ → ℕ → Found → Type 0
IsReadableFrom s t a before (Found.Length n) = (i : ℕ) → before + i ≤ n → IsTrue (allowed s t Access.Read (a + i) 1)
IsReadableFrom s t a before found = Unit {0}

at_first : (s : State) (t a before i : ℕ) → allowed s t Access.Read a 1 ≡ true → before + i ≤ before → IsTrue (allowed s t Access.Read (a + i) 1)
at_first s t a before i e le = let same : a + i ≡ a = omega (arith, le) in rw same e

one_more : (s : State) (t a before n : ℕ) → allowed s t Access.Read a 1 ≡ true
    → ((i : ℕ) → before + 1 + i ≤ n → IsTrue (allowed s t Access.Read (a + 1 + i) 1))
    → (i : ℕ) → before + i ≤ n → IsTrue (allowed s t Access.Read (a + i) 1)
one_more s t a before n e h zero le = let same : a + 0 ≡ a = omega arith in rw same e
one_more s t a before n e h (suc i) le =
    let behind : before + 1 + i ≤ n = omega (arith, le) in
    let same : a + suc i ≡ a + 1 + i = omega arith in rw same (h i behind)

string_step : (s : State) (t a before : ℕ) (b : Bool) → allowed s t Access.Read a 1 ≡ b → (c : Bool) (rest : Found)
    → IsReadableFrom s t (a + 1) (before + 1) rest
    → IsReadableFrom s t a before (if b then (if c then Found.Length before else rest) else Found.Unreadable)
string_step s t a before false e c rest h = tt
string_step s t a before true e true rest h = λ i le. at_first s t a before i e le
string_step s t a before true e false (Found.Length n) h = one_more s t a before n e h
string_step s t a before true e false Found.Unreadable h = tt
string_step s t a before true e false Found.TooLong h = tt

readable_from : (s : State) (t limit a before : ℕ) → IsReadableFrom s t a before (string_from s t a limit before)
readable_from s t zero a before = tt
readable_from s t (suc limit) a before =
    string_step s t a before (allowed s t Access.Read a 1) refl (slice_index (bytes_at s a 1) 0 == 0) (string_from s t (a + 1) limit (before + 1))
    (readable_from s t limit (a + 1) (before + 1))

from_none : (s : State) (t a : ℕ) (found : Found) → IsReadableFrom s t a 0 found → WasReadable s t a found
from_none s t a (Found.Length n) h = λ i le. h i (omega (arith, le))
from_none s t a Found.Unreadable h = tt
from_none s t a Found.TooLong h = tt

-- what a call on a futex says, by whether it may read, and whether a futex is there
wait_allowed : (s : State) (t : ℕ) (a : Addr) (value found : ℕ) (timeout : Timeout) (b there same : Bool) → allowed s t Access.Read a.0 4 ≡ b
    → Allows s t (Act.FutexWait a value (elim (if not b then Some Errno.EACCES else if not there then Some Errno.EINVAL else None) as (λ _. Answer) [ Some e ↦ Answer.Now (Reply.Fail e) | None ↦ if same then wait_or_not timeout else Answer.Now (Reply.Fail Errno.EAGAIN) ]))
wait_allowed s t a value found timeout false there same e = tt
wait_allowed s t a value found timeout true false same e = e
wait_allowed s t a value found timeout true true false e = e
wait_allowed s t a value found Timeout.NoWait true true true e = e
wait_allowed s t a value found Timeout.Forever true true true e = e
wait_allowed s t a value found (Timeout.Ticks n) true true true e = e

wake_allowed : (s : State) (t : ℕ) (a : Addr) (n : ℕ) (woken : List (ThreadIx × Reply)) (b there : Bool) → allowed s t Access.Read a.0 4 ≡ b
    → Allows s t (Act.FutexWake a (wake_answer (if not b then Some Errno.EACCES else if not there then Some Errno.EINVAL else None) n) woken)
wake_allowed s t a n woken false there e = tt
wake_allowed s t a n woken true false e = e
wake_allowed s t a n woken true true e = e

-- what a step says was allowed
allowed_step : (s : State) (t x : ℕ) (p : Pending) → Allows s t (act_of s t x p)
allowed_step s t x (Pending.Load to a n) = load_allowed s t a n (le_value (bytes_at s a.0 n)) (allowed s t Access.Read a.0 n) refl
allowed_step s t x (Pending.Store a n value) = store_allowed s t a n value (allowed s t Access.Write a.0 n) refl
allowed_step s t x (Pending.Fetch a) = fetch_allowed s t a (allowed s t Access.Exec a.0 4) refl
allowed_step s t x (Pending.CopyIn a amount) = copy_in_allowed s t a (amount_of s amount) (allowed s t Access.Read a.0 (amount_of s amount)) refl
allowed_step s t x (Pending.CopyOut a) = copy_out_allowed s t a (length (thread_at s t).buffer) (allowed s t Access.Write a.0 (length (thread_at s t).buffer)) refl
allowed_step s t x (Pending.CopyStr a) = from_none s t a.0 (string_read s t a.0 32) (readable_from s t 32 a.0 0)
allowed_step s t x (Pending.FutexWait a value timeout) =
    wait_allowed s t a value 0 timeout (allowed s t Access.Read a.0 4) (is_futex s.image a.0) (le_value (bytes_at s a.0 4) == value) refl
allowed_step s t x (Pending.FutexWake a all) =
    let woken = futex_woken s t a.0 all in wake_allowed s t a (length woken) (replies_of woken) (allowed s t Access.Read a.0 4) (is_futex s.image a.0) refl
allowed_step s t x _ = tt

pub was_allowed : (s s2 : State) (event : Event) → Step s event s2 → WasAllowed s event
was_allowed s s2 event step = subst (λ (act : Act). Allows s event.thread.0 act) (sym step.says) (allowed_step s event.thread.0 step.row step.step)

-- what a check says is the verdict
said : (s : State) (t x : ℕ) (p : Pending) → SaysVerdict s t (act_of s t x p)
said s t x (Pending.Check a kind want refusal) = refl
said s t x (Pending.Load to a n) =
    either_act (SaysVerdict s t) (allowed s t Access.Read a.0 n) (Act.Load a n (le_value (bytes_at s a.0 n))) (Act.Fault Access.Read a n) tt tt
said s t x (Pending.Store a n value) = either_act (SaysVerdict s t) (allowed s t Access.Write a.0 n) (Act.Store a n value) (Act.Fault Access.Write a n) tt tt
said s t x (Pending.Fetch a) = either_act (SaysVerdict s t) (allowed s t Access.Exec a.0 4) (Act.Fetch a) (Act.Fault Access.Exec a 4) tt tt
said s t x _ = tt

pub is_verdict : (s s2 : State) (event : Event) → Step s event s2 → IsVerdict s event
is_verdict s s2 event step = subst (λ (act : Act). SaysVerdict s event.thread.0 act) (sym step.says) (said s event.thread.0 step.row step.step)
