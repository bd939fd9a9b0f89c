-- What a step says depends on the core of its state alone.
use Rattle.std.proofs.Common.{◌≡◌, ℕ, zero, suc, ◌+◌, Bool, ◌&&◌, not, List, [], ◌∷◌, ◌++◌, length, map, refl, sym, ap, ◌∙◌, Option, Some, None, if◌then◌else◌, slice_index}
use Rattle.std.specs.Prelude.{◌==◌}
use Rattle.um_base.specs.declared.act.Act.{Act}
use Rattle.um_base.specs.declared.act.Answer.{Answer}
use Rattle.um_base.specs.declared.act.Found.{Found}
use Rattle.um_base.specs.declared.act.Given.{Given}
use Rattle.um_base.specs.declared.ask.Ask.{Ask}
use Rattle.um_base.specs.declared.ask.Told.{Told}
use Rattle.um_base.specs.declared.ask.Waiter.{Waiter}
use Rattle.um_base.specs.declared.limits.TheConstants.{FUTEX_CELL, JOIN_CELL}
use Rattle.um_base.specs.declared.names.Access.{Access}
use Rattle.um_base.specs.declared.names.Access.TheVariants as Accesses
use Rattle.um_base.specs.declared.names.Addr.{Addr}
use Rattle.um_base.specs.declared.names.Errno.{Errno}
use Rattle.um_base.specs.declared.names.Kind.{Kind}
use Rattle.um_base.specs.declared.names.Reply.{Reply}
use Rattle.um_base.specs.declared.names.ThreadIx.{ThreadIx}
use Rattle.um_base.specs.declared.names.Timeout.{Timeout}
use Rattle.um_base.specs.declared.names.Want.{Want}
use Rattle.um_base.specs.Places.{row_at, own_row, addr_of}
use Rattle.um_base.specs.Regions.{regions, regions_allow}
use Rattle.um_machine.specs.declared.object.Object.{Object}
use Rattle.um_machine.specs.declared.pending.Amount.{Amount}
use Rattle.um_machine.specs.declared.pending.Pending.{Pending}
use Rattle.um_machine.specs.declared.thread.Thread.{Thread}
use Rattle.um_machine.specs.State.{State, thread_at, object_at, pair_at, waiters_in, is_living, is_user}
use Rattle.um_machine.specs.Memory.{allowed, bytes_at, le_value, string_from, string_read, string_bytes, partitions_of}
use Rattle.um_machine.specs.Objects.{verdict, verdict_at, is_live, has_kind, init_verdict, is_gone}
use Rattle.um_machine.specs.Futexes.{futex_answer, futex_refusal, futex_wait, futex_woken, is_futex, roused, wake_answer}
use Rattle.um_machine.specs.Joins.{join_answer, not_over}
use Rattle.um_machine.specs.Order.{to_addr, to_thread}
use Rattle.um_machine.specs.Services.{Acted, acted, in_order, runs_out, told, without}
use Rattle.um_machine.specs.Table.{act_of, row_of, amount_of, message_size, bytes_given, work_of, queued, replies_of, given, set_said, pays, reply_of}
use Rattle.um_texts.proofs.CoreLemmas.{core, core_thread, core_thread_at, core_object_at}

-- what depends on the core alone is the same of states with one core
pub both : {A : Type 0} (g : State → A) → ((s : State) → g (core s) ≡ g s) → (s2 s : State) → core s2 ≡ core s → g s2 ≡ g s
both g h s2 s e = sym (h s2) ∙ ap g e ∙ h s

verdict_by : (s : State) (t : ℕ) (kind : Option Kind) (want : Want) (o : Option ℕ) → verdict_at (core s) t kind want o ≡ verdict_at s t kind want o
verdict_by s t kind want None = refl
verdict_by s t kind want (Some x) =
    let said : Object → Thread → Option Errno = λ o m.
    if not (is_live o.status && has_kind kind o.kind) then Some Errno.EBADF
    else if is_user m.mode && not (pair_at s t x) && not o.public then Some Errno.EPERM
    else init_verdict want o.init in
    ap (λ (o : Object). said o (thread_at (core s) t)) (core_object_at s x) ∙ ap (λ (m : Thread). said (object_at s x) m) (core_thread_at s t)

pub core_verdict : (s : State) (t a : ℕ) (kind : Option Kind) (want : Want) → verdict (core s) t a kind want ≡ verdict s t a kind want
core_verdict s t a kind want = verdict_by s t kind want (row_at s.image a)

pub core_allowed : (s : State) (t : ℕ) (access : Access) (a n : ℕ) → allowed (core s) t access a n ≡ allowed s t access a n
core_allowed s t access a n = ap (λ (m : Thread). regions_allow (regions s.image m.mode m.stack.0 (partitions_of s m.domain)) access a n) (core_thread_at s t)

core_string_from : (s : State) (t a limit before : ℕ) → string_from (core s) t a limit before ≡ string_from s t a limit before
core_string_from s t a zero before = refl
core_string_from s t a (suc limit) before =
    let found : Bool → Found → Found = λ b rest. if b then (if slice_index (bytes_at s a 1) 0 == 0 then Found.Length before else rest) else Found.Unreadable in
    ap (λ (b : Bool). found b (string_from (core s) t (a + 1) limit (before + 1))) (core_allowed s t Accesses.Read a 1)
    ∙ ap (λ (rest : Found). found (allowed s t Accesses.Read a 1) rest) (core_string_from s t (a + 1) limit (before + 1))

pub core_string : (s : State) (t a limit : ℕ) → string_read (core s) t a limit ≡ string_read s t a limit
core_string s t a limit = core_string_from s t a limit 0

pub core_string_bytes : (s : State) (a n : ℕ) → string_bytes (core s) a n ≡ string_bytes s a n
core_string_bytes s a zero = refl
core_string_bytes s a (suc n) = ap (λ (bytes : List ℕ). slice_index (bytes_at s a 1) 0 ∷ bytes) (core_string_bytes s (a + 1) n)

pub core_amount : (s : State) (amount : Amount) → amount_of (core s) amount ≡ amount_of s amount
core_amount s (Amount.Bytes n) = refl
core_amount s (Amount.MessageOf a) = ap (λ (o : Object). message_size o.contents) (core_object_at s (row_of s a))

pub core_work : (s : State) (t : ℕ) (a : Addr) (ask : Ask) → work_of (core s) t a ask ≡ work_of s t a ask
core_work s t a ask =
    let made : Object → Thread → Acted = λ o m. acted o.contents o.waiters (record { thread = to_thread t; priority = m.priority; ask = ask; bytes = bytes_given m.buffer ask; until = m.until }) in
    ap (λ (o : Object). made o (thread_at (core s) t)) (core_object_at s (row_of s a)) ∙ ap (λ (m : Thread). made (object_at s (row_of s a)) m) (core_thread_at s t)

pub core_given : (s : State) (x : ℕ) → given (core s) x ≡ given s x
core_given s x = ap (λ (o : Object). if is_gone o.status then Given.Gone else Given.Done) (core_object_at s x)

core_reply : (m : Thread) (reply : Option Reply) → reply_of (core_thread m) reply ≡ reply_of m reply
core_reply m None = refl
core_reply m (Some reply) = refl

-- Joins and futexes.

core_over : (s : State) (t who : ℕ) (timeout : Timeout) → not_over (core s) t who timeout ≡ not_over s t who timeout
core_over s t who Timeout.NoWait = refl
core_over s t who timeout = refl

core_join : (s : State) (t x who : ℕ) (timeout : Timeout) → join_answer (core s) t x who timeout ≡ join_answer s t x who timeout
core_join s t zero who timeout = core_over s t who timeout
core_join s t (suc n) who timeout = refl

pub core_refusal : (s : State) (t a : ℕ) → futex_refusal (core s) t a ≡ futex_refusal s t a
core_refusal s t a =
    ap (λ (b : Bool). if not b then Some Errno.EACCES else if not (is_futex s.image a) then Some Errno.EINVAL else None) (core_allowed s t Accesses.Read a 4)

pub core_futex : (s : State) (t a value : ℕ) (timeout : Timeout) → futex_answer (core s) t a value timeout ≡ futex_answer s t a value timeout
core_futex s t a value timeout = ap (futex_wait value (le_value (bytes_at s a 4)) timeout) (core_refusal s t a)

roused_same : (s : State) (a : ℕ) (all : Bool) (refusal : Option Errno) → roused (core s) a all refusal ≡ roused s a all refusal
roused_same s a all None = refl
roused_same s a all (Some e) = refl

pub core_roused : (s : State) (t a : ℕ) (all : Bool) → futex_woken (core s) t a all ≡ futex_woken s t a all
core_roused s t a all =
    let told_of : List Waiter → List (ThreadIx × Told) = λ ws. map (λ (w : Waiter). told w (Reply.Num 0) []) ws in
    ap (λ (e : Option Errno). told_of (roused (core s) a all e)) (core_refusal s t a) ∙ ap told_of (roused_same s a all (futex_refusal s t a))

-- those who wait in a cell
pub core_waiting : (s : State) (c : ℕ) → waiters_in (core s) c ≡ waiters_in s c
core_waiting s c = ap (λ (o : Object). if c == JOIN_CELL then s.joins else if c == FUTEX_CELL then s.futexes else o.waiters) (core_object_at s c)

pub core_queued : (s : State) (t c : ℕ) (ask : Ask) → queued (core s) t c ask ≡ queued s t c ask
core_queued s t c ask =
    let line : List Waiter → Thread → List Waiter = λ ws m. without t ws ++ record { thread = to_thread t; priority = m.priority; ask = ask; bytes = []; until = m.until } ∷ [] in
    ap (λ (ws : List Waiter). line ws (thread_at (core s) t)) (core_waiting s c) ∙ ap (line (waiters_in s c)) (core_thread_at s t)

-- whether a thread lives, as an act says it
core_lives : (s : State) (who : ThreadIx) (act : Bool → Act) → act (is_living (thread_at (core s) who.0).life) ≡ act (is_living (thread_at s who.0).life)
core_lives s who act = ap (λ (m : Thread). act (is_living m.life)) (core_thread_at s who.0)

probed : (s : State) (t : ℕ) (a : Addr) (amount : Amount) (access : Access) (g : ℕ → Bool → Act) → g (amount_of (core s) amount) (allowed (core s) t access a.0 (amount_of (core s) amount)) ≡ g (amount_of s amount) (allowed s t access a.0 (amount_of s amount))
probed s t a amount access g =
    ap (λ (n : ℕ). g n (allowed (core s) t access a.0 n)) (core_amount s amount) ∙ ap (λ (b : Bool). g (amount_of s amount) b) (core_allowed s t access a.0 (amount_of s amount))

pub core_act : (s : State) (t x : ℕ) (p : Pending) → act_of (core s) t x p ≡ act_of s t x p
core_act s t x Pending.Begin = ap (λ (m : Thread). Act.Begin m.place.script (m.place.line + 1)) (core_thread_at s t)
core_act s t x (Pending.Check a kind want refusal) = ap (λ (v : Option Errno). Act.Check a kind want v) (core_verdict s t a.0 kind want)
core_act s t x (Pending.Load to a n) =
    ap (λ (b : Bool). if b then Act.Load a n (le_value (bytes_at s a.0 n)) else Act.Fault Accesses.Read a n) (core_allowed s t Accesses.Read a.0 n)
core_act s t x (Pending.Store a n value) = ap (λ (b : Bool). if b then Act.Store a n value else Act.Fault Accesses.Write a n) (core_allowed s t Accesses.Write a.0 n)
core_act s t x (Pending.Fetch a) = ap (λ (b : Bool). if b then Act.Fetch a else Act.Fault Accesses.Exec a 4) (core_allowed s t Accesses.Exec a.0 4)
core_act s t x (Pending.Probe a amount) = probed s t a amount Accesses.Write (λ n b. Act.Probe a n b)
core_act s t x (Pending.CopyIn a amount) = probed s t a amount Accesses.Read (λ n b. Act.CopyIn a n b)
core_act s t x (Pending.CopyOut a) =
    ap (λ (m : Thread). Act.CopyOut a (length m.buffer) (allowed (core s) t Accesses.Write a.0 (length m.buffer))) (core_thread_at s t)
    ∙ ap (λ (b : Bool). Act.CopyOut a (length (thread_at s t).buffer) b) (core_allowed s t Accesses.Write a.0 (length (thread_at s t).buffer))
core_act s t x (Pending.CopyStr a) = ap (λ (found : Found). Act.CopyStr a found) (core_string s t a.0 32)
core_act s t x (Pending.Work a ask) = ap (λ (w : Acted). Act.Work a w.answer (replies_of w.woken)) (core_work s t a ask)
core_act s t x (Pending.Answer reply to) =
    ap (λ (m : Thread). Act.Answered (reply_of m reply)) (core_thread_at s t) ∙ ap (λ (r : Reply). Act.Answered r) (core_reply (thread_at s t) reply)
core_act s t x (Pending.Grant who a) = ap (λ (g : Given). Act.Grant who a g) (core_given s (row_of s a))
core_act s t x (Pending.Own who) = ap (λ (g : Given). Act.Own who g) (core_given s (own_row s.image who.0))
core_act s t x (Pending.Publish a) = ap (λ (g : Given). Act.Publish a g) (core_given s (row_of s a))
core_act s t x (Pending.SetInit a strict undo) = ap (λ (o : Object). Act.SetInit a (set_said o strict)) (core_object_at s (row_of s a))
core_act s t x (Pending.Buffer size) = ap (λ (m : Thread). Act.Buffer size (pays s m.pool size)) (core_thread_at s t)
core_act s t x (Pending.Abort who) = core_lives s who (λ done. Act.Abort who done)
core_act s t x (Pending.Suspend who) = core_lives s who (λ done. Act.Suspend who done)
core_act s t x (Pending.Continue who) = core_lives s who (λ done. Act.Continue who done)
core_act s t x (Pending.Join who timeout) = ap (λ (answer : Answer). Act.Join who answer) (core_join s t x who.0 timeout)
core_act s t x (Pending.FutexWait a value timeout) = ap (λ (answer : Answer). Act.FutexWait a value answer) (core_futex s t a.0 value timeout)
core_act s t x (Pending.FutexWake a all) =
    ap (λ (woken : List (ThreadIx × Told)). Act.FutexWake a (wake_answer (futex_refusal (core s) t a.0) (length woken)) (replies_of woken)) (core_roused s t a.0 all)
    ∙ ap (λ (e : Option Errno). Act.FutexWake a (wake_answer e (length (futex_woken s t a.0 all))) (replies_of (futex_woken s t a.0 all))) (core_refusal s t a.0)
core_act s t x Pending.Expire = ap (λ (o : Object). Act.Expire (to_addr (addr_of s.image x)) (replies_of (runs_out o.waiters (in_order o.waiters)).2)) (core_object_at s x)
core_act s t x p = refl

pub same_act : (s2 s : State) → core s2 ≡ core s → (t x : ℕ) (p : Pending) → act_of s2 t x p ≡ act_of s t x p
same_act s2 s e t x p = both (λ (k : State). act_of k t x p) (λ k. core_act k t x p) s2 s e
