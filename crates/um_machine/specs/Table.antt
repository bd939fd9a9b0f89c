-- The table of steps: what each says, what it writes, and how its thread goes on.
use Rattle.std.specs.Prelude.{ℕ, ◌+◌, true, false, ◌==◌, not, if◌then◌else◌, List, [], ◌∷◌, length, map, take, Some, None, is_some, unwrap_or}
use Rattle.um_base.specs.declared.names.Access.TheVariants as Access
use Rattle.um_base.specs.declared.names.Errno.{Errno}
use Rattle.um_base.specs.declared.names.Reply.{Reply}
use Rattle.um_base.specs.declared.act.Act.{Act}
use Rattle.um_base.specs.declared.ask.Ask.{Ask}
use Rattle.um_base.specs.declared.act.Found.{Found}
use Rattle.um_base.specs.declared.image.Image.{Image}
use Rattle.um_machine.specs.declared.pending.Pending.{Pending}
use Rattle.um_machine.specs.declared.thread.Thread.{Thread}
use Rattle.um_machine.specs.State.{State, is_living, thread_at, object_at, waiters_in, instruction_at}
use Rattle.um_base.specs.declared.limits.TheConstants.{FUTEX_CELL, JOIN_CELL, PIECE}
use Rattle.um_base.specs.Lawful.{most_parts}
use Rattle.um_base.specs.Places.{own_row, addr_of, setup_at}
use Rattle.um_base.specs.Regions.{stack_range}
use Rattle.um_machine.specs.Memory.{allowed, bytes_at, le_bytes, le_value, string_read, string_bytes}
use Rattle.um_machine.specs.Objects.{verdict}
use Rattle.um_machine.specs.Services.{in_order, runs_out, still_waiting, without}
use Rattle.um_machine.specs.Time.{next_deadline, told_late}
use Rattle.um_machine.specs.Joins.{join_answer, all_joined, without_joins}
use Rattle.um_machine.specs.Futexes.{futex_answer, futex_refusal, futex_woken, wake_answer}
use Rattle.um_machine.specs.Domains.{initialised, added, removed, reply_to, domain_after, part_named}
use Rattle.um_machine.specs.Order.{Steps, to_addr, to_thread}
use Rattle.um_machine.specs.declared.object.Status.{Status}
use Rattle.um_machine.specs.Readings.{row_by}
use Rattle.um_machine.specs.Writes.{Edit, Effect, Effects, Flag, does, only, wrote, drops, is_done, is_number, says_wait, start_of, zeros_of, was_given}
use Rattle.um_machine.specs.Goes.{Change, Way, Next, went, no_access, copied, checked_way, text_way, text_change, set_way, work_way, work_change, asked_way, reserve_way, reserve_change}
use Rattle.um_machine.specs.Outcomes.{deadline_in, domain_reply_in, fits_in, given_in, is_done_in, is_fault, leftover_in, now_in, reserved_in, set_in, answer_in, found_in, reply_in, value_in, verdict_in}
pub use Rattle.um_machine.specs.Readings.{row_of, message_size, amount_of, bytes_given, work_of, queued, replies_of, given, dropped, set_said, left_in, pays, domain_at, move_reply, reply_of}
pub use Rattle.um_machine.specs.Writes.{stays_due, with_due, with_dues, paired, paid_back, paid_from, cost_of, all_woken, buffer_cost, newborn}
pub use Rattle.um_machine.specs.Goes.{at_steps, rows_held, rows_to_pass, without_copy, with_answer, with_begin, next_doom}

-- what a step says. `x` is the row that it chooses, where it may choose
abbrev pub act_of : State → ℕ → ℕ → Pending → Act
act_of s t x Pending.Begin = let place = (thread_at s t).place in Act.Begin place.script (place.line + 1)
act_of s t x Pending.Exit = Act.Exit
act_of s t x (Pending.Check a kind want refusal) = Act.Check a kind want (verdict s t a.0 kind want)
act_of s t x (Pending.Load to a n) =
    if allowed s t Access.Read a.0 n then Act.Load a n (le_value (bytes_at s a.0 n)) else Act.Fault Access.Read a n
act_of s t x (Pending.Store a n value) = if allowed s t Access.Write a.0 n then Act.Store a n value else Act.Fault Access.Write a n
act_of s t x (Pending.Fetch a) = if allowed s t Access.Exec a.0 4 then Act.Fetch a else Act.Fault Access.Exec a 4
act_of s t x (Pending.Probe a amount) = let n = amount_of s amount in Act.Probe a n (allowed s t Access.Write a.0 n)
act_of s t x (Pending.CopyIn a amount) = let n = amount_of s amount in Act.CopyIn a n (allowed s t Access.Read a.0 n)
act_of s t x (Pending.CopyOut a) = let n = length (thread_at s t).buffer in Act.CopyOut a n (allowed s t Access.Write a.0 n)
act_of s t x (Pending.CopyStr a) = Act.CopyStr a (string_read s t a.0 32)
act_of s t x (Pending.Erase stack) = Act.Erase stack
act_of s t x (Pending.Work a ask) = let w = work_of s t a ask in Act.Work a w.answer (replies_of w.woken)
act_of s t x Pending.Resume = Act.Resume
act_of s t x (Pending.Answer reply to) = Act.Answered (reply_of (thread_at s t) reply)
act_of s t x (Pending.Grant who a) = Act.Grant who a (given s (row_of s a))
act_of s t x (Pending.Own who) = Act.Own who (given s (own_row s.image who.0))
act_of s t x (Pending.Inherit who) = Act.Inherit who (to_addr (addr_of s.image x))
act_of s t x (Pending.DropPair who a) = Act.DropPair who a (dropped s who.0 (row_of s a))
act_of s t x (Pending.Publish a) = Act.Publish a (given s (row_of s a))
act_of s t x (Pending.SetInit a strict undo) = Act.SetInit a (set_said (object_at s (row_of s a)) strict)
act_of s t x (Pending.ClearInit a) = Act.ClearInit a
act_of s t x (Pending.Named who) = Act.Named who
act_of s t x (Pending.Reserve kind) = Act.Reserve kind (if x == 0 then None else Some (to_addr (addr_of s.image x)))
act_of s t x (Pending.Born a) = Act.Born a
act_of s t x (Pending.Buffer size) = Act.Buffer size (pays s (thread_at s t).pool size)
act_of s t x (Pending.Unbuffer size) = Act.Unbuffer size
act_of s t x (Pending.DomInit d parts) =
    Act.DomInit d (reply_to (initialised s.image.mpu (most_parts s.image) (domain_at s d) (map (part_named s.image) parts)))
act_of s t x (Pending.DomAdd d range attr) =
    Act.DomAdd d range attr (reply_to (added s.image.mpu (most_parts s.image) (domain_at s d) (range, attr)))
act_of s t x (Pending.DomRemove d range attr) = Act.DomRemove d range attr (reply_to (removed (domain_at s d) range))
act_of s t x (Pending.DomMove d who) = Act.DomMove d who (move_reply (domain_at s d))
act_of s t x (Pending.Start who script stack priority mode) = Act.Start who
act_of s t x (Pending.EnterUser script) = Act.EnterUser
act_of s t x (Pending.Fatal reason cause) = Act.Fatal reason cause
act_of s t x (Pending.Drops from) = Act.DropPair (to_thread t) (to_addr (addr_of s.image x)) (dropped s t x)
act_of s t x (Pending.Dooms from) = Act.Doom (to_thread from)
act_of s t x (Pending.CleanPair who) = Act.DropPair who (to_addr (addr_of s.image x)) (dropped s who.0 x)
act_of s t x Pending.Recycle = Act.Recycle (to_addr (addr_of s.image x))
act_of s t x (Pending.Arm ticks) = Act.Arm (s.now + ticks)
act_of s t x (Pending.ArmTimer ticks) = Act.Arm (s.now + ticks)
act_of s t x (Pending.Abort who) = Act.Abort who (is_living (thread_at s who.0).life)
act_of s t x (Pending.Suspend who) = Act.Suspend who (is_living (thread_at s who.0).life)
act_of s t x (Pending.Continue who) = Act.Continue who (is_living (thread_at s who.0).life)
act_of s t x Pending.Killed = Act.Killed
act_of s t x (Pending.Join who timeout) = Act.Join who (join_answer s t x who.0 timeout)
act_of s t x Pending.Left = Act.Left (to_thread t) (replies_of (all_joined s t))
act_of s t x (Pending.FutexWait a value timeout) = Act.FutexWait a value (futex_answer s t a.0 value timeout)
act_of s t x (Pending.FutexWake a all) =
    let woken = futex_woken s t a.0 all in Act.FutexWake a (wake_answer (futex_refusal s t a.0) (length woken)) (replies_of woken)
act_of s t x Pending.Tick = Act.Tick (unwrap_or (next_deadline s.now s.armed) s.now)
act_of s t x (Pending.TimeOut who) = Act.TimedOut who
act_of s t x Pending.Expire =
    let o = object_at s x in Act.Expire (to_addr (addr_of s.image x)) (replies_of (runs_out o.waiters (in_order o.waiters)).2)
act_of s t x (Pending.Cut who) = Act.Cut who

-- what each step writes
abbrev pub effects : State → ℕ → ℕ → Pending → Act → Effects
effects s t x Pending.Begin act = []
effects s t x Pending.Exit act = []
effects s t x (Pending.Check a kind want refusal) act = []
effects s t x (Pending.Load to a n) act = []
effects s t x (Pending.Store a n value) act = only (not (is_fault act)) (Effect.bytes a.0 (le_bytes n value)) ∷ []
effects s t x (Pending.Fetch a) act = []
effects s t x (Pending.Probe a amount) act = []
effects s t x (Pending.CopyIn a amount) act = []
effects s t x (Pending.CopyOut a) act =
    let bs = (thread_at s t).buffer in only (fits_in act) (Effect.bytes a.0 bs) ∷ []
effects s t x (Pending.CopyStr a) act = []
effects s t x (Pending.Erase stack) act = let range = stack_range (setup_at s.image stack.0) in does (Effect.bytes (start_of range) (zeros_of range)) ∷ []
effects s t x (Pending.Work a ask) act =
    let w = work_of s t a ask in
    let y = row_of s a in
    does (Effect.object y (Edit.works w.contents w.waiters (buffer_cost ask w.answer (object_at s y).buffer))) ∷ does (Effect.wakes w.woken) ∷ []
effects s t x Pending.Resume act = []
effects s t x (Pending.Answer reply to) act = []
effects s t x (Pending.Grant who a) act = let y = row_of s a in only (was_given (given_in act)) (Effect.pair who.0 y true) ∷ []
effects s t x (Pending.Own who) act =
    let y = own_row s.image who.0 in only (was_given (given_in act)) (Effect.pair who.0 y true) ∷ []
effects s t x (Pending.Inherit who) act = does (Effect.pair who.0 x true) ∷ []
effects s t x (Pending.DropPair who a) act = let y = row_of s a in drops who.0 y (leftover_in act)
effects s t x (Pending.Publish a) act = let y = row_of s a in only (was_given (given_in act)) (Effect.object y Edit.opens) ∷ []
effects s t x (Pending.SetInit a strict undo) act =
    let y = row_of s a in only (is_done (set_in act)) (Effect.object y (Edit.inits true)) ∷ []
effects s t x (Pending.ClearInit a) act = does (Effect.object (row_of s a) (Edit.inits false)) ∷ []
effects s t x (Pending.Named who) act = does (Effect.object (own_row s.image who.0) (Edit.named (thread_at s t).buffer)) ∷ []
effects s t x (Pending.Reserve kind) act =
    let pool = (thread_at s t).pool in
    let found = is_some (reserved_in act) in only found (Effect.takes pool 64) ∷ only found (Effect.object x (Edit.reserved kind (cost_of pool 64))) ∷ []
effects s t x (Pending.Born a) act = let y = row_of s a in does (Effect.object y (Edit.becomes Status.Live)) ∷ does (Effect.pair t y true) ∷ []
effects s t x (Pending.Buffer size) act = let pool = (thread_at s t).pool in only (fits_in act) (Effect.takes pool size) ∷ []
effects s t x (Pending.Unbuffer size) act = does (Effect.returns (cost_of (thread_at s t).pool size)) ∷ []
effects s t x (Pending.DomInit d parts) act =
    let made = initialised s.image.mpu (most_parts s.image) (domain_at s d) (map (part_named s.image) parts) in
    does (Effect.edits d (domain_after (domain_at s d) made)) ∷ []
effects s t x (Pending.DomAdd d range attr) act =
    let made = added s.image.mpu (most_parts s.image) (domain_at s d) (range, attr) in
    does (Effect.edits d (domain_after (domain_at s d) made)) ∷ []
effects s t x (Pending.DomRemove d range attr) act =
    let made = removed (domain_at s d) range in does (Effect.edits d (domain_after (domain_at s d) made)) ∷ []
effects s t x (Pending.DomMove d who) act = only (is_number (domain_reply_in act)) (Effect.moves who.0 d) ∷ []
effects s t x (Pending.Start who script stack priority mode) act =
    does (Effect.starts who.0 (newborn s (thread_at s t) who.0 script (Pending.Start who script stack priority mode))) ∷ []
effects s t x (Pending.EnterUser script) act = []
effects s t x (Pending.Fatal reason cause) act = []
effects s t x (Pending.Drops from) act = drops t x (leftover_in act)
effects s t x (Pending.Dooms from) act = does (Effect.dooms from) ∷ []
effects s t x (Pending.CleanPair who) act =
    does (Effect.object (own_row s.image who.0) (Edit.cleaned (to_thread t))) ∷ drops who.0 x (leftover_in act)
effects s t x Pending.Recycle act =
    let o = object_at s x in does (Effect.object x Edit.vacates) ∷ does (Effect.returns o.cost) ∷ does (Effect.returns o.buffer) ∷ []
effects s t x (Pending.Arm ticks) act = does (Effect.arms (deadline_in act)) ∷ []
effects s t x (Pending.ArmTimer ticks) act = does (Effect.arms (deadline_in act)) ∷ []
effects s t x (Pending.Abort who) act = only (is_done_in act) (Effect.flags who.0 Flag.aborted) ∷ []
effects s t x (Pending.Suspend who) act = only (is_done_in act) (Effect.flags who.0 (Flag.suspended true)) ∷ []
effects s t x (Pending.Continue who) act = only (is_done_in act) (Effect.flags who.0 (Flag.suspended false)) ∷ []
effects s t x Pending.Killed act = []
effects s t x (Pending.Join who timeout) act = only (says_wait (answer_in act)) (Effect.waiters JOIN_CELL (queued s t JOIN_CELL (Ask.Join who))) ∷ []
effects s t x Pending.Left act = does (Effect.waiters JOIN_CELL (without_joins s t)) ∷ does (Effect.wakes (all_joined s t)) ∷ []
effects s t x (Pending.FutexWait a value timeout) act =
    only (says_wait (answer_in act)) (Effect.waiters FUTEX_CELL (queued s t FUTEX_CELL (Ask.FutexWait a))) ∷ []
effects s t x (Pending.FutexWake a all) act =
    let woken = futex_woken s t a.0 all in does (Effect.waiters FUTEX_CELL (still_waiting woken s.futexes)) ∷ does (Effect.wakes woken) ∷ []
effects s t x Pending.Tick act = does (Effect.passes (now_in act)) ∷ []
effects s t x (Pending.TimeOut who) act = does (Effect.waiters x (without who.0 (waiters_in s x))) ∷ does (Effect.wakes (told_late who x)) ∷ []
effects s t x Pending.Expire act =
    let o = object_at s x in
    let out = runs_out o.waiters (in_order o.waiters) in does (Effect.object x (Edit.runs_out out.0 out.1)) ∷ does (Effect.wakes out.2) ∷ []
effects s t x (Pending.Cut who) act = does (Effect.waiters x (without who.0 (waiters_in s x))) ∷ does (Effect.cuts who.0) ∷ []

-- how a thread goes on after a step, by the row that it chose, what it said, and the bytes that came with it
abbrev pub continues : Image → ℕ → Thread → ℕ → Pending → Act → List ℕ → Next
continues image t me x Pending.Begin act came = Next.begins (instruction_at image me.place)
continues image t me x Pending.Exit act came = Next.exits
continues image t me x (Pending.Check a kind want refusal) act came =
    Next.checks (row_by image a) (verdict_in act) (checked_way me.mode refusal (verdict_in act))
continues image t me x (Pending.Load to a n) act came =
    Next.on (if is_fault act then Change.nothing else Change.register to (value_in act)) (if is_fault act then no_access else Way.rest)
continues image t me x (Pending.Store a n value) act came = Next.on Change.nothing (if is_fault act then no_access else Way.rest)
continues image t me x (Pending.Fetch a) act came = Next.on Change.nothing (if is_fault act then no_access else Way.rest)
continues image t me x (Pending.Probe a amount) act came = Next.on Change.nothing (copied me.mode (fits_in act))
continues image t me x (Pending.CopyIn a amount) act came =
    Next.on (if fits_in act then Change.copies came else Change.nothing) (copied me.mode (fits_in act))
continues image t me x (Pending.CopyOut a) act came = Next.on Change.nothing (copied me.mode (fits_in act))
continues image t me x (Pending.CopyStr a) act came = Next.on (text_change came (found_in act)) (text_way (found_in act))
continues image t me x (Pending.Erase stack) act came = Next.on Change.nothing Way.rest
continues image t me x (Pending.Work a ask) act came = Next.on (work_change (answer_in act) came) (work_way me.mode ask (answer_in act))
continues image t me x Pending.Resume act came = Next.resumes me.told
continues image t me x (Pending.Answer reply to) act came = Next.answers to (reply_in act)
continues image t me x (Pending.Grant who a) act came = Next.on Change.nothing Way.rest
continues image t me x (Pending.Own who) act came = Next.creates who
continues image t me x (Pending.Inherit who) act came = Next.inherits who
continues image t me x (Pending.DropPair who a) act came = Next.on Change.nothing Way.rest
continues image t me x (Pending.Publish a) act came = Next.on Change.nothing Way.rest
continues image t me x (Pending.SetInit a strict undo) act came = Next.on Change.nothing (set_way me.mode undo (set_in act))
continues image t me x (Pending.ClearInit a) act came = Next.owns (not (row_by image a == own_row image t))
continues image t me x (Pending.Named who) act came = Next.on Change.nothing Way.rest
continues image t me x (Pending.Reserve kind) act came = Next.on (reserve_change (reserved_in act)) (reserve_way (reserved_in act))
continues image t me x (Pending.Born a) act came = Next.on Change.nothing Way.rest
continues image t me x (Pending.Buffer size) act came =
    Next.on Change.nothing (if fits_in act then Way.rest else Way.replies (Reply.Fail Errno.ENOMEM))
continues image t me x (Pending.Unbuffer size) act came = Next.on Change.nothing Way.rest
continues image t me x (Pending.DomInit d parts) act came = Next.on (Change.says (domain_reply_in act)) Way.rest
continues image t me x (Pending.DomAdd d range attr) act came = Next.on (Change.says (domain_reply_in act)) Way.rest
continues image t me x (Pending.DomRemove d range attr) act came = Next.on (Change.says (domain_reply_in act)) Way.rest
continues image t me x (Pending.DomMove d who) act came = Next.on (Change.says (domain_reply_in act)) Way.rest
continues image t me x (Pending.Start who script stack priority mode) act came = Next.starts
continues image t me x (Pending.EnterUser script) act came = Next.enters script
continues image t me x (Pending.Fatal reason cause) act came = Next.fatal reason
continues image t me x (Pending.Drops from) act came = Next.drops (x + 1)
continues image t me x (Pending.Dooms from) act came = Next.dooms from
continues image t me x (Pending.CleanPair who) act came = Next.stays
continues image t me x Pending.Recycle act came = Next.stays
continues image t me x (Pending.Arm ticks) act came = Next.on (Change.until (Some (deadline_in act))) Way.rest
continues image t me x (Pending.ArmTimer ticks) act came = Next.on (Change.until None) (Way.runs_to (deadline_in act))
continues image t me x (Pending.Abort who) act came = Next.on Change.nothing Way.rest
continues image t me x (Pending.Suspend who) act came = Next.on Change.nothing Way.rest
continues image t me x (Pending.Continue who) act came = Next.on Change.nothing Way.rest
continues image t me x Pending.Killed act came = Next.exits
continues image t me x (Pending.Join who timeout) act came = Next.on (work_change (answer_in act) []) (asked_way (answer_in act))
continues image t me x Pending.Left act came = Next.stays
continues image t me x (Pending.FutexWait a value timeout) act came = Next.on (work_change (answer_in act) []) (asked_way (answer_in act))
continues image t me x (Pending.FutexWake a all) act came = Next.on (work_change (answer_in act) []) (asked_way (answer_in act))
continues image t me x Pending.Tick act came = Next.stays
continues image t me x (Pending.TimeOut who) act came = Next.stays
continues image t me x Pending.Expire act came = Next.stays
continues image t me x (Pending.Cut who) act came = Next.stays

-- the bytes that come with a step: those of a copy, of a text, or what was taken of an object
abbrev pub came_with : State → ℕ → Pending → List ℕ
came_with s t (Pending.CopyIn a amount) = take PIECE (bytes_at s a.0 (amount_of s amount))
came_with s t (Pending.CopyStr a) = elim (string_read s t a.0 32) as (λ _. List ℕ) [ Found.Length n ↦ string_bytes s a.0 n | _ ↦ [] ]
came_with s t (Pending.Work a ask) = (work_of s t a ask).taken
came_with s t step = []

-- the state after a step, and the steps that are left of the instruction then
abbrev pub after : State → ℕ → ℕ → Pending → Steps → State
after s t x step rest =
    let act = act_of s t x step in
    went rest (wrote (effects s t x step act) s) t (continues s.image t (thread_at s t) x step act (came_with s t step))
