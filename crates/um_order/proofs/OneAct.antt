-- What is left of a call has at most one step by which it acts in a cell, resumes, or stops or goes on with a thread; and an answer stands behind one that
-- stops or goes on with a thread. Each step of the machine keeps that of the thread that makes it.
use Rattle.std.proofs.Common.{◌≡◌, ◌⊎◌, inl, inr, ℕ, Bool, true, false, [], ◌∷◌, ◌++◌, Option, Some, None, refl, sym, subst}
use Rattle.std.specs.Prelude.{◌+◌, ◌==◌, ◌&&◌, not, if◌then◌else◌, length, nat_lt, ℤ}
use Rattle.std.proofs.lemmas.Bool.{false≢true}
use Rattle.um_base.specs.declared.act.Cause.{Cause}
use Rattle.um_base.specs.declared.act.Found.{Found}
use Rattle.um_base.specs.declared.act.SetSaid.{SetSaid}
use Rattle.um_base.specs.declared.ask.Ask.{Ask}
use Rattle.um_base.specs.declared.image.Image.{Image}
use Rattle.um_base.specs.declared.instr.Instr.{Instr}
use Rattle.um_base.specs.declared.instr.Options.{Options}
use Rattle.um_base.specs.declared.limits.TheConstants.{THREADS}
use Rattle.um_base.specs.declared.names.Addr.{Addr}
use Rattle.um_base.specs.declared.names.Errno.{Errno}
use Rattle.um_base.specs.declared.names.Kind.{Kind}
use Rattle.um_base.specs.declared.names.Mode.{Mode}
use Rattle.um_base.specs.declared.names.Policy.{Policy}
use Rattle.um_base.specs.declared.names.Reply.{Reply}
use Rattle.um_base.specs.declared.names.ThreadIx.{ThreadIx}
use Rattle.um_base.specs.declared.names.Timeout.{Timeout}
use Rattle.um_machine.specs.declared.pending.Pending.{Pending}
use Rattle.um_machine.specs.declared.pending.Refusal.{Refusal}
use Rattle.um_machine.specs.declared.thread.Thread.{Thread}
use Rattle.um_machine.specs.Goes.{Change, Next, Way, at_steps, changed, checked_way, copied, gone, no_access, reserve_way, set_way, steps_by, text_way, told_way, without_copy, asked_way}
use Rattle.um_machine.specs.Order.{Steps, aborts, answer_error, answer_void, answer_zero, arms, buffered, creates, fatal_steps, privileged, steps_of, to_addr, to_deadline, to_thread, work}
use Rattle.um_machine.specs.Services.{is_empty}
use Rattle.um_machine.specs.Futexes.{futex_refusal, futex_woken, wake_answer}
use Rattle.um_machine.specs.Memory.{string_read}
use Rattle.um_machine.specs.Objects.{verdict}
use Rattle.um_machine.specs.Outcomes.{fits_in, is_fault, reserved_in, set_in}
use Rattle.um_machine.specs.State.{State, thread_at}
use Rattle.um_machine.specs.Table as T
use Rattle.um_machine.proofs.EffectLemmas.{next_of}
use Rattle.um_invariants.proofs.ThreadWords.{is_beside}
use Rattle.um_refinement.proofs.StepsLeft.{fatal-left}

-- no such step, and no doom
abbrev pub Quiet : Steps → Type 0
Quiet [] = Unit {0}
Quiet (Pending.Work a ask ∷ rest) = ⊥
Quiet (Pending.Join who timeout ∷ rest) = ⊥
Quiet (Pending.FutexWait a value timeout ∷ rest) = ⊥
Quiet (Pending.Resume ∷ rest) = ⊥
Quiet (Pending.Abort who ∷ rest) = ⊥
Quiet (Pending.Suspend who ∷ rest) = ⊥
Quiet (Pending.Continue who ∷ rest) = ⊥
Quiet (Pending.Dooms from ∷ rest) = ⊥
Quiet (q ∷ rest) = Quiet rest

-- one such step but a resume, behind which are none
abbrev pub Calls : Steps → Type 0
Calls [] = Unit {0}
Calls (Pending.Work a ask ∷ rest) = Quiet rest
Calls (Pending.Join who timeout ∷ rest) = Quiet rest
Calls (Pending.FutexWait a value timeout ∷ rest) = Quiet rest
Calls (Pending.Resume ∷ rest) = ⊥
Calls (Pending.Abort who ∷ rest) = Quiet rest × (is_empty rest ≡ false)
Calls (Pending.Suspend who ∷ rest) = Quiet rest × (is_empty rest ≡ false)
Calls (Pending.Continue who ∷ rest) = Quiet rest × (is_empty rest ≡ false)
Calls (Pending.Dooms from ∷ rest) = ⊥
Calls (q ∷ rest) = Calls rest

-- a thread waits, or was told what it waits for; it dooms all threads; or it is in a call
abbrev pub IsCall : Steps → Type 0
IsCall [] = Unit {0}
IsCall (Pending.Resume ∷ rest) = Quiet rest
IsCall (Pending.Dooms from ∷ rest) = rest ≡ []
IsCall (q ∷ rest) = Calls (q ∷ rest)

-- and has none of those steps left but a resume
abbrev pub IsSettled : Steps → Type 0
IsSettled [] = Unit {0}
IsSettled (Pending.Resume ∷ rest) = Quiet rest
IsSettled (Pending.Dooms from ∷ rest) = rest ≡ []
IsSettled (q ∷ rest) = Quiet (q ∷ rest)

pub quiet-calls : (steps : Steps) → Quiet steps → Calls steps
quiet-calls [] h = tt
quiet-calls (Pending.Work a ask ∷ rest) h = absurd h
quiet-calls (Pending.Join who timeout ∷ rest) h = absurd h
quiet-calls (Pending.FutexWait a value timeout ∷ rest) h = absurd h
quiet-calls (Pending.Resume ∷ rest) h = absurd h
quiet-calls (Pending.Abort who ∷ rest) h = absurd h
quiet-calls (Pending.Suspend who ∷ rest) h = absurd h
quiet-calls (Pending.Continue who ∷ rest) h = absurd h
quiet-calls (Pending.Dooms from ∷ rest) h = absurd h
quiet-calls (q ∷ rest) h = quiet-calls rest h

pub quiet-settled : (steps : Steps) → Quiet steps → IsSettled steps
quiet-settled [] h = tt
quiet-settled (Pending.Resume ∷ rest) h = absurd h
quiet-settled (Pending.Dooms from ∷ rest) h = absurd h
quiet-settled (q ∷ rest) h = h

pub calls-call : (steps : Steps) → Calls steps → IsCall steps
calls-call [] h = tt
calls-call (Pending.Resume ∷ rest) h = absurd h
calls-call (Pending.Dooms from ∷ rest) h = absurd h
calls-call (q ∷ rest) h = h

pub settled-call : (steps : Steps) → IsSettled steps → IsCall steps
settled-call [] h = tt
settled-call (Pending.Resume ∷ rest) h = h
settled-call (Pending.Dooms from ∷ rest) h = h
settled-call (q ∷ rest) h = quiet-calls (q ∷ rest) h

-- The steps of a line.

calls-arms : (timeout : Timeout) (steps : Steps) → Calls steps → Calls (arms timeout steps)
calls-arms Timeout.NoWait steps h = h
calls-arms (Timeout.Ticks ticks) steps h = h
calls-arms Timeout.Forever steps h = h

calls-privileged : (mode : Mode) (steps : Steps) → Calls steps → Calls (privileged mode steps)
calls-privileged Mode.User steps h = tt
calls-privileged Mode.Supervisor steps h = h

calls-init : (a : ℕ) (ask : Ask) (refused : Bool) → Calls (if refused then answer_error Errno.EINVAL else work a ask ∷ Pending.SetInit (to_addr a) false None ∷ answer_zero)
calls-init a ask true = tt
calls-init a ask false = tt

calls-aborts : (t who : ℕ) → Calls (aborts t who)
calls-aborts t who = by (who == t)
  where
    by : (b : Bool) → Calls (Pending.Abort (to_thread who) ∷ (if b then Pending.Killed ∷ [] else answer_void))
    by true = (tt, refl)
    by false = (tt, refl)

calls-inherit : (inherits : Bool) (who : ThreadIx) (rest : Steps) → Calls rest → Calls ((if inherits then Pending.Inherit who ∷ [] else []) ++ rest)
calls-inherit true who rest h = h
calls-inherit false who rest h = h

calls-creates : (mode : Mode) (who stack a b script : ℕ) (priority : ℤ) (options : Options) (cause : Option Cause) → Calls (creates mode who stack a b script priority options cause)
calls-creates mode who stack a b script priority options (Some cause) = tt
calls-creates mode who stack a b script priority options None = calls-inherit options.inherit _ _ tt

calls-buffered : (a : ℕ) (kind : Kind) (lawful : Bool) (size : ℕ) (ask : Ask) → Calls (buffered a kind lawful size ask)
calls-buffered a kind true size ask = tt
calls-buffered a kind false size ask = tt

pub calls-steps : (image : Image) (t : ℕ) (me : Thread) (instr : Instr) → Calls (steps_of image t me instr)
calls-steps image t me (Instr.DomainInit domain parts) = calls-privileged me.mode _ tt
calls-steps image t me (Instr.DomainAdd domain part) = calls-privileged me.mode _ tt
calls-steps image t me (Instr.DomainRemove domain part) = calls-privileged me.mode _ tt
calls-steps image t me (Instr.DomainMove domain thread) = calls-privileged me.mode _ tt
calls-steps image t me (Instr.UserMode script) = calls-privileged me.mode _ tt
calls-steps image t me (Instr.AllGrant object) = calls-privileged me.mode _ tt
calls-steps image t me (Instr.Revoke object thread) = calls-privileged me.mode _ tt
calls-steps image t me Instr.Panic = calls-panic me.mode
  where
    calls-panic : (mode : Mode) → Calls (steps_of image t (record me { mode = mode }) Instr.Panic)
    calls-panic Mode.User = tt
    calls-panic Mode.Supervisor = tt
calls-steps image t me (Instr.Create thread stack size script priority options) = calls-creates me.mode _ _ _ _ _ _ options _
calls-steps image t me (Instr.SemInit object count limit) = calls-init _ (Ask.SemInit _ _) _
calls-steps image t me (Instr.MsgqInit object msg_size max_msgs) = calls-buffered _ Kind.Msgq _ _ _
calls-steps image t me (Instr.StackInit object entries) = calls-buffered _ Kind.Stack _ _ _
calls-steps image t me (Instr.PipeInit object size) = calls-buffered _ Kind.Pipe _ _ _
calls-steps image t me (Instr.SemTake object timeout) = calls-arms timeout _ tt
calls-steps image t me (Instr.MutexLock object timeout) = calls-arms timeout _ tt
calls-steps image t me (Instr.MsgqPut object addr timeout) = calls-arms timeout _ tt
calls-steps image t me (Instr.MsgqGet object addr timeout) = calls-arms timeout _ tt
calls-steps image t me (Instr.StackPop object addr timeout) = calls-arms timeout _ tt
calls-steps image t me (Instr.PipeWrite object addr length timeout) = calls-arms timeout _ tt
calls-steps image t me (Instr.PipeRead object addr length timeout) = calls-arms timeout _ tt
calls-steps image t me (Instr.Abort thread) = calls-aborts t _
calls-steps image t me (Instr.Join thread timeout) = calls-arms timeout _ tt
calls-steps image t me (Instr.Suspend thread) = (tt, refl)
calls-steps image t me (Instr.Continue thread) = (tt, refl)
calls-steps image t me (Instr.FutexWait addr value timeout) = calls-arms timeout _ tt
calls-steps image t me _ = tt

-- Ways to go on.

-- a property of the steps that are left, which no end of a call breaks
pub record IsClosed (P : Steps → Type 0) : Type 0 where
  pub copy : (a : Addr) (left : Steps) → P (Pending.CopyOut a ∷ left) → P left
  pub bears : (a : Addr) (left : Steps) → P left → P (Pending.Born a ∷ left)
  pub runs_to : (a : Addr) (before deadline : ℕ) (left : Steps) → P (Pending.Work a (Ask.TimerStart before) ∷ left) → P (Pending.Work a (Ask.TimerStart deadline) ∷ left)
  pub short : P []
  pub replies : (reply : Reply) → P (Pending.Answer (Some reply) None ∷ [])
  pub fails : (reason : ℕ) (cause : Cause) → P (Pending.Fatal reason cause ∷ []) × ((size : ℕ) → P (Pending.Unbuffer size ∷ Pending.Fatal reason cause ∷ [])) × ((a : Addr) → P (Pending.ClearInit a ∷ Pending.Fatal reason cause ∷ []))
  pub inherits : (who : ThreadIx) (left : Steps) → P left → P (Pending.Inherit who ∷ left)
  pub drops : (from : ℕ) (left : Steps) → P left → P (Pending.Drops from ∷ left)
  pub ends : (a b : Addr) → P (Pending.Drops 0 ∷ Pending.ClearInit a ∷ Pending.ClearInit b ∷ [])

abbrev pub is_awake : Way → Bool
is_awake Way.waits = false
is_awake way = true

pub quiet-closed : IsClosed Quiet
quiet-closed =
    record {
      copy = λ a left h. h;
      bears = λ a left h. h;
      runs_to = λ a before deadline left h. h;
      short = tt;
      replies = λ reply. tt;
      fails = λ reason cause. (tt, λ size. tt, λ a. tt);
      inherits = λ who left h. h;
      drops = λ from left h. h;
      ends = λ a b. tt;
    }

pub calls-closed : IsClosed Calls
calls-closed =
    record {
      copy = λ a left h. h;
      bears = λ a left h. h;
      runs_to = λ a before deadline left h. h;
      short = tt;
      replies = λ reply. tt;
      fails = λ reason cause. (tt, λ size. tt, λ a. tt);
      inherits = λ who left h. h;
      drops = λ from left h. h;
      ends = λ a b. tt;
    }

-- an end, or a fatal error, by which all threads are doomed from the first on; and what follows a doom
abbrev pub DoomsNext : Next → ℕ → Type 0
DoomsNext (Next.dooms before) from = from ≡ before + 1
DoomsNext (Next.fatal reason) from = from ≡ 0
DoomsNext next from = ⊥

abbrev pub IsGone : (Steps → Type 0) → Next → Steps → Type 0
IsGone P next steps = P steps ⊎ ((from : ℕ) × (steps ≡ Pending.Dooms from ∷ []) × DoomsNext next from)

-- what is known of the steps behind the one that is made
abbrev pub Needs : (Steps → Type 0) → Steps → Next → Type 0
Needs P left (Next.on change way) = P left × (is_awake way ≡ true)
Needs P left (Next.checks x v way) = P left × (is_awake way ≡ true)
Needs P left (Next.begins instr) = ⊥
Needs P left (Next.resumes None) = ⊥
Needs P left (Next.dooms from) = Unit {0}
Needs P left (Next.enters script) = Unit {0}
Needs P left Next.exits = Unit {0}
Needs P left (Next.fatal reason) = Unit {0}
Needs P left Next.stays = ⊥
Needs P left next = P left

module _ (P : Steps → Type 0) (closed : IsClosed P) where
  uncopied : (left : Steps) → P left → P (without_copy left)
  uncopied [] h = h
  uncopied (Pending.CopyOut a ∷ left) h = closed.copy a left h
  uncopied (q ∷ left) h = h

  to-deadline : (deadline : ℕ) (left : Steps) → P left → P (to_deadline deadline left)
  to-deadline deadline [] h = h
  to-deadline deadline (Pending.Work a (Ask.TimerStart before) ∷ left) h = closed.runs_to a before deadline left h
  to-deadline deadline (q ∷ left) h = h

  awake-left : (left : Steps) (way : Way) → is_awake way ≡ true → P left → P (steps_by left way)
  awake-left left Way.rest awake h = h
  awake-left left Way.skips_copy awake h = uncopied left h
  awake-left left Way.waits awake h = absurd (false≢true awake)
  awake-left left (Way.bears a) awake h = closed.bears a left h
  awake-left left (Way.runs_to deadline) awake h = to-deadline deadline left h
  awake-left left (Way.replies reply) awake h = closed.replies reply
  awake-left left (Way.fails reason cause) awake h = (closed.fails reason cause).0
  awake-left left (Way.gives_back size reason cause) awake h = (closed.fails reason cause).1 size
  awake-left left (Way.clears a reason cause) awake h = (closed.fails reason cause).2 a

  told-awake : (reply : Reply) → is_awake (told_way reply) ≡ true
  told-awake (Reply.Fail e) = refl
  told-awake reply = refl

  changed-left : (image : Image) (change : Change) (me : Thread) (steps : Steps) → (at_steps image (changed change me) steps).pending ≡ steps
  changed-left image Change.nothing me steps = refl
  changed-left image change me steps = refl

  fatal-gone : (reason : ℕ) (image : Image) (t : ℕ) (me : Thread) (policy : Policy) → IsGone P (Next.fatal reason) (fatal_steps image t me reason policy)
  fatal-gone reason image t me policy =
      fatal-left (IsGone P (Next.fatal reason)) image t me (inr (0, refl, refl)) (inl (closed.ends _ _)) reason policy

  -- so it is of those that are left then
  pub gone-left : (left : Steps) (u : State) (t : ℕ) (next : Next) (me : Thread) → Needs P left next → IsGone P next (gone left u t next me).pending
  gone-left left u t (Next.on change way) me h = inl (subst P (sym (changed-left u.image change me (steps_by left way))) (awake-left left way h.1 h.0))
  gone-left left u t (Next.checks x None way) me h = inl (awake-left left way h.1 h.0)
  gone-left left u t (Next.checks x (Some e) way) me h = inl (awake-left left way h.1 h.0)
  gone-left left u t (Next.answers to reply) me h = inl h
  gone-left left u t (Next.owns keeps) me h = inl h
  gone-left left u t (Next.begins instr) me h = absurd h
  gone-left left u t (Next.resumes None) me h = absurd h
  gone-left left u t (Next.resumes (Some told)) me h = inl (awake-left left (told_way told.reply) (told-awake told.reply) h)
  gone-left left u t (Next.creates who) me h = inl h
  gone-left left u t Next.starts me h = inl h
  gone-left left u t (Next.inherits who) me h = inl (closed.inherits who left h)
  gone-left left u t (Next.drops from) me h = inl (closed.drops from left h)
  gone-left left u t (Next.dooms from) me h = by (nat_lt (from + 1) THREADS)
    where
      by : (b : Bool) → IsGone P (Next.dooms from) (if b then Pending.Dooms (from + 1) ∷ [] else [])
      by true = inr (from + 1, refl, refl)
      by false = inl closed.short
  gone-left left u t (Next.enters script) me h = inl closed.short
  gone-left left u t Next.exits me h = inl (closed.ends _ _)
  gone-left left u t (Next.fatal reason) me h = fatal-gone reason u.image t me u.image.policy
  gone-left left u t Next.stays me h = absurd h

-- a step by which a call acts in a cell, resumes, or stops or goes on with a thread
abbrev pub is_asking : Pending → Bool
is_asking (Pending.Work a ask) = true
is_asking (Pending.Join who timeout) = true
is_asking (Pending.FutexWait a value timeout) = true
is_asking (Pending.Abort who) = true
is_asking (Pending.Suspend who) = true
is_asking (Pending.Continue who) = true
is_asking q = false

abbrev pub is_inner : Pending → Bool
is_inner Pending.Begin = false
is_inner Pending.Resume = false
is_inner q = not (is_asking q) && not (is_beside q)

-- Ways that don't wait.

either-awake : (b : Bool) (one two : Way) → is_awake one ≡ true → is_awake two ≡ true → is_awake (if b then one else two) ≡ true
either-awake true one two h k = h
either-awake false one two h k = k

copied-awake : (mode : Mode) (b : Bool) → is_awake (copied mode b) ≡ true
copied-awake mode true = refl
copied-awake Mode.User false = refl
copied-awake Mode.Supervisor false = refl

checked-awake : (mode : Mode) (refusal : Refusal) (v : Option Errno) → is_awake (checked_way mode refusal v) ≡ true
checked-awake mode refusal None = refl
checked-awake mode Refusal.Fails (Some e) = refl
checked-awake Mode.User Refusal.FailsUser (Some e) = refl
checked-awake Mode.Supervisor Refusal.FailsUser (Some e) = refl
checked-awake mode (Refusal.Answers reply) (Some e) = refl
checked-awake mode (Refusal.AnswersUninit reply) (Some Errno.EINVAL) = refl
checked-awake mode (Refusal.AnswersUninit reply) (Some e) = refl

text-awake : (found : Found) → is_awake (text_way found) ≡ true
text-awake (Found.Length n) = refl
text-awake Found.Unreadable = refl
text-awake Found.TooLong = refl

set-awake : (mode : Mode) (undo : Option Addr) (said : SetSaid) → is_awake (set_way mode undo said) ≡ true
set-awake mode None (SetSaid.Fail e) = refl
set-awake mode (Some a) (SetSaid.Fail e) = refl
set-awake mode undo said = refl

reserve-awake : (o : Option Addr) → is_awake (reserve_way o) ≡ true
reserve-awake None = refl
reserve-awake (Some a) = refl

-- Where one step is over, that neither begins a line nor asks nor stands beside the call, the same is known of the steps behind it.
module _ (P : Steps → Type 0) (m : State) (t x : ℕ) where
  pub inner-needs : (q : Pending) (rest : Steps) → is_inner q ≡ true → P rest → Needs P rest (next_of m t x q)
  inner-needs Pending.Begin rest inner h = absurd (false≢true inner)
  inner-needs Pending.Resume rest inner h = absurd (false≢true inner)
  inner-needs (Pending.Work a ask) rest inner h = absurd (false≢true inner)
  inner-needs (Pending.Join who timeout) rest inner h = absurd (false≢true inner)
  inner-needs (Pending.FutexWait a value timeout) rest inner h = absurd (false≢true inner)
  inner-needs (Pending.Abort who) rest inner h = absurd (false≢true inner)
  inner-needs (Pending.Suspend who) rest inner h = absurd (false≢true inner)
  inner-needs (Pending.Continue who) rest inner h = absurd (false≢true inner)
  inner-needs (Pending.CleanPair who) rest inner h = absurd (false≢true inner)
  inner-needs Pending.Recycle rest inner h = absurd (false≢true inner)
  inner-needs Pending.Left rest inner h = absurd (false≢true inner)
  inner-needs Pending.Tick rest inner h = absurd (false≢true inner)
  inner-needs (Pending.TimeOut who) rest inner h = absurd (false≢true inner)
  inner-needs Pending.Expire rest inner h = absurd (false≢true inner)
  inner-needs (Pending.Cut who) rest inner h = absurd (false≢true inner)
  inner-needs Pending.Exit rest inner h = tt
  inner-needs Pending.Killed rest inner h = tt
  inner-needs (Pending.Fatal reason cause) rest inner h = tt
  inner-needs (Pending.Dooms from) rest inner h = tt
  inner-needs (Pending.EnterUser script) rest inner h = tt
  inner-needs (Pending.Check a kind want refusal) rest inner h = (h, checked-awake (thread_at m t).mode refusal (verdict m t a.0 kind want))
  inner-needs (Pending.Load to a n) rest inner h = (h, either-awake (is_fault (T.act_of m t x (Pending.Load to a n))) no_access Way.rest refl refl)
  inner-needs (Pending.Store a n value) rest inner h = (h, either-awake (is_fault (T.act_of m t x (Pending.Store a n value))) no_access Way.rest refl refl)
  inner-needs (Pending.Fetch a) rest inner h = (h, either-awake (is_fault (T.act_of m t x (Pending.Fetch a))) no_access Way.rest refl refl)
  inner-needs (Pending.Probe a amount) rest inner h = (h, copied-awake (thread_at m t).mode (fits_in (T.act_of m t x (Pending.Probe a amount))))
  inner-needs (Pending.CopyIn a amount) rest inner h = (h, copied-awake (thread_at m t).mode (fits_in (T.act_of m t x (Pending.CopyIn a amount))))
  inner-needs (Pending.CopyOut a) rest inner h = (h, copied-awake (thread_at m t).mode (fits_in (T.act_of m t x (Pending.CopyOut a))))
  inner-needs (Pending.CopyStr a) rest inner h = (h, text-awake (string_read m t a.0 32))
  inner-needs (Pending.SetInit a strict undo) rest inner h = (h, set-awake (thread_at m t).mode undo (set_in (T.act_of m t x (Pending.SetInit a strict undo))))
  inner-needs (Pending.Reserve kind) rest inner h = (h, reserve-awake (reserved_in (T.act_of m t x (Pending.Reserve kind))))
  inner-needs (Pending.Buffer size) rest inner h = (h, either-awake (fits_in (T.act_of m t x (Pending.Buffer size))) Way.rest (Way.replies (Reply.Fail Errno.ENOMEM)) refl refl)
  inner-needs (Pending.Erase stack) rest inner h = (h, refl)
  inner-needs (Pending.Grant who a) rest inner h = (h, refl)
  inner-needs (Pending.DropPair who a) rest inner h = (h, refl)
  inner-needs (Pending.Publish a) rest inner h = (h, refl)
  inner-needs (Pending.Named who) rest inner h = (h, refl)
  inner-needs (Pending.Born a) rest inner h = (h, refl)
  inner-needs (Pending.Unbuffer size) rest inner h = (h, refl)
  inner-needs (Pending.DomInit d parts) rest inner h = (h, refl)
  inner-needs (Pending.DomAdd d range attr) rest inner h = (h, refl)
  inner-needs (Pending.DomRemove d range attr) rest inner h = (h, refl)
  inner-needs (Pending.DomMove d who) rest inner h = (h, refl)
  inner-needs (Pending.Arm ticks) rest inner h = (h, refl)
  inner-needs (Pending.ArmTimer ticks) rest inner h = (h, refl)
  inner-needs (Pending.FutexWake a all) rest inner h = (h, asked-awake (futex_refusal m t a.0))
    where
      asked-awake : (refusal : Option Errno) → is_awake (asked_way (wake_answer refusal (length (futex_woken m t a.0 all)))) ≡ true
      asked-awake None = refl
      asked-awake (Some e) = refl
  inner-needs q rest inner h = h
