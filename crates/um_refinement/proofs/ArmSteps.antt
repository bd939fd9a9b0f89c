-- Deadlines of calls: a call arms one right before the act that it is for, and behind that act it makes no other before it ends. So where its last step
-- armed none, none is armed for the step that it makes next.
use Rattle.um_refinement.proofs.Words.{◌≡◌, ◌⊎◌, inl, inr, ℕ, Bool, true, false, [], ◌∷◌, ◌++◌, Option, Some, None, refl, ◌==◌, ℤ, if◌then◌else◌, Cause, Ask, Image, Instr, Options, Errno, Kind, Mode, ThreadIx, Pending, Thread, Steps, answer_error, answer_zero, buffered, creates, privileged, steps_of, to_addr, to_thread, work, HoldsOfWays}
use Rattle.um_base.specs.declared.names.Timeout.{Timeout}
use Rattle.um_machine.specs.Order.{aborts, answer_void, arms}
use Rattle.um_fine.specs.Places.{is_timer_start}
use Rattle.um_refinement.specs.Stops.{Ends}

-- an act, behind which the call ends
abbrev pub Acts : Steps → Type 0
Acts (Pending.Work a ask ∷ rest) = Ends rest
Acts (Pending.Join who timeout ∷ rest) = Ends rest
Acts (Pending.FutexWait a value timeout ∷ rest) = Ends rest
Acts steps = ⊥

-- the same, but no start of a timer
abbrev pub Waiting : Steps → Type 0
Waiting (Pending.Work a ask ∷ rest) = (is_timer_start ask ≡ false) × Ends rest
Waiting (Pending.Join who timeout ∷ rest) = Ends rest
Waiting (Pending.FutexWait a value timeout ∷ rest) = Ends rest
Waiting steps = ⊥

pub waiting-acts : (steps : Steps) → Waiting steps → Acts steps
waiting-acts (Pending.Work a ask ∷ rest) h = h.1
waiting-acts (Pending.Join who timeout ∷ rest) h = h
waiting-acts (Pending.FutexWait a value timeout ∷ rest) h = h
waiting-acts steps h = absurd h

-- the start of a timer, behind which the call ends
abbrev pub StartsTimer : Steps → Type 0
StartsTimer (Pending.Work a (Ask.TimerStart deadline) ∷ rest) = Ends rest
StartsTimer steps = ⊥

-- each deadline is armed right before its act, each timer starts behind one, and behind its act a call ends
abbrev pub Calm : Steps → Type 0
Calm [] = Unit {0}
Calm (Pending.Arm ticks ∷ rest) = Waiting rest
Calm (Pending.ArmTimer ticks ∷ rest) = StartsTimer rest
Calm (Pending.Work a ask ∷ rest) = (is_timer_start ask ≡ false) × Ends rest
Calm (Pending.Join who timeout ∷ rest) = Ends rest
Calm (Pending.FutexWait a value timeout ∷ rest) = Ends rest
Calm (q ∷ rest) = Calm rest

-- no deadline is armed for the next step of a call with this one
abbrev pub Unarmed : Option ℕ → Steps → Type 0
Unarmed until steps = ((until ≡ None) × Calm steps) ⊎ Ends steps

-- how the steps of a call stand to its deadline
abbrev pub Timed : Option ℕ → Steps → Type 0
Timed until steps = Unarmed until steps ⊎ Acts steps

-- each way to go on keeps that none is armed
pub unarmed-ways : (until : Option ℕ) → HoldsOfWays (Unarmed until)
unarmed-ways until =
    record {
      call = (λ a left h. h, λ left h. h, λ a left h. h);
      runs_to = λ a before deadline left h. h;
      replies = λ reply. inr refl;
      fails = λ reason cause. (inr tt, λ size. inr tt, λ a. inr tt);
    }

-- at rest no deadline is left
pub rests-unarmed : (until : Option ℕ) → Unarmed until [] → until ≡ None
rests-unarmed until (inl h) = h.0
rests-unarmed until (inr h) = absurd h

-- The steps of a line.

calm-arms : (timeout : Timeout) (steps : Steps) → Waiting steps → Calm steps → Calm (arms timeout steps)
calm-arms Timeout.NoWait steps acts h = h
calm-arms (Timeout.Ticks ticks) steps acts h = acts
calm-arms Timeout.Forever steps acts h = h

calm-privileged : (mode : Mode) (steps : Steps) → Calm steps → Calm (privileged mode steps)
calm-privileged Mode.User steps h = tt
calm-privileged Mode.Supervisor steps h = h

calm-init : (a : ℕ) (ask : Ask) → is_timer_start ask ≡ false → (refused : Bool)
    → Calm (if refused then answer_error Errno.EINVAL else work a ask ∷ Pending.SetInit (to_addr a) false None ∷ answer_zero)
calm-init a ask h true = tt
calm-init a ask h false = (h, refl)

calm-aborts : (t who : ℕ) → Calm (aborts t who)
calm-aborts t who = elim (who == t) as (λ b. Calm (Pending.Abort (to_thread who) ∷ (if b then Pending.Killed ∷ [] else answer_void))) [ true ↦ tt | false ↦ tt ]

calm-inherit : (inherits : Bool) (who : ThreadIx) (rest : Steps) → Calm rest → Calm ((if inherits then Pending.Inherit who ∷ [] else []) ++ rest)
calm-inherit true who rest h = h
calm-inherit false who rest h = h

calm-creates : (mode : Mode) (who stack a b script : ℕ) (priority : ℤ) (options : Options) (cause : Option Cause)
    → Calm (creates mode who stack a b script priority options cause)
calm-creates mode who stack a b script priority options (Some cause) = tt
calm-creates mode who stack a b script priority options None = calm-inherit options.inherit _ _ tt

calm-buffered : (a : ℕ) (kind : Kind) (lawful : Bool) (size : ℕ) (ask : Ask) → is_timer_start ask ≡ false → Calm (buffered a kind lawful size ask)
calm-buffered a kind true size ask h = (h, refl)
calm-buffered a kind false size ask h = tt

pub calm-steps : (image : Image) (t : ℕ) (me : Thread) (instr : Instr) → Calm (steps_of image t me instr)
calm-steps image t me (Instr.DomainInit domain parts) = calm-privileged me.mode _ tt
calm-steps image t me (Instr.DomainAdd domain part) = calm-privileged me.mode _ tt
calm-steps image t me (Instr.DomainRemove domain part) = calm-privileged me.mode _ tt
calm-steps image t me (Instr.DomainMove domain thread) = calm-privileged me.mode _ tt
calm-steps image t me (Instr.UserMode script) = calm-privileged me.mode _ tt
calm-steps image t me (Instr.AllGrant object) = calm-privileged me.mode _ tt
calm-steps image t me (Instr.Revoke object thread) = calm-privileged me.mode _ tt
calm-steps image t me Instr.Panic = calm-panic me.mode
  where
    calm-panic : (mode : Mode) → Calm (steps_of image t (record me { mode = mode }) Instr.Panic)
    calm-panic Mode.User = tt
    calm-panic Mode.Supervisor = tt
calm-steps image t me (Instr.Create thread stack size script priority options) = calm-creates me.mode _ _ _ _ _ _ options _
calm-steps image t me (Instr.SemInit object count limit) = calm-init _ (Ask.SemInit _ _) refl _
calm-steps image t me (Instr.MsgqInit object msg_size max_msgs) = calm-buffered _ Kind.Msgq _ _ _ refl
calm-steps image t me (Instr.StackInit object entries) = calm-buffered _ Kind.Stack _ _ _ refl
calm-steps image t me (Instr.PipeInit object size) = calm-buffered _ Kind.Pipe _ _ _ refl
calm-steps image t me (Instr.SemTake object timeout) = calm-arms timeout _ (refl, refl) (refl, refl)
calm-steps image t me (Instr.MutexLock object timeout) = calm-arms timeout _ (refl, refl) (refl, refl)
calm-steps image t me (Instr.MsgqPut object addr timeout) = calm-arms timeout _ (refl, refl) (refl, refl)
calm-steps image t me (Instr.MsgqGet object addr timeout) = calm-arms timeout _ (refl, refl) (refl, refl)
calm-steps image t me (Instr.StackPop object addr timeout) = calm-arms timeout _ (refl, refl) (refl, refl)
calm-steps image t me (Instr.PipeWrite object addr length timeout) = calm-arms timeout _ (refl, refl) (refl, refl)
calm-steps image t me (Instr.PipeRead object addr length timeout) = calm-arms timeout _ (refl, refl) (refl, refl)
calm-steps image t me (Instr.Abort thread) = calm-aborts t _
calm-steps image t me (Instr.Join thread timeout) = calm-arms timeout _ refl refl
calm-steps image t me (Instr.FutexWait addr value timeout) = calm-arms timeout _ refl refl
calm-steps image t me (Instr.TimerStart object ticks) = refl
calm-steps image t me (Instr.Set to value) = tt
calm-steps image t me (Instr.Add to value) = tt
calm-steps image t me (Instr.Load to addr size) = tt
calm-steps image t me (Instr.Store addr size value) = tt
calm-steps image t me (Instr.Exec addr) = tt
calm-steps image t me Instr.Oops = tt
calm-steps image t me Instr.End = tt
calm-steps image t me (Instr.Repeat times) = tt
calm-steps image t me (Instr.ObjectAlloc kind to) = tt
calm-steps image t me (Instr.Grant object thread) = tt
calm-steps image t me (Instr.Release object) = tt
calm-steps image t me (Instr.NameSet thread addr) = tt
calm-steps image t me (Instr.Suspend thread) = tt
calm-steps image t me (Instr.Continue thread) = tt
calm-steps image t me (Instr.FutexWake addr all) = tt
calm-steps image t me _ = (refl, refl)
