-- The steps that are left of a call name a new thread in order: the permission on its own object, what it inherits, and its start; and between
-- them that thread is the child of the one that makes it.
use Rattle.um_base.specs.declared.names.Timeout.{Timeout}
use Rattle.um_machine.specs.Order.{aborts, answer_void, arms}
use Rattle.um_refinement.proofs.Words.{◌≡◌, ℕ, Bool, true, false, [], ◌∷◌, ◌++◌, Option, Some, None, refl, ◌==◌, ℤ, if◌then◌else◌, Cause, Ask, Image, Instr, Options, Errno, Kind, Mode, Row, ThreadIx, Pending, Thread, Steps, answer_error, answer_zero, buffered, creates, privileged, steps_of, to_addr, to_thread, work}

-- behind the permission on its own object a new thread inherits, or is started; and nowhere else
abbrev pub InOrder : Steps → Type 0
InOrder [] = Unit {0}
InOrder (Pending.Own v ∷ Pending.Inherit w ∷ Pending.Start u script stack priority mode ∷ rest) = (w ≡ v) × (u ≡ v) × InOrder rest
InOrder (Pending.Own v ∷ Pending.Start u script stack priority mode ∷ rest) = (u ≡ v) × InOrder rest
InOrder (Pending.Own v ∷ rest) = ⊥
InOrder (Pending.Inherit w ∷ rest) = ⊥
InOrder (Pending.Start u script stack priority mode ∷ rest) = ⊥
InOrder (q ∷ rest) = InOrder rest

-- the child of a thread with these steps left
abbrev pub Creates : Option ThreadIx → Steps → Type 0
Creates child (Pending.Inherit w ∷ Pending.Start u script stack priority mode ∷ rest) = (child ≡ Some w) × (u ≡ w) × InOrder rest
Creates child (Pending.Inherit w ∷ rest) = ⊥
Creates child (Pending.Start u script stack priority mode ∷ rest) = (child ≡ Some u) × InOrder rest
Creates child steps = (child ≡ None) × InOrder steps

-- steps in order that a thread without a child goes on with
pub goes-in-order : (child : Option ThreadIx) (steps : Steps) → child ≡ None → InOrder steps → Creates child steps
goes-in-order child [] e h = (e, h)
goes-in-order child (Pending.Inherit w ∷ rest) e h = absurd h
goes-in-order child (Pending.Start u script stack priority mode ∷ rest) e h = absurd h
goes-in-order child (q ∷ rest) e h = (e, h)

order-privileged : (mode : Mode) (steps : Steps) → InOrder steps → InOrder (privileged mode steps)
order-privileged Mode.User steps h = tt
order-privileged Mode.Supervisor steps h = h

order-init : (a : ℕ) (ask : Ask) (refused : Bool) → InOrder (if refused then answer_error Errno.EINVAL else work a ask ∷ Pending.SetInit (to_addr a) false None ∷ answer_zero)
order-init a ask true = tt
order-init a ask false = tt

order-buffered : (a : ℕ) (kind : Kind) (lawful : Bool) (size : ℕ) (ask : Ask) → InOrder (buffered a kind lawful size ask)
order-buffered a kind true size ask = tt
order-buffered a kind false size ask = tt

order-arms : (timeout : Timeout) (steps : Steps) → InOrder steps → InOrder (arms timeout steps)
order-arms Timeout.NoWait steps h = h
order-arms (Timeout.Ticks ticks) steps h = h
order-arms Timeout.Forever steps h = h

order-aborts : (t who : ℕ) → InOrder (aborts t who)
order-aborts t who = elim (who == t) as (λ b. InOrder (Pending.Abort (to_thread who) ∷ (if b then Pending.Killed ∷ [] else answer_void))) [ true ↦ tt | false ↦ tt ]

order-inherit : (inherits : Bool) (who : ThreadIx) (script : ℕ) (stack : Row) (priority : ℤ) (mode : Mode) (rest : Steps) → InOrder rest
    → InOrder (Pending.Own who ∷ ((if inherits then Pending.Inherit who ∷ [] else []) ++ Pending.Start who script stack priority mode ∷ rest))
order-inherit true who script stack priority mode rest h = (refl, refl, h)
order-inherit false who script stack priority mode rest h = (refl, h)

order-creates : (mode : Mode) (who stack a b script : ℕ) (priority : ℤ) (options : Options) (cause : Option Cause) → InOrder (creates mode who stack a b script priority options cause)
order-creates mode who stack a b script priority options (Some cause) = tt
order-creates mode who stack a b script priority options None = order-inherit options.inherit _ _ _ _ _ _ tt

module _ (image : Image) (t : ℕ) (me : Thread) where
  pub order-steps : (instr : Instr) → InOrder (steps_of image t me instr)
  order-steps (Instr.DomainInit domain parts) = order-privileged me.mode _ tt
  order-steps (Instr.DomainAdd domain part) = order-privileged me.mode _ tt
  order-steps (Instr.DomainRemove domain part) = order-privileged me.mode _ tt
  order-steps (Instr.DomainMove domain thread) = order-privileged me.mode _ tt
  order-steps (Instr.UserMode script) = order-privileged me.mode _ tt
  order-steps (Instr.AllGrant object) = order-privileged me.mode _ tt
  order-steps (Instr.Revoke object thread) = order-privileged me.mode _ tt
  order-steps (Instr.Create thread stack size script priority options) = order-creates me.mode _ _ _ _ _ _ options _
  order-steps (Instr.SemInit object count limit) = order-init _ _ _
  order-steps (Instr.MsgqInit object msg_size max_msgs) = order-buffered _ Kind.Msgq _ _ _
  order-steps (Instr.StackInit object entries) = order-buffered _ Kind.Stack _ _ _
  order-steps (Instr.PipeInit object size) = order-buffered _ Kind.Pipe _ _ _
  order-steps (Instr.SemTake object timeout) = order-arms timeout _ tt
  order-steps (Instr.MutexLock object timeout) = order-arms timeout _ tt
  order-steps (Instr.MsgqPut object addr timeout) = order-arms timeout _ tt
  order-steps (Instr.MsgqGet object addr timeout) = order-arms timeout _ tt
  order-steps (Instr.StackPop object addr timeout) = order-arms timeout _ tt
  order-steps (Instr.PipeWrite object addr length timeout) = order-arms timeout _ tt
  order-steps (Instr.PipeRead object addr length timeout) = order-arms timeout _ tt
  order-steps (Instr.Join thread timeout) = order-arms timeout _ tt
  order-steps (Instr.FutexWait addr value timeout) = order-arms timeout _ tt
  order-steps (Instr.Abort thread) = order-aborts t _
  order-steps instr = tt
