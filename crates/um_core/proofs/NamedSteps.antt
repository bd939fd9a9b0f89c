-- A step that names a thread index names one that exists: calls name the threads of objects, and dooms count up to the last index.
use Rattle.std.proofs.Common.{◌≡◌, ℕ, ◌+◌, Bool, true, false, [], ◌∷◌, ◌++◌, Option, Some, None, refl}
use Rattle.std.specs.Prelude.{◌&&◌, ◌==◌, ℤ, if◌then◌else◌, nat_lt}
use Rattle.std.specs.List.{list_all}
use Rattle.um_base.specs.declared.act.Cause.{Cause}
use Rattle.um_base.specs.declared.ask.Ask.{Ask}
use Rattle.um_base.specs.declared.image.Image.{Image}
use Rattle.um_base.specs.declared.instr.Instr.{Instr}
use Rattle.um_base.specs.declared.instr.Options.{Options}
use Rattle.um_base.specs.declared.limits.TheConstants.{THREADS}
use Rattle.um_base.specs.declared.names.Errno.{Errno}
use Rattle.um_base.specs.declared.names.Kind.{Kind}
use Rattle.um_base.specs.declared.names.Mode.{Mode}
use Rattle.um_base.specs.declared.names.Policy.{Policy}
use Rattle.um_base.specs.declared.names.Reply.{Reply}
use Rattle.um_base.specs.declared.names.ThreadIx.{ThreadIx}
use Rattle.um_base.specs.declared.names.Timeout.{Timeout}
use Rattle.um_base.specs.Lawful.{IsLawful}
use Rattle.um_machine.specs.declared.pending.Pending.{Pending}
use Rattle.um_machine.specs.declared.thread.Thread.{Thread}
use Rattle.um_machine.specs.Order.{Steps, aborts, answer_error, answer_void, answer_zero, arms, buffered, creates, end_steps, fatal_steps, new_mode, privileged, steps_of, to_addr, to_row, to_thread, work}
use Rattle.um_machine.specs.State.{value_of}
use Rattle.um_machine.specs.Table as T
use Rattle.um_measure.proofs.IndexLemmas.{addr-below}

abbrev pub names_thread : Pending → Bool
names_thread (Pending.Own who) = nat_lt who.0 THREADS
names_thread (Pending.Named who) = nat_lt who.0 THREADS
names_thread (Pending.DomMove d who) = nat_lt who.0 THREADS
names_thread (Pending.Start who script stack priority mode) = nat_lt who.0 THREADS
names_thread (Pending.Abort who) = nat_lt who.0 THREADS
names_thread (Pending.Join who timeout) = nat_lt who.0 THREADS
names_thread (Pending.Suspend who) = nat_lt who.0 THREADS
names_thread (Pending.Continue who) = nat_lt who.0 THREADS
names_thread (Pending.Dooms from) = nat_lt from THREADS
names_thread q = true

abbrev pub AreNamed : Steps → Type 0
AreNamed steps = list_all names_thread steps ≡ true

privileged-named : (mode : Mode) (steps : Steps) → AreNamed steps → AreNamed (privileged mode steps)
privileged-named Mode.User steps h = refl
privileged-named Mode.Supervisor steps h = h

module _ (image : Image) (lawful : IsLawful image) where
  -- The steps of a line.

  init-named : (a : ℕ) (ask : Ask) (refused : Bool) → AreNamed (if refused then answer_error Errno.EINVAL else work a ask ∷ Pending.SetInit (to_addr a) false None ∷ answer_zero)
  init-named a ask true = refl
  init-named a ask false = refl

  buffered-named : (a : ℕ) (kind : Kind) (within : Bool) (size : ℕ) (ask : Ask) → AreNamed (buffered a kind within size ask)
  buffered-named a kind true size ask = refl
  buffered-named a kind false size ask = refl

  arms-named : (timeout : Timeout) (steps : Steps) → AreNamed steps → AreNamed (arms timeout steps)
  arms-named Timeout.NoWait steps h = h
  arms-named Timeout.Forever steps h = h
  arms-named (Timeout.Ticks n) steps h = h

  aborts-named : (t who : ℕ) → nat_lt who THREADS ≡ true → AreNamed (aborts t who)
  aborts-named t who h = λ i. h i && ends (who == t) i
    where
      ends : (itself : Bool) → AreNamed (if itself then Pending.Killed ∷ [] else answer_void)
      ends true = refl
      ends false = refl

  inherits-named : (b : Bool) (who : ThreadIx) (rest : Steps) → AreNamed rest → AreNamed ((if b then Pending.Inherit who ∷ [] else []) ++ rest)
  inherits-named true who rest h = h
  inherits-named false who rest h = h

  creates-named : (mode : Mode) (who stack a b script : ℕ) (priority : ℤ) (options : Options) (cause : Option Cause) → nat_lt who THREADS ≡ true
      → AreNamed (creates mode who stack a b script priority options cause)
  creates-named mode who stack a b script priority options (Some cause) h = refl
  creates-named mode who stack a b script priority options None h =
      λ i. h i && inherits-named options.inherit (to_thread who) (Pending.Start (to_thread who) script (to_row stack) priority (new_mode options) ∷ Pending.Answer (Some (Reply.At (to_addr a))) None ∷ []) (λ j. h j && true) i

  pub named-steps : (t : ℕ) (me : Thread) (instr : Instr) → AreNamed (steps_of image t me instr)
  named-steps t me Instr.Panic = refl
  named-steps t me (Instr.DomainInit domain parts) = privileged-named me.mode _ refl
  named-steps t me (Instr.DomainAdd domain part) = privileged-named me.mode _ refl
  named-steps t me (Instr.DomainRemove domain part) = privileged-named me.mode _ refl
  named-steps t me (Instr.DomainMove domain thread) = privileged-named me.mode _ (λ i. addr-below image lawful (value_of me.registers thread) i && true)
  named-steps t me (Instr.UserMode script) = privileged-named me.mode _ refl
  named-steps t me (Instr.AllGrant object) = privileged-named me.mode _ refl
  named-steps t me (Instr.Revoke object thread) = privileged-named me.mode _ refl
  named-steps t me (Instr.NameSet thread addr) = λ i. addr-below image lawful (value_of me.registers thread) i && true
  named-steps t me (Instr.Create thread stack size script priority options) = creates-named me.mode _ _ _ _ _ _ options _ (addr-below image lawful (value_of me.registers thread))
  named-steps t me (Instr.SemInit object count limit) = init-named _ _ _
  named-steps t me (Instr.MsgqInit object msg_size max_msgs) = buffered-named _ Kind.Msgq _ _ _
  named-steps t me (Instr.StackInit object entries) = buffered-named _ Kind.Stack _ _ _
  named-steps t me (Instr.PipeInit object size) = buffered-named _ Kind.Pipe _ _ _
  named-steps t me (Instr.SemTake object timeout) = arms-named timeout _ refl
  named-steps t me (Instr.MutexLock object timeout) = arms-named timeout _ refl
  named-steps t me (Instr.MsgqPut object addr timeout) = arms-named timeout _ refl
  named-steps t me (Instr.MsgqGet object addr timeout) = arms-named timeout _ refl
  named-steps t me (Instr.StackPop object addr timeout) = arms-named timeout _ refl
  named-steps t me (Instr.PipeWrite object addr length timeout) = arms-named timeout _ refl
  named-steps t me (Instr.PipeRead object addr length timeout) = arms-named timeout _ refl
  named-steps t me (Instr.FutexWait addr value timeout) = arms-named timeout _ refl
  named-steps t me (Instr.Abort thread) = aborts-named t _ (addr-below image lawful (value_of me.registers thread))
  named-steps t me (Instr.Join thread timeout) = arms-named timeout _ (λ i. addr-below image lawful (value_of me.registers thread) i && true)
  named-steps t me (Instr.Suspend thread) = λ i. addr-below image lawful (value_of me.registers thread) i && true
  named-steps t me (Instr.Continue thread) = λ i. addr-below image lawful (value_of me.registers thread) i && true
  named-steps t me instr = refl

-- Other steps that a call goes on with.

pub fatal-named : (image : Image) (t : ℕ) (me : Thread) (reason : ℕ) (policy : Policy) → AreNamed (fatal_steps image t me reason policy)
fatal-named image t me reason Policy.Halt = refl
fatal-named image t me reason Policy.Abort = by (reason == 4)
  where
    by : (b : Bool) → AreNamed (if b then Pending.Dooms 0 ∷ [] else end_steps image t me)
    by true = refl
    by false = refl

pub doom-named : (from : ℕ) → AreNamed (T.next_doom from)
doom-named from = by (nat_lt (from + 1) THREADS) refl
  where
    by : (b : Bool) → nat_lt (from + 1) THREADS ≡ b → AreNamed (if b then Pending.Dooms (from + 1) ∷ [] else [])
    by true e = λ i. e i && true
    by false e = refl
