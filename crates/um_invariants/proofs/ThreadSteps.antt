-- The steps of an instruction, and what is left of them after each step.
use Rattle.std.proofs.Common.{◌≡◌, ℕ, ◌*◌, Bool, true, false, ◌&&◌, ◌||◌, ◌==◌, ◌+◌, List, [], ◌∷◌, ◌++◌, refl, arith, Option, Some, None, ℤ, if◌then◌else◌, nat_lt, unwrap_or}
use Rattle.um_base.specs.declared.act.Cause.{Cause}
use Rattle.um_base.specs.declared.ask.Ask.{Ask}
use Rattle.um_base.specs.declared.image.Image.{Image}
use Rattle.um_base.specs.declared.instr.Instr.{Instr}
use Rattle.um_base.specs.declared.instr.Options.{Options}
use Rattle.um_base.specs.declared.names.Errno.{Errno}
use Rattle.um_base.specs.declared.names.Kind.{Kind}
use Rattle.um_base.specs.declared.names.Mode.{Mode}
use Rattle.um_base.specs.declared.names.Policy.{Policy}
use Rattle.um_base.specs.declared.names.ThreadIx.{ThreadIx}
use Rattle.um_base.specs.declared.names.Timeout.{Timeout}
use Rattle.um_base.specs.Lawful.{is_within}
use Rattle.um_base.specs.Places.{thread_of_addr}
use Rattle.um_machine.specs.declared.pending.Pending.{Pending}
use Rattle.um_machine.specs.declared.thread.Thread.{Thread}
use Rattle.um_machine.specs.Order.{Steps, to_addr, privileged, creates, steps_of, work, answer_void, answer_zero, answer_error, arms, buffered, end_steps, fatal_steps}
use Rattle.um_machine.specs.State.{value_of}
use Rattle.um_machine.specs.Goes.{Way, steps_by}
use Rattle.um_machine.proofs.WayLemmas.{HoldsOfWays, way-left}
use Rattle.um_invariants.proofs.ThreadWords.{are_plain, are_orderly, DueFrom}

plain-privileged : (mode : Mode) (steps : Steps) → are_plain steps ≡ true → are_plain (privileged mode steps) ≡ true
plain-privileged Mode.User steps h = refl
plain-privileged Mode.Supervisor steps h = h

plain-init : (a : ℕ) (ask : Ask) (refused : Bool) → are_plain (if refused then answer_error Errno.EINVAL else work a ask ∷ Pending.SetInit (to_addr a) false None ∷ answer_zero) ≡ true
plain-init a ask true = refl
plain-init a ask false = refl

plain-buffered : (a : ℕ) (kind : Kind) (lawful : Bool) (size : ℕ) (ask : Ask) → are_plain (buffered a kind lawful size ask) ≡ true
plain-buffered a kind true size ask = refl
plain-buffered a kind false size ask = refl

plain-inherit : (inherits : Bool) (who child : ThreadIx) (script : ℕ) (stack : _) (priority : ℤ) (mode : Mode) (rest : Steps) → are_plain rest ≡ true
    → are_plain ((if inherits then Pending.Inherit who ∷ [] else []) ++ Pending.Start child script stack priority mode ∷ rest) ≡ true
plain-inherit true who child script stack priority mode rest h = h
plain-inherit false who child script stack priority mode rest h = h

plain-creates : (mode : Mode) (who stack a b script : ℕ) (priority : ℤ) (options : Options) (cause : Option Cause) → are_plain (creates mode who stack a b script priority options cause) ≡ true
plain-creates mode who stack a b script priority options (Some cause) = refl
plain-creates mode who stack a b script priority options None = plain-inherit options.inherit _ _ _ _ _ _ _ refl

plain-arms : (timeout : Timeout) (steps : Steps) → are_plain steps ≡ true → are_plain (arms timeout steps) ≡ true
plain-arms Timeout.NoWait steps h = h
plain-arms Timeout.Forever steps h = h
plain-arms (Timeout.Ticks n) steps h = h

plain-aborts : (itself : Bool) → are_plain (if itself then Pending.Killed ∷ [] else answer_void) ≡ true
plain-aborts true = refl
plain-aborts false = refl

pub plain-steps : (image : Image) (t : ℕ) (me : Thread) (instr : Instr) → are_plain (steps_of image t me instr) ≡ true
plain-steps image t me (Instr.DomainInit domain parts) = plain-privileged me.mode _ refl
plain-steps image t me (Instr.DomainAdd domain part) = plain-privileged me.mode _ refl
plain-steps image t me (Instr.DomainRemove domain part) = plain-privileged me.mode _ refl
plain-steps image t me (Instr.UserMode script) = plain-privileged me.mode _ refl
plain-steps image t me (Instr.DomainMove domain thread) = plain-privileged me.mode _ refl
plain-steps image t me (Instr.AllGrant object) = plain-privileged me.mode _ refl
plain-steps image t me (Instr.Revoke object thread) = plain-privileged me.mode _ refl
plain-steps image t me (Instr.Create thread stack size script priority options) = plain-creates me.mode _ _ (value_of me.registers thread) _ _ _ options _
plain-steps image t me (Instr.SemInit object count limit) =
    let c = value_of me.registers count in
    let l = value_of me.registers limit in plain-init (value_of me.registers object) (Ask.SemInit c l) (l == 0 || nat_lt l c)
plain-steps image t me (Instr.MsgqInit object msg_size max_msgs) =
    let size = value_of me.registers msg_size in
    let most = value_of me.registers max_msgs in
    plain-buffered (value_of me.registers object) Kind.Msgq (is_within 1 256 size && is_within 1 64 most) (size * most) (Ask.MsgqInit size most (unwrap_or me.pool 0))
plain-steps image t me (Instr.StackInit object entries) =
    let most = value_of me.registers entries in
    plain-buffered (value_of me.registers object) Kind.Stack (is_within 1 64 most) (4 * most) (Ask.StackInit most (unwrap_or me.pool 0))
plain-steps image t me (Instr.PipeInit object size) =
    let most = value_of me.registers size in
    plain-buffered (value_of me.registers object) Kind.Pipe (is_within 1 256 most) most (Ask.PipeInit most (unwrap_or me.pool 0))
plain-steps image t me (Instr.SemTake object timeout) = plain-arms timeout _ refl
plain-steps image t me (Instr.MutexLock object timeout) = plain-arms timeout _ refl
plain-steps image t me (Instr.MsgqPut object addr timeout) = plain-arms timeout _ refl
plain-steps image t me (Instr.MsgqGet object addr timeout) = plain-arms timeout _ refl
plain-steps image t me (Instr.StackPop object addr timeout) = plain-arms timeout _ refl
plain-steps image t me (Instr.PipeWrite object addr length timeout) = plain-arms timeout _ refl
plain-steps image t me (Instr.PipeRead object addr length timeout) = plain-arms timeout _ refl
plain-steps image t me (Instr.Join thread timeout) = plain-arms timeout _ refl
plain-steps image t me (Instr.FutexWait addr value timeout) = plain-arms timeout _ refl
plain-steps image t me (Instr.Abort thread) = plain-aborts (thread_of_addr image (value_of me.registers thread) == t)
plain-steps image t me _ = refl

-- What is left.

plain-ways : HoldsOfWays (λ steps. are_plain steps ≡ true)
plain-ways = record { call = (λ a left h. h, λ left h. h, λ a left h. h); runs_to = λ a before deadline left h. h; replies = λ reply. refl; fails = λ reason cause. (refl, λ size. refl, λ a. refl) }

pub plain-way : (left : Steps) (way : Way) → are_plain left ≡ true → are_plain (steps_by left way) ≡ true
plain-way = way-left (λ steps. are_plain steps ≡ true) plain-ways

pub plain-dooms : (more : Bool) (from : ℕ) → are_plain (if more then Pending.Dooms (from + 1) ∷ [] else []) ≡ true
plain-dooms true from = refl
plain-dooms false from = refl

-- the steps of an end
abbrev pub IsEnd : Steps → Type 0
IsEnd steps = (are_orderly steps ≡ true) × ((due : List Bool) → DueFrom steps due)

pub end-orderly : (image : Image) (t : ℕ) (me : Thread) → IsEnd (end_steps image t me)
end-orderly image t me = (refl, λ due r h. omega arith)

abort-orderly : (image : Image) (t : ℕ) (me : Thread) (panics : Bool) → IsEnd (if panics then Pending.Dooms 0 ∷ [] else end_steps image t me)
abort-orderly image t me true = (refl, λ due. tt)
abort-orderly image t me false = end-orderly image t me

pub fatal-orderly : (image : Image) (t : ℕ) (me : Thread) (reason : ℕ) (policy : Policy) → IsEnd (fatal_steps image t me reason policy)
fatal-orderly image t me reason Policy.Halt = (refl, λ due. tt)
fatal-orderly image t me reason Policy.Abort = abort-orderly image t me (reason == 4)
