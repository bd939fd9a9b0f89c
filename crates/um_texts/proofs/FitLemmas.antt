-- The steps of each instruction, and those that follow what a step says, stand behind each other as they may.
use Rattle.std.proofs.Common.{◌≡◌, ℕ, ◌+◌, ◌*◌, Bool, true, false, ◌&&◌, ◌||◌, [], ◌∷◌, ◌++◌, refl, Option, Some, None, if◌then◌else◌}
use Rattle.std.specs.Prelude.{◌==◌, nat_lt, unwrap_or}
use Rattle.um_base.specs.declared.act.Cause.{Cause}
use Rattle.um_base.specs.declared.ask.Ask.{Ask}
use Rattle.um_base.specs.declared.image.Image.{Image}
use Rattle.um_base.specs.declared.instr.Instr.{Instr}
use Rattle.um_base.specs.declared.instr.Options.{Options}
use Rattle.um_base.specs.declared.names.Timeout.{Timeout}
use Rattle.um_base.specs.declared.names.Addr.{Addr}
use Rattle.um_base.specs.declared.names.Errno.{Errno}
use Rattle.um_base.specs.declared.limits.TheConstants.{THREADS}
use Rattle.um_base.specs.declared.names.Kind.{Kind}
use Rattle.um_base.specs.declared.names.Mode.{Mode}
use Rattle.um_base.specs.declared.names.Policy.{Policy}
use Rattle.um_base.specs.declared.names.Reply.{Reply}
use Rattle.um_base.specs.Lawful.{is_within}
use Rattle.um_base.specs.Places.{row_at, setup_at, thread_of_addr}
use Rattle.um_machine.specs.declared.pending.Pending.{Pending}
use Rattle.um_machine.specs.declared.thread.Thread.{Thread}
use Rattle.um_machine.specs.State.{value_of}
use Rattle.um_machine.specs.Order.{Steps, aborts, arms, to_addr, to_thread, to_row, answer_error, answer_void, answer_zero, work, buffered, privileged, creation_refusal, stack_declared, number_of, new_mode, creates, steps_of, end_steps, fatal_steps}
use Rattle.um_machine.specs.Goes.{next_doom}
use Rattle.um_machine.proofs.WayLemmas.{HoldsOfWays}
use Rattle.um_texts.proofs.IdentityLemmas.{has_own}
use Rattle.um_texts.proofs.StateLemmas.{are_fit}
use Rattle.um_texts.proofs.OwnLemmas.{IsSound, own_of_addr}

fit_if : (image : Image) (b : Bool) (xs ys : Steps) → are_fit image xs ≡ true → are_fit image ys ≡ true → are_fit image (if b then xs else ys) ≡ true
fit_if image true xs ys h k = h
fit_if image false xs ys h k = k

fit_privileged : (image : Image) (mode : Mode) (steps : Steps) → are_fit image steps ≡ true → are_fit image (privileged mode steps) ≡ true
fit_privileged image Mode.User steps h = refl
fit_privileged image Mode.Supervisor steps h = h

fit_inherit : (image : Image) (who script stack : ℕ) (priority : _) (mode : Mode) (addr : Addr) (inherits : Bool) → has_own image who ≡ true
    → are_fit image ((if inherits then Pending.Inherit (to_thread who) ∷ [] else []) ++ Pending.Start (to_thread who) script (to_row stack) priority mode ∷ Pending.Answer (Some (Reply.At addr)) None ∷ []) ≡ true
fit_inherit image who script stack priority mode addr true own = rw own refl
fit_inherit image who script stack priority mode addr false own = rw own refl

fit_creates : (image : Image) (mode : Mode) (who stack a b script : ℕ) (priority : _) (options : Options) (refusal : Option Cause) → has_own image who ≡ true
    → are_fit image (creates mode who stack a b script priority options refusal) ≡ true
fit_creates image mode who stack a b script priority options (Some cause) own = refl
fit_creates image mode who stack a b script priority options None own =
    rw own (fit_inherit image who script stack priority (new_mode options) (to_addr a) options.inherit own)

fit_buffered : (image : Image) (a : ℕ) (kind : Kind) (lawful : Bool) (size : ℕ) (ask : Ask) → are_fit image (buffered a kind lawful size ask) ≡ true
fit_buffered image a kind true size ask = refl
fit_buffered image a kind false size ask = refl

fit_sem : (image : Image) (x : ℕ) (ask : Ask) (wrong : Bool)
    → are_fit image (if wrong then answer_error Errno.EINVAL else work x ask ∷ Pending.SetInit (to_addr x) false None ∷ answer_zero) ≡ true
fit_sem image x ask true = refl
fit_sem image x ask false = refl

fit_arms : (image : Image) (timeout : Timeout) (steps : Steps) → are_fit image steps ≡ true → are_fit image (arms timeout steps) ≡ true
fit_arms image Timeout.NoWait steps h = h
fit_arms image Timeout.Forever steps h = h
fit_arms image (Timeout.Ticks n) steps h = h

fit_aborts : (image : Image) (t who : ℕ) → are_fit image (aborts t who) ≡ true
fit_aborts image t who = by-caller (who == t)
  where
    by-caller : (b : Bool) → are_fit image (if b then Pending.Killed ∷ [] else answer_void) ≡ true
    by-caller true = refl
    by-caller false = refl

pub fit_steps : (image : Image) → IsSound image → (t : ℕ) (me : Thread) (instr : Instr) → has_own image t ≡ true → are_fit image (steps_of image t me instr) ≡ true
fit_steps image sound t me (Instr.Set to value) own = refl
fit_steps image sound t me (Instr.Add to value) own = refl
fit_steps image sound t me (Instr.Load to addr size) own = refl
fit_steps image sound t me (Instr.Store addr size value) own = refl
fit_steps image sound t me (Instr.Exec addr) own = refl
fit_steps image sound t me Instr.Oops own = refl
fit_steps image sound t me Instr.Panic own = refl
fit_steps image sound t me (Instr.DomainInit domain parts) own = fit_privileged image me.mode _ refl
fit_steps image sound t me (Instr.DomainAdd domain part) own = fit_privileged image me.mode _ refl
fit_steps image sound t me (Instr.DomainRemove domain part) own = fit_privileged image me.mode _ refl
fit_steps image sound t me (Instr.DomainMove domain thread) own = fit_privileged image me.mode _ refl
fit_steps image sound t me (Instr.ObjectAlloc kind to) own = refl
fit_steps image sound t me (Instr.Grant object thread) own = refl
fit_steps image sound t me (Instr.Revoke object thread) own =
    let who = own_of_addr image sound (value_of me.registers thread) in fit_privileged image me.mode _ (rw who refl)
fit_steps image sound t me (Instr.Release object) own = rw own refl
fit_steps image sound t me (Instr.AllGrant object) own = fit_privileged image me.mode _ refl
fit_steps image sound t me (Instr.Create thread stack size script priority options) own =
    let a = value_of me.registers thread in
    let b = value_of me.registers stack in
    let row = unwrap_or (row_at image b) 0 in
    fit_creates image me.mode (thread_of_addr image a) row a b (number_of script) priority options
    (creation_refusal me.mode me.priority (stack_declared (setup_at image row)) (value_of me.registers size) priority options) (own_of_addr image sound a)
fit_steps image sound t me (Instr.UserMode script) own = fit_privileged image me.mode _ refl
fit_steps image sound t me (Instr.NameSet thread addr) own = refl
fit_steps image sound t me (Instr.SemInit object count limit) own =
    let c = value_of me.registers count in
    let l = value_of me.registers limit in fit_sem image (value_of me.registers object) (Ask.SemInit c l) (l == 0 || nat_lt l c)
fit_steps image sound t me (Instr.SemTake object timeout) own = fit_arms image timeout _ refl
fit_steps image sound t me (Instr.SemGive object) own = refl
fit_steps image sound t me (Instr.SemReset object) own = refl
fit_steps image sound t me (Instr.SemCount object to) own = refl
fit_steps image sound t me (Instr.MutexInit object) own = refl
fit_steps image sound t me (Instr.MutexLock object timeout) own = fit_arms image timeout _ refl
fit_steps image sound t me (Instr.MutexUnlock object) own = refl
fit_steps image sound t me (Instr.MsgqInit object msg_size max_msgs) own =
    let size = value_of me.registers msg_size in
    let most = value_of me.registers max_msgs in
    fit_buffered image (value_of me.registers object) Kind.Msgq (is_within 1 256 size && is_within 1 64 most) (size * most) (Ask.MsgqInit size most (unwrap_or me.pool 0))
fit_steps image sound t me (Instr.MsgqPut object addr timeout) own = fit_arms image timeout _ refl
fit_steps image sound t me (Instr.MsgqGet object addr timeout) own = fit_arms image timeout _ refl
fit_steps image sound t me (Instr.MsgqPeek object addr) own = refl
fit_steps image sound t me (Instr.MsgqPurge object) own = refl
fit_steps image sound t me (Instr.MsgqUsed object to) own = refl
fit_steps image sound t me (Instr.StackInit object entries) own =
    let most = value_of me.registers entries in
    fit_buffered image (value_of me.registers object) Kind.Stack (is_within 1 64 most) (4 * most) (Ask.StackInit most (unwrap_or me.pool 0))
fit_steps image sound t me (Instr.StackPush object value) own = refl
fit_steps image sound t me (Instr.StackPop object addr timeout) own = fit_arms image timeout _ refl
fit_steps image sound t me (Instr.PipeInit object size) own =
    let most = value_of me.registers size in
    fit_buffered image (value_of me.registers object) Kind.Pipe (is_within 1 256 most) most (Ask.PipeInit most (unwrap_or me.pool 0))
fit_steps image sound t me (Instr.PipeWrite object addr length timeout) own = fit_arms image timeout _ refl
fit_steps image sound t me (Instr.PipeRead object addr length timeout) own = fit_arms image timeout _ refl
fit_steps image sound t me (Instr.PipeReset object) own = refl
fit_steps image sound t me (Instr.PipeClose object) own = refl
fit_steps image sound t me (Instr.TimerStart object ticks) own = refl
fit_steps image sound t me (Instr.TimerStop object) own = refl
fit_steps image sound t me (Instr.TimerStatus object to) own = refl
fit_steps image sound t me (Instr.TimerSync object to) own = refl
fit_steps image sound t me (Instr.Abort thread) own = fit_aborts image t (thread_of_addr image (value_of me.registers thread))
fit_steps image sound t me (Instr.Join thread timeout) own = fit_arms image timeout _ refl
fit_steps image sound t me (Instr.Suspend thread) own = refl
fit_steps image sound t me (Instr.Continue thread) own = refl
fit_steps image sound t me (Instr.FutexWait addr value timeout) own = fit_arms image timeout _ refl
fit_steps image sound t me (Instr.FutexWake addr all) own = refl
fit_steps image sound t me Instr.End own = refl
fit_steps image sound t me (Instr.Repeat times) own = refl

-- what is left
pub fit_ways : (image : Image) → HoldsOfWays (λ (left : Steps). are_fit image left ≡ true)
fit_ways image = record { call = (λ a left h. h, λ left h. h, λ a left h. h); runs_to = λ a before deadline left h. h; replies = λ reply. refl; fails = λ reason cause. (refl, λ size. refl, λ a. refl) }

pub fit_fatal : (image : Image) (t : ℕ) (me : Thread) (reason : ℕ) (policy : Policy) → are_fit image (fatal_steps image t me reason policy) ≡ true
fit_fatal image t me reason Policy.Halt = refl
fit_fatal image t me reason Policy.Abort = fit_if image (reason == 4) (Pending.Dooms 0 ∷ []) (end_steps image t me) refl refl

pub fit_doom : (image : Image) (from : ℕ) → are_fit image (next_doom from) ≡ true
fit_doom image from = fit_if image (nat_lt (from + 1) THREADS) (Pending.Dooms (from + 1) ∷ []) [] refl refl
