-- The steps that are left of a call use and mark as message queues only what they know to be one: the object of an initialised queue that was
-- checked, or one that the call has just filled. Semaphores and mutexes are made of other objects, and so are names given. The steps of each
-- line are so.
use Rattle.um_base.specs.declared.names.Timeout.{Timeout}
use Rattle.um_machine.specs.Order.{aborts, answer_void, arms}
use Rattle.um_refinement.proofs.Words.{◌≡◌, ◌≢◌, ℕ, ◌*◌, Bool, true, false, [], ◌∷◌, ◌++◌, Option, Some, None, refl, sym, ap, ◌∙◌, ◌==◌, ◌&&◌, ◌||◌, ℤ, if◌then◌else◌, nat_lt, unwrap_or, false≢true, Cause, Ask, Image, Instr, Options, Addr, Errno, Kind, Mode, ThreadIx, Want, is_within, own_row, row_at, thread_of_addr, thread_of_row, Amount, Pending, Thread, has_kind, Steps, answer_error, answer_zero, buffered, creates, privileged, steps_of, to_addr, to_thread, work, value_of, IsSited, row_kind}
use Rattle.std.specs.Option.{option_and_then}

-- the row of a queue that a check has found to be initialised
abbrev pub queue_checked : Option Kind → Want → ℕ → Option ℕ
queue_checked (Some Kind.Msgq) Want.Init x = Some x
queue_checked kind want x = None

-- the row that is known to be a queue after an act on the object of a row
abbrev pub queue_filled : Ask → ℕ → Option ℕ → Option ℕ
queue_filled (Ask.MsgqInit size most pool) x known = Some x
queue_filled ask x known = known

-- an act that makes a queue is one on a row of queues, and one that makes a semaphore or a mutex isn't
abbrev pub Suited : Image → ℕ → Ask → Type 0
Suited image x (Ask.MsgqInit size most pool) = row_kind image x ≡ Kind.Msgq
Suited image x (Ask.SemInit count limit) = row_kind image x ≢ Kind.Msgq
Suited image x Ask.MutexInit = row_kind image x ≢ Kind.Msgq
Suited image x ask = Unit {0}

module _ (image : Image) where
  -- an address is that of the row that is known to be a queue
  abbrev pub IsKnownAt : Option ℕ → Addr → Type 0
  IsKnownAt known a = (x : ℕ) × (row_at image a.0 ≡ Some x) × (known ≡ Some x)

  -- steps of a call that knows this row to be a queue
  abbrev pub Queued : Option ℕ → Steps → Type 0
  Queued known [] = Unit {0}
  Queued known (Pending.Check a kind want refusal ∷ rest) =
      (x : ℕ) → row_at image a.0 ≡ Some x → has_kind kind (Some (row_kind image x)) ≡ true → Queued (queue_checked kind want x) rest
  Queued known (Pending.Probe a (Amount.MessageOf b) ∷ rest) = IsKnownAt known b × Queued known rest
  Queued known (Pending.CopyIn a (Amount.MessageOf b) ∷ rest) = IsKnownAt known b × Queued known rest
  Queued known (Pending.Work a ask ∷ rest) = (x : ℕ) × (row_at image a.0 ≡ Some x) × Suited image x ask × Queued (queue_filled ask x known) rest
  Queued known (Pending.SetInit a strict undo ∷ rest) = (x : ℕ) × (row_at image a.0 ≡ Some x) × (row_kind image x ≡ Kind.Msgq → known ≡ Some x) × Queued known rest
  Queued known (Pending.Named who ∷ rest) = (row_kind image (own_row image who.0) ≢ Kind.Msgq) × Queued known rest
  Queued known (Pending.Answer reply to ∷ rest) = Queued None rest
  Queued known (Pending.Start who script stack priority mode ∷ rest) = Queued None rest
  Queued known (Pending.Fatal reason cause ∷ rest) = Unit {0}
  Queued known (p ∷ rest) = Queued known rest

-- Kinds.

other-kind : (want k : Kind) → has_kind (Some want) (Some Kind.Msgq) ≡ false → has_kind (Some want) (Some k) ≡ true → k ≢ Kind.Msgq
other-kind want k apart found same = false≢true (sym apart ∙ (ap (λ (n : Kind). has_kind (Some want) (Some n)) (sym same) ∙ found))

pub queue-kind : (k : Kind) → has_kind (Some Kind.Msgq) (Some k) ≡ true → k ≡ Kind.Msgq
queue-kind Kind.Msgq h = refl
queue-kind _ h = absurd (false≢true h)

thread-kind : (k : Kind) → has_kind (Some Kind.Thread) (Some k) ≡ true → k ≡ Kind.Thread
thread-kind Kind.Thread h = refl
thread-kind _ h = absurd (false≢true h)

-- the thread object at an address is no queue
thread-row : (image : Image) → IsSited image → (a x : ℕ) → row_at image a ≡ Some x → has_kind (Some Kind.Thread) (Some (row_kind image x)) ≡ true
    → row_kind image (own_row image (thread_of_addr image a)) ≢ Kind.Msgq
thread-row image sited a x e h =
    let r = sited.threads x (sited.found a x e).0 (thread-kind (row_kind image x) h) in
    let who : thread_of_addr image a ≡ r.0 = ap (λ (o : Option ℕ). unwrap_or (option_and_then (thread_of_row image) o) 0) e ∙ ap (λ (o : Option ℕ). unwrap_or o 0) r.1 in
    let own : own_row image (thread_of_addr image a) ≡ x = ap (own_row image) who ∙ r.2 in
    λ same. other-kind Kind.Thread (row_kind image x) refl h (sym (ap (row_kind image) own) ∙ same)

-- The steps of a line.

module _ (image : Image) where
  -- after checks that are of no initialised queue
  queued-sem : (a x c l : ℕ) → row_at image a ≡ Some x → row_kind image x ≢ Kind.Msgq → (refused : Bool)
      → Queued image None (if refused then answer_error Errno.EINVAL else work a (Ask.SemInit c l) ∷ Pending.SetInit (to_addr a) false None ∷ answer_zero)
  queued-sem a x c l e other true = tt
  queued-sem a x c l e other false = (x, e, other, (x, e, (λ same. absurd (other same)), tt))

  -- a deadline is armed first, or none
  queued-arms : (known : Option ℕ) (timeout : Timeout) (steps : Steps) → Queued image known steps → Queued image known (arms timeout steps)
  queued-arms known Timeout.NoWait steps h = h
  queued-arms known (Timeout.Ticks ticks) steps h = h
  queued-arms known Timeout.Forever steps h = h

  queued-aborts : (known : Option ℕ) (t who : ℕ) → Queued image known (aborts t who)
  queued-aborts known t who =
      elim (who == t) as (λ b. Queued image known (Pending.Abort (to_thread who) ∷ (if b then Pending.Killed ∷ [] else answer_void))) [ true ↦ tt | false ↦ tt ]

  queued-inherit : (inherits : Bool) (who : ThreadIx) (rest : Steps) → Queued image None rest → Queued image None ((if inherits then Pending.Inherit who ∷ [] else []) ++ rest)
  queued-inherit true who rest h = h
  queued-inherit false who rest h = h

  queued-creates : (mode : Mode) (who stack a b script : ℕ) (priority : ℤ) (options : Options) (cause : Option Cause)
      → (x : ℕ) → row_at image a ≡ Some x → row_kind image x ≢ Kind.Msgq → (y : ℕ) → row_at image b ≡ Some y → row_kind image y ≢ Kind.Msgq
      → Queued image None (creates mode who stack a b script priority options cause)
  queued-creates mode who stack a b script priority options (Some cause) x e ne y f nf = tt
  queued-creates mode who stack a b script priority options None x e ne y f nf =
      (x, e, (λ same. absurd (ne same)), (y, f, (λ same. absurd (nf same)), queued-inherit options.inherit _ _ tt))

module _ (image : Image) (known : Option ℕ) where
  queued-privileged : (mode : Mode) (steps : Steps) → Queued image known steps → Queued image known (privileged mode steps)
  queued-privileged Mode.User steps h = tt
  queued-privileged Mode.Supervisor steps h = h

  queued-queue : (a size most pool : ℕ) (lawful : Bool) → Queued image known (buffered a Kind.Msgq lawful (size * most) (Ask.MsgqInit size most pool))
  queued-queue a size most pool true = λ x e k. (x, e, queue-kind (row_kind image x) k, (x, e, (λ same. refl), tt))
  queued-queue a size most pool false = λ x e k. tt

  queued-stack : (a most pool : ℕ) (lawful : Bool) → Queued image known (buffered a Kind.Stack lawful (4 * most) (Ask.StackInit most pool))
  queued-stack a most pool true = λ x e k. (x, e, tt, (x, e, (λ same. absurd (other-kind Kind.Stack (row_kind image x) refl k same)), tt))
  queued-stack a most pool false = λ x e k. tt

  queued-pipe : (a size pool : ℕ) (lawful : Bool) → Queued image known (buffered a Kind.Pipe lawful size (Ask.PipeInit size pool))
  queued-pipe a size pool true = λ x e k. (x, e, tt, (x, e, (λ same. absurd (other-kind Kind.Pipe (row_kind image x) refl k same)), tt))
  queued-pipe a size pool false = λ x e k. tt

  module _ (sited : IsSited image) (t : ℕ) (me : Thread) where
    pub queued-steps : (instr : Instr) → Queued image known (steps_of image t me instr)
    queued-steps (Instr.Set to value) = tt
    queued-steps (Instr.Add to value) = tt
    queued-steps (Instr.Load to addr size) = tt
    queued-steps (Instr.Store addr size value) = tt
    queued-steps (Instr.Exec addr) = tt
    queued-steps Instr.Oops = tt
    queued-steps Instr.Panic = tt
    queued-steps Instr.End = tt
    queued-steps (Instr.Repeat times) = tt
    queued-steps (Instr.ObjectAlloc kind to) = tt
    queued-steps (Instr.DomainInit domain parts) = queued-privileged me.mode _ tt
    queued-steps (Instr.DomainAdd domain part) = queued-privileged me.mode _ tt
    queued-steps (Instr.DomainRemove domain part) = queued-privileged me.mode _ tt
    queued-steps (Instr.UserMode script) = queued-privileged me.mode _ tt
    queued-steps (Instr.DomainMove domain thread) = queued-privileged me.mode _ (λ x e k. tt)
    queued-steps (Instr.AllGrant object) = queued-privileged me.mode _ (λ x e k. tt)
    queued-steps (Instr.Grant object thread) = λ y f l x e k. tt
    queued-steps (Instr.Revoke object thread) = queued-privileged me.mode _ (λ y f l x e k. tt)
    queued-steps (Instr.Release object) = λ x e k. tt
    queued-steps (Instr.Create thread stack size script priority options) =
        λ x e k y f l. queued-creates image me.mode _ _ _ _ _ _ options _ x e (other-kind Kind.Thread (row_kind image x) refl k) y f (other-kind Kind.ThreadStack (row_kind image y) refl l)
    queued-steps (Instr.NameSet thread addr) = λ x e k. (thread-row image sited (value_of me.registers thread) x e k, tt)
    queued-steps (Instr.SemInit object count limit) =
        let c = value_of me.registers count in
        let l = value_of me.registers limit in
        λ x e k. queued-sem image (value_of me.registers object) x c l e (other-kind Kind.Sem (row_kind image x) refl k) (l == 0 || nat_lt l c)
    queued-steps (Instr.MutexInit object) = λ x e k. (x, e, other-kind Kind.Mutex (row_kind image x) refl k, (x, e, (λ same. absurd (other-kind Kind.Mutex (row_kind image x) refl k same)), tt))
    queued-steps (Instr.MsgqInit object msg_size max_msgs) =
        let size = value_of me.registers msg_size in
        let most = value_of me.registers max_msgs in
        queued-queue (value_of me.registers object) size most (unwrap_or me.pool 0) (is_within 1 256 size && is_within 1 64 most)
    queued-steps (Instr.StackInit object entries) =
        let most = value_of me.registers entries in queued-stack (value_of me.registers object) most (unwrap_or me.pool 0) (is_within 1 64 most)
    queued-steps (Instr.PipeInit object size) =
        let most = value_of me.registers size in queued-pipe (value_of me.registers object) most (unwrap_or me.pool 0) (is_within 1 256 most)
    queued-steps (Instr.MsgqPut object addr timeout) = λ x e k. ((x, e, refl), queued-arms image (Some x) timeout _ (x, e, tt, tt))
    queued-steps (Instr.MsgqGet object addr timeout) = λ x e k. ((x, e, refl), queued-arms image (Some x) timeout _ (x, e, tt, tt))
    queued-steps (Instr.MsgqPeek object addr) = λ x e k. ((x, e, refl), (x, e, tt, tt))
    queued-steps (Instr.SemTake object timeout) = λ x e k. queued-arms image None timeout _ (x, e, tt, tt)
    queued-steps (Instr.MutexLock object timeout) = λ x e k. queued-arms image None timeout _ (x, e, tt, tt)
    queued-steps (Instr.StackPop object addr timeout) = λ x e k. queued-arms image None timeout _ (x, e, tt, tt)
    queued-steps (Instr.PipeWrite object addr length timeout) = λ x e k. queued-arms image None timeout _ (x, e, tt, tt)
    queued-steps (Instr.PipeRead object addr length timeout) = λ x e k. queued-arms image None timeout _ (x, e, tt, tt)
    queued-steps (Instr.Abort thread) = λ x e k. queued-aborts image None t _
    queued-steps (Instr.Join thread timeout) = λ x e k. queued-arms image None timeout _ tt
    queued-steps (Instr.Suspend thread) = λ x e k. tt
    queued-steps (Instr.Continue thread) = λ x e k. tt
    queued-steps (Instr.FutexWait addr value timeout) = queued-arms image known timeout _ tt
    queued-steps (Instr.FutexWake addr all) = tt
    queued-steps instr = λ x e k. (x, e, tt, tt)
