-- By which steps of a call the object of a thread is initialised: a creation marks it, and then starts that thread, or clears the mark again. No other call
-- marks an object of that kind.
use Rattle.std.specs.Option.{option_and_then}
use Rattle.std.specs.Prelude.{◌==◌, if◌then◌else◌, unwrap_or, ℤ}
use Rattle.std.proofs.Common.{◌≡◌, ℕ, Bool, true, false, [], ◌∷◌, ◌++◌, Option, Some, None, refl, sym, ap, ◌∙◌}
use Rattle.std.proofs.lemmas.Bool.{false≢true}
use Rattle.um_base.specs.Places.{own_row, row_at, thread_of_addr, thread_of_row}
use Rattle.um_base.specs.declared.act.Cause.{Cause}
use Rattle.um_base.specs.declared.ask.Ask.{Ask}
use Rattle.um_base.specs.declared.image.Image.{Image}
use Rattle.um_base.specs.declared.instr.Instr.{Instr}
use Rattle.um_base.specs.declared.instr.Options.{Options}
use Rattle.um_base.specs.declared.names.Errno.{Errno}
use Rattle.um_base.specs.declared.names.Kind.{Kind}
use Rattle.um_base.specs.declared.names.Mode.{Mode}
use Rattle.um_base.specs.declared.names.Reply.{Reply}
use Rattle.um_base.specs.declared.names.ThreadIx.{ThreadIx}
use Rattle.um_base.specs.declared.names.Timeout.{Timeout}
use Rattle.um_machine.specs.Objects.{has_kind}
use Rattle.um_machine.specs.Order.{Steps, answer_error, answer_zero, answer_void, arms, buffered, creates, privileged, aborts, steps_of, to_addr, to_thread, work, to_row, new_mode}
use Rattle.um_machine.specs.State.{value_of}
use Rattle.um_machine.specs.declared.pending.Pending.{Pending}
use Rattle.um_machine.specs.declared.thread.Thread.{Thread}
use Rattle.um_invariants.proofs.Guards.{row_kind, IsSited}
use Rattle.um_fine.specs.Addresses.{row_named}
use Rattle.um_refinement.specs.Stops.{HasOwn}

-- a thread with an object of its own, which is of that kind
abbrev pub IsThread : Image → ℕ → Type 0
IsThread image w = HasOwn image w × (row_kind image (own_row image w) ≡ Kind.Thread)

-- the rest of a creation, behind the mark on the object of this thread
abbrev pub Makes : Image → ℕ → Steps → Type 0
Makes image w (Pending.SetInit b strict (Some a) ∷ rest) = (row_at image a.0 ≡ Some (own_row image w)) × Makes image w rest
Makes image w (Pending.Erase stack ∷ rest) = Makes image w rest
Makes image w (Pending.Own who ∷ rest) = Makes image w rest
Makes image w (Pending.Inherit who ∷ rest) = Makes image w rest
Makes image w (Pending.Start who script stack priority mode ∷ rest) = who.0 ≡ w
Makes image w steps = ⊥

-- the next step but a visit clears the mark on the object of this thread
abbrev pub Clears : Image → ℕ → Steps → Type 0
Clears image w (Pending.ClearInit a ∷ rest) = row_named image a ≡ own_row image w
Clears image w (Pending.Drops from ∷ rest) = Clears image w rest
Clears image w (Pending.Inherit who ∷ rest) = Clears image w rest
Clears image w steps = ⊥

-- what a call marks, and which threads it joins
abbrev pub Inits : Image → Steps → Type 0
Inits image [] = Unit {0}
Inits image (Pending.Check a kind want refusal ∷ rest) = (x : ℕ) → row_at image a.0 ≡ Some x → has_kind kind (Some (row_kind image x)) ≡ true → Inits image rest
Inits image (Pending.SetInit a strict undo ∷ rest) = ((w : ℕ) → IsThread image w → row_at image a.0 ≡ Some (own_row image w) → Makes image w rest) × Inits image rest
Inits image (Pending.Join who timeout ∷ rest) = (row_kind image (own_row image who.0) ≡ Kind.Thread) × Inits image rest
Inits image (q ∷ rest) = Inits image rest

-- The steps of a line.

other-kind : (want k : Kind) → has_kind (Some want) (Some Kind.Thread) ≡ false → has_kind (Some want) (Some k) ≡ true → k ≡ Kind.Thread → ⊥
other-kind want k apart found same = false≢true (sym apart ∙ (ap (λ (n : Kind). has_kind (Some want) (Some n)) (sym same) ∙ found))

thread-kind : (k : Kind) → has_kind (Some Kind.Thread) (Some k) ≡ true → k ≡ Kind.Thread
thread-kind Kind.Thread h = refl
thread-kind _ h = absurd (false≢true h)

same-row : (x y : ℕ) (o : Option ℕ) → o ≡ Some x → o ≡ Some y → x ≡ y
same-row x y o h k = ap (λ (z : Option ℕ). unwrap_or z x) (sym h ∙ k)

module _ (image : Image) where
  -- an object of another kind is of no thread
  apart-marks : (want : Kind) → has_kind (Some want) (Some Kind.Thread) ≡ false → (a x : ℕ) → row_at image a ≡ Some x → has_kind (Some want) (Some (row_kind image x)) ≡ true → {A : Type 0}
      → (w : ℕ) → IsThread image w → row_at image a ≡ Some (own_row image w) → A
  apart-marks want apart a x e k {A} w thread at =
      absurd (other-kind want (row_kind image x) apart k (ap (row_kind image) (same-row x (own_row image w) (row_at image a) e at) ∙ thread.1))

  inits-arms : (timeout : Timeout) (steps : Steps) → Inits image steps → Inits image (arms timeout steps)
  inits-arms Timeout.NoWait steps h = h
  inits-arms (Timeout.Ticks ticks) steps h = h
  inits-arms Timeout.Forever steps h = h

  inits-privileged : (mode : Mode) (steps : Steps) → Inits image steps → Inits image (privileged mode steps)
  inits-privileged Mode.User steps h = tt
  inits-privileged Mode.Supervisor steps h = h

  inits-mark : (want : Kind) → has_kind (Some want) (Some Kind.Thread) ≡ false → (a x : ℕ) → row_at image a ≡ Some x → has_kind (Some want) (Some (row_kind image x)) ≡ true → (ask : Ask)
      → Inits image (work a ask ∷ Pending.SetInit (to_addr a) false None ∷ answer_zero)
  inits-mark want apart a x e k ask = (λ w thread at. apart-marks want apart a x e k w thread at, tt)

  inits-init : (want : Kind) → has_kind (Some want) (Some Kind.Thread) ≡ false → (a x : ℕ) → row_at image a ≡ Some x → has_kind (Some want) (Some (row_kind image x)) ≡ true → (ask : Ask) (refused : Bool)
      → Inits image (if refused then answer_error Errno.EINVAL else work a ask ∷ Pending.SetInit (to_addr a) false None ∷ answer_zero)
  inits-init want apart a x e k ask true = tt
  inits-init want apart a x e k ask false = inits-mark want apart a x e k ask

  inits-buffered : (want : Kind) → has_kind (Some want) (Some Kind.Thread) ≡ false → (a : ℕ) (lawful : Bool) (size : ℕ) (ask : Ask) → Inits image (buffered a want lawful size ask)
  inits-buffered want apart a true size ask = λ x e k. inits-mark want apart a x e k ask
  inits-buffered want apart a false size ask = λ x e k. tt

  inits-aborts : (t who : ℕ) → Inits image (aborts t who)
  inits-aborts t who = elim (who == t) as (λ b. Inits image (Pending.Abort (to_thread who) ∷ (if b then Pending.Killed ∷ [] else answer_void))) [ true ↦ tt | false ↦ tt ]

  -- the thread whose object is at an address
  whose : (a x w : ℕ) → row_at image a ≡ Some x → HasOwn image w → x ≡ own_row image w → thread_of_addr image a ≡ w
  whose a x w e own same =
      ap (λ (o : Option ℕ). unwrap_or (option_and_then (thread_of_row image) o) 0) e ∙ ap (λ (o : Option ℕ). unwrap_or o 0) (ap (thread_of_row image) same ∙ own)

  inits-creates : (mode : Mode) (a b x y stack script : ℕ) (priority : ℤ) (options : Options) (cause : Option Cause) → row_at image a ≡ Some x → row_at image b ≡ Some y
      → has_kind (Some Kind.ThreadStack) (Some (row_kind image y)) ≡ true → Inits image (creates mode (thread_of_addr image a) stack a b script priority options cause)
  inits-creates mode a b x y stack script priority options (Some cause) e f k = tt
  inits-creates mode a b x y stack script priority options None e f k = (
    λ w thread at. (at, started options.inherit w (whose a x w e thread.0 (same-row x (own_row image w) (row_at image a) e at))),
    (λ w thread at. apart-marks Kind.ThreadStack refl b y f k w thread at, inherited options.inherit),
  )
    where
      who : ThreadIx
      who = to_thread (thread_of_addr image a)

      behind : Steps
      behind = Pending.Start who script (to_row stack) priority (new_mode options) ∷ Pending.Answer (Some (Reply.At (to_addr a))) None ∷ []

      started : (b : Bool) (w : ℕ) → thread_of_addr image a ≡ w → Makes image w ((if b then Pending.Inherit who ∷ [] else []) ++ behind)
      started true w h = h
      started false w h = h

      inherited : (b : Bool) → Inits image ((if b then Pending.Inherit who ∷ [] else []) ++ behind)
      inherited true = tt
      inherited false = tt

  module _ (sited : IsSited image) (t : ℕ) (me : Thread) where
    joined : (a x : ℕ) → row_at image a ≡ Some x → has_kind (Some Kind.Thread) (Some (row_kind image x)) ≡ true → row_kind image (own_row image (thread_of_addr image a)) ≡ Kind.Thread
    joined a x e k =
        let kind = thread-kind (row_kind image x) k in
        let r = sited.threads x (sited.found a x e).0 kind in
        let who : thread_of_addr image a ≡ r.0 = ap (λ (o : Option ℕ). unwrap_or (option_and_then (thread_of_row image) o) 0) e ∙ ap (λ (o : Option ℕ). unwrap_or o 0) r.1 in
        ap (row_kind image) (ap (own_row image) who ∙ r.2) ∙ kind

    pub inits-steps : (instr : Instr) → Inits image (steps_of image t me instr)
    inits-steps (Instr.Set to value) = tt
    inits-steps (Instr.Add to value) = tt
    inits-steps (Instr.Load to addr size) = tt
    inits-steps (Instr.Store addr size value) = tt
    inits-steps (Instr.Exec addr) = tt
    inits-steps Instr.Oops = tt
    inits-steps Instr.Panic = by me.mode
      where
        by : (mode : Mode) → Inits image (steps_of image t (record me { mode = mode }) Instr.Panic)
        by Mode.User = tt
        by Mode.Supervisor = tt
    inits-steps Instr.End = tt
    inits-steps (Instr.Repeat times) = tt
    inits-steps (Instr.ObjectAlloc kind to) = tt
    inits-steps (Instr.DomainInit domain parts) = inits-privileged me.mode _ tt
    inits-steps (Instr.DomainAdd domain part) = inits-privileged me.mode _ tt
    inits-steps (Instr.DomainRemove domain part) = inits-privileged me.mode _ tt
    inits-steps (Instr.DomainMove domain thread) = inits-privileged me.mode _ (λ x e k. tt)
    inits-steps (Instr.UserMode script) = inits-privileged me.mode _ tt
    inits-steps (Instr.AllGrant object) = inits-privileged me.mode _ (λ x e k. tt)
    inits-steps (Instr.Grant object thread) = λ y f l x e k. tt
    inits-steps (Instr.Revoke object thread) = inits-privileged me.mode _ (λ y f l x e k. tt)
    inits-steps (Instr.Release object) = λ x e k. tt
    inits-steps (Instr.Create thread stack size script priority options) =
        λ x e k y f l. inits-creates me.mode (value_of me.registers thread) (value_of me.registers stack) x y _ _ priority options _ e f l
    inits-steps (Instr.NameSet thread addr) = λ x e k. tt
    inits-steps (Instr.SemInit object count limit) = λ x e k. inits-init Kind.Sem refl (value_of me.registers object) x e k (Ask.SemInit _ _) _
    inits-steps (Instr.MutexInit object) = λ x e k. inits-mark Kind.Mutex refl (value_of me.registers object) x e k Ask.MutexInit
    inits-steps (Instr.MsgqInit object msg_size max_msgs) = inits-buffered Kind.Msgq refl (value_of me.registers object) _ _ _
    inits-steps (Instr.StackInit object entries) = inits-buffered Kind.Stack refl (value_of me.registers object) _ _ _
    inits-steps (Instr.PipeInit object size) = inits-buffered Kind.Pipe refl (value_of me.registers object) _ _ _
    inits-steps (Instr.SemTake object timeout) = λ x e k. inits-arms timeout _ tt
    inits-steps (Instr.MutexLock object timeout) = λ x e k. inits-arms timeout _ tt
    inits-steps (Instr.MsgqPut object addr timeout) = λ x e k. inits-arms timeout _ tt
    inits-steps (Instr.MsgqGet object addr timeout) = λ x e k. inits-arms timeout _ tt
    inits-steps (Instr.StackPop object addr timeout) = λ x e k. inits-arms timeout _ tt
    inits-steps (Instr.PipeWrite object addr length timeout) = λ x e k. inits-arms timeout _ tt
    inits-steps (Instr.PipeRead object addr length timeout) = λ x e k. inits-arms timeout _ tt
    inits-steps (Instr.Abort thread) = λ x e k. inits-aborts t _
    inits-steps (Instr.Join thread timeout) = λ x e k. inits-arms timeout _ (joined (value_of me.registers thread) x e k, tt)
    inits-steps (Instr.Suspend thread) = λ x e k. tt
    inits-steps (Instr.Continue thread) = λ x e k. tt
    inits-steps (Instr.FutexWait addr value timeout) = inits-arms timeout _ tt
    inits-steps (Instr.FutexWake addr all) = tt
    inits-steps _ = λ x e k. tt
