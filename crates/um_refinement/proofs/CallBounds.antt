-- What bounds a call: it holds two objects at most, a load is of four bytes at most, and the stack of a thread is one of the image's objects, so
-- that its row is never free. The steps of each line of a lawful image keep within these bounds.
use Rattle.um_base.specs.declared.names.Timeout.{Timeout}
use Rattle.um_machine.specs.Order.{aborts, answer_void, arms}
use Rattle.um_refinement.proofs.Words.{◌≡◌, ℕ, zero, suc, ◌+◌, ◌*◌, ◌-◌, ◌<◌, ◌≤◌, Bool, true, false, List, [], ◌∷◌, ◌++◌, length, Option, Some, None, refl, sym, ap, ◌∙◌, subst, arith, ◌==◌, ◌&&◌, ◌||◌, ℤ, if◌then◌else◌, is_some, nat_lt, slice_get, unwrap_or, and_parts, eqb-true, false≢true, Cause, Ask, Image, ObjectDef, Instr, Options, STATIC_ROWS, Addr, Errno, Kind, Mode, ThreadIx, is_lawful_line, is_within, row_at, Pending, Thread, has_kind, Steps, answer_error, answer_zero, buffered, creates, privileged, steps_of, to_addr, to_thread, work, value_of, kind_in, row_kind, row_named, is_size, dynamic_kind_at}

module _ (image : Image) where
  -- the mark that is cleared first at the end of a thread is that of one of the image's objects
  abbrev pub Clears : Addr → Steps → Type 0
  Clears a (Pending.ClearInit b ∷ rest) = row_named image a < length image.objects
  Clears a rest = Unit {0}

  -- the steps that are left of a call which holds so many objects
  abbrev pub Bounded : ℕ → Steps → Type 0
  Bounded n [] = n ≤ 2
  Bounded n (Pending.Begin ∷ rest) = ⊥
  Bounded n (Pending.Check a kind want refusal ∷ rest) =
      (n < 2) × ((x : ℕ) → row_at image a.0 ≡ Some x → has_kind kind (Some (row_kind image x)) ≡ true → Bounded (n + 1) rest)
  Bounded n (Pending.Load to a size ∷ rest) = (size ≤ 4) × Bounded n rest
  Bounded n (Pending.Start who script stack priority mode ∷ rest) = (stack.0 < length image.objects) × Bounded n rest
  Bounded n (Pending.Answer reply to ∷ rest) = (n ≤ 2) × (rest ≡ [])
  Bounded n (Pending.ClearInit a ∷ rest) = Clears a rest × Bounded n rest
  Bounded n (p ∷ rest) = Bounded n rest

  -- it holds two objects at most
  pub bounded-few : (n : ℕ) (steps : Steps) → Bounded n steps → n ≤ 2
  bounded-few n [] h = h
  bounded-few n (Pending.Begin ∷ rest) h = absurd h
  bounded-few n (Pending.Check a kind want refusal ∷ rest) h = let l = h.0 in omega (arith, l)
  bounded-few n (Pending.Load to a size ∷ rest) h = bounded-few n rest h.1
  bounded-few n (Pending.Start who script stack priority mode ∷ rest) h = bounded-few n rest h.1
  bounded-few n (Pending.Answer reply to ∷ rest) h = h.0
  bounded-few n (Pending.ClearInit a ∷ rest) h = bounded-few n rest h.1
  bounded-few n (p ∷ rest) h = bounded-few n rest h

-- A stack is one of the image's objects.

pub get-inside : (os : List ObjectDef) (x : ℕ) (o : ObjectDef) → slice_get os x ≡ Some o → x < length os
get-inside [] x o e = absurd (false≢true (ap is_some e))
get-inside (d ∷ os) zero o e = omega arith
get-inside (d ∷ os) (suc x) o e = let l = get-inside os x o e in omega (arith, l)

dynamic-no-stack : (j : ℕ) → has_kind (Some Kind.ThreadStack) (Some (dynamic_kind_at j)) ≡ false
dynamic-no-stack j = by (nat_lt j 4) (nat_lt j 12) (nat_lt j 16) (nat_lt j 24) (nat_lt j 28)
  where
    by : (a b c d e : Bool) → has_kind (Some Kind.ThreadStack) (Some (if a then Kind.Thread else if b then Kind.Sem else if c then Kind.Mutex else if d then Kind.Msgq else if e then Kind.Stack else Kind.Pipe)) ≡ false
    by true b c d e = refl
    by false true c d e = refl
    by false false true d e = refl
    by false false false true e = refl
    by false false false false true = refl
    by false false false false false = refl

stack-inside : (image : Image) (x : ℕ) → has_kind (Some Kind.ThreadStack) (Some (row_kind image x)) ≡ true → x < length image.objects
stack-inside image x h = by (slice_get image.objects x) refl
  where
    by : (o : Option ObjectDef) → slice_get image.objects x ≡ o → x < length image.objects
    by None e =
        absurd (false≢true (sym (ap (λ (z : Option ObjectDef). has_kind (Some Kind.ThreadStack) (Some (kind_in z x))) e ∙ dynamic-no-stack (x - STATIC_ROWS)) ∙ h))
    by (Some o) e = get-inside image.objects x o e

-- The steps of a line.

size-few : (n : ℕ) → is_size n ≡ true → n ≤ 4
size-few n h = by (n == 1) refl (n == 2) refl (n == 4) refl h
  where
    by : (a : Bool) → (n == 1) ≡ a → (b : Bool) → (n == 2) ≡ b → (c : Bool) → (n == 4) ≡ c → (a || b || c) ≡ true → n ≤ 4
    by true p b q c r h = let same = eqb-true n 1 p in omega (arith, same)
    by false p true q c r h = let same = eqb-true n 2 q in omega (arith, same)
    by false p false q true r h = let same = eqb-true n 4 r in omega (arith, same)
    by false p false q false r h = absurd (false≢true h)

module _ (image : Image) where
  privileged-bounded : (mode : Mode) (steps : Steps) → Bounded image 0 steps → Bounded image 0 (privileged mode steps)
  privileged-bounded Mode.User steps h = omega arith
  privileged-bounded Mode.Supervisor steps h = h

  buffered-bounded : (a : ℕ) (kind : Kind) (lawful : Bool) (size : ℕ) (ask : Ask) → Bounded image 0 (buffered a kind lawful size ask)
  buffered-bounded a kind true size ask = (omega arith, λ x e k. (omega arith, refl))
  buffered-bounded a kind false size ask = (omega arith, λ x e k. (omega arith, refl))

  init-bounded : (x : ℕ) (ask : Ask) (refused : Bool) → Bounded image 1 (if refused then answer_error Errno.EINVAL else work x ask ∷ Pending.SetInit (to_addr x) false None ∷ answer_zero)
  init-bounded x ask true = (omega arith, refl)
  init-bounded x ask false = (omega arith, refl)

  -- a deadline is armed first, or none
  arms-bounded : (n : ℕ) (timeout : Timeout) (steps : Steps) → Bounded image n steps → Bounded image n (arms timeout steps)
  arms-bounded n Timeout.NoWait steps h = h
  arms-bounded n (Timeout.Ticks ticks) steps h = h
  arms-bounded n Timeout.Forever steps h = h

  aborts-bounded : (t who : ℕ) → Bounded image 1 (aborts t who)
  aborts-bounded t who =
      elim (who == t) as (λ b. Bounded image 1 (Pending.Abort (to_thread who) ∷ (if b then Pending.Killed ∷ [] else answer_void))) [ true ↦ omega arith | false ↦ (omega arith, refl) ]

  inherit-bounded : (inherits : Bool) (who : ThreadIx) (rest : Steps) → Bounded image 2 rest → Bounded image 2 ((if inherits then Pending.Inherit who ∷ [] else []) ++ rest)
  inherit-bounded true who rest h = h
  inherit-bounded false who rest h = h

  creates-bounded : (mode : Mode) (who stack a b script : ℕ) (priority : ℤ) (options : Options) (cause : Option Cause) → stack < length image.objects
      → Bounded image 2 (creates mode who stack a b script priority options cause)
  creates-bounded mode who stack a b script priority options (Some cause) h = omega arith
  creates-bounded mode who stack a b script priority options None h = inherit-bounded options.inherit _ _ (h, (omega arith, refl))

  pub bounded-steps : (t : ℕ) (me : Thread) (i : ℕ) (instr : Instr) → is_lawful_line image i instr ≡ true → Bounded image 0 (steps_of image t me instr)
  bounded-steps t me i (Instr.Set to value) lawful = omega arith
  bounded-steps t me i (Instr.Add to value) lawful = omega arith
  bounded-steps t me i (Instr.Load to addr size) lawful = (size-few size (and_parts _ _ lawful).1, omega arith)
  bounded-steps t me i (Instr.Store addr size value) lawful = omega arith
  bounded-steps t me i (Instr.Exec addr) lawful = omega arith
  bounded-steps t me i Instr.Oops lawful = omega arith
  bounded-steps t me i Instr.Panic lawful = omega arith
  bounded-steps t me i Instr.End lawful = omega arith
  bounded-steps t me i (Instr.Repeat times) lawful = omega arith
  bounded-steps t me i (Instr.ObjectAlloc kind to) lawful = (omega arith, refl)
  bounded-steps t me i (Instr.DomainInit domain parts) lawful = privileged-bounded me.mode _ (omega arith, refl)
  bounded-steps t me i (Instr.DomainAdd domain part) lawful = privileged-bounded me.mode _ (omega arith, refl)
  bounded-steps t me i (Instr.DomainRemove domain part) lawful = privileged-bounded me.mode _ (omega arith, refl)
  bounded-steps t me i (Instr.DomainMove domain thread) lawful = privileged-bounded me.mode _ (omega arith, λ x e k. (omega arith, refl))
  bounded-steps t me i (Instr.UserMode script) lawful = privileged-bounded me.mode _ (omega arith)
  bounded-steps t me i (Instr.AllGrant object) lawful = privileged-bounded me.mode _ (omega arith, λ x e k. (omega arith, refl))
  bounded-steps t me i (Instr.Grant object thread) lawful = (omega arith, λ x e k. (omega arith, λ y f g. (omega arith, refl)))
  bounded-steps t me i (Instr.Revoke object thread) lawful = privileged-bounded me.mode _ (omega arith, λ x e k. (omega arith, λ y f g. (omega arith, refl)))
  bounded-steps t me i (Instr.Create thread stack size script priority options) lawful = (
    omega arith,
    λ x e k. (
      omega arith,
      λ y f g.
          creates-bounded me.mode _ _ _ _ _ _ options _ (subst (λ (o : Option ℕ). unwrap_or o 0 < length image.objects) (sym f) (stack-inside image y g)),
    ),
  )
  bounded-steps t me i (Instr.SemInit object count limit) lawful =
      let c = value_of me.registers count in
      let l = value_of me.registers limit in
      (omega arith, λ x e k. init-bounded (value_of me.registers object) (Ask.SemInit c l) (l == 0 || nat_lt l c))
  bounded-steps t me i (Instr.MsgqInit object msg_size max_msgs) lawful =
      let size = value_of me.registers msg_size in
      let most = value_of me.registers max_msgs in
      buffered-bounded (value_of me.registers object) Kind.Msgq (is_within 1 256 size && is_within 1 64 most) (size * most) (Ask.MsgqInit size most (unwrap_or me.pool 0))
  bounded-steps t me i (Instr.StackInit object entries) lawful =
      let most = value_of me.registers entries in
      buffered-bounded (value_of me.registers object) Kind.Stack (is_within 1 64 most) (4 * most) (Ask.StackInit most (unwrap_or me.pool 0))
  bounded-steps t me i (Instr.PipeInit object size) lawful =
      let most = value_of me.registers size in
      buffered-bounded (value_of me.registers object) Kind.Pipe (is_within 1 256 most) most (Ask.PipeInit most (unwrap_or me.pool 0))
  bounded-steps t me i (Instr.SemTake object timeout) lawful = (omega arith, λ x e k. arms-bounded 1 timeout _ (omega arith, refl))
  bounded-steps t me i (Instr.MutexLock object timeout) lawful = (omega arith, λ x e k. arms-bounded 1 timeout _ (omega arith, refl))
  bounded-steps t me i (Instr.MsgqPut object addr timeout) lawful = (omega arith, λ x e k. arms-bounded 1 timeout _ (omega arith, refl))
  bounded-steps t me i (Instr.MsgqGet object addr timeout) lawful = (omega arith, λ x e k. arms-bounded 1 timeout _ (omega arith, refl))
  bounded-steps t me i (Instr.StackPop object addr timeout) lawful = (omega arith, λ x e k. arms-bounded 1 timeout _ (omega arith, refl))
  bounded-steps t me i (Instr.PipeWrite object addr length timeout) lawful = (omega arith, λ x e k. arms-bounded 1 timeout _ (omega arith, refl))
  bounded-steps t me i (Instr.PipeRead object addr length timeout) lawful = (omega arith, λ x e k. arms-bounded 1 timeout _ (omega arith, refl))
  bounded-steps t me i (Instr.Abort thread) lawful = (omega arith, λ x e k. aborts-bounded t _)
  bounded-steps t me i (Instr.Join thread timeout) lawful = (omega arith, λ x e k. arms-bounded 1 timeout _ (omega arith, refl))
  bounded-steps t me i (Instr.FutexWait addr value timeout) lawful = arms-bounded 0 timeout _ (omega arith, refl)
  bounded-steps t me i (Instr.FutexWake addr all) lawful = (omega arith, refl)
  bounded-steps t me i _ lawful = (omega arith, λ x e k. (omega arith, refl))
