-- The steps that are left of a call are proper: each act on an object is on one that the call holds then, and so is each publication and each
-- mark as initialised, a thread that gets a permission or a name is one whose object it holds, or a static one, permissions are passed on to the
-- thread that it starts next, each edit and each move is of one of the image's domains, and where the call is over it holds nothing. The steps
-- of each line of a lawful image are.
use Rattle.std.specs.Option.{option_and_then}
use Rattle.um_base.specs.declared.names.Timeout.{Timeout}
use Rattle.um_invariants.proofs.SitedImages.{index_small}
use Rattle.um_machine.specs.Order.{aborts, answer_void, arms}
use Rattle.um_refinement.proofs.Words.{THREADS, STATIC_THREADS, STATIC_ROWS, setup_at, setup_thread, thread_of_row, ◌-◌, ◌≡◌, ◌⊎◌, inl, inr, ℕ, zero, suc, ◌+◌, ◌*◌, ◌<◌, Bool, true, false, List, [], ◌∷◌, ◌++◌, length, Option, Some, None, refl, sym, ap, ◌∙◌, subst, arith, ◌==◌, ◌&&◌, ◌||◌, ℤ, if◌then◌else◌, is_some, nat_lt, slice_get, slice_index_or, slice_set, unwrap_or, list_all, and_parts, false≢true, ltb-true, Cause, Ask, Image, Instr, Options, Errno, Kind, Mode, ThreadIx, IsLawful, is_lawful_line, is_within, own_row, row_at, thread_of_addr, Pending, Thread, Steps, answer_error, answer_zero, buffered, creates, privileged, steps_of, to_addr, to_thread, work, instruction_at, value_of, IsRow, IsSited, IsStatic, are_lawful_scripts, is_lawful_script, is_number_below, number_of, lines_of, script_lines, Names, keeps, has_kind, row_kind}
use Rattle.um_base.specs.declared.image.Script.{Script}
use Rattle.um_base.specs.declared.names.Ref.{Ref}
use Rattle.um_machine.specs.declared.thread.Place.{Place}
use Rattle.um_refinement.specs.Stops.{HasOwn}

-- nothing is held
abbrev pub Bare : List Bool → Type 0
Bare checked = (x : ℕ) → slice_index_or checked x false ≡ false

-- these steps start a thread next
abbrev pub StartsOne : ThreadIx → Steps → Type 0
StartsOne who (Pending.Start w script stack priority mode ∷ rest) = w ≡ who
StartsOne who steps = ⊥

module _ (image : Image) where
  abbrev pub Proper : List Bool → Steps → Type 0
  Proper checked [] = Bare checked
  Proper checked (Pending.Begin ∷ rest) = ⊥
  Proper checked (Pending.Exit ∷ rest) = ⊥
  Proper checked (Pending.CleanPair who ∷ rest) = ⊥
  Proper checked (Pending.Recycle ∷ rest) = ⊥
  Proper checked (Pending.Left ∷ rest) = ⊥
  Proper checked (Pending.Tick ∷ rest) = ⊥
  Proper checked (Pending.TimeOut who ∷ rest) = ⊥
  Proper checked (Pending.Expire ∷ rest) = ⊥
  Proper checked (Pending.Cut who ∷ rest) = ⊥
  Proper checked (Pending.Killed ∷ rest) = rest ≡ []
  Proper checked (Pending.Abort who ∷ rest) = (who.0 < THREADS) × Proper checked rest
  Proper checked (Pending.Suspend who ∷ rest) = (who.0 < THREADS) × Proper checked rest
  Proper checked (Pending.Continue who ∷ rest) = (who.0 < THREADS) × Proper checked rest
  Proper checked (Pending.Join who timeout ∷ rest) = HasOwn image who.0 × Proper checked rest
  Proper checked (Pending.Check a kind want refusal ∷ rest) =
      (x : ℕ) → row_at image a.0 ≡ Some x → slice_index_or (slice_set checked x true) x false ≡ true → has_kind kind (Some (row_kind image x)) ≡ true
      → Proper (slice_set checked x true) rest
  Proper checked (Pending.Work a ask ∷ rest) = Names image checked a.0 × Proper checked rest
  Proper checked (Pending.Publish a ∷ rest) = Names image checked a.0 × Proper checked rest
  Proper checked (Pending.SetInit a strict undo ∷ rest) = Names image checked a.0 × Proper checked rest
  Proper checked (Pending.Answer reply to ∷ rest) = rest ≡ []
  Proper checked (Pending.Fatal reason cause ∷ rest) = Unit {0}
  Proper checked (Pending.EnterUser script ∷ rest) = Bare checked
  Proper checked (Pending.Dooms from ∷ rest) = Bare checked
  Proper checked (Pending.Start who script stack priority mode ∷ rest) = (other : List Bool) → Proper other rest
  Proper checked (Pending.Grant who a ∷ rest) = IsStatic image checked (own_row image who.0) × Proper checked rest
  Proper checked (Pending.Named who ∷ rest) = IsStatic image checked (own_row image who.0) × Proper checked rest
  Proper checked (Pending.Inherit who ∷ rest) = StartsOne who rest × Proper checked rest
  Proper checked (Pending.DomMove d who ∷ rest) = (d < length image.domains) × Proper checked rest
  Proper checked (Pending.DomInit d parts ∷ rest) = (d < length image.domains) × Proper checked rest
  Proper checked (Pending.DomAdd d range attr ∷ rest) = (d < length image.domains) × Proper checked rest
  Proper checked (Pending.DomRemove d range attr ∷ rest) = (d < length image.domains) × Proper checked rest
  Proper checked (p ∷ rest) = Proper checked rest

-- The steps of a line.

module _ (image : Image) (checked : List Bool) where
  proper-privileged : (mode : Mode) (steps : Steps) → Proper image checked steps → Proper image checked (privileged mode steps)
  proper-privileged Mode.User steps h = tt
  proper-privileged Mode.Supervisor steps h = h

  proper-init : (a x : ℕ) → row_at image a ≡ Some x → slice_index_or checked x false ≡ true → (ask : Ask) (refused : Bool)
      → Proper image checked (if refused then answer_error Errno.EINVAL else work a ask ∷ Pending.SetInit (to_addr a) false None ∷ answer_zero)
  proper-init a x e h ask true = refl
  proper-init a x e h ask false = ((x, e, h), ((x, e, h), refl))

  -- a deadline is armed first, or none
  proper-arms : (timeout : Timeout) (steps : Steps) → Proper image checked steps → Proper image checked (arms timeout steps)
  proper-arms Timeout.NoWait steps h = h
  proper-arms (Timeout.Ticks ticks) steps h = h
  proper-arms Timeout.Forever steps h = h

  proper-aborts : (t who : ℕ) → who < THREADS → Proper image checked (aborts t who)
  proper-aborts t who few =
      elim (who == t) as (λ b. Proper image checked (Pending.Abort (to_thread who) ∷ (if b then Pending.Killed ∷ [] else answer_void))) [ true ↦ (few, refl) | false ↦ (few, refl) ]

  proper-inherit : (inherits : Bool) (who : ThreadIx) (rest : Steps) → StartsOne who rest → Proper image checked rest
      → Proper image checked ((if inherits then Pending.Inherit who ∷ [] else []) ++ rest)
  proper-inherit true who rest starts h = (starts, h)
  proper-inherit false who rest starts h = h

  proper-creates : (mode : Mode) (who stack a b script : ℕ) (priority : ℤ) (options : Options) (cause : Option Cause)
      → Names image checked a → Names image checked b → Proper image checked (creates mode who stack a b script priority options cause)
  proper-creates mode who stack a b script priority options (Some cause) thread-named stack-named = tt
  proper-creates mode who stack a b script priority options None thread-named stack-named =
      (thread-named, (stack-named, proper-inherit options.inherit _ _ refl (λ other. refl)))

proper-buffered : (image : Image) (checked : List Bool) (a : ℕ) (kind : Kind) (lawful : Bool) (size : ℕ) (ask : Ask) → Proper image checked (buffered a kind lawful size ask)
proper-buffered image checked a kind true size ask = λ x e h k. ((x, e, h), ((x, e, h), refl))
proper-buffered image checked a kind false size ask = λ x e h k. refl

number-below : (n : ℕ) (domain : Ref) → is_number_below n domain ≡ true → number_of domain < n
number-below n (Ref.At i) h = ltb-true i n h
number-below n (Ref.Named name) h = absurd (false≢true h)

-- a thread whose object was checked
owned : (image : Image) → IsSited image → (checked : List Bool) (a x : ℕ) → row_at image a ≡ Some x → slice_index_or checked x false ≡ true
    → IsStatic image checked (own_row image (thread_of_addr image a))
owned image sited checked a x e h = by (sited.owns a x e)
  where
    by : (own_row image (thread_of_addr image a) < length image.objects) ⊎ (own_row image (thread_of_addr image a) ≡ x) → IsStatic image checked (own_row image (thread_of_addr image a))
    by (inl l) = inl l
    by (inr same) = inr (subst (IsRow image) (sym same) (sited.found a x e).0, ap (λ r. slice_index_or checked r false) same ∙ h)

-- the thread whose object is at an address of a thread object
thread-kind : (kind : Kind) → has_kind (Some Kind.Thread) (Some kind) ≡ true → kind ≡ Kind.Thread
thread-kind Kind.Thread h = refl
thread-kind kind h = absurd (false≢true h)

own-of : (image : Image) → IsSited image → (a x : ℕ) → row_at image a ≡ Some x → has_kind (Some Kind.Thread) (Some (row_kind image x)) ≡ true → HasOwn image (thread_of_addr image a)
own-of image sited a x e kind =
    let (w, at, own) = sited.threads x (sited.found a x e).0 (thread-kind (row_kind image x) kind) in
    let same : thread_of_addr image a ≡ w = ap (λ (o : Option ℕ). unwrap_or (option_and_then (thread_of_row image) o) 0) e ∙ ap (λ (o : Option ℕ). unwrap_or o 0) at in
    subst (HasOwn image) (sym same) (ap (thread_of_row image) own ∙ at)

-- an address names one of the machine's threads
row-below : (image : Image) → IsLawful image → (x : ℕ) (low inside : Bool) → nat_lt (STATIC_THREADS + (x - STATIC_ROWS)) THREADS ≡ inside → (o : Option ℕ)
    → (if low then setup_thread (setup_at image x) else if inside then Some (STATIC_THREADS + (x - STATIC_ROWS)) else None) ≡ o → unwrap_or o 0 < THREADS
row-below image lawful x low inside f None h = omega arith
row-below image lawful x true inside f (Some w) h = let small = index_small image.objects 0 x w lawful.indices h in omega (arith, small)
row-below image lawful x false true f (Some w) h =
    let below = ltb-true (STATIC_THREADS + (x - STATIC_ROWS)) THREADS f in
    let same : STATIC_THREADS + (x - STATIC_ROWS) ≡ w = ap (λ (o : Option ℕ). unwrap_or o 0) h in omega (arith, below, same)
row-below image lawful x false false f (Some w) h = absurd (false≢true (ap is_some h))

pub thread-below : (image : Image) → IsLawful image → (a : ℕ) → thread_of_addr image a < THREADS
thread-below image lawful a = by (row_at image a)
  where
    by : (o : Option ℕ) → unwrap_or (option_and_then (thread_of_row image) o) 0 < THREADS
    by None = omega arith
    by (Some x) = row-below image lawful x (nat_lt x STATIC_ROWS) (nat_lt (STATIC_THREADS + (x - STATIC_ROWS)) THREADS) refl (thread_of_row image x) refl

module _ (image : Image) (sited : IsSited image) (below : (a : ℕ) → thread_of_addr image a < THREADS) (t : ℕ) (me : Thread) (none : Bare me.checked) where
  pub proper-steps : (i : ℕ) (instr : Instr) → is_lawful_line image i instr ≡ true → Proper image me.checked (steps_of image t me instr)
  proper-steps i (Instr.Set to value) lawful = none
  proper-steps i (Instr.Add to value) lawful = none
  proper-steps i (Instr.Load to addr size) lawful = none
  proper-steps i (Instr.Store addr size value) lawful = none
  proper-steps i (Instr.Exec addr) lawful = none
  proper-steps i Instr.Oops lawful = tt
  proper-steps i Instr.Panic lawful = tt
  proper-steps i Instr.End lawful = none
  proper-steps i (Instr.Repeat times) lawful = none
  proper-steps i (Instr.ObjectAlloc kind to) lawful = refl
  proper-steps i (Instr.DomainInit domain parts) lawful =
      proper-privileged image me.checked me.mode _ (number-below (length image.domains) domain (and_parts _ _ lawful).0, refl)
  proper-steps i (Instr.DomainAdd domain part) lawful =
      proper-privileged image me.checked me.mode _ (number-below (length image.domains) domain (and_parts _ _ lawful).0, refl)
  proper-steps i (Instr.DomainRemove domain part) lawful =
      proper-privileged image me.checked me.mode _ (number-below (length image.domains) domain (and_parts _ _ lawful).0, refl)
  proper-steps i (Instr.DomainMove domain thread) lawful =
      proper-privileged image me.checked me.mode _ (λ x e h k. (number-below (length image.domains) domain (and_parts _ _ lawful).0, refl))
  proper-steps i (Instr.UserMode script) lawful = proper-privileged image me.checked me.mode _ none
  proper-steps i (Instr.AllGrant object) lawful = proper-privileged image me.checked me.mode _ (λ x e h k. ((x, e, h), refl))
  proper-steps i (Instr.Grant object thread) lawful =
      λ y f g j x e h k. (owned image sited (slice_set (slice_set me.checked y true) x true) (value_of me.registers thread) y f (keeps (slice_set me.checked y true) y x g), refl)
  proper-steps i (Instr.Revoke object thread) lawful = proper-privileged image me.checked me.mode _ (λ y f g j x e h k. refl)
  proper-steps i (Instr.Release object) lawful = λ x e h k. refl
  proper-steps i (Instr.Create thread stack size script priority options) lawful =
      λ y f g j x e h k. proper-creates image (slice_set (slice_set me.checked y true) x true) me.mode _ _ _ _ _ _ options _ (y, f, keeps (slice_set me.checked y true) y x g) (x, e, h)
  proper-steps i (Instr.NameSet thread addr) lawful = λ x e h k. (owned image sited (slice_set me.checked x true) (value_of me.registers thread) x e h, refl)
  proper-steps i (Instr.SemInit object count limit) lawful =
      let c = value_of me.registers count in
      let l = value_of me.registers limit in
      λ x e h k. proper-init image (slice_set me.checked x true) (value_of me.registers object) x e h (Ask.SemInit c l) (l == 0 || nat_lt l c)
  proper-steps i (Instr.MutexInit object) lawful = λ x e h k. ((x, e, h), ((x, e, h), refl))
  proper-steps i (Instr.MsgqInit object msg_size max_msgs) lawful =
      let size = value_of me.registers msg_size in
      let most = value_of me.registers max_msgs in
      proper-buffered image me.checked (value_of me.registers object) Kind.Msgq (is_within 1 256 size && is_within 1 64 most) (size * most) (Ask.MsgqInit size most (unwrap_or me.pool 0))
  proper-steps i (Instr.StackInit object entries) lawful =
      let most = value_of me.registers entries in
      proper-buffered image me.checked (value_of me.registers object) Kind.Stack (is_within 1 64 most) (4 * most) (Ask.StackInit most (unwrap_or me.pool 0))
  proper-steps i (Instr.PipeInit object size) lawful =
      let most = value_of me.registers size in
      proper-buffered image me.checked (value_of me.registers object) Kind.Pipe (is_within 1 256 most) most (Ask.PipeInit most (unwrap_or me.pool 0))
  proper-steps i (Instr.SemTake object timeout) lawful = λ x e h k. proper-arms image (slice_set me.checked x true) timeout _ ((x, e, h), refl)
  proper-steps i (Instr.MutexLock object timeout) lawful = λ x e h k. proper-arms image (slice_set me.checked x true) timeout _ ((x, e, h), refl)
  proper-steps i (Instr.MsgqPut object addr timeout) lawful = λ x e h k. proper-arms image (slice_set me.checked x true) timeout _ ((x, e, h), refl)
  proper-steps i (Instr.MsgqGet object addr timeout) lawful = λ x e h k. proper-arms image (slice_set me.checked x true) timeout _ ((x, e, h), refl)
  proper-steps i (Instr.StackPop object addr timeout) lawful = λ x e h k. proper-arms image (slice_set me.checked x true) timeout _ ((x, e, h), refl)
  proper-steps i (Instr.PipeWrite object addr length timeout) lawful = λ x e h k. proper-arms image (slice_set me.checked x true) timeout _ ((x, e, h), refl)
  proper-steps i (Instr.PipeRead object addr length timeout) lawful = λ x e h k. proper-arms image (slice_set me.checked x true) timeout _ ((x, e, h), refl)
  proper-steps i (Instr.Abort thread) lawful = λ x e h k. proper-aborts image (slice_set me.checked x true) t _ (below _)
  proper-steps i (Instr.Join thread timeout) lawful = λ x e h k. proper-arms image (slice_set me.checked x true) timeout _ (own-of image sited (value_of me.registers thread) x e k, refl)
  proper-steps i (Instr.Suspend thread) lawful = λ x e h k. (below _, refl)
  proper-steps i (Instr.Continue thread) lawful = λ x e h k. (below _, refl)
  proper-steps i (Instr.FutexWait addr value timeout) lawful = proper-arms image me.checked timeout _ refl
  proper-steps i (Instr.FutexWake addr all) lawful = refl
  proper-steps i _ lawful = λ x e h k. ((x, e, h), refl)

-- Lines of a lawful image.

lawful-script : (image : Image) (i : ℕ) (scripts : List Script) → are_lawful_scripts image i scripts ≡ true → (k : ℕ) (script : Script) → slice_get scripts k ≡ Some script
    → is_lawful_script image (i + k) script ≡ true
lawful-script image i [] h k script e = absurd (false≢true (ap is_some e))
lawful-script image i (s ∷ scripts) h zero script e =
    let at : i ≡ i + 0 = omega arith in
    ap (λ (o : Option Script). is_lawful_script image (i + 0) (unwrap_or o s)) (sym e) ∙ (ap (λ n. is_lawful_script image n s) (sym at) ∙ (and_parts _ _ h).0)
lawful-script image i (s ∷ scripts) h (suc k) script e =
    let at : i + 1 + k ≡ i + suc k = omega arith in
    ap (λ n. is_lawful_script image n script) (sym at) ∙ lawful-script image (i + 1) scripts (and_parts _ _ h).1 k script e

line-at : (test : Instr → Bool) (lines : List Instr) → list_all test lines ≡ true → (n : ℕ) (line : Instr) → slice_get lines n ≡ Some line → test line ≡ true
line-at test [] h n line e = absurd (false≢true (ap is_some e))
line-at test (l ∷ lines) h zero line e = ap (λ (o : Option Instr). test (unwrap_or o l)) (sym e) ∙ (and_parts _ _ h).0
line-at test (l ∷ lines) h (suc n) line e = line-at test lines (and_parts _ _ h).1 n line e

pub line-lawful : (image : Image) → IsLawful image → (place : Place) (line : Instr) → instruction_at image place ≡ Some line → is_lawful_line image place.script line ≡ true
line-lawful image lawful place line e = line-at (is_lawful_line image place.script) (script_lines image place.script) (by (slice_get image.scripts place.script) refl) place.line line e
  where
    by : (o : Option Script) → slice_get image.scripts place.script ≡ o → list_all (is_lawful_line image place.script) (lines_of o) ≡ true
    by None q = refl
    by (Some script) q =
        let at : 0 + place.script ≡ place.script = omega arith in
        let is : is_lawful_script image place.script script ≡ true =
        subst (λ n. is_lawful_script image n script ≡ true) at (lawful-script image 0 image.scripts lawful.scripts place.script script q) in (and_parts _ _ (and_parts _ _ is).0).1
