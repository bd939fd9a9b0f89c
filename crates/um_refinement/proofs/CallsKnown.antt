-- What is known of a state bounds its threads and rows, and says that a thread which is started next doesn't live; and in a described image
-- each thread object has a thread of its own. So of what the events ask, this needn't be asked.
use Rattle.um_refinement.proofs.Words.{◌≡◌, ◌≢◌, ◌⊎◌, inl, ℕ, zero, suc, ◌+◌, ◌-◌, ◌<◌, ◌≤◌, Bool, true, false, List, [], ◌∷◌, length, Option, Some, None, refl, sym, ap, ◌∙◌, arith, eq-eqb, ℤ, if◌then◌else◌, is_some, nat_lt, slice_get, slice_index_or, unwrap_or, list_all, and_parts, false≢true, lt-ltb, ltb-true, true≢false, nat_tests, Image, ObjectDef, ROWS, STATIC_ROWS, THREADS, Kind, Mode, Row, ThreadIx, IsLawful, own_row, Pending, Life, Steps, Offers, goes, skips_drops, skips_inherit, State, is_living, thread_at, claims, Call, call_at, call_is, core_of, IsSited, kind_in, real-below, Setup, STATIC_THREADS, is_setup_of, is_thread_index, setup_at, setup_thread, not_less, map, tends}
use Rattle.std.specs.Prelude.{position}
use Rattle.um_refinement.proofs.CleanSteps.{Calls, OwnRows}
use Rattle.um_refinement.proofs.Reachable.{IsSound}

-- a thread that is started next is claimed by the one that starts it
pub starts-claims : (m : State) (t : ℕ) (who : ThreadIx) (script : ℕ) (stack : Row) (priority : ℤ) (mode : Mode) (rest : Steps)
    → Offers m t (Pending.Start who script stack priority mode) rest → claims m.image who.0 (thread_at m t).pending ≡ true
starts-claims m t who script stack priority mode rest (goes e) = ap (claims m.image who.0) e ∙ eq-eqb who.0 who.0 refl
starts-claims m t who script stack priority mode rest (skips_inherit e due) = ap (claims m.image who.0) e ∙ eq-eqb who.0 who.0 refl
starts-claims m t who script stack priority mode rest (skips_drops e due) = ap (claims m.image who.0) e ∙ eq-eqb who.0 who.0 refl
starts-claims m t who script stack priority mode _ (tends is started) = absurd (false≢true is)

-- what is still asked of calls: who is in none holds nothing by one
abbrev pub RestsHoldNothing : State → Type 0
RestsHoldNothing m = (u x : ℕ) → ((thread_at m u).life ≢ Life.Living) ⊎ ((thread_at m u).pending ≡ []) → slice_index_or (thread_at m u).checked x false ≡ false

module _ (m : State) (sound : IsSound m) where
  -- it doesn't live, and has no step left
  pub starts-known : (t : ℕ) (who : ThreadIx) (script : ℕ) (stack : Row) (priority : ℤ) (mode : Mode) (rest : Steps)
      → Offers m t (Pending.Start who script stack priority mode) rest → (is_living (thread_at m who.0).life ≡ false) × ((thread_at m who.0).pending ≡ [])
  starts-known t who script stack priority mode rest offers =
      let claimed = sound.known.claimed in
      let free = claimed.free t who.0 (ap (λ (c : Call). claims m.image who.0 c.pending) (call_is m t) ∙ starts-claims m t who script stack priority mode rest offers) in
      (by (is_living (thread_at m who.0).life) refl free, sym (ap (λ (c : Call). c.pending) (call_is m who.0)) ∙ claimed.idle who.0 free)
    where
      by : (b : Bool) → is_living (thread_at m who.0).life ≡ b → (call_at (core_of m) who.0).keeps ≡ false → b ≡ false
      by false e free = refl
      by true e free = absurd (true≢false (sym (sound.known.claimed.living who.0 (ap (λ (c : Call). c.living) (call_is m who.0) ∙ e)) ∙ free))

  -- and its index is one
  pub starts-below : IsLawful m.image → (t : ℕ) (who : ThreadIx) (script : ℕ) (stack : Row) (priority : ℤ) (mode : Mode) (rest : Steps)
      → Offers m t (Pending.Start who script stack priority mode) rest → who.0 < THREADS
  starts-below lawful t who script stack priority mode rest offers =
      real-below m.image lawful who.0
      (sound.known.claimed.claimed t who.0 (ap (λ (c : Call). claims m.image who.0 c.pending) (call_is m t) ∙ starts-claims m t who script stack priority mode rest offers))

  pub calls-known : RestsHoldNothing m → Calls m
  calls-known rests =
      let threads = sound.wide.threads in
      let rows = sound.wide.rows in
      record { threads = omega (arith, threads); rows = omega (arith, rows); rests = rests }

-- Rows of threads.

pub setup-inside : (os : List ObjectDef) (x n : ℕ) → setup_thread (slice_index_or (map (λ (o : ObjectDef). o.setup) os) x Setup.Bare) ≡ Some n
    → (o : ObjectDef) × (slice_get os x ≡ Some o) × (setup_thread o.setup ≡ Some n) × (x < length os)
setup-inside [] x n h = absurd (false≢true (ap is_some h))
setup-inside (o ∷ os) zero n h = (o, refl, h, omega arith)
setup-inside (o ∷ os) (suc x) n h = let r = setup-inside os x n h in let l = r.3 in (r.0, r.1, r.2, omega (arith, l))

all-at : (test : ObjectDef → Bool) (os : List ObjectDef) (x : ℕ) (o : ObjectDef) → list_all test os ≡ true → slice_get os x ≡ Some o → test o ≡ true
all-at test [] x o all h = absurd (false≢true (ap is_some h))
all-at test (d ∷ os) zero o all h = ap (λ (z : Option ObjectDef). test (unwrap_or z d)) (sym h) ∙ (and_parts (test d) (list_all test os) all).0
all-at test (d ∷ os) (suc x) o all h = all-at test os x o (and_parts (test d) (list_all test os) all).1 h

module _ (image : Image) (lawful : IsLawful image) (sited : IsSited image) where
  thread-kind : (kind : Kind) (setup : Setup) (n : ℕ) → is_setup_of image.mpu kind setup ≡ true → setup_thread setup ≡ Some n → kind ≡ Kind.Thread
  thread-kind Kind.Thread (Setup.Thread index) n h t = refl
  thread-kind Kind.ThreadStack (Setup.Thread index) n h t = absurd (false≢true h)
  thread-kind Kind.Sem (Setup.Thread index) n h t = absurd (false≢true h)
  thread-kind Kind.Mutex (Setup.Thread index) n h t = absurd (false≢true h)
  thread-kind Kind.Msgq (Setup.Thread index) n h t = absurd (false≢true h)
  thread-kind Kind.Stack (Setup.Thread index) n h t = absurd (false≢true h)
  thread-kind Kind.Pipe (Setup.Thread index) n h t = absurd (false≢true h)
  thread-kind Kind.Timer (Setup.Thread index) n h t = absurd (false≢true h)
  thread-kind kind setup n h t = absurd (false≢true (ap is_some t))

  some-same : {a b : ℕ} → Some a ≡ Some b → a ≡ b
  some-same {a} h = ap (λ (o : Option ℕ). unwrap_or o a) h

  static-own : (x who : ℕ) → x < STATIC_ROWS → setup_thread (setup_at image x) ≡ Some who → (own_row image who ≡ x) × (x < ROWS)
  static-own x who low h =
      let o = setup-inside image.objects x who h in
      let kind = thread-kind o.0.kind o.0.setup who (all-at (λ (d : ObjectDef). is_setup_of image.mpu d.kind d.setup) image.objects x o.0 lawful.objects o.1) o.2 in
      let is = sited.threads x (inl o.3) (ap (λ (z : Option ObjectDef). kind_in z x) o.1 ∙ kind) in
      let same = some-same (sym is.1 ∙ (ap (λ b. if b then setup_thread (setup_at image x) else if nat_lt (STATIC_THREADS + (x - STATIC_ROWS)) THREADS then Some (STATIC_THREADS + (x - STATIC_ROWS)) else None) (lt-ltb x STATIC_ROWS low) ∙ h)) in
      (ap (own_row image) (sym same) ∙ is.2, omega (arith, low))

  dynamic-own : (x who : ℕ) → STATIC_ROWS ≤ x → (if nat_lt (STATIC_THREADS + (x - STATIC_ROWS)) THREADS then Some (STATIC_THREADS + (x - STATIC_ROWS)) else None) ≡ Some who
      → (own_row image who ≡ x) × (x < ROWS)
  dynamic-own x who high h = by (nat_lt (STATIC_THREADS + (x - STATIC_ROWS)) THREADS) refl h
    where
      by : (b : Bool) → nat_lt (STATIC_THREADS + (x - STATIC_ROWS)) THREADS ≡ b → (if b then Some (STATIC_THREADS + (x - STATIC_ROWS)) else None) ≡ Some who
          → (own_row image who ≡ x) × (x < ROWS)
      by false q k = absurd (false≢true (ap is_some k))
      by true q k =
          let n : STATIC_THREADS + (x - STATIC_ROWS) ≡ who = some-same k in
          let small = ltb-true (STATIC_THREADS + (x - STATIC_ROWS)) THREADS q in
          let past : nat_lt who STATIC_THREADS ≡ false = not_less who STATIC_THREADS (omega (arith, n)) in
          let back : STATIC_ROWS + (who - STATIC_THREADS) ≡ x = omega (arith, n, high) in
          (ap (λ b. if b then unwrap_or (position (is_thread_index who) image.objects) 0 else STATIC_ROWS + (who - STATIC_THREADS)) past ∙ back, omega (arith, small))

  -- each thread object has a thread of its own
  pub own-known : OwnRows image
  own-known x who h = by (nat_lt x STATIC_ROWS) refl h
    where
      by : (b : Bool) → nat_lt x STATIC_ROWS ≡ b
          → (if b then setup_thread (setup_at image x) else if nat_lt (STATIC_THREADS + (x - STATIC_ROWS)) THREADS then Some (STATIC_THREADS + (x - STATIC_ROWS)) else None) ≡ Some who
          → (own_row image who ≡ x) × (x < ROWS)
      by true q k = static-own x who (ltb-true x STATIC_ROWS q) k
      by false q k = dynamic-own x who (past x q) k
        where
          past : (n : ℕ) → nat_lt n STATIC_ROWS ≡ false → STATIC_ROWS ≤ n
          past n z = grind (arith, nat_tests)
