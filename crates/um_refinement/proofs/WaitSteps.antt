-- Who waits in a cell after a step of the machine: those who waited there, and the thread of the step where it begins to wait.
use Rattle.um_refinement.proofs.Words.{◌≡◌, ◌⊎◌, inl, inr, ℕ, suc, Bool, true, false, cond, List, [], ◌∷◌, None, refl, sym, ap, ◌∙◌, subst, arith, ◌==◌, ◌&&◌, ◌||◌, not, if◌then◌else◌, list_all, and_parts, eq-eqb, eqb-true, false≢true, true≢false, Ask, Answer, ThreadIx, Waiter, Pending, Steps, Next, State, object_at, thread_at, Effect, wrote, effects_of, next_of, after-is}
use Rattle.um_base.specs.declared.limits.TheConstants.{FUTEX_CELL, JOIN_CELL}
use Rattle.um_invariants.proofs.ThreadCells.{IsPut, cell, cell-is, object-put, place_of, waiters-put}
use Rattle.um_machine.proofs.AfterLemmas.{bytes-leave}
use Rattle.um_machine.proofs.EffectLemmas.{OfEach, all-wrote, woken-by}
use Rattle.um_machine.specs.Futexes.{futex_answer}
use Rattle.um_machine.specs.Goes.{went}
use Rattle.um_machine.specs.Joins.{join_answer}
use Rattle.um_machine.specs.Order.{to_thread}
use Rattle.um_machine.specs.Services.{in_order, runs_out, without}
use Rattle.um_machine.specs.State.{waiters_in, with_waiters}
use Rattle.um_machine.specs.Time.{told_late}
use Rattle.um_machine.specs.Table as T
use Rattle.um_machine.specs.Writes.{Edit, Effects, edited, effect, only, says_wait}
use Rattle.um_fine.specs.Seeking.{stands_in}
use Rattle.um_refinement.proofs.WaitersLeft.{All, acts-all, behind-all, filter-all}

-- whether a write leaves all cells in which threads wait, or empties one
abbrev is_apart : Effect → Bool
is_apart (Effect.object x (Edit.works contents ws buffer)) = false
is_apart (Effect.object x (Edit.runs_out contents ws)) = false
is_apart (Effect.waiters c ws) = false
is_apart e = true

abbrev are_apart : Effects → Bool
are_apart ws = list_all (λ (w : Bool × Effect). is_apart w.1) ws

-- how a thread stands in a cell where it begins to wait
abbrev pub waiter_of : State → ℕ → Ask → List ℕ → Waiter
waiter_of s t ask bytes = let me = thread_at s t in record { thread = to_thread t; priority = me.priority; ask = ask; bytes = bytes; until = me.until }

-- A step that may begin to wait: at this place of the cells, with this answer, as this waiter.
module _ (s : State) (t x : ℕ) where
  abbrev pub MayBegin : (Waiter → Bool) → ℕ → Pending → Type 0
  MayBegin P y (Pending.Work a ask) =
      y ≡ suc (suc (T.row_of s a)) → (T.work_of s t a ask).answer ≡ Answer.Wait → P (waiter_of s t ask (T.bytes_given (thread_at s t).buffer ask)) ≡ true
  MayBegin P y (Pending.Join who timeout) = y ≡ place_of JOIN_CELL → join_answer s t x who.0 timeout ≡ Answer.Wait → P (waiter_of s t (Ask.Join who) []) ≡ true
  MayBegin P y (Pending.FutexWait a value timeout) =
      y ≡ place_of FUTEX_CELL → futex_answer s t a.0 value timeout ≡ Answer.Wait → P (waiter_of s t (Ask.FutexWait a) []) ≡ true
  MayBegin P y q = Unit {0}

  -- the thread begins to wait in a cell
  abbrev pub Begins : Pending → ℕ → Type 0
  Begins (Pending.Work a ask) c = (c ≡ T.row_of s a) × ((T.work_of s t a ask).answer ≡ Answer.Wait)
  Begins (Pending.Join who timeout) c = (c ≡ JOIN_CELL) × (join_answer s t x who.0 timeout ≡ Answer.Wait)
  Begins (Pending.FutexWait a value timeout) c = (c ≡ FUTEX_CELL) × (futex_answer s t a.0 value timeout ≡ Answer.Wait)
  Begins q c = ⊥

module _ (P : Waiter → Bool) (s : State) (y : ℕ) (all : All P (cell s y)) where
  abbrev Reads : State → Type 0
  Reads u = All P (cell u y)

  -- what has to be known of a write
  abbrev Leaves : Effect → Type 0
  Leaves (Effect.object x (Edit.works contents ws buffer)) = y ≡ suc (suc x) → All P ws
  Leaves (Effect.object x (Edit.runs_out contents ws)) = y ≡ suc (suc x) → All P ws
  Leaves (Effect.waiters c ws) = y ≡ place_of c → All P ws
  Leaves e = Unit {0}

  put : (u : State) (place : ℕ) (ws : List Waiter) (u2 : State) → IsPut u place ws u2 y → (y ≡ place → All P ws) → Reads u → Reads u2
  put u place ws u2 (inl (other, same)) new was = subst (All P) (sym same) was
  put u place ws u2 (inr (here, inl these)) new was = subst (All P) (sym these) (new here)
  put u place ws u2 (inr (here, inr none)) new was = subst (All P) (sym none) refl

  edits : (u : State) (x : ℕ) (edit : Edit) → Leaves (Effect.object x edit) → Reads u → Reads (effect (Effect.object x edit) u)
  edits u x (Edit.works contents ws buffer) f was = put u (suc (suc x)) ws (effect (Effect.object x (Edit.works contents ws buffer)) u) (object-put u x (edited (Edit.works contents ws buffer) (object_at u x)) y) f was
  edits u x (Edit.runs_out contents ws) f was = put u (suc (suc x)) ws (effect (Effect.object x (Edit.runs_out contents ws)) u) (object-put u x (edited (Edit.runs_out contents ws) (object_at u x)) y) f was
  edits u x (Edit.reserved kind cost) f was = put u (suc (suc x)) [] (effect (Effect.object x (Edit.reserved kind cost)) u) (object-put u x (edited (Edit.reserved kind cost) (object_at u x)) y) (λ h. refl) was
  edits u x Edit.vacates f was = put u (suc (suc x)) [] (effect (Effect.object x Edit.vacates) u) (object-put u x (edited Edit.vacates (object_at u x)) y) (λ h. refl) was
  edits u x edit f was =
      put u (suc (suc x)) (object_at u x).waiters (effect (Effect.object x edit) u) (object-put u x (edited edit (object_at u x)) y) (λ h. subst (λ n. All P (cell u n)) h was) was

  keeps : (e : Effect) (u : State) → Leaves e → Reads u → Reads (effect e u)
  keeps (Effect.wakes woken) u f was = woken-by Reads (λ s v told r. r) woken u was
  keeps (Effect.object x edit) u f was = edits u x edit f was
  keeps (Effect.waiters c ws) u f was = put u (place_of c) ws (effect (Effect.waiters c ws) u) (waiters-put u c ws y) f was
  keeps (Effect.bytes a bs) u f was = subst (All P) (sym (bytes-leave (λ (z : State). cell z y) (λ z b. refl) (λ z b. refl) u a bs)) was
  keeps e u f was = was

  apart-leaves : (e : Effect) → is_apart e ≡ true → Leaves e
  apart-leaves (Effect.object x (Edit.works contents ws buffer)) h = absurd (false≢true h)
  apart-leaves (Effect.object x (Edit.runs_out contents ws)) h = absurd (false≢true h)
  apart-leaves (Effect.object x edit) h = tt
  apart-leaves (Effect.waiters c ws) h = absurd (false≢true h)
  apart-leaves e h = tt

  all-apart : (ws : Effects) → are_apart ws ≡ true → OfEach Leaves ws
  all-apart [] h = tt
  all-apart ((b, e) ∷ ws) h = let parts = and_parts (is_apart e) (are_apart ws) h in (apart-leaves e parts.0, all-apart ws parts.1)

  wrote-all : (ws : Effects) → OfEach Leaves ws → Reads (wrote ws s)
  wrote-all ws f = all-wrote Reads Leaves keeps ws s f all

  here : (place : ℕ) → y ≡ place → All P (cell s place)
  here place h = subst (λ n. All P (cell s n)) h all

  there : (c : ℕ) → y ≡ place_of c → All P (waiters_in s c)
  there c h = subst (All P) (sym (cell-is s c)) (here (place_of c) h)

  left-out : (order ws : List Waiter) → All P ws → All P (runs_out ws order).1
  left-out [] ws h = h
  left-out (first ∷ order) ws h = filter-all P (λ (v : Waiter). not (v.thread.0 == first.thread.0)) ws h

  module _ (t x : ℕ) where
    asks : (c : ℕ) (ask : Ask) (answer : Answer) → (y ≡ place_of c → answer ≡ Answer.Wait → P (waiter_of s t ask []) ≡ true)
        → Reads (wrote (only (says_wait answer) (Effect.waiters c (T.queued s t c ask)) ∷ []) s)
    asks c ask (Answer.Now reply) new = all
    asks c ask Answer.Wait new =
        keeps (Effect.waiters c (T.queued s t c ask)) s (λ h. behind-all P t (waiters_in s c) (waiter_of s t ask []) (there c h) (new h refl)) all

    wrote-step : (q : Pending) → MayBegin s t x P y q → Reads (wrote (effects_of s t x q) s)
    wrote-step (Pending.Work a ask) new =
        let z = T.row_of s a in
        let o = object_at s z in
        wrote-all (effects_of s t x (Pending.Work a ask))
        (λ h. acts-all P (waiter_of s t ask (T.bytes_given (thread_at s t).buffer ask)) o.contents o.waiters ask (here (suc (suc z)) h) (λ wait. new h wait), (tt, tt))
    wrote-step (Pending.Join who timeout) new = asks JOIN_CELL (Ask.Join who) (join_answer s t x who.0 timeout) new
    wrote-step (Pending.FutexWait a value timeout) new = asks FUTEX_CELL (Ask.FutexWait a) (futex_answer s t a.0 value timeout) new
    wrote-step Pending.Left new = wrote-all (effects_of s t x Pending.Left) (λ h. filter-all P _ s.joins (here (place_of JOIN_CELL) h), (tt, tt))
    wrote-step (Pending.FutexWake a every) new =
        wrote-all (effects_of s t x (Pending.FutexWake a every)) (λ h. filter-all P _ s.futexes (here (place_of FUTEX_CELL) h), (tt, tt))
    wrote-step (Pending.TimeOut who) new =
        wrote-all (effects_of s t x (Pending.TimeOut who)) (λ h. filter-all P (λ (v : Waiter). not (v.thread.0 == who.0)) (waiters_in s x) (there x h), (tt, tt))
    wrote-step (Pending.Cut who) new =
        wrote-all (effects_of s t x (Pending.Cut who)) (λ h. filter-all P (λ (v : Waiter). not (v.thread.0 == who.0)) (waiters_in s x) (there x h), (tt, tt))
    wrote-step Pending.Expire new =
        let o = object_at s x in
        wrote-all (effects_of s t x Pending.Expire) (λ h. left-out (in_order o.waiters) o.waiters (here (suc (suc x)) h), (tt, tt))
    wrote-step q new = wrote-all (effects_of s t x q) (all-apart (effects_of s t x q) refl)

    went-reads : (rest : Steps) (u : State) (next : Next) → Reads u → Reads (went rest u t next)
    went-reads rest u Next.stays h = h
    went-reads rest u (Next.begins None) h = h
    went-reads rest u (Next.resumes None) h = h
    went-reads rest u next h = h

    -- what is so of each who waits there, and of the thread if it begins to wait there, is so after the step
    pub cells-after : (q : Pending) (rest : Steps) → MayBegin s t x P y q → All P (cell (T.after s t x q rest) y)
    cells-after q rest new = subst Reads (sym (after-is s t x q rest)) (went-reads rest (wrote (effects_of s t x q) s) (next_of s t x q) (wrote-step q new))

-- A thread that waits there waited, or begins to.

lacks-all : (u : ℕ) (ws : List Waiter) → stands_in u ws ≡ false → All (λ v. not (v.thread.0 == u)) ws
lacks-all u [] h = refl
lacks-all u (w ∷ ws) h = by (w.thread.0 == u) h (lacks-all u ws)
  where
    by : (b : Bool) → (b || stands_in u ws) ≡ false → (stands_in u ws ≡ false → All (λ v. not (v.thread.0 == u)) ws) → (not b && list_all (λ (v : Waiter). not (v.thread.0 == u)) ws) ≡ true
    by true h more = absurd (true≢false h)
    by false h more = more h

all-lack : (u : ℕ) (ws : List Waiter) → All (λ v. not (v.thread.0 == u)) ws → stands_in u ws ≡ true → ⊥
all-lack u [] all h = false≢true h
all-lack u (w ∷ ws) all h = by (w.thread.0 == u) all h (all-lack u ws)
  where
    by : (b : Bool) → (not b && list_all (λ (v : Waiter). not (v.thread.0 == u)) ws) ≡ true → (b || stands_in u ws) ≡ true
        → (All (λ v. not (v.thread.0 == u)) ws → stands_in u ws ≡ true → ⊥) → ⊥
    by true all h more = false≢true all
    by false all h more = more all h

pub row-place : (c r : ℕ) → place_of c ≡ suc (suc r) → c ≡ r
row-place c r h = by (c == JOIN_CELL) (c == FUTEX_CELL) h
  where
    by : (a b : Bool) → (if a then 0 else if b then 1 else suc (suc c)) ≡ suc (suc r) → c ≡ r
    by true b h = absurd (let bad : 0 ≡ suc (suc r) = h in cc)
    by false true h = absurd (let bad : 1 ≡ suc (suc r) = h in cc)
    by false false h = omega (arith, h)

pub join-place : (c : ℕ) → place_of c ≡ place_of JOIN_CELL → c ≡ JOIN_CELL
join-place c h = by (c == JOIN_CELL) refl (c == FUTEX_CELL) h
  where
    by : (a : Bool) → (c == JOIN_CELL) ≡ a → (b : Bool) → (if a then 0 else if b then 1 else suc (suc c)) ≡ 0 → c ≡ JOIN_CELL
    by true e b h = eqb-true c JOIN_CELL e
    by false e true h = absurd (let bad : 1 ≡ 0 = h in cc)
    by false e false h = absurd (let bad : suc (suc c) ≡ 0 = h in cc)

pub futex-place : (c : ℕ) → place_of c ≡ place_of FUTEX_CELL → c ≡ FUTEX_CELL
futex-place c h = by (c == JOIN_CELL) (c == FUTEX_CELL) refl h
  where
    by : (a b : Bool) → (c == FUTEX_CELL) ≡ b → (if a then 0 else if b then 1 else suc (suc c)) ≡ 1 → c ≡ FUTEX_CELL
    by true b e h = absurd (let bad : 0 ≡ 1 = h in cc)
    by false true e h = eqb-true c FUTEX_CELL e
    by false false e h = absurd (let bad : suc (suc c) ≡ 1 = h in cc)

module _ (s : State) (t x : ℕ) (q : Pending) (rest : Steps) (u c : ℕ) where
  abbrev other : Waiter → Bool
  other v = not (v.thread.0 == u)

  -- at this place, with this answer, or not
  decides : {A : Type 0} (place : ℕ) (answer : Answer) → ((place_of c ≡ place → answer ≡ Answer.Wait → not (t == u) ≡ true) → A)
      → (place_of c ≡ place → answer ≡ Answer.Wait → u ≡ t → A) → A
  decides {A} place answer apart begins = by (place_of c == place) refl (t == u) refl answer refl
    where
      by : (a : Bool) → (place_of c == place) ≡ a → (b : Bool) → (t == u) ≡ b → (given : Answer) → answer ≡ given → A
      by true e true g Answer.Wait k = begins (eqb-true (place_of c) place e) k (sym (eqb-true t u g))
      by true e true g (Answer.Now reply) k = apart (λ h wait. absurd (false≢true (ap says_wait (sym k ∙ wait))))
      by true e false g given k = apart (λ h wait. ap not g)
      by false e b g given k = apart (λ h wait. absurd (true≢false (sym (eq-eqb (place_of c) place h) ∙ e)))

  -- who stands in a cell after the step stood there, or is its thread, which begins to wait there
  pub stood : stands_in u (waiters_in (T.after s t x q rest) c) ≡ true → (stands_in u (waiters_in s c) ≡ true) ⊎ ((u ≡ t) × Begins s t x q c)
  stood h = by (stands_in u (waiters_in s c)) refl
    where
      Goal : Type 0
      Goal = (stands_in u (waiters_in s c) ≡ true) ⊎ ((u ≡ t) × Begins s t x q c)

      by : (b : Bool) → stands_in u (waiters_in s c) ≡ b → Goal
      by true e = inl e
      by false e = which q refl
        where
          none : MayBegin s t x other (place_of c) q → Goal
          none new =
              let before : All other (cell s (place_of c)) = subst (All other) (cell-is s c) (lacks-all u (waiters_in s c) e) in
              let now = cells-after other s (place_of c) before t x q rest new in
              absurd (all-lack u (waiters_in (T.after s t x q rest) c) (subst (All other) (sym (cell-is (T.after s t x q rest) c)) now) h)

          which : (p : Pending) → q ≡ p → Goal
          which (Pending.Work a ask) k =
              decides {A = Goal} (suc (suc (T.row_of s a))) (T.work_of s t a ask).answer (λ new. none (subst (MayBegin s t x other (place_of c)) (sym k) new))
              (λ place wait same. inr (same, subst (λ p. Begins s t x p c) (sym k) (row-place c (T.row_of s a) place, wait)))
          which (Pending.Join who timeout) k =
              decides {A = Goal} (place_of JOIN_CELL) (join_answer s t x who.0 timeout) (λ new. none (subst (MayBegin s t x other (place_of c)) (sym k) new))
              (λ place wait same. inr (same, subst (λ p. Begins s t x p c) (sym k) (join-place c place, wait)))
          which (Pending.FutexWait a value timeout) k =
              decides {A = Goal} (place_of FUTEX_CELL) (futex_answer s t a.0 value timeout) (λ new. none (subst (MayBegin s t x other (place_of c)) (sym k) new))
              (λ place wait same. inr (same, subst (λ p. Begins s t x p c) (sym k) (futex-place c place, wait)))
          which p k = none (subst (MayBegin s t x other (place_of c)) (sym k) tt)

-- Who is taken out of a cell doesn't wait there any more.

without-gone : (t : ℕ) (ws : List Waiter) → stands_in t (without t ws) ≡ true → ⊥
without-gone t [] h = false≢true h
without-gone t (w ∷ ws) h = by (w.thread.0 == t) refl h (without-gone t ws)
  where
    by : (b : Bool) → (w.thread.0 == t) ≡ b → stands_in t (cond (not b) (w ∷ without t ws) (without t ws)) ≡ true → (stands_in t (without t ws) ≡ true → ⊥) → ⊥
    by true e h more = more h
    by false e h more = more (sym (ap (λ b. b || stands_in t (without t ws)) e) ∙ h)

put-out : (s : State) (t x : ℕ) → stands_in t (cell (with_waiters s x (without t (waiters_in s x))) (place_of x)) ≡ true → ⊥
put-out s t x h = by (waiters-put s x (without t (waiters_in s x)) (place_of x))
  where
    by : IsPut s (place_of x) (without t (waiters_in s x)) (with_waiters s x (without t (waiters_in s x))) (place_of x) → ⊥
    by (inl (other, same)) = other refl
    by (inr (here, inl these)) = without-gone t (waiters_in s x) (sym (ap (stands_in t) these) ∙ h)
    by (inr (here, inr none)) = false≢true (sym (ap (stands_in t) none) ∙ h)

pub timed-out-gone : (s : State) (t x : ℕ) (who : ThreadIx) (rest : Steps) → stands_in who.0 (waiters_in (T.after s t x (Pending.TimeOut who) rest) x) ≡ true → ⊥
timed-out-gone s t x who rest h =
    let u = with_waiters s x (without who.0 (waiters_in s x)) in
    let woken : cell (T.after s t x (Pending.TimeOut who) rest) (place_of x) ≡ cell u (place_of x) =
    woken-by (λ (z : State). cell z (place_of x) ≡ cell u (place_of x)) (λ z v told e. e) (told_late who x) u refl in
    put-out s who.0 x (sym (ap (stands_in who.0) (cell-is (T.after s t x (Pending.TimeOut who) rest) x ∙ woken)) ∙ h)

pub cut-gone : (s : State) (t x : ℕ) (who : ThreadIx) (rest : Steps) → stands_in who.0 (waiters_in (T.after s t x (Pending.Cut who) rest) x) ≡ true → ⊥
cut-gone s t x who rest h = put-out s who.0 x (sym (ap (stands_in who.0) (cell-is (T.after s t x (Pending.Cut who) rest) x)) ∙ h)
