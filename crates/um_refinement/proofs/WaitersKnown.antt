-- In every state that a run of a described image reaches, the deadline with which a thread waits in a cell is that of its call, and one that waits on
-- an object holds it: a step leaves the deadline and the claims of each thread that waits then.
use Rattle.um_refinement.proofs.Words.{◌≡◌, ◌≢◌, ◌⊎◌, ◌<◌, nat_lt, lt-ltb, slice_index_or, ROWS, Addr, Ask, IsTrue, Effect, is_spared, inl, inr, ℕ, Bool, true, false, List, [], ◌∷◌, Option, Some, None, refl, sym, ap, ◌∙◌, subst, ◌==◌, ◌||◌, is_some, not, if◌then◌else◌, list_all, and_from, and_parts, eq-eqb, eqb-false, eqb-true, false≢true, true≢false, not-true, Answer, Event, Image, More, FineAct, Waiter, Pending, Thread, Steps, Next, State, nobody, thread_at, MayChoose, Offers, Runs, begins, exits, goes, opening, skips_drops, skips_inherit, tends, at_set, core_of, IsKnown, IsDescribed, Ignores, all_other, effects_of, next_of, gone, key-same, keys-after, keys-wrote, wrote, work_change}
use Rattle.um_base.specs.declared.limits.TheConstants.{FUTEX_CELL, JOIN_CELL}
use Rattle.um_invariants.proofs.ThreadCells.{cell, cell-is, place_of}
use Rattle.um_invariants.proofs.ThreadWords.{is_beside}
use Rattle.um_machine.specs.Goes.{changed, went}
use Rattle.um_machine.specs.Run.{is_tending, leaves, stops}
use Rattle.um_machine.specs.State.{is_to_resume, is_waiting, waiters_in}
use Rattle.um_machine.specs.Table as T
use Rattle.um_machine.specs.Writes.{cut}
use Rattle.um_fine.specs.Seeking.{deadline_of, stands_in}
use Rattle.um_refinement.proofs.Erased.{IsReachable, reach-on}
use Rattle.um_refinement.proofs.FirstThreads.{new-thread}
use Rattle.um_refinement.proofs.SuitsKnown.{waits-known, works-known}
use Rattle.um_refinement.proofs.WaitersFound.{WaitersWait}
use Rattle.um_refinement.proofs.WaitersLeft.{All}
use Rattle.um_refinement.proofs.WaitSteps.{Begins, MayBegin, cells-after, futex-place, join-place, row-place, stood}

-- The deadlines of waiters.

abbrev same_until : Option ℕ → Option ℕ → Bool
same_until None None = true
same_until (Some a) (Some b) = a == b
same_until a b = false

until-itself : (o : Option ℕ) → same_until o o ≡ true
until-itself None = refl
until-itself (Some a) = eq-eqb a a refl

until-is : (a b : Option ℕ) → same_until a b ≡ true → a ≡ b
until-is None None h = refl
until-is (Some a) (Some b) h = ap Some (eqb-true a b h)
until-is None (Some b) h = absurd (false≢true h)
until-is (Some a) None h = absurd (false≢true h)

abbrev fits : State → Waiter → Bool
fits m v = same_until v.until (thread_at m v.thread.0).until

abbrev AllFit : State → Type 0
AllFit m = (c : ℕ) → All (fits m) (waiters_in m c)

-- the deadline with which a thread waits is that of its call
abbrev pub UntilsAre : State → Type 0
UntilsAre m = (c t : ℕ) → stands_in t (waiters_in m c) ≡ true → deadline_of t (waiters_in m c) ≡ (thread_at m t).until

fit-until : (m : State) (t : ℕ) (ws : List Waiter) → All (fits m) ws → stands_in t ws ≡ true → deadline_of t ws ≡ (thread_at m t).until
fit-until m t [] all h = absurd (false≢true h)
fit-until m t (w ∷ ws) all h = by (w.thread.0 == t) refl h (fit-until m t ws parts.1)
  where
    parts : (fits m w ≡ true) × All (fits m) ws
    parts = and_parts (fits m w) (list_all (fits m) ws) all

    by : (b : Bool) → (w.thread.0 == t) ≡ b → (b || stands_in t ws) ≡ true → (stands_in t ws ≡ true → deadline_of t ws ≡ (thread_at m t).until) → (if b then w.until else deadline_of t ws) ≡ (thread_at m t).until
    by true e h more = until-is w.until (thread_at m w.thread.0).until parts.0 ∙ ap (λ n. (thread_at m n).until) (eqb-true w.thread.0 t e)
    by false e h more = more h

-- what is so of each who stands there
among : (P Q : Waiter → Bool) (ws : List Waiter) → ((v : Waiter) → stands_in v.thread.0 ws ≡ true → P v ≡ true → Q v ≡ true) → All P ws → All Q ws
among P Q [] h all = refl
among P Q (w ∷ ws) h all =
    let parts = and_parts (P w) (list_all P ws) all in
    and_from (Q w) (list_all Q ws) (h w (ap (λ b. b || stands_in w.thread.0 ws) (eq-eqb w.thread.0 w.thread.0 refl)) parts.0)
    (among P Q ws (λ v stands is. h v (more (w.thread.0 == v.thread.0) (stands_in v.thread.0 ws) stands) is) parts.1)
  where
    more : (a b : Bool) → b ≡ true → (a || b) ≡ true
    more true b h = refl
    more false b h = h

nobody-stands : (P : Waiter → Bool) (ws : List Waiter) → ((u : ℕ) → stands_in u ws ≡ true → ⊥) → All P ws
nobody-stands P [] h = refl
nobody-stands P (w ∷ ws) h = absurd (h w.thread.0 (ap (λ b. b || stands_in w.thread.0 ws) (eq-eqb w.thread.0 w.thread.0 refl)))

-- who waits on an object holds it
abbrev holds : State → ℕ → Waiter → Bool
holds m c v = not (nat_lt c ROWS) || slice_index_or (thread_at m v.thread.0).checked c false

abbrev AllHold : State → Type 0
AllHold m = (c : ℕ) → All (holds m c) (waiters_in m c)

abbrev pub WaitersHold : State → Type 0
WaitersHold m = (c t : ℕ) → c < ROWS → stands_in t (waiters_in m c) ≡ true → slice_index_or (thread_at m t).checked c false ≡ true

hold-so : (m : State) (c t : ℕ) (ws : List Waiter) → c < ROWS → All (holds m c) ws → stands_in t ws ≡ true → slice_index_or (thread_at m t).checked c false ≡ true
hold-so m c t [] few all h = absurd (false≢true h)
hold-so m c t (w ∷ ws) few all h = by (w.thread.0 == t) refl h (hold-so m c t ws few parts.1)
  where
    parts : (holds m c w ≡ true) × All (holds m c) ws
    parts = and_parts (holds m c w) (list_all (holds m c) ws) all

    by : (b : Bool) → (w.thread.0 == t) ≡ b → (b || stands_in t ws) ≡ true → (stands_in t ws ≡ true → slice_index_or (thread_at m t).checked c false ≡ true) → slice_index_or (thread_at m t).checked c false ≡ true
    by true e h more =
        subst (λ n. slice_index_or (thread_at m n).checked c false ≡ true) (eqb-true w.thread.0 t e)
        (sym (ap (λ b. not b || slice_index_or (thread_at m w.thread.0).checked c false) (lt-ltb c ROWS few)) ∙ parts.0)
    by false e h more = more h

-- what of a thread is left while it waits
abbrev key_of : Thread → Option ℕ × List Bool
key_of me = (me.until, me.checked)

ignores : Ignores key_of all_other
ignores = record { due = λ h me due. refl; told = λ h me told. refl; domain = λ h me domain. refl; doomed = λ h me. refl; flagged = λ h me aborted suspended. refl }

-- A step leaves the deadline of each thread that waits then.
module _ (s : State) (t x : ℕ) (waits : WaitersWait s) where
  -- who waits makes no step of its own
  awake-now : (rest : Steps) → is_waiting (thread_at s t) ≡ true → (thread_at s t).pending ≡ rest → is_to_resume rest ≡ true
  awake-now rest h e = sym (ap is_to_resume e) ∙ (and_parts (is_to_resume (thread_at s t).pending) (not (is_some (thread_at s t).told)) h).0

  resumed : (q : Pending) (rest : Steps) → is_to_resume (q ∷ rest) ≡ true → MayChoose s t x q → is_waiting (thread_at s t) ≡ true → ⊥
  resumed Pending.Resume rest h chosen is =
      let none = not-true (is_some (thread_at s t).told) (and_parts (is_to_resume (thread_at s t).pending) (not (is_some (thread_at s t).told)) is).1 in true≢false (sym (ap is_some chosen.1) ∙ none)
  resumed q rest h chosen is = false≢true h

  pub own-apart : (q : Pending) (rest : Steps) → Offers s t q rest → is_beside q ≡ false → MayChoose s t x q → is_waiting (thread_at s t) ≡ true → ⊥
  own-apart q rest offers own chosen h = by offers own chosen
    where
      by : {q : Pending} {rest : Steps} → Offers s t q rest → is_beside q ≡ false → MayChoose s t x q → ⊥
      by (goes {p} {rest} e) own chosen = resumed p rest (awake-now (p ∷ rest) h e) chosen h
      by (skips_inherit {who} {p} {rest} e due) own chosen = false≢true (awake-now (Pending.Inherit who ∷ p ∷ rest) h e)
      by (skips_drops {from} {p} {rest} e due) own chosen = false≢true (awake-now (Pending.Drops from ∷ p ∷ rest) h e)
      by (begins e lives may there) own chosen = false≢true (awake-now [] h e)
      by (exits e lives may there) own chosen = false≢true (awake-now [] h e)
      by (stops e lives must) own chosen = false≢true (awake-now [] h e)
      by (leaves ends) own chosen = true≢false own
      by (tends {p} is started) own chosen = true≢false (sym (beside p is) ∙ own)
        where
          beside : (p : Pending) → IsTrue (is_tending p) → is_beside p ≡ true
          beside Pending.Left is = refl
          beside p is = is

  abbrev Kept : ℕ → Thread → Type 0
  Kept u me = (key_of me ≡ key_of (thread_at s u)) ⊎ (is_to_resume me.pending ≡ false)

  module _ (q : Pending) (rest : Steps) where
    abbrev next : State
    next = T.after s t x q rest

    all-same : list_all (λ (w : Bool × Effect). is_spared all_other w.1) (effects_of s t x q) ≡ true → ((u : State) (me : Thread) → key_of (gone rest u t (next_of s t x q) me) ≡ key_of me)
        → (u : ℕ) → key_of (thread_at next u) ≡ key_of (thread_at s u)
    all-same spared same u = key-same key_of s next (keys-after key_of all_other ignores s t x q rest spared same) u

    -- another thread
    wrote-same : list_all (λ (w : Bool × Effect). is_spared all_other w.1) (effects_of s t x q) ≡ true → (u : ℕ) → Kept u (thread_at (wrote (effects_of s t x q) s) u)
    wrote-same spared u = inl (key-same key_of s (wrote (effects_of s t x q) s) (keys-wrote key_of all_other ignores (effects_of s t x q) s spared) u)

    went-other : (w : State) (next : Next) (u : ℕ) → u ≢ t → Kept u (thread_at w u) → Kept u (thread_at (went rest w t next) u)
    went-other w Next.stays u other h = h
    went-other w (Next.begins None) u other h = h
    went-other w (Next.resumes None) u other h = h
    went-other w next u other h =
        at_set (λ n (z : Thread). n ≢ t → Kept n z) w.threads t u (gone rest w t next (thread_at w t)) nobody (λ no. absurd (no refl)) (λ no. h) other

  others-wrote : (q : Pending) → is_beside q ≡ false → (u : ℕ) → Kept u (thread_at (wrote (effects_of s t x q) s) u)
  others-wrote (Pending.Start who script stack priority mode) own u =
      at_set Kept s.threads who.0 u (T.newborn s (thread_at s t) who.0 script (Pending.Start who script stack priority mode)) nobody (inr refl) (inl refl)
  others-wrote (Pending.Cut who) own u = absurd (true≢false own)
  others-wrote q own u = wrote-same q [] refl u

  works-same : (answer : Answer) (came : List ℕ) (me : Thread) → key_of (changed (work_change answer came) me) ≡ key_of me
  works-same Answer.Wait came me = refl
  works-same (Answer.Now reply) came me = refl

  -- the thread itself, where it begins to wait
  begun : (q : Pending) (rest : Steps) (c : ℕ) → Begins s t x q c → (u : ℕ) → key_of (thread_at (T.after s t x q rest) u) ≡ key_of (thread_at s u)
  begun (Pending.Work a ask) rest c h u = all-same (Pending.Work a ask) rest refl (λ u me. works-same _ _ me) u
  begun (Pending.Join who timeout) rest c h u = all-same (Pending.Join who timeout) rest refl (λ u me. works-same _ _ me) u
  begun (Pending.FutexWait a value timeout) rest c h u = all-same (Pending.FutexWait a value timeout) rest refl (λ u me. works-same _ _ me) u
  begun q rest c h u = absurd h

  -- a step beside those of an instruction
  beside-same : (q : Pending) (rest : Steps) → is_beside q ≡ true → (u : ℕ) → key_of (thread_at (T.after s t x q rest) u) ≡ key_of (thread_at s u)
  beside-same (Pending.CleanPair who) rest h u = all-same (Pending.CleanPair who) rest refl (λ u me. refl) u
  beside-same Pending.Recycle rest h u = all-same Pending.Recycle rest refl (λ u me. refl) u
  beside-same Pending.Left rest h u = all-same Pending.Left rest refl (λ u me. refl) u
  beside-same Pending.Tick rest h u = all-same Pending.Tick rest refl (λ u me. refl) u
  beside-same (Pending.TimeOut who) rest h u = all-same (Pending.TimeOut who) rest refl (λ u me. refl) u
  beside-same Pending.Expire rest h u = all-same Pending.Expire rest refl (λ u me. refl) u
  beside-same (Pending.Cut who) rest h u =
      at_set (λ n (z : Thread). key_of z ≡ key_of (thread_at s n)) s.threads who.0 u (cut (thread_at s who.0)) nobody refl refl
  beside-same q rest h u = absurd (false≢true h)

  module _ (q : Pending) (rest : Steps) (offers : Offers s t q rest) (chosen : MayChoose s t x q) (later : WaitersWait (T.after s t x q rest)) where
    pub key-left : (c u : ℕ) → stands_in u (waiters_in (T.after s t x q rest) c) ≡ true → key_of (thread_at (T.after s t x q rest) u) ≡ key_of (thread_at s u)
    key-left c u stands = by (is_beside q) refl (u == t) refl
      where
        Goal : Type 0
        Goal = key_of (thread_at (T.after s t x q rest) u) ≡ key_of (thread_at s u)

        kept : Kept u (thread_at (T.after s t x q rest) u) → Goal
        kept (inl same) = same
        kept (inr asleep) =
            let th = thread_at (T.after s t x q rest) u in
            absurd (true≢false (sym (and_parts (is_to_resume th.pending) (not (is_some th.told)) (later c u stands)).0 ∙ asleep))

        mine : is_beside q ≡ false → u ≡ t → (stands_in u (waiters_in s c) ≡ true) ⊎ ((u ≡ t) × Begins s t x q c) → Goal
        mine own same (inl was) = absurd (own-apart q rest offers own chosen (subst (λ n. is_waiting (thread_at s n) ≡ true) same (waits c u was)))
        mine own same (inr starts) = begun q rest c starts.1 u

        by : (a : Bool) → is_beside q ≡ a → (b : Bool) → (u == t) ≡ b → Goal
        by true a b e = beside-same q rest a u
        by false a true e = mine a (eqb-true u t e) (stood s t x q rest u c stands)
        by false a false e = kept (went-other q rest (wrote (effects_of s t x q) s) (next_of s t x q) u (eqb-false u t e) (others-wrote q a u))

    -- who begins to wait stands with its own deadline
    new-fits : (y : ℕ) → MayBegin s t x (fits s) y q
    new-fits y = which q
      where
        which : (p : Pending) → MayBegin s t x (fits s) y p
        which (Pending.Work a ask) = λ here wait. until-itself (thread_at s t).until
        which (Pending.Join who timeout) = λ here wait. until-itself (thread_at s t).until
        which (Pending.FutexWait a value timeout) = λ here wait. until-itself (thread_at s t).until
        which p = tt

    fit-after : AllFit s → AllFit (T.after s t x q rest)
    fit-after all c =
        let now = cells-after (fits s) s (place_of c) (subst (All (fits s)) (cell-is s c) (all c)) t x q rest (new-fits (place_of c)) in
        let there = subst (All (fits s)) (sym (cell-is (T.after s t x q rest) c)) now in
        among (fits s) (fits (T.after s t x q rest)) (waiters_in (T.after s t x q rest) c) (λ v stands is. subst (λ (o : Option ℕ). same_until v.until o ≡ true) (λ i. (sym (key-left c v.thread.0 stands) i).0) is) there

    -- who begins to wait on an object holds it
    module _ (works : (a : Addr) (ask : Ask) → q ≡ Pending.Work a ask → slice_index_or (thread_at s t).checked (T.row_of s a) false ≡ true) where
      new-holds : (c : ℕ) → MayBegin s t x (holds s c) (place_of c) q
      new-holds c = which q refl
        where
          outside : (cell : ℕ) → c ≡ cell → nat_lt cell ROWS ≡ false → (held : Bool) → (not (nat_lt c ROWS) || held) ≡ true
          outside cell same past held = ap (λ b. not b || held) (ap (λ n. nat_lt n ROWS) same ∙ past)

          inside : (b : Bool) → b ≡ true → (a : Bool) → (not a || b) ≡ true
          inside b h true = h
          inside b h false = refl

          which : (p : Pending) → q ≡ p → MayBegin s t x (holds s c) (place_of c) p
          which (Pending.Work a ask) k = λ here wait. inside _ (subst (λ n. slice_index_or (thread_at s t).checked n false ≡ true) (sym (row-place c (T.row_of s a) here)) (works a ask k)) (nat_lt c ROWS)
          which (Pending.Join who timeout) k = λ here wait. outside JOIN_CELL (join-place c here) refl _
          which (Pending.FutexWait a value timeout) k = λ here wait. outside FUTEX_CELL (futex-place c here) refl _
          which p k = tt

      hold-after : AllHold s → AllHold (T.after s t x q rest)
      hold-after all c =
          let now = cells-after (holds s c) s (place_of c) (subst (All (holds s c)) (cell-is s c) (all c)) t x q rest (new-holds c) in
          let there = subst (All (holds s c)) (sym (cell-is (T.after s t x q rest) c)) now in
          among (holds s c) (holds (T.after s t x q rest) c) (waiters_in (T.after s t x q rest) c)
          (λ v stands is. subst (λ (held : List Bool). (not (nat_lt c ROWS) || slice_index_or held c false) ≡ true) (λ i. (sym (key-left c v.thread.0 stands) i).1) is) there

module _ (image : Image) (cpus : ℕ) (described : IsDescribed image) (known : IsKnown (core_of (opening image))) where
  abbrev AllSo : State → Type 0
  AllSo s = AllFit s × AllHold s

  so-run : (s : State) (events : List Event) (last : State) → IsReachable image cpus s → AllSo s → Runs s events last → AllSo last
  so-run s [] last reach all run = subst AllSo (sym run) all
  so-run s (event ∷ events) last reach all (mid, step, rest) =
      let onwards = reach-on image cpus s mid (FineAct.Shown event More.Nothing) reach step in
      let t = event.thread.0 in
      let waits = waits-known image cpus described known s reach in
      let later = subst WaitersWait step.leaves (waits-known image cpus described known mid onwards) in
      let fit = fit-after s t step.row waits step.step step.rest step.offered step.chosen later all.0 in
      let works : (a : Addr) (ask : Ask) → step.step ≡ Pending.Work a ask → slice_index_or (thread_at s t).checked (T.row_of s a) false ≡ true =
      λ a ask same. works-known image cpus described known s reach t a ask step.rest (subst (λ q. Offers s t q step.rest) same step.offered) in
      let hold = hold-after s t step.row waits step.step step.rest step.offered step.chosen later works all.1 in
      so-run mid events last onwards (subst AllSo (sym step.leaves) (fit, hold)) rest

  -- at the opening nobody waits
  none-stands : (c u : ℕ) → stands_in u (waiters_in (opening image) c) ≡ true → ⊥
  none-stands c u stands =
      let th = thread_at (opening image) u in
      let waits = (and_parts (is_to_resume th.pending) (not (is_some th.told)) (waits-known image cpus described known (opening image) ([], refl) c u stands)).0 in
      false≢true (sym (ap is_to_resume (new-thread image u).rests) ∙ waits)

  opening-so : AllSo (opening image)
  opening-so = (
    λ c. nobody-stands (fits (opening image)) (waiters_in (opening image) c) (none-stands c),
    λ c. nobody-stands (holds (opening image) c) (waiters_in (opening image) c) (none-stands c),
  )

  all-known : (m : State) → IsReachable image cpus m → AllSo m
  all-known m reach = so-run (opening image) reach.0 m ([], refl) opening-so reach.1

  pub untils-known : (m : State) → IsReachable image cpus m → UntilsAre m
  untils-known m reach c t = fit-until m t (waiters_in m c) ((all-known m reach).0 c)

  pub holds-known : (m : State) → IsReachable image cpus m → WaitersHold m
  holds-known m reach c t few = hold-so m c t (waiters_in m c) few ((all-known m reach).1 c)
