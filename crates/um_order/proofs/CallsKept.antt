-- Where at most one thread is within a call, as on one processor: each thread that is aborted or doomed has no step left by which it acts in a cell, or stops
-- or goes on with a thread; and while one dooms all, no other one is within a call. Each step of the machine keeps that.
use Rattle.std.specs.Prelude.{IsTrue, ◌||◌, not, nat_lt, ◌==◌, if◌then◌else◌, slice_index_or}
use Rattle.std.proofs.Common.{◌≡◌, ◌≢◌, ◌⊎◌, inl, inr, ℕ, ◌+◌, ◌<◌, ◌≤◌, arith, length, Bool, true, false, List, [], ◌∷◌, refl, sym, ap, ◌∙◌, subst, zero, suc}
use Rattle.std.proofs.lemmas.Bool.{and_parts, false≢true, true≢false, eqb-true, eqb-false, ltb-false, ltb-true}
use Rattle.std.proofs.lemmas.List.{get_or-set_same, length-set}
use Rattle.um_base.specs.declared.limits.TheConstants.{THREADS}
use Rattle.um_machine.specs.Goes.{Next, next_doom, went}
use Rattle.um_machine.specs.Order.{Steps}
use Rattle.um_machine.specs.Run.{MayChoose, Offers, goes, skips_inherit, skips_drops, begins, exits, leaves, stops, tends, may_go, is_tending}
use Rattle.um_machine.specs.State.{State, nobody, thread_at, with_thread, is_waiting, is_to_resume}
use Rattle.um_machine.specs.Table as T
use Rattle.um_machine.specs.declared.pending.Pending.{Pending}
use Rattle.um_machine.specs.declared.thread.Thread.{Thread}
use Rattle.um_machine.proofs.AfterLemmas.{after-is}
use Rattle.um_invariants.proofs.Cores.{at_set}
use Rattle.um_invariants.proofs.ThreadWords.{is_beside}
use Rattle.um_refinement.proofs.CallSteps.{Proper}
use Rattle.um_refinement.proofs.CallsProper.{AreProper}
use Rattle.um_order.proofs.CallsMoved.{is_odd, odd-not, DoomsFrom, IsNow, calls, dooms, is_begin, now-is, stays, waits}
use Rattle.um_order.proofs.OneAct.{Calls, IsCall, IsSettled, Quiet, calls-call, is_asking, quiet-calls, quiet-settled}
use Rattle.um_order.proofs.ThreadsMoved.{beside-left, AbortsIt, AreFlagged, DoomsIt, IsShort, Shortens, flags-left, other-left, short-quiet}

-- not within a call: at rest, in a wait or behind one, or to be killed
abbrev pub IsBack : Steps → Type 0
IsBack [] = Unit {0}
IsBack (Pending.Resume ∷ rest) = Unit {0}
IsBack (Pending.Killed ∷ rest) = rest ≡ []
IsBack (q ∷ rest) = ⊥

-- of two threads one isn't within a call
abbrev pub AtMostOne : State → Type 0
AtMostOne m = (v w : ℕ) → v ≢ w → IsBack (thread_at m v).pending ⊎ IsBack (thread_at m w).pending

abbrev pub AllDoomed : State → Type 0
AllDoomed m = (v : ℕ) → v < THREADS → (thread_at m v).doomed ≡ true

abbrev pub IsDooming : State → Type 0
IsDooming m = (d from : ℕ) × (rest : Steps) × ((thread_at m d).pending ≡ Pending.Dooms from ∷ rest)

abbrev pub IsStopped : Thread → Type 0
IsStopped me = (me.aborted ≡ true) ⊎ (me.doomed ≡ true)

-- what one processor keeps of the steps that threads have left
pub record AreCalls (m : State) : Type 0 where
  pub calls : (v : ℕ) → IsCall (thread_at m v).pending
  pub stopped : (v : ℕ) → IsStopped (thread_at m v) → IsSettled (thread_at m v).pending
  pub doomed : (v from : ℕ) (rest : Steps) → (thread_at m v).pending ≡ Pending.Dooms from ∷ rest → (u : ℕ) → u < from → u < THREADS → (thread_at m u).doomed ≡ true
  pub all : (u : ℕ) → (thread_at m u).doomed ≡ true → AllDoomed m ⊎ IsDooming m

pub back-settled : (steps : Steps) → IsCall steps → IsBack steps → IsSettled steps
back-settled [] h k = tt
back-settled (Pending.Resume ∷ rest) h k = h
back-settled (Pending.Killed ∷ rest) h k = subst Quiet (sym k) tt
back-settled (q ∷ rest) h k = absurd k

-- a doom comes first
abbrev has_doom : Steps → Bool
has_doom (Pending.Dooms from ∷ rest) = true
has_doom steps = false

not-free : (doomed suspended : Bool) → not (doomed || true || suspended) ≡ false
not-free true suspended = refl
not-free false suspended = refl

module _ (s : State) (t x : ℕ) (q : Pending) (rest : Steps) (offers : Offers s t q rest) (chosen : MayChoose s t x q) (proper : AreProper s.image s) (many : length s.threads ≡ THREADS)
    (one : AtMostOne s) (was : AreCalls s) where
  abbrev s2 : State
  s2 = T.after s t x q rest

  abbrev left_of : ℕ → Steps
  left_of v = (thread_at (T.after s t x q rest) v).pending

  now : IsNow s t q (left_of t)
  now = now-is s t x proper (was.calls t) q rest offers chosen

  flags : (v : ℕ) → AreFlagged s v q (thread_at (T.after s t x q rest) v)
  flags v = flags-left s t x v q rest

  short-call : (steps : Steps) → IsShort steps → IsCall steps
  short-call steps h = calls-call steps (quiet-calls steps (short-quiet steps h))

  -- the thread of the step, or another one
  each : {A : Type 0} (v : ℕ) → (v ≡ t → A) → (v ≢ t → A) → A
  each {A} v mine other = by (v == t) refl
    where
      by : (b : Bool) → (v == t) ≡ b → A
      by true e = mine (eqb-true v t e)
      by false e = other (eqb-false v t e)

  calls-mine : IsCall (left_of t)
  calls-mine = by now
    where
      by : IsNow s t q (left_of t) → IsCall (left_of t)
      by (calls h g) = calls-call (left_of t) h
      by (dooms from e h) = subst IsCall (sym e) refl
      by (waits left act e h) = subst IsCall (sym e) h
      by (stays beside (inl same)) = subst IsCall (sym same) (was.calls t)
      by (stays beside (inr short)) = short-call (left_of t) short.0

  calls-other : (v : ℕ) → v ≢ t → IsCall (left_of v)
  calls-other v other = by (other-left s t x v q other rest).pending
    where
      by : ((left_of v) ≡ (thread_at s v).pending) ⊎ (IsShort (left_of v) × Shortens v q) → IsCall (left_of v)
      by (inl same) = subst IsCall (sym same) (was.calls v)
      by (inr short) = short-call (left_of v) short.0

  -- who had none of those steps left has none
  settled-mine : is_begin q ≡ false → (is_asking q ≡ true) ⊎ IsSettled (thread_at s t).pending → IsSettled (left_of t)
  settled-mine calm h = by now
    where
      beside_of : (p : Pending) → is_beside p ≡ true → is_asking p ≡ true → ⊥
      beside_of (Pending.Work a ask) k g = false≢true k
      beside_of (Pending.Join who timeout) k g = false≢true k
      beside_of (Pending.FutexWait a value timeout) k g = false≢true k
      beside_of (Pending.Abort who) k g = false≢true k
      beside_of (Pending.Suspend who) k g = false≢true k
      beside_of (Pending.Continue who) k g = false≢true k
      beside_of p k g = false≢true g

      before : is_beside q ≡ true → (is_asking q ≡ true) ⊎ IsSettled (thread_at s t).pending → IsSettled (thread_at s t).pending
      before beside (inl asking) = absurd (beside_of q beside asking)
      before beside (inr settled) = settled

      by : IsNow s t q (left_of t) → IsSettled (left_of t)
      by (calls k g) = quiet-settled (left_of t) (g calm h)
      by (dooms from e k) = subst IsSettled (sym e) refl
      by (waits left act e k) = subst IsSettled (sym e) k
      by (stays beside (inl same)) = subst IsSettled (sym same) (before beside h)
      by (stays beside (inr short)) = quiet-settled (left_of t) (short-quiet (left_of t) short.0)

  settled-other : (v : ℕ) → v ≢ t → IsSettled (thread_at s v).pending → IsSettled (left_of v)
  settled-other v other h = by (other-left s t x v q other rest).pending
    where
      by : ((left_of v) ≡ (thread_at s v).pending) ⊎ (IsShort (left_of v) × Shortens v q) → IsSettled (left_of v)
      by (inl same) = subst IsSettled (sym same) h
      by (inr short) = quiet-settled (left_of v) (short-quiet (left_of v) short.0)

  -- where the thread of the step is within a call, no other one is
  others-settled : (IsBack (thread_at s t).pending → ⊥) → (v : ℕ) → v ≢ t → IsSettled (thread_at s v).pending
  others-settled within v other = by (one v t other)
    where
      by : IsBack (thread_at s v).pending ⊎ IsBack (thread_at s t).pending → IsSettled (thread_at s v).pending
      by (inl back) = back-settled (thread_at s v).pending (was.calls v) back
      by (inr back) = absurd (within back)

  -- who makes such a step is within a call
  abbrev pub is_within : Pending → Bool
  is_within (Pending.Dooms from) = true
  is_within (Pending.Start who script stack priority mode) = true
  is_within p = is_asking p

  pub within : (p : Pending) (left : Steps) → Offers s t p left → is_within p ≡ true → IsBack (thread_at s t).pending → ⊥
  within p left o h back = by o h
    where
      first : (p : Pending) (left : Steps) → is_within p ≡ true → IsBack (p ∷ left) → ⊥
      first Pending.Resume left h k = false≢true h
      first Pending.Killed left h k = false≢true h
      first p left h k = absurd k

      tending : (p : Pending) → is_tending p ≡ true → is_within p ≡ true → ⊥
      tending (Pending.CleanPair who) h k = false≢true k
      tending Pending.Recycle h k = false≢true k
      tending Pending.Tick h k = false≢true k
      tending (Pending.TimeOut who) h k = false≢true k
      tending Pending.Expire h k = false≢true k
      tending (Pending.Cut who) h k = false≢true k
      tending p h k = false≢true h

      by : {p : Pending} {left : Steps} → Offers s t p left → is_within p ≡ true → ⊥
      by (goes {p} {rest} e) h = first p rest h (subst IsBack e back)
      by (skips_inherit e due) h = subst IsBack e back
      by (skips_drops e due) h = subst IsBack e back
      by (begins e lives may there) h = false≢true h
      by (exits e lives may there) h = false≢true h
      by (stops e lives must) h = false≢true h
      by (leaves ends) h = false≢true h
      by (tends {p} is started) h = tending p is h

  -- who begins a line isn't stopped
  begins-free : is_begin q ≡ true → IsStopped (thread_at s t) → ⊥
  begins-free h stop = by offers h
    where
      first : (p : Pending) → is_begin p ≡ true → p ≡ Pending.Begin
      first Pending.Begin k = refl
      first p k = absurd (false≢true k)

      free : IsTrue (may_go (thread_at s t)) → IsStopped (thread_at s t) → ⊥
      free may (inl aborted) =
          let me = thread_at s t in false≢true (sym (not-free me.doomed me.suspended) ∙ ((λ i. not (me.doomed || sym aborted i || me.suspended)) ∙ may))
      free may (inr doomed) = false≢true (sym (λ i. not (doomed i || (thread_at s t).aborted || (thread_at s t).suspended)) ∙ may)

      tending : (p : Pending) → is_tending p ≡ true → is_begin p ≡ true → ⊥
      tending Pending.Begin k g = false≢true k
      tending p k g = false≢true g

      by : {p : Pending} {left : Steps} → Offers s t p left → is_begin p ≡ true → ⊥
      by (goes {p} {rest} e) k = odd-not s.image (thread_at s t).checked p rest (subst (Proper s.image (thread_at s t).checked) e (proper t).0) (ap is_odd (first p k))
      by (skips_inherit {who} {p} {rest} e due) k = odd-not s.image (thread_at s t).checked p rest (subst (Proper s.image (thread_at s t).checked) e (proper t).0).1 (ap is_odd (first p k))
      by (skips_drops {from} {p} {rest} e due) k = odd-not s.image (thread_at s t).checked p rest (subst (Proper s.image (thread_at s t).checked) e (proper t).0) (ap is_odd (first p k))
      by (begins e lives may there) k = free may stop
      by (exits e lives may there) k = false≢true k
      by (stops e lives must) k = false≢true k
      by (leaves ends) k = false≢true k
      by (tends {p} is started) k = tending p is k

  is-begin : (b : Bool) → is_begin q ≡ b → IsStopped (thread_at s t) → is_begin q ≡ false
  is-begin true e stop = absurd (begins-free e stop)
  is-begin false e stop = e

  -- who was stopped before
  stopped-before : (v : ℕ) → IsStopped (thread_at s v) → IsSettled (left_of v)
  stopped-before v stop =
      each v (λ mine. subst (λ n. IsSettled (left_of n)) (sym mine) (settled-mine (is-begin (is_begin q) refl (subst (λ n. IsStopped (thread_at s n)) mine stop)) (inr (was.stopped t (subst (λ n. IsStopped (thread_at s n)) mine stop)))))
      (λ other. settled-other v other (was.stopped v stop))

  -- the doom of a thread is the first step of the one that dooms
  doom-first : (p : Pending) (left : Steps) → Offers s t p left → (from : ℕ) → p ≡ Pending.Dooms from → (thread_at s t).pending ≡ Pending.Dooms from ∷ left
  doom-first p left o from same = by o same
    where
      of-call : (more : Steps) → IsCall (Pending.Inherit (record { 0 = 0 }) ∷ more) → has_doom more ≡ true → ⊥
      of-call (Pending.Dooms n ∷ more) h k = absurd h
      of-call more h k = absurd (by-none more k h)
        where
          by-none : (more : Steps) → has_doom more ≡ true → Calls more → ⊥
          by-none (Pending.Dooms n ∷ more) k h = h
          by-none [] k h = false≢true k
          by-none (p ∷ more) k h = false≢true k

      tending : (p : Pending) → is_tending p ≡ true → p ≡ Pending.Dooms from → ⊥
      tending p h e = false≢true (sym (ap is_tending e) ∙ h)

      doomed-first : (p : Pending) (more : Steps) → p ≡ Pending.Dooms from → has_doom (p ∷ more) ≡ true
      doomed-first p more e = ap (λ z. has_doom (z ∷ more)) e

      by : {p : Pending} {left : Steps} → Offers s t p left → p ≡ Pending.Dooms from → (thread_at s t).pending ≡ Pending.Dooms from ∷ left
      by (goes {p} {rest} e) k = e ∙ ap (λ z. z ∷ rest) k
      by (skips_inherit {who} {p} {rest} e due) k = absurd (of-call (p ∷ rest) (subst IsCall e (was.calls t)) (doomed-first p rest k))
      by (skips_drops {from = n} {p} {rest} e due) k = absurd (of-call (p ∷ rest) (subst IsCall e (was.calls t)) (doomed-first p rest k))
      by (begins e lives may there) k = absurd (let bad = ap is_begin k in true≢false bad)
      by (exits e lives may there) k = absurd (let bad = ap is_within k in false≢true bad)
      by (stops e lives must) k = absurd (let bad = ap is_within k in false≢true bad)
      by (leaves ends) k = absurd (let bad = ap is_within k in false≢true bad)
      by (tends {p} is started) k = absurd (tending p is k)

  dooming-settled : (from : ℕ) → q ≡ Pending.Dooms from → IsSettled (thread_at s t).pending
  dooming-settled from same =
      let e = doom-first q rest offers from same in
      let none : rest ≡ [] = subst IsCall e (was.calls t) in subst IsSettled (sym e) none

  abort-asks : (p : Pending) (v : ℕ) → AbortsIt s v p → is_asking p ≡ true
  abort-asks (Pending.Abort who) v h = refl
  abort-asks p v h = absurd h

  dooms-whom : (p : Pending) (v : ℕ) → DoomsIt v p → p ≡ Pending.Dooms v
  dooms-whom (Pending.Dooms from) v h = ap Pending.Dooms h
  dooms-whom p v h = absurd h

  asking-within : (p : Pending) → is_asking p ≡ true → is_within p ≡ true
  asking-within (Pending.Dooms from) h = refl
  asking-within (Pending.Start who script stack priority mode) h = refl
  asking-within p h = h

  asking-rises : (p : Pending) → is_within p ≡ true → is_begin p ≡ false
  asking-rises Pending.Begin h = absurd (false≢true h)
  asking-rises p h = refl

  stopped-then : (v : ℕ) → IsStopped (thread_at (T.after s t x q rest) v) → IsSettled (left_of v)
  stopped-then v (inl aborted) = by ((flags v).aborted aborted)
    where
      by : ((thread_at s v).aborted ≡ true) ⊎ AbortsIt s v q → IsSettled (left_of v)
      by (inl before) = stopped-before v (inl before)
      by (inr it) =
          let asking = abort-asks q v it in
          let inside = asking-within q asking in
          each v (λ mine. subst (λ n. IsSettled (left_of n)) (sym mine) (settled-mine (asking-rises q inside) (inl asking)))
          (λ other. settled-other v other (others-settled (within q rest offers inside) v other))
  stopped-then v (inr doomed) = by ((flags v).doomed doomed)
    where
      by : ((thread_at s v).doomed ≡ true) ⊎ DoomsIt v q → IsSettled (left_of v)
      by (inl before) = stopped-before v (inr before)
      by (inr it) =
          let same = dooms-whom q v it in
          let inside = ap is_within same in
          each v (λ mine. subst (λ n. IsSettled (left_of n)) (sym mine) (settled-mine (asking-rises q inside) (inr (dooming-settled v same))))
          (λ other. settled-other v other (others-settled (within q rest offers inside) v other))

  -- A doom of all goes on with the next thread, or is over.

  wide : (me : Thread) (from : ℕ) (left : Steps) → me.pending ≡ Pending.Dooms from ∷ left → (thread_at s t ≡ me) → t < length s.threads
  wide me from left e same = by (nat_lt t (length s.threads)) refl
    where
      beyond : (xs : List Thread) (v : ℕ) → length xs ≤ v → slice_index_or xs v nobody ≡ nobody
      beyond [] v l = refl
      beyond (y ∷ ys) zero l = absurd (omega (arith, l))
      beyond (y ∷ ys) (suc v) l = beyond ys v (omega (arith, l))

      by : (b : Bool) → nat_lt t (length s.threads) ≡ b → t < length s.threads
      by true h = ltb-true t (length s.threads) h
      by false h =
          let l = ltb-false t (length s.threads) h in
          absurd (true≢false (sym (ap has_doom (ap (λ (z : Thread). z.pending) same ∙ e)) ∙ ap (λ (z : Thread). has_doom z.pending) (beyond s.threads t l)))

  module _ (from : ℕ) (same : q ≡ Pending.Dooms from) where
    abbrev z1 : State
    z1 = with_thread s from (record (thread_at s from) { doomed = true })

    after-doom : T.after s t x (Pending.Dooms from) rest ≡ went rest z1 t (Next.dooms from)
    after-doom = after-is s t x (Pending.Dooms from) rest

    doomed-now : from < THREADS → (thread_at (T.after s t x q rest) from).doomed ≡ true
    doomed-now few =
        subst (λ p. (thread_at (T.after s t x p rest) from).doomed ≡ true) (sym same)
        (subst (λ (w : State). (thread_at w from).doomed ≡ true) (sym after-doom)
        (at_set (λ n (me : Thread). n ≡ from → me.doomed ≡ true) z1.threads t from (record (thread_at z1 t) { pending = next_doom from }) nobody
        (λ own. ap (λ n. (thread_at z1 n).doomed) own ∙ here) (λ own. here) refl))
      where
        here : (thread_at z1 from).doomed ≡ true
        here = ap (λ (me : Thread). me.doomed) (get_or-set_same s.threads from (record (thread_at s from) { doomed = true }) nobody (omega (arith, few, many)))

    doom-left : nat_lt (from + 1) THREADS ≡ true → left_of t ≡ Pending.Dooms (from + 1) ∷ []
    doom-left more =
        subst (λ p. (thread_at (T.after s t x p rest) t).pending ≡ Pending.Dooms (from + 1) ∷ []) (sym same)
        (subst (λ (w : State). (thread_at w t).pending ≡ Pending.Dooms (from + 1) ∷ []) (sym after-doom)
        (ap (λ (me : Thread). me.pending) (get_or-set_same z1.threads t (record (thread_at z1 t) { pending = next_doom from }) nobody (omega (arith, inside, long)))
        ∙ ap (λ b. if b then Pending.Dooms (from + 1) ∷ [] else []) more))
      where
        first : (thread_at s t).pending ≡ Pending.Dooms from ∷ rest
        first = doom-first q rest offers from same

        inside : t < length s.threads
        inside = wide (thread_at s t) from rest first refl

        long : length z1.threads ≡ length s.threads
        long = length-set s.threads from (record (thread_at s from) { doomed = true })

    doomed-below : (u : ℕ) → u < from + 1 → u < THREADS → (thread_at (T.after s t x q rest) u).doomed ≡ true
    doomed-below u l few = by (u == from) refl
      where
        by : (b : Bool) → (u == from) ≡ b → (thread_at (T.after s t x q rest) u).doomed ≡ true
        by true e = let own = eqb-true u from e in subst (λ n. (thread_at (T.after s t x q rest) n).doomed ≡ true) (sym own) (doomed-now (subst (λ n. n < THREADS) own few))
        by false e =
            let other = eqb-false u from e in
            (flags u).dooms (was.doomed t from rest (doom-first q rest offers from same) u (omega (arith, l, other)) few)

    doom-step : AllDoomed (T.after s t x q rest) ⊎ IsDooming (T.after s t x q rest)
    doom-step = by (nat_lt (from + 1) THREADS) refl
      where
        by : (b : Bool) → nat_lt (from + 1) THREADS ≡ b → AllDoomed (T.after s t x q rest) ⊎ IsDooming (T.after s t x q rest)
        by true e = inr (t, from + 1, [], doom-left e)
        by false e = let past = ltb-false (from + 1) THREADS e in inl (λ v l. doomed-below v (omega (arith, l, past)) l)

  -- whoever dooms all doesn't start, nor is it cut
  dooms-on : (d from : ℕ) (left : Steps) → (thread_at s d).pending ≡ Pending.Dooms from ∷ left → (d ≡ t → is_beside q ≡ true) → Shortens d q → ⊥
  dooms-on d from left e beside short = by q refl short
    where
      by : (p : Pending) → q ≡ p → Shortens d p → ⊥
      by (Pending.Cut who) same h =
          let may : MayChoose s t x (Pending.Cut who) = subst (MayChoose s t x) same chosen in
          let waiting = (and_parts (is_waiting (thread_at s who.0)) _ (and_parts (thread_at s who.0).aborted _ may).1).0 in
          false≢true (sym (ap is_to_resume (ap (λ n. (thread_at s n).pending) h ∙ e)) ∙ (and_parts (is_to_resume (thread_at s who.0).pending) _ waiting).0)
      by (Pending.Start who script stack priority mode) same h = each d (λ mine. false≢true (sym (ap is_beside same) ∙ beside mine)) started
        where
          started : d ≢ t → ⊥
          started other = apart (one d t other)
            where
              apart : IsBack (thread_at s d).pending ⊎ IsBack (thread_at s t).pending → ⊥
              apart (inl back) = subst IsBack e back
              apart (inr back) = within q rest offers (ap is_within same) back
      by p same h = h

  dooming-stays : (d from : ℕ) (left : Steps) → (thread_at s d).pending ≡ Pending.Dooms from ∷ left → AllDoomed (T.after s t x q rest) ⊎ IsDooming (T.after s t x q rest)
  dooming-stays d from left e = each d mine other
    where
      mine : d ≡ t → AllDoomed (T.after s t x q rest) ⊎ IsDooming (T.after s t x q rest)
      mine own = by offers
        where
          here : (thread_at s t).pending ≡ Pending.Dooms from ∷ left
          here = ap (λ n. (thread_at s n).pending) (sym own) ∙ e

          beside-stays : is_beside q ≡ true → AllDoomed (T.after s t x q rest) ⊎ IsDooming (T.after s t x q rest)
          beside-stays beside = which (beside-left s t x q rest beside).pending
            where
              which : (left_of t ≡ (thread_at s t).pending) ⊎ (IsShort (left_of t) × Shortens t q) → AllDoomed (T.after s t x q rest) ⊎ IsDooming (T.after s t x q rest)
              which (inl same) = inr (t, from, left, same ∙ here)
              which (inr short) = absurd (dooms-on t from left here (λ k. beside) short.1)

          first-doom : (steps : Steps) → has_doom steps ≡ true → (p : Pending) (more : Steps) → steps ≡ p ∷ more → has_doom (p ∷ more) ≡ true
          first-doom steps h p more k = ap has_doom (sym k) ∙ h

          doom-of : (p : Pending) (more : Steps) → (thread_at s t).pending ≡ p ∷ more → p ≡ Pending.Dooms from
          doom-of p more k = same-first p (Pending.Dooms from) more left (sym k ∙ here)
            where
              same-first : (p r : Pending) (xs ys : Steps) → ◌≡◌ {A = Steps} (p ∷ xs) (r ∷ ys) → p ≡ r
              same-first p r xs ys h = cc

          tending : (p : Pending) → is_tending p ≡ true → is_beside p ≡ true
          tending Pending.Left h = refl
          tending p h = h

          none : (steps : Steps) → (thread_at s t).pending ≡ steps → has_doom steps ≡ false → ⊥
          none steps k off = true≢false (sym (ap has_doom (sym k ∙ here)) ∙ off)

          by-step : {p : Pending} {more : Steps} → Offers s t p more → (q ≡ p) → AllDoomed (T.after s t x q rest) ⊎ IsDooming (T.after s t x q rest)
          by-step (goes {p} {rest = more} k) same = doom-step from (same ∙ doom-of p more k)
          by-step (skips_inherit {who} {p} {rest = more} k due) same = absurd (none (Pending.Inherit who ∷ p ∷ more) k refl)
          by-step (skips_drops {from = n} {p} {rest = more} k due) same = absurd (none (Pending.Drops n ∷ p ∷ more) k refl)
          by-step (begins k lives may there) same = absurd (none [] k refl)
          by-step (exits k lives may there) same = absurd (none [] k refl)
          by-step (stops k lives must) same = absurd (none [] k refl)
          by-step (leaves ends) same = beside-stays (ap is_beside same)
          by-step (tends {p} is started) same = beside-stays (ap is_beside same ∙ tending p is)

          by : Offers s t q rest → AllDoomed (T.after s t x q rest) ⊎ IsDooming (T.after s t x q rest)
          by o = by-step o refl

      other : d ≢ t → AllDoomed (T.after s t x q rest) ⊎ IsDooming (T.after s t x q rest)
      other apart = by (other-left s t x d q apart rest).pending
        where
          by : (left_of d ≡ (thread_at s d).pending) ⊎ (IsShort (left_of d) × Shortens d q) → AllDoomed (T.after s t x q rest) ⊎ IsDooming (T.after s t x q rest)
          by (inl same) = inr (d, from, left, same ∙ e)
          by (inr short) = absurd (dooms-on d from left e (λ own. absurd (apart own)) short.1)

  all-then : (u : ℕ) → (thread_at (T.after s t x q rest) u).doomed ≡ true → AllDoomed (T.after s t x q rest) ⊎ IsDooming (T.after s t x q rest)
  all-then u doomed = by ((flags u).doomed doomed)
    where
      before : AllDoomed s ⊎ IsDooming s → AllDoomed (T.after s t x q rest) ⊎ IsDooming (T.after s t x q rest)
      before (inl all) = inl (λ v l. (flags v).dooms (all v l))
      before (inr (d, from, left, e)) = dooming-stays d from left e

      by : ((thread_at s u).doomed ≡ true) ⊎ DoomsIt u q → AllDoomed (T.after s t x q rest) ⊎ IsDooming (T.after s t x q rest)
      by (inl h) = before (was.all u h)
      by (inr it) = doom-step u (dooms-whom q u it)

  doomed-then : (v from : ℕ) (left : Steps) → left_of v ≡ Pending.Dooms from ∷ left → (u : ℕ) → u < from → u < THREADS → (thread_at (T.after s t x q rest) u).doomed ≡ true
  doomed-then v from left e u l few = each v (λ own. mine now (ap left_of (sym own) ∙ e)) other
    where
      kept : (w : ℕ) → left_of w ≡ (thread_at s w).pending → left_of w ≡ Pending.Dooms from ∷ left → (thread_at (T.after s t x q rest) u).doomed ≡ true
      kept w same here = (flags u).dooms (was.doomed w from left (sym same ∙ here) u l few)

      other : v ≢ t → (thread_at (T.after s t x q rest) u).doomed ≡ true
      other apart = by (other-left s t x v q apart rest).pending
        where
          by : (left_of v ≡ (thread_at s v).pending) ⊎ (IsShort (left_of v) × Shortens v q) → (thread_at (T.after s t x q rest) u).doomed ≡ true
          by (inl same) = kept v same e
          by (inr short) = absurd (subst IsShort e short.0)

      next : (p : Pending) (n : ℕ) → q ≡ p → DoomsFrom p n → n ≡ from → (thread_at (T.after s t x q rest) u).doomed ≡ true
      next (Pending.Dooms before) n same h k = doomed-below before same u (omega (arith, l, h, k)) few
      next (Pending.Fatal reason cause) n same h k = absurd (omega (arith, l, h, k))
      next p n same h k = absurd h

      same-from : (a b : ℕ) (xs ys : Steps) → ◌≡◌ {A = Steps} (Pending.Dooms a ∷ xs) (Pending.Dooms b ∷ ys) → a ≡ b
      same-from a b xs ys h = cc

      mine : IsNow s t q (left_of t) → left_of t ≡ Pending.Dooms from ∷ left → (thread_at (T.after s t x q rest) u).doomed ≡ true
      mine (calls h g) here = absurd (subst Calls here h)
      mine (dooms n k h) here = next q n refl h (same-from n from [] left (sym k ∙ here))
      mine (waits more act k h) here = absurd (false≢true (ap has_doom (sym k ∙ here)))
      mine (stays beside (inl same)) here = kept t same here
      mine (stays beside (inr short)) here = absurd (subst IsShort here short.0)

  pub calls-after : AreCalls (T.after s t x q rest)
  calls-after =
      record {
        calls = λ v. each v (λ mine. subst (λ n. IsCall (left_of n)) (sym mine) calls-mine) (calls-other v);
        stopped = stopped-then;
        doomed = doomed-then;
        all = all-then;
      }
