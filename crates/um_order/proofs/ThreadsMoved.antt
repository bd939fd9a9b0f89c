-- What a step of the machine leaves of each thread: of one that doesn't make it the steps, unless it is started or cut; who is aborted or doomed then was
-- so before, or is now by that step.
use Rattle.std.specs.List.{list_all}
use Rattle.std.specs.Prelude.{is_some, slice_index_or}
use Rattle.std.proofs.Common.{◌≡◌, ◌≢◌, ◌⊎◌, inl, inr, ℕ, zero, suc, ◌+◌, Bool, true, false, List, [], ◌∷◌, Some, None, refl, sym, ap, ◌∙◌, subst}
use Rattle.std.proofs.lemmas.Bool.{and_parts, false≢true, true≢false}
use Rattle.um_machine.specs.Goes.{Next, gone, went}
use Rattle.um_machine.specs.Order.{Steps}
use Rattle.um_machine.specs.State.{State, is_living, nobody, thread_at, with_thread, is_to_resume, with_pair}
use Rattle.um_machine.specs.Table as T
use Rattle.um_machine.specs.Writes.{Effect, wrote, Effects, Flag, cut, effect, flagged, only}
use Rattle.um_machine.specs.declared.pending.Pending.{Pending}
use Rattle.um_machine.specs.declared.thread.Thread.{Thread}
use Rattle.um_machine.proofs.AfterLemmas.{after-is, bytes-leave}
use Rattle.um_machine.proofs.EffectLemmas.{effects_of, next_of, OfEach, all-wrote, woken-by}
use Rattle.um_machine.proofs.WayLemmas.{changed-same, held-same}
use Rattle.um_invariants.proofs.Cores.{at_set}
use Rattle.um_invariants.proofs.ThreadCells.{set-either}
use Rattle.um_invariants.proofs.ThreadWords.{is_beside}
use Rattle.um_order.proofs.OneAct.{Quiet}

-- nothing is left of a thread that starts, and of one that is cut that it is killed
abbrev pub IsShort : Steps → Type 0
IsShort [] = Unit {0}
IsShort (Pending.Killed ∷ rest) = rest ≡ []
IsShort (q ∷ rest) = ⊥

pub short-quiet : (steps : Steps) → IsShort steps → Quiet steps
short-quiet [] h = tt
short-quiet (Pending.Killed ∷ rest) h = subst Quiet (sym h) tt
short-quiet (q ∷ rest) h = absurd h

pub short-awake : (steps : Steps) → IsShort steps → is_to_resume steps ≡ false
short-awake [] h = refl
short-awake (Pending.Killed ∷ rest) h = refl
short-awake (q ∷ rest) h = absurd h

-- whom a step aborts, and whom it dooms
abbrev pub AbortsIt : State → ℕ → Pending → Type 0
AbortsIt s v (Pending.Abort who) = (who.0 ≡ v) × (is_living (thread_at s who.0).life ≡ true)
AbortsIt s v q = ⊥

abbrev pub DoomsIt : ℕ → Pending → Type 0
DoomsIt v (Pending.Dooms from) = from ≡ v
DoomsIt v q = ⊥

-- which step leaves it so short
abbrev pub Shortens : ℕ → Pending → Type 0
Shortens v (Pending.Start who script stack priority mode) = Unit {0}
Shortens v (Pending.Cut who) = who.0 ≡ v
Shortens v q = ⊥

-- what the writes of a step leave of a thread
pub record IsLeft (s : State) (v : ℕ) (q : Pending) (me : Thread) : Type 0 where
  pub pending : (me.pending ≡ (thread_at s v).pending) ⊎ (IsShort me.pending × Shortens v q)
  pub aborted : me.aborted ≡ true → ((thread_at s v).aborted ≡ true) ⊎ AbortsIt s v q
  pub aborts : (thread_at s v).aborted ≡ true → (me.aborted ≡ true) ⊎ Shortens v q
  pub doomed : me.doomed ≡ true → ((thread_at s v).doomed ≡ true) ⊎ DoomsIt v q
  pub dooms : (thread_at s v).doomed ≡ true → me.doomed ≡ true
  pub told : me.told ≡ None → ((thread_at s v).told ≡ None) ⊎ IsShort me.pending

module _ (s : State) (t x v : ℕ) (q : Pending) where
  abbrev Is : Thread → Type 0
  Is me = IsLeft s v q me

  abbrev Reads : State → Type 0
  Reads z = Is (thread_at z v)

  first : Is (thread_at s v)
  first = record { pending = inl refl; aborted = λ h. inl h; aborts = λ h. inl h; doomed = λ h. inl h; dooms = λ h. h; told = λ h. inl h }

  -- what is known of a write
  abbrev Makes : Effect → Type 0
  Makes (Effect.flags who Flag.aborted) = who ≡ v → AbortsIt s v q
  Makes (Effect.dooms who) = who ≡ v → DoomsIt v q
  Makes (Effect.cuts who) = who ≡ v → Shortens v q
  Makes (Effect.starts who thread) = (thread.pending ≡ []) × (thread.aborted ≡ false) × (thread.doomed ≡ (thread_at s who).doomed) × Shortens v q
  Makes e = Unit {0}

  set : (z : State) (u : ℕ) (th : Thread) → (u ≡ v → Is (thread_at z v) → Is th) → Reads z → Reads (with_thread z u th)
  set z u th new r = at_set (λ n (me : Thread). n ≡ v → Is me) z.threads u v th nobody (λ same. new same r) (λ same. r) refl

  there : {A : Type 0} (z : State) (u : ℕ) (read : Thread → A) → u ≡ v → read (thread_at z v) ≡ read (thread_at z u)
  there z u read same = ap (λ n. read (thread_at z n)) (sym same)

  told-so : (z : State) (u : ℕ) (told : _) → Reads z → Reads (with_thread z u (record (thread_at z u) { told = Some told }))
  told-so z u told r =
      set z u (record (thread_at z u) { told = Some told }) (
      λ same is. let me = subst (λ n. Is (thread_at z n)) (sym same) is in
      record { pending = me.pending; aborted = me.aborted; aborts = me.aborts; doomed = me.doomed; dooms = me.dooms; told = λ none. absurd (true≢false (ap is_some none)) }
      ) r

  dues : (y i : ℕ) (holders : List Bool) (xs : List Thread) (u : ℕ) → Is (slice_index_or xs u nobody) → Is (slice_index_or (T.with_dues y i holders xs) u nobody)
  dues y i holders [] u h = h
  dues y i holders (me ∷ xs) zero h = record { pending = h.pending; aborted = h.aborted; aborts = h.aborts; doomed = h.doomed; dooms = h.dooms; told = h.told }
  dues y i holders (me ∷ xs) (suc u) h = dues y (i + 1) holders xs u h

  keeps : (e : Effect) (z : State) → Makes e → Reads z → Reads (effect e z)
  keeps (Effect.wakes woken) z f r = woken-by Reads told-so woken z r
  keeps (Effect.moves who d) z f r =
      set z who (record (thread_at z who) { domain = d }) (
      λ same is. let me = subst (λ n. Is (thread_at z n)) (sym same) is in
      record { pending = me.pending; aborted = me.aborted; aborts = me.aborts; doomed = me.doomed; dooms = me.dooms; told = me.told }
      ) r
  keeps (Effect.dooms who) z f r =
      set z who (record (thread_at z who) { doomed = true }) (
      λ same is. let me = subst (λ n. Is (thread_at z n)) (sym same) is in
      record { pending = me.pending; aborted = me.aborted; aborts = me.aborts; doomed = λ h. inr (f same); dooms = λ h. refl; told = me.told }
      ) r
  keeps (Effect.flags who Flag.aborted) z f r =
      set z who (flagged Flag.aborted (thread_at z who)) (
      λ same is. let me = subst (λ n. Is (thread_at z n)) (sym same) is in
      record { pending = me.pending; aborted = λ h. inr (f same); aborts = λ h. inl refl; doomed = me.doomed; dooms = me.dooms; told = me.told }
      ) r
  keeps (Effect.flags who (Flag.suspended on)) z f r =
      set z who (flagged (Flag.suspended on) (thread_at z who)) (
      λ same is. let me = subst (λ n. Is (thread_at z n)) (sym same) is in
      record { pending = me.pending; aborted = me.aborted; aborts = me.aborts; doomed = me.doomed; dooms = me.dooms; told = me.told }
      ) r
  keeps (Effect.cuts who) z f r =
      set z who (cut (thread_at z who)) (
      λ same is. let me = subst (λ n. Is (thread_at z n)) (sym same) is in
      record { pending = inr (refl, f same); aborted = me.aborted; aborts = me.aborts; doomed = me.doomed; dooms = me.dooms; told = λ none. inr refl }
      ) r
  keeps (Effect.starts who thread) z f r =
      set z who thread (
      λ same is. record {
        pending = inr (subst IsShort (sym f.0) tt, f.3);
        aborted = λ h. absurd (true≢false (sym h ∙ f.1));
        aborts = λ h. inr f.3;
        doomed = λ h. inl (ap (λ n. (thread_at s n).doomed) (sym same) ∙ (sym f.2 ∙ h));
        dooms = λ h. f.2 ∙ (ap (λ n. (thread_at s n).doomed) same ∙ h);
        told = λ none. inr (subst IsShort (sym f.0) tt);
      }
      ) r
  keeps (Effect.pair who y there) z f r = dues y 0 (slice_index_or (with_pair z who y there).pairs y []) z.threads v r
  keeps (Effect.bytes a bs) z f r = subst Is (sym (bytes-leave (λ (z : State). thread_at z v) (λ z b. refl) (λ z b. refl) z a bs)) r
  keeps e z f r = r

  abbrev is_common : Effect → Bool
  is_common (Effect.flags who Flag.aborted) = false
  is_common (Effect.dooms who) = false
  is_common (Effect.cuts who) = false
  is_common (Effect.starts who thread) = false
  is_common e = true

  common : (e : Effect) → is_common e ≡ true → Makes e
  common (Effect.flags who Flag.aborted) h = absurd (false≢true h)
  common (Effect.dooms who) h = absurd (false≢true h)
  common (Effect.cuts who) h = absurd (false≢true h)
  common (Effect.starts who thread) h = absurd (false≢true h)
  common e h = tt

  all-common : (ws : Effects) → list_all (λ (w : Bool × Effect). is_common w.1) ws ≡ true → OfEach Makes ws
  all-common [] h = tt
  all-common ((b, e) ∷ ws) h = let parts = and_parts (is_common e) (list_all (λ (w : Bool × Effect). is_common w.1) ws) h in (common e parts.0, all-common ws parts.1)

  wrote-by : (p : Pending) → q ≡ p → Reads (wrote (effects_of s t x p) s)
  wrote-by (Pending.Abort who) same = by (is_living (thread_at s who.0).life) refl
    where
      by : (b : Bool) → is_living (thread_at s who.0).life ≡ b → Reads (wrote (only b (Effect.flags who.0 Flag.aborted) ∷ []) s)
      by false e = first
      by true e = keeps (Effect.flags who.0 Flag.aborted) s (λ own. subst (AbortsIt s v) (sym same) (own, e)) first
  wrote-by (Pending.Dooms from) same = all-wrote Reads Makes keeps (effects_of s t x (Pending.Dooms from)) s (λ own. subst (DoomsIt v) (sym same) own, tt) first
  wrote-by (Pending.Start who script stack priority mode) same =
      all-wrote Reads Makes keeps (effects_of s t x (Pending.Start who script stack priority mode)) s ((refl, refl, refl, subst (Shortens v) (sym same) tt), tt) first
  wrote-by (Pending.Cut who) same = all-wrote Reads Makes keeps (effects_of s t x (Pending.Cut who)) s (tt, (λ own. subst (Shortens v) (sym same) own, tt)) first
  wrote-by p same = all-wrote Reads Makes keeps (effects_of s t x p) s (all-common (effects_of s t x p) refl) first

  pub thread-wrote : IsLeft s v q (thread_at (wrote (effects_of s t x q) s) v)
  thread-wrote = wrote-by q refl

  went-other : v ≢ t → (left : Steps) (z : State) (next : Next) → Reads z → Reads (went left z t next)
  went-other other left z Next.stays r = r
  went-other other left z (Next.begins None) r = r
  went-other other left z (Next.resumes None) r = r
  went-other other left z next r = set z t (gone left z t next (thread_at z t)) (λ same is. absurd (other (sym same))) r

  -- of a thread that doesn't make it
  pub other-left : v ≢ t → (rest : Steps) → IsLeft s v q (thread_at (T.after s t x q rest) v)
  other-left other rest =
      let z = wrote (effects_of s t x q) s in
      subst (λ (w : State). Is (thread_at w v)) (sym (after-is s t x q rest)) (went-other other rest z (next_of s t x q) thread-wrote)

-- Whom others have aborted or doomed stays so, also of the thread that makes the step.

pub record AreFlagged (s : State) (v : ℕ) (q : Pending) (me : Thread) : Type 0 where
  pub aborted : me.aborted ≡ true → ((thread_at s v).aborted ≡ true) ⊎ AbortsIt s v q
  pub aborts : (thread_at s v).aborted ≡ true → (me.aborted ≡ true) ⊎ Shortens v q
  pub doomed : me.doomed ≡ true → ((thread_at s v).doomed ≡ true) ⊎ DoomsIt v q
  pub dooms : (thread_at s v).doomed ≡ true → me.doomed ≡ true

-- what is read of a thread beside its own part
abbrev flags_of : Thread → Bool × Bool
flags_of me = (me.aborted, me.doomed)

gone-flags : (left : Steps) (u : State) (t : ℕ) (next : Next) (me : Thread) → flags_of (gone left u t next me) ≡ flags_of me
gone-flags left u t (Next.on change way) me = changed-same flags_of (λ me registers reply buffer until. refl) change me
gone-flags left u t (Next.checks x v way) me = held-same flags_of (λ me checked. refl) x v me
gone-flags left u t (Next.begins None) me = refl
gone-flags left u t (Next.begins (Some instr)) me = refl
gone-flags left u t (Next.resumes None) me = refl
gone-flags left u t (Next.resumes (Some told)) me = refl
gone-flags left u t next me = refl

module _ (s : State) (t x v : ℕ) (q : Pending) where
  abbrev Flagged : State → Type 0
  Flagged z = AreFlagged s v q (thread_at z v)

  flagged-so : (me other : Thread) → flags_of other ≡ flags_of me → AreFlagged s v q me → AreFlagged s v q other
  flagged-so me other same h =
      record {
        aborted = λ k. h.aborted (ap (λ (z : Bool × Bool). z.0) (sym same) ∙ k);
        aborts = λ k. which (h.aborts k);
        doomed = λ k. h.doomed (ap (λ (z : Bool × Bool). z.1) (sym same) ∙ k);
        dooms = λ k. ap (λ (z : Bool × Bool). z.1) same ∙ h.dooms k;
      }
    where
      which : (me.aborted ≡ true) ⊎ Shortens v q → (other.aborted ≡ true) ⊎ Shortens v q
      which (inl k) = inl (ap (λ (z : Bool × Bool). z.0) same ∙ k)
      which (inr short) = inr short

  went-flags : (left : Steps) (z : State) (next : Next) → Flagged z → Flagged (went left z t next)
  went-flags left z Next.stays r = r
  went-flags left z (Next.begins None) r = r
  went-flags left z (Next.resumes None) r = r
  went-flags left z next r =
      at_set (λ n (me : Thread). n ≡ v → AreFlagged s v q me) z.threads t v (gone left z t next (thread_at z t)) nobody
      (λ same. flagged-so (thread_at z t) (gone left z t next (thread_at z t)) (gone-flags left z t next (thread_at z t)) (subst (λ n. AreFlagged s v q (thread_at z n)) (sym same) r))
      (λ same. r) refl

  pub flags-left : (rest : Steps) → AreFlagged s v q (thread_at (T.after s t x q rest) v)
  flags-left rest =
      let z = wrote (effects_of s t x q) s in
      let here = thread-wrote s t x v q in
      subst (λ (w : State). AreFlagged s v q (thread_at w v)) (sym (after-is s t x q rest))
      (went-flags rest z (next_of s t x q) (record { aborted = here.aborted; aborts = here.aborts; doomed = here.doomed; dooms = here.dooms }))

-- The steps that are left of the thread that makes it.

abbrev pub IsMoved : Next → Type 0
IsMoved Next.stays = ⊥
IsMoved (Next.begins None) = ⊥
IsMoved (Next.resumes None) = ⊥
IsMoved next = Unit {0}

module _ (R : Steps → Type 0) (short : R []) (t : ℕ) where
  own-went : (left : Steps) (z : State) (next : Next) → IsMoved next → R (gone left z t next (thread_at z t)).pending → R (thread_at (went left z t next) t).pending
  own-went left z Next.stays moved r = absurd moved
  own-went left z (Next.begins None) moved r = absurd moved
  own-went left z (Next.resumes None) moved r = absurd moved
  own-went left z next moved r = by (set-either z.threads t (gone left z t next (thread_at z t)) nobody)
    where
      by : (thread_at (with_thread z t (gone left z t next (thread_at z t))) t ≡ gone left z t next (thread_at z t)) ⊎ (thread_at (with_thread z t (gone left z t next (thread_at z t))) t ≡ nobody)
          → R (thread_at (with_thread z t (gone left z t next (thread_at z t))) t).pending
      by (inl h) = subst (λ (me : Thread). R me.pending) (sym h) r
      by (inr h) = subst (λ (me : Thread). R me.pending) (sym h) short

  pub own-after : (s : State) (x : ℕ) (q : Pending) (rest : Steps) → IsMoved (next_of s t x q)
      → (let z = wrote (effects_of s t x q) s in R (gone rest z t (next_of s t x q) (thread_at z t)).pending) → R (thread_at (T.after s t x q rest) t).pending
  own-after s x q rest moved r =
      subst (λ (w : State). R (thread_at w t).pending) (sym (after-is s t x q rest)) (own-went rest (wrote (effects_of s t x q) s) (next_of s t x q) moved r)

-- a step beside its thread's own leaves that one as others' threads
pub beside-left : (s : State) (t x : ℕ) (q : Pending) (rest : Steps) → is_beside q ≡ true → IsLeft s t q (thread_at (T.after s t x q rest) t)
beside-left s t x q rest beside =
    subst (λ (w : State). IsLeft s t q (thread_at w t)) (sym (after-is s t x q rest)) (stays q beside (thread-wrote s t x t q))
  where
    stays : (p : Pending) → is_beside p ≡ true → IsLeft s t q (thread_at (wrote (effects_of s t x q) s) t) → IsLeft s t q (thread_at (went rest (wrote (effects_of s t x q) s) t (next_of s t x p)) t)
    stays Pending.Left h r = r
    stays (Pending.CleanPair who) h r = r
    stays Pending.Recycle h r = r
    stays Pending.Tick h r = r
    stays (Pending.TimeOut who) h r = r
    stays Pending.Expire h r = r
    stays (Pending.Cut who) h r = r
    stays p h r = absurd (false≢true h)
