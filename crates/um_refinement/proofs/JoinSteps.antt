-- A processor's join of a thread is that step of the machine, where the relation holds: an index that is shut doesn't live, and the object of one that
-- isn't is initialised; and so is that an end is told to those who wait for it.
use Rattle.um_refinement.proofs.Words.{◌≡◌, ℕ, zero, suc, ◌≤◌, Bool, true, false, List, [], ◌∷◌, length, refl, sym, ap, ◌∙◌, subst, arith, ◌==◌, ◌&&◌, ◌||◌, not, IsTrue, if◌then◌else◌, list_any, nat_lt, slice_index_or, true≢false, ltb-false, ltb-true, THREADS, Act, Answer, Errno, Reply, ThreadIx, Waiter, own_row, Pending, Steps, Thread, Life, is_living, State, nobody, object_at, thread_at, act_in, answer_in, FineStep, Site, SiteState, site_answers, Todos, shows, Fine, Rel}
use Rattle.um_base.specs.declared.names.Timeout.{Timeout}
use Rattle.um_machine.specs.Joins as Plain
use Rattle.um_fine.specs.Joins.{is_shut, join_answer, open_says}
use Rattle.um_refinement.specs.Fine.{joins}
use Rattle.um_refinement.specs.Stops.{HasOwn}
use Rattle.um_refinement.proofs.Kept.{joins-sort}
use Rattle.um_refinement.proofs.Offered.{IsStep, Shows, act-is, machine-step, says-at, site-is}
use Rattle.um_refinement.proofs.Reachable.{IsSound}
use Rattle.um_refinement.proofs.ShutMarked.{owned-marked}

-- behind the end of a list stands what is asked for there
pub beyond : {A : Type 0} (xs : List A) (t : ℕ) (d : A) → length xs ≤ t → slice_index_or xs t d ≡ d
beyond [] t d l = refl
beyond (x ∷ xs) zero d l = absurd (omega (arith, l))
beyond (x ∷ xs) (suc t) d l = beyond xs t d (omega (arith, l))

module _ (f : Fine) (m : State) (rel : Rel f m) (long : length m.threads ≡ THREADS) (who : ℕ) where
  -- an index that is shut doesn't live, also one behind all threads
  pub shut-dead : is_shut (joins f) who ≡ true → is_living (thread_at m who).life ≡ false
  shut-dead shut = by (nat_lt who THREADS) refl
    where
      unliving : (life : Life) → (life ≡ Life.Living → ⊥) → is_living life ≡ false
      unliving Life.Unborn h = refl
      unliving Life.Living h = absurd (h refl)
      unliving Life.Ended h = refl

      by : (b : Bool) → nat_lt who THREADS ≡ b → is_living (thread_at m who).life ≡ false
      by true few = unliving (thread_at m who).life ((rel.threads who (ltb-true who THREADS few)).shut.dead shut)
      by false past = let l = ltb-false who THREADS past in ap (λ (me : Thread). is_living me.life) (beyond m.threads who nobody (omega (arith, l, long)))

  -- the own object of one that isn't shut is initialised
  pub open-stands : IsSound m → HasOwn f.image who → is_shut (joins f) who ≡ false → (object_at m (own_row m.image who)).init ≡ true
  open-stands sound own unshut = by (nat_lt who THREADS) refl
    where
      by : (b : Bool) → nat_lt who THREADS ≡ b → (object_at m (own_row m.image who)).init ≡ true
      by true few = owned-marked f m rel sound who ((rel.threads who (ltb-true who THREADS few)).shut.owned own unshut)
      by false past =
          let l = ltb-false who THREADS past in
          let wide = rel.joins.shut in absurd (true≢false (sym (beyond (joins f).shut who true (omega (arith, l, wide))) ∙ unshut))

module _ {f : Fine} {m : State} {k : ℕ} {e : FineStep} {rest : Steps} {todo : Todos} (long : length m.threads ≡ THREADS) (who : ThreadIx) (timeout : Timeout)
    (h : Shows f m k e (Pending.Join who timeout) rest todo) where
  me : ℕ
  me = (f.processors k).context.thread

  pub join-says : join_answer (joins f) (f.processors k).context.thread who.0 timeout ≡ answer_in (act_in e.act)
  join-says =
      let act = shows f.image (f.processors k) (Pending.Join who timeout) e.act in
      let here = subst (λ (s : SiteState). site_answers f.image s e.moved act ≡ act) (joins-sort (f.sites Site.joins) (h.rel.sorts Site.joins)).1 (says-at h Site.joins act (site-is h) (act-is h)) in
      ap (λ z. answer_in (act_in z)) here

  -- of a thread that isn't over both say the same
  open-same : (timeout : Timeout) → open_says (joins f) (f.processors k).context.thread who.0 timeout ≡ Plain.not_over m (f.processors k).context.thread who.0 timeout
  open-same Timeout.NoWait = refl
  open-same (Timeout.Ticks n) = ap (λ (ws : List Waiter). if waits ws then Answer.Now (Reply.Fail Errno.EDEADLK) else Answer.Wait) h.rel.joins.waiters
    where
      waits : List Waiter → Bool
      waits ws = (who.0 == (f.processors k).context.thread) || list_any (λ (w : Waiter). w.thread.0 == who.0 && Plain.joins (f.processors k).context.thread w) ws
  open-same Timeout.Forever = ap (λ (ws : List Waiter). if waits ws then Answer.Now (Reply.Fail Errno.EDEADLK) else Answer.Wait) h.rel.joins.waiters
    where
      waits : List Waiter → Bool
      waits ws = (who.0 == (f.processors k).context.thread) || list_any (λ (w : Waiter). w.thread.0 == who.0 && Plain.joins (f.processors k).context.thread w) ws

  or-true : (a : Bool) {b : Bool} → b ≡ true → (a || b) ≡ true
  or-true true e = refl
  or-true false e = e

  may-say : (timeout : Timeout) → (object_at m (own_row m.image who.0)).init ≡ true → IsTrue (Plain.may_say m (f.processors k).context.thread 0 who.0 timeout)
  may-say Timeout.NoWait init = init
  may-say (Timeout.Ticks n) init = or-true (Plain.deadlocks m (f.processors k).context.thread who.0) init
  may-say Timeout.Forever init = or-true (Plain.deadlocks m (f.processors k).context.thread who.0) init

  pub join-step : IsSound m → HasOwn f.image who.0 → (x : ℕ) × IsStep f m k e x (Pending.Join who timeout)
  join-step sound own = by (is_shut (joins f) who.0) refl
    where
      said : (b : Bool) → is_shut (joins f) who.0 ≡ b → answer_in (act_in e.act) ≡ (if b then Answer.Now (Reply.Num 0) else open_says (joins f) (f.processors k).context.thread who.0 timeout)
      said b shut = sym join-says ∙ ap (λ c. if c then Answer.Now (Reply.Num 0) else open_says (joins f) (f.processors k).context.thread who.0 timeout) shut

      by : (b : Bool) → is_shut (joins f) who.0 ≡ b → (x : ℕ) × IsStep f m k e x (Pending.Join who timeout)
      by true shut = (1, machine-step h 1 (act-is h) (ap not (shut-dead f m h.rel long who.0 shut)) (ap (Act.Join who) (said true shut)))
      by false unshut = (0, machine-step h 0 (act-is h) (may-say timeout (open-stands f m h.rel long who.0 sound own unshut)) (ap (Act.Join who) (said false unshut ∙ open-same timeout)))
