-- A processor that takes a thread which was told something makes that thread's resume, where the relation holds and the machine tells
-- only threads that wait.
use Rattle.um_refinement.proofs.Words.{◌≡◌, ℕ, zero, suc, ◌<◌, true, List, [], ◌∷◌, Option, Some, None, refl, sym, ap, ◌∙◌, subst, IsTrue, is_some, unwrap_or, and_parts, false≢true, Told, THREADS, Pending, Thread, Steps, goes, State, thread_at, Context, no_context, Exchange, FineStep, first_ready, has_ready, parked_at, told_at, waits, SiteMay, CpuMay, Bool, false, one_if, as_thread, arith, Processor, Fine, scheduler, wake_of, IsOf, first_told, told_by, Rel}
use Rattle.um_machine.specs.Table as T
use Rattle.um_refinement.proofs.Erased.{Goes, GoesBy}
use Rattle.um_fine.specs.Asks.{says_turn}
use Rattle.um_fine.specs.Scheduler.{is_cut, to_kill}
use Rattle.um_refinement.specs.Threads.{as_cut, cutters}
use Rattle.um_refinement.proofs.Kept.{IdleStep, gives, idle-step, ticks, turns}

-- what is known of the machine: who was told something waits
abbrev pub TellsWaiters : State → Type 0
TellsWaiters m = (t : ℕ) (told : Told) → (thread_at m t).told ≡ Some told → IsTrue (waits (thread_at m t).pending)

waits-form : (steps : Steps) → IsTrue (waits steps) → (rest : Steps) × (steps ≡ Pending.Resume ∷ rest)
waits-form (Pending.Resume ∷ rest) h = (rest, refl)
waits-form steps h = absurd (false≢true h)

-- what goes with the thread that is taken
abbrev told_in : Exchange → Option Told
told_in (Exchange.thread c told) = told
told_in moved = None

abbrev thread_in : Exchange → Context
thread_in (Exchange.thread c told) = c
thread_in moved = no_context

first-some : (a b : Option Told) → is_some b ≡ true → is_some (first_told a b) ≡ true
first-some None b h = h
first-some (Some w) b h = refl

pub some-is : {A : Type 0} (o : Option A) → is_some o ≡ true → (x : A) × (o ≡ Some x)
some-is None h = absurd (false≢true h)
some-is (Some x) h = (x, refl)

abbrev has_thread : Exchange → Bool
has_thread (Exchange.thread c told) = true
has_thread moved = false

-- a processor without a list that is given a thread has taken its turn
pub takes-turn : {f : Fine} {p : Processor} {e : FineStep} {c : Context} {told : Option Told} → IdleStep f p e → e.moved ≡ Exchange.thread c told
    → (e.act ≡ says_turn f.image p e.moved) × IsTrue (has_ready (scheduler f) (scheduler f).ready) × (first_ready (scheduler f) (scheduler f).ready ≡ e.moved)
takes-turn (turns site said ready first) moved = (said, ready, first)
takes-turn (gives x site said first given) moved = absurd (false≢true (sym (ap has_thread given) ∙ ap has_thread moved))
takes-turn (ticks now site said next given) moved = absurd (false≢true (sym (ap has_thread given) ∙ ap has_thread moved))

module _ (f : Fine) (m : State) (rel : Rel f m) where
  -- whom the scheduler has something to tell, the machine has told something
  pub told-some : (t n : ℕ) → is_some (told_at (scheduler f) t) ≡ true → is_some (told_by f t n) ≡ true
  told-some t zero h = h
  told-some t (suc n) h = first-some (wake_of t (f.processors n).todo) (told_by f t n) (told-some t n h)

  -- the thread that is taken is parked, and has been told this
  pub record Taken (c : Context) (told : Told) : Type 0 where
    pub of : IsOf f m c
    pub uncut : cutters f c.thread ≡ 0
    pub tells : (w : Told) × ((thread_at m c.thread).told ≡ Some w)

  -- who was told something wasn't cut
  pub nobody-cut : (t : ℕ) → t < THREADS → (w : Told) × (told_by f t f.cpus ≡ Some w) → (cutters f t ≡ 0) × (is_cut (scheduler f) t ≡ false)
  nobody-cut t few w = by (cutters f t) refl
    where
      cut-none : (b : Bool) → one_if b ≡ 0 → b ≡ false
      cut-none true h = absurd (omega (arith, h))
      cut-none false h = refl

      by : (n : ℕ) → cutters f t ≡ n → (cutters f t ≡ 0) × (is_cut (scheduler f) t ≡ false)
      by zero none = (none, cut-none (is_cut (scheduler f) t) (omega (arith, none)))
      by (suc n) some = absurd (false≢true (ap is_some (sym ((rel.threads t few).cut.told (omega (arith, some))) ∙ w.1)))

  pub first-taken : (ready : List ℕ) (c : Context) (told : Told) → IsTrue (has_ready (scheduler f) ready)
      → first_ready (scheduler f) ready ≡ Exchange.thread c (Some told) → Taken c told
  first-taken [] c told has e = absurd (false≢true has)
  first-taken (t ∷ ready) c told has e =
      let parked = some-is (parked_at (scheduler f) t) (and_parts _ _ has).0 in
      let is = rel.contexts.parked t parked.0 parked.1 in
      let few : t < THREADS = subst (λ n. n < THREADS) is.1 is.0.index in
      let told-there : is_some (told_at (scheduler f) t) ≡ true = ap (λ z. is_some (told_in z)) e in
      let w = some-is (told_by f t f.cpus) (told-some t f.cpus told-there) in
      let none = nobody-cut t few w in
      let same : parked.0 ≡ c =
      ap (λ (o : Option Context). unwrap_or o no_context) (sym parked.1)
      ∙ (ap (λ b. to_kill b (unwrap_or (parked_at (scheduler f) t) no_context)) (sym none.1) ∙ ap thread_in e) in
      let at : c.thread ≡ t = ap (λ (z : Context). z.thread) (sym same) ∙ is.1 in
      record {
        of = subst (IsOf f m) same is.0;
        uncut = ap (cutters f) at ∙ none.0;
        tells = (w.0, ap (λ n. (thread_at m n).told) at ∙ ((rel.threads t few).told.told ∙ w.1));
      }

  pub resume-step : {k : ℕ} {e : FineStep} (c : Context) (told : Told) → k < f.cpus → (f.processors k).todo ≡ [] → CpuMay f.image (f.processors k) e
      → SiteMay f.image (f.sites e.site) e → e.moved ≡ Exchange.thread c (Some told) → TellsWaiters m
      → (rest : Steps) × (c.pending ≡ Pending.Resume ∷ rest) × Goes m e (T.after m c.thread 0 Pending.Resume rest)
  resume-step {k} {e} c told there idle may taken moved waiters =
      let p = f.processors k in
      let idles = takes-turn (idle-step f m rel p e may taken idle) moved in
      let is = first-taken (scheduler f).ready c told idles.1 (idles.2 ∙ moved) in
      let steps = waits-form (thread_at m c.thread).pending (waiters c.thread is.tells.0 is.tells.1) in (
        steps.0,
        ap (λ (th : Thread). th.pending) (ap (λ n. as_thread (as_cut n c)) (sym is.uncut) ∙ is.of.own) ∙ steps.1,
        subst (λ a. GoesBy m a (T.after m c.thread 0 Pending.Resume steps.0)) (sym (idles.0 ∙ ap (says_turn f.image p) moved))
            (record { step = Pending.Resume; rest = steps.0; row = 0; offered = goes steps.1; chosen = is.tells; says = refl; leaves = refl }),
      )
