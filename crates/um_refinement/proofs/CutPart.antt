-- That a thread was cut and isn't taken yet stands in one place at most, and then the machine has nothing left of it but that it is killed, after every
-- lawful step.
use Rattle.um_refinement.proofs.Words.{◌≡◌, ◌⊎◌, inl, inr, ℕ, zero, suc, ◌<◌, ◌≤◌, Bool, true, false, [], ◌∷◌, length, Option, Some, None, refl, sym, ap, ◌∙◌, subst, arith, ◌==◌, eq-eqb, eqb-false, eqb-true, if◌then◌else◌, is_some, not, and_parts, false≢true, THREADS, Thread, Told, FineStep, Pending, Steps, State, thread_at, to_thread, waits, Todo, Todos, Fits, Fine, one_if}
use Rattle.um_machine.specs.Run.{stands_in, waits_at}
use Rattle.um_machine.specs.State.{is_to_resume, is_waiting, waiters_in}
use Rattle.um_machine.specs.Table as T
use Rattle.um_machine.specs.Writes.{cut}
use Rattle.um_fine.specs.Answers.{is_void}
use Rattle.um_refinement.specs.Stops.{CutIs}
use Rattle.um_refinement.specs.Threads.{ToldIs, cutters}
use Rattle.um_refinement.proofs.CallsKnown.{starts-known}
use Rattle.um_refinement.proofs.CuttersKept.{cutters-idle, cutters-on, cutters-other, cutters-taken}
use Rattle.um_refinement.proofs.Erased.{around}
use Rattle.um_refinement.proofs.Leaves.{Lawful, Leaves, beside, cleans, drops, event, nothing, passes, recycles, resumes}
use Rattle.um_refinement.proofs.Offered.{Shows, not-cut, shown-offers, uncut}
use Rattle.um_refinement.proofs.Others.{starts_other}
use Rattle.um_refinement.proofs.PartsElsewhere.{Apart, CutsNot, cuts-or-not, cutters-same, stays}
use Rattle.um_refinement.proofs.ResumeSteps.{TellsWaiters}
use Rattle.um_refinement.proofs.StepsLeft.{drops-on, passes-on}
use Rattle.um_refinement.proofs.Taking.{CutNow, Idles, idles, taken-uncut, takes, tends}
use Rattle.um_refinement.proofs.ThreadLists.{at-here}
use Rattle.um_refinement.proofs.VisitSteps.{visit-part}
use Rattle.um_refinement.proofs.WordsKept.{IsShown}
use Rattle.um_refinement.proofs.WordsPart.{words-part}

-- who has nothing left but that it is killed is aborted
abbrev pub AreAborted : State → Type 0
AreAborted s = (t : ℕ) → (thread_at s t).pending ≡ Pending.Killed ∷ [] → (thread_at s t).aborted ≡ true

resumes-none : (steps : Steps) → is_to_resume steps ≡ true → steps ≡ Pending.Killed ∷ [] → ⊥
resumes-none steps h k = false≢true (sym (ap is_to_resume k) ∙ h)

some-left : {q : Pending} {rest steps : Steps} → steps ≡ q ∷ rest → steps ≡ [] → ⊥
some-left h k = let n = ap length (sym k ∙ h) in absurd (omega (arith, n))

some-list : {q : Todo} {rest todo : Todos} → todo ≡ q ∷ rest → todo ≡ [] → ⊥
some-list h k = let n = ap length (sym k ∙ h) in absurd (omega (arith, n))

module _ (f : Fine) (m : State) (e : FineStep) (law : Lawful f m e) (s : State) (left : Leaves f m e s) (v : ℕ) (few : v < THREADS) where
  open around f e use {later, processor as p}

  was : CutIs f m v
  was = (law.rel.threads v few).cut

  -- A step cuts it, or no more places have that than before.

  abbrev Changed : Type 0
  Changed = ((cutters later v ≤ cutters f v) × CutsNot f m e law s left s left v) ⊎ CutNow f m e v s

  resting : p.todo ≡ [] → Idles f e → cutters later v ≤ cutters f v
  resting at (takes first) = by (first.thread == v) refl
    where
      by : (b : Bool) → (first.thread == v) ≡ b → cutters later v ≤ cutters f v
      by true k =
          let same = eqb-true first.thread v k in
          let all = cutters-taken f m e law at first.site first.said first.thread first.list first.ready (subst (λ n. n < THREADS) (sym same) few) in
          subst (λ n. cutters later n ≤ cutters f n) same (omega (arith, all))
      by false k = let all = cutters-other f m e law at first.site first.said first.thread first.list first.ready v (eqb-false first.thread v k) in omega (arith, all)
  resting at (tends is) = let all = cutters-idle f m e law v at is.site in omega (arith, all)

  changed : Changed
  changed = by p.todo refl (cuts-or-not f m e law s left v)
    where
      by : (todo : Todos) → p.todo ≡ todo → CutsNot f m e law s left s left v ⊎ CutNow f m e v s → Changed
      by todo at (inr is) = inr is
      by [] at (inl free) = inl (resting at (idles f m e law at), free)
      by (q ∷ todo) at (inl free) = let all = cutters-same f m e law s left v few free (λ c told idle. absurd (some-list at idle)) in inl (omega (arith, all), free)

  -- A thread that is cut now.

  module _ (is : CutNow f m e v s) where
    waiting : is_to_resume (thread_at m v).pending ≡ true
    waiting =
        let th = thread_at m is.who in
        let at-cell = (and_parts th.aborted (waits_at m is.who is.cell) is.chosen).1 in
        let rests = (and_parts (is_waiting th) (stands_in is.who (waiters_in m is.cell)) at-cell).0 in
        subst (λ n. is_to_resume (thread_at m n).pending ≡ true) is.same (and_parts (is_to_resume th.pending) (not (is_some th.told)) rests).0

    none-before : cutters f v ≡ 0
    none-before = by (cutters f v) refl
      where
        by : (n : ℕ) → cutters f v ≡ n → n ≡ 0
        by zero k = refl
        by (suc n) k = absurd (resumes-none (thread_at m v).pending waiting (was.left (omega (arith, k))))

    one-now : cutters later v ≡ 1
    one-now =
        let all = cutters-on f m e law v (Todo.look is.who is.site is.before) is.todo is.at refl in
        let none = none-before in
        let here : (if is_void e.act then 0 else one_if (is.who == v)) ≡ 1 = λ i. if is.found i then 0 else one_if (eq-eqb is.who v is.same i) in
        omega (arith, all, none, here)

    killed-now : (thread_at s v).pending ≡ Pending.Killed ∷ []
    killed-now =
        let inside : is.who < length m.threads = (let many = law.sound.wide.threads in let same = is.same in omega (arith, many, few, same)) in
        ap (λ (z : State). (thread_at z v).pending) is.leaves
        ∙ (ap (λ n. (thread_at (T.after m is.maker is.cell (Pending.Cut (to_thread is.who)) (thread_at m is.maker).pending) n).pending) (sym is.same)
        ∙ ap (λ (th : Thread). th.pending) (at-here m.threads is.who (cut (thread_at m is.who)) inside))

  -- One that was cut makes no step: its own part waits.

  apart : 0 < cutters f v → CutsNot f m e law s left s left v → Apart f m e law s left s left v
  apart some free = by s left free
    where
      ours : p.context.thread ≡ v → cutters f p.context.thread ≡ 0 → ⊥
      ours same none = let zero = subst (λ n. cutters f n ≡ 0) same none in omega (arith, some, zero)

      starts : (q : Pending) (rest : Steps) (todo : Todos) → Shows f m e.cpu e q rest todo → IsShown q → starts_other v q
      starts (Pending.Start who script stack priority mode) rest todo h shown = λ same.
          some-left (was.left some) (ap (λ n. (thread_at m n).pending) (sym same) ∙ (starts-known m law.sound p.context.thread who script stack priority mode rest (shown-offers h)).1)
      starts (Pending.Cut who) rest todo h shown = absurd shown
      starts q rest todo h shown = tt

      by : (z : State) (l : Leaves f m e z) → CutsNot f m e law s left z l v → Apart f m e law s left z l v
      by _ (nothing u said) free = tt
      by _ (event q rest todo x h shown is) free = (λ same. ours same (uncut h), starts q rest todo h shown)
      by _ (resumes c told rest idle moved said) free = λ same.
          let none = taken-uncut f m e law idle c told moved (subst (λ n. n < THREADS) (sym same) few) in
          let zero = subst (λ n. cutters f n ≡ 0) same none in
          omega (arith, some, zero)
      by _ (passes who x rest todo h said) free = λ same.
          let fits = (subst (Fits f.image p.context) h.at (law.rel.processors e.cpu law.by.named).list.fits).0 in
          ours same (not-cut ((visit-part h (λ hand. hand)).of (passes-on f.image p.context who todo fits)) (ap waits fits.pending))
      by _ (drops from x rest todo h said) free = λ same.
          let fits = subst (Fits f.image p.context) h.at (law.rel.processors e.cpu law.by.named).list.fits in
          ours same (not-cut ((visit-part h (λ hand. hand)).of (drops-on f.image p.context todo fits)) (ap waits fits.pending))
      by _ (cleans who x rest todo h said) free = tt
      by _ (recycles x rest todo at l said chosen) free = tt
      by _ (beside t x q how chosen started) free = free

  once-now : cutters later v ≤ 1
  once-now = by changed
    where
      by : Changed → cutters later v ≤ 1
      by (inl (less, free)) = let once = was.once in omega (arith, less, once)
      by (inr is) = let one = one-now is in omega (arith, one)

  left-now : 0 < cutters later v → (thread_at s v).pending ≡ Pending.Killed ∷ []
  left-now some = by changed
    where
      by : Changed → (thread_at s v).pending ≡ Pending.Killed ∷ []
      by (inl (less, free)) =
          let before : 0 < cutters f v = omega (arith, some, less) in
          ap (λ (th : Thread). th.pending) (stays f m e law s left v (apart before free)) ∙ was.left before
      by (inr is) = killed-now is

  pub cut-part : TellsWaiters s → AreAborted s → ToldIs later s v → CutIs later s v
  cut-part tells aborted told =
      record {
        once = once-now;
        left = left-now;
        told = λ some. sym told.told ∙ untold (thread_at s v).told refl (left-now some);
        aborted = λ h. (words-part f m e law v few s left).aborted ∙ aborted v h;
      }
    where
      untold : (o : Option Told) → (thread_at s v).told ≡ o → (thread_at s v).pending ≡ Pending.Killed ∷ [] → o ≡ None
      untold None k h = refl
      untold (Some w) k h = absurd (false≢true (sym (ap waits h) ∙ tells v w k))
