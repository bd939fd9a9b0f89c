-- The own part of a thread that visits a row, or goes on after it was woken, is that of the machine's thread then.
use Rattle.um_refinement.proofs.Words.{◌≡◌, ℕ, ◌<◌, false, ◌∷◌, length, Some, refl, sym, ap, ◌∙◌, subst, arith, IsTrue, nat_lt, list_all, Told, ROWS, THREADS, Pending, Thread, Steps, to_thread, State, is_started, thread_at, Context, as_thread, resumed, resumed_at, dropped_at, told_at, FineStep, Fine, scheduler, Rel, IsOf, flags_of, is_ended, own_part, Next, gone, went, Option, Life, waits}
use Rattle.um_machine.specs.Table as T
use Rattle.um_refinement.specs.Threads.{as_cut, cutters}
use Rattle.um_refinement.proofs.Erased.{around}
use Rattle.um_refinement.proofs.Offered.{own-unless}
use Rattle.um_refinement.proofs.Continued.{Held, held_of, resumed-held}
use Rattle.um_refinement.proofs.Leaves.{Lawful}
use Rattle.um_refinement.proofs.Own.{own-after, own-resumed, went-here}
use Rattle.um_refinement.proofs.RestKept.{KeepsBeside, beside-kept, beside-same}
use Rattle.um_refinement.proofs.ToldFacts.{scheduler-told}

-- what the scheduler tells a thread is what the machine tells it
pub scheduler-tells : (f : Fine) (m : State) → Rel f m → (t : ℕ) → t < THREADS → (told : Told) → told_at (scheduler f) t ≡ Some told → (thread_at m t).told ≡ Some told
scheduler-tells f m rel t few told here = (rel.threads t few).told.told ∙ scheduler-told f t told here (rel.threads t few).told.once

module _ (f : Fine) (m : State) (e : FineStep) (law : Lawful f m e) where
  open around f e use {later}

  -- an own part with other steps, where its thread lives and holds as before, and wasn't cut
  visited : (c d : Context) (s : State) → IsOf f m c → cutters later c.thread ≡ 0 → held_of d ≡ held_of c → as_thread d ≡ own_part (thread_at s c.thread)
      → (thread_at s c.thread).life ≡ (thread_at m c.thread).life → (thread_at s c.thread).checked ≡ (thread_at m c.thread).checked → IsOf later s d
  visited c d s of uncut held own life checked =
      let thread = ap (λ (h : Held). h.0) held in
      let claims = ap (λ (h : Held). h.1) held in
      let none = ap (cutters later) thread ∙ uncut in
      record {
        index = subst (λ n. n < THREADS) (sym thread) of.index;
        own = ap (λ n. as_thread (as_cut n d)) none ∙ (own ∙ ap (λ n. own_part (thread_at s n)) (sym thread));
        waiting = λ some. absurd (omega (arith, some, none));
        claims = ap (λ n. (thread_at s n).checked) thread ∙ (checked ∙ (of.claims ∙ ap flags_of (sym claims)));
        ended = ap (λ (h : Held). h.2) held ∙ (of.ended ∙ (ap is_ended (sym life) ∙ ap (λ n. is_ended (thread_at s n).life) (sym thread)));
        started = subst (λ n. IsTrue (is_started (thread_at s n).life)) (sym thread) (subst (λ (z : Life). IsTrue (is_started z)) (sym life) of.started);
        below = ap (list_all (λ x. nat_lt x ROWS)) claims ∙ of.below;
      }

  -- by a step that keeps what stands beside its own part
  beside : (c d : Context) (x : ℕ) (q : Pending) (rest : Steps) → IsOf f m c → cutters later c.thread ≡ 0 → held_of d ≡ held_of c
      → as_thread d ≡ own_part (thread_at (T.after m c.thread x q rest) c.thread) → KeepsBeside q → IsOf later (T.after m c.thread x q rest) d
  beside c d x q rest of uncut held own keeps =
      let same = beside-same m c.thread (T.after m c.thread x q rest) (beside-kept m c.thread x q rest keeps) c.thread in
      visited c d (T.after m c.thread x q rest) of uncut held own (ap (λ z. z.life) same) (ap (λ z. z.checked) same)

  room : (c : Context) → IsOf f m c → c.thread < length m.threads
  room c of = let index = of.index in let many = law.sound.wide.threads in omega (arith, index, many)

  -- one that doesn't wait wasn't cut before either
  pub of-passes : (c : Context) (who x : ℕ) (rest : Steps) → IsOf f m c → cutters later c.thread ≡ 0 → c.pending ≡ Pending.Inherit (to_thread who) ∷ rest
      → IsOf later (T.after m c.thread x (Pending.Inherit (to_thread who)) rest) c
  of-passes c who x rest of uncut has =
      let q = Pending.Inherit (to_thread who) in
      beside c c x q rest of uncut refl
      ((λ i. as_thread (record c { pending = has i })) ∙ own-after m c.thread c (own-unless of (ap waits has)) refl (room c of) x q rest e.moved tt) tt

  pub of-drops : (c : Context) (from x : ℕ) (rest : Steps) → IsOf f m c → cutters later c.thread ≡ 0 → c.pending ≡ Pending.Drops from ∷ rest
      → IsOf later (T.after m c.thread x (Pending.Drops from) rest) (dropped_at f.image c x false)
  of-drops c from x rest of uncut has =
      let q = Pending.Drops from in
      let own = own-after m c.thread c (own-unless of (ap waits has)) refl (room c of) x q rest e.moved tt in
      beside c (dropped_at f.image c x false) x q rest of uncut refl ((λ i. as_thread (dropped_at f.image (record c { pending = has i }) x false)) ∙ own) tt

  -- nor was one that is told something
  pub of-resumes : (c : Context) (told : Told) (rest : Steps) → IsOf f m c → cutters f c.thread ≡ 0 → cutters later c.thread ≡ 0 → c.pending ≡ Pending.Resume ∷ rest → told_at (scheduler f) c.thread ≡ Some told
      → IsOf later (T.after m c.thread 0 Pending.Resume rest) (resumed f.image c told)
  of-resumes c told rest of none uncut has here =
      let t = c.thread in
      let me = thread_at m t in
      let own : as_thread c ≡ own_part me = ap (λ n. as_thread (as_cut n c)) (sym none) ∙ of.own in
      let tells = scheduler-tells f m law.rel t of.index told here in
      let next = Next.resumes (Some told) in
      let now : thread_at (T.after m t 0 Pending.Resume rest) t ≡ gone rest m t next me =
      ap (λ (o : Option Told). thread_at (went rest m t (Next.resumes o)) t) tells ∙ went-here rest m t next (room c of) in
      visited c (resumed f.image c told) (T.after m t 0 Pending.Resume rest) of uncut (resumed-held f.image c told)
      (ap (λ (steps : Steps). as_thread (resumed_at f.image c told steps)) has
      ∙ ((λ i. as_thread (resumed_at (sym law.rel.image i) c told (Pending.Resume ∷ rest))) ∙ own-resumed m t c own refl (room c of) told rest tells))
      (ap (λ (z : Thread). z.life) now) (ap (λ (z : Thread). z.checked) now)
