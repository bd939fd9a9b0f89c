-- A thread that a processor takes, and one that a look cuts: where its own part lies, and that it stays that of the machine's thread.
use Rattle.um_refinement.proofs.Words.{◌≡◌, ℕ, zero, suc, ◌+◌, ◌<◌, Bool, true, false, List, [], ◌∷◌, length, Option, Some, None, refl, sym, ap, ◌∙◌, subst, arith, ◌==◌, eq-eqb, IsTrue, if◌then◌else◌, is_some, nat_lt, not, unwrap_or, and_parts, false≢true, true≢false, Told, THREADS, Pending, Thread, Steps, to_thread, MayChoose, State, is_started, thread_at, FineAct, Unseen, begins_cleaning, context_in, ready_in, Context, no_context, as_thread, after_take, goes_on_by, Todo, Todos, first_ready, first_taken, has_ready, one_less, parked_at, put_back, told_at, waits, Exchange, FineStep, Site, Fine, one_if, scheduler, IsOf, is_ended, own_part, told_by}
use Rattle.um_machine.specs.Run.{stands_in, waits_at}
use Rattle.um_machine.specs.State.{is_to_resume, is_waiting, waiters_in}
use Rattle.um_machine.specs.Table as T
use Rattle.um_machine.specs.Writes.{cut}
use Rattle.um_fine.specs.Answers.{is_void}
use Rattle.um_fine.specs.Asks.{says_turn}
use Rattle.um_fine.specs.Scheduler.{is_cut, to_kill}
use Rattle.um_refinement.specs.Threads.{as_cut, cutters}
use Rattle.um_refinement.proofs.CuttersKept.{cutters-on, cutters-taken}
use Rattle.um_refinement.proofs.Erased.{around}
use Rattle.um_refinement.proofs.Kept.{IdleStep, gives, idle-step, ticks as lets_pass, turns}
use Rattle.um_refinement.proofs.Leaves.{Lawful}
use Rattle.um_refinement.proofs.ListClaims.{IsThread}
use Rattle.um_refinement.proofs.ListGrips.{next-context}
use Rattle.um_refinement.proofs.ResumeSteps.{nobody-cut, some-is, told-some}
use Rattle.um_refinement.proofs.RunningPart.{idle-after}
use Rattle.um_refinement.proofs.SchedulerSteps.{made-at, made-moves, made-says, sched-later}
use Rattle.um_refinement.proofs.ThreadLists.{at-here}

-- the thread that a step takes: the first of the ready list, as it was parked
pub record IsTaken (f : Fine) (e : FineStep) : Type 0 where
  pub thread : ℕ
  pub list : List ℕ
  pub parked : Context
  pub told : Option Told
  pub site : e.site ≡ Site.scheduler
  pub said : e.act ≡ says_turn f.image (f.processors e.cpu) e.moved
  pub ready : (scheduler f).ready ≡ thread ∷ list
  pub there : parked_at (scheduler f) thread ≡ Some parked
  pub moved : e.moved ≡ Exchange.thread (to_kill (is_cut (scheduler f) thread) parked) told
  pub same : parked.thread ≡ thread
  pub tells : told ≡ told_at (scheduler f) thread
  pub after : scheduler (around f e).later ≡ first_taken (scheduler f) (thread ∷ list)

-- a processor that tends to the clock takes none, and keeps its own part
pub record IsTending (f : Fine) (e : FineStep) : Type 0 where
  pub site : e.site ≡ Site.clock
  pub other : IsThread e.moved → ⊥
  pub quiet : begins_cleaning e ≡ false
  pub context : (around f e).now.context ≡ (f.processors e.cpu).context

pub data Idles (f : Fine) (e : FineStep) : Type 0 where
  takes : IsTaken f e → Idles f e
  tends : IsTending f e → Idles f e

abbrev thread_of : Exchange → Context
thread_of (Exchange.thread c told) = c
thread_of moved = no_context

abbrev told_of : Exchange → Option Told
told_of (Exchange.thread c told) = told
told_of moved = None

-- a kill leaves which thread it is
pub kill-thread : (b : Bool) (c : Context) → (to_kill b c).thread ≡ c.thread
kill-thread true c = refl
kill-thread false c = refl

module _ (f : Fine) (m : State) (e : FineStep) (law : Lawful f m e) where
  open around f e use {later, processor as p, now}

  -- what a processor without a list does
  pub idles : p.todo ≡ [] → Idles f e
  idles at = by (idle-step f m law.rel p e law.by.may law.taken at)
    where
      stays : (moved : Exchange) → (IsThread moved → ⊥) → (after_take f.image p moved).context ≡ p.context
      stays (Exchange.thread c told) h = absurd (h tt)
      stays (Exchange.mark deadline mark) h = refl
      stays moved h = refl

      tending : e.site ≡ Site.clock → (IsThread e.moved → ⊥) → begins_cleaning e ≡ false → Idles f e
      tending site other quiet =
          tends (record {
            site = site;
            other = other;
            quiet = quiet;
            context = next-context f.image p e ∙ (ap (λ (z : Todos). (goes_on_by f.image p e z).context) at ∙ stays e.moved other);
          })

      by : IdleStep f p e → Idles f e
      by (gives x site said due moved) = tending site (λ is. subst IsThread moved is) (ap (λ a. begins_cleaning (record e { act = a })) said)
      by (lets_pass n site said due moved) = tending site (λ is. subst IsThread moved is) (ap (λ a. begins_cleaning (record e { act = a })) said)
      by (turns site said ready first) = which (scheduler f).ready refl
        where
          which : (list : List ℕ) → (scheduler f).ready ≡ list → Idles f e
          which [] q = absurd (false≢true (subst (λ (l : List ℕ). IsTrue (has_ready (scheduler f) l)) q ready))
          which (u ∷ list) q =
              let some = some-is (parked_at (scheduler f) u) (and_parts (is_some (parked_at (scheduler f) u)) (nat_lt (scheduler f).running 255) (subst (λ (l : List ℕ). IsTrue (has_ready (scheduler f) l)) q ready)).0 in
              takes (record {
                thread = u;
                list = list;
                parked = some.0;
                told = told_at (scheduler f) u;
                site = site;
                said = said;
                ready = q;
                there = some.1;
                moved =
                    sym first ∙ (ap (first_ready (scheduler f)) q
                    ∙ ap (λ (o : Option Context). Exchange.thread (to_kill (is_cut (scheduler f) u) (unwrap_or o no_context)) (told_at (scheduler f) u)) some.1);
                same = (law.rel.contexts.parked u some.0 some.1).1;
                tells = refl;
                after = sched-later f m e law site (says_turn f.image p e.moved) said ∙ (idle-after f.image p (scheduler f) e.moved ∙ ap (first_taken (scheduler f)) q);
              })

  -- a thread that is taken is the first of the ready list
  pub takes-first : p.todo ≡ [] → (c : Context) (told : Option Told) → e.moved ≡ Exchange.thread c told
      → (first : IsTaken f e) × (c ≡ to_kill (is_cut (scheduler f) first.thread) first.parked) × (told ≡ first.told)
  takes-first at c told moved = by (idles at)
    where
      by : Idles f e → (first : IsTaken f e) × (c ≡ to_kill (is_cut (scheduler f) first.thread) first.parked) × (told ≡ first.told)
      by (takes first) = let same = sym moved ∙ first.moved in (first, ap thread_of same, ap told_of same)
      by (tends is) = absurd (is.other (subst IsThread (sym moved) tt))

  -- The thread that is taken is parked, and one that is told something isn't cut.

  pub taken-index : (first : IsTaken f e) → first.thread < THREADS
  taken-index first = subst (λ n. n < THREADS) first.same (law.rel.contexts.parked first.thread first.parked first.there).0.index

  told-uncut : (t : ℕ) → t < THREADS → (told : Told) → told_at (scheduler f) t ≡ Some told → (cutters f t ≡ 0) × (is_cut (scheduler f) t ≡ false)
  told-uncut t few told here =
      let some = some-is (told_by f t f.cpus) (told-some f m law.rel t f.cpus (ap is_some here)) in nobody-cut f m law.rel t few some

  pub taken-parked : p.todo ≡ [] → (c : Context) (told : Told) → e.moved ≡ Exchange.thread c (Some told) → parked_at (scheduler f) c.thread ≡ Some c
  taken-parked at c told moved =
      let (first, is, tells) = takes-first at c (Some told) moved in
      let none = (told-uncut first.thread (taken-index first) told (sym first.tells ∙ sym tells)).1 in
      let same : c ≡ first.parked = is ∙ ap (λ b. to_kill b first.parked) none in
      subst (λ (z : Context). parked_at (scheduler f) z.thread ≡ Some z) (sym same) (ap (parked_at (scheduler f)) first.same ∙ first.there)

  -- and what it is told stands with the scheduler
  pub taken-told : p.todo ≡ [] → (c : Context) (told : Told) → e.moved ≡ Exchange.thread c (Some told) → told_at (scheduler f) c.thread ≡ Some told
  taken-told at c told moved =
      let (first, is, tells) = takes-first at c (Some told) moved in
      ap (told_at (scheduler f)) (ap (λ (z : Context). z.thread) is ∙ (kill-thread (is_cut (scheduler f) first.thread) first.parked ∙ first.same)) ∙ (sym first.tells ∙ sym tells)

  -- so nobody had cut it
  pub taken-uncut : p.todo ≡ [] → (c : Context) (told : Told) → e.moved ≡ Exchange.thread c (Some told) → c.thread < THREADS → cutters f c.thread ≡ 0
  taken-uncut at c told moved few = (told-uncut c.thread few told (taken-told at c told moved)).0

  -- what the scheduler has once a thread is parked
  pub parks-after : (todo : Todos) → p.todo ≡ Todo.park ∷ todo → scheduler later ≡ one_less (put_back (scheduler f) (ready_in e.act) p.context)
  parks-after todo at =
      sched-later f m e law (made-at f m e law (Todo.park ∷ todo) at) (FineAct.Unseen (Unseen.Park (to_thread p.context.thread) (ready_in e.act))) (made-says f m e law (Todo.park ∷ todo) at)
      ∙ ap (λ (mv : Exchange). one_less (put_back (scheduler f) (ready_in e.act) (context_in mv))) (made-moves f m e law (Todo.park ∷ todo) at)

-- a look finds this thread, which waits, and cuts it
pub record CutNow (f : Fine) (m : State) (e : FineStep) (v : ℕ) (s : State) : Type 0 where
  pub maker : ℕ
  pub cell : ℕ
  pub who : ℕ
  pub same : who ≡ v
  pub chosen : MayChoose m maker cell (Pending.Cut (to_thread who))
  pub leaves : s ≡ T.after m maker cell (Pending.Cut (to_thread who)) (thread_at m maker).pending
  pub site : ℕ
  pub before : ℕ
  pub todo : Todos
  pub at : (f.processors e.cpu).todo ≡ Todo.look who site before ∷ todo
  pub found : is_void e.act ≡ false

-- the machine's thread waits to be woken
resumes-waits : (steps : Steps) → is_to_resume steps ≡ true → waits steps ≡ true
resumes-waits (Pending.Resume ∷ rest) h = refl
resumes-waits steps h = absurd (false≢true h)

module _ (f : Fine) (m : State) (e : FineStep) (law : Lawful f m e) where
  open around f e use {later}

  -- its own part still waits, while the machine's thread has nothing left but that it is killed
  pub of-cut : (c : Context) → IsOf f m c → (s : State) → CutNow f m e c.thread s → IsOf later s c
  of-cut c of s is =
      record {
        index = of.index;
        own = ap (λ n. as_thread (as_cut n c)) one ∙ (ap (λ (z : Thread). record z { pending = Pending.Killed ∷ [] }) own ∙ ap own_part (sym now));
        waiting = λ some. ap waits (ap (λ (z : Thread). z.pending) own) ∙ resumes-waits me.pending waiting;
        claims = ap (λ (z : Thread). z.checked) now ∙ of.claims;
        ended = of.ended ∙ ap (λ (z : Thread). is_ended z.life) (sym now);
        started = subst (λ (z : Thread). IsTrue (is_started z.life)) (sym now) of.started;
        below = of.below;
      }
    where
      me : Thread
      me = thread_at m c.thread

      waiting : is_to_resume me.pending ≡ true
      waiting =
          let th = thread_at m is.who in
          let at-cell = (and_parts th.aborted (waits_at m is.who is.cell) is.chosen).1 in
          let rests = (and_parts (is_waiting th) (stands_in is.who (waiters_in m is.cell)) at-cell).0 in
          subst (λ n. is_to_resume (thread_at m n).pending ≡ true) is.same (and_parts (is_to_resume th.pending) (not (is_some th.told)) rests).0

      none : cutters f c.thread ≡ 0
      none = by (cutters f c.thread) refl
        where
          by : (n : ℕ) → cutters f c.thread ≡ n → n ≡ 0
          by zero k = refl
          by (suc n) k = absurd (true≢false (sym waiting ∙ ap is_to_resume ((law.rel.threads c.thread of.index).cut.left (omega (arith, k)))))

      own : as_thread c ≡ own_part me
      own = ap (λ n. as_thread (as_cut n c)) (sym none) ∙ of.own

      one : cutters later c.thread ≡ 1
      one =
          let all = cutters-on f m e law c.thread (Todo.look is.who is.site is.before) is.todo is.at refl in
          let here : (if is_void e.act then 0 else one_if (is.who == c.thread)) ≡ 1 = λ i. if is.found i then 0 else one_if (eq-eqb is.who c.thread is.same i) in
          omega (arith, all, none, here)

      now : thread_at s c.thread ≡ cut me
      now =
          ap (λ (z : State). thread_at z c.thread) is.leaves
          ∙ (ap (λ n. thread_at (T.after m is.maker is.cell (Pending.Cut (to_thread is.who)) (thread_at m is.maker).pending) n) (sym is.same)
          ∙ (at-here m.threads is.who (cut (thread_at m is.who)) inside ∙ ap (λ n. cut (thread_at m n)) is.same))
        where
          inside : is.who < length m.threads
          inside = let many = law.sound.wide.threads in let index = of.index in let same = is.same in omega (arith, many, index, same)

  -- one that is taken, and was cut, has nothing left but that it is killed
  pub of-taken : (f.processors e.cpu).todo ≡ [] → (first : IsTaken f e) → IsOf f m first.parked → IsOf later m (to_kill (is_cut (scheduler f) first.thread) first.parked)
  of-taken at first of = by (is_cut (scheduler f) first.thread) refl
    where
      few : first.thread < THREADS
      few = subst (λ n. n < THREADS) first.same of.index

      counts : cutters later first.thread + one_if (is_cut (scheduler f) first.thread) ≡ cutters f first.thread
      counts = cutters-taken f m e law at first.site first.said first.thread first.list first.ready few

      index : first.parked.thread ≡ first.thread
      index = first.same

      by : (b : Bool) → is_cut (scheduler f) first.thread ≡ b → IsOf later m (to_kill b first.parked)
      by true k =
          let all = counts in
          let there = ap one_if k in
          let once = (law.rel.threads first.thread few).cut.once in
          let gone : cutters later first.parked.thread ≡ 0 = ap (cutters later) index ∙ omega (arith, all, there, once) in
          let was : cutters f first.parked.thread ≡ 1 = ap (cutters f) index ∙ omega (arith, all, there, once) in
          record {
            index = of.index;
            own = ap (λ n. as_thread (as_cut n (to_kill true first.parked))) gone ∙ (ap (λ n. as_thread (as_cut n first.parked)) (sym was) ∙ of.own);
            waiting = λ some. absurd (omega (arith, some, gone));
            claims = of.claims;
            ended = of.ended;
            started = of.started;
            below = of.below;
          }
      by false k =
          let all = counts in
          let there = ap one_if k in
          let kept : cutters later first.parked.thread ≡ cutters f first.parked.thread = ap (cutters later) index ∙ (omega (arith, all, there) ∙ sym (ap (cutters f) index)) in
          record {
            index = of.index;
            own = ap (λ n. as_thread (as_cut n first.parked)) kept ∙ of.own;
            waiting = λ some. of.waiting (subst (λ n. 0 < n) kept some);
            claims = of.claims;
            ended = of.ended;
            started = of.started;
            below = of.below;
          }
