-- What is due of a processor's thread isn't visited yet, after every lawful step.
use Rattle.um_refinement.proofs.Words.{as_thread, behind_step, scheduler, waits, with_cleaned, ◌≡◌, ◌⊎◌, inl, inr, ℕ, ◌+◌, ◌<◌, ◌≤◌, Bool, true, false, cond, List, [], ◌∷◌, Option, Some, None, refl, sym, ap, ◌∙◌, subst, arith, eq-eqb, eq-or-lt_of_le, ◌==◌, ◌&&◌, if◌then◌else◌, not, slice_index_or, slice_set, eqb-true, false≢true, ltb-true, get_or-set_same, Told, Image, ROWS, THREADS, ThreadIx, IsLawful, own_row, Pending, Thread, Steps, to_thread, opening, State, pair_at, thread_at, core_of, IsKnown, IsDescribed, AreKept, FineAct, Unseen, has, act_in, is_visit, begins_cleaning, says, Context, continues, resumed, resumed_at, after_show, after_take, dropped_at, filled_up, goes_on_by, p_next, Todo, Todos, but, drops, next_steps, passes, Processor, waits, Exchange, FineStep, is_visiting, Fine, one_if, has_steps, runs, visited, Drops, Fits, IsPutBack, Passes, is_over, IsOf, IsRun, runs_on, told_way, DueFrom, are_plain, DuesAre}
use Rattle.um_machine.specs.Table as T
use Rattle.um_words.specs.declared.fine.Mark.{Mark}
use Rattle.um_fine.specs.Answers.{is_tick, thread_in}
use Rattle.um_fine.specs.Asks.{says_turn}
use Rattle.um_fine.specs.Follows.{shown_step, waits_behind}
use Rattle.um_fine.specs.Places.{put_away}
use Rattle.um_fine.specs.Scheduler.{is_cut, to_kill}
use Rattle.um_refinement.specs.Lists.{times}
use Rattle.um_refinement.specs.Threads.{as_cut}
use Rattle.um_refinement.proofs.ChildrenKnown.{AllCreate, children-known, offered-stands}
use Rattle.um_refinement.proofs.CleanersPart.{visit-is}
use Rattle.um_refinement.proofs.ContextsPart.{noted-run, ran, take-context, apart-with, is_shown, now-context, quiet-context, read-only}
use Rattle.um_refinement.proofs.DuesFilled.{left_behind, Begun, IsFew, Passed, behind-order, behind-still, but-below, child-below, continued-few, due-held, due-passed, inherit-begun, next-begun, next-passed, offers-plain, resumes-plain, still-begun, still-passed, way-few}
use Rattle.um_refinement.proofs.DuesKept.{beside-less, IsLess, IsShort, clean-less, inherit-less, is_due, others-less, short-known}
use Rattle.um_refinement.proofs.DuesLooked.{drop-looked, pass-looked, row-first}
use Rattle.um_refinement.proofs.Erased.{IsReachable, around, later}
use Rattle.um_refinement.proofs.Leaves.{Beside, HasStep, Lawful, Leaves}
use Rattle.um_refinement.proofs.Leaves as L
use Rattle.um_refinement.proofs.ListDues.{is_own, looks-visited, Filled, behind-visited, drops-visited, filled-visited, fine-visited, goes-visited, passes-visited, skips-own, visited-bounded, with-cleaned-visited}
use Rattle.um_refinement.proofs.ListGrips.{read-rests}
use Rattle.um_refinement.proofs.ListGrowth.{acted-kept, is_end}
use Rattle.um_refinement.proofs.ListRuns.{ends-rests, takes-none}
use Rattle.um_refinement.proofs.Offered.{own-unless, runs-first, shows-runs, IsStep, Shows, behind-is, shown-offers}
use Rattle.um_refinement.proofs.Taking.{Idles, IsTaken, idles, taken-parked, taken-uncut, takes, tends}
use Rattle.um_refinement.proofs.PartsElsewhere.{Apart, CutsNot}
use Rattle.um_refinement.proofs.SchedulerSteps.{made-says}
use Rattle.um_refinement.proofs.StepReads.{is-behind}
use Rattle.um_refinement.proofs.StepsLeft.{steps-on}
use Rattle.um_refinement.proofs.SuitsKnown.{kept-known}
use Rattle.um_refinement.proofs.VisitSteps.{visit-runs, Visits}
use Rattle.um_refinement.proofs.WordsKept.{IsShown}

-- What is known of a state that a run reaches: what is due may be passed on or dropped, by a thread that has the child for it, and is of rows.
pub record DuesKnown (s : State) : Type 0 where
  pub kept : AreKept s
  pub creates : AllCreate s
  pub short : IsShort s

-- the visits of a thread have come to this row: nothing due is below it, and its drops begin at or below it
abbrev VisitsAt : State → Context → ℕ → Type 0
VisitsAt s c v = Passed s c v × Begun c v

still-visits : (s : State) (c : Context) (v : ℕ) → is_visiting c.pending ≡ false → VisitsAt s c v
still-visits s c v h = (still-passed s c v h, still-begun c v h)

put-back-still : (c : Context) → IsPutBack c → is_visiting c.pending ≡ false
put-back-still c (inl h) = ap is_visiting h
put-back-still c (inr h) = by c.pending h
  where
    by : (steps : Steps) → waits steps ≡ true → is_visiting steps ≡ false
    by [] k = absurd (false≢true k)
    by (Pending.Resume ∷ rest) k = refl
    by (q ∷ rest) k = absurd (false≢true k)

-- who visits doesn't wait
visiting-awake : (steps : Steps) → is_visiting steps ≡ true → waits steps ≡ false
visiting-awake [] h = absurd (false≢true h)
visiting-awake (Pending.Inherit who ∷ rest) h = refl
visiting-awake (Pending.Drops from ∷ rest) h = refl
visiting-awake (q ∷ rest) h = absurd (false≢true h)

put-away-visited : (b : Bool) → visited (put_away b) ≡ ROWS
put-away-visited true = refl
put-away-visited false = refl

-- who visits has a step left
visits-on : (c : Context) → is_visiting c.pending ≡ true → is_over c ≡ false
visits-on c h = by c.pending refl
  where
    by : (steps : Steps) → c.pending ≡ steps → is_over c ≡ false
    by [] e = absurd (false≢true (sym (ap is_visiting e) ∙ h))
    by (q ∷ rest) e = steps-on c q rest e

module _ (f : Fine) (m : State) (e : FineStep) (law : Lawful f m e) where
  open around f e use {processor as p, now}
  open is-behind f m e law use {frame}

  -- a step is of no thread, or of another one
  abbrev OfOther : (s : State) → Leaves f m e s → ℕ → Type 0
  OfOther _ (L.event q rest todo x h shown is) v = p.context.thread ≡ v → ⊥
  OfOther _ (L.resumes c told rest idle moved said) v = c.thread ≡ v → ⊥
  OfOther _ (L.passes who x rest todo h said) v = p.context.thread ≡ v → ⊥
  OfOther _ (L.drops from x rest todo h said) v = p.context.thread ≡ v → ⊥
  OfOther _ l v = Unit {0}

  other-of : (s : State) (how : Leaves f m e s) (v : ℕ) → (CutsNot f m e law s how s how v → Apart f m e law s how s how v) → OfOther s how v
  other-of _ (L.event q rest todo x h shown is) v apart = (apart tt).0
  other-of _ (L.resumes c told rest idle moved said) v apart = apart tt
  other-of _ (L.passes who x rest todo h said) v apart = apart tt
  other-of _ (L.drops from x rest todo h said) v apart = apart tt
  other-of _ l v apart = tt

  -- and then makes nothing due
  less : (s : State) (how : Leaves f m e s) (v : ℕ) → OfOther s how v → IsLess m v s
  less _ (L.nothing u said) v apart = λ y d. d
  less _ (L.event q rest todo x h shown is) v apart = others-less m p.context.thread v apart x q rest
  less _ (L.resumes c told rest idle moved said) v apart = others-less m c.thread v apart 0 Pending.Resume rest
  less _ (L.passes who x rest todo h said) v apart = others-less m p.context.thread v apart x (Pending.Inherit (to_thread who)) rest
  less _ (L.drops from x rest todo h said) v apart = others-less m p.context.thread v apart x (Pending.Drops from) rest
  less _ (L.cleans who x rest todo h said) v apart = clean-less m p.context.thread x (to_thread who) rest v
  less _ (L.recycles x rest todo at few said chosen) v apart = λ y d. d
  less _ (L.beside t x q how chosen started) v apart = on-beside t x q how
    where
      on-beside : (t x : ℕ) (q : Pending) → Beside f m e t x q → IsLess m v (T.after m t x q (thread_at m t).pending)
      on-beside t x _ (L.cuts who site before _ todo at place inside said) = beside-less m v t x (Pending.Cut (to_thread who)) (thread_at m t).pending tt
      on-beside t x _ (L.times_out deadline site _ who todo at place inside said) = beside-less m v t x (Pending.TimeOut who) (thread_at m t).pending tt
      on-beside t x _ (L.expires deadline y todo at inside said) = beside-less m v t x Pending.Expire (thread_at m t).pending tt
      on-beside t x _ (L.ticks at said) = beside-less m v t x Pending.Tick (thread_at m t).pending tt
      on-beside t x _ (L.leaves todo at said) = beside-less m v t x Pending.Left (thread_at m t).pending tt

  fits-at : (todo : Todos) → p.todo ≡ todo → Fits f.image p.context todo
  fits-at todo at = subst (Fits f.image p.context) at (law.rel.processors e.cpu law.by.named).list.fits

  was : DuesAre f m e.cpu
  was = (law.rel.processors e.cpu law.by.named).dues

  was-visits : runs p ≡ true → VisitsAt m p.context (visited p.todo)
  was-visits running = (was.passes running, λ from rest. was.drops from rest running)

  was-few : runs p ≡ true → IsFew p.context.pending
  was-few running = by p.context.pending refl
    where
      by : (steps : Steps) → p.context.pending ≡ steps → IsFew steps
      by (Pending.Drops from ∷ rest) k =
          let low = was.drops from rest running k in
          let most = visited-bounded p.todo (law.rel.processors e.cpu law.by.named).rows in omega (arith, low, most)
      by steps k = tt

  now-left : visited now.todo ≡ visited (goes_on_by f.image p e p.todo).todo
  now-left =
      let z = with_cleaned f.image (goes_on_by f.image p e p.todo) e (begins_cleaning e) in
      ap visited (acted-kept f.image (λ (l : Todos). l ≡ z.todo) z e.act refl) ∙ with-cleaned-visited f.image (goes_on_by f.image p e p.todo) e (begins_cleaning e)

  -- how far the visits are on its list
  now-visited : (q : Todo) (todo : Todos) → p.todo ≡ q ∷ todo → visited now.todo ≡ visited (goes_on_by f.image p e (q ∷ todo)).todo
  now-visited q todo at = now-left ∙ ap (λ (z : Todos). visited (goes_on_by f.image p e z).todo) at

  module _ (s : State) (same : s.image ≡ f.image) (after : DuesKnown s) where
    -- the next step of its thread is expanded
    next-visits : (c : Context) → IsRun (later f e) s c → IsFew c.pending → VisitsAt s c (visited (next_steps f.image c c.pending))
    next-visits c run few = by (is_visiting c.pending) refl
      where
        by : (b : Bool) → is_visiting c.pending ≡ b → VisitsAt s c (visited (next_steps f.image c c.pending))
        by false still = still-visits s c (visited (next_steps f.image c c.pending)) still
        by true visiting =
            let own = ap (λ (th : Thread). th.pending) (own-unless (run.of (visits-on c visiting)) (visiting-awake c.pending visiting)) in
            (next-passed f.image s same after.kept after.creates c own, next-begun f.image s same after.kept after.creates c own few)

    -- a step that leaves its thread's own part and the visits
    goes-on : runs p ≡ true → IsLess m p.context.thread s → IsRun (later f e) s p.context → (q : Todo) (todo : Todos) → p.todo ≡ q ∷ todo → visited p.todo ≡ visited todo → Filled f.image p.context todo (goes_on_by f.image p e (q ∷ todo)).todo
        → VisitsAt s p.context (visited now.todo)
    goes-on running fewer run q todo at before (inl left) =
        let to = now-visited q todo at ∙ (left ∙ sym before) in
        let old = was-visits running in (
          λ visiting y d. let l = old.0 visiting y (fewer y d) in omega (arith, l, to),
          λ from rest k. let l = old.1 from rest k in omega (arith, l, to),
        )
    goes-on running fewer run q todo at before (inr next) =
        subst (VisitsAt s p.context) (sym (now-visited q todo at ∙ ap visited next.1)) (next-visits p.context run (was-few running))

    -- an inheritance visits a row that isn't due any more
    passes-visits : IsLess m p.context.thread s → IsRun (later f e) s p.context → (who x : ℕ) (todo : Todos) → p.todo ≡ Todo.pass who x ∷ todo
        → ((child : ThreadIx) (rest : Steps) → child.0 ≡ who → p.context.pending ≡ Pending.Inherit child ∷ rest → is_due s p.context.thread x ≡ true → ⊥) → VisitsAt s p.context (visited now.todo)
    passes-visits fewer run who x todo at done = by (filled-visited f.image p.context (passes who next todo))
      where
        next : ℕ
        next = but (own_row f.image p.context.thread) (x + 1)

        fits-here : Passes f.image p.context who todo
        fits-here = (fits-at (Todo.pass who x ∷ todo) at).0

        on : is_over p.context ≡ false
        on = steps-on p.context (Pending.Inherit fits-here.child) (fits-here.step ∷ fits-here.rest) fits-here.pending

        stands : (thread_at s p.context.thread).pending ≡ Pending.Inherit fits-here.child ∷ fits-here.step ∷ fits-here.rest
        stands = sym (ap (λ (th : Thread). th.pending) (own-unless (run.of on) (ap waits fits-here.pending))) ∙ fits-here.pending

        running : runs p ≡ true
        running = runs-first law.rel law.by.named (Todo.pass who x) todo at (λ hand. hand)

        over : visited todo ≡ ROWS
        over = ap visited fits-here.behind ∙ fine-visited f.image p.context fits-here.step fits-here.rest

        by : Filled f.image p.context (passes who next todo) (filled_up f.image p.context (passes who next todo)) → VisitsAt s p.context (visited now.todo)
        by (inl left) = (
          λ visiting y d.
              let old : x ≤ y = subst (λ n. n ≤ y) (ap visited at) ((was-visits running).0 visiting y (fewer y d)) in
              let apart = (due-passed s after.kept after.creates p.context.thread fits-here.child (fits-here.step ∷ fits-here.rest) stands y d).1 in
              let least = but-below (own_row f.image p.context.thread) (x + 1) y (above y old d) (λ k. apart (k ∙ ap (λ (i : Image). own_row i p.context.thread) (sym same))) in
              let most = (passes-visited f.image who next todo over).1 in
              let to = now-visited (Todo.pass who x) todo at ∙ left in
              omega (arith, least, most, to),
          inherit-begun p.context (visited now.todo) fits-here.child (fits-here.step ∷ fits-here.rest) fits-here.pending,
        )
          where
            above : (y : ℕ) → x ≤ y → is_due s p.context.thread y ≡ true → x + 1 ≤ y
            above y l d = which (eq-or-lt_of_le l)
              where
                which : (x ≡ y) ⊎ (x < y) → x + 1 ≤ y
                which (inl k) = absurd (done fits-here.child (fits-here.step ∷ fits-here.rest) fits-here.same fits-here.pending (ap (is_due s p.context.thread) k ∙ d))
                which (inr k) = omega (arith, k)
        by (inr left) =
            subst (VisitsAt s p.context) (sym (now-visited (Todo.pass who x) todo at ∙ ap visited left.1)) (next-visits p.context run (was-few running))

    -- the drops of an end go on behind the row
    drops-visits : (c : Context) → c.thread ≡ p.context.thread → IsRun (later f e) s c → (x from : ℕ) (rest : Steps) (todo : Todos) → p.todo ≡ Todo.drop x ∷ todo → x < ROWS → c.pending ≡ Pending.Drops from ∷ rest → from ≤ x + 1
        → ((y : ℕ) → is_due s c.thread y ≡ true → x + 1 ≤ y) → visited (filled_up f.image c (drops (x + 1) todo)) ≡ visited now.todo → VisitsAt s c (visited now.todo)
    drops-visits c thread run x from rest todo at small has low above list = by (filled-visited f.image c (drops (x + 1) todo))
      where
        fits-here : Drops f.image p.context todo
        fits-here = fits-at (Todo.drop x ∷ todo) at

        over : visited todo ≡ ROWS
        over = ap visited fits-here.behind ∙ fine-visited f.image p.context fits-here.step fits-here.rest

        first_of : Steps → ℕ
        first_of (Pending.Drops n ∷ more) = n
        first_of steps = 0

        by : Filled f.image c (drops (x + 1) todo) (filled_up f.image c (drops (x + 1) todo)) → VisitsAt s c (visited now.todo)
        by (inl left) =
            let to : visited now.todo ≡ x + 1 = sym list ∙ (left ∙ (drops-visited f.image (x + 1) todo over).0 (omega (arith, small))) in (
              λ visiting y d. let l = above y d in omega (arith, l, to),
              λ n more k. let same-from : from ≡ n = ap first_of (sym has ∙ k) in omega (arith, low, same-from, to),
            )
        by (inr left) =
            subst (VisitsAt s c) (sym (ap visited left.1) ∙ list) (next-visits c run (subst IsFew (sym has) (omega (arith, low, small))))

  -- The processor that makes the step.

  -- a step that no trace shows
  quiet-visits : DuesKnown m → (runs now ≡ true → IsRun (later f e) m now.context) → runs now ≡ true → (u : Unseen) → e.act ≡ FineAct.Unseen u → (todo : Todos) → p.todo ≡ todo → VisitsAt m now.context (visited now.todo)
  quiet-visits known run on u said [] at = by (idles f m e law at)
    where
      killed-still : (b : Bool) (c : Context) → is_visiting c.pending ≡ false → is_visiting (to_kill b c).pending ≡ false
      killed-still true c h = refl
      killed-still false c h = h

      taken : (first : IsTaken f e) (told : Option Told) → e.moved ≡ Exchange.thread (to_kill (is_cut (scheduler f) first.thread) first.parked) told → VisitsAt m now.context (visited now.todo)
      taken first None moved =
          let c = to_kill (is_cut (scheduler f) first.thread) first.parked in
          subst (λ (c : Context). VisitsAt m c (visited now.todo)) (sym (now-context f m e law [] at ∙ (ap (λ (mv : Exchange). (after_take f.image p mv).context) moved ∙ take-context f.image p c)))
          (still-visits m c (visited now.todo) (killed-still (is_cut (scheduler f) first.thread) first.parked (put-back-still first.parked (law.rel.contexts.parked first.thread first.parked first.there).3)))
      taken first (Some w) moved = absurd (false≢true (sym (ap is_shown said) ∙ ap is_shown (first.said ∙ ap (says_turn f.image p) moved)))

      by : Idles f e → VisitsAt m now.context (visited now.todo)
      by (takes first) = taken first first.told first.moved
      by (tends is) = absurd (false≢true (sym (takes-none f.image p e at is.other is.quiet) ∙ on))
  quiet-visits known run on u said (Todo.sleep ∷ todo) at =
      subst (λ (c : Context). VisitsAt m c (visited now.todo)) (sym (now-context f m e law (Todo.sleep ∷ todo) at)) (still-visits m (goes_on_by f.image p e (Todo.sleep ∷ todo)).context (visited now.todo) refl)
  quiet-visits known run on u said (q ∷ todo) at = by (is_end q) refl
    where
      nothing-more : IsLess m p.context.thread m
      nothing-more y d = d

      by-step : (q : Todo) → p.todo ≡ q ∷ todo → is_end q ≡ false → IsRun (later f e) m p.context → VisitsAt m p.context (visited now.todo)
      by-step (Todo.show r rest) at goes run-here =
          let read = read-only f m e law r (made-says f m e law (Todo.show r rest ∷ todo) at) (ap is_shown said) in
          let none : todo ≡ [] = (fits-at (Todo.show r rest ∷ todo) at).1 ∙ read-rests f.image p p.context r e.act (made-says f m e law (Todo.show r rest ∷ todo) at) read in
          let left : visited (goes_on_by f.image p e (Todo.show r rest ∷ todo)).todo ≡ visited todo =
          ap (λ b. visited (if b then record p { todo = put_away (thread_in e.word).doomed } else after_show f.image p e (shown_step f.image r e.act) rest todo).todo) read
          ∙ (put-away-visited (thread_in e.word).doomed ∙ sym (ap visited none)) in
          goes-on m law.rel.image known (ran f m e law (Todo.show r rest) todo at refl on) nothing-more run-here (Todo.show r rest) todo at (ap visited at) (inl left)
      by-step (Todo.pass who x) at goes run-here =
          let looked = visit-is f m e law x (ltb-true x ROWS (row-first f m e law (Todo.pass who x) todo at)) u _ said (made-says f m e law (Todo.pass who x ∷ todo) at) in
          passes-visits m law.rel.image known nothing-more run-here who x todo at
          (λ child rest same has d.
          let stands = sym (ap (λ (th : Thread). th.pending) (own-unless (run-here.of (steps-on p.context (Pending.Inherit child) rest has)) (ap waits has))) ∙ has in
          pass-looked f m e law who x todo at looked (due-held m known.kept p.context.thread x d)
          (ap (λ n. pair_at m n x) (sym same) ∙ (due-passed m known.kept known.creates p.context.thread child rest stands x d).0))
      by-step (Todo.drop x) at goes run-here =
          let looked = visit-is f m e law x (ltb-true x ROWS (row-first f m e law (Todo.drop x) todo at)) u _ said (made-says f m e law (Todo.drop x ∷ todo) at) in
          let fits-here : Drops f.image p.context todo = fits-at (Todo.drop x ∷ todo) at in
          let running = runs-first law.rel law.by.named (Todo.drop x) todo at (λ hand. hand) in
          let low = was.drops fits-here.from (fits-here.step ∷ fits-here.rest) running fits-here.pending in
          let here : visited p.todo ≡ x = ap visited at in
          drops-visits m law.rel.image known p.context refl run-here x fits-here.from (fits-here.step ∷ fits-here.rest) todo at (ltb-true x ROWS (row-first f m e law (Todo.drop x) todo at)) fits-here.pending (omega (arith, low, here))
          (λ y d. above y (subst (λ n. n ≤ y) here (was.passes running (ap is_visiting fits-here.pending) y d)) (λ k. drop-looked f m e law x todo at looked (due-held m known.kept p.context.thread x k)) d)
          (sym (now-visited (Todo.drop x) todo at ∙ ap (λ a. visited (filled_up f.image (dropped_at f.image p.context x (is_visit a)) (drops (x + 1) todo))) looked))
        where
          above : (y : ℕ) → x ≤ y → (is_due m p.context.thread x ≡ true → ⊥) → is_due m p.context.thread y ≡ true → x + 1 ≤ y
          above y l gone d = which (eq-or-lt_of_le l)
            where
              which : (x ≡ y) ⊎ (x < y) → x + 1 ≤ y
              which (inl k) = absurd (gone (ap (is_due m p.context.thread) k ∙ d))
              which (inr k) = omega (arith, k)
      by-step q at goes run-here = goes-on m law.rel.image known (ran f m e law q todo at goes on) nothing-more run-here q todo at (ap visited at ∙ skips-own q todo refl) (goes-visited f.image p e q todo refl (frame q todo at))

      cleans-none : (q : Todo) → is_end q ≡ true → e.act ≡ says f.image p (q ∷ todo) e.act e.moved → begins_cleaning e ≡ false
      cleans-none Todo.park h k = ap (λ a. begins_cleaning (record e { act = a })) k
      cleans-none Todo.done h k = ap (λ a. begins_cleaning (record e { act = a })) k
      cleans-none Todo.paid h k = ap (λ a. begins_cleaning (record e { act = a })) k
      cleans-none r h k = absurd (false≢true h)

      by : (b : Bool) → is_end q ≡ b → VisitsAt m now.context (visited now.todo)
      by false goes =
          let stays = quiet-context f m e law q todo at goes refl (ap is_shown said) in
          let run-here = noted-run (later f e) m (record p.context { noted = stays.0 }) p.context.noted (subst (IsRun (later f e) m) stays.1 (run on)) in
          subst (λ (c : Context). VisitsAt m c (visited now.todo)) (sym stays.1) (by-step q at goes run-here)
      by true over =
          absurd (false≢true (sym (ap (λ (z : Todos). has_steps z && not (times z)) (ends-rests f.image p e q todo at over (cleans-none q over (made-says f m e law (q ∷ todo) at)))) ∙ on))

  -- how far the visits are after the event of a pending step
  shown-visited : {q : Pending} {rest : Steps} {todo : Todos} (h : Shows f m e.cpu e q rest todo)
      → visited now.todo ≡ visited (filled_up f.image (continues f.image p.context 0 q rest (act_in e.act) e.moved) (waits_behind f.image q e todo))
  shown-visited {q} {rest} {todo} h =
      let c = continues f.image p.context 0 q rest (act_in e.act) e.moved in
      let left = filled_up f.image c (waits_behind f.image q e todo) in
      now-visited (Todo.show h.listed rest) todo h.at
      ∙ (ap (λ b. visited (if b then record p { todo = put_away (thread_in e.word).doomed } else after_show f.image p e (shown_step f.image h.listed e.act) rest todo).todo) h.shown
      ∙ (ap (λ r. visited (after_show f.image p e r rest todo).todo) h.made
      ∙ (looks-visited f.image p.context q e (behind_step f.image p.context q e.moved left) ∙ behind-visited f.image p.context q e.moved left)))

  event-visits : DuesKnown m → (q : Pending) (rest : Steps) (todo : Todos) (x : ℕ) → Shows f m e.cpu e q rest todo → IsShown q → IsStep f m e.cpu e x q
      → (T.after m p.context.thread x q rest).image ≡ f.image → DuesKnown (T.after m p.context.thread x q rest) → IsRun (later f e) (T.after m p.context.thread x q rest) (continues f.image p.context 0 q rest (act_in e.act) e.moved)
      → VisitsAt (T.after m p.context.thread x q rest) (continues f.image p.context 0 q rest (act_in e.act) e.moved) (visited now.todo)
  event-visits known q rest todo x h shown is same after run = by (waits_behind f.image q e todo) refl
    where
      plain : are_plain rest ≡ true
      plain = offers-plain m known.kept p.context.thread q rest shown (shown-offers h)

      c : Context
      c = continues f.image p.context 0 q rest (act_in e.act) e.moved

      by : (list : Todos) → waits_behind f.image q e todo ≡ list → VisitsAt (T.after m p.context.thread x q rest) c (visited now.todo)
      by [] k =
          subst (VisitsAt (T.after m p.context.thread x q rest) c) (sym (shown-visited h ∙ ap (λ z. visited (filled_up f.image c z)) k))
          (next-visits (T.after m p.context.thread x q rest) same after c run (continued-few f.image p.context q rest (act_in e.act) e.moved (was-few (shows-runs h)) plain))
      by (r ∷ list) k =
          let some : has_steps (left_behind f.image p.context q e) ≡ true = ap has_steps (ap (waits_behind f.image q e) (sym (behind-is h)) ∙ k) in
          let stands = offered-stands m p.context.thread x known.creates q rest is.chosen (shown-offers h) in
          let order = behind-order f.image p.context m p.context.thread x known.creates q rest e some stands in
          still-visits (T.after m p.context.thread x q rest) c (visited now.todo) (behind-still f.image p.context q rest e some plain order)

  -- a thread goes on that was woken
  resumes-visits : DuesKnown m → (c : Context) (told : Told) (rest : Steps) → p.todo ≡ [] → e.moved ≡ Exchange.thread c (Some told) → c.pending ≡ Pending.Resume ∷ rest
      → (T.after m c.thread 0 Pending.Resume rest).image ≡ f.image → DuesKnown (T.after m c.thread 0 Pending.Resume rest) → IsRun (later f e) (T.after m c.thread 0 Pending.Resume rest) (resumed f.image c told)
      → VisitsAt (T.after m c.thread 0 Pending.Resume rest) (resumed f.image c told) (visited now.todo)
  resumes-visits known c told rest idle moved has same after run =
      subst (VisitsAt (T.after m c.thread 0 Pending.Resume rest) (resumed f.image c told)) (sym list)
      (next-visits (T.after m c.thread 0 Pending.Resume rest) same after (resumed f.image c told) run few)
    where
      list : visited now.todo ≡ visited (next_steps f.image (resumed f.image c told) (resumed f.image c told).pending)
      list =
          now-left ∙ (ap (λ (z : Todos). visited (goes_on_by f.image p e z).todo) idle ∙ ap (λ (mv : Exchange). visited (after_take f.image p mv).todo) moved)

      stands : (thread_at m c.thread).pending ≡ Pending.Resume ∷ rest
      stands =
          let of = (law.rel.contexts.parked c.thread c (taken-parked f m e law idle c told moved)).0 in
          let none = taken-uncut f m e law idle c told moved of.index in
          sym (ap (λ (th : Thread). th.pending) (ap (λ n. as_thread (as_cut n c)) (sym none) ∙ of.own)) ∙ has

      few : IsFew (resumed f.image c told).pending
      few = subst IsFew (sym (ap (λ (steps : Steps). (resumed_at f.image c told steps).pending) has)) (way-few rest (told_way told.reply) (resumes-plain m known.kept c.thread rest stands))

  -- a permission is passed on
  passed-visits : DuesKnown m → IsLawful m.image → (who x : ℕ) (rest : Steps) (todo : Todos) → Visits f m e.cpu e x (Todo.pass who x) todo → p.context.pending ≡ Pending.Inherit (to_thread who) ∷ rest
      → (T.after m p.context.thread x (Pending.Inherit (to_thread who)) rest).image ≡ f.image → DuesKnown (T.after m p.context.thread x (Pending.Inherit (to_thread who)) rest)
      → IsRun (later f e) (T.after m p.context.thread x (Pending.Inherit (to_thread who)) rest) p.context
      → VisitsAt (T.after m p.context.thread x (Pending.Inherit (to_thread who)) rest) p.context (visited now.todo)
  passed-visits known lawful who x rest todo h has same after run =
      passes-visits (T.after m p.context.thread x (Pending.Inherit (to_thread who)) rest) same after (inherit-less m p.context.thread x (to_thread who) rest p.context.thread) run who x todo h.at
      (λ child more named pending d.
      let stands = sym (ap (λ (th : Thread). th.pending) (own-unless (run.of (steps-on p.context (Pending.Inherit child) more pending)) (ap waits pending))) ∙ pending in
      let none = (due-passed (T.after m p.context.thread x (Pending.Inherit (to_thread who)) rest) after.kept after.creates p.context.thread child more stands x d).0 in
      false≢true (sym none ∙ (ap (λ n. pair_at (T.after m p.context.thread x (Pending.Inherit (to_thread who)) rest) n x) named ∙ there)))
    where
      of : IsOf f m p.context
      of = (law.rel.contexts.running e.cpu law.by.named (visit-runs h (λ hand. hand))).of (steps-on p.context (Pending.Inherit (to_thread who)) rest has)

      small : who < THREADS
      small = child-below m law.sound lawful known.creates p.context.thread (to_thread who) rest (sym (ap (λ (th : Thread). th.pending) (own-unless of (ap waits has))) ∙ has)

      there : pair_at (T.after m p.context.thread x (Pending.Inherit (to_thread who)) rest) who x ≡ true
      there =
          let rows = law.sound.wide.rows in
          let row = h.few in
          let long = law.sound.wide.flags x h.few in
          ap (λ (flags : List Bool). slice_index_or flags who false) (get_or-set_same m.pairs x (slice_set (slice_index_or m.pairs x []) who true) [] (omega (arith, rows, row)))
          ∙ get_or-set_same (slice_index_or m.pairs x []) who true false (omega (arith, long, small))

  -- a permission is dropped at the end
  dropped-visits : (from x : ℕ) (rest : Steps) (todo : Todos) → Visits f m e.cpu e x (Todo.drop x) todo → p.context.pending ≡ Pending.Drops from ∷ rest
      → (T.after m p.context.thread x (Pending.Drops from) rest).image ≡ f.image → DuesKnown (T.after m p.context.thread x (Pending.Drops from) rest)
      → IsRun (later f e) (T.after m p.context.thread x (Pending.Drops from) rest) (dropped_at f.image p.context x false)
      → VisitsAt (T.after m p.context.thread x (Pending.Drops from) rest) (dropped_at f.image p.context x false) (visited now.todo)
  dropped-visits from x rest todo h has same after run =
      drops-visits (T.after m p.context.thread x (Pending.Drops from) rest) same after (dropped_at f.image p.context x false) refl run x (x + 1) rest todo h.at h.few pending (omega arith)
      (λ y d. subst (λ (steps : Steps). DueFrom steps (thread_at (T.after m p.context.thread x (Pending.Drops from) rest) p.context.thread).due) stands (after.kept.orderly p.context.thread).from y d)
      (sym (now-visited (Todo.drop x) todo h.at ∙ ap (λ b. visited (filled_up f.image (dropped_at f.image p.context x b) (drops (x + 1) todo))) h.shown))
    where
      pending : (dropped_at f.image p.context x false).pending ≡ Pending.Drops (x + 1) ∷ rest
      pending = ap (λ (steps : Steps). (dropped_at f.image (record p.context { pending = steps }) x false).pending) has

      stands : (thread_at (T.after m p.context.thread x (Pending.Drops from) rest) p.context.thread).pending ≡ Pending.Drops (x + 1) ∷ rest
      stands = sym (ap (λ (th : Thread). th.pending) (own-unless (run.of (steps-on (dropped_at f.image p.context x false) (Pending.Drops (x + 1)) rest pending)) (ap waits pending))) ∙ pending

  mine-visits : DuesKnown m → IsLawful m.image → (s : State) (how : Leaves f m e s) → HasStep f m e s how → s.image ≡ f.image → DuesKnown s → (runs now ≡ true → IsRun (later f e) s now.context) → runs now ≡ true
      → VisitsAt s now.context (visited now.todo)
  mine-visits known lawful _ (L.nothing u said) has same after run on = quiet-visits known run on u said p.todo refl
  mine-visits known lawful s (L.event q rest todo x h shown is) has same after run on =
      let stays = now-context f m e law (Todo.show h.listed rest ∷ todo) h.at
      ∙ (ap (λ b. (if b then record p { todo = put_away (thread_in e.word).doomed } else after_show f.image p e (shown_step f.image h.listed e.act) rest todo).context) h.shown
      ∙ ap (λ r. (after_show f.image p e r rest todo).context) h.made) in
      subst (λ (c : Context). VisitsAt s c (visited now.todo)) (sym stays) (event-visits known q rest todo x h shown is same after (subst (IsRun (later f e) s) stays (run on)))
  mine-visits known lawful s (L.resumes c told rest idle moved said) has same after run on =
      let stays = now-context f m e law [] idle ∙ ap (λ (mv : Exchange). (after_take f.image p mv).context) moved in
      subst (λ (d : Context). VisitsAt s d (visited now.todo)) (sym stays) (resumes-visits known c told rest idle moved has same after (subst (IsRun (later f e) s) stays (run on)))
  mine-visits known lawful s (L.passes who x rest todo h said) has same after run on =
      let stays = now-context f m e law (Todo.pass who x ∷ todo) h.at in
      subst (λ (c : Context). VisitsAt s c (visited now.todo)) (sym stays) (passed-visits known lawful who x rest todo h has same after (subst (IsRun (later f e) s) stays (run on)))
  mine-visits known lawful s (L.drops from x rest todo h said) has same after run on =
      let stays = now-context f m e law (Todo.drop x ∷ todo) h.at ∙ ap (λ b. dropped_at f.image p.context x b) h.shown in
      subst (λ (c : Context). VisitsAt s c (visited now.todo)) (sym stays) (dropped-visits from x rest todo h has same after (subst (IsRun (later f e) s) stays (run on)))
  mine-visits known lawful s (L.cleans who x rest todo h said) has same after run on =
      let q = Todo.clean_pair who x in
      let stays = now-context f m e law (q ∷ todo) h.at in
      subst (λ (c : Context). VisitsAt s c (visited now.todo)) (sym stays)
      (goes-on s same after (visit-runs h (λ hand. hand)) (clean-less m p.context.thread x (to_thread who) rest p.context.thread) (subst (IsRun (later f e) s) stays (run on)) q todo h.at (ap visited h.at) (goes-visited f.image p e q todo refl (frame q todo h.at)))
  mine-visits known lawful s (L.recycles x rest todo at few said chosen) has same after run on =
      let q = Todo.recycle x in
      let stays = now-context f m e law (q ∷ todo) at in
      subst (λ (c : Context). VisitsAt s c (visited now.todo)) (sym stays)
      (goes-on s same after (runs-first law.rel law.by.named q todo at (λ hand. hand)) (λ y d. d) (subst (IsRun (later f e) s) stays (run on)) q todo at (ap visited at) (goes-visited f.image p e q todo refl (frame q todo at)))
  mine-visits known lawful s (L.beside t x q how chosen started) has same after run on = on-beside t x q how (less s (L.beside t x q how chosen started) p.context.thread tt) same after run
    where
      kept : (s : State) → IsLess m p.context.thread s → s.image ≡ f.image → DuesKnown s → (runs now ≡ true → IsRun (later f e) s now.context) → (z : Todo) (todo : Todos) → p.todo ≡ z ∷ todo → is_end z ≡ false → is_own z ≡ false
          → (goes_on_by f.image p e (z ∷ todo)).context ≡ p.context → VisitsAt s now.context (visited now.todo)
      kept s fewer same after run z todo at goes free context =
          let stays = now-context f m e law (z ∷ todo) at ∙ context in
          subst (λ (c : Context). VisitsAt s c (visited now.todo)) (sym stays)
          (goes-on s same after (ran f m e law z todo at goes on) fewer (subst (IsRun (later f e) s) stays (run on)) z todo at (ap visited at ∙ skips-own z todo free) (goes-visited f.image p e z todo free (frame z todo at)))

      unticked : p.todo ≡ [] → is_tick e.act ≡ true → ⊥
      unticked at tick = by (idles f m e law at)
        where
          turns : (c : Context) (told : Option Told) → is_tick (says_turn f.image p (Exchange.thread c told)) ≡ false
          turns c None = refl
          turns c (Some w) = refl

          by : Idles f e → ⊥
          by (takes first) = false≢true (sym (ap is_tick (first.said ∙ ap (says_turn f.image p) first.moved) ∙ turns (to_kill (is_cut (scheduler f) first.thread) first.parked) first.told) ∙ tick)
          by (tends is) = false≢true (sym (takes-none f.image p e at is.other is.quiet) ∙ on)

      on-beside : (t x : ℕ) (q : Pending) → let z = T.after m t x q (thread_at m t).pending in
          Beside f m e t x q → IsLess m p.context.thread z → z.image ≡ f.image → DuesKnown z → (runs now ≡ true → IsRun (later f e) z now.context) → VisitsAt z now.context (visited now.todo)
      on-beside t x _ (L.cuts who site before _ todo at place inside said) fewer same after run = kept _ fewer same after run (Todo.look who site before) todo at refl refl refl
      on-beside t x _ (L.times_out deadline site _ who todo at place inside said) fewer same after run = kept _ fewer same after run (Todo.handle deadline (Mark.Thread who site)) todo at refl refl refl
      on-beside t x _ (L.expires deadline y todo at inside said) fewer same after run = kept _ fewer same after run (Todo.handle deadline (Mark.Timer y)) todo at refl refl refl
      on-beside t x _ (L.ticks at said) fewer same after run = absurd (unticked at (ap is_tick said))
      on-beside t x _ (L.leaves todo at said) fewer same after run = kept _ fewer same after run Todo.leave todo at refl refl refl

  pub dues-part : DuesKnown m → IsLawful m.image → (s : State) (how : Leaves f m e s) → HasStep f m e s how → s.image ≡ f.image → DuesKnown s
      → ((k : ℕ) → k < f.cpus → runs ((later f e).processors k) ≡ true → IsRun (later f e) s ((later f e).processors k).context) → (k : ℕ) → k < f.cpus → DuesAre (later f e) s k
  dues-part known lawful s how has same after run k l = by (e.cpu == k) refl (run k l)
    where
      kth : Bool → Processor
      kth b = cond b (p_next f.image (f.processors k) e) (f.processors k)

      visits-are : (z : Processor) → (runs z ≡ true → VisitsAt s z.context (visited z.todo)) → kth (e.cpu == k) ≡ z → DuesAre (later f e) s k
      visits-are z visits is =
          let at : runs (kth (e.cpu == k)) ≡ true → VisitsAt s (kth (e.cpu == k)).context (visited (kth (e.cpu == k)).todo) =
          subst (λ (w : Processor). runs w ≡ true → VisitsAt s w.context (visited w.todo)) (sym is) visits in
          record { passes = λ on. (at on).0; drops = λ from rest on. (at on).1 from rest; few = after.short.dues (kth (e.cpu == k)).context.thread }

      other : (e.cpu == k) ≡ false → runs (f.processors k) ≡ true → VisitsAt s (f.processors k).context (visited (f.processors k).todo)
      other q on = (
        λ visiting y d.
            let c = (f.processors k).context in
            let run-here = law.rel.contexts.running k l on in
            let left = visits-on c visiting in
            let lies : runs_on c.thread (f.processors k) ≡ true = λ i. (on i && eq-eqb c.thread c.thread refl i) && not (left i) in
            let one = ap one_if lies in
            (law.rel.processors k l).dues.passes on visiting y (less s how c.thread (other-of s how c.thread (apart-with f m e law s how c.thread run-here.index c (run-here.of left) refl left k l q (omega (arith, one)))) y d),
        λ from rest. (law.rel.processors k l).dues.drops from rest on,
      )

      by : (b : Bool) → (e.cpu == k) ≡ b → (runs (kth (e.cpu == k)) ≡ true → IsRun (later f e) s (kth (e.cpu == k)).context) → DuesAre (later f e) s k
      by true q run-at =
          let is : kth (e.cpu == k) ≡ now = ap kth q ∙ ap (λ (z : Processor). p_next f.image z e) (sym (ap f.processors (eqb-true e.cpu k q))) in
          visits-are now (mine-visits known lawful s how has same after (subst (λ (z : Processor). runs z ≡ true → IsRun (later f e) s z.context) is run-at)) is
      by false q run-at = visits-are (f.processors k) (other q) (ap kth q)

-- it is known of each state that a run of a described image reaches
pub dues-known : (image : Image) (cpus : ℕ) → IsDescribed image → IsKnown (core_of (opening image)) → (m : State) → IsReachable image cpus m → DuesKnown m
dues-known image cpus described known m reach =
    record { kept = kept-known image cpus described known m reach; creates = children-known image cpus m reach; short = short-known image cpus described.few m reach }
