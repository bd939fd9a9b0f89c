-- What one processor knows of those who wait: a look and a mark in the hand that find nobody say so of the machine, and no word that is read once more shows an
-- abort.
use Rattle.std.specs.List.{list_all, list_any}
use Rattle.std.specs.Prelude.{◌==◌, ◌&&◌, ◌||◌, not, if◌then◌else◌, is_some, nat_le, nat_lt, slice_index_or}
use Rattle.std.proofs.Common.{◌≡◌, ℕ, zero, suc, ◌+◌, ◌<◌, ◌≤◌, arith, length, Bool, true, false, List, [], ◌∷◌, Option, Some, None, refl, sym, ap, ◌∙◌, subst, eq-eqb, ne_eqb}
use Rattle.std.proofs.lemmas.Bool.{and_parts, and_from, eqb-true, false≢true, true≢false, leb-true, le-leb, ltb-true, not-true, ltb-false}
use Rattle.um_base.specs.declared.act.Act.{Act}
use Rattle.um_base.specs.declared.limits.TheConstants.{ROWS, THREADS, FUTEX_CELL, JOIN_CELL}
use Rattle.um_base.specs.declared.names.Row.{Row}
use Rattle.um_base.specs.declared.names.ThreadIx.{ThreadIx}
use Rattle.um_machine.specs.Order.{Steps, to_thread, to_row}
use Rattle.um_machine.specs.Run.{stands_in}
use Rattle.um_machine.specs.Services.{is_empty}
use Rattle.um_machine.specs.State.{State, vacant, object_at, thread_at, waiters_in, is_waiting, is_to_resume}
use Rattle.um_machine.specs.Time.{has_run_out}
use Rattle.um_machine.specs.declared.contents.Contents.{Contents}
use Rattle.um_machine.specs.declared.object.Object.{Object}
use Rattle.um_machine.specs.declared.pending.Pending.{Pending}
use Rattle.um_machine.specs.declared.thread.Thread.{Thread}
use Rattle.um_invariants.specs.Armings.{Aim, Arming, is_until, makes_step, timer, waiter}
use Rattle.um_invariants.specs.InOrder.{Point}
use Rattle.um_invariants.proofs.ThreadCells.{cell, cell-is, place_of}
use Rattle.um_words.specs.declared.fine.FineAct.{FineAct}
use Rattle.um_words.specs.declared.fine.Mark.{Mark}
use Rattle.um_words.specs.declared.fine.Unseen.{Unseen}
use Rattle.um_words.specs.declared.thread_word.ThreadWord.{ThreadWord}
use Rattle.um_fine.specs.Answers.{thread_in, is_void}
use Rattle.um_fine.specs.Asks.{by_actor, by_me, marks_end}
use Rattle.um_fine.specs.Clock.{Marked}
use Rattle.um_fine.specs.Objects.{object_finds}
use Rattle.um_fine.specs.Places.{Todo, Todos}
use Rattle.um_fine.specs.Scheduler.{waits}
use Rattle.um_fine.specs.Seeking.{deadline_of, is_number}
use Rattle.um_fine.specs.Sites.{site_answers, site_numbered}
use Rattle.um_fine.specs.Steps.{Exchange, FineStep, Site}
use Rattle.um_refinement.specs.Fine.{Fine, scheduler, over_processors, object, clock, word}
use Rattle.um_refinement.specs.Lists.{runs, runs_thread, counted, is_wipe, is_recycle}
use Rattle.um_refinement.specs.Objects.{recyclers, wipers}
use Rattle.um_refinement.specs.Offers.{is_over}
use Rattle.um_refinement.specs.Relation.{Rel}
use Rattle.um_refinement.specs.Stops.{IsCutComing, cell_site, is_look, is_reread, noted_at, notes_in}
use Rattle.um_refinement.specs.Stops as C
use Rattle.um_refinement.specs.Threads.{IsRun}
use Rattle.um_refinement.specs.Timing.{IsToCome, handles, is_left}
use Rattle.um_refinement.specs.Timing as M
use Rattle.um_refinement.proofs.CellSites.{site-of-cell, waiting_cell}
use Rattle.um_refinement.proofs.Erased.{around}
use Rattle.um_refinement.proofs.IdleComplete.{outside}
use Rattle.um_refinement.proofs.Leaves.{Lawful}
use Rattle.um_refinement.proofs.Offered.{own-unless, runs-first, Shows, site-is}
use Rattle.um_refinement.proofs.SchedulerSteps.{made-at, made-moves, made-says}
use Rattle.um_refinement.proofs.VoidLooks.{cell-void, timer-found, timer-void}
use Rattle.um_refinement.proofs.WaitersFound.{WaitersWait, waiter-below}
use Rattle.um_refinement.proofs.WaitersKnown.{WaitersHold}
use Rattle.um_order.proofs.ArmingOrder.{IsAim, IsArmed}
use Rattle.um_order.proofs.CutNow.{CutsNext}
use Rattle.um_order.proofs.MarksNow.{AreAhead, IsAhead, is_ahead}
use Rattle.um_order.proofs.NotedBusy.{word-there}
use Rattle.um_order.proofs.ParkedThreads.{one-part}
use Rattle.um_order.proofs.ReadsWord.{ReadsWaiting, is_reading}
use Rattle.um_order.proofs.Standing.{Begun, Holds, Looks, goes, is_calm}
use Rattle.um_order.proofs.WaitersStand.{AllStand}

-- Who waits stands in one of the machine's cells.
pub stands-somewhere : (m : State) → AllStand m → length m.objects ≡ ROWS → (t : ℕ) → is_waiting (thread_at m t) ≡ true → (c : ℕ) × (c < ROWS + 2) × (stands_in t (waiters_in m c) ≡ true)
stands-somewhere m all many t waiting = let there = all t waiting in by there.0 there.1
  where
    in-row : (xs : List Object) (r : ℕ) → stands_in t (slice_index_or xs r vacant).waiters ≡ true → r < length xs
    in-row [] r h = absurd (false≢true h)
    in-row (o ∷ os) zero h = omega arith
    in-row (o ∷ os) (suc r) h = let l = in-row os r h in omega (arith, l)

    by : (y : ℕ) → stands_in t (cell m y) ≡ true → (c : ℕ) × (c < ROWS + 2) × (stands_in t (waiters_in m c) ≡ true)
    by zero h = (JOIN_CELL, omega arith, h)
    by (suc zero) h = (FUTEX_CELL, omega arith, h)
    by (suc (suc r)) h =
        let few = in-row m.objects r h in
        let place : place_of r ≡ suc (suc r) =
        λ i. if ne_eqb r JOIN_CELL (λ q. omega (arith, few, many, q)) i then 0 else if ne_eqb r FUTEX_CELL (λ q. omega (arith, few, many, q)) i then 1 else suc (suc r) in (
          r,
          omega (arith, few, many),
          subst (λ ws. stands_in t ws ≡ true) (sym (cell-is m r)) (subst (λ n. stands_in t (cell m n) ≡ true) (sym place) h),
        )

none-looks : (t site noted : ℕ) (todo : Todos) → list_all is_calm todo ≡ true → list_any (is_look t site noted) todo ≡ true → ⊥
none-looks t site noted [] calm h = false≢true h
none-looks t site noted (Todo.look who there before ∷ todo) calm h = false≢true calm
none-looks t site noted (q ∷ todo) calm h = none-looks t site noted todo (and_parts (is_calm q) (list_all is_calm todo) calm).1 h

void-act : (act said : FineAct) → act ≡ (if is_void act then FineAct.Unseen Unseen.Void else said) → is_void act ≡ true → act ≡ FineAct.Unseen Unseen.Void
void-act act said h void = h ∙ ap (λ b. if b then FineAct.Unseen Unseen.Void else said) void

module _ (f : Fine) (at : Point) (e : FineStep) (law : Lawful f at.state e) (one : f.cpus ≡ 1) (waiting : WaitersWait at.state) (holding : WaitersHold at.state) (all : AllStand at.state) (cuts : CutsNext at) where
  open around f e use {later, processor as p, now}

  abbrev m : State
  m = at.state

  first : (k : ℕ) → k < f.cpus → k ≡ e.cpu
  first k l = let mine = law.by.named in omega (arith, l, mine, one)

  says-at : (i : Site) (moved : Exchange) → e.site ≡ i → e.moved ≡ moved → e.act ≡ FineAct.Unseen Unseen.Void → site_answers f.image (f.sites i) moved (FineAct.Unseen Unseen.Void) ≡ FineAct.Unseen Unseen.Void
  says-at i moved site same said =
      subst (λ (z : Site × FineAct × Exchange). site_answers f.image (f.sites z.0) z.2 z.1 ≡ z.1) (λ j. (site j, said j, same j)) (ap (λ (s : FineStep). s.act) law.taken.filled_in)

  -- A look.
  pub look-waits : (was : Looks p (scheduler f) (clock f).marks at) → is_void e.act ≡ true → is_waiting (thread_at at.state was.who) ≡ false
  look-waits was void = by (is_waiting (thread_at m was.who)) refl
    where
      aborted : is_waiting (thread_at m was.who) ≡ true → (thread_at m was.who).aborted ≡ true
      aborted w = cuts.aborted (to_thread was.who) (was.cut ∙ ap (λ b. if b then Some (to_thread was.who) else None) w)

      -- the processor's own thread doesn't wait
      own-awake : is_waiting (thread_at m was.who) ≡ true → runs_thread was.who p ≡ true → ⊥
      own-awake w on = on-over (is_over p.context) refl
        where
          parts : (runs p ≡ true) × ((p.context.thread == was.who) ≡ true)
          parts = and_parts (runs p) (p.context.thread == was.who) on

          resumes_on : is_to_resume (thread_at m p.context.thread).pending ≡ true
          resumes_on = subst (λ n. is_to_resume (thread_at m n).pending ≡ true) (sym (eqb-true p.context.thread was.who parts.1)) (and_parts (is_to_resume (thread_at m was.who).pending) _ w).0

          awake : (steps : Steps) → goes steps ≡ true → waits steps ≡ false
          awake [] g = refl
          awake (Pending.Resume ∷ rest) g = absurd (false≢true g)
          awake (q ∷ rest) g = refl

          not-resumes : (steps : Steps) → goes steps ≡ true → is_to_resume steps ≡ true → ⊥
          not-resumes [] g r = false≢true g
          not-resumes (Pending.Resume ∷ rest) g r = false≢true g
          not-resumes (q ∷ rest) g r = false≢true r

          empty-not : (b : Bool) (steps : Steps) → goes steps ≡ true → (b && is_empty steps) ≡ true → ⊥
          empty-not true [] g r = false≢true g
          empty-not true (q ∷ rest) g r = false≢true r
          empty-not false steps g r = false≢true r

          on-over : (b : Bool) → is_over p.context ≡ b → ⊥
          on-over true o = empty-not p.context.ended p.context.pending was.goes_then o
          on-over false o =
              let of = (law.rel.contexts.running e.cpu law.by.named parts.0).of o in
              let same = ap (λ (th : Thread). th.pending) (own-unless of (awake p.context.pending was.goes_then)) in
              not-resumes p.context.pending was.goes_then (ap is_to_resume same ∙ resumes_on)

      found : is_waiting (thread_at m was.who) ≡ true → (c : ℕ) → c < ROWS + 2 → stands_in was.who (waiters_in m c) ≡ true → was.site ≡ cell_site c → nat_lt (noted_at f c was.who) was.before ≡ true → ⊥
      found w c inside stands same older =
          let moved = Exchange.sought (to_thread was.who) (Some was.before) in
          let place : e.site ≡ waiting_cell c = made-at f m e law (Todo.look was.who was.site was.before ∷ was.todo) was.list ∙ (ap site_numbered same ∙ site-of-cell c inside) in
          let said = void-act e.act (by_me f.image p (Act.Cut (to_thread was.who))) (made-says f m e law (Todo.look was.who was.site was.before ∷ was.todo) was.list) void in
          let says = says-at (waiting_cell c) moved place (made-moves f m e law (Todo.look was.who was.site was.before ∷ was.todo) was.list) said in
          let none = cell-void f m law.rel law.sound.wide.threads waiting holding c was.who inside moved stands (λ ws noted. refl) refl says in
          true≢false (sym (and_from (stands_in was.who (waiters_in m c)) (nat_lt (noted_at f c was.who) was.before) stands older) ∙ none)

      coming : is_waiting (thread_at m was.who) ≡ true → (c : ℕ) → c < ROWS + 2 → stands_in was.who (waiters_in m c) ≡ true → IsCutComing f was.who c → ⊥
      coming w c inside stands (C.looks k l there) = which (is_look was.who (cell_site c) (noted_at f c was.who) (Todo.look was.who was.site was.before)) refl
        where
          here : list_any (is_look was.who (cell_site c) (noted_at f c was.who)) (Todo.look was.who was.site was.before ∷ was.todo) ≡ true
          here = subst (λ (z : Todos). list_any (is_look was.who (cell_site c) (noted_at f c was.who)) z ≡ true) was.list (subst (λ j. list_any (is_look was.who (cell_site c) (noted_at f c was.who)) (f.processors j).todo ≡ true) (first k l) there)

          which : (b : Bool) → is_look was.who (cell_site c) (noted_at f c was.who) (Todo.look was.who was.site was.before) ≡ b → ⊥
          which true is =
              let parts = and_parts ((was.who == was.who) && (was.site == cell_site c)) (nat_lt (noted_at f c was.who) was.before) is in
              let same = eqb-true was.site (cell_site c) (and_parts (was.who == was.who) (was.site == cell_site c) parts.0).1 in
              found w c inside stands same parts.1
          which false off =
              none-looks was.who (cell_site c) (noted_at f c was.who) was.todo was.turn.calm
              (sym (ap (λ b. b || list_any (is_look was.who (cell_site c) (noted_at f c was.who)) was.todo) off) ∙ here)
      coming w c inside stands (C.reads k l on there) = own-awake w (subst (λ j. runs_thread was.who (f.processors j) ≡ true) (first k l) on)

      by : (b : Bool) → is_waiting (thread_at m was.who) ≡ b → b ≡ false
      by false w = refl
      by true w =
          let few = waiter-below f m law.rel law.sound.wide.threads was.who w in
          let there = stands-somewhere m all law.sound.wide.objects was.who w in
          let th = law.rel.threads was.who few in
          absurd (coming w there.0 there.1 there.2 (th.cut_comes.comes there.0 there.1 (th.word.aborted ∙ aborted w) there.2))

  -- The own word, behind a wait.
  pub word-calm : ReadsWaiting p → (s2 : State) → Rel later s2 → s2 ≡ at.state → Begun p (scheduler f) (clock f).marks at → (site : ℕ) (todo : Todos) → p.todo ≡ Todo.reread site ∷ todo → (thread_in e.word).aborted ≡ false
  word-calm reads s2 related stays was site todo list = by (thread_in e.word).aborted refl
    where
      t : ℕ
      t = p.context.thread

      of : IsRun f m p.context
      of = law.rel.contexts.running e.cpu law.by.named (runs-first law.rel law.by.named (Todo.reread site) todo list (λ hand. hand))

      waits_on : waits p.context.pending ≡ true
      waits_on = which (waits p.context.pending) refl
        where
          which : (b : Bool) → waits p.context.pending ≡ b → b ≡ true
          which true h = refl
          which false h = absurd (true≢false (sym (ap (list_any is_reading) list) ∙ reads h))

      resuming : (steps : Steps) → waits steps ≡ true → is_to_resume steps ≡ true
      resuming [] h = absurd (false≢true h)
      resuming (Pending.Resume ∷ rest) h = refl
      resuming (q ∷ rest) h = absurd (false≢true h)

      waits_there : is_waiting (thread_at m t) ≡ true
      waits_there =
          and_from (is_to_resume (thread_at m t).pending) (not (is_some (thread_at m t).told)) (resuming (thread_at m t).pending (was.0.whole waits_on)) (ap (λ o. not (is_some o)) (was.0.told waits_on))

      word_is : thread_in e.word ≡ word later t
      word_is = word-there f m e law t (made-at f m e law (Todo.reread site ∷ todo) list)

      by : (b : Bool) → (thread_in e.word).aborted ≡ b → b ≡ false
      by false h = refl
      by true h =
          let machine : (thread_at m t).aborted ≡ true =
          ap (λ (s : State). (thread_at s t).aborted) (sym stays) ∙ (sym (related.threads t of.index).word.aborted ∙ (ap (λ (w : ThreadWord). w.aborted) (sym word_is) ∙ h)) in
          absurd (false≢true (ap is_some (sym was.1 ∙ cuts.waits t machine waits_there)))

  -- A mark in the hand.

  number-self : (d : ℕ) (o : Option ℕ) → o ≡ Some d → is_number d o ≡ true
  number-self d o h = ap (is_number d) h ∙ eq-eqb d d refl

  thread-waits : (deadline : ℕ) (who : ThreadIx) (site : ℕ) (todo : Todos) → p.todo ≡ Todo.handle deadline (Mark.Thread who site) ∷ todo → is_void e.act ≡ true → (t : ThreadIx) (c d : ℕ)
      → (t ≡ who) × (site ≡ cell_site c) × (c < ROWS + 2) → d ≡ deadline → (is_waiting (thread_at m t.0) && stands_in t.0 (waiters_in m c) && is_until d (thread_at m t.0).until) ≡ true → ⊥
  thread-waits deadline who site todo list void t c d aim same h =
      let moved = Exchange.mark deadline (Mark.Thread who site) in
      let own = aim.0 in
      let inside = aim.2 in
      let waits_parts = and_parts (is_waiting (thread_at m t.0)) (stands_in t.0 (waiters_in m c)) (and_parts (is_waiting (thread_at m t.0) && stands_in t.0 (waiters_in m c)) (is_until d (thread_at m t.0).until) h).0 in
      let stands = subst (λ (u : ThreadIx). stands_in u.0 (waiters_in m c) ≡ true) own waits_parts.1 in
      let waits_so = subst (λ (u : ThreadIx). is_waiting (thread_at m u.0) ≡ true) own waits_parts.0 in
      let until = subst (λ (u : ThreadIx). is_until d (thread_at m u.0).until ≡ true) own (and_parts (is_waiting (thread_at m t.0) && stands_in t.0 (waiters_in m c)) (is_until d (thread_at m t.0).until) h).1 in
      let few = waiter-below f m law.rel law.sound.wide.threads who.0 waits_so in
      let late = (law.rel.threads who.0 few).timeout.until c inside stands ∙ until-is d (thread_at m who.0).until until in
      let place : e.site ≡ waiting_cell c = made-at f m e law (Todo.handle deadline (Mark.Thread who site) ∷ todo) list ∙ (ap site_numbered aim.1 ∙ site-of-cell c inside) in
      let said = void-act e.act (by_actor f.image p (marks_end f.image p (Mark.Thread who site) e.act)) (made-says f m e law (Todo.handle deadline (Mark.Thread who site) ∷ todo) list) void in
      let says = says-at (waiting_cell c) moved place (made-moves f m e law (Todo.handle deadline (Mark.Thread who site) ∷ todo) list) said in
      let none = cell-void f m law.rel law.sound.wide.threads waiting holding c who.0 inside moved stands (λ ws noted. refl) refl says in
      true≢false (sym (number-self deadline (deadline_of who.0 (waiters_in m c)) (late ∙ ap Some same)) ∙ none)
    where
      until-is : (d : ℕ) (o : Option ℕ) → is_until d o ≡ true → o ≡ Some d
      until-is d None h = absurd (false≢true h)
      until-is d (Some n) h = ap Some (eqb-true n d h)

  module _ (ahead : IsAhead (clock f) p.todo) where
    left-ahead : (now d : ℕ) (mark : Mark) (ms : List Marked) → AreAhead now ms → list_any (is_left d mark) ms ≡ true → now ≤ d
    left-ahead now d mark [] all h = absurd (false≢true h)
    left-ahead now d mark (x ∷ ms) all h = by (is_left d mark x) refl h (left-ahead now d mark ms parts.1)
      where
        parts : ((x.given || nat_le now x.deadline) ≡ true) × AreAhead now ms
        parts = and_parts (x.given || nat_le now x.deadline) (list_all (is_ahead now) ms) all

        by : (b : Bool) → is_left d mark x ≡ b → (b || list_any (is_left d mark) ms) ≡ true → (list_any (is_left d mark) ms ≡ true → now ≤ d) → now ≤ d
        by true is k more =
            let left = and_parts (not x.given && (x.deadline == d)) _ is in
            let open_mark = and_parts (not x.given) (x.deadline == d) left.0 in
            let same = eqb-true x.deadline d open_mark.1 in
            let later_is = leb-true now x.deadline (sym (ap (λ b. b || nat_le now x.deadline) (not-true x.given open_mark.0)) ∙ parts.0) in
            omega (arith, same, later_is)
        by false is k more = more k

    timer-runs : (deadline : ℕ) (x : Row) (todo : Todos) → p.todo ≡ Todo.handle deadline (Mark.Timer x) ∷ todo → todo ≡ Todo.paid ∷ [] → is_void e.act ≡ true → (contents : Contents) → (object_at m x.0).contents ≡ contents
        → has_run_out m.now contents ≡ true → ⊥
    timer-runs deadline x todo list end void (Contents.Running d) is out = by (nat_lt x.0 ROWS) refl
      where
        whole_list : p.todo ≡ Todo.handle deadline (Mark.Timer x) ∷ Todo.paid ∷ []
        whole_list = list ∙ ap (λ (z : Todos). Todo.handle deadline (Mark.Timer x) ∷ z) end

        none : (test : Todo → Bool) → counted test (Todo.handle deadline (Mark.Timer x) ∷ Todo.paid ∷ []) ≡ 0 → over_processors f (λ z. counted test z.todo) ≡ 0
        none test off =
            one-part (λ k. counted test (f.processors k).todo) f.cpus one
            ∙ (ap (λ k. counted test (f.processors k).todo) (first 0 (omega (arith, one))) ∙ (ap (counted test) whole_list ∙ off))

        whole : wipers f x.0 ≡ recyclers f x.0
        whole = none (is_wipe x.0) refl ∙ sym (none (is_recycle x.0) refl)

        come : d ≤ (clock f).now
        come = let l = leb-true d m.now out in let now_is = law.rel.clock.now in omega (arith, l, now_is)

        found : deadline ≡ d → x.0 < ROWS → ⊥
        found same few =
            let moved = Exchange.mark deadline (Mark.Timer x) in
            let said = void-act e.act (by_actor f.image p (marks_end f.image p (Mark.Timer x) e.act)) (made-says f m e law (Todo.handle deadline (Mark.Timer x) ∷ todo) list) void in
            let says = says-at (Site.object x.0) moved (made-at f m e law (Todo.handle deadline (Mark.Timer x) ∷ todo) list) (made-moves f m e law (Todo.handle deadline (Mark.Timer x) ∷ todo) list) said in
            let off = timer-void f m law.rel x.0 deadline x few says in
            let on = timer-found f m law.rel x.0 d x few whole is ∙ le-leb d d (omega arith) in
            true≢false (sym on ∙ (ap (λ n. object_finds (object f x.0) (Exchange.mark n (Mark.Timer x))) (sym same) ∙ off))

        comes : x.0 < ROWS → IsToCome f d (Mark.Timer (to_row x.0)) → ⊥
        comes few (M.waits left) =
            let low = left-ahead (clock f).now d (Mark.Timer (to_row x.0)) (clock f).marks ahead.marks left in
            let hand = ahead.hand deadline (Mark.Timer x) todo list in
            let due = (law.rel.marks.hands e.cpu deadline (Mark.Timer x) todo law.by.named list).0 in
            found (omega (arith, low, hand, due, come)) few
        comes few (M.held k l there) = found (eqb-true deadline d (and_parts (deadline == d) _ here).0) few
          where
            or-none : (b : Bool) → (b || false) ≡ true → b ≡ true
            or-none true h = refl
            or-none false h = h

            here : handles d (Mark.Timer (to_row x.0)) (Todo.handle deadline (Mark.Timer x)) ≡ true
            here =
                or-none (handles d (Mark.Timer (to_row x.0)) (Todo.handle deadline (Mark.Timer x)))
                (subst (λ (z : Todos). list_any (handles d (Mark.Timer (to_row x.0))) z ≡ true) whole_list (subst (λ j. list_any (handles d (Mark.Timer (to_row x.0))) (f.processors j).todo ≡ true) (first k l) there))

        by : (b : Bool) → nat_lt x.0 ROWS ≡ b → ⊥
        by true l = let few = ltb-true x.0 ROWS l in comes few ((law.rel.rows x.0 few).expiry.comes d whole is)
        by false l =
            let many = law.sound.wide.objects in
            let past = ltb-false x.0 ROWS l in
            false≢true (sym (ap (has_run_out m.now) (sym is ∙ ap (λ (o : Object). o.contents) (outside m.objects x.0 vacant (omega (arith, many, past))))) ∙ out)
    timer-runs deadline x todo list end void contents is out = false≢true out

    pub hand-waits : (was : Holds p (scheduler f) (clock f).marks at) → is_void e.act ≡ true → (a : Arming) → IsArmed was.deadline was.mark a → makes_step at.state a ≡ false
    hand-waits was void a armed = never (makes_step at.state a) (λ on. no was.mark refl a.aim refl on)
      where
        never : (b : Bool) → (b ≡ true → ⊥) → b ≡ false
        never true h = absurd (h refl)
        never false h = refl

        aims : (mark : Mark) → was.mark ≡ mark → (aim : Aim) → a.aim ≡ aim → IsAim mark aim
        aims mark same aim there = subst (λ (z : Mark × Aim). IsAim z.0 z.1) (λ i. (same i, there i)) armed.aim_is

        said : (aim : Aim) → a.aim ≡ aim → makes_step at.state a ≡ true → makes_step at.state (record { deadline = a.deadline; aim = aim }) ≡ true
        said aim there on = ap (λ (z : Aim). makes_step at.state (record { deadline = a.deadline; aim = z })) (sym there) ∙ on

        list : (mark : Mark) → was.mark ≡ mark → p.todo ≡ Todo.handle was.deadline mark ∷ Todo.paid ∷ []
        list mark same = was.list ∙ ap (λ (z : Mark). Todo.handle was.deadline z ∷ Todo.paid ∷ []) same

        no : (mark : Mark) → was.mark ≡ mark → (aim : Aim) → a.aim ≡ aim → makes_step at.state a ≡ true → ⊥
        no (Mark.Thread who site) same (waiter t c) there on =
            thread-waits was.deadline who site (Todo.paid ∷ []) (list (Mark.Thread who site) same) void t c a.deadline (aims (Mark.Thread who site) same (waiter t c) there) armed.deadline_is (said (waiter t c) there on)
        no (Mark.Timer x) same (timer y) there on =
            let row : x.0 ≡ y = aims (Mark.Timer x) same (timer y) there in
            timer-runs was.deadline x (Todo.paid ∷ []) (list (Mark.Timer x) same) refl void (object_at m x.0).contents refl
            (ap (λ n. has_run_out m.now (object_at m n).contents) row ∙ said (timer y) there on)
        no (Mark.Thread who site) same (timer y) there on = absurd (aims (Mark.Thread who site) same (timer y) there)
        no (Mark.Timer x) same (waiter t c) there on = absurd (aims (Mark.Timer x) same (waiter t c) there)

-- Who is aborted waits only with a note.
pub abort-waits : (f : Fine) (m : State) (e : FineStep) (who : ThreadIx) (rest : Steps) (todo : Todos) (s2 : State) → Lawful f m e → Shows f m e.cpu e (Pending.Abort who) rest todo → Rel (around f e).later s2
    → length s2.threads ≡ THREADS → length s2.objects ≡ ROWS → AllStand s2 → (thread_in e.word).note ≡ None → is_waiting (thread_at s2 who.0) ≡ false
abort-waits f m e who rest todo s2 law h related threads objects all none = by (is_waiting (thread_at s2 who.0)) refl
  where
    by : (b : Bool) → is_waiting (thread_at s2 who.0) ≡ b → b ≡ false
    by false w = refl
    by true w =
        let few = waiter-below (around f e).later s2 related threads who.0 w in
        let there = stands-somewhere s2 all objects who.0 w in
        let noted = (related.threads who.0 few).note.waits there.0 there.1 there.2 in
        absurd (false≢true (ap is_some (sym none ∙ (ap (λ (w : ThreadWord). w.note) (word-there f m e law who.0 (site-is h)) ∙ noted))))
