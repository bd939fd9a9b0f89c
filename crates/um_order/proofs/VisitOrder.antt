-- The permission that a thread passes on or drops next is that of the least row due, and its event follows.
use Rattle.std.proofs.Common.{◌≡◌, ◌≢◌, inl, ℕ, ◌<◌, ◌≤◌, true, false, [], ◌∷◌, ◌++◌, map, drop, Some, None, refl, sym, ap, ◌∙◌, subst, arith, append-nil}
use Rattle.std.specs.Prelude.{◌&&◌, not, IsTrue, if◌then◌else◌, is_some, slice_get, slice_index_or}
use Rattle.std.specs.List.{list_all}
use Rattle.std.proofs.lemmas.Bool.{and_parts, false≢true, not-true, true≢false}
use Rattle.um_base.specs.declared.act.Act.{Act}
use Rattle.um_base.specs.declared.image.Image.{Image}
use Rattle.um_base.specs.Places.{own_row}
use Rattle.um_machine.specs.declared.pending.Pending.{Pending}
use Rattle.um_machine.specs.declared.thread.Thread.{Thread}
use Rattle.um_machine.specs.Order.{Steps, to_thread}
use Rattle.um_machine.specs.Run.{MayChoose}
use Rattle.um_machine.specs.Services.{is_empty}
use Rattle.um_machine.specs.State.{State, pair_at, thread_at}
use Rattle.um_machine.specs.Table as T
use Rattle.um_invariants.specs.NextSteps.{IsNext, first_or, rest_step}
use Rattle.um_invariants.specs.InOrder.{Point}
use Rattle.um_invariants.specs.Ready.{behind_next, next_ready, running_or}
use Rattle.um_words.specs.declared.fine.FineAct.{FineAct}
use Rattle.um_words.specs.declared.fine.More.{More}
use Rattle.um_words.specs.Rows.{has, is_last, left_of}
use Rattle.um_fine.specs.Clock.{Clock}
use Rattle.um_fine.specs.Context.{Context}
use Rattle.um_fine.specs.Addresses.{address_of}
use Rattle.um_fine.specs.Answers.{act_in, leftover_in, row_in}
use Rattle.um_fine.specs.Asks.{by_me, fits, is_dropped}
use Rattle.um_fine.specs.Follows.{dropped_at}
use Rattle.um_fine.specs.Places.{Todo, Todos}
use Rattle.um_fine.specs.Scheduler.{waits}
use Rattle.um_fine.specs.Sites.{SiteState, same_site, site_takes}
use Rattle.um_fine.specs.Steps.{FineStep, Site}
use Rattle.um_refinement.specs.Cleaning.{AreBlocks}
use Rattle.um_refinement.specs.Dues.{is_visiting}
use Rattle.um_refinement.specs.Fine.{Fine, clock, row, scheduler}
use Rattle.um_refinement.specs.Lists.{adders, visited}
use Rattle.um_refinement.specs.Offers.{Drops, Fits, Passes}
use Rattle.um_refinement.specs.Relation.{Rel}
use Rattle.um_refinement.specs.Threads.{IsOf, cutters as cuts}
use Rattle.um_refinement.specs.Timing.{IsHand}
use Rattle.um_refinement.proofs.Bounds.{AreBounded}
use Rattle.um_refinement.proofs.ChildrenKnown.{AllCreate}
use Rattle.um_refinement.proofs.ClockSteps.{is_timing}
use Rattle.um_refinement.proofs.MarksPart.{clock-same}
use Rattle.um_refinement.proofs.ContextsPart.{event-uncut, now-context}
use Rattle.um_refinement.proofs.DropSteps.{Held, clear-below, due-below as none-due, dropped-has, left-here, left-there}
use Rattle.um_refinement.proofs.Erased.{around}
use Rattle.um_refinement.proofs.LawfulSteps.{Suits}
use Rattle.um_refinement.proofs.Leaves.{Lawful, drops, passes}
use Rattle.um_refinement.proofs.ListAdders.{adders-none, next-adders}
use Rattle.um_refinement.proofs.ListDone.{says_done}
use Rattle.um_refinement.proofs.ListRuns.{goes-on, goes-runs}
use Rattle.um_refinement.proofs.ListWakes.{fine-none, next-wakers, wakers}
use Rattle.um_refinement.proofs.MemoryPart.{InDomains}
use Rattle.um_refinement.proofs.Offered.{own-unless}
use Rattle.um_refinement.proofs.OfVisits.{of-drops, of-passes}
use Rattle.um_refinement.proofs.ResumeSteps.{TellsWaiters}
use Rattle.um_refinement.proofs.RowSteps.{row-stands}
use Rattle.um_refinement.proofs.RunningPart.{todo-elsewhere}
use Rattle.um_refinement.proofs.SchedulerSteps.{made-at, sched-else}
use Rattle.um_refinement.proofs.StepsLeft.{drops-on, passes-on}
use Rattle.um_refinement.proofs.VisitSteps.{Visits, pair-is, visit-act, visit-runs, visit-shows, visit-site}
use Rattle.um_order.proofs.ArmingOrder.{Plain}
use Rattle.um_order.proofs.Follow.{Followed, follow}
use Rattle.um_order.proofs.ListCalm.{cuts-none, plain-calm, plain-cutters}
use Rattle.um_order.proofs.ListShapes.{is_own, next-ends}
use Rattle.um_order.proofs.Standing.{Begun, IsFull, back, comers, cutters, goes, is_calm, is_show, woken_of}

module _ (f : Fine) (at : Point) (e : FineStep) (law : Lawful f at.state e) (one : f.cpus ≡ 1) (orderly : AllCreate at.state) (suits : Suits f at.state) (domains : InDomains f at.state)
    (was : Begun (f.processors e.cpu) (scheduler f) (clock f).marks at) where
  open around f e use {later, processor as p, now}

  abbrev m : State
  m = at.state

  abbrev t : ℕ
  t = p.context.thread

  marks-same : (q : Todo) (todo : Todos) → p.todo ≡ q ∷ todo → is_timing q ≡ false → Plain (clock later).marks at.armings
  marks-same q todo list off = subst (λ (c : Clock). Plain c.marks at.armings) (sym (clock-same f m e law q todo list off)) was.0.armings

  calm-behind : (q : Todo) (todo : Todos) → p.todo ≡ q ∷ todo → list_all is_calm todo ≡ true
  calm-behind q todo list = (and_parts (is_calm q) (list_all is_calm todo) (sym (ap (list_all is_calm) list) ∙ was.0.calm)).1

  -- What holds of both.
  module _ (x : ℕ) (step : Todo) (todo : Todos) (h : Visits f m e.cpu e x step todo) (own : is_own f.image (step ∷ todo) ≡ true) (plain : is_show step ≡ false)
      (apart : IsHand (step ∷ todo) → ⊥) where
    due-below : (visits : is_visiting p.context.pending ≡ true) → visited (step ∷ todo) ≡ x → (y : ℕ) → y < x → slice_index_or (thread_at m t).due y false ≡ true → ⊥
    due-below visits here y less d =
        let least = (law.rel.processors e.cpu law.by.named).dues.passes (visit-runs h apart) visits y d in
        let is : visited p.todo ≡ x = ap visited h.at ∙ here in omega (arith, least, is, less)

  module _ (who x : ℕ) (todo : Todos) (h : Visits f m e.cpu e x (Todo.pass who x) todo) where
    pub fits-pass : Passes f.image p.context who todo × (x ≢ own_row f.image t)
    fits-pass = subst (Fits f.image p.context) h.at (law.rel.processors e.cpu law.by.named).list.fits

    has-pass : p.context.pending ≡ Pending.Inherit (to_thread who) ∷ fits-pass.0.step ∷ fits-pass.0.rest
    has-pass = fits-pass.0.pending ∙ ap (λ n. Pending.Inherit (to_thread n) ∷ fits-pass.0.step ∷ fits-pass.0.rest) fits-pass.0.same

    of-pass : IsOf f m p.context
    of-pass = (law.rel.contexts.running e.cpu law.by.named (visit-runs h (λ hand. hand))).of (passes-on f.image p.context who todo fits-pass.0)

    machine-pass : (thread_at m t).pending ≡ Pending.Inherit (to_thread who) ∷ fits-pass.0.step ∷ fits-pass.0.rest
    machine-pass = sym (ap (λ (z : Thread). z.pending) (own-unless of-pass (ap waits has-pass))) ∙ has-pass

    said-pass : e.act ≡ by_me f.image p (Act.Inherit (to_thread who) (address_of f.image x))
    said-pass = visit-shows h (Act.Inherit (to_thread who) (address_of f.image x)) (visit-act h)

    takes-pass : (has (row f x) t ≡ true) × IsTrue (not (has (row f x) who))
    takes-pass =
        and_parts _ _ (and_parts _ _
        (subst (λ (s : SiteState). IsTrue (site_takes s (by_me f.image p (Act.Inherit (to_thread who) (address_of f.image x))))) (row-stands f m h.rel x)
        (subst (λ (z : Site × FineAct). IsTrue (site_takes (f.sites z.0) z.1)) (λ j. (visit-site h j, said-pass j)) h.taken.takes))).1

    s-pass : State
    s-pass = T.after m t x (Pending.Inherit (to_thread who)) (fits-pass.0.step ∷ fits-pass.0.rest)

    chosen-pass : MayChoose m t x (Pending.Inherit (to_thread who))
    chosen-pass = (
      sym (pair-is f m h.rel x t h.few) ∙ takes-pass.0,
      subst (λ b. IsTrue (not b)) (pair-is f m h.rel x who h.few) takes-pass.1,
      λ same. fits-pass.1 (same ∙ ap (λ (i : Image). own_row i t) h.rel.image),
    )

    context-pass : now.context ≡ p.context
    context-pass = now-context f m e law (Todo.pass who x ∷ todo) h.at

    module _ (related : Rel later (T.after m t x (Pending.Inherit (to_thread who)) (fits-pass.0.step ∷ fits-pass.0.rest)))
        (tells : TellsWaiters (T.after m t x (Pending.Inherit (to_thread who)) (fits-pass.0.step ∷ fits-pass.0.rest))) (bounds : AreBounded later) (full : IsFull m t p.context.pending) where
      due-pass : slice_index_or (thread_at m t).due x false ≡ true
      due-pass = subst (IsFull m t) has-pass full x chosen-pass.0 (not-true (pair_at m who x) chosen-pass.1) chosen-pass.2

      next-pass : IsNext m t (Act.Inherit (to_thread who) (address_of f.image x)) (T.after m t x (Pending.Inherit (to_thread who)) (fits-pass.0.step ∷ fits-pass.0.rest))
      next-pass =
          record {
            step = Pending.Inherit (to_thread who);
            row = x;
            taken = 1;
            next = inl (refl, ap (λ steps. first_or (slice_get steps 0) (rest_step m t)) machine-pass);
            least = ((chosen-pass, due-pass), λ y less may. due-below x (Todo.pass who x) todo h refl refl (λ hand. hand) (ap is_visiting has-pass) refl y less may.1);
            says = ap (λ (i : Image). Act.Inherit (to_thread who) (address_of i x)) (sym h.rel.image);
            leaves = ap (λ steps. T.after m t x (Pending.Inherit (to_thread who)) steps) (sym (ap (λ (steps : Steps). drop 1 steps) machine-pass));
          }

      same-pass : scheduler later ≡ scheduler f
      same-pass =
          sched-else f m e law (ap (λ i. same_site i Site.scheduler) (made-at f m e law (Todo.pass who x ∷ todo) h.at) ∙ todo-elsewhere f.image p (Todo.pass who x) todo refl tt)

      pub pass-follows : Followed f at e law one orderly (T.after m t x (Pending.Inherit (to_thread who)) (fits-pass.0.step ∷ fits-pass.0.rest))
      pass-follows =
          follow f at e law one orderly (T.after m t x (Pending.Inherit (to_thread who)) (fits-pass.0.step ∷ fits-pass.0.rest)) related tells bounds t (Act.Inherit (to_thread who) (address_of f.image x)) More.Nothing
          (record {
            said = said-pass;
            own = ap (is_own f.image) h.at;
            first = ap (λ o. running_or o (next_ready m at.ready)) inside;
            next = next-pass;
            base = ap (λ o. if is_some o then at.ready else behind_next m at.ready) inside ∙ (was.0.ready ∙ ((λ i. (scheduler f).ready ++ (list i ++ mine i)) ∙ (append-nil (scheduler f).ready ∙ ap (λ z. z.ready) (sym same-pass))));
            comes = λ i. woken_of (sym woken i) ++ (sym cut i ++ map (λ (c : Context). c.thread) (sym added i));
            uncut = was.1;
            nobody = refl;
            cuts_none = refl;
            whole = ap (λ (c : Context). cuts later c.thread) context-pass ∙ uncut;
            steps = (goes-on f.image p e (Todo.pass who x) todo h.at refl tt tt (subst (AreBlocks f.image) h.at (law.rel.processors e.cpu law.by.named).blocks)).0;
            calm = plain-calm f.image p e (Todo.pass who x) todo h.at refl (calm-behind (Todo.pass who x) todo h.at);
            alone = (λ some. absurd (true≢false (ap is_empty (sym cut) ∙ some)), λ some. (woken, cut));
            armings = marks-same (Todo.pass who x) todo h.at refl;
            thread = ap (λ (c : Context). c.thread) context-pass;
            of = subst (IsOf later (T.after m t x (Pending.Inherit (to_thread who)) (fits-pass.0.step ∷ fits-pass.0.rest))) (sym context-pass)
                (of-passes f m e law p.context who x (fits-pass.0.step ∷ fits-pass.0.rest) of-pass uncut has-pass);
            runs = goes-runs f.image p e (Todo.pass who x) todo h.at refl tt tt (subst (AreBlocks f.image) h.at (law.rel.processors e.cpu law.by.named).blocks) ∙ visit-runs h (λ hand. hand);
            shows = λ rests. absurd (false≢true (sym (ap is_empty has-pass) ∙ (ap (λ (c : Context). is_empty c.pending) (sym context-pass) ∙ rests)));
            ends = λ done.
                ap (λ (c : Context). c.ended) context-pass
                ∙ next-ends f.image p e (Todo.pass who x) todo h.at fits-pass (λ k. absurd (false≢true k)) refl (λ k. was.0.ends (ap says_done h.at ∙ k)) done;
            told = λ k. absurd (false≢true (sym (ap waits has-pass) ∙ (ap (λ (c : Context). waits c.pending) (sym context-pass) ∙ k)));
          })
        where
          wakes : wakers todo ≡ []
          wakes = ap wakers fits-pass.0.behind ∙ fine-none f.image p.context fits-pass.0.step fits-pass.0.rest

          uncut : cuts later t ≡ 0
          uncut = event-uncut f m e law suits domains (T.after m t x (Pending.Inherit (to_thread who)) (fits-pass.0.step ∷ fits-pass.0.rest)) (passes who x (fits-pass.0.step ∷ fits-pass.0.rest) todo h said-pass) (Todo.pass who x) todo h.at tt of-pass (ap waits has-pass)

          uncuts : cutters todo ≡ []
          uncuts = ap cutters fits-pass.0.behind ∙ cuts-none f.image p.context fits-pass.0.step fits-pass.0.rest

          woken : wakers now.todo ≡ []
          woken = next-wakers f.image p e (Todo.pass who x) todo h.at tt tt ∙ wakes

          cut : cutters now.todo ≡ []
          cut = plain-cutters f.image p e (Todo.pass who x) todo h.at refl ∙ uncuts

          adds : adders todo ≡ []
          adds = ap adders fits-pass.0.behind ∙ adders-none f.image p.context fits-pass.0.step fits-pass.0.rest

          added : adders now.todo ≡ []
          added = next-adders f.image p e (Todo.pass who x) todo h.at refl tt tt ∙ adds

          inside : at.inside ≡ Some (to_thread t)
          inside = was.0.inside ∙ ap (λ steps. if goes steps then Some (to_thread t) else None) has-pass

          list : comers p.todo ≡ []
          list = ap comers h.at ∙ λ i. woken_of (wakes i) ++ (uncuts i ++ map (λ (c : Context). c.thread) (adds i))

          mine : back p.context ≡ []
          mine = ap (λ steps. if is_empty steps && not p.context.ended then t ∷ [] else []) has-pass

  module _ (x : ℕ) (todo : Todos) (h : Visits f m e.cpu e x (Todo.drop x) todo) (held : Held m x t) where
    pub fits-drop : Drops f.image p.context todo
    fits-drop = subst (Fits f.image p.context) h.at (law.rel.processors e.cpu law.by.named).list.fits

    abbrev left-drop : Steps
    left-drop = fits-drop.step ∷ fits-drop.rest

    of-drop : IsOf f m p.context
    of-drop = (law.rel.contexts.running e.cpu law.by.named (visit-runs h (λ hand. hand))).of (drops-on f.image p.context todo fits-drop)

    machine-drop : (thread_at m t).pending ≡ Pending.Drops fits-drop.from ∷ fits-drop.step ∷ fits-drop.rest
    machine-drop = sym (ap (λ (z : Thread). z.pending) (own-unless of-drop (ap waits fits-drop.pending))) ∙ fits-drop.pending

    said-drop : e.act ≡ by_me f.image p (Act.DropPair (to_thread t) (address_of f.image x) (leftover_in (act_in e.act)))
    said-drop = visit-shows h (Act.DropPair (to_thread t) (address_of f.image x) (leftover_in (act_in e.act))) (visit-act h)

    left-is : left_of (row f x) t ≡ leftover_in (act_in e.act)
    left-is = left-there h t (visit-site h) said-drop

    found : is_dropped (leftover_in (act_in e.act)) ≡ true
    found =
        sym (ap (λ b. if b then not (has (row_in e.word) t) else is_dropped (leftover_in (act_in e.act))) h.shown)
        ∙ (and_parts _ _ (subst (λ (l : Todos). fits f.image p l e ≡ true) h.at h.may.fit)).0

    there : has (row f x) t ≡ true
    there = dropped-has (has (row f x) t) (is_last (row f x) t) (ap is_dropped left-is ∙ found)

    low : fits-drop.from ≤ x
    low =
        let least = (law.rel.processors e.cpu law.by.named).dues.drops fits-drop.from (fits-drop.step ∷ fits-drop.rest) (visit-runs h (λ hand. hand)) fits-drop.pending in
        let is : visited p.todo ≡ x = ap visited h.at in omega (arith, least, is)

    chosen-drop : MayChoose m t x (Pending.Drops fits-drop.from)
    chosen-drop = (low, sym (pair-is f m h.rel x t h.few) ∙ there, clear-below (thread_at m t).due x (none-due h))

    context-drop : now.context ≡ dropped_at f.image p.context x false
    context-drop = now-context f m e law (Todo.drop x ∷ todo) h.at ∙ ap (dropped_at f.image p.context x) h.shown

    module _ (related : Rel later (T.after m t x (Pending.Drops fits-drop.from) (fits-drop.step ∷ fits-drop.rest)))
        (tells : TellsWaiters (T.after m t x (Pending.Drops fits-drop.from) (fits-drop.step ∷ fits-drop.rest))) (bounds : AreBounded later) (full : IsFull m t p.context.pending) where
      next-drop : IsNext m t (Act.DropPair (to_thread t) (address_of f.image x) (leftover_in (act_in e.act))) (T.after m t x (Pending.Drops fits-drop.from) (fits-drop.step ∷ fits-drop.rest))
      next-drop =
          record {
            step = Pending.Drops fits-drop.from;
            row = x;
            taken = 1;
            next = inl (refl, ap (λ steps. first_or (slice_get steps 0) (rest_step m t)) machine-drop);
            least = ((chosen-drop, tt), λ y less may. true≢false (sym (subst (IsFull m t) fits-drop.pending full y may.0.0 may.0.1) ∙ none-due h y less));
            says = λ i. Act.DropPair (to_thread t) (address_of (sym h.rel.image i) x) ((sym left-is ∙ left-here f m h.rel x t h.few held) i);
            leaves = ap (λ steps. T.after m t x (Pending.Drops fits-drop.from) steps) (sym (ap (λ (steps : Steps). drop 1 steps) machine-drop));
          }

      same-drop : scheduler later ≡ scheduler f
      same-drop =
          sched-else f m e law (ap (λ i. same_site i Site.scheduler) (made-at f m e law (Todo.drop x ∷ todo) h.at) ∙ todo-elsewhere f.image p (Todo.drop x) todo refl tt)

      pub drop-follows : Followed f at e law one orderly (T.after m t x (Pending.Drops fits-drop.from) (fits-drop.step ∷ fits-drop.rest))
      drop-follows =
          follow f at e law one orderly (T.after m t x (Pending.Drops fits-drop.from) (fits-drop.step ∷ fits-drop.rest)) related tells bounds t (Act.DropPair (to_thread t) (address_of f.image x) (leftover_in (act_in e.act))) More.Nothing
          (record {
            said = said-drop;
            own = ap (is_own f.image) h.at;
            first = ap (λ o. running_or o (next_ready m at.ready)) inside;
            next = next-drop;
            base = ap (λ o. if is_some o then at.ready else behind_next m at.ready) inside ∙ (was.0.ready ∙ ((λ i. (scheduler f).ready ++ (list i ++ mine i)) ∙ (append-nil (scheduler f).ready ∙ ap (λ z. z.ready) (sym same-drop))));
            comes = λ i. woken_of (sym woken i) ++ (sym cut i ++ map (λ (c : Context). c.thread) (sym added i));
            uncut = was.1;
            nobody = refl;
            cuts_none = refl;
            whole = ap (λ (c : Context). cuts later c.thread) context-drop ∙ uncut;
            steps = (goes-on f.image p e (Todo.drop x) todo h.at refl tt tt (subst (AreBlocks f.image) h.at (law.rel.processors e.cpu law.by.named).blocks)).0;
            calm = plain-calm f.image p e (Todo.drop x) todo h.at refl (calm-behind (Todo.drop x) todo h.at);
            alone = (λ some. absurd (true≢false (ap is_empty (sym cut) ∙ some)), λ some. (woken, cut));
            armings = marks-same (Todo.drop x) todo h.at refl;
            thread = ap (λ (c : Context). c.thread) context-drop;
            of = subst (IsOf later (T.after m t x (Pending.Drops fits-drop.from) (fits-drop.step ∷ fits-drop.rest))) (sym context-drop)
                (of-drops f m e law p.context fits-drop.from x (fits-drop.step ∷ fits-drop.rest) of-drop uncut fits-drop.pending);
            runs = goes-runs f.image p e (Todo.drop x) todo h.at refl tt tt (subst (AreBlocks f.image) h.at (law.rel.processors e.cpu law.by.named).blocks) ∙ visit-runs h (λ hand. hand);
            shows = λ rests. absurd (false≢true (ap (λ (c : Context). is_empty c.pending) (sym context-drop) ∙ rests));
            ends = λ done.
                ap (λ (c : Context). c.ended) (context-drop ∙ sym (ap (dropped_at f.image p.context x) h.shown))
                ∙ next-ends f.image p e (Todo.drop x) todo h.at fits-drop (λ k. absurd (false≢true k)) refl (λ k. was.0.ends (ap says_done h.at ∙ k)) done;
            told = λ k. absurd (false≢true (ap (λ (c : Context). waits c.pending) (sym context-drop) ∙ k));
          })
        where
          wakes : wakers todo ≡ []
          wakes = ap wakers fits-drop.behind ∙ fine-none f.image p.context fits-drop.step fits-drop.rest

          uncut : cuts later t ≡ 0
          uncut = event-uncut f m e law suits domains (T.after m t x (Pending.Drops fits-drop.from) (fits-drop.step ∷ fits-drop.rest)) (drops fits-drop.from x (fits-drop.step ∷ fits-drop.rest) todo h said-drop) (Todo.drop x) todo h.at tt of-drop (ap waits fits-drop.pending)

          uncuts : cutters todo ≡ []
          uncuts = ap cutters fits-drop.behind ∙ cuts-none f.image p.context fits-drop.step fits-drop.rest

          woken : wakers now.todo ≡ []
          woken = next-wakers f.image p e (Todo.drop x) todo h.at tt tt ∙ wakes

          cut : cutters now.todo ≡ []
          cut = plain-cutters f.image p e (Todo.drop x) todo h.at refl ∙ uncuts

          adds : adders todo ≡ []
          adds = ap adders fits-drop.behind ∙ adders-none f.image p.context fits-drop.step fits-drop.rest

          added : adders now.todo ≡ []
          added = next-adders f.image p e (Todo.drop x) todo h.at refl tt tt ∙ adds

          inside : at.inside ≡ Some (to_thread t)
          inside = was.0.inside ∙ ap (λ steps. if goes steps then Some (to_thread t) else None) fits-drop.pending

          list : comers p.todo ≡ []
          list = ap comers h.at ∙ λ i. woken_of (wakes i) ++ (uncuts i ++ map (λ (c : Context). c.thread) (adds i))

          mine : back p.context ≡ []
          mine = ap (λ steps. if is_empty steps && not p.context.ended then t ∷ [] else []) fits-drop.pending
