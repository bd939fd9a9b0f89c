-- An event that stops another thread, or goes on with one, follows. Behind it the processor looks whether that thread sleeps, or whether it waits.
use Rattle.std.proofs.Common.{◌≡◌, ◌⊎◌, inl, inr, ℕ, true, false, List, [], ◌∷◌, ◌++◌, Some, None, refl, sym, ap, ◌∙◌, subst, append-nil, map}
use Rattle.std.specs.Prelude.{◌&&◌, not, if◌then◌else◌}
use Rattle.std.proofs.lemmas.Bool.{false≢true, true≢false}
use Rattle.um_base.specs.declared.act.Act.{Act}
use Rattle.um_base.specs.declared.image.Image.{Image}
use Rattle.um_base.specs.declared.names.ThreadIx.{ThreadIx}
use Rattle.um_machine.specs.Order.{to_thread}
use Rattle.um_machine.specs.Services.{is_empty}
use Rattle.um_machine.specs.State.{State, is_waiting, thread_at}
use Rattle.um_invariants.specs.Armings.{armings_after}
use Rattle.um_invariants.specs.InOrder.{Point, to_cut, waiting}
use Rattle.um_invariants.specs.Lines.{all_join, joins as joins_line}
use Rattle.um_invariants.specs.NextSteps.{IsNext}
use Rattle.um_invariants.specs.Ready.{goes_on, is_at_rest, next_ready, ready_after, readied, roused, running_or}
use Rattle.um_words.specs.declared.fine.FineAct.{FineAct}
use Rattle.um_words.specs.declared.fine.More.{More}
use Rattle.um_fine.specs.Context.{Context}
use Rattle.um_fine.specs.Joins.{sleeps}
use Rattle.um_fine.specs.Places.{Todo, Todos, end_of_turn, next_steps}
use Rattle.um_fine.specs.Scheduler.{waits}
use Rattle.um_fine.specs.Steps.{FineStep}
use Rattle.um_refinement.specs.Fine.{Fine, clock, joins, scheduler}
use Rattle.um_refinement.specs.Lists.{adders, has_steps, names_row}
use Rattle.um_refinement.specs.Threads.{IsOf, cutters as cuts}
use Rattle.um_refinement.proofs.ChildrenKnown.{AllCreate}
use Rattle.um_refinement.proofs.Erased.{around}
use Rattle.um_refinement.proofs.Leaves.{Lawful}
use Rattle.um_refinement.proofs.ListAdders.{filled-adders}
use Rattle.um_refinement.proofs.ListDone.{Ends, filled-ends, says_done}
use Rattle.um_refinement.proofs.ListGrowth.{forms-kept, next-kept, visits_row}
use Rattle.um_refinement.proofs.ListWakes.{fine-none, wakers}
use Rattle.um_order.proofs.ArmingOrder.{Plain}
use Rattle.um_order.proofs.EventLines.{inside-is, rest-is}
use Rattle.um_order.proofs.Follow.{Followed, FollowsBy, cleans-none}
use Rattle.um_order.proofs.LeaveOrder.{goes-awake}
use Rattle.um_order.proofs.ListCalm.{calm-expands, cuts-expands}
use Rattle.um_order.proofs.ListShapes.{is_own, next-clear}
use Rattle.um_order.proofs.ShownLists.{goes-some}
use Rattle.um_order.proofs.Standing.{Turns, back, begun, comers, cutters, goes, looks, rouses, woken_of}

-- the fresh steps of a thread
module _ (image : Image) where
  steps-some : (c : Context) → has_steps (next_steps image c c.pending) ≡ true
  steps-some c =
      next-kept image (λ z. has_steps z ≡ true) (λ q todo visit few h. refl)
      (forms-kept image (λ z. has_steps z ≡ true)
      (record {
        note = λ site todo h. refl;
        act = λ q rest. refl;
        settles = λ q rest deadline mark. refl;
        access = λ q rest. refl;
        access_settles = λ q rest deadline mark. refl;
        look = λ x todo h. refl;
        owe = λ q rest. refl;
        leave = λ a rest. refl;
        edit = λ d q rest. refl;
        move = λ d who rest. refl;
        start = λ who q rest c. refl;
      })) (λ b. elim b as (λ b. has_steps (end_of_turn image b) ≡ true) [ true ↦ refl | false ↦ refl ]) c c.pending

  put-woken : (q : Todo) (todo : Todos) → visits_row q ≡ true → names_row q ≡ true → wakers todo ≡ [] → wakers (q ∷ todo) ≡ []
  put-woken (Todo.wake who told) todo visit few h = absurd (false≢true visit)
  put-woken q todo visit few h = h

  steps-woken : (c : Context) → wakers (next_steps image c c.pending) ≡ []
  steps-woken c = next-kept image (λ z. wakers z ≡ []) put-woken (fine-none image) (λ b. elim b as (λ b. wakers (end_of_turn image b) ≡ []) [ true ↦ refl | false ↦ refl ]) c c.pending

module _ (f : Fine) (at : Point) (e : FineStep) (law : Lawful f at.state e) (one : f.cpus ≡ 1) (orderly : AllCreate at.state) where
  open around f e use {later, processor as p, now}

  -- what is asked of such an event of the thread u, behind which the thread goes on with its instruction
  pub record IsStir (s2 : State) (u : ℕ) (act : Act) (more : More) : Type 0 where
    pub said : e.act ≡ FineAct.Shown (record { thread = to_thread u; act = act }) more
    pub own : is_own f.image p.todo ≡ true
    pub uncut : at.cut ≡ None
    pub first : running_or at.inside (next_ready at.state at.ready) ≡ Some (to_thread u)
    pub next : IsNext at.state u act s2
    pub base : waiting at ≡ (scheduler later).ready
    pub readies : readied act ≡ []
    pub thread : now.context.thread ≡ u
    pub of : IsOf later s2 now.context
    pub whole : cuts later now.context.thread ≡ 0
    pub goes_then : goes now.context.pending ≡ true
    pub armings : Plain (clock later).marks (armings_after at.armings (to_thread u) act s2)

  module _ (s2 : State) (u : ℕ) (act : Act) (more : More) (is : IsStir s2 u act more) where
    abbrev to : Point
    to =
        record {
          state = s2;
          ready = ready_after (waiting at) u act s2;
          inside = if goes_on s2 u then Some (to_thread u) else None;
          cut = to_cut act s2;
          armings = armings_after at.armings (to_thread u) act s2;
          last = Some (to_thread u);
        }

    abbrev left : Todos
    left = next_steps f.image now.context now.context.pending

    follows : FollowsBy at e.act to
    follows =
        subst (λ a. FollowsBy at a to) (sym is.said)
        (inr (inr (inl (record { clean = cleans-none f at e law one orderly is.own at.last; uncut = is.uncut; thread = is.first; made = is.next; ready = refl; inside = refl; cut = refl; armings = refl; last = refl }))))

    some-left : is_empty now.context.pending ≡ false
    some-left = (goes-some now.context is.goes_then).0

    awake : waits now.context.pending ≡ false
    awake = goes-awake now.context.pending is.goes_then

    -- its thread isn't at rest
    pub not-rests : is_at_rest s2 u ≡ false
    not-rests = ap (is_at_rest s2) (sym is.thread) ∙ (rest-is later s2 now.context is.of is.whole ∙ ap (λ b. b && not now.context.ended) some-left)

    pub line : (r : List ℕ) → roused s2 act ≡ r → (front : List ℕ) → all_join (scheduler later).ready r ≡ (scheduler later).ready ++ front → ready_after (waiting at) u act s2 ≡ (scheduler later).ready ++ front
    line r rouse front joined =
        (λ i. let others = all_join (all_join (is.base i) (is.readies i)) (rouse i) in if not-rests i then joins_line others u else others) ∙ joined

    turn : (front : List ℕ) → ready_after (waiting at) u act s2 ≡ (scheduler later).ready ++ front → Turns now left front (scheduler later) (clock later).marks to
    turn front ready =
        record {
          runs = steps-some f.image now.context;
          calm = calm-expands f.image now.context tt refl;
          last = ap (λ n. Some (to_thread n)) (sym is.thread);
          ready = ready ∙ ap (λ l. (scheduler later).ready ++ l) (sym (append-nil front) ∙ λ i. front ++ (sym none-come i ++ sym none-back i));
          inside = ap (λ n. if goes_on s2 n then Some (to_thread n) else None) (sym is.thread) ∙ inside-is later s2 now.context is.of is.whole (λ k. absurd (true≢false (sym k ∙ awake)));
          shows = λ rests. absurd (true≢false (sym rests ∙ some-left));
          ends = λ done. ended (filled-ends f.image now.context [] done);
          told = λ k. absurd (true≢false (sym k ∙ awake));
          whole = λ k. absurd (true≢false (sym k ∙ awake));
          alone = (λ some. absurd (true≢false (ap is_empty (sym none-cut) ∙ some)), λ some. absurd (true≢false (ap is_empty (sym none-added) ∙ some)));
          armings = is.armings;
        }
      where
        none-cut : cutters left ≡ []
        none-cut = cuts-expands f.image [] now.context tt refl

        none-added : adders left ≡ []
        none-added = filled-adders f.image now.context []

        none-come : comers left ≡ []
        none-come = λ i. woken_of (steps-woken f.image now.context i) ++ (none-cut i ++ map (λ (c : Context). c.thread) (none-added i))

        none-back : back now.context ≡ []
        none-back = ap (λ b. if b && not now.context.ended then now.context.thread ∷ [] else []) some-left

        ended : (says_done [] ≡ true) ⊎ Ends now.context → now.context.ended ≡ true
        ended (inl none) = absurd (false≢true none)
        ended (inr ends) = ends.1

    -- it looks whether who sleeps
    pub to-rouses : (who : ℕ) → now.todo ≡ Todo.rouse who ∷ next_steps f.image now.context now.context.pending → to_cut act s2 ≡ None
        → ready_after (waiting at) u act s2 ≡ (scheduler later).ready ++ (if sleeps (joins later) who then who ∷ [] else []) → Followed f at e law one orderly s2
    to-rouses who list uncut ready =
        record {
          point = to;
          follows = follows;
          state = refl;
          stands = rouses (record { who = who; todo = left; list = list; turn = turn (if sleeps (joins later) who then who ∷ [] else []) ready; bare = (steps-woken f.image now.context, cuts-expands f.image [] now.context tt refl); cut = uncut });
        }

    -- it looks whether who waits
    pub to-looks : (who : ThreadIx) (site before : ℕ) → now.todo ≡ Todo.look who.0 site before ∷ next_steps f.image now.context now.context.pending
        → to_cut act s2 ≡ (if is_waiting (thread_at s2 who.0) then Some who else None) → ready_after (waiting at) u act s2 ≡ (scheduler later).ready → Followed f at e law one orderly s2
    to-looks who site before list cut ready =
        record {
          point = to;
          follows = follows;
          state = refl;
          stands = looks (record {
            who = who.0;
            site = site;
            before = before;
            todo = left;
            list = list;
            turn = turn [] (ready ∙ sym (append-nil (scheduler later).ready));
            bare = (steps-woken f.image now.context, cuts-expands f.image [] now.context tt refl, filled-adders f.image now.context []);
            goes_then = is.goes_then;
            clear = λ x. next-clear f.image x now.context now.context.pending;
            cut = cut;
          });
        }

    -- it has stopped itself
    pub to-itself : now.todo ≡ next_steps f.image now.context now.context.pending → to_cut act s2 ≡ None → ready_after (waiting at) u act s2 ≡ (scheduler later).ready → Followed f at e law one orderly s2
    to-itself list uncut ready =
        record {
          point = to;
          follows = follows;
          state = refl;
          stands = begun (subst (λ (z : Todos). Turns now z [] (scheduler later) (clock later).marks to) (sym list) (turn [] (ready ∙ sym (append-nil (scheduler later).ready))), uncut);
        }
