-- The end of a thread for which others wait: its event follows, right before the thread clears its own object.
use Rattle.std.proofs.Common.{◌≡◌, ◌⊎◌, inl, inr, ℕ, suc, ◌+◌, ◌<◌, Bool, true, false, List, [], ◌∷◌, ◌++◌, map, length, Some, refl, sym, ap, ◌∙◌, subst, arith, append-nil}
use Rattle.std.specs.Prelude.{◌==◌, ◌&&◌, not, IsTrue, filter, if◌then◌else◌, is_some, slice_index_or}
use Rattle.std.specs.List.{list_all, list_any}
use Rattle.std.proofs.lemmas.Bool.{and_from, and_parts, false≢true, true≢false}
use Rattle.um_base.specs.declared.act.Act.{Act}
use Rattle.um_base.specs.declared.ask.Waiter.{Waiter}
use Rattle.um_base.specs.declared.limits.TheConstants.{ROWS}
use Rattle.um_base.specs.declared.names.Addr.{Addr}
use Rattle.um_base.specs.declared.names.Reply.{Reply}
use Rattle.um_base.specs.Places.{own_row}
use Rattle.um_machine.specs.declared.pending.Pending.{Pending}
use Rattle.um_machine.specs.declared.thread.Thread.{Thread}
use Rattle.um_machine.specs.Order.{Steps, to_thread}
use Rattle.um_machine.specs.Run.{none_due}
use Rattle.um_machine.specs.Joins.{is_ending, is_joined}
use Rattle.um_machine.specs.Joins as M
use Rattle.um_machine.specs.Services.{in_order, is_empty, told}
use Rattle.um_machine.specs.State.{State, thread_at}
use Rattle.um_machine.specs.Table as T
use Rattle.um_invariants.specs.InOrder.{Point}
use Rattle.um_invariants.specs.NextSteps.{IsNextStep}
use Rattle.um_invariants.specs.Ready.{behind_next, next_ready, running_or}
use Rattle.um_words.specs.declared.fine.More.{More}
use Rattle.um_fine.specs.Addresses.{row_named}
use Rattle.um_fine.specs.Answers.{act_in, woken_in}
use Rattle.um_fine.specs.Asks.{by_me}
use Rattle.um_fine.specs.Clock.{Clock}
use Rattle.um_fine.specs.Context.{Context}
use Rattle.um_fine.specs.Follows.{told_all}
use Rattle.um_fine.specs.Places.{Todo, Todos}
use Rattle.um_fine.specs.Processor.{Processor}
use Rattle.um_fine.specs.Scheduler.{waits}
use Rattle.um_fine.specs.Sites.{same_site}
use Rattle.um_fine.specs.Steps.{FineStep, Site}
use Rattle.um_refinement.specs.Cleaning.{AreBlocks}
use Rattle.um_refinement.specs.Dues.{is_visiting}
use Rattle.um_refinement.specs.Fine.{Fine, clock, scheduler}
use Rattle.um_refinement.specs.Lists.{adders, runs, visited}
use Rattle.um_refinement.specs.Offers as O
use Rattle.um_refinement.specs.Offers.{Fits, IsOffered, is_over}
use Rattle.um_refinement.specs.Relation.{Rel}
use Rattle.um_refinement.specs.Threads.{IsOf, cutters as cuts}
use Rattle.um_refinement.proofs.Bounds.{AreBounded}
use Rattle.um_refinement.proofs.CallSteps.{Proper}
use Rattle.um_refinement.proofs.CallsProper.{AreProper}
use Rattle.um_refinement.proofs.ChildrenKnown.{AllCreate}
use Rattle.um_refinement.proofs.ContextsPart.{now-context}
use Rattle.um_refinement.proofs.CuttersKept.{cutters-on}
use Rattle.um_refinement.proofs.Erased.{around}
use Rattle.um_refinement.proofs.LeaveSteps.{leave-ending, left-chosen, tells}
use Rattle.um_refinement.proofs.Leaves.{Lawful}
use Rattle.um_refinement.proofs.ListAdders.{next-adders}
use Rattle.um_refinement.proofs.ListDone.{says_done}
use Rattle.um_refinement.proofs.ListRuns.{goes-on, goes-runs}
use Rattle.um_refinement.proofs.ListWakes.{named, next-wakers, wakers}
use Rattle.um_refinement.proofs.MarksPart.{clock-same}
use Rattle.um_refinement.proofs.Offered.{not-cut, own-unless, runs-first}
use Rattle.um_refinement.proofs.ResumeSteps.{TellsWaiters}
use Rattle.um_refinement.proofs.RunningPart.{todo-elsewhere}
use Rattle.um_refinement.proofs.SchedulerSteps.{made-at, sched-else}
use Rattle.um_refinement.proofs.StepReads.{is-behind}
use Rattle.um_refinement.proofs.StepsLeft.{offered-on}
use Rattle.um_order.proofs.ArmingOrder.{Plain}
use Rattle.um_order.proofs.Follow.{Followed, follow, here}
use Rattle.um_order.proofs.ListCalm.{next-calm, next-cutters}
use Rattle.um_order.proofs.ListShapes.{is_own, next-ends}
use Rattle.um_order.proofs.NextSteps.{left-behind, left-is}
use Rattle.um_order.proofs.ShownLists.{goes-offered, goes-some, told-numbers, wakes-so}
use Rattle.um_order.proofs.Standing.{Begun, IsFull, back, comers, cutters, goes, inside_of, is_calm, is_show, woken_of}

pub goes-awake : (steps : Steps) → goes steps ≡ true → waits steps ≡ false
goes-awake [] h = refl
goes-awake (Pending.Resume ∷ rest) h = absurd (false≢true h)
goes-awake (q ∷ rest) h = refl

all-clear : (xs : List Bool) → ((y : ℕ) → y < length xs → slice_index_or xs y false ≡ true → ⊥) → list_all not xs ≡ true
all-clear [] h = refl
all-clear (b ∷ xs) h = and_from (not b) (list_all not xs) (by b refl) (all-clear xs (λ y l k. h (y + 1) (omega (arith, l)) (ap (λ n. slice_index_or (b ∷ xs) n false) (one-more y) ∙ k)))
  where
    one-more : (y : ℕ) → y + 1 ≡ suc y
    one-more y = omega arith

    by : (c : Bool) → b ≡ c → not b ≡ true
    by true e = absurd (h 0 (omega arith) e)
    by false e = ap not e

module _ (f : Fine) (at : Point) (e : FineStep) (law : Lawful f at.state e) (one : f.cpus ≡ 1) (orderly : AllCreate at.state) (proper : AreProper at.state.image at.state) (was : Begun (f.processors e.cpu) (scheduler f) (clock f).marks at)
    (todo : Todos) (list : (f.processors e.cpu).todo ≡ Todo.leave ∷ todo)
    (said : e.act ≡ by_me f.image (f.processors e.cpu) (Act.Left (to_thread (f.processors e.cpu).context.thread) (woken_in (act_in e.act)))) where
  open around f e use {later, processor as p, now}

  abbrev m : State
  m = at.state

  abbrev t : ℕ
  t = p.context.thread

  abbrev s2 : State
  s2 = T.after m t 0 Pending.Left (thread_at m t).pending

  abbrev a : Addr
  a = ((is-behind f m e law).frame Todo.leave todo list).0

  abbrev rest : Steps
  rest = ((is-behind f m e law).frame Todo.leave todo list).1

  whole-list : p.todo ≡ Todo.leave ∷ Todo.show (Pending.ClearInit a) rest ∷ []
  whole-list = list ∙ ap (λ (z : Todos). Todo.leave ∷ z) ((is-behind f m e law).frame Todo.leave todo list).2

  fits : O.ClearsOwn f.image p.context (Todo.show (Pending.ClearInit a) rest ∷ []) × Fits f.image p.context (Todo.show (Pending.ClearInit a) rest ∷ [])
  fits = subst (Fits f.image p.context) whole-list (law.rel.processors e.cpu law.by.named).list.fits

  offered : IsOffered f.image p.context (Pending.ClearInit a) rest
  offered = fits.1.0

  running : runs p ≡ true
  running = runs-first law.rel law.by.named Todo.leave todo list (λ hand. hand)

  on : is_over p.context ≡ false
  on = offered-on f.image p.context (Pending.ClearInit a) rest offered

  of-before : IsOf f m p.context
  of-before = (law.rel.contexts.running e.cpu law.by.named running).of on

  going : goes p.context.pending ≡ true
  going = by (goes-offered f.image p.context tt offered)
    where
      by : (p.context.pending ≡ []) ⊎ (goes p.context.pending ≡ true) → goes p.context.pending ≡ true
      by (inl none) = absurd (true≢false (sym (ap (list_any is_show) whole-list) ∙ was.0.shows (ap is_empty none)))
      by (inr is) = is

  some : (is_empty p.context.pending ≡ false) × (inside_of p.context ≡ Some (to_thread t))
  some = goes-some p.context going

  awake : waits p.context.pending ≡ false
  awake = goes-awake p.context.pending going

  machine : p.context.pending ≡ (thread_at m t).pending
  machine = ap (λ (th : Thread). th.pending) (own-unless of-before awake)

  context : now.context ≡ p.context
  context = now-context f m e law (Todo.leave ∷ todo) list

  mine : (T.row_of m a == own_row m.image t) ≡ true
  mine = (λ i. row_named (law.rel.image i) a == own_row (law.rel.image i) t) ∙ fits.0

  ending : IsTrue (is_ending (thread_at m t))
  ending = leave-ending f m law.rel law.sound proper e.cpu law.by.named e law.by.may law.taken todo list

  joined : is_joined m t ≡ true
  joined = left-chosen f m law.rel law.sound proper e.cpu law.by.named e law.by.may law.taken todo list said

  says : Act.Left (to_thread t) (woken_in (act_in e.act)) ≡ T.act_of m t 0 Pending.Left
  says =
      ap (Act.Left (to_thread t))
      (sym (tells f m law.rel law.sound proper e.cpu law.by.named e law.by.may law.taken todo list said) ∙ ap (λ ws. T.replies_of (map (λ (w : Waiter). told w (Reply.Num 0) []) (in_order (filter (M.joins t) ws)))) law.rel.joins.waiters)

  -- nothing is due of it where it has drops left
  due : is_visiting p.context.pending ≡ true → IsTrue (none_due (thread_at m t))
  due visiting =
      all-clear (thread_at m t).due
      (λ y l k.
      let least = (law.rel.processors e.cpu law.by.named).dues.passes running visiting y k in
      let most = (law.rel.processors e.cpu law.by.named).dues.few in
      let over : visited p.todo ≡ ROWS = ap visited whole-list in omega (arith, least, most, over, l))

  next-step : IsFull m t p.context.pending → IsNextStep m t Pending.Left 0
  next-step full = by offered
    where
      by : IsOffered f.image p.context (Pending.ClearInit a) rest → IsNextStep m t Pending.Left 0
      by (O.goes h) = left-is m t a rest (sym machine ∙ h) ending mine joined
      by (O.dropped {from} h) = left-behind m t from a rest (sym machine ∙ h) (subst (IsFull m t) machine full) (due (ap is_visiting h)) ending mine joined
      by (O.passed {who} h) = absurd (subst (Proper m.image (thread_at m t).checked) (sym machine ∙ h) (proper t).0).0

  same : scheduler later ≡ scheduler f
  same = sched-else f m e law (ap (λ i. same_site i Site.scheduler) (made-at f m e law (Todo.leave ∷ todo) list) ∙ todo-elsewhere f.image p Todo.leave todo refl tt)

  bare : (wakers todo ≡ []) × (cutters todo ≡ []) × (adders todo ≡ [])
  bare =
      let is = ((is-behind f m e law).frame Todo.leave todo list).2 in (ap wakers is, ap cutters is, ap adders is)

  woken : wakers now.todo ≡ named (told_all (woken_in (act_in e.act)))
  woken = next-wakers f.image p e Todo.leave todo list ((is-behind f m e law).frame Todo.leave todo list) tt ∙ (ap (λ ws. named (told_all (woken_in (act_in e.act))) ++ ws) bare.0 ∙ append-nil (named (told_all (woken_in (act_in e.act)))))

  cut : cutters now.todo ≡ []
  cut = next-cutters f.image p e Todo.leave todo list [] (wakes-so f.image (λ z. cutters z ≡ []) (λ who told z k. k) (λ n z k. k) (told_all (woken_in (act_in e.act))) todo bare.1)

  added : adders now.todo ≡ []
  added = next-adders f.image p e Todo.leave todo list refl ((is-behind f m e law).frame Todo.leave todo list) tt ∙ bare.2

  calm-behind : list_all is_calm todo ≡ true
  calm-behind = (and_parts (is_calm Todo.leave) (list_all is_calm todo) (sym (ap (list_all is_calm) list) ∙ was.0.calm)).1

  blocks : AreBlocks f.image (Todo.leave ∷ todo)
  blocks = subst (AreBlocks f.image) list (law.rel.processors e.cpu law.by.named).blocks

  whole : cuts later t ≡ 0
  whole = let is = cutters-on f m e law t Todo.leave todo list refl in let none = not-cut of-before awake in omega (arith, is, none)

  inside : at.inside ≡ Some (to_thread t)
  inside = was.0.inside ∙ some.1

  none-come : comers p.todo ≡ []
  none-come = ap comers whole-list

  none-back : back p.context ≡ []
  none-back = ap (λ b. if b && not p.context.ended then t ∷ [] else []) some.0

  module _ (related : Rel later (T.after m (f.processors e.cpu).context.thread 0 Pending.Left (thread_at m (f.processors e.cpu).context.thread).pending))
      (tells2 : TellsWaiters (T.after m (f.processors e.cpu).context.thread 0 Pending.Left (thread_at m (f.processors e.cpu).context.thread).pending)) (bounds : AreBounded later) (full : IsFull m t p.context.pending) where
    runs-now : runs now ≡ true
    runs-now = goes-runs f.image p e Todo.leave todo list refl ((is-behind f m e law).frame Todo.leave todo list) tt blocks ∙ running

    of : IsOf later s2 now.context
    of =
        subst (λ (z : Processor). runs z ≡ true → is_over z.context ≡ false → IsOf later s2 z.context) (here f at e law one orderly)
        (λ r o. (related.contexts.running e.cpu law.by.named r).of o) runs-now (ap is_over context ∙ on)

    pub leave-follows : Followed f at e law one orderly (T.after m (f.processors e.cpu).context.thread 0 Pending.Left (thread_at m (f.processors e.cpu).context.thread).pending)
    leave-follows =
        follow f at e law one orderly s2 related tells2 bounds t (Act.Left (to_thread t) (woken_in (act_in e.act))) More.Nothing
        (record {
          said = said;
          own = ap (is_own f.image) whole-list;
          uncut = was.1;
          first = ap (λ o. running_or o (next_ready m at.ready)) inside;
          next = record { step = Pending.Left; row = 0; taken = 0; next = next-step full; least = ((joined, tt), λ y l. absurd (omega (arith, l))); says = says; leaves = refl };
          base = ap (λ o. if is_some o then at.ready else behind_next m at.ready) inside
              ∙ (was.0.ready ∙ ((λ i. (scheduler f).ready ++ (none-come i ++ none-back i)) ∙ (append-nil (scheduler f).ready ∙ ap (λ z. z.ready) (sym same))));
          comes = told-numbers (woken_in (act_in e.act))
              ∙ (sym (append-nil (woken_of (named (told_all (woken_in (act_in e.act)))))) ∙ λ i. woken_of (sym woken i) ++ (sym cut i ++ map (λ (c : Context). c.thread) (sym added i)));
          nobody = refl;
          cuts_none = refl;
          thread = ap (λ (c : Context). c.thread) context;
          of = of;
          whole = ap (λ (c : Context). cuts later c.thread) context ∙ whole;
          runs = runs-now;
          steps = (goes-on f.image p e Todo.leave todo list refl ((is-behind f m e law).frame Todo.leave todo list) tt blocks).0;
          calm = next-calm f.image p e Todo.leave todo list (wakes-so f.image (λ z. list_all is_calm z ≡ true) (λ who told z k. k) (λ n z k. k) (told_all (woken_in (act_in e.act))) todo calm-behind);
          shows = λ rests. absurd (true≢false (sym rests ∙ (ap (λ (c : Context). is_empty c.pending) context ∙ some.0)));
          ends = λ done.
              ap (λ (c : Context). c.ended) context
              ∙ next-ends f.image p e Todo.leave todo list (subst (Fits f.image p.context) list (law.rel.processors e.cpu law.by.named).list.fits) (λ k. absurd (false≢true k)) refl (λ k. was.0.ends (ap says_done list ∙ k)) done;
          told = λ k. absurd (true≢false (sym k ∙ (ap (λ (c : Context). waits c.pending) context ∙ awake)));
          alone = (λ c. absurd (true≢false (ap is_empty (sym cut) ∙ c)), λ c. absurd (true≢false (ap is_empty (sym added) ∙ c)));
          armings = subst (λ (c : Clock). Plain c.marks at.armings) (sym (clock-same f m e law Todo.leave todo list refl)) was.0.armings;
        })
