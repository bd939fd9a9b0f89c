-- The end of a wait follows, whose mark is in the hand; and so does the expiry of a timer.
use Rattle.std.proofs.Common.{◌≡◌, ℕ, ◌+◌, ◌<◌, true, ◌∷◌, Option, Some, None, refl, sym, ap, ◌∙◌, subst, eqb-true, eq-eqb}
use Rattle.std.proofs.lemmas.Bool.{and_from, and_parts, false≢true}
use Rattle.um_base.specs.declared.act.Act.{Act}
use Rattle.um_base.specs.declared.limits.TheConstants.{ROWS}
use Rattle.um_base.specs.declared.names.Row.{Row}
use Rattle.um_base.specs.declared.names.ThreadIx.{ThreadIx}
use Rattle.um_machine.specs.declared.pending.Pending.{Pending}
use Rattle.um_machine.specs.Order.{to_row, to_thread}
use Rattle.um_machine.specs.Run.{MayChoose, tends, waits_at}
use Rattle.um_machine.specs.State.{State, is_started, thread_at, waiters_in}
use Rattle.um_machine.specs.Table as T
use Rattle.um_invariants.specs.Armings.{Aim, Arming, is_until, late_cell, late_step, makes_step, timer, waiter}
use Rattle.um_invariants.specs.InOrder.{Makes, Point}
use Rattle.um_invariants.proofs.ThreadWords.{AreKept}
use Rattle.um_words.specs.declared.fine.FineAct.{FineAct}
use Rattle.um_words.specs.declared.fine.Mark.{Mark}
use Rattle.um_fine.specs.Addresses.{address_of}
use Rattle.um_fine.specs.Answers.{act_in, woken_in}
use Rattle.um_fine.specs.Asks.{begins_cleaning, by_actor}
use Rattle.um_fine.specs.Places.{Todo, Todos}
use Rattle.um_fine.specs.Processor.{actor_or}
use Rattle.um_fine.specs.Seeking.{deadline_of, is_number, stands_in}
use Rattle.um_fine.specs.Sites.{site_answers, site_numbered}
use Rattle.um_fine.specs.Steps.{Exchange, FineStep, Site}
use Rattle.um_refinement.specs.Fine.{Fine, clock, scheduler}
use Rattle.um_refinement.specs.Relation.{Rel}
use Rattle.um_refinement.specs.Stops.{cell_site}
use Rattle.um_refinement.proofs.Bounds.{AreBounded}
use Rattle.um_refinement.proofs.ChildrenKnown.{AllCreate}
use Rattle.um_refinement.proofs.Erased.{around}
use Rattle.um_refinement.proofs.Leaves.{Lawful}
use Rattle.um_refinement.proofs.SearchSteps.{expire-says}
use Rattle.um_refinement.proofs.SchedulerSteps.{made-at, made-moves}
use Rattle.um_refinement.proofs.TimeoutPart.{site-once}
use Rattle.um_refinement.proofs.WaitersFound.{WaitersWait, cell-found, found-stands, waiter-below}
use Rattle.um_refinement.proofs.CellSites.{site-of-cell}
use Rattle.um_order.proofs.ArmingOrder.{IsAim, IsArmed}
use Rattle.um_order.proofs.Follow.{Followed}
use Rattle.um_order.proofs.HandOrder.{hold-follows}
use Rattle.um_order.proofs.ShownLists.{told-numbers}
use Rattle.um_order.proofs.Standing.{Holds, woken_of}
use Rattle.um_refinement.proofs.ListWakes.{named}
use Rattle.um_fine.specs.Follows.{told_marked}

number-is : (d : ℕ) (o : Option ℕ) → is_number d o ≡ true → o ≡ Some d
number-is d None h = absurd (false≢true h)
number-is d (Some n) h = ap Some (sym (eqb-true d n h))

hand_deadline : Todos → ℕ
hand_deadline (Todo.handle deadline mark ∷ todo) = deadline
hand_deadline todo = 0

hand_mark : Todos → Mark
hand_mark (Todo.handle deadline mark ∷ todo) = mark
hand_mark todo = Mark.Timer (to_row 0)

module _ (f : Fine) (at : Point) (e : FineStep) (law : Lawful f at.state e) (one : f.cpus ≡ 1) (orderly : AllCreate at.state) (kept : AreKept at.state) (was : Holds (f.processors e.cpu) (scheduler f) (clock f).marks at)
    (deadline site x : ℕ) (who : ThreadIx) (todo : Todos) (list : (f.processors e.cpu).todo ≡ Todo.handle deadline (Mark.Thread who site) ∷ todo) (same : site ≡ cell_site x) (few : x < ROWS + 2)
    (said : e.act ≡ by_actor f.image (f.processors e.cpu) (Act.TimedOut who)) (chosen : MayChoose at.state (actor_or f.image (f.processors e.cpu).actor) x (Pending.TimeOut who))
    (started : is_started (thread_at at.state (actor_or f.image (f.processors e.cpu).actor)).life ≡ true) (last : at.last ≡ Some (to_thread (actor_or f.image (f.processors e.cpu).actor))) where
  open around f e use {later, processor as p, now}

  abbrev m : State
  m = at.state

  mark-is : was.mark ≡ Mark.Thread who site
  unfolding hand_mark
  mark-is = ap hand_mark (sym was.list ∙ list)

  deadline-is : was.deadline ≡ deadline
  unfolding hand_deadline
  deadline-is = ap hand_deadline (sym was.list ∙ list)

  waits-there : waits_at m who.0 x ≡ true
  waits-there = (and_parts _ _ chosen).1

  late : deadline_of who.0 (waiters_in m x) ≡ Some deadline
  late =
      let mark = Mark.Thread who site in
      let place = made-at f m e law (Todo.handle deadline mark ∷ todo) list ∙ (ap site_numbered same ∙ site-of-cell x few) in
      number-is deadline (deadline_of who.0 (waiters_in m x))
      (cell-found f m law.rel (Exchange.mark deadline mark) tt _ _ x few (Act.TimedOut who) refl
      (subst (λ (z : Site × FineAct × Exchange). site_answers f.image (f.sites z.0) z.2 z.1 ≡ z.1) (λ j. (place j, said j, made-moves f m e law (Todo.handle deadline mark ∷ todo) list j)) (ap (λ (s : FineStep). s.act) law.taken.filled_in)))

  stands : stands_in who.0 (waiters_in m x) ≡ true
  stands = found-stands who.0 deadline (waiters_in m x) late

  until : (thread_at m who.0).until ≡ Some deadline
  until = sym ((law.rel.threads who.0 (waiter-below f m law.rel kept.many who.0 (and_parts _ _ waits-there).0)).timeout.until x few stands) ∙ late

  -- its arming makes that step
  cell-of : (aim : Aim) → IsAim (Mark.Thread who site) aim → (aim ≡ waiter who x)
  cell-of (waiter t c) h = λ i. waiter (h.0 i) (site-once c x h.2 few (sym h.1 ∙ same) i)
  cell-of (timer y) h = absurd h

  aim-is : (a : Arming) → IsArmed was.deadline was.mark a → (a.deadline ≡ deadline) × (a.aim ≡ waiter who x)
  aim-is a armed = (armed.deadline_is ∙ deadline-is, cell-of a.aim (subst (λ (k : Mark). IsAim k a.aim) mark-is armed.aim_is))

  on : (a : Arming) → IsArmed was.deadline was.mark a → makes_step at.state a ≡ true
  on a armed =
      let is = aim-is a armed in
      ap (λ (z : Arming). makes_step m z) (λ i. record { deadline = is.0 i; aim = is.1 i })
      ∙ and_from _ _ waits-there (ap (is_until deadline) until ∙ eq-eqb deadline deadline refl)

  abbrev s2 : State
  s2 = T.after m (actor_or f.image p.actor) x (Pending.TimeOut who) (thread_at m (actor_or f.image p.actor)).pending

  made : (a : Arming) → IsArmed was.deadline was.mark a → Makes at.state (record { thread = to_thread (actor_or f.image p.actor); act = Act.TimedOut who }) s2 (late_step a.aim) (late_cell a.aim)
  made a armed =
      subst (λ (aim : Aim). Makes at.state (record { thread = to_thread (actor_or f.image p.actor); act = Act.TimedOut who }) s2 (late_step aim) (late_cell aim)) (sym (aim-is a armed).1)
      (record {
        made = record { step = Pending.TimeOut who; rest = (thread_at m (actor_or f.image p.actor)).pending; row = x; offered = tends refl started; chosen = chosen; says = refl; leaves = refl };
        is = refl;
        at = refl;
      })

  pub timed-out-follows : Rel later (T.after at.state (actor_or f.image (f.processors e.cpu).actor) x (Pending.TimeOut who) (thread_at at.state (actor_or f.image (f.processors e.cpu).actor)).pending) → AreBounded later
      → Followed f at e law one orderly (T.after at.state (actor_or f.image (f.processors e.cpu).actor) x (Pending.TimeOut who) (thread_at at.state (actor_or f.image (f.processors e.cpu).actor)).pending)
  timed-out-follows related bounded =
      hold-follows f at e law one was orderly s2 (Act.TimedOut who) said related bounded (ap (λ (a : FineAct). begins_cleaning (record e { act = a })) said) last refl
      (sym (ap (λ (k : Mark). woken_of (named (told_marked k (woken_in (act_in e.act))))) mark-is)) on made

-- The expiry of a timer follows, whose mark is in the hand.
module _ (f : Fine) (at : Point) (e : FineStep) (law : Lawful f at.state e) (one : f.cpus ≡ 1) (orderly : AllCreate at.state) (kept : AreKept at.state) (waiting : WaitersWait at.state)
    (was : Holds (f.processors e.cpu) (scheduler f) (clock f).marks at)
    (deadline : ℕ) (x : Row) (todo : Todos) (list : (f.processors e.cpu).todo ≡ Todo.handle deadline (Mark.Timer x) ∷ todo)
    (said : e.act ≡ by_actor f.image (f.processors e.cpu) (Act.Expire (address_of f.image x.0) (woken_in (act_in e.act)))) (chosen : MayChoose at.state (actor_or f.image (f.processors e.cpu).actor) x.0 Pending.Expire)
    (started : is_started (thread_at at.state (actor_or f.image (f.processors e.cpu).actor)).life ≡ true) (last : at.last ≡ Some (to_thread (actor_or f.image (f.processors e.cpu).actor))) where
  open around f e use {later, processor as p, now}

  timer-is : was.mark ≡ Mark.Timer x
  unfolding hand_mark
  timer-is = ap hand_mark (sym was.list ∙ list)

  timer-of : (aim : Aim) → IsAim (Mark.Timer x) aim → aim ≡ timer x.0
  timer-of (timer y) h = ap timer (sym h)
  timer-of (waiter t c) h = absurd h

  runs-aim : (a : Arming) → IsArmed was.deadline was.mark a → a.aim ≡ timer x.0
  runs-aim a armed = timer-of a.aim (subst (λ (k : Mark). IsAim k a.aim) timer-is armed.aim_is)

  runs-on : (a : Arming) → IsArmed was.deadline was.mark a → makes_step at.state a ≡ true
  runs-on a armed = ap (λ (aim : Aim). makes_step at.state (record { deadline = a.deadline; aim = aim })) (runs-aim a armed) ∙ chosen

  abbrev expired : State
  expired = T.after at.state (actor_or f.image p.actor) x.0 Pending.Expire (thread_at at.state (actor_or f.image p.actor)).pending

  says-so : Act.Expire (address_of f.image x.0) (woken_in (act_in e.act)) ≡ T.act_of at.state (actor_or f.image p.actor) x.0 Pending.Expire
  says-so = λ i. Act.Expire (address_of (sym law.rel.image i) x.0) (sym (expire-says f at.state law.rel waiting kept.many e.cpu law.by.named e law.by.may law.taken deadline x todo list said) i)

  expires-made : (a : Arming) → IsArmed was.deadline was.mark a
      → Makes at.state (record { thread = to_thread (actor_or f.image p.actor); act = Act.Expire (address_of f.image x.0) (woken_in (act_in e.act)) }) expired (late_step a.aim) (late_cell a.aim)
  expires-made a armed =
      subst (λ (aim : Aim). Makes at.state (record { thread = to_thread (actor_or f.image p.actor); act = Act.Expire (address_of f.image x.0) (woken_in (act_in e.act)) }) expired (late_step aim) (late_cell aim)) (sym (runs-aim a armed))
      (record {
        made = record { step = Pending.Expire; rest = (thread_at at.state (actor_or f.image p.actor)).pending; row = x.0; offered = tends refl started; chosen = chosen; says = says-so; leaves = refl };
        is = refl;
        at = refl;
      })

  pub expire-follows : Rel later (T.after at.state (actor_or f.image (f.processors e.cpu).actor) x.0 Pending.Expire (thread_at at.state (actor_or f.image (f.processors e.cpu).actor)).pending) → AreBounded later
      → Followed f at e law one orderly (T.after at.state (actor_or f.image (f.processors e.cpu).actor) x.0 Pending.Expire (thread_at at.state (actor_or f.image (f.processors e.cpu).actor)).pending)
  expire-follows related bounded =
      hold-follows f at e law one was orderly expired (Act.Expire (address_of f.image x.0) (woken_in (act_in e.act))) said related bounded (ap (λ (a : FineAct). begins_cleaning (record e { act = a })) said) last refl
      (told-numbers (woken_in (act_in e.act)) ∙ sym (ap (λ (k : Mark). woken_of (named (told_marked k (woken_in (act_in e.act))))) timer-is)) runs-on expires-made
