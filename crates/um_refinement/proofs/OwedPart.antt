-- The scheduler's word counts the marks that are owed, after every lawful step.
use Rattle.um_refinement.proofs.Words.{◌≡◌, inr, ℕ, ◌+◌, ◌-◌, Bool, true, false, List, [], ◌∷◌, refl, sym, ap, ◌∙◌, subst, arith, IsTrue, ltb-true, Exchange, first_ready, has_ready, Behind, false≢true, Pending, Steps, State, FineAct, Unseen, first_taken, Todo, Todos, Scheduler, sched_after, same_site, FineStep, Site, Fine, Fits, counted, one_if, scheduler}
use Rattle.um_fine.specs.Answers.{due_in, mark_in}
use Rattle.um_fine.specs.Asks.{by_actor, says_turn}
use Rattle.um_fine.specs.Clock.{Clock, give_first}
use Rattle.um_fine.specs.Places.{is_paid}
use Rattle.um_base.specs.declared.act.Act.{Act}
use Rattle.um_refinement.specs.Fine.{clock}
use Rattle.um_refinement.specs.Lists.{is_arm}
use Rattle.um_refinement.specs.Timing.{OwedIs, arms, left_marks}
use Rattle.um_refinement.proofs.ClockSteps.{clock-else, clock-later, is_timing, off-clock}
use Rattle.um_refinement.proofs.Erased.{around}
use Rattle.um_refinement.proofs.Kept.{IdleStep, gives, idle-step, ticks as time_goes, turns}
use Rattle.um_refinement.proofs.Leaves.{Lawful}
use Rattle.um_refinement.proofs.ListArms.{behind-arms, next-arms, takes-arms}
use Rattle.um_refinement.proofs.ListMarks.{in_hand, next-count, paid-of, skips, taken-count, takes-free}
use Rattle.um_refinement.proofs.MarkFacts.{left-armed, left-given, left-settled}
use Rattle.um_refinement.proofs.RunningPart.{idle-after, is_scheduling, todo-elsewhere}
use Rattle.um_refinement.proofs.SchedulerSteps.{made-at, made-says, sched-else, sched-later, sched-took}
use Rattle.um_refinement.proofs.StepReads.{is-behind, is-placed, reads-last}
use Rattle.um_refinement.proofs.Sums.{over-changed}

module _ (f : Fine) (m : State) (e : FineStep) (law : Lawful f m e) where
  open around f e use {later, processor as p, now}

  abbrev Armed : Todos → ℕ
  Armed todo = one_if (arms todo)

  abbrev Paid : Todos → ℕ
  Paid todo = counted is_paid todo

  -- so many are owed then, by what changes
  owed-by : (owed_later left_later armed_then paid_then : ℕ) → (scheduler later).owed ≡ owed_later → left_marks (clock later).marks ≡ left_later → Armed now.todo ≡ armed_then → Paid now.todo ≡ paid_then
      → owed_later + (Armed p.todo + Paid p.todo) + left_marks (clock f).marks ≡ (scheduler f).owed + (armed_then + paid_then) + left_later → OwedIs later
  owed-by o l a d owed left armed paid sum =
      let all = over-changed f e (λ z. Armed z.todo + Paid z.todo) law.by.named in
      let was = law.rel.owed.owed in
      record { owed = omega (arith, all, was, owed, left, armed, paid, sum) }

  framed : (q : Todo) (todo : Todos) → p.todo ≡ q ∷ todo → Behind f.image q todo
  framed = (is-behind f m e law).frame

  armed-now : (q : Todo) (todo : Todos) → p.todo ≡ q ∷ todo → Armed now.todo ≡ Armed todo
  armed-now q todo at = ap one_if (next-arms f.image p e q todo at (framed q todo at) (reads-last f m e law q todo at))

  paid-now : (q : Todo) (todo : Todos) → p.todo ≡ q ∷ todo → Paid now.todo ≡ Paid todo
  paid-now q todo at = next-count f.image is_paid paid-of todo p e q at (framed q todo at) (reads-last f m e law q todo at) (λ none. inr (λ deadline mark. refl))

  -- nothing changes but the list, on which as much is behind the step
  same : (q : Todo) (todo : Todos) → p.todo ≡ q ∷ todo → arms (q ∷ todo) ≡ arms todo → Paid (q ∷ todo) ≡ Paid todo → (scheduler later).owed ≡ (scheduler f).owed
      → left_marks (clock later).marks ≡ left_marks (clock f).marks → OwedIs later
  same q todo at armed paid owed left =
      let before = ap Armed at in
      let more = ap Paid at in
      let behind = ap one_if armed in
      owed-by (scheduler f).owed (left_marks (clock f).marks) (Armed todo) (Paid todo) owed left (armed-now q todo at) (paid-now q todo at) (omega (arith, before, more, behind, paid))

  clock-same : (q : Todo) (todo : Todos) → p.todo ≡ q ∷ todo → is_timing q ≡ false → left_marks (clock later).marks ≡ left_marks (clock f).marks
  clock-same q todo at off =
      ap (λ (c : Clock). left_marks c.marks)
      (clock-else f m e law (ap (λ i. same_site i Site.clock) (made-at f m e law (q ∷ todo) at) ∙ off-clock f.image p q todo off (is-placed f m e law q todo at)))

  owed-same : (q : Todo) (todo : Todos) → p.todo ≡ q ∷ todo → is_scheduling q ≡ false → (scheduler later).owed ≡ (scheduler f).owed
  owed-same q todo at off =
      ap (λ (s : Scheduler). s.owed)
      (sched-else f m e law (ap (λ i. same_site i Site.scheduler) (made-at f m e law (q ∷ todo) at) ∙ todo-elsewhere f.image p q todo off (is-placed f m e law q todo at)))

  -- a step at the scheduler that owes and pays nothing
  scheduled : (q : Todo) (todo : Todos) → p.todo ≡ q ∷ todo → (act : FineAct) → e.act ≡ act → e.site ≡ Site.scheduler → is_timing q ≡ false → arms (q ∷ todo) ≡ arms todo → Paid (q ∷ todo) ≡ Paid todo
      → (sched_after (scheduler f) act e.moved).owed ≡ (scheduler f).owed → OwedIs later
  scheduled q todo at act said site off armed paid owed =
      same q todo at armed paid (ap (λ (s : Scheduler). s.owed) (sched-later f m e law site act said) ∙ owed) (clock-same q todo at off)

  -- nothing is on its list
  takes : p.todo ≡ [] → OwedIs later
  takes at = by (idle-step f m law.rel p e law.by.may law.taken at)
    where
      armed : Armed now.todo ≡ 0
      armed = ap one_if (takes-arms f.image p e at)

      none-armed : Armed p.todo ≡ 0
      none-armed = ap Armed at

      none-paid : Paid p.todo ≡ 0
      none-paid = ap Paid at

      paid-taken : Paid now.todo ≡ in_hand f.image is_paid paid-of e.moved
      paid-taken = taken-count f.image is_paid paid-of p e at (takes-free f.image is_paid paid-of (λ deadline mark. refl) e.moved)

      taken-first : (list : List ℕ) → (first_taken (scheduler f) list).owed ≡ (scheduler f).owed
      taken-first [] = refl
      taken-first (t ∷ list) = refl

      paid-by : (moved : Exchange) (n : ℕ) → e.moved ≡ moved → in_hand f.image is_paid paid-of moved ≡ n → Paid now.todo ≡ n
      paid-by moved n given is = paid-taken ∙ (ap (in_hand f.image is_paid paid-of) given ∙ is)

      owed-there : e.site ≡ Site.clock → (scheduler later).owed ≡ (scheduler f).owed
      owed-there site = ap (λ (s : Scheduler). s.owed) (sched-else f m e law (ap (λ i. same_site i Site.scheduler) site))

      by : IdleStep f p e → OwedIs later
      by (turns site said ready moved) = which (scheduler f).ready ready moved
        where
          owed : (scheduler later).owed ≡ (scheduler f).owed
          owed =
              ap (λ (s : Scheduler). s.owed) (sched-later f m e law site (says_turn f.image p e.moved) said ∙ idle-after f.image p (scheduler f) e.moved)
              ∙ taken-first (scheduler f).ready

          left : left_marks (clock later).marks ≡ left_marks (clock f).marks
          left = ap (λ (c : Clock). left_marks c.marks) (clock-else f m e law (ap (λ i. same_site i Site.clock) site))

          which : (list : List ℕ) → IsTrue (has_ready (scheduler f) list) → first_ready (scheduler f) list ≡ e.moved → OwedIs later
          which [] has moved = absurd (false≢true has)
          which (t ∷ list) has moved =
              owed-by (scheduler f).owed (left_marks (clock f).marks) 0 0 owed left armed (paid-by (first_ready (scheduler f) (t ∷ list)) 0 (sym moved) refl) (omega (arith, none-armed, none-paid))
      by (gives x site said due moved) =
          let left = ap (λ (c : Clock). left_marks c.marks) (clock-later f m e law site (FineAct.Unseen Unseen.Due) said) in
          let less = left-given (clock f).now (clock f).marks x due in
          owed-by (scheduler f).owed (left_marks (give_first (clock f).now (clock f).marks)) 0 1 (owed-there site) left armed (paid-by (Exchange.mark x.deadline x.mark) 1 moved refl)
          (omega (arith, none-armed, none-paid, less))
      by (time_goes n site said next moved) =
          let left = ap (λ (c : Clock). left_marks c.marks) (clock-later f m e law site (by_actor f.image p (Act.Tick n)) said) in
          owed-by (scheduler f).owed (left_marks (clock f).marks) 0 0 (owed-there site) left armed (paid-by Exchange.nothing 0 moved refl) (omega (arith, none-armed, none-paid))

  -- an event
  shows : (q : Pending) (rest : Steps) (todo : Todos) → p.todo ≡ Todo.show q rest ∷ todo → OwedIs later
  shows q rest todo at = by (is_arm q) refl
    where
      head : Todo
      head = Todo.show q rest

      none-behind : Armed todo ≡ 0
      none-behind =
          ap Armed (subst (Fits f.image p.context) at (law.rel.processors e.cpu law.by.named).list.fits).1
          ∙ ap one_if (behind-arms f.image p.context q)

      owed : (scheduler later).owed ≡ (scheduler f).owed
      owed = owed-same head todo at refl

      paid : Paid p.todo ≡ Paid todo
      paid = ap Paid at ∙ skips f.image is_paid paid-of head todo refl

      armed-to : (q : Pending) → is_arm q ≡ true → p.todo ≡ Todo.show q rest ∷ todo → left_marks (clock later).marks ≡ left_marks (clock f).marks + 1
      armed-to (Pending.Arm ticks) on at =
          ap (λ (c : Clock). left_marks c.marks) (clock-later f m e law (made-at f m e law (Todo.show (Pending.Arm ticks) rest ∷ todo) at) _ (made-says f m e law (Todo.show (Pending.Arm ticks) rest ∷ todo) at))
          ∙ left-armed (clock f).marks _ refl
      armed-to (Pending.ArmTimer ticks) on at =
          ap (λ (c : Clock). left_marks c.marks) (clock-later f m e law (made-at f m e law (Todo.show (Pending.ArmTimer ticks) rest ∷ todo) at) _ (made-says f m e law (Todo.show (Pending.ArmTimer ticks) rest ∷ todo) at))
          ∙ left-armed (clock f).marks _ refl
      armed-to q on at = absurd (false≢true on)

      untimed : (q : Pending) → is_arm q ≡ false → is_timing (Todo.show q rest) ≡ false
      untimed (Pending.Arm ticks) off = off
      untimed (Pending.ArmTimer ticks) off = off
      untimed q off = refl

      by : (b : Bool) → is_arm q ≡ b → OwedIs later
      by true on =
          let before : Armed p.todo ≡ 1 = ap Armed at ∙ ap one_if on in
          owed-by (scheduler f).owed (left_marks (clock f).marks + 1) (Armed todo) (Paid todo) owed (armed-to q on at) (armed-now head todo at) (paid-now head todo at)
          (omega (arith, before, none-behind, paid))
      by false off =
          let before : Armed p.todo ≡ 0 = ap Armed at ∙ ap one_if off in
          owed-by (scheduler f).owed (left_marks (clock f).marks) (Armed todo) (Paid todo) owed (clock-same head todo at (untimed q off)) (armed-now head todo at) (paid-now head todo at)
          (omega (arith, before, none-behind, paid))

  by-todo : (todo : Todos) → p.todo ≡ todo → OwedIs later
  by-todo [] at = takes at
  by-todo (Todo.show q rest ∷ todo) at = shows q rest todo at
  by-todo (Todo.owe ∷ todo) at =
      let behind = framed Todo.owe todo at in
      let armed : Armed todo ≡ 1 = ap Armed behind.2 ∙ ap one_if behind.3 in
      let before : Armed p.todo ≡ 0 = ap Armed at in
      let paid = ap Paid at in
      let owed = ap (λ (s : Scheduler). s.owed) (sched-later f m e law (made-at f m e law (Todo.owe ∷ todo) at) (FineAct.Unseen Unseen.Owe) (made-says f m e law (Todo.owe ∷ todo) at)) in
      owed-by ((scheduler f).owed + 1) (left_marks (clock f).marks) (Armed todo) (Paid todo) owed (clock-same Todo.owe todo at refl) (armed-now Todo.owe todo at) (paid-now Todo.owe todo at)
      (omega (arith, armed, before, paid))
  by-todo (Todo.paid ∷ todo) at =
      let alone : todo ≡ [] = framed Todo.paid todo at in
      let site = made-at f m e law (Todo.paid ∷ todo) at in
      let said = made-says f m e law (Todo.paid ∷ todo) at in
      let some = ltb-true 0 (scheduler f).owed (sched-took f m e law site (FineAct.Unseen Unseen.Paid) said) in
      let owed = ap (λ (s : Scheduler). s.owed) (sched-later f m e law site (FineAct.Unseen Unseen.Paid) said) in
      let armed-before : Armed p.todo ≡ Armed todo = ap Armed at in
      let paid-before : Paid p.todo ≡ Paid todo + 1 = ap Paid at in
      owed-by ((scheduler f).owed - 1) (left_marks (clock f).marks) (Armed todo) (Paid todo) owed (clock-same Todo.paid todo at refl) (armed-now Todo.paid todo at) (paid-now Todo.paid todo at)
      (omega (arith, some, armed-before, paid-before))
  by-todo (Todo.settle deadline mark ∷ todo) at =
      same (Todo.settle deadline mark) todo at refl refl (owed-same (Todo.settle deadline mark) todo at refl)
      (ap (λ (c : Clock). left_marks c.marks) (clock-later f m e law (made-at f m e law (Todo.settle deadline mark ∷ todo) at) (FineAct.Unseen Unseen.Settle) (made-says f m e law (Todo.settle deadline mark ∷ todo) at))
      ∙ left-settled (due_in e.moved) (mark_in e.moved) (clock f).marks)
  by-todo (Todo.wake who told ∷ todo) at =
      scheduled (Todo.wake who told) todo at _ (made-says f m e law (Todo.wake who told ∷ todo) at) (made-at f m e law (Todo.wake who told ∷ todo) at) refl refl refl refl
  by-todo (Todo.tell_cut who ∷ todo) at =
      scheduled (Todo.tell_cut who) todo at _ (made-says f m e law (Todo.tell_cut who ∷ todo) at) (made-at f m e law (Todo.tell_cut who ∷ todo) at) refl refl refl refl
  by-todo (Todo.add c ∷ todo) at = scheduled (Todo.add c) todo at _ (made-says f m e law (Todo.add c ∷ todo) at) (made-at f m e law (Todo.add c ∷ todo) at) refl refl refl refl
  by-todo (Todo.park ∷ todo) at = scheduled Todo.park todo at _ (made-says f m e law (Todo.park ∷ todo) at) (made-at f m e law (Todo.park ∷ todo) at) refl refl refl refl
  by-todo (Todo.done ∷ todo) at = scheduled Todo.done todo at _ (made-says f m e law (Todo.done ∷ todo) at) (made-at f m e law (Todo.done ∷ todo) at) refl refl refl refl
  by-todo (q ∷ todo) at = same q todo at refl refl (owed-same q todo at refl) (clock-same q todo at refl)

  pub owed-part : OwedIs later
  owed-part = by-todo p.todo refl
