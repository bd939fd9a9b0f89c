-- Where each step is chosen, time doesn't pass a mark that wasn't given: its deadline isn't behind now, nor is that of a mark in the hand.
use Rattle.std.specs.List.{list_all}
use Rattle.std.specs.Prelude.{◌==◌, ◌&&◌, ◌||◌, not, if◌then◌else◌, is_some, nat_le, nat_lt, unwrap_or, IsTrue, min}
use Rattle.std.proofs.Common.{◌≡◌, inr, ℕ, zero, suc, ◌+◌, ◌<◌, ◌≤◌, arith, Bool, true, false, List, [], ◌∷◌, Option, Some, None, refl, sym, ap, ◌∙◌, subst, eq-eqb}
use Rattle.std.proofs.lemmas.Bool.{and_parts, and_from, eqb-true, false≢true, true≢false, leb-true, le-leb, lt-ltb, leb-false}
use Rattle.um_base.specs.declared.act.Act.{Act}
use Rattle.um_machine.specs.Order.{Steps}
use Rattle.um_machine.specs.State.{State}
use Rattle.um_machine.specs.Time.{least, next_deadline}
use Rattle.um_machine.specs.declared.pending.Pending.{Pending}
use Rattle.um_words.specs.declared.fine.FineAct.{FineAct}
use Rattle.um_words.specs.declared.fine.Mark.{Mark}
use Rattle.um_words.specs.declared.fine.Unseen.{Unseen}
use Rattle.um_fine.specs.Answers.{act_in, deadline_in, due_in, is_tick, mark_in, ticks_in}
use Rattle.um_fine.specs.Asks.{by_actor, by_me}
use Rattle.um_fine.specs.Clock.{Clock, Marked, deadlines, first_due, give_first, is_due, is_unsettled, same_mark, settle_first}
use Rattle.um_fine.specs.Places.{Todo, Todos, is_paid}
use Rattle.um_fine.specs.Scheduler.{first_ready, has_ready}
use Rattle.um_fine.specs.Sites.{same_site}
use Rattle.um_fine.specs.Steps.{Exchange, FineStep, Site}
use Rattle.um_refinement.specs.Choice.{IsChosen}
use Rattle.um_refinement.specs.Fine.{Fine, scheduler, clock}
use Rattle.um_refinement.specs.Frames.{AreFramed}
use Rattle.um_refinement.specs.Lists.{counted, is_arm, times}
use Rattle.um_refinement.specs.Timing.{IsHand, handles}
use Rattle.um_refinement.proofs.ClockSteps.{clock-else, clock-later, clock-said}
use Rattle.um_refinement.proofs.Erased.{around}
use Rattle.um_refinement.proofs.Kept.{IdleStep, gives, idle-step, ticks, turns}
use Rattle.um_refinement.proofs.Leaves.{Lawful}
use Rattle.um_refinement.proofs.ListMarks.{handles-of, in_hand, next-count, taken-count, takes-free}
use Rattle.um_refinement.proofs.MarkFacts.{all-armed, due-parts, same-itself}
use Rattle.um_refinement.proofs.MarksPart.{clock-same, hand-tail, handle-paid, untimed}
use Rattle.um_refinement.proofs.SchedulerSteps.{made-at, made-says}
use Rattle.um_refinement.proofs.StepReads.{is-behind, reads-last}
use Rattle.um_order.proofs.ArmingOrder.{AreSettled}

abbrev pub is_ahead : ℕ → Marked → Bool
is_ahead now x = x.given || nat_le now x.deadline

abbrev pub AreAhead : ℕ → List Marked → Type 0
AreAhead now ms = list_all (is_ahead now) ms ≡ true

-- what goes along of the clock, and of a mark in the hand
pub record IsAhead (c : Clock) (todo : Todos) : Type 0 where
  pub marks : AreAhead c.now c.marks
  pub hand : (deadline : ℕ) (mark : Mark) (rest : Todos) → todo ≡ Todo.handle deadline mark ∷ rest → c.now ≤ deadline

settled-ahead : (now deadline : ℕ) (mark : Mark) (ms : List Marked) → AreAhead now ms → AreAhead now (settle_first deadline mark ms)
settled-ahead now deadline mark [] h = refl
settled-ahead now deadline mark (x ∷ ms) h = by (is_unsettled deadline mark x) (settled-ahead now deadline mark ms parts.1)
  where
    parts : (is_ahead now x ≡ true) × AreAhead now ms
    parts = and_parts (is_ahead now x) (list_all (is_ahead now) ms) h

    by : (b : Bool) → AreAhead now (settle_first deadline mark ms) → AreAhead now (if b then record x { settled = true } ∷ ms else x ∷ settle_first deadline mark ms)
    by true more = and_from (is_ahead now x) (list_all (is_ahead now) ms) parts.0 parts.1
    by false more = and_from (is_ahead now x) (list_all (is_ahead now) (settle_first deadline mark ms)) parts.0 more

given-ahead : (now : ℕ) (ms : List Marked) → AreAhead now ms → AreAhead now (give_first now ms)
given-ahead now [] h = refl
given-ahead now (x ∷ ms) h = by (is_due now x) (given-ahead now ms parts.1)
  where
    parts : (is_ahead now x ≡ true) × AreAhead now ms
    parts = and_parts (is_ahead now x) (list_all (is_ahead now) ms) h

    by : (b : Bool) → AreAhead now (give_first now ms) → AreAhead now (if b then record x { given = true } ∷ ms else x ∷ give_first now ms)
    by true more = parts.1
    by false more = and_from (is_ahead now x) (list_all (is_ahead now) (give_first now ms)) parts.0 more

-- a mark that is given was ahead
due-ahead : (now : ℕ) (ms : List Marked) (x : Marked) → AreAhead now ms → first_due now ms ≡ Some x → now ≤ x.deadline
due-ahead now [] x h first = absurd (false≢true (ap is_some first))
due-ahead now (y ∷ ms) x h first = by (is_due now y) refl first (due-ahead now ms x parts.1)
  where
    parts : (is_ahead now y ≡ true) × AreAhead now ms
    parts = and_parts (is_ahead now y) (list_all (is_ahead now) ms) h

    by : (b : Bool) → is_due now y ≡ b → (if b then Some y else first_due now ms) ≡ Some x → (first_due now ms ≡ Some x → now ≤ x.deadline) → now ≤ x.deadline
    by true due e more =
        let same : y ≡ x = ap (λ (o : Option Marked). unwrap_or o y) e in
        let left = (due-parts now y due).2 in
        subst (λ (z : Marked). now ≤ z.deadline) same (leb-true now y.deadline (sym (ap (λ b. b || nat_le now y.deadline) left) ∙ parts.0))
    by false due e more = more e

-- Time goes on to the next deadline: none is between.

abbrev below : ℕ → Option ℕ → ℕ → Bool
below now None d = not (nat_lt now d)
below now (Some n) d = not (nat_lt now d) || nat_le n d

least-below : (now d : ℕ) (o : Option ℕ) (e : ℕ) → below now o e ≡ true → below now (least d o) e ≡ true
least-below now d None e h = ap (λ b. b || nat_le d e) h
least-below now d (Some n) e h = by (nat_lt now e) h
  where
    by : (b : Bool) → (not b || nat_le n e) ≡ true → (not b || nat_le (min d n) e) ≡ true
    by false k = refl
    by true k = let l = leb-true n e k in le-leb (min d n) e (omega (arith, l))

all-below : (now d : ℕ) (o : Option ℕ) (ds : List ℕ) → list_all (below now o) ds ≡ true → list_all (below now (least d o)) ds ≡ true
all-below now d o [] h = refl
all-below now d o (e ∷ ds) h =
    let parts = and_parts (below now o e) (list_all (below now o) ds) h in
    and_from (below now (least d o) e) (list_all (below now (least d o)) ds) (least-below now d o e parts.0) (all-below now d o ds parts.1)

next-below : (now : ℕ) (ds : List ℕ) → list_all (below now (next_deadline now ds)) ds ≡ true
next-below now [] = refl
next-below now (d ∷ ds) = by (nat_lt now d) refl (next_deadline now ds) (next-below now ds)
  where
    first : (o : Option ℕ) → below now (least d o) d ≡ true
    first None = or-on (not (nat_lt now d)) (le-leb d d (omega arith))
      where
        or-on : (b : Bool) {c : Bool} → c ≡ true → (b || c) ≡ true
        or-on true h = refl
        or-on false h = h
    first (Some n) = or-on (not (nat_lt now d)) (le-leb (min d n) d (omega arith))
      where
        or-on : (b : Bool) {c : Bool} → c ≡ true → (b || c) ≡ true
        or-on true h = refl
        or-on false h = h

    not-later : (o : Option ℕ) → nat_lt now d ≡ false → below now o d ≡ true
    not-later None h = ap not h
    not-later (Some n) h = ap (λ b. not b || nat_le n d) h

    by : (b : Bool) → nat_lt now d ≡ b → (o : Option ℕ) → list_all (below now o) ds ≡ true → list_all (below now (if b then least d o else o)) (d ∷ ds) ≡ true
    by true e o h = and_from (below now (least d o) d) (list_all (below now (least d o)) ds) (first o) (all-below now d o ds h)
    by false e o h = and_from (below now o d) (list_all (below now o) ds) (not-later o e) h

-- where no mark is due, those that weren't given are behind now
ticked-ahead : (now n : ℕ) (ms : List Marked) → AreSettled ms → first_due now ms ≡ None → list_all (below now (Some n)) (deadlines ms) ≡ true → AreAhead n ms
ticked-ahead now n [] settled none below_all = refl
ticked-ahead now n (x ∷ ms) settled none below_all =
    by (is_due now x) refl none (λ e. ticked-ahead now n ms rest_settled.1 e parts.1)
  where
    rest_settled : (x.settled ≡ true) × AreSettled ms
    rest_settled = and_parts x.settled (list_all (λ (m : Marked). m.settled) ms) settled

    parts : (below now (Some n) x.deadline ≡ true) × (list_all (below now (Some n)) (deadlines ms) ≡ true)
    parts = and_parts (below now (Some n) x.deadline) (list_all (below now (Some n)) (deadlines ms)) below_all

    ahead : (given settled : Bool) → x.given ≡ given → settled ≡ true → (nat_le x.deadline now && settled && not given) ≡ false → (given || nat_le n x.deadline) ≡ true
    ahead true settled g s off = refl
    ahead false true g s off = late (nat_le x.deadline now) refl off
      where
        late : (b : Bool) → nat_le x.deadline now ≡ b → (b && true && true) ≡ false → nat_le n x.deadline ≡ true
        late true e k = absurd (true≢false k)
        late false e k =
            let above = leb-false x.deadline now e in
            sym (ap (λ b. not b || nat_le n x.deadline) (lt-ltb now x.deadline (omega (arith, above)))) ∙ parts.0
    ahead false false g s off = absurd (false≢true s)

    by : (b : Bool) → is_due now x ≡ b → (if b then Some x else first_due now ms) ≡ None → (first_due now ms ≡ None → AreAhead n ms) → AreAhead n (x ∷ ms)
    by true due e more = absurd (true≢false (ap is_some e))
    by false due e more = and_from (is_ahead n x) (list_all (is_ahead n) ms) (ahead x.given x.settled refl rest_settled.0 due) (more e)

module _ (f : Fine) (m : State) (e : FineStep) (law : Lawful f m e) (chosen : IsChosen f e) (settled : (f.processors e.cpu).todo ≡ [] → AreSettled (clock f).marks) (was : IsAhead (clock f) (f.processors e.cpu).todo) where
  open around f e use {later, processor as p, now}

  abbrev Ahead : Clock → Type 0
  Ahead c = AreAhead c.now c.marks

  by-clock : (c : Clock) → clock later ≡ c → Ahead c → Ahead (clock later)
  by-clock c is h = subst (λ (z : Clock). AreAhead z.now z.marks) (sym is) h

  -- the mark that is armed
  armed-ahead : (act : Act) (deadline : ℕ) → act ≡ Act.Arm deadline → (said : e.act ≡ by_me f.image p act) → e.site ≡ Site.clock → Ahead (clock later)
  armed-ahead act deadline same said site =
      by-clock _ (clock-later f m e law site (by_me f.image p (Act.Arm deadline)) said_arm)
      (all-armed (is_ahead (clock f).now) (clock f).marks (record { deadline = deadline; mark = mark_in e.moved; settled = false; given = false }) was.marks
      (le-leb (clock f).now deadline (omega (arith, is))))
    where
      said_arm : e.act ≡ by_me f.image p (Act.Arm deadline)
      said_arm = said ∙ ap (by_me f.image p) same

      is : (clock f).now + ticks_in e.moved ≡ deadline
      is = ap deadline_of_act (clock-said f m e law site (by_me f.image p (Act.Arm deadline)) said_arm)
        where
          deadline_of_act : FineAct → ℕ
          deadline_of_act act = deadline_in (act_in act)

  pub marks-ahead : Ahead (clock later)
  marks-ahead = by p.todo refl
    where
      idle : p.todo ≡ [] → IdleStep f p e → Ahead (clock later)
      idle at (turns site said ready moved) = by-clock (clock f) (clock-else f m e law (ap (λ i. same_site i Site.clock) site)) was.marks
      idle at (gives x site said due moved) =
          by-clock _ (clock-later f m e law site (FineAct.Unseen Unseen.Due) said) (given-ahead (clock f).now (clock f).marks was.marks)
      idle at (ticks n site said next moved) =
          by-clock _ (clock-later f m e law site (by_actor f.image p (Act.Tick n)) said)
          (ticked-ahead (clock f).now n (clock f).marks (settled at) (chosen.tick (ap is_tick said)).1
          (subst (λ o. list_all (below (clock f).now o) (deadlines (clock f).marks) ≡ true) next (next-below (clock f).now (deadlines (clock f).marks))))

      arms : (q : Pending) (rest : Steps) (todo : Todos) → p.todo ≡ Todo.show q rest ∷ todo → is_arm q ≡ true → Ahead (clock later)
      arms (Pending.Arm n) rest todo at on =
          armed-ahead (Act.Arm (deadline_in (act_in e.act))) (deadline_in (act_in e.act)) refl (made-says f m e law (Todo.show (Pending.Arm n) rest ∷ todo) at) (made-at f m e law (Todo.show (Pending.Arm n) rest ∷ todo) at)
      arms (Pending.ArmTimer n) rest todo at on =
          armed-ahead (Act.Arm (deadline_in (act_in e.act))) (deadline_in (act_in e.act)) refl (made-says f m e law (Todo.show (Pending.ArmTimer n) rest ∷ todo) at) (made-at f m e law (Todo.show (Pending.ArmTimer n) rest ∷ todo) at)
      arms q rest todo at on = absurd (false≢true on)

      shows : (q : Pending) (rest : Steps) (todo : Todos) → p.todo ≡ Todo.show q rest ∷ todo → (b : Bool) → is_arm q ≡ b → Ahead (clock later)
      shows q rest todo at true on = arms q rest todo at on
      shows q rest todo at false off = by-clock (clock f) (clock-same f m e law (Todo.show q rest) todo at (untimed f m e law q rest off)) was.marks

      by : (todo : Todos) → p.todo ≡ todo → Ahead (clock later)
      by [] at = idle at (idle-step f m law.rel p e law.by.may law.taken at)
      by (Todo.show q rest ∷ todo) at = shows q rest todo at (is_arm q) refl
      by (Todo.settle deadline mark ∷ todo) at =
          by-clock _ (clock-later f m e law (made-at f m e law (Todo.settle deadline mark ∷ todo) at) (FineAct.Unseen Unseen.Settle) (made-says f m e law (Todo.settle deadline mark ∷ todo) at))
          (settled-ahead (clock f).now (due_in e.moved) (mark_in e.moved) (clock f).marks was.marks)
      by (q ∷ todo) at = by-clock (clock f) (clock-same f m e law q todo at refl) was.marks

  -- A mark in the hand was given now.

  tail-none : (d : ℕ) (mark : Mark) (q : Todo) (todo : Todos) → p.todo ≡ q ∷ todo → (n : ℕ) → counted (handles d mark) todo ≡ n → n ≡ 0
  tail-none d mark q todo at zero is = refl
  tail-none d mark q todo at (suc n) is =
      let k = law.rel.processors e.cpu law.by.named in
      let paid = handle-paid f m e law d mark todo (subst (AreFramed f.image) at k.frames).1 (omega (arith, is)) in
      let timed : times p.todo ≡ true = ap times at ∙ elim (is_paid q) as (λ b. (b || times todo) ≡ true) [ true ↦ refl | false ↦ paid ] in
      let none = hand-tail f m e law d mark q todo (subst IsHand at (k.timer.hand timed)) in
      absurd (omega (arith, is, none))

  hand-ahead : (d : ℕ) (mark : Mark) (todo : Todos) → now.todo ≡ Todo.handle d mark ∷ todo → (clock later).now ≤ d
  hand-ahead d mark todo at = by p.todo refl
    where
      some : 0 < counted (handles d mark) now.todo
      some =
          let one : counted (handles d mark) now.todo ≡ counted (handles d mark) todo + 1 =
          ap (counted (handles d mark)) at ∙ ap (λ b. if b then counted (handles d mark) todo + 1 else counted (handles d mark) todo) (and_from (d == d) (same_mark mark mark) (eq-eqb d d refl) (same-itself mark)) in
          omega (arith, one)

      taken : p.todo ≡ [] → (clock later).now ≤ d
      taken idle = which (idle-step f m law.rel p e law.by.may law.taken idle)
        where
          counts : (moved : Exchange) → e.moved ≡ moved → counted (handles d mark) now.todo ≡ in_hand f.image (handles d mark) (handles-of d mark) moved
          counts moved given =
              taken-count f.image (handles d mark) (handles-of d mark) p e idle (takes-free f.image (handles d mark) (handles-of d mark) (λ deadline other. refl) e.moved)
              ∙ ap (in_hand f.image (handles d mark) (handles-of d mark)) given

          none : (moved : Exchange) → e.moved ≡ moved → in_hand f.image (handles d mark) (handles-of d mark) moved ≡ 0 → (clock later).now ≤ d
          none moved given nil = let is = counts moved given in absurd (omega (arith, is, nil, some))

          same : (x : Marked) → (b : Bool) → (x.deadline == d && same_mark x.mark mark) ≡ b → e.moved ≡ Exchange.mark x.deadline x.mark → first_due (clock f).now (clock f).marks ≡ Some x
              → clock later ≡ record (clock f) { marks = give_first (clock f).now (clock f).marks } → (clock later).now ≤ d
          same x true is given due later_is =
              let parts = and_parts (x.deadline == d) (same_mark x.mark mark) is in
              let at = eqb-true x.deadline d parts.0 in
              let ahead = due-ahead (clock f).now (clock f).marks x was.marks due in
              let stays = ap (λ (c : Clock). c.now) later_is in
              omega (arith, at, ahead, stays)
          same x false is given due later_is = none (Exchange.mark x.deadline x.mark) given (ap (λ b. if b then 0 + 1 else 0) is)

          which : IdleStep f p e → (clock later).now ≤ d
          which (turns site said ready moved) = by (scheduler f).ready ready moved
            where
              by : (list : List ℕ) → IsTrue (has_ready (scheduler f) list) → first_ready (scheduler f) list ≡ e.moved → (clock later).now ≤ d
              by [] has moved = absurd (false≢true has)
              by (t ∷ list) has moved = none (first_ready (scheduler f) (t ∷ list)) (sym moved) refl
          which (gives x site said due moved) =
              same x (x.deadline == d && same_mark x.mark mark) refl moved due (clock-later f m e law site (FineAct.Unseen Unseen.Due) said)
          which (ticks n site said next moved) = none Exchange.nothing moved refl

      by : (list : Todos) → p.todo ≡ list → (clock later).now ≤ d
      by [] idle = taken idle
      by (q ∷ list) there =
          let same = next-count f.image (handles d mark) (handles-of d mark) list p e q there ((is-behind f m e law).frame q list there) (reads-last f m e law q list there) (λ alone. inr (λ deadline other. refl)) in
          let none = tail-none d mark q list there (counted (handles d mark) list) refl in
          absurd (omega (arith, same, none, some))

  pub ahead-next : IsAhead (clock later) now.todo
  ahead-next = record { marks = marks-ahead; hand = hand-ahead }
