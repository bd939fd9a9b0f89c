-- The marks of the clock after every lawful step: each that isn't settled is to be settled by a processor, and one that was given, or that is in a hand, is due.
use Rattle.um_refinement.proofs.Words.{zero, suc, ◌||◌, Answer, IsOffered, thread_in, waits, and_from, first_ready, has_ready, nat_tests, same-sound, if◌then◌else◌, ◌≡◌, inl, inr, ℕ, ◌+◌, ◌<◌, ◌≤◌, Bool, true, false, cond, List, [], ◌∷◌, Option, Some, None, refl, sym, ap, ◌∙◌, subst, arith, IsTrue, ◌==◌, ◌&&◌, eq-eqb, eqb-true, list_all, and_parts, false≢true, true≢false, ltb-true, leb-true, unwrap_or, Act, Ask, ROWS, Pending, Steps, State, FineAct, Unseen, to_thread, act_in, is_word_read, Context, after_show, after_take, continues, answer_in, filled_up, goes_on_by, p_next, turn, refilled_by, row_named, next_steps, Todo, Todos, Processor, Exchange, FineStep, Site, Fine, Fits, AreFramed, Behind, behind_shown, counted, one_if, over_processors, scheduler, same_site, is_empty}
use Rattle.um_words.specs.declared.fine.Mark.{Mark}
use Rattle.um_fine.specs.Answers.{deadline_in, due_in, is_killed, mark_in}
use Rattle.um_fine.specs.Asks.{by_actor}
use Rattle.um_fine.specs.Clock.{Clock, Marked, clock_after, clock_says, first_due, later as next_time, same_mark, settle_first}
use Rattle.um_fine.specs.Follows.{rereads}
use Rattle.um_fine.specs.Places.{armed_for, is_paid, is_timer_start, mark_for, put_away}
use Rattle.um_machine.specs.Order.{to_deadline, to_row}
use Rattle.um_refinement.specs.Fine.{clock}
use Rattle.um_refinement.specs.Offers.{IsNotedBy}
use Rattle.um_refinement.specs.Lists.{is_arm, times}
use Rattle.um_refinement.specs.Stops.{is_waiting_site}
use Rattle.um_refinement.specs.Timing.{IsHand, IsPaying, MarksAre, armed_next, handles, is_placed, is_sound, open_marks, settles}
use Rattle.um_refinement.proofs.ArmSteps.{Acts, StartsTimer, Timed, Waiting, waiting-acts}
use Rattle.um_refinement.proofs.ArmsGone.{IsNone, offered-stands}
use Rattle.um_refinement.proofs.ArmsKnown.{AreTimed, Stands, armed, timer-acts, timer-armed}
use Rattle.um_refinement.proofs.ClockSteps.{clock-else, clock-later, clock-said, is_timing, off-clock}
use Rattle.um_refinement.proofs.Erased.{around, later}
use Rattle.um_refinement.proofs.Kept.{IdleStep, gives, idle-step, ticks as time_goes, turns}
use Rattle.um_refinement.proofs.Leaves.{Lawful, Leaves}
use Rattle.um_refinement.proofs.ListGrips.{next-context}
use Rattle.um_refinement.proofs.ListMarks.{TakesCalm, handles-of, in_hand, next-count, next-made, next-one, settles-of, skips, taken-count, takes-free}
use Rattle.um_refinement.proofs.MarkFacts.{all-armed, all-given, all-settled, due-among, due-parts, first-due, next-late, open-armed, open-given, open-settled, same-itself, same-placed, sound-given, sound-later, sound-settled}
use Rattle.um_refinement.proofs.MemorySteps.{part-total}
use Rattle.um_refinement.proofs.Offered.{own-unless, runs-first}
use Rattle.um_refinement.proofs.ResumeSteps.{TellsWaiters}
use Rattle.um_refinement.proofs.RowsPart.{named-below}
use Rattle.um_refinement.proofs.SchedulerSteps.{made-at, made-moves, made-says}
use Rattle.um_refinement.proofs.StepReads.{is-behind, is-placed, reads-last}
use Rattle.um_refinement.proofs.StepsLeft.{offered-awake, offered-on}
use Rattle.um_refinement.proofs.Sums.{over-changed}
use Rattle.um_refinement.proofs.UnarmedPart.{arms_first, calm-now, takes-none}

-- Time goes on.

module _ (f : Fine) (m : State) (e : FineStep) (law : Lawful f m e) where
  open around f e use {later, processor as p, now}

  some-number : {a b : ℕ} → Some a ≡ Some b → a ≡ b
  some-number {a} h = ap (λ (o : Option ℕ). unwrap_or o a) h

  late-or-now : (o : Option ℕ) (c : Clock) → next_time c ≡ o → c.now ≤ unwrap_or o c.now
  late-or-now None c at = omega arith
  late-or-now (Some n) c at = let l = next-late c.now _ n at in omega (arith, l)

  abbrev now_in_act : FineAct → ℕ → ℕ
  now_in_act (FineAct.Shown event more) d = tick_or event.act d
    where
      tick_or : Act → ℕ → ℕ
      tick_or (Act.Tick n) d = n
      tick_or act d = d
  now_in_act (FineAct.Unseen u) d = d

  -- the clock never goes back
  after-late : (c : Clock) (act : FineAct) (moved : Exchange) → clock_says c moved act ≡ act → c.now ≤ (clock_after c act moved).now
  after-late c (FineAct.Shown event more) moved said = by event.act (ap (λ a. now_in_act a c.now) said)
    where
      by : (act : Act) → now_in_act (clock_says c moved (FineAct.Shown (record event { act = act }) more)) c.now ≡ now_in_act (FineAct.Shown (record event { act = act }) more) c.now
          → c.now ≤ (clock_after c (FineAct.Shown (record event { act = act }) more) moved).now
      by (Act.Tick n) said = let l = late-or-now (next_time c) c refl in omega (arith, l, said)
      by act said = omega arith
  after-late c (FineAct.Unseen Unseen.Settle) moved said = omega arith
  after-late c (FineAct.Unseen Unseen.Due) moved said = omega arith
  after-late c (FineAct.Unseen u) moved said = omega arith

  pub time-goes : (clock f).now ≤ (clock later).now
  time-goes = by (same_site e.site Site.clock) refl
    where
      by : (b : Bool) → same_site e.site Site.clock ≡ b → (clock f).now ≤ (clock later).now
      by true q =
          let site = same-sound e.site Site.clock q in
          let now = ap (λ (c : Clock). c.now) (clock-later f m e law site e.act refl) in
          let late = after-late (clock f) e.act e.moved (clock-said f m e law site e.act refl) in
          omega (arith, now, late)
      by false q = let now = ap (λ (c : Clock). c.now) (clock-else f m e law q) in omega (arith, now)

  -- the clock where a step on a list isn't made there
  pub clock-same : (q : Todo) (todo : Todos) → p.todo ≡ q ∷ todo → is_timing q ≡ false → clock later ≡ clock f
  clock-same q todo at off = clock-else f m e law (ap (λ i. same_site i Site.clock) (made-at f m e law (q ∷ todo) at) ∙ off-clock f.image p q todo off (is-placed f m e law q todo at))

  -- What the clock's marks keep.

  abbrev IsKept : List Marked → ℕ → Type 0
  IsKept marks now = (list_all (is_sound now) marks ≡ true) × (list_all (λ (x : Marked). is_placed x.mark) marks ≡ true)

  was-kept : IsKept (clock f).marks (clock f).now
  was-kept = (law.rel.marks.given, law.rel.marks.placed)

  kept-by : (c : Clock) → clock later ≡ c → IsKept c.marks c.now → IsKept (clock later).marks (clock later).now
  kept-by c is h = subst (λ (c : Clock). IsKept c.marks c.now) (sym is) h

  pub object-waits : (x : ℕ) → x < ROWS → is_waiting_site (168 + x) ≡ true
  object-waits x few = grind (arith, nat_tests, few)

  -- the mark that is armed is for a cell in which threads wait, or for a timer
  mark-placed : (t : ℕ) (rest : Steps) → is_placed (mark_for f.image t rest) ≡ true
  mark-placed t (Pending.Work a ask ∷ rest) =
      let few = named-below f m e law a in
      elim (is_timer_start ask) as (λ b. is_placed (if b then Mark.Timer (to_row (row_named f.image a)) else Mark.Thread (to_thread t) (168 + row_named f.image a)) ≡ true) [
        | true ↦ few
        | false ↦ object-waits (row_named f.image a) (ltb-true (row_named f.image a) ROWS few)
      ]
  mark-placed t (Pending.Join who timeout ∷ rest) = refl
  mark-placed t rest = refl

  arms-kept : (q : Pending) (rest : Steps) (todo : Todos) → p.todo ≡ Todo.show q rest ∷ todo → is_arm q ≡ true → IsKept (clock later).marks (clock later).now
  arms-kept (Pending.Arm ticks) rest todo at on =
      let moved : mark_in e.moved ≡ mark_for f.image p.context.thread rest = ap mark_in (made-moves f m e law (Todo.show (Pending.Arm ticks) rest ∷ todo) at) in
      kept-by _ (clock-later f m e law (made-at f m e law (Todo.show (Pending.Arm ticks) rest ∷ todo) at) _ (made-says f m e law (Todo.show (Pending.Arm ticks) rest ∷ todo) at))
      (all-armed (is_sound (clock f).now) (clock f).marks _ was-kept.0 refl, all-armed (λ (x : Marked). is_placed x.mark) (clock f).marks _ was-kept.1 (ap is_placed moved ∙ mark-placed p.context.thread rest))
  arms-kept (Pending.ArmTimer ticks) rest todo at on =
      let moved : mark_in e.moved ≡ mark_for f.image p.context.thread rest = ap mark_in (made-moves f m e law (Todo.show (Pending.ArmTimer ticks) rest ∷ todo) at) in
      kept-by _ (clock-later f m e law (made-at f m e law (Todo.show (Pending.ArmTimer ticks) rest ∷ todo) at) _ (made-says f m e law (Todo.show (Pending.ArmTimer ticks) rest ∷ todo) at))
      (all-armed (is_sound (clock f).now) (clock f).marks _ was-kept.0 refl, all-armed (λ (x : Marked). is_placed x.mark) (clock f).marks _ was-kept.1 (ap is_placed moved ∙ mark-placed p.context.thread rest))
  arms-kept q rest todo at on = absurd (false≢true on)

  pub untimed : (q : Pending) (rest : Steps) → is_arm q ≡ false → is_timing (Todo.show q rest) ≡ false
  untimed (Pending.Arm ticks) rest off = off
  untimed (Pending.ArmTimer ticks) rest off = off
  untimed q rest off = refl

  marks-kept : IsKept (clock later).marks (clock later).now
  marks-kept = by p.todo refl
    where
      idle : IdleStep f p e → IsKept (clock later).marks (clock later).now
      idle (turns site said ready moved) = kept-by (clock f) (clock-else f m e law (ap (λ i. same_site i Site.clock) site)) was-kept
      idle (gives x site said due moved) =
          kept-by _ (clock-later f m e law site (FineAct.Unseen Unseen.Due) said)
          (sound-given (clock f).now (clock f).marks was-kept.0, all-given is_placed (clock f).now (clock f).marks was-kept.1)
      idle (time_goes n site said next moved) =
          let late = next-late (clock f).now _ n next in
          kept-by _ (clock-later f m e law site (by_actor f.image p (Act.Tick n)) said) (sound-later (clock f).now n (clock f).marks (omega (arith, late)) was-kept.0, was-kept.1)

      shows : (q : Pending) (rest : Steps) (todo : Todos) → p.todo ≡ Todo.show q rest ∷ todo → (b : Bool) → is_arm q ≡ b → IsKept (clock later).marks (clock later).now
      shows q rest todo at true on = arms-kept q rest todo at on
      shows q rest todo at false off = kept-by (clock f) (clock-same (Todo.show q rest) todo at (untimed q rest off)) was-kept

      by : (todo : Todos) → p.todo ≡ todo → IsKept (clock later).marks (clock later).now
      by [] at = idle (idle-step f m law.rel p e law.by.may law.taken at)
      by (Todo.show q rest ∷ todo) at = shows q rest todo at (is_arm q) refl
      by (Todo.settle deadline mark ∷ todo) at =
          kept-by _ (clock-later f m e law (made-at f m e law (Todo.settle deadline mark ∷ todo) at) (FineAct.Unseen Unseen.Settle) (made-says f m e law (Todo.settle deadline mark ∷ todo) at))
          (sound-settled (due_in e.moved) (clock f).now (mark_in e.moved) (clock f).marks was-kept.0, all-settled is_placed (due_in e.moved) (mark_in e.moved) (clock f).marks was-kept.1)
      by (q ∷ todo) at = kept-by (clock f) (clock-same q todo at refl) was-kept

-- Marks that aren't settled.

module _ (f : Fine) (m : State) (e : FineStep) (law : Lawful f m e) (tells : TellsWaiters m) (timed : AreTimed m) (s : State) (leaves : Leaves f m e s) where
  open around f e use {later, processor as p, now}

  module _ (d : ℕ) (mark : Mark) where
    test : Todo → Bool
    test = settles d mark

    abbrev Count : Todos → ℕ
    Count todo = counted (settles d mark) todo

    abbrev Goal : Type 0
    Goal = open_marks d mark (clock later).marks ≡ over_processors later (λ z. Count z.todo)

    settles-by : (open_then count_then : ℕ) → open_marks d mark (clock later).marks ≡ open_then → Count now.todo ≡ count_then
        → open_then + Count p.todo ≡ open_marks d mark (clock f).marks + count_then → Goal
    settles-by o c opens counts sum =
        let all = over-changed f e (λ z. Count z.todo) law.by.named in
        let was = law.rel.marks.unsettled d mark in
        omega (arith, all, was, opens, counts, sum)

    framed : (q : Todo) (todo : Todos) → p.todo ≡ q ∷ todo → Behind f.image q todo
    framed = (is-behind f m e law).frame

    -- behind a step that arms none
    count-now : (q : Todo) (todo : Todos) → p.todo ≡ q ∷ todo → arms_first q ≡ false → Count now.todo ≡ Count todo
    count-now q todo at off = next-count f.image (settles d mark) (settles-of d mark) todo p e q at (framed q todo at) (reads-last f m e law q todo at) (λ alone. inl (calm alone))
      where
        calm : todo ≡ [] → IsNone f.image (goes_on_by f.image p e (q ∷ todo)).context
        calm alone =
            subst (IsNone f.image) (next-context f.image p e ∙ ap (λ (z : Todos). (goes_on_by f.image p e z).context) at)
            (calm-now f m e law tells timed s leaves q (at ∙ ap (λ (z : Todos). q ∷ z) alone) off)

    opens-same : (q : Todo) (todo : Todos) → p.todo ≡ q ∷ todo → is_timing q ≡ false → open_marks d mark (clock later).marks ≡ open_marks d mark (clock f).marks
    opens-same q todo at off = ap (λ (c : Clock). open_marks d mark c.marks) (clock-same f m e law q todo at off)

    same : (q : Todo) (todo : Todos) → p.todo ≡ q ∷ todo → is_timing q ≡ false → arms_first q ≡ false → Count (q ∷ todo) ≡ Count todo → Goal
    same q todo at off calm skipped =
        let before = ap Count at in
        settles-by (open_marks d mark (clock f).marks) (Count todo) (opens-same q todo at off) (count-now q todo at calm) (omega (arith, before, skipped))

    -- nothing is on its list
    taken-context : (c : Context) → (after_take f.image p (Exchange.thread c None)).context ≡ c
    taken-context c =
        elim (is_empty c.pending) as (λ b. (if b then record p { context = c; todo = turn f.image c } else refilled_by f.image (record p { context = c }) []).context ≡ c) [ true ↦ refl | false ↦ refl ]

    takes : p.todo ≡ [] → Goal
    takes at = by (idle-step f m law.rel p e law.by.may law.taken at)
      where
        calmly : (moved : Exchange) → IsNone f.image (after_take f.image p moved).context → TakesCalm f.image (settles d mark) (settles-of d mark) moved
        calmly (Exchange.thread c None) none = inl (subst (IsNone f.image) (taken-context c) none)
        calmly (Exchange.thread c (Some told)) none = inl none
        calmly moved none = tt

        count-taken : (moved : Exchange) → e.moved ≡ moved → in_hand f.image (settles d mark) (settles-of d mark) moved ≡ 0 → Count now.todo ≡ 0
        count-taken moved given none =
            taken-count f.image (settles d mark) (settles-of d mark) p e at (calmly e.moved (takes-none f m e law tells timed at))
            ∙ (ap (in_hand f.image (settles d mark) (settles-of d mark)) given ∙ none)

        before : Count p.todo ≡ 0
        before = ap Count at

        by : IdleStep f p e → Goal
        by (turns site said ready moved) = which (scheduler f).ready ready moved
          where
            which : (list : List ℕ) → IsTrue (has_ready (scheduler f) list) → first_ready (scheduler f) list ≡ e.moved → Goal
            which [] has moved = absurd (false≢true has)
            which (t ∷ list) has moved =
                settles-by (open_marks d mark (clock f).marks) 0 (ap (λ (c : Clock). open_marks d mark c.marks) (clock-else f m e law (ap (λ i. same_site i Site.clock) site)))
                (count-taken (first_ready (scheduler f) (t ∷ list)) (sym moved) refl) (omega (arith, before))
        by (gives x site said due moved) =
            settles-by (open_marks d mark (clock f).marks) 0
            (ap (λ (c : Clock). open_marks d mark c.marks) (clock-later f m e law site (FineAct.Unseen Unseen.Due) said) ∙ open-given (clock f).now d mark (clock f).marks)
            (count-taken (Exchange.mark x.deadline x.mark) moved refl) (omega (arith, before))
        by (time_goes n site said next moved) =
            settles-by (open_marks d mark (clock f).marks) 0 (ap (λ (c : Clock). open_marks d mark c.marks) (clock-later f m e law site (by_actor f.image p (Act.Tick n)) said))
            (count-taken Exchange.nothing moved refl) (omega (arith, before))

    -- a mark is settled
    settled : (deadline : ℕ) (other : Mark) (todo : Todos) → p.todo ≡ Todo.settle deadline other ∷ todo → Goal
    settled deadline other todo at =
        let head = Todo.settle deadline other in
        let moved = made-moves f m e law (head ∷ todo) at in
        let said = made-says f m e law (head ∷ todo) at in
        let so = one_if (deadline == d && same_mark other mark) in
        let here : counted (settles deadline other) p.todo ≡ counted (settles deadline other) todo + 1 =
        ap (counted (settles deadline other)) at
        ∙ ap (λ b. if b then counted (settles deadline other) todo + 1 else counted (settles deadline other) todo) (and_from (deadline == deadline) (same_mark other other) (eq-eqb deadline deadline refl) (same-itself other)) in
        let part = part-total (λ k. counted (settles deadline other) (f.processors k).todo) f.cpus e.cpu law.by.named in
        let was = law.rel.marks.unsettled deadline other in
        let some : 0 < open_marks deadline other (clock f).marks = omega (arith, here, part, was) in
        let opens : open_marks d mark (clock later).marks ≡ open_marks d mark (settle_first deadline other (clock f).marks) =
        ap (λ (c : Clock). open_marks d mark c.marks) (clock-later f m e law (made-at f m e law (head ∷ todo) at) (FineAct.Unseen Unseen.Settle) said)
        ∙ (λ i. open_marks d mark (settle_first (due_in (moved i)) (mark_in (moved i)) (clock f).marks)) in
        let less = open-settled deadline other d mark (clock f).marks some in
        let before : Count p.todo ≡ Count todo + so =
        ap Count at ∙ elim (deadline == d && same_mark other mark) as (λ b. (if b then Count todo + 1 else Count todo) ≡ Count todo + one_if b) [ true ↦ refl | false ↦ omega arith ] in
        settles-by (open_marks d mark (settle_first deadline other (clock f).marks)) (Count todo) opens (count-now head todo at refl) (omega (arith, less, before))

    by-todo : (todo : Todos) → p.todo ≡ todo → ((q : Pending) (rest : Steps) (todo : Todos) → p.todo ≡ Todo.show q rest ∷ todo → is_arm q ≡ true → Goal) → Goal
    by-todo [] at arms = takes at
    by-todo (Todo.show q rest ∷ todo) at arms = which (is_arm q) refl
      where
        which : (b : Bool) → is_arm q ≡ b → Goal
        which true on = arms q rest todo at on
        which false off =
            same (Todo.show q rest) todo at (untimed f m e law q rest off) off (skips f.image (settles d mark) (settles-of d mark) (Todo.show q rest) todo refl)
    by-todo (Todo.settle deadline other ∷ todo) at arms = settled deadline other todo at
    by-todo (q ∷ todo) at arms = same q todo at refl refl refl

  -- A deadline is armed.

  module _ (q : Pending) (rest : Steps) (todo : Todos) (at : p.todo ≡ Todo.show q rest ∷ todo) where
    fits : IsOffered f.image p.context q rest × (todo ≡ behind_shown f.image p.context q) × IsNotedBy f.image p.context q
    fits = subst (Fits f.image p.context) at (law.rel.processors e.cpu law.by.named).list.fits

    own-stands : waits (q ∷ rest) ≡ false → Stands p.context.until q rest
    own-stands awake =
        let of = (law.rel.contexts.running e.cpu law.by.named (runs-first law.rel law.by.named (Todo.show q rest) todo at (λ hand. hand))).of (offered-on f.image p.context q rest fits.0) in
        let same = own-unless of (offered-awake f.image p.context q rest fits.0 awake) in
        let here : Timed p.context.until p.context.pending =
        subst (λ (z : Option ℕ × Steps). Timed z.0 z.1) (λ i. ((sym same i).until, (sym same i).pending)) (timed p.context.thread) in
        offered-stands f.image p.context here q rest fits.0

    -- what is on the list then
    list-now : is_word_read e.act ≡ false → is_killed e.act ≡ false → (goes_on_by f.image p e (Todo.show q rest ∷ todo)) ≡ after_show f.image p e q rest todo
    list-now read killed = λ i. if read i then record p { todo = put_away (thread_in e.word).doomed } else after_show f.image p e (if killed i then Pending.Killed else q) rest todo

  waits-armed : (c : Context) (rest : Steps) (deadline : ℕ) → Waiting rest → c.until ≡ Some deadline → armed_next f.image c rest ≡ Some deadline
  waits-armed c (Pending.Work a ask ∷ rest) deadline h is = by ask h.0
    where
      by : (ask : Ask) → is_timer_start ask ≡ false → armed_for f.image c (Pending.Work a ask) ≡ Some deadline
      by (Ask.TimerStart d) off = absurd (true≢false off)
      by ask off = is
  waits-armed c (Pending.Join who timeout ∷ rest) deadline h is = is
  waits-armed c (Pending.FutexWait a value timeout ∷ rest) deadline h is = is
  waits-armed c steps deadline h is = absurd h

  starts-armed : (c : Context) (rest : Steps) (deadline : ℕ) → StartsTimer rest
      → (armed_next f.image c (to_deadline deadline rest) ≡ Some deadline) × (mark_for f.image c.thread (to_deadline deadline rest) ≡ mark_for f.image c.thread rest)
  starts-armed c (Pending.Work a (Ask.TimerStart before) ∷ rest) deadline h = (refl, refl)
  starts-armed c rest deadline h = absurd h

  no-reread : (answer : Answer) (todo : Todos) → rereads f.image answer None todo ≡ todo
  no-reread Answer.Wait todo = refl
  no-reread (Answer.Now reply) todo = refl

  module _ (d : ℕ) (mark : Mark) where
    abbrev so : ℕ → Mark → ℕ
    so deadline other = one_if (deadline == d && same_mark other mark)

    armed-by : (q : Pending) (rest : Steps) (todo : Todos) → p.todo ≡ Todo.show q rest ∷ todo → todo ≡ [] → (deadline : ℕ) (other : Mark)
        → open_marks d mark (clock later).marks ≡ open_marks d mark (clock f).marks + so deadline other
        → counted (settles d mark) now.todo ≡ so deadline other → Goal d mark
    armed-by q rest todo at alone deadline other opens counts =
        let before : counted (settles d mark) p.todo ≡ 0 = ap (counted (settles d mark)) (at ∙ ap (λ (z : Todos). Todo.show q rest ∷ z) alone) in
        settles-by d mark (open_marks d mark (clock f).marks + so deadline other) (so deadline other) opens counts (omega (arith, before))

    counts-by : (q : Pending) (rest : Steps) (todo : Todos) (at : p.todo ≡ Todo.show q rest ∷ todo) → todo ≡ [] → is_word_read e.act ≡ false → is_killed e.act ≡ false → (steps : Steps)
        → (after_show f.image p e q rest []).todo ≡ next_steps f.image (continues f.image p.context 0 q rest (act_in e.act) e.moved) steps
        → Acts steps → (deadline : ℕ) → armed_next f.image (continues f.image p.context 0 q rest (act_in e.act) e.moved) steps ≡ Some deadline
        → counted (settles d mark) now.todo ≡ so deadline (mark_for f.image (continues f.image p.context 0 q rest (act_in e.act) e.moved).thread steps)
    counts-by q rest todo at alone read killed steps expanded acts deadline armed =
        let c = continues f.image p.context 0 q rest (act_in e.act) e.moved in
        next-made f.image (settles d mark) (settles-of d mark) [] p e
        ∙ (ap (λ (z : Todos). counted (settles d mark) (goes_on_by f.image p e z).todo) at
        ∙ (ap (λ (r : Processor). counted (settles d mark) r.todo) (list-now q rest todo at read killed)
        ∙ (ap (λ (z : Todos). counted (settles d mark) (after_show f.image p e q rest z).todo) alone
        ∙ (ap (counted (settles d mark)) expanded ∙ next-one f.image (settles d mark) (settles-of d mark) c steps deadline acts armed))))

    arms : (q : Pending) (rest : Steps) (todo : Todos) → p.todo ≡ Todo.show q rest ∷ todo → is_arm q ≡ true → Goal d mark
    arms (Pending.Arm ticks) rest todo at on =
        let q = Pending.Arm ticks in
        let said = made-says f m e law (Todo.show q rest ∷ todo) at in
        let moved : mark_in e.moved ≡ mark_for f.image p.context.thread rest = ap mark_in (made-moves f m e law (Todo.show q rest ∷ todo) at) in
        let deadline = deadline_in (act_in e.act) in
        let c = continues f.image p.context 0 q rest (act_in e.act) e.moved in
        let waiting = armed p.context.until ticks rest (own-stands q rest todo at refl) in
        let opens = ap (λ (c : Clock). open_marks d mark c.marks) (clock-later f m e law (made-at f m e law (Todo.show q rest ∷ todo) at) _ said) ∙ open-armed d mark (clock f).marks _ in
        armed-by q rest todo at (fits q rest todo at).1 deadline (mark_for f.image p.context.thread rest)
        (opens ∙ ap (λ (k : Mark). open_marks d mark (clock f).marks + so deadline k) moved)
        (counts-by q rest todo at (fits q rest todo at).1 (ap is_word_read said) (ap is_killed said) rest
        (ap (filled_up f.image c) (no-reread (answer_in (act_in e.act)) [])) (waiting-acts rest waiting) deadline (waits-armed c rest deadline waiting refl))
    arms (Pending.ArmTimer ticks) rest todo at on =
        let q = Pending.ArmTimer ticks in
        let said = made-says f m e law (Todo.show q rest ∷ todo) at in
        let moved : mark_in e.moved ≡ mark_for f.image p.context.thread rest = ap mark_in (made-moves f m e law (Todo.show q rest ∷ todo) at) in
        let deadline = deadline_in (act_in e.act) in
        let c = continues f.image p.context 0 q rest (act_in e.act) e.moved in
        let starts = timer-armed p.context.until ticks rest (own-stands q rest todo at refl) in
        let opens = ap (λ (c : Clock). open_marks d mark c.marks) (clock-later f m e law (made-at f m e law (Todo.show q rest ∷ todo) at) _ said) ∙ open-armed d mark (clock f).marks _ in
        let there = starts-armed c rest deadline starts in
        armed-by q rest todo at (fits q rest todo at).1 deadline (mark_for f.image p.context.thread rest)
        (opens ∙ ap (λ (k : Mark). open_marks d mark (clock f).marks + so deadline k) moved)
        (counts-by q rest todo at (fits q rest todo at).1 (ap is_word_read said) (ap is_killed said) (to_deadline deadline rest)
        (ap (filled_up f.image c) (no-reread (answer_in (act_in e.act)) [])) (timer-acts p.context.until deadline rest starts) deadline there.0
        ∙ ap (so deadline) there.1)
    arms q rest todo at on = absurd (false≢true on)

    pub unsettled-part : Goal d mark
    unsettled-part = by-todo d mark p.todo refl arms

-- A mark in a hand is due.

module _ (f : Fine) (m : State) (e : FineStep) (law : Lawful f m e) where
  open around f e use {later, processor as p, now}

  -- a list with a mark to handle has it first, and then it is paid
  paying-none : (d : ℕ) (mark : Mark) (todo : Todos) → IsPaying todo → counted (handles d mark) todo ≡ 0
  paying-none d mark [] h = absurd h
  paying-none d mark (Todo.wake who told ∷ todo) h = paying-none d mark todo h
  paying-none d mark (Todo.paid ∷ todo) h = ap (counted (handles d mark)) h
  paying-none d mark (q ∷ todo) h = absurd h

  pub hand-tail : (d : ℕ) (mark : Mark) (q : Todo) (todo : Todos) → IsHand (q ∷ todo) → counted (handles d mark) todo ≡ 0
  hand-tail d mark (Todo.handle deadline other) todo h = ap (counted (handles d mark)) h
  hand-tail d mark (Todo.wake who told) todo h = paying-none d mark todo h
  hand-tail d mark Todo.paid todo h = ap (counted (handles d mark)) h
  hand-tail d mark q todo h = absurd h

  pub handle-paid : (d : ℕ) (mark : Mark) (todo : Todos) → AreFramed f.image todo → 0 < counted (handles d mark) todo → times todo ≡ true
  handle-paid d mark [] framed some = absurd (omega (arith, some))
  handle-paid d mark (Todo.handle deadline other ∷ todo) framed some = ap times framed.0
  handle-paid d mark (q ∷ todo) framed some =
      elim (is_paid q) as (λ b. (b || times todo) ≡ true) [ true ↦ refl | false ↦ handle-paid d mark todo framed.1 some ]

  -- so a list with anything in front of it has none
  tail-none : (d : ℕ) (mark : Mark) (q : Todo) (todo : Todos) → p.todo ≡ q ∷ todo → (n : ℕ) → counted (handles d mark) todo ≡ n → n ≡ 0
  tail-none d mark q todo at zero is = refl
  tail-none d mark q todo at (suc n) is =
      let k = law.rel.processors e.cpu law.by.named in
      let paid = handle-paid d mark todo (subst (AreFramed f.image) at k.frames).1 (omega (arith, is)) in
      let timed : times p.todo ≡ true = ap times at ∙ elim (is_paid q) as (λ b. (b || times todo) ≡ true) [ true ↦ refl | false ↦ paid ] in
      let none = hand-tail d mark q todo (subst IsHand at (k.timer.hand timed)) in
      absurd (omega (arith, is, none))

  abbrev IsDue : ℕ → Mark → Type 0
  IsDue d mark = (is_placed mark ≡ true) × (d ≤ (clock later).now)

  head-counts : (d : ℕ) (mark : Mark) (todo : Todos) → now.todo ≡ Todo.handle d mark ∷ todo → 0 < counted (handles d mark) now.todo
  head-counts d mark todo at =
      let one : counted (handles d mark) now.todo ≡ counted (handles d mark) todo + 1 =
      ap (counted (handles d mark)) at ∙ ap (λ b. if b then counted (handles d mark) todo + 1 else counted (handles d mark) todo) (and_from (d == d) (same_mark mark mark) (eq-eqb d d refl) (same-itself mark)) in
      omega (arith, one)

  hand-now : (d : ℕ) (mark : Mark) (todo : Todos) → now.todo ≡ Todo.handle d mark ∷ todo → IsDue d mark
  hand-now d mark todo at = by p.todo refl
    where
      some : 0 < counted (handles d mark) now.todo
      some = head-counts d mark todo at

      taken : p.todo ≡ [] → IsDue d mark
      taken idle = which (idle-step f m law.rel p e law.by.may law.taken idle)
        where
          counts : (moved : Exchange) → e.moved ≡ moved → counted (handles d mark) now.todo ≡ in_hand f.image (handles d mark) (handles-of d mark) moved
          counts moved given =
              taken-count f.image (handles d mark) (handles-of d mark) p e idle (takes-free f.image (handles d mark) (handles-of d mark) (λ deadline other. refl) e.moved)
              ∙ ap (in_hand f.image (handles d mark) (handles-of d mark)) given

          none : (moved : Exchange) → e.moved ≡ moved → in_hand f.image (handles d mark) (handles-of d mark) moved ≡ 0 → IsDue d mark
          none moved given nil = let is = counts moved given in absurd (omega (arith, is, nil, some))

          same : (x : Marked) → (b : Bool) → (x.deadline == d && same_mark x.mark mark) ≡ b → e.moved ≡ Exchange.mark x.deadline x.mark → first_due (clock f).now (clock f).marks ≡ Some x → IsDue d mark
          same x true is given due =
              let parts = and_parts (x.deadline == d) (same_mark x.mark mark) is in
              let at = eqb-true x.deadline d parts.0 in
              let come = leb-true x.deadline (clock f).now (due-parts (clock f).now x (first-due (clock f).now (clock f).marks x due)).0 in
              let late = time-goes f m e law in (
                sym (same-placed x.mark mark parts.1) ∙ due-among is_placed (clock f).now (clock f).marks x law.rel.marks.placed due,
                omega (arith, at, come, late),
              )
          same x false is given due = none (Exchange.mark x.deadline x.mark) given (ap (λ b. if b then 0 + 1 else 0) is)

          which : IdleStep f p e → IsDue d mark
          which (turns site said ready moved) = by (scheduler f).ready ready moved
            where
              by : (list : List ℕ) → IsTrue (has_ready (scheduler f) list) → first_ready (scheduler f) list ≡ e.moved → IsDue d mark
              by [] has moved = absurd (false≢true has)
              by (t ∷ list) has moved = none (first_ready (scheduler f) (t ∷ list)) (sym moved) refl
          which (gives x site said due moved) = same x (x.deadline == d && same_mark x.mark mark) refl moved due
          which (time_goes n site said next moved) = none Exchange.nothing moved refl

      by : (list : Todos) → p.todo ≡ list → IsDue d mark
      by [] idle = taken idle
      by (q ∷ list) there =
          let same = next-count f.image (handles d mark) (handles-of d mark) list p e q there ((is-behind f m e law).frame q list there) (reads-last f m e law q list there) (λ alone. inr (λ deadline other. refl)) in
          let none = tail-none d mark q list there (counted (handles d mark) list) refl in
          absurd (omega (arith, same, none, some))

  pub hands-part : (k d : ℕ) (mark : Mark) (todo : Todos) → k < f.cpus → (later.processors k).todo ≡ Todo.handle d mark ∷ todo → (d ≤ (clock later).now) × (is_placed mark ≡ true)
  hands-part k d mark todo l at = by (e.cpu == k) refl at
    where
      by : (b : Bool) → (e.cpu == k) ≡ b → (cond b (p_next f.image (f.processors k) e) (f.processors k)).todo ≡ Todo.handle d mark ∷ todo → (d ≤ (clock later).now) × (is_placed mark ≡ true)
      by true q at =
          let due = hand-now d mark todo (subst (λ j. (p_next f.image (f.processors j) e).todo ≡ Todo.handle d mark ∷ todo) (sym (eqb-true e.cpu k q)) at) in (due.1, due.0)
      by false q at =
          let was = law.rel.marks.hands k d mark todo l at in
          let come = was.0 in
          let late = time-goes f m e law in (omega (arith, come, late), was.1)

-- All of it.

pub marks-part : (f : Fine) (m : State) (e : FineStep) (law : Lawful f m e) → TellsWaiters m → AreTimed m → (s : State) → Leaves f m e s → MarksAre (later f e)
marks-part f m e law tells timed s leaves =
    let kept = marks-kept f m e law in
    record {
      unsettled = λ d mark. unsettled-part f m e law tells timed s leaves d mark;
      given = kept.0;
      hands = hands-part f m e law;
      placed = kept.1;
    }
