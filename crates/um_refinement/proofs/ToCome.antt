-- A mark that is still to be handled is so after a step, unless that step handles it: the clock that gives it gives it to a processor's hand.
use Rattle.um_refinement.proofs.Words.{Site, ◌≡◌, ◌⊎◌, inl, inr, ℕ, ◌+◌, ◌<◌, Bool, true, false, cond, List, [], ◌∷◌, ◌++◌, Option, Some, None, refl, sym, ap, ◌∙◌, subst, arith, ◌==◌, ◌&&◌, ◌||◌, not, if◌then◌else◌, list_all, list_any, nat_le, eqb-true, eq-eqb, and_parts, false≢true, Act, Pending, Steps, State, FineAct, Unseen, Exchange, FineStep, Fine, Todo, Todos, p_next, counted, same_site}
use Rattle.um_words.specs.declared.fine.Mark.{Mark}
use Rattle.um_fine.specs.Asks.{by_actor}
use Rattle.um_fine.specs.Clock.{Clock, Marked, first_due, give_first, is_due, is_unsettled, same_mark, settle_first}
use Rattle.um_refinement.specs.Fine.{clock}
use Rattle.um_refinement.specs.Lists.{is_arm, times}
use Rattle.um_refinement.specs.Timing.{IsHand, IsToCome, handles, held, is_left, is_open, is_sound, open_marks, waits}
use Rattle.um_refinement.proofs.ClockSteps.{clock-else, clock-later}
use Rattle.um_refinement.proofs.Erased.{around}
use Rattle.um_refinement.proofs.Kept.{IdleStep, gives, idle-step, ticks as time_goes, turns}
use Rattle.um_refinement.proofs.Leaves.{Lawful}
use Rattle.um_refinement.proofs.ListMarks.{handles-of, in_hand, taken-count, takes-free}
use Rattle.um_refinement.proofs.MarksPart.{clock-same, hand-tail, handle-paid, untimed}
use Rattle.um_refinement.proofs.SchedulerSteps.{made-at, made-says}

-- the same marks are equal
pub same-is : (a b : Mark) → same_mark a b ≡ true → a ≡ b
same-is (Mark.Thread who site) (Mark.Thread other there) h =
    let parts = and_parts (who.0 == other.0) (site == there) h in
    let one = eqb-true who.0 other.0 parts.0 in
    let two = eqb-true site there parts.1 in λ i. Mark.Thread (record { 0 = one i }) (two i)
same-is (Mark.Thread who site) (Mark.Timer y) h = absurd (false≢true h)
same-is (Mark.Timer x) (Mark.Thread other there) h = absurd (false≢true h)
same-is (Mark.Timer x) (Mark.Timer y) h =
    let one = eqb-true x.0 y.0 (and_parts true (x.0 == y.0) (and_parts (x.0 == y.0) true h).0).1 in λ i. Mark.Timer (record { 0 = one i })

or-either : (a b : Bool) → (a || b) ≡ true → (a ≡ true) ⊎ (b ≡ true)
or-either true b h = inl refl
or-either false b h = inr h

or-more : (a b : Bool) → b ≡ true → (a || b) ≡ true
or-more true b h = refl
or-more false b h = h

pub any-counted : (test : Todo → Bool) (todo : Todos) → list_any test todo ≡ true → 0 < counted test todo
any-counted test [] h = absurd (false≢true h)
any-counted test (q ∷ todo) h = by (test q) h (any-counted test todo)
  where
    by : (b : Bool) → (b || list_any test todo) ≡ true → (list_any test todo ≡ true → 0 < counted test todo) → 0 < (if b then counted test todo + 1 else counted test todo)
    by true h more = omega arith
    by false h more = more h

counted-any : (test : Todo → Bool) (todo : Todos) → 0 < counted test todo → list_any test todo ≡ true
counted-any test [] h = absurd (omega (arith, h))
counted-any test (q ∷ todo) h = by (test q) h (counted-any test todo)
  where
    by : (b : Bool) → 0 < (if b then counted test todo + 1 else counted test todo) → (0 < counted test todo → list_any test todo ≡ true) → (b || list_any test todo) ≡ true
    by true h more = refl
    by false h more = more h

assoc : (a b c : Bool) → (a && b && c) ≡ true → (a && (b && c)) ≡ true
assoc true true c h = h
assoc true false c h = absurd (false≢true h)
assoc false b c h = absurd (false≢true h)

-- A mark that isn't settled wasn't given.

sound-left : (deadline now : ℕ) (mark : Mark) (x : Marked) → is_sound now x ≡ true → is_open deadline mark x ≡ true → is_left deadline mark x ≡ true
sound-left deadline now mark x sound on = by x.given x.settled sound on
  where
    by : (given settled : Bool) → (not given || (settled && nat_le x.deadline now)) ≡ true → (not settled && x.deadline == deadline && same_mark x.mark mark) ≡ true → (not given && x.deadline == deadline && same_mark x.mark mark) ≡ true
    by false false sound on = on
    by false true sound on = absurd (false≢true on)
    by true false sound on = absurd (false≢true sound)
    by true true sound on = absurd (false≢true on)

pub some-left : (deadline now : ℕ) (mark : Mark) (ms : List Marked) → list_all (is_sound now) ms ≡ true → 0 < open_marks deadline mark ms → list_any (is_left deadline mark) ms ≡ true
some-left deadline now mark [] sound some = absurd (omega (arith, some))
some-left deadline now mark (x ∷ ms) sound some = by (is_open deadline mark x) refl some (some-left deadline now mark ms parts.1)
  where
    parts : (is_sound now x ≡ true) × (list_all (is_sound now) ms ≡ true)
    parts = and_parts (is_sound now x) (list_all (is_sound now) ms) sound

    by : (b : Bool) → is_open deadline mark x ≡ b → 0 < (if b then open_marks deadline mark ms + 1 else open_marks deadline mark ms)
        → (0 < open_marks deadline mark ms → list_any (is_left deadline mark) ms ≡ true) → (is_left deadline mark x || list_any (is_left deadline mark) ms) ≡ true
    by true e some more = ap (λ b. b || list_any (is_left deadline mark) ms) (sound-left deadline now mark x parts.0 e)
    by false e some more = or-more (is_left deadline mark x) (list_any (is_left deadline mark) ms) (more some)

-- What is left stays as marks are armed and settled, and as another is given.

module _ (deadline : ℕ) (mark : Mark) where
  abbrev AreLeft : List Marked → Type 0
  AreLeft ms = list_any (is_left deadline mark) ms ≡ true

  left-armed : (ms : List Marked) (x : Marked) → AreLeft ms → AreLeft (ms ++ x ∷ [])
  left-armed [] x h = absurd (false≢true h)
  left-armed (y ∷ ms) x h = by (is_left deadline mark y) h (left-armed ms x)
    where
      by : (b : Bool) → (b || list_any (is_left deadline mark) ms) ≡ true → (AreLeft ms → AreLeft (ms ++ x ∷ [])) → (b || list_any (is_left deadline mark) (ms ++ x ∷ [])) ≡ true
      by true h more = refl
      by false h more = more h

  left-settled : (d : ℕ) (other : Mark) (ms : List Marked) → AreLeft ms → AreLeft (settle_first d other ms)
  left-settled d other [] h = h
  left-settled d other (y ∷ ms) h = by (is_unsettled d other y) (is_left deadline mark y) refl h (left-settled d other ms)
    where
      by : (b a : Bool) → is_left deadline mark y ≡ a → (a || list_any (is_left deadline mark) ms) ≡ true → (AreLeft ms → AreLeft (settle_first d other ms))
          → AreLeft (if b then record y { settled = true } ∷ ms else y ∷ settle_first d other ms)
      by true a e h more = ap (λ b. b || list_any (is_left deadline mark) ms) e ∙ h
      by false true e h more = ap (λ b. b || list_any (is_left deadline mark) (settle_first d other ms)) e
      by false false e h more = or-more (is_left deadline mark y) (list_any (is_left deadline mark) (settle_first d other ms)) (more h)

  -- the one that is given is it, or it is left
  left-given : (now : ℕ) (ms : List Marked) (x : Marked) → first_due now ms ≡ Some x → AreLeft ms → (is_left deadline mark x ≡ true) ⊎ AreLeft (give_first now ms)
  left-given now [] x due h = absurd (false≢true h)
  left-given now (y ∷ ms) x due h = by (is_due now y) due (is_left deadline mark y) refl h (left-given now ms x)
    where
      Goal : Bool → Type 0
      Goal b = (is_left deadline mark x ≡ true) ⊎ AreLeft (if b then record y { given = true } ∷ ms else y ∷ give_first now ms)

      unwrap : Option Marked → Marked
      unwrap None = y
      unwrap (Some z) = z

      after : (is_left deadline mark x ≡ true) ⊎ AreLeft (give_first now ms) → Goal false
      after (inl this) = inl this
      after (inr rest) = inr (or-more (is_left deadline mark y) (list_any (is_left deadline mark) (give_first now ms)) rest)

      by : (b : Bool) → (if b then Some y else first_due now ms) ≡ Some x → (a : Bool) → is_left deadline mark y ≡ a → (a || list_any (is_left deadline mark) ms) ≡ true
          → (first_due now ms ≡ Some x → AreLeft ms → (is_left deadline mark x ≡ true) ⊎ AreLeft (give_first now ms)) → Goal b
      by true due true e h more = inl (ap (is_left deadline mark) (sym (ap unwrap due)) ∙ e)
      by true due false e h more = inr h
      by false due true e h more = inr (ap (λ b. b || list_any (is_left deadline mark) (give_first now ms)) e)
      by false due false e h more = after (more due h)

  module _ (f : Fine) (m : State) (e : FineStep) (law : Lawful f m e) where
    open around f e use {later, processor as p, now}

    clock-is : (c : Clock) → clock later ≡ c → AreLeft c.marks → IsToCome later deadline mark
    clock-is c is h = waits (ap (λ (z : Clock). list_any (is_left deadline mark) z.marks) is ∙ h)

    -- a mark in the hand of the processor that makes the step
    in-hand : 0 < counted (handles deadline mark) now.todo → IsToCome later deadline mark
    in-hand some =
        held e.cpu law.by.named
        (ap (λ b. list_any (handles deadline mark) (cond b (p_next f.image (f.processors e.cpu) e) (f.processors e.cpu)).todo) (eq-eqb e.cpu e.cpu refl)
        ∙ counted-any (handles deadline mark) now.todo some)

    given-now : (x : Marked) → p.todo ≡ [] → e.moved ≡ Exchange.mark x.deadline x.mark → (x.deadline == deadline && same_mark x.mark mark) ≡ true → IsToCome later deadline mark
    given-now x idle moved this =
        let test = handles deadline mark in
        let counts = taken-count f.image test (handles-of deadline mark) p e idle (takes-free f.image test (handles-of deadline mark) (λ d other. refl) e.moved) in
        let there : in_hand f.image test (handles-of deadline mark) e.moved ≡ 1 = ap (in_hand f.image test (handles-of deadline mark)) moved ∙ ap (λ b. if b then 0 + 1 else 0) this in
        in-hand (omega (arith, counts, there))

    pub clock-kept : AreLeft (clock f).marks → IsToCome later deadline mark
    clock-kept h = by p.todo refl
      where
        idle : p.todo ≡ [] → IdleStep f p e → IsToCome later deadline mark
        idle at (turns site said ready moved) = clock-is (clock f) (clock-else f m e law (ap (λ i. same_site i Site.clock) site)) h
        idle at (gives x site said due moved) = which (left-given (clock f).now (clock f).marks x due h)
          where
            which : (is_left deadline mark x ≡ true) ⊎ AreLeft (give_first (clock f).now (clock f).marks) → IsToCome later deadline mark
            which (inl this) = given-now x at moved (and_parts (not x.given) (x.deadline == deadline && same_mark x.mark mark) (assoc (not x.given) (x.deadline == deadline) (same_mark x.mark mark) this)).1
            which (inr rest) = clock-is _ (clock-later f m e law site (FineAct.Unseen Unseen.Due) said) rest
        idle at (time_goes n site said next moved) = clock-is _ (clock-later f m e law site (by_actor f.image p (Act.Tick n)) said) h

        shows : (q : Pending) (rest : Steps) (todo : Todos) → p.todo ≡ Todo.show q rest ∷ todo → (b : Bool) → is_arm q ≡ b → IsToCome later deadline mark
        shows (Pending.Arm ticks) rest todo at true on =
            clock-is _ (clock-later f m e law (made-at f m e law (Todo.show (Pending.Arm ticks) rest ∷ todo) at) _ (made-says f m e law (Todo.show (Pending.Arm ticks) rest ∷ todo) at)) (left-armed (clock f).marks _ h)
        shows (Pending.ArmTimer ticks) rest todo at true on =
            clock-is _ (clock-later f m e law (made-at f m e law (Todo.show (Pending.ArmTimer ticks) rest ∷ todo) at) _ (made-says f m e law (Todo.show (Pending.ArmTimer ticks) rest ∷ todo) at)) (left-armed (clock f).marks _ h)
        shows q rest todo at true on = absurd (false≢true on)
        shows q rest todo at false off = clock-is (clock f) (clock-same f m e law (Todo.show q rest) todo at (untimed f m e law q rest off)) h

        by : (todo : Todos) → p.todo ≡ todo → IsToCome later deadline mark
        by [] at = idle at (idle-step f m law.rel p e law.by.may law.taken at)
        by (Todo.show q rest ∷ todo) at = shows q rest todo at (is_arm q) refl
        by (Todo.settle d other ∷ todo) at =
            clock-is _ (clock-later f m e law (made-at f m e law (Todo.settle d other ∷ todo) at) (FineAct.Unseen Unseen.Settle) (made-says f m e law (Todo.settle d other ∷ todo) at))
            (left-settled _ _ (clock f).marks h)
        by (q ∷ todo) at = clock-is (clock f) (clock-same f m e law q todo at refl) h

    -- a list with that mark has it first
    first-hand : list_any (handles deadline mark) p.todo ≡ true → (todo : Todos) × (p.todo ≡ Todo.handle deadline mark ∷ todo)
    first-hand h = by p.todo refl h
      where
        timed : times p.todo ≡ true
        timed = handle-paid f m e law deadline mark p.todo (law.rel.processors e.cpu law.by.named).frames (any-counted (handles deadline mark) p.todo h)

        hand : IsHand p.todo
        hand = (law.rel.processors e.cpu law.by.named).timer.hand timed

        behind : (q : Todo) (todo : Todos) → p.todo ≡ q ∷ todo → list_any (handles deadline mark) todo ≡ true → ⊥
        behind q todo at more =
            let none = hand-tail f m e law deadline mark q todo (subst IsHand at hand) in
            let some = any-counted (handles deadline mark) todo more in omega (arith, none, some)

        head : (q : Todo) (todo : Todos) → p.todo ≡ q ∷ todo → handles deadline mark q ≡ true → (left : Todos) × (p.todo ≡ Todo.handle deadline mark ∷ left)
        head (Todo.handle d other) todo at is =
            let parts = and_parts (d == deadline) (same_mark other mark) is in
            let one = eqb-true d deadline parts.0 in
            let two = same-is other mark parts.1 in (todo, at ∙ λ i. Todo.handle (one i) (two i) ∷ todo)
        head q todo at is = absurd (false≢true is)

        by : (todo : Todos) → p.todo ≡ todo → list_any (handles deadline mark) todo ≡ true → (left : Todos) × (p.todo ≡ Todo.handle deadline mark ∷ left)
        by [] at h = absurd (false≢true h)
        by (q ∷ todo) at h = which (or-either (handles deadline mark q) (list_any (handles deadline mark) todo) h)
          where
            which : (handles deadline mark q ≡ true) ⊎ (list_any (handles deadline mark) todo ≡ true) → (left : Todos) × (p.todo ≡ Todo.handle deadline mark ∷ left)
            which (inl is) = head q todo at is
            which (inr more) = absurd (behind q todo at more)

    pub to-come-kept : IsToCome f deadline mark → IsToCome later deadline mark ⊎ ((todo : Todos) × (p.todo ≡ Todo.handle deadline mark ∷ todo))
    to-come-kept (waits h) = inl (clock-kept h)
    to-come-kept (held k l h) = by (e.cpu == k) refl
      where
        Goal : Type 0
        Goal = IsToCome later deadline mark ⊎ ((todo : Todos) × (p.todo ≡ Todo.handle deadline mark ∷ todo))

        by : (b : Bool) → (e.cpu == k) ≡ b → Goal
        by true q = inr (first-hand (subst (λ j. list_any (handles deadline mark) (f.processors j).todo ≡ true) (sym (eqb-true e.cpu k q)) h))
        by false q = inl (held k l (ap (λ b. list_any (handles deadline mark) (cond b (p_next f.image (f.processors k) e) (f.processors k)).todo) q ∙ h))
