-- What a step at the clock does to its measure: time goes on to a deadline, and a mark is armed, settled, or given.
use Rattle.std.proofs.Common.{◌≡◌, ◌<◌, ◌≤◌, ◌⊎◌, inl, inr, ℕ, ◌+◌, Bool, true, false, min, List, [], ◌∷◌, ◌++◌, refl, ap, ◌∙◌, subst, arith, Option, Some, None, if◌then◌else◌}
use Rattle.std.specs.Prelude.{◌&&◌, not, is_some, nat_le, nat_lt, unwrap_or}
use Rattle.std.proofs.lemmas.Bool.{and_parts, false≢true, ltb-false, ltb-true}
use Rattle.um_base.specs.declared.act.Act.{Act}
use Rattle.um_machine.specs.Time.{least, next_deadline}
use Rattle.um_words.specs.declared.fine.FineAct.{FineAct}
use Rattle.um_words.specs.declared.fine.Mark.{Mark}
use Rattle.um_words.specs.declared.fine.More.{More}
use Rattle.um_words.specs.declared.fine.Unseen.{Unseen}
use Rattle.um_base.specs.declared.image.Image.{Image}
use Rattle.um_base.specs.declared.names.ThreadIx.{ThreadIx}
use Rattle.um_fine.specs.Answers.{act_in, due_in, mark_in, now_in}
use Rattle.um_fine.specs.Clock.{Clock, Marked, clock_after, clock_says, clock_takes, deadlines, first_due, give_first, is_due, is_unsettled, later, settle_first}
use Rattle.um_fine.specs.Steps.{Exchange}
use Rattle.um_measure.specs.Measure.{ahead, one_if, total}
use Rattle.um_fine_measure.specs.Measure.{armed_cost, clock_cost, given_cost, mark_cost}
use Rattle.um_fine_measure.proofs.Between.{given_by, taken_by}

-- Deadlines above a moment.

one-most : (b : Bool) → one_if b ≤ 1
one-most true = omega arith
one-most false = omega arith

later-first : (a b d n m : ℕ) → a ≤ b → m ≤ n → (x y : Bool) → nat_lt a d ≡ x → nat_lt b d ≡ y → one_if y + m ≤ one_if x + n
later-first a b d n m h less true y e f = let most = one-most y in omega (arith, less, most)
later-first a b d n m h less false false e f = omega (arith, less)
later-first a b d n m h less false true e f = absurd (let low = ltb-false a d e in let high = ltb-true b d f in omega (arith, low, high, h))

ahead-later : (a b : ℕ) (ds : List ℕ) → a ≤ b → ahead b ds ≤ ahead a ds
ahead-later a b [] h = omega arith
ahead-later a b (d ∷ ds) h = later-first a b d (ahead a ds) (ahead b ds) h (ahead-later a b ds h) (nat_lt a d) (nat_lt b d) refl refl

le-or-lt : (a b : ℕ) → (a ≤ b) ⊎ (b < a)
le-or-lt a b = by (nat_lt b a) refl
  where
    by : (c : Bool) → nat_lt b a ≡ c → (a ≤ b) ⊎ (b < a)
    by true e = inr (ltb-true b a e)
    by false e = inl (ltb-false b a e)

not-above : (d e : ℕ) → e ≤ d → one_if (nat_lt d e) ≡ 0
not-above d e h = by (nat_lt d e) refl
  where
    by : (b : Bool) → nat_lt d e ≡ b → one_if b ≡ 0
    by true k = absurd (let high = ltb-true d e k in omega (arith, h, high))
    by false k = refl

-- the next deadline is one of those above now
abbrev Lowers : ℕ → ℕ → List ℕ → Type 0
Lowers now d ds = (now < d) × (ahead d ds < ahead now ds)

lowest : (now d e f : ℕ) (ds : List ℕ) → now < e → Lowers now f ds → min e f ≡ d → (e ≤ f) ⊎ (f < e) → (now < d) × (one_if (nat_lt d e) + ahead d ds < 1 + ahead now ds)
lowest now d e f ds h low same (inl l) =
    let is : d ≡ e = omega (arith, same, l) in
    let none = not-above d e (omega (arith, is)) in
    let more = ahead-later now d ds (omega (arith, is, h)) in (omega (arith, is, h), omega (arith, none, more))
lowest now d e f ds h low same (inr l) =
    let is : f ≡ d = omega (arith, same, l) in
    let fewer = subst (λ n. Lowers now n ds) is low in
    let most = one-most (nat_lt d e) in
    let less = fewer.1 in (fewer.0, omega (arith, most, less))

deadline-first : (now d e : ℕ) (ds : List ℕ) → ((f : ℕ) → next_deadline now ds ≡ Some f → Lowers now f ds) → (b : Bool) → nat_lt now e ≡ b → (o : Option ℕ) → next_deadline now ds ≡ o
    → (if b then least e o else o) ≡ Some d → (now < d) × (one_if (nat_lt d e) + ahead d ds < one_if b + ahead now ds)
deadline-first now d e ds low false k o same h =
    let is = low d (same ∙ h) in
    let here = ltb-false now e k in
    let before = is.0 in
    let less = is.1 in
    let none = not-above d e (omega (arith, here, before)) in (before, omega (arith, none, less))
deadline-first now d e ds low true k None same h =
    let is : e ≡ d = ap (λ o. unwrap_or o 0) h in
    let here = ltb-true now e k in
    let none = not-above d e (omega (arith, is)) in
    let more = ahead-later now d ds (omega (arith, here, is)) in (omega (arith, here, is), omega (arith, none, more))
deadline-first now d e ds low true k (Some f) same h =
    lowest now d e f ds (ltb-true now e k) (low f same) (ap (λ o. unwrap_or o 0) h) (le-or-lt e f)

deadline-less : (now d : ℕ) (ds : List ℕ) → next_deadline now ds ≡ Some d → Lowers now d ds
deadline-less now d [] h = cc
deadline-less now d (e ∷ ds) h = deadline-first now d e ds (λ f k. deadline-less now f ds k) (nat_lt now e) refl (next_deadline now ds) refl h

-- Marks.

abbrev marks_cost : List Marked → ℕ
marks_cost ms = total (λ (m : Marked). given_cost m.given) ms

-- those that weren't given, and the deadlines above a moment
abbrev both : ℕ → List Marked → ℕ
both now ms = marks_cost ms + ahead now (deadlines ms)

more-marks : (now : ℕ) (ms : List Marked) (m : Marked) → m.given ≡ false
    → both now (ms ++ m ∷ []) ≤ both now ms + armed_cost
more-marks now [] m h = let most = one-most (nat_lt now m.deadline) in let cost : given_cost m.given ≡ mark_cost = ap given_cost h in omega (arith, most, cost)
more-marks now (n ∷ ms) m h = let rest = more-marks now ms m h in omega (arith, rest)

settled-cost : (now deadline : ℕ) (mark : Mark) (ms : List Marked)
    → both now (settle_first deadline mark ms) ≡ both now ms
settled-cost now deadline mark [] = refl
settled-cost now deadline mark (m ∷ ms) = by (is_unsettled deadline mark m) (settled-cost now deadline mark ms)
  where
    by : (b : Bool) → both now (settle_first deadline mark ms) ≡ both now ms
        → both now (if b then record m { settled = true } ∷ ms else m ∷ settle_first deadline mark ms) ≡ both now (m ∷ ms)
    by true rest = omega arith
    by false rest = omega (arith, rest)

ungiven : (now : ℕ) (m : Marked) → is_due now m ≡ true → given_cost m.given ≡ mark_cost
ungiven now m h = by m.given (and_parts (nat_le m.deadline now && m.settled) (not m.given) h).1
  where
    by : (b : Bool) → not b ≡ true → given_cost b ≡ mark_cost
    by true e = absurd (false≢true e)
    by false e = refl

given-first : (now : ℕ) (ms : List Marked) → is_some (first_due now ms) ≡ true
    → both now (give_first now ms) + mark_cost ≤ both now ms
given-first now [] h = absurd (false≢true h)
given-first now (m ∷ ms) h = by (is_due now m) refl h (given-first now ms)
  where
    by : (b : Bool) → is_due now m ≡ b → is_some (if b then Some m else first_due now ms) ≡ true
        → (is_some (first_due now ms) ≡ true → both now (give_first now ms) + mark_cost ≤ both now ms)
        → both now (if b then record m { given = true } ∷ ms else m ∷ give_first now ms) + mark_cost ≤ both now (m ∷ ms)
    by true e some rest = let cost = ungiven now m e in omega (arith, cost)
    by false e some rest = let less = rest some in omega (arith, less)

module _ (image : Image) (c : Clock) where
  abbrev pub ClockFalls : FineAct → Exchange → Type 0
  ClockFalls act moved = clock_cost (clock_after c act moved) + taken_by image act moved ≤ clock_cost c + given_by image act moved

  tick-by : (o : Option ℕ) → later c ≡ o → is_some o ≡ true → (now : ℕ) → unwrap_or o c.now ≡ now → ahead now (deadlines c.marks) + 1 ≤ ahead c.now (deadlines c.marks)
  tick-by None e some now is = absurd (false≢true some)
  tick-by (Some d) e some now is =
      subst (λ (n : ℕ). ahead n (deadlines c.marks) + 1 ≤ ahead c.now (deadlines c.marks)) is (let less = (deadline-less c.now d (deadlines c.marks) e).1 in omega (arith, less))

  act-falls : (moved : Exchange) (t : ThreadIx) (more : More) (act : Act) → clock_takes c (FineAct.Shown (record { thread = t; act = act }) more) ≡ true
      → clock_says c moved (FineAct.Shown (record { thread = t; act = act }) more) ≡ FineAct.Shown (record { thread = t; act = act }) more
      → ClockFalls (FineAct.Shown (record { thread = t; act = act }) more) moved
  act-falls moved t more (Act.Arm deadline) takes says =
      let arms = more-marks c.now c.marks (record { deadline = deadline; mark = mark_in moved; settled = false; given = false }) refl in omega (arith, arms)
  act-falls moved t more (Act.Tick now) takes says =
      let less = tick-by (later c) refl takes now (ap (λ (a : FineAct). now_in (act_in a)) says) in omega (arith, less)
  act-falls moved t more act takes says = absurd (false≢true takes)

  pub clock-falls : (act : FineAct) (moved : Exchange) → clock_takes c act ≡ true → clock_says c moved act ≡ act → ClockFalls act moved
  clock-falls (FineAct.Shown event more) moved takes says = act-falls moved event.thread more event.act takes says
  clock-falls (FineAct.Unseen Unseen.Settle) moved takes says = let same = settled-cost c.now (due_in moved) (mark_in moved) c.marks in omega (arith, same)
  clock-falls (FineAct.Unseen Unseen.Due) moved takes says = let less = given-first c.now c.marks takes in omega (arith, less)
  clock-falls (FineAct.Unseen unseen) moved takes says = absurd (false≢true takes)
