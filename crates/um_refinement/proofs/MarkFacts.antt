-- The marks of the clock as they are armed, settled and given: how many weren't given, and which are left.
use Rattle.um_refinement.proofs.Words.{◌≡◌, ℕ, ◌+◌, ◌<◌, ◌≤◌, ◌||◌, ROWS, eq-eqb, eqb-true, leb-true, le-leb, list_all, ltb-true, nat_lt, nat_tests, one_if, subst, unwrap_or, Bool, true, false, List, [], ◌∷◌, ◌++◌, Option, Some, None, refl, sym, ap, ◌∙◌, arith, ◌&&◌, not, nat_le, ◌==◌, is_some, if◌then◌else◌, and_parts, and_from, false≢true, not-true}
use Rattle.um_words.specs.declared.fine.Mark.{Mark}
use Rattle.std.specs.Prelude.{min}
use Rattle.um_machine.specs.Time.{least, next_deadline}
use Rattle.um_fine.specs.Clock.{Marked, deadlines, mark_code, same_mark, first_due, give_first, is_due, is_unsettled, settle_first}
use Rattle.um_refinement.specs.Stops.{is_waiting_site}
use Rattle.um_refinement.specs.Timing.{is_open, is_placed, is_sound, left_marks, open_marks}

abbrev counted_if : Bool → ℕ → ℕ
counted_if given n = if given then n else n + 1

pub left-armed : (ms : List Marked) (x : Marked) → x.given ≡ false → left_marks (ms ++ x ∷ []) ≡ left_marks ms + 1
left-armed [] x new = ap (λ b. counted_if b 0) new
left-armed (y ∷ ms) x new = elim y.given as (λ b. counted_if b (left_marks (ms ++ x ∷ [])) ≡ counted_if b (left_marks ms) + 1) [ true ↦ left-armed ms x new | false ↦ more (left-armed ms x new) ]
  where
    more : left_marks (ms ++ x ∷ []) ≡ left_marks ms + 1 → left_marks (ms ++ x ∷ []) + 1 ≡ left_marks ms + 1 + 1
    more h = ap (λ n. n + 1) h

pub left-settled : (deadline : ℕ) (mark : Mark) (ms : List Marked) → left_marks (settle_first deadline mark ms) ≡ left_marks ms
left-settled deadline mark [] = refl
left-settled deadline mark (y ∷ ms) =
    elim (is_unsettled deadline mark y) as (λ b. left_marks (if b then record y { settled = true } ∷ ms else y ∷ settle_first deadline mark ms) ≡ left_marks (y ∷ ms)) [
      | true ↦ refl
      | false ↦ ap (counted_if y.given) (left-settled deadline mark ms)
    ]

some-same : {x y : Marked} → Some x ≡ Some y → x ≡ y
some-same {x} h = ap (λ (o : Option Marked). unwrap o) h
  where
    unwrap : Option Marked → Marked
    unwrap None = x
    unwrap (Some y) = y

-- the first mark that is due wasn't given, and is settled
pub due-parts : (now : ℕ) (x : Marked) → is_due now x ≡ true → (nat_le x.deadline now ≡ true) × (x.settled ≡ true) × (x.given ≡ false)
due-parts now x h =
    let parts = and_parts (nat_le x.deadline now && x.settled) (not x.given) h in
    let first = and_parts (nat_le x.deadline now) x.settled parts.0 in (first.0, first.1, not-true x.given parts.1)

pub first-due : (now : ℕ) (ms : List Marked) (x : Marked) → first_due now ms ≡ Some x → is_due now x ≡ true
first-due now [] x h = absurd (false≢true (ap is_some h))
first-due now (y ∷ ms) x h = by (is_due now y) refl h (first-due now ms x)
  where
    by : (b : Bool) → is_due now y ≡ b → (if b then Some y else first_due now ms) ≡ Some x → (first_due now ms ≡ Some x → is_due now x ≡ true) → is_due now x ≡ true
    by true due h more = ap (is_due now) (sym (some-same h)) ∙ due
    by false due h more = more h

pub left-given : (now : ℕ) (ms : List Marked) (x : Marked) → first_due now ms ≡ Some x → left_marks (give_first now ms) + 1 ≡ left_marks ms
left-given now [] x h = absurd (false≢true (ap is_some h))
left-given now (y ∷ ms) x h = by (is_due now y) refl h (left-given now ms x)
  where
    by : (b : Bool) → is_due now y ≡ b → (if b then Some y else first_due now ms) ≡ Some x
        → (first_due now ms ≡ Some x → left_marks (give_first now ms) + 1 ≡ left_marks ms)
        → left_marks (if b then record y { given = true } ∷ ms else y ∷ give_first now ms) + 1 ≡ left_marks (y ∷ ms)
    by true due h more = sym (ap (λ b. counted_if b (left_marks ms)) (due-parts now y due).2)
    by false due h more = elim y.given as (λ b. counted_if b (left_marks (give_first now ms)) + 1 ≡ counted_if b (left_marks ms)) [ true ↦ more h | false ↦ ap (λ n. n + 1) (more h) ]

-- Marks are the same where their sorts and numbers are.

pub same-itself : (a : Mark) → same_mark a a ≡ true
same-itself a =
    let c = mark_code a in and_from _ _ (and_from _ _ (eq-eqb c.0 c.0 refl) (eq-eqb c.1 c.1 refl)) (eq-eqb c.2 c.2 refl)

pub same-as : (a b c : Mark) → same_mark a b ≡ true → same_mark a c ≡ same_mark b c
same-as a b c h =
    let parts = and_parts _ _ h in
    let first = and_parts _ _ parts.0 in
    let sort = eqb-true (mark_code a).0 (mark_code b).0 first.0 in
    let one = eqb-true (mark_code a).1 (mark_code b).1 first.1 in
    let two = eqb-true (mark_code a).2 (mark_code b).2 parts.1 in
    λ i. (sort i == (mark_code c).0) && (one i == (mark_code c).1) && (two i == (mark_code c).2)

pub same-placed : (a b : Mark) → same_mark a b ≡ true → is_placed a ≡ is_placed b
same-placed (Mark.Thread who site) (Mark.Thread other there) h = ap is_waiting_site (eqb-true site there (and_parts _ _ h).1)
same-placed (Mark.Thread who site) (Mark.Timer y) h = absurd (false≢true h)
same-placed (Mark.Timer x) (Mark.Thread other there) h = absurd (false≢true h)
same-placed (Mark.Timer x) (Mark.Timer y) h = ap (λ n. nat_lt n ROWS) (eqb-true x.0 y.0 (and_parts true (x.0 == y.0) (and_parts (x.0 == y.0) true h).0).1)

-- How many aren't settled.

abbrev one_more : Bool → ℕ → ℕ
one_more more n = if more then n + 1 else n

one-added : (b : Bool) (n k : ℕ) → n ≡ k → one_more b n ≡ one_more b k
one-added b n k h = ap (one_more b) h

pub open-armed : (d : ℕ) (mark : Mark) (ms : List Marked) (x : Marked) → open_marks d mark (ms ++ x ∷ []) ≡ open_marks d mark ms + one_if (is_open d mark x)
open-armed d mark [] x = elim (is_open d mark x) as (λ b. one_more b 0 ≡ 0 + one_if b) [ true ↦ refl | false ↦ refl ]
open-armed d mark (y ∷ ms) x =
    let n = one_if (is_open d mark x) in
    let more = open-armed d mark ms x in
    elim (is_open d mark y) as (λ b. one_more b (open_marks d mark (ms ++ x ∷ [])) ≡ one_more b (open_marks d mark ms) + n) [
      | true ↦ omega (arith, more)
      | false ↦ more
    ]

pub open-given : (now d : ℕ) (mark : Mark) (ms : List Marked) → open_marks d mark (give_first now ms) ≡ open_marks d mark ms
open-given now d mark [] = refl
open-given now d mark (y ∷ ms) =
    elim (is_due now y) as (λ b. open_marks d mark (if b then record y { given = true } ∷ ms else y ∷ give_first now ms) ≡ open_marks d mark (y ∷ ms)) [
      | true ↦ refl
      | false ↦ ap (one_more (is_open d mark y)) (open-given now d mark ms)
    ]

-- the first mark that isn't settled of a deadline and a mark is settled
pub open-settled : (deadline : ℕ) (mark : Mark) (d : ℕ) (other : Mark) (ms : List Marked) → 0 < open_marks deadline mark ms
    → open_marks d other (settle_first deadline mark ms) + one_if (deadline == d && same_mark mark other) ≡ open_marks d other ms
open-settled deadline mark d other [] some = absurd (omega (arith, some))
open-settled deadline mark d other (y ∷ ms) some = by (is_unsettled deadline mark y) refl some (open-settled deadline mark d other ms)
  where
    so : ℕ
    so = one_if (deadline == d && same_mark mark other)

    same-open : is_unsettled deadline mark y ≡ true → is_open d other y ≡ (deadline == d && same_mark mark other)
    same-open h =
        let parts = and_parts _ _ h in
        let first = and_parts _ _ parts.0 in
        let at = eqb-true y.deadline deadline first.1 in
        λ i. first.0 i && (at i == d) && same-as y.mark mark other parts.1 i

    by : (b : Bool) → is_unsettled deadline mark y ≡ b → 0 < one_more b (open_marks deadline mark ms)
        → (0 < open_marks deadline mark ms → open_marks d other (settle_first deadline mark ms) + so ≡ open_marks d other ms)
        → open_marks d other (if b then record y { settled = true } ∷ ms else y ∷ settle_first deadline mark ms) + so ≡ open_marks d other (y ∷ ms)
    by true h some more =
        sym (ap (λ b. one_more b (open_marks d other ms)) (same-open h)
        ∙ elim (deadline == d && same_mark mark other) as (λ b. one_more b (open_marks d other ms) ≡ open_marks d other ms + one_if b) [ true ↦ refl | false ↦ omega arith ])
    by false h some more =
        let rest = more some in
        elim (is_open d other y) as (λ b. one_more b (open_marks d other (settle_first deadline mark ms)) + so ≡ one_more b (open_marks d other ms)) [
          | true ↦ omega (arith, rest)
          | false ↦ rest
        ]

-- Marks that were given are settled and due, and each is for a place.

pub all-armed : (test : Marked → Bool) (ms : List Marked) (x : Marked) → list_all test ms ≡ true → test x ≡ true → list_all test (ms ++ x ∷ []) ≡ true
all-armed test [] x h new = and_from (test x) true new refl
all-armed test (y ∷ ms) x h new =
    let parts = and_parts (test y) (list_all test ms) h in and_from (test y) (list_all test (ms ++ x ∷ [])) parts.0 (all-armed test ms x parts.1 new)

settled-sound : (now : ℕ) (y : Marked) → is_sound now y ≡ true → is_sound now (record y { settled = true }) ≡ true
settled-sound now y h = by y.given y.settled h
  where
    by : (given settled : Bool) → (not given || (settled && nat_le y.deadline now)) ≡ true → (not given || (true && nat_le y.deadline now)) ≡ true
    by false settled h = refl
    by true true h = h
    by true false h = absurd (false≢true h)

pub sound-settled : (deadline now : ℕ) (mark : Mark) (ms : List Marked) → list_all (is_sound now) ms ≡ true → list_all (is_sound now) (settle_first deadline mark ms) ≡ true
sound-settled deadline now mark [] h = h
sound-settled deadline now mark (y ∷ ms) h =
    let parts = and_parts (is_sound now y) (list_all (is_sound now) ms) h in
    let more = sound-settled deadline now mark ms parts.1 in
    elim (is_unsettled deadline mark y) as (λ b. list_all (is_sound now) (if b then record y { settled = true } ∷ ms else y ∷ settle_first deadline mark ms) ≡ true) [
      | true ↦ and_from _ _ (settled-sound now y parts.0) parts.1
      | false ↦ and_from _ _ parts.0 more
    ]

pub sound-given : (now : ℕ) (ms : List Marked) → list_all (is_sound now) ms ≡ true → list_all (is_sound now) (give_first now ms) ≡ true
sound-given now [] h = h
sound-given now (y ∷ ms) h = by (is_due now y) refl (sound-given now ms parts.1)
  where
    parts : (is_sound now y ≡ true) × (list_all (is_sound now) ms ≡ true)
    parts = and_parts (is_sound now y) (list_all (is_sound now) ms) h

    by : (b : Bool) → is_due now y ≡ b → list_all (is_sound now) (give_first now ms) ≡ true
        → list_all (is_sound now) (if b then record y { given = true } ∷ ms else y ∷ give_first now ms) ≡ true
    by true due more = let is = due-parts now y due in and_from _ _ (and_from _ _ is.1 is.0) parts.1
    by false due more = and_from _ _ parts.0 more

later-sound : (now late : ℕ) (y : Marked) → now ≤ late → is_sound now y ≡ true → is_sound late y ≡ true
later-sound now late y l h = by y.given y.settled h
  where
    by : (given settled : Bool) → (not given || (settled && nat_le y.deadline now)) ≡ true → (not given || (settled && nat_le y.deadline late)) ≡ true
    by false settled h = refl
    by true true h = let due = leb-true y.deadline now h in le-leb y.deadline late (omega (arith, due, l))
    by true false h = absurd (false≢true h)

pub sound-later : (now late : ℕ) (ms : List Marked) → now ≤ late → list_all (is_sound now) ms ≡ true → list_all (is_sound late) ms ≡ true
sound-later now late [] l h = h
sound-later now late (y ∷ ms) l h =
    let parts = and_parts (is_sound now y) (list_all (is_sound now) ms) h in and_from _ _ (later-sound now late y l parts.0) (sound-later now late ms l parts.1)

-- what is read of the mark and its deadline alone stays as it is settled, and as it is given
pub all-settled : (test : Mark → Bool) (deadline : ℕ) (mark : Mark) (ms : List Marked) → list_all (λ (x : Marked). test x.mark) ms ≡ true
    → list_all (λ (x : Marked). test x.mark) (settle_first deadline mark ms) ≡ true
all-settled test deadline mark [] h = h
all-settled test deadline mark (y ∷ ms) h =
    let parts = and_parts (test y.mark) (list_all (λ (x : Marked). test x.mark) ms) h in
    let more = all-settled test deadline mark ms parts.1 in
    elim (is_unsettled deadline mark y) as (λ b. list_all (λ (x : Marked). test x.mark) (if b then record y { settled = true } ∷ ms else y ∷ settle_first deadline mark ms) ≡ true) [
      | true ↦ h
      | false ↦ and_from _ _ parts.0 more
    ]

pub all-given : (test : Mark → Bool) (now : ℕ) (ms : List Marked) → list_all (λ (x : Marked). test x.mark) ms ≡ true
    → list_all (λ (x : Marked). test x.mark) (give_first now ms) ≡ true
all-given test now [] h = h
all-given test now (y ∷ ms) h =
    let parts = and_parts (test y.mark) (list_all (λ (x : Marked). test x.mark) ms) h in
    let more = all-given test now ms parts.1 in
    elim (is_due now y) as (λ b. list_all (λ (x : Marked). test x.mark) (if b then record y { given = true } ∷ ms else y ∷ give_first now ms) ≡ true) [
      | true ↦ h
      | false ↦ and_from _ _ parts.0 more
    ]

-- what is so of all marks is so of the first that is due
pub due-among : (test : Mark → Bool) (now : ℕ) (ms : List Marked) (x : Marked) → list_all (λ (y : Marked). test y.mark) ms ≡ true → first_due now ms ≡ Some x → test x.mark ≡ true
due-among test now [] x h due = absurd (false≢true (ap is_some due))
due-among test now (y ∷ ms) x h due = by (is_due now y) due (due-among test now ms x parts.1)
  where
    parts : (test y.mark ≡ true) × (list_all (λ (z : Marked). test z.mark) ms ≡ true)
    parts = and_parts (test y.mark) (list_all (λ (z : Marked). test z.mark) ms) h

    by : (b : Bool) → (if b then Some y else first_due now ms) ≡ Some x → (first_due now ms ≡ Some x → test x.mark ≡ true) → test x.mark ≡ true
    by true due more = ap (λ (z : Marked). test z.mark) (sym (some-same due)) ∙ parts.0
    by false due more = more due

-- Deadlines: those of marks that are settled or given stay, and the next one is later.

pub deadlines-armed : (ms : List Marked) (x : Marked) → deadlines (ms ++ x ∷ []) ≡ deadlines ms ++ x.deadline ∷ []
deadlines-armed [] x = refl
deadlines-armed (y ∷ ms) x = ap (λ ds. y.deadline ∷ ds) (deadlines-armed ms x)

pub deadlines-settled : (deadline : ℕ) (mark : Mark) (ms : List Marked) → deadlines (settle_first deadline mark ms) ≡ deadlines ms
deadlines-settled deadline mark [] = refl
deadlines-settled deadline mark (y ∷ ms) =
    elim (is_unsettled deadline mark y) as (λ b. deadlines (if b then record y { settled = true } ∷ ms else y ∷ settle_first deadline mark ms) ≡ deadlines (y ∷ ms)) [
      | true ↦ refl
      | false ↦ ap (λ ds. y.deadline ∷ ds) (deadlines-settled deadline mark ms)
    ]

pub deadlines-given : (now : ℕ) (ms : List Marked) → deadlines (give_first now ms) ≡ deadlines ms
deadlines-given now [] = refl
deadlines-given now (y ∷ ms) =
    elim (is_due now y) as (λ b. deadlines (if b then record y { given = true } ∷ ms else y ∷ give_first now ms) ≡ deadlines (y ∷ ms)) [
      | true ↦ refl
      | false ↦ ap (λ ds. y.deadline ∷ ds) (deadlines-given now ms)
    ]

number-same : {a b : ℕ} → Some a ≡ Some b → a ≡ b
number-same {a} h = ap (λ (o : Option ℕ). unwrap_or o a) h

pub next-late : (now : ℕ) (ds : List ℕ) (n : ℕ) → next_deadline now ds ≡ Some n → now < n
next-late now [] n h = absurd (false≢true (ap is_some h))
next-late now (d ∷ ds) n h = by (nat_lt now d) refl (next_deadline now ds) refl h (next-late now ds)
  where
    by : (b : Bool) → nat_lt now d ≡ b → (o : Option ℕ) → next_deadline now ds ≡ o → (if b then least d o else o) ≡ Some n
        → ((k : ℕ) → next_deadline now ds ≡ Some k → now < k) → now < n
    by false late o at h more = more n (at ∙ h)
    by true late None at h more = subst (λ k. now < k) (number-same h) (ltb-true now d late)
    by true late (Some k) at h more =
        let first = ltb-true now d late in
        let second = more k at in
        subst (λ k. now < k) (number-same h) (min-less now d k first second)
      where
        min-less : (now d k : ℕ) → now < d → now < k → now < min d k
        min-less now d k first second = grind (arith, nat_tests, first, second)
