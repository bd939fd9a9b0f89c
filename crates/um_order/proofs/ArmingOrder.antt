-- The marks of the clock and the armings of the point go along: one processor gives the marks in the order in which the point goes through its
-- armings. Between two events it may have given marks that made no step; their armings leave the point with its next step of time.
use Rattle.std.proofs.Common.{◌≡◌, ℕ, ◌+◌, ◌<◌, Bool, true, false, List, [], ◌∷◌, ◌++◌, Option, Some, None, refl, sym, ap, ◌∙◌, subst, if◌then◌else◌}
use Rattle.std.specs.Prelude.{◌&&◌, not, is_some, nat_le, unwrap_or}
use Rattle.std.specs.List.{list_all}
use Rattle.std.proofs.lemmas.Bool.{and_parts, true≢false}
use Rattle.um_base.specs.declared.limits.TheConstants.{ROWS}
use Rattle.um_machine.specs.State.{State}
use Rattle.um_invariants.specs.Armings.{Aim, Arming, gone_through, makes_step, timer, waiter}
use Rattle.um_words.specs.declared.fine.Mark.{Mark}
use Rattle.um_fine.specs.Clock.{Marked, first_due, give_first, is_due, is_unsettled, settle_first}
use Rattle.um_refinement.specs.Stops.{cell_site}

-- a mark is for the same as an arming
abbrev pub IsAim : Mark → Aim → Type 0
IsAim (Mark.Thread who site) (waiter t c) = (t ≡ who) × (site ≡ cell_site c) × (c < ROWS + 2)
IsAim (Mark.Timer x) (timer y) = x.0 ≡ y
IsAim mark aim = ⊥

pub record IsArmed (deadline : ℕ) (mark : Mark) (arming : Arming) : Type 0 where
  pub deadline_is : arming.deadline ≡ deadline
  pub aim_is : IsAim mark arming.aim

-- The marks that weren't given are the armings that are left.
pub data Plain : List Marked → List Arming → Type 0 where
  nothing : Plain [] []
  gone : {m : Marked} {ms : List Marked} {armings : List Arming} → m.given ≡ true → Plain ms armings → Plain (m ∷ ms) armings
  left : {m : Marked} {a : Arming} {ms : List Marked} {armings : List Arming} → IsArmed m.deadline m.mark a → m.given ≡ false → Plain ms armings → Plain (m ∷ ms) (a ∷ armings)

-- So are they behind some marks that were given since the last event, and whose armings make no step; none in front of those is due.
pub data Passed (s : State) : List Marked → List Arming → Type 0 where
  fresh : {ms : List Marked} {armings : List Arming} → Plain ms armings → Passed s ms armings
  gone : {m : Marked} {ms : List Marked} {armings : List Arming} → m.given ≡ true → Passed s ms armings → Passed s (m ∷ ms) armings
  later : {m : Marked} {a : Arming} {ms : List Marked} {armings : List Arming} → IsArmed m.deadline m.mark a → m.given ≡ false → nat_le a.deadline s.now ≡ false → Passed s ms armings
      → Passed s (m ∷ ms) (a ∷ armings)
  void : {m : Marked} {a : Arming} {ms : List Marked} {armings : List Arming} → m.given ≡ true → nat_le a.deadline s.now ≡ true → makes_step s a ≡ false → Passed s ms armings
      → Passed s (m ∷ ms) (a ∷ armings)

-- The same with a mark in the hand, behind all those.
pub data Held (s : State) (deadline : ℕ) (mark : Mark) : List Marked → List Arming → Type 0 where
  hand : {m : Marked} {a : Arming} {ms : List Marked} {armings : List Arming} → m.given ≡ true → IsArmed deadline mark a → nat_le a.deadline s.now ≡ true → Plain ms armings
      → Held s deadline mark (m ∷ ms) (a ∷ armings)
  gone : {m : Marked} {ms : List Marked} {armings : List Arming} → m.given ≡ true → Held s deadline mark ms armings → Held s deadline mark (m ∷ ms) armings
  later : {m : Marked} {a : Arming} {ms : List Marked} {armings : List Arming} → IsArmed m.deadline m.mark a → m.given ≡ false → nat_le a.deadline s.now ≡ false
      → Held s deadline mark ms armings → Held s deadline mark (m ∷ ms) (a ∷ armings)
  void : {m : Marked} {a : Arming} {ms : List Marked} {armings : List Arming} → m.given ≡ true → nat_le a.deadline s.now ≡ true → makes_step s a ≡ false
      → Held s deadline mark ms armings → Held s deadline mark (m ∷ ms) (a ∷ armings)

-- the clock has that mark
abbrev has_marks : List Marked → Bool
has_marks [] = false
has_marks (m ∷ ms) = true

pub held-some : (s : State) (deadline : ℕ) (mark : Mark) (ms : List Marked) (armings : List Arming) → Held s deadline mark ms armings → ms ≡ [] → ⊥
held-some s deadline mark ms armings held none = true≢false (sym (some ms armings held) ∙ ap has_marks none)
  where
    some : (ms : List Marked) (armings : List Arming) → Held s deadline mark ms armings → has_marks ms ≡ true
    some _ _ (hand given armed due plain) = refl
    some _ _ (gone given held) = refl
    some _ _ (later armed given off held) = refl
    some _ _ (void given due off held) = refl

abbrev pub AreSettled : List Marked → Type 0
AreSettled ms = list_all (λ (m : Marked). m.settled) ms ≡ true

-- Marks are due, or not.

due-is : (now : ℕ) (m : Marked) → m.settled ≡ true → m.given ≡ false → is_due now m ≡ nat_le m.deadline now
due-is now m settled given = (λ i. nat_le m.deadline now && settled i && not (given i)) ∙ by (nat_le m.deadline now)
  where
    by : (b : Bool) → (b && true && true) ≡ b
    by true = refl
    by false = refl

given-not : (now : ℕ) (m : Marked) → m.given ≡ true → is_due now m ≡ false
given-not now m given = (λ i. nat_le m.deadline now && m.settled && not (given i)) ∙ by (nat_le m.deadline now && m.settled)
  where
    by : (b : Bool) → (b && false) ≡ false
    by true = refl
    by false = refl

module _ (s : State) where
  due-later : (m : Marked) (a : Arming) → IsArmed m.deadline m.mark a → (b : Bool) → nat_le m.deadline s.now ≡ b → nat_le a.deadline s.now ≡ b
  due-later m a armed b h = ap (λ n. nat_le n s.now) armed.deadline_is ∙ h

  -- A mark that is due is given into the hand.

  abbrev Gives : List Marked → List Arming → Type 0
  Gives ms armings = AreSettled ms → (x : Marked) → first_due s.now ms ≡ Some x → Held s x.deadline x.mark (give_first s.now ms) armings

  rest-settled : (m : Marked) (ms : List Marked) → AreSettled (m ∷ ms) → AreSettled ms
  rest-settled m ms h = (and_parts m.settled (list_all (λ (m : Marked). m.settled) ms) h).1

  first-settled : (m : Marked) (ms : List Marked) → AreSettled (m ∷ ms) → m.settled ≡ true
  first-settled m ms h = (and_parts m.settled (list_all (λ (m : Marked). m.settled) ms) h).0

  -- one that isn't due stays, and the next is given
  give-behind : (m : Marked) (ms : List Marked) (armings : List Arming) → is_due s.now m ≡ false → (x : Marked) → first_due s.now (m ∷ ms) ≡ Some x
      → (first_due s.now ms ≡ Some x → Held s x.deadline x.mark (m ∷ give_first s.now ms) armings) → Held s x.deadline x.mark (give_first s.now (m ∷ ms)) armings
  give-behind m ms armings off x h next =
      subst (λ b. Held s x.deadline x.mark (if b then record m { given = true } ∷ ms else m ∷ give_first s.now ms) armings) (sym off)
      (next (sym (ap (λ b. if b then Some m else first_due s.now ms) off) ∙ h))

  -- one that is due is given
  give-here : (m : Marked) (a : Arming) (ms : List Marked) (armings : List Arming) → is_due s.now m ≡ true → IsArmed m.deadline m.mark a → nat_le a.deadline s.now ≡ true → Plain ms armings → (x : Marked)
      → first_due s.now (m ∷ ms) ≡ Some x → Held s x.deadline x.mark (give_first s.now (m ∷ ms)) (a ∷ armings)
  give-here m a ms armings on armed due plain x h =
      let same : m ≡ x = ap (λ (o : Option Marked). unwrap_or o m) (sym (ap (λ b. if b then Some m else first_due s.now ms) on) ∙ h) in
      subst (λ b. Held s x.deadline x.mark (if b then record m { given = true } ∷ ms else m ∷ give_first s.now ms) (a ∷ armings)) (sym on)
      (subst (λ (z : Marked). Held s z.deadline z.mark (record m { given = true } ∷ ms) (a ∷ armings)) same (hand {m = record m { given = true }} refl armed due plain))

  give-plain : (ms : List Marked) (armings : List Arming) → Plain ms armings → Gives ms armings
  give-plain _ _ nothing settled x h = cc
  give-plain _ _ (gone {m} {ms} {armings} given plain) settled x h =
      give-behind m ms armings (given-not s.now m given) x h (λ k. gone given (give-plain ms armings plain (rest-settled m ms settled) x k))
  give-plain _ _ (left {m} {a} {ms} {armings} armed given plain) settled x h = by (nat_le m.deadline s.now) refl (give-plain ms armings plain (rest-settled m ms settled) x)
    where
      due : is_due s.now m ≡ nat_le m.deadline s.now
      due = due-is s.now m (first-settled m ms settled) given

      by : (b : Bool) → nat_le m.deadline s.now ≡ b → (first_due s.now ms ≡ Some x → Held s x.deadline x.mark (give_first s.now ms) armings) → Held s x.deadline x.mark (give_first s.now (m ∷ ms)) (a ∷ armings)
      by true e next = give-here m a ms armings (due ∙ e) armed (due-later m a armed true e) plain x h
      by false e next = give-behind m ms (a ∷ armings) (due ∙ e) x h (λ k. later armed given (due-later m a armed false e) (next k))

  not-due : (m : Marked) (a : Arming) → IsArmed m.deadline m.mark a → nat_le a.deadline s.now ≡ false → is_due s.now m ≡ false
  not-due m a armed off = ap (λ b. b && m.settled && not m.given) (ap (λ n. nat_le n s.now) (sym armed.deadline_is) ∙ off)

  pub give-passed : (ms : List Marked) (armings : List Arming) → Passed s ms armings → Gives ms armings
  give-passed _ _ (fresh {ms} {armings} plain) settled x h = give-plain ms armings plain settled x h
  give-passed _ _ (gone {m} {ms} {armings} given passed) settled x h =
      give-behind m ms armings (given-not s.now m given) x h (λ k. gone given (give-passed ms armings passed (rest-settled m ms settled) x k))
  give-passed _ _ (later {m} {a} {ms} {armings} armed given off passed) settled x h =
      give-behind m ms (a ∷ armings) (not-due m a armed off) x h (λ k. later armed given off (give-passed ms armings passed (rest-settled m ms settled) x k))
  give-passed _ _ (void {m} {a} {ms} {armings} given due none passed) settled x h =
      give-behind m ms (a ∷ armings) (given-not s.now m given) x h (λ k. void given due none (give-passed ms armings passed (rest-settled m ms settled) x k))

  -- A mark in the hand that makes no step is passed over.

  pub hand-void : (deadline : ℕ) (mark : Mark) (ms : List Marked) (armings : List Arming) → Held s deadline mark ms armings → ((a : Arming) → IsArmed deadline mark a → makes_step s a ≡ false) → Passed s ms armings
  hand-void deadline mark _ _ (hand {m} {a} {ms} {armings} given armed due plain) none = void given due (none a armed) (fresh plain)
  hand-void deadline mark _ _ (gone {m} {ms} {armings} given held) none = gone given (hand-void deadline mark ms armings held none)
  hand-void deadline mark _ _ (later {m} {a} {ms} {armings} armed given off held) none = later armed given off (hand-void deadline mark ms armings held none)
  hand-void deadline mark _ _ (void {m} {a} {ms} {armings} given due off held) none = void given due off (hand-void deadline mark ms armings held none)

  -- One that makes a step is the first of those gone through that does.

  pub record Steps (deadline : ℕ) (mark : Mark) (ms : List Marked) (armings : List Arming) : Type 0 where
    pub arming : Arming
    pub first : (gone_through s armings).1 ≡ Some arming
    pub armed : IsArmed deadline mark arming
    pub plain : Plain ms (gone_through s armings).0

  through-later : (a : Arming) (armings : List Arming) → nat_le a.deadline s.now ≡ false → gone_through s (a ∷ armings) ≡ (a ∷ (gone_through s armings).0, (gone_through s armings).1)
  through-later a armings off =
      ap (λ b. let rest = gone_through s armings in if◌then◌else◌ {A = List Arming × Option Arming} b (if◌then◌else◌ {A = List Arming × Option Arming} (makes_step s a) (armings, Some a) rest) (a ∷ rest.0, rest.1)) off

  through-void : (a : Arming) (armings : List Arming) → nat_le a.deadline s.now ≡ true → makes_step s a ≡ false → gone_through s (a ∷ armings) ≡ gone_through s armings
  through-void a armings due off =
      λ i. let rest = gone_through s armings in if◌then◌else◌ {A = List Arming × Option Arming} (due i) (if◌then◌else◌ {A = List Arming × Option Arming} (off i) (armings, Some a) rest) (a ∷ rest.0, rest.1)

  through-here : (a : Arming) (armings : List Arming) → nat_le a.deadline s.now ≡ true → makes_step s a ≡ true → gone_through s (a ∷ armings) ≡ (armings, Some a)
  through-here a armings due on =
      λ i. let rest = gone_through s armings in if◌then◌else◌ {A = List Arming × Option Arming} (due i) (if◌then◌else◌ {A = List Arming × Option Arming} (on i) (armings, Some a) rest) (a ∷ rest.0, rest.1)

  pub hand-steps : (deadline : ℕ) (mark : Mark) (ms : List Marked) (armings : List Arming) → Held s deadline mark ms armings → ((a : Arming) → IsArmed deadline mark a → makes_step s a ≡ true) → Steps deadline mark ms armings
  hand-steps deadline mark _ _ (hand {m} {a} {ms} {armings} given armed due plain) on =
      let through = through-here a armings due (on a armed) in
      record { arming = a; first = ap (λ (z : List Arming × Option Arming). z.1) through; armed = armed; plain = gone given (subst (Plain ms) (sym (ap (λ (z : List Arming × Option Arming). z.0) through)) plain) }
  hand-steps deadline mark _ _ (gone {m} {ms} {armings} given held) on =
      let rest = hand-steps deadline mark ms armings held on in record { arming = rest.arming; first = rest.first; armed = rest.armed; plain = gone given rest.plain }
  hand-steps deadline mark _ _ (later {m} {a} {ms} {armings} armed given off held) on =
      let rest = hand-steps deadline mark ms armings held on in
      let through = through-later a armings off in
      record {
        arming = rest.arming;
        first = ap (λ (z : List Arming × Option Arming). z.1) through ∙ rest.first;
        armed = rest.armed;
        plain = subst (Plain (m ∷ ms)) (sym (ap (λ (z : List Arming × Option Arming). z.0) through)) (left armed given rest.plain);
      }
  hand-steps deadline mark _ _ (void {m} {a} {ms} {armings} given due off held) on =
      let rest = hand-steps deadline mark ms armings held on in
      let through = through-void a armings due off in
      record {
        arming = rest.arming;
        first = ap (λ (z : List Arming × Option Arming). z.1) through ∙ rest.first;
        armed = rest.armed;
        plain = subst (Plain (m ∷ ms)) (sym (ap (λ (z : List Arming × Option Arming). z.0) through)) (gone given rest.plain);
      }

  -- Where no mark is due, no arming makes a step.

  pub record StepsNone (ms : List Marked) (armings : List Arming) : Type 0 where
    pub none : (gone_through s armings).1 ≡ None
    pub plain : Plain ms (gone_through s armings).0

  pass-later : (m : Marked) (a : Arming) (ms : List Marked) (armings : List Arming) → IsArmed m.deadline m.mark a → m.given ≡ false → nat_le a.deadline s.now ≡ false → StepsNone ms armings → StepsNone (m ∷ ms) (a ∷ armings)
  pass-later m a ms armings armed given off rest =
      let through = through-later a armings off in
      record {
        none = ap (λ (z : List Arming × Option Arming). z.1) through ∙ rest.none;
        plain = subst (Plain (m ∷ ms)) (sym (ap (λ (z : List Arming × Option Arming). z.0) through)) (left armed given rest.plain);
      }

  none-first : (m : Marked) (ms : List Marked) → first_due s.now (m ∷ ms) ≡ None → (is_due s.now m ≡ false) × (first_due s.now ms ≡ None)
  none-first m ms h = by (is_due s.now m) h
    where
      by : (b : Bool) → (if b then Some m else first_due s.now ms) ≡ None → (b ≡ false) × (first_due s.now ms ≡ None)
      by true h = absurd (true≢false (ap is_some h))
      by false h = (refl, h)

  none-plain : (ms : List Marked) (armings : List Arming) → Plain ms armings → AreSettled ms → first_due s.now ms ≡ None → StepsNone ms armings
  none-plain _ _ nothing settled h = record { none = refl; plain = nothing }
  none-plain _ _ (gone {m} {ms} {armings} given plain) settled h =
      let rest = none-plain ms armings plain (rest-settled m ms settled) (none-first m ms h).1 in record { none = rest.none; plain = gone given rest.plain }
  none-plain _ _ (left {m} {a} {ms} {armings} armed given plain) settled h =
      let first = none-first m ms h in
      let off = sym (due-is s.now m (first-settled m ms settled) given) ∙ first.0 in
      pass-later m a ms armings armed given (due-later m a armed false off) (none-plain ms armings plain (rest-settled m ms settled) first.1)

  pub none-passed : (ms : List Marked) (armings : List Arming) → Passed s ms armings → AreSettled ms → first_due s.now ms ≡ None → StepsNone ms armings
  none-passed _ _ (fresh {ms} {armings} plain) settled h = none-plain ms armings plain settled h
  none-passed _ _ (gone {m} {ms} {armings} given passed) settled h =
      let rest = none-passed ms armings passed (rest-settled m ms settled) (none-first m ms h).1 in record { none = rest.none; plain = gone given rest.plain }
  none-passed _ _ (later {m} {a} {ms} {armings} armed given off passed) settled h =
      pass-later m a ms armings armed given off (none-passed ms armings passed (rest-settled m ms settled) (none-first m ms h).1)
  none-passed _ _ (void {m} {a} {ms} {armings} given due off passed) settled h =
      let rest = none-passed ms armings passed (rest-settled m ms settled) (none-first m ms h).1 in
      let through = through-void a armings due off in
      record {
        none = ap (λ (z : List Arming × Option Arming). z.1) through ∙ rest.none;
        plain = subst (Plain (m ∷ ms)) (sym (ap (λ (z : List Arming × Option Arming). z.0) through)) (gone given rest.plain);
      }

-- A deadline is armed, and a mark is settled.

pub arms-plain : (ms : List Marked) (armings : List Arming) (m : Marked) (a : Arming) → IsArmed m.deadline m.mark a → m.given ≡ false → Plain ms armings → Plain (ms ++ m ∷ []) (armings ++ a ∷ [])
arms-plain _ _ m a armed new nothing = left armed new nothing
arms-plain _ _ m a armed new (gone {m = n} {ms} {armings} given plain) = gone given (arms-plain ms armings m a armed new plain)
arms-plain _ _ m a armed new (left {m = n} {a = b} {ms} {armings} there given plain) = left there given (arms-plain ms armings m a armed new plain)

pub settles-plain : (deadline : ℕ) (mark : Mark) (ms : List Marked) (armings : List Arming) → Plain ms armings → Plain (settle_first deadline mark ms) armings
settles-plain deadline mark _ _ nothing = nothing
settles-plain deadline mark _ _ (gone {m} {ms} {armings} given plain) = by (is_unsettled deadline mark m) (settles-plain deadline mark ms armings plain)
  where
    by : (b : Bool) → Plain (settle_first deadline mark ms) armings → Plain (if b then record m { settled = true } ∷ ms else m ∷ settle_first deadline mark ms) armings
    by true rest = gone {m = record m { settled = true }} given plain
    by false rest = gone given rest
settles-plain deadline mark _ _ (left {m} {a} {ms} {armings} armed given plain) = by (is_unsettled deadline mark m) (settles-plain deadline mark ms armings plain)
  where
    by : (b : Bool) → Plain (settle_first deadline mark ms) armings → Plain (if b then record m { settled = true } ∷ ms else m ∷ settle_first deadline mark ms) (a ∷ armings)
    by true rest = left {m = record m { settled = true }} armed given plain
    by false rest = left armed given rest
