-- What a search through states shows of all runs.
use Rattle.std.proofs.Common.{◌≡◌, ℕ, ◌+◌, ◌<◌, ◌≤◌, Bool, false, IsTrue, List, [], ◌∷◌, length, refl, sym, ap, ◌∙◌, subst, arith, inl, inr, Option, None, Some, slice_get}
use Rattle.std.specs.List.{last_or}
use Rattle.std.proofs.lemmas.Bool.{false≢true}
use Rattle.std.proofs.lemmas.Option.{slice_get_within}
use Rattle.um_base.specs.declared.act.Event.{Event}
use Rattle.um_base.specs.declared.image.Image.{Image}
use Rattle.um_invariants.specs.Described.{IsDescribed}
use Rattle.um_machine.specs.Run.{IsComplete, IsRun, Runs, Step, opening}
use Rattle.um_machine.specs.State.{State}
use Rattle.um_matrix.specs.Offered.{IsStep}
use Rattle.um_matrix.proofs.OfferLemmas.{below-next, le-or-lt}
use Rattle.um_explore.specs.Failures.{Failures, failures, noted, noted_all}
use Rattle.um_explore.specs.Met.{AreDone, AreLayered, AreMet, Expands, Grows, IsDone, IsHit, IsLed, IsMet, IsNear, IsUnfinished, Leads, LeadsOn, PathTo, goes, opens}
use Rattle.um_explore.specs.Questions.{IsNever, Meets, Test, latest}
use Rattle.um_explore.specs.Steps.{AreSteps}
use Rattle.um_explore.specs.declared.met.Link.{Link}
use Rattle.um_explore.specs.declared.search.Expanded.{Expanded}
use Rattle.um_explore.proofs.MetLemmas.{led-kept, led-leads, leads-led, met-kept, one-path, one-state, path-opens, runs-one, step-one}
use Rattle.um_explore.proofs.NextLemmas.{has-step}

-- the opening alone
pub path-alone : (k : ℕ) (events : List Event) → PathTo [] k events → (k ≡ 0) × (events ≡ [])
path-alone k events path = by k events path
  where
    by : (j : ℕ) (es : List Event) → PathTo [] j es → (j ≡ 0) × (es ≡ [])
    by j es (opens here none) = (here, none)
    by j es (goes {n} {link} is at up path last) = absurd (let within = slice_get_within [] n link at in omega (arith, within))

pub alone-are : (image : Image) (links : List Link) → IsDescribed image → links ≡ [] → AreMet image links
alone-are image links is none = subst (λ (ls : List Link). AreMet image ls) (sym none) (record {
  described = is;
  tree = λ n link at. cc;
  reached = λ k within. (opening image, ([], path-opens [] k within, refl));
})

pub alone-layered : (links : List Link) → links ≡ [] → AreLayered links
alone-layered links none i j events others le path other =
    let first = ap (λ (es : List Event). length es) (path-alone i events (subst (λ (ls : List Link). PathTo ls i events) none path)).1 in omega (arith, first)

pub alone-near : (links : List Link) → links ≡ [] → IsNear links 0
alone-near links none j events others path other =
    let second = ap (λ (es : List Event). length es) (path-alone j others (subst (λ (ls : List Link). PathTo ls j others) none other)).1 in omega (arith, second)

-- Runs of no more than so many events, where each state is done to which fewer events lead.

module _ (image : Image) (asked : Test) (links : List Link) (n most : ℕ) (done : AreDone image asked links n)
    (inside : (j : ℕ) (events : List Event) → PathTo links j events → j ≤ length links → length events < most → j < n) where
  -- the state behind one step more was met, and the step doesn't come to what is asked
  one-more : (m : ℕ) (notes : Failures) (s s2 : State) (event : Event) → IsMet image links m notes s → m < most → Step s event s2 → (IsTrue (asked (Some event) s2) → ⊥) × IsMet image links (m + 1) (noted event notes) s2
  one-more m notes s s2 event (j, within, events, led, noted_so, few) less step =
      let both = done j events s (inside j events led.path within (omega (arith, few, less))) led event s2 step in
      let (i, there, others, led2, noted_there, few2) = both.1 in
      (both.0, (i, there, others, led2, noted_there ∙ ap (λ (ns : Failures). noted event ns) noted_so, omega (arith, few, few2)))

  run-met : (m : ℕ) (notes : Failures) (s s2 : State) (events : List Event) → IsMet image links m notes s → m + length events ≤ most → Runs s events s2 → IsMet image links (m + length events) (noted_all events notes) s2
  run-met m notes s s2 [] met short same =
      let (j, within, events, led, noted_so, few) = met in
      (j, within, events, record { path = led.path; run = subst (λ (now : State). IsRun image events now) (sym same) led.run }, noted_so, omega (arith, few))
  run-met m notes s s2 (e ∷ events) met short (next, step, rest) =
      let (i, within, others, led, noted_so, few) = run-met (m + 1) (noted e notes) next s2 events (one-more m notes s next e met (omega (arith, short)) step).1 (omega (arith, short)) rest in
      (i, within, others, led, noted_so, omega (arith, few))

  run-misses : (m : ℕ) (notes : Failures) (s s2 : State) (events : List Event) (before : Option Event) → IsMet image links m notes s → m + length events ≤ most → (IsTrue (asked before s) → ⊥) → Runs s events s2 → IsTrue (asked (last_or before events) s2) → ⊥
  run-misses m notes s s2 [] before met short not same meets = not (subst (λ (now : State). IsTrue (asked before now)) same meets)
  run-misses m notes s s2 (e ∷ events) before met short not (next, step, rest) meets =
      let both = one-more m notes s next e met (omega (arith, short)) step in
      run-misses (m + 1) (noted e notes) next s2 events (Some e) both.1 (omega (arith, short)) both.0 rest meets

  opening-met : IsMet image links 0 (failures []) (opening image)
  opening-met = (0, omega arith, [], record { path = path-opens links 0 (omega arith); run = refl }, refl, omega arith)

  pub each-met : (events : List Event) (s : State) → IsRun image events s → length events ≤ most → IsMet image links (length events) (failures events) s
  each-met events s run short =
      let many : 0 + length events ≡ length events = omega arith in
      subst (λ (m : ℕ). IsMet image links m (failures events) s) many (run-met 0 (failures []) (opening image) s events opening-met (omega (arith, short)) run)

  pub each-misses : (IsTrue (asked None (opening image)) → ⊥) → (events : List Event) (s : State) → IsRun image events s → length events ≤ most → Meets asked events s → ⊥
  each-misses not events s run short meets = run-misses 0 (failures []) (opening image) s events None opening-met (omega (arith, short)) not run meets

-- where every state is done
pub all-inside : (links : List Link) (n most : ℕ) → length links < n → (j : ℕ) (events : List Event) → PathTo links j events → j ≤ length links → length events < most → j < n
all-inside links n most all j events path within less = omega (arith, all, within)

pub never : (image : Image) (asked : Test) (links : List Link) (n : ℕ) → AreDone image asked links n → length links < n → (IsTrue (asked None (opening image)) → ⊥) → IsNever image asked
never image asked links n done all not events s run meets = each-misses image asked links n (length events) done (all-inside links n (length events) all) not events s run (omega arith) meets

pub all-met : (image : Image) (asked : Test) (links : List Link) (n : ℕ) → AreDone image asked links n → length links < n → (events : List Event) (s : State) → IsRun image events s → IsMet image links (length events) (failures events) s
all-met image asked links n done all events s run = each-met image asked links n (length events) done (all-inside links n (length events) all) events s run (omega arith)

-- to states before one of some number lead no more events than there
pub before-inside : (links : List Link) (k : ℕ) (front : List Event) → AreLayered links → PathTo links k front → (j : ℕ) (events : List Event) → PathTo links j events → j ≤ length links → length events < length front → j < k
before-inside links k front layered path j events other within less =
    elim (le-or-lt j k) [ inl before ↦ before | inr behind ↦ (let longer = layered k j front events behind path other in absurd (omega (arith, longer, less))) ]

-- what is asked comes no earlier than behind the events that lead to the first state that isn't done, and one more
pub first-place : (image : Image) (asked : Test) (links : List Link) (k : ℕ) (front : List Event) → AreDone image asked links k → AreLayered links → PathTo links k front → (IsTrue (asked None (opening image)) → ⊥)
    → (others : List Event) (s : State) → IsRun image others s → Meets asked others s → length front + 1 ≤ length others
first-place image asked links k front done layered path not others s run meets =
    elim (le-or-lt (length front) (length others)) [
      | inl longer ↦ omega (arith, longer)
      | inr short ↦ absurd (each-misses image asked links k (length front) done (before-inside links k front layered path) not others s run short meets)
    ]

-- One state more is done.

pub done-kept : (image : Image) (asked : Test) (before links : List Link) (n : ℕ) → AreMet image before → Grows image before links → n ≤ length before + 1 → AreDone image asked before n → AreDone image asked links n
done-kept image asked before links n are grows within done k events s less led event s2 step =
    let there = are.reached k (omega (arith, within, less)) in
    let same = one-path links k there.1.0 events (grows.paths k there.1.0 there.1.1) led.path in
    let old : IsLed image before k events s = record { path = subst (λ (es : List Event). PathTo before k es) same there.1.1; run = led.run } in
    let both = done k events s less old event s2 step in
    (both.0, met-kept image before links (length events + 1) (noted event (failures events)) s2 grows both.1)

pub done-more : (image : Image) (asked : Test) (before links : List Link) (n : ℕ) → AreMet image before → Grows image before links → n ≤ length before → AreDone image asked before n
    → ((events : List Event) (s : State) → IsLed image links n events s → IsDone image asked links events s) → AreDone image asked links (n + 1)
done-more image asked before links n are grows within done here =
    let old = done-kept image asked before links n are grows (omega (arith, within)) done in
    λ k events s less led. below-next (λ (i : ℕ). (es : List Event) (now : State) → IsLed image links i es now → IsDone image asked links es now) n (λ i h es now l. old i es now h l) here k less events s led

-- a state without a step is done
pub done-last : (image : Image) (asked : Test) (links : List Link) (n : ℕ) (here : State) → IsDescribed image → IsComplete here → Leads image links n here → (events : List Event) (s : State) → IsLed image links n events s → IsDone image asked links events s
done-last image asked links n here is complete there events s led event s2 step =
    let same = one-state image is links n s here (leads-led image links n events s led) there in absurd (complete event s2 (subst (λ (now : State). Step now event s2) same step))

-- The steps of one state.

pub unfinished-of : (s : State) (events : List Event) → AreSteps s events → 0 < length events → IsUnfinished s
unfinished-of s [] steps some = absurd (omega (arith, some))
unfinished-of s (e ∷ events) steps some = (let step = has-step s (e ∷ events) e steps (0, refl) in (e, step.0, step.1))

pub complete-of : (s : State) (events : List Event) → AreSteps s events → length events ≡ 0 → IsComplete s
complete-of s events steps none event s2 step = let has = steps.all event s2 step in let within = slice_get_within events has.0 event has.1 in absurd (omega (arith, within, none))

-- a step that doesn't come to what is asked: it leads to one state
pub not-met : (image : Image) (asked : Test) (path : List Event) (s s2 s3 : State) (event : Event) → IsDescribed image → IsRun image path s → Step s event s2 → asked (Some event) s2 ≡ false → Step s event s3 → IsTrue (asked (Some event) s3) → ⊥
not-met image asked path s s2 s3 event is run step missed other meets =
    let same = step-one image is path s run event s3 s2 other step in
    false≢true (sym missed ∙ subst (λ (now : State). IsTrue (asked (Some event) now)) same meets)

pub all-expanded : (image : Image) (asked : Test) (before links : List Link) (k n : ℕ) (state : State) (events : List Event) → IsDescribed image → Grows image before links → Leads image before k state → AreSteps state events → length events ≤ n
    → ((i : ℕ) → i < n → (event : Event) → slice_get events i ≡ Some event → ((s2 : State) → Step state event s2 → IsTrue (asked (Some event) s2) → ⊥) × LeadsOn image links k event)
    → (path_events : List Event) (s : State) → IsLed image links k path_events s → IsDone image asked links path_events s
all-expanded image asked before links k n state events is grows there steps all each path_events s led event s2 step =
    let same = one-state image is links k s state (leads-led image links k path_events s led) (there.0, grows.paths k there.0 there.1, there.2) in
    let here : Step state event s2 = subst (λ (now : State). Step now event s2) same step in
    let has = steps.all event s2 here in
    let within = slice_get_within events has.0 event has.1 in
    let both = each has.0 (omega (arith, within, all)) event has.1 in
    (both.0 s2 here, both.1 path_events s s2 led step)

-- One step more was looked at.

leads-kept : (image : Image) (before links : List Link) (k : ℕ) (event : Event) → AreMet image before → k ≤ length before → Grows image before links → LeadsOn image before k event → LeadsOn image links k event
leads-kept image before links k event are within grows leads events s s2 led step =
    let there = are.reached k within in
    let same = one-path links k there.1.0 events (grows.paths k there.1.0 there.1.1) led.path in
    let old : IsLed image before k events s = record { path = subst (λ (es : List Event). PathTo before k es) same there.1.1; run = led.run } in
    met-kept image before links (length events + 1) (noted event (failures events)) s2 grows (leads events s s2 old step)

abbrev pub IsSeen : Image → Test → List Link → ℕ → State → Event → Type 0
IsSeen image asked links k state event = ((s2 : State) → Step state event s2 → IsTrue (asked (Some event) s2) → ⊥) × LeadsOn image links k event

pub each-kept : (image : Image) (asked : Test) (before links : List Link) (k n : ℕ) (state : State) (events : List Event) (e : Event) → AreMet image before → k ≤ length before → Grows image before links
    → ((i : ℕ) → i < n → (event : Event) → slice_get events i ≡ Some event → IsSeen image asked before k state event) → slice_get events n ≡ Some e → ((s2 : State) → Step state e s2 → IsTrue (asked (Some e) s2) → ⊥) → LeadsOn image links k e
    → (i : ℕ) → i < n + 1 → (event : Event) → slice_get events i ≡ Some event → IsSeen image asked links k state event
each-kept image asked before links k n state events e are within grows each at not leads =
    below-next (λ (i : ℕ). (event : Event) → slice_get events i ≡ Some event → IsSeen image asked links k state event) n
    (λ i h event there. let seen = each i h event there in (seen.0, leads-kept image before links k event are within grows seen.1))
    (λ event there. let same : e ≡ event = (let both : Some e ≡ Some event = sym at ∙ there in cc) in subst (λ (x : Event). IsSeen image asked links k state x) same (not, leads))
