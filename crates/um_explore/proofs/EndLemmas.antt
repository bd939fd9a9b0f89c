-- The ways in which runs end, as a search finds them.
use Rattle.std.proofs.Common.{◌≡◌, ℕ, zero, suc, ◌+◌, ◌<◌, ◌≤◌, Bool, true, false, IsTrue, List, [], ◌∷◌, ◌++◌, length, refl, sym, ap, ◌∙◌, subst, arith, inl, inr, length-append, length-take, append_assoc, Option, None, Some, get_or, slice_get, take}
use Rattle.std.proofs.lemmas.List.{append-nil, take_more}
use Rattle.std.proofs.lemmas.Option.{slice_get_within}
use Rattle.um_base.specs.declared.act.Event.{Event}
use Rattle.um_base.specs.declared.image.Image.{Image}
use Rattle.um_invariants.specs.Described.{IsDescribed}
use Rattle.um_machine.specs.Run.{IsComplete, IsRun, Step}
use Rattle.um_machine.specs.State.{State}
use Rattle.um_matrix.proofs.OfferLemmas.{below-next, le-or-lt}
use Rattle.um_trace.specs.Dump.{threads_text}
use Rattle.um_explore.specs.Ends.{AreEnds, AreTold, AreWays, Ending, HasWay, HaveAllWays, IsEnding, IsPlaceOf, IsToldOf, IsWayOf, ending_text, endings_text, failure_line, failure_lines, way}
use Rattle.um_explore.specs.Failures.{Failures, failures}
use Rattle.um_explore.specs.Met.{AreDone, AreLayered, AreMet, Grows, IsLed, IsUnfinished, Leads, PathTo}
use Rattle.um_explore.specs.Questions.{Test}
use Rattle.um_explore.specs.declared.failures.Failure.{Failure}
use Rattle.um_explore.specs.declared.met.Link.{Link}
use Rattle.um_explore.specs.declared.ways.Way.{Way}
use Rattle.um_explore.proofs.MetLemmas.{get-front, get-less, get-more, leads-led, led-kept, one-path, one-state}
use Rattle.um_explore.proofs.SearchLemmas.{all-met}
use Rattle.um_explore.proofs.StepLemmas.{none-below}

-- events lead to the state of a number that was met before, so they did before
back : (image : Image) (before links : List Link) (j : ℕ) (events : List Event) (s : State) → AreMet image before → Grows image before links → j ≤ length before → IsLed image links j events s → IsLed image before j events s
back image before links j events s are grows within led =
    let there = are.reached j within in
    let same = one-path links j there.1.0 events (grows.paths j there.1.0 there.1.1) led.path in
    record { path = subst (λ (es : List Event). PathTo before j es) same there.1.1; run = led.run }

pub ways-kept : (image : Image) (before links : List Link) (n : ℕ) (ways : List Way) → AreMet image before → Grows image before links → n ≤ length before + 1 → AreWays image before n ways → AreWays image links n ways
ways-kept image before links n ways are grows within known =
    let more = grows.more in
    record {
      each = λ i w at.
          let old = known.each i w at in
          let there = old.within in
          record {
            events = old.events;
            last = old.last;
            within = omega (arith, there, more);
            before = old.before;
            led = led-kept image before links w.number old.events old.last grows old.led;
            complete = old.complete;
            is = old.is;
            first = λ j others s less led complete is. old.first j others s less (back image before links j others s are grows (omega (arith, less, within)) led) complete is;
          };
      all = λ j events s less led complete. known.all j events s less (back image before links j events s are grows (omega (arith, less, within)) led) complete;
    }

-- Behind one state more.

way-next : (image : Image) (links : List Link) (n : ℕ) (w : Way) → IsWayOf image links n w → ((others : List Event) (s : State) → IsLed image links n others s → IsComplete s → w.text.items ≡ way image others s → w.number ≤ n) → IsWayOf image links (n + 1) w
way-next image links n w old here =
    let before = old.before in
    record {
      events = old.events;
      last = old.last;
      within = old.within;
      before = omega (arith, before);
      led = old.led;
      complete = old.complete;
      is = old.is;
      first = λ j others s less led complete is.
          below-next (λ (i : ℕ). (es : List Event) (now : State) → IsLed image links i es now → IsComplete now → w.text.items ≡ way image es now → w.number ≤ i) n
          (λ i h es now l c e. old.first i es now h l c e) here j less others s led complete is;
    }

ways-next : (image : Image) (links : List Link) (n : ℕ) (ways more : List Way) → ((i : ℕ) (w : Way) → slice_get more i ≡ Some w → IsWayOf image links (n + 1) w) → ((text : List ℕ) → HasWay ways text → HasWay more text)
    → AreWays image links n ways → ((events : List Event) (s : State) → IsLed image links n events s → IsComplete s → HasWay more (way image events s)) → AreWays image links (n + 1) more
ways-next image links n ways more each keeps known here = record {
  each = each;
  all = λ j events s less led complete.
      below-next (λ (i : ℕ). (es : List Event) (now : State) → IsLed image links i es now → IsComplete now → HasWay more (way image es now)) n
      (λ i h es now l c. keeps (way image es now) (known.all i es now h l c)) here j less events s led complete;
}

-- a state that has a step ends no run
pub ways-unfinished : (image : Image) (links : List Link) (n : ℕ) (ways : List Way) (here : State) → IsDescribed image → IsUnfinished here → Leads image links n here → AreWays image links n ways → AreWays image links (n + 1) ways
ways-unfinished image links n ways here is (event, s2, step) there known =
    let never : (events : List Event) (s : State) → IsLed image links n events s → IsComplete s → ⊥ = λ events s led complete.
    let same = one-state image is links n here s there (leads-led image links n events s led) in complete event s2 (subst (λ (now : State). Step now event s2) same step) in
    ways-next image links n ways ways (λ i w at. way-next image links n w (known.each i w at) (λ others s led complete text. absurd (never others s led complete))) (λ text has. has) known (λ events s led complete. absurd (never events s led complete))

-- the way of a state
same-way : (image : Image) (links : List Link) (n : ℕ) (events others : List Event) (here s : State) (text : List ℕ) → IsDescribed image → IsLed image links n events here → text ≡ way image events here → IsLed image links n others s → text ≡ way image others s
same-way image links n events others here s text is led told other =
    let alike = one-path links n events others led.path other.path in
    let same = one-state image is links n here s (leads-led image links n events here led) (leads-led image links n others s other) in
    told ∙ ap (λ (es : List Event). way image es here) alike ∙ ap (λ (now : State). way image others now) same

pub ways-known : (image : Image) (links : List Link) (n i : ℕ) (ways : List Way) (events : List Event) (here : State) (text : List ℕ) → IsDescribed image → IsLed image links n events here → text ≡ way image events here → IsPlaceOf ways text (Some i)
    → AreWays image links n ways → AreWays image links (n + 1) ways
ways-known image links n i ways events here text is led told (w, at, has) known =
    ways-next image links n ways ways (λ j v there. let old = known.each j v there in let before = old.before in way-next image links n v old (λ others s l c e. omega (arith, before))) (λ other h. h) known
    (λ others s other complete. (i, w, at, has ∙ same-way image links n events others here s text is led told other))

has-more : (ways : List Way) (new : Way) (text : List ℕ) → HasWay ways text → HasWay (ways ++ new ∷ []) text
has-more ways new text (i, w, at, is) = (i, w, get-more ways (new ∷ []) i w at, is)

-- the places of a list with one more
at-more : {A : Type 0} (P : A → Type 0) (xs : List A) (x : A) → ((i : ℕ) (y : A) → slice_get xs i ≡ Some y → P y) → P x → (i : ℕ) (y : A) → slice_get (xs ++ x ∷ []) i ≡ Some y → P y
at-more P [] x each here zero y at = (let same : x ≡ y = cc in subst P same here)
at-more P [] x each here (suc i) y at = cc
at-more P (z ∷ xs) x each here zero y at = each zero y at
at-more P (z ∷ xs) x each here (suc i) y at = at-more P xs x (λ j w h. each (suc j) w h) here i y at

pub ways-new : (image : Image) (links : List Link) (n : ℕ) (ways more : List Way) (new : Way) (events : List Event) (here : State) → IsDescribed image → n ≤ length links → IsLed image links n events here → IsComplete here
    → new.number ≡ n → new.text.items ≡ way image events here → (HasWay ways new.text.items → ⊥) → more ≡ ways ++ new ∷ [] → AreWays image links n ways → AreWays image links (n + 1) more
ways-new image links n ways more new events here is within led complete numbered told none grown known =
    let at_n : IsLed image links new.number events here = subst (λ (i : ℕ). IsLed image links i events here) (sym numbered) led in
    let it : IsWayOf image links (n + 1) new = record {
      events = events;
      last = here;
      within = omega (arith, within, numbered);
      before = omega (arith, numbered);
      led = at_n;
      complete = complete;
      is = told;
      first = λ j others s less other c text.
          elim (le-or-lt j n) [
            | inl before ↦ (let (i, w, at, has) = known.all j others s before other c in absurd (none (i, w, at, has ∙ sym text)))
            | inr past ↦ omega (arith, numbered, past)
          ];
    } in
    subst (λ (ws : List Way). AreWays image links (n + 1) ws) (sym grown) (
    ways-next image links n ways (ways ++ new ∷ [])
    (at-more (λ (w : Way). IsWayOf image links (n + 1) w) ways new (λ i w at. let old = known.each i w at in let before = old.before in way-next image links n w old (λ others s l c e. omega (arith, before))) it)
    (λ text has. has-more ways new text has) known (λ others s other c. (length ways, new, get-front ways new, same-way image links n events others here s new.text.items is led told other)))

-- All states were looked at.

some-at : {A : Type 0} (xs : List A) (i : ℕ) → i < length xs → (x : A) × (slice_get xs i ≡ Some x)
some-at [] i less = absurd (omega (arith, less))
some-at (x ∷ xs) zero less = (x, refl)
some-at (x ∷ xs) (suc i) less = some-at xs i (omega (arith, less))

-- the same state, with the same failures on the way to it, is the same way to end
alike : (image : Image) (events others : List Event) (s : State) → failures events ≡ failures others → way image events s ≡ way image others s
alike image events others s same = ap (λ (notes : Failures). threads_text image s ++ failure_lines image 0 notes) same

pub all-ends : (image : Image) (links : List Link) (ways : List Way) (endings : List Ending) → HaveAllWays image links ways → AreTold links ways endings → length endings ≡ length ways → AreEnds image endings
all-ends image links ways endings all told many = record {
  each = λ k ending at.
      let (w, there, of) = told k ending at in
      let known = all.known.each k w there in
      let same : known.events ≡ ending.events = one-path links w.number known.events ending.events known.led.path of.path in
      record {
        last = known.last;
        run = subst (λ (es : List Event). IsRun image es known.last) same known.led.run;
        complete = known.complete;
        is = of.way ∙ known.is ∙ ap (λ (es : List Event). way image es known.last) same;
        first = λ events s run complete is.
            let (j, within, others, led, noted_so, few) = all-met image (λ latest now. false) links all.n all.done all.past events s run in
            let past = all.past in
            let before = known.first j others s (omega (arith, within, past)) led complete (sym of.way ∙ is ∙ sym (alike image others events s noted_so)) in
            let longer = all.layered w.number j ending.events others before of.path led.path in
            omega (arith, longer, few);
      };
  all = λ events last run complete.
      let (j, within, others, led, noted_so, few) = all-met image (λ latest now. false) links all.n all.done all.past events last run in
      let past = all.past in
      let (i, w, at, is) = all.known.all j others last (omega (arith, within, past)) led complete in
      let inside = slice_get_within ways i w at in
      let (ending, here) = some-at endings i (omega (arith, inside, many)) in
      let (v, there, of) = told i ending here in
      let same : v ≡ w = (let both : Some v ≡ Some w = sym there ∙ at in cc) in
      (i, ending, here, of.way ∙ ap (λ (x : Way). x.text.items) same ∙ is ∙ alike image others events last noted_so);
}

-- one end more is told
pub told-more : (image : Image) (endings : List Ending) (ending : Ending) (k : ℕ) → endings_text image k (endings ++ ending ∷ []) ≡ endings_text image k endings ++ ending_text image (k + length endings) ending
told-more image [] ending k = (let none : k + 0 ≡ k = omega arith in append-nil (ending_text image k ending) ∙ ap (λ (i : ℕ). ending_text image i ending) (sym none))
told-more image (e ∷ endings) ending k =
    let next : k + 1 + length endings ≡ k + suc (length endings) = omega arith in
    ap (λ (rest : List ℕ). ending_text image k e ++ rest) (told-more image endings ending (k + 1) ∙ ap (λ (i : ℕ). endings_text image (k + 1) endings ++ ending_text image i ending) next)
    ∙ sym (append_assoc (ending_text image k e) (endings_text image (k + 1) endings) (ending_text image (k + suc (length endings)) ending))

pub told-each : (links : List Link) (ways : List Way) (endings : List Ending) (ending : Ending) (w : Way) → AreTold links ways endings → slice_get ways (length endings) ≡ Some w → IsToldOf links w ending → AreTold links ways (endings ++ ending ∷ [])
told-each links ways endings ending w told at of i e there =
    elim (le-or-lt i (length endings)) [
      | inl before ↦ told i e (get-less endings (ending ∷ []) i e before there)
      | inr past ↦
          (let inside = slice_get_within (endings ++ ending ∷ []) i e there in
          let here : i ≡ length endings = grind (arith, length-append, inside, past) in
          let same : ending ≡ e = (let both : Some ending ≡ Some e = sym (get-front endings ending) ∙ ap (λ (k : ℕ). slice_get (endings ++ ending ∷ []) k) (sym here) ∙ there in cc) in
          (w, ap (λ (k : ℕ). slice_get ways k) here ∙ at, subst (λ (x : Ending). IsToldOf links w x) same of))
    ]

-- the lines of failures, with one more at the end
failure-lines-more : (image : Image) (notes : Failures) (note : Option Failure) (k : ℕ) → failure_lines image k (notes ++ note ∷ []) ≡ failure_lines image k notes ++ failure_line image (k + length notes) note
failure-lines-more image [] note k = (let none : k + 0 ≡ k = omega arith in append-nil (failure_line image k note) ∙ ap (λ (i : ℕ). failure_line image i note) (sym none))
failure-lines-more image (n ∷ notes) note k =
    let next : k + 1 + length notes ≡ k + suc (length notes) = omega arith in
    ap (λ (rest : List ℕ). failure_line image k n ++ rest) (failure-lines-more image notes note (k + 1) ∙ ap (λ (i : ℕ). failure_lines image (k + 1) notes ++ failure_line image i note) next)
    ∙ sym (append_assoc (failure_line image k n) (failure_lines image (k + 1) notes) (failure_line image (k + suc (length notes)) note))

pub failures-next : (image : Image) (old text more : List ℕ) (notes : Failures) (t : ℕ) (note : Option Failure) → t < length notes → get_or notes t None ≡ note → text ≡ old ++ failure_lines image 0 (take t notes) → more ≡ text ++ failure_line image t note
    → more ≡ old ++ failure_lines image 0 (take (t + 1) notes)
failures-next image old text more notes t note within is so_far adds =
    let long : 0 + length (take t notes) ≡ t = grind (arith, length-take, within) in
    let whole : take (t + 1) notes ≡ take t notes ++ note ∷ [] = take_more notes t None within ∙ ap (λ (x : Option Failure). take t notes ++ x ∷ []) is in
    let lines : failure_lines image 0 (take (t + 1) notes) ≡ failure_lines image 0 (take t notes) ++ failure_line image t note =
    ap (λ (ns : Failures). failure_lines image 0 ns) whole ∙ failure-lines-more image (take t notes) note 0 ∙ ap (λ (i : ℕ). failure_lines image 0 (take t notes) ++ failure_line image i note) long in
    adds ∙ ap (λ (bytes : List ℕ). bytes ++ failure_line image t note) so_far ∙ append_assoc old (failure_lines image 0 (take t notes)) (failure_line image t note) ∙ ap (λ (bytes : List ℕ). old ++ bytes) (sym lines)

-- so many of the ways are told, and this is the text of their ends
abbrev pub AreListed : Image → List Link → List Way → ℕ → List ℕ → Type 0
AreListed image links ways k text = (listed : List Ending) × AreTold links ways listed × (length listed ≡ k) × (text ≡ endings_text image 0 listed)

pub told-next : (image : Image) (links : List Link) (ways : List Way) (w : Way) (k : ℕ) (text more : List ℕ) (ending : Ending) → slice_get ways k ≡ Some w → IsToldOf links w ending → more ≡ text ++ ending_text image k ending
    → AreListed image links ways k text → AreListed image links ways (k + 1) more
told-next image links ways w k text more ending at of adds (listed, told, many, is) =
    let here : slice_get ways (length listed) ≡ Some w = ap (λ (i : ℕ). slice_get ways i) many ∙ at in
    let numbered : 0 + length listed ≡ k = omega (arith, many) in
    let long : length (listed ++ ending ∷ []) ≡ k + 1 = grind (arith, length-append, many) in
    let lines = told-more image listed ending 0 ∙ ap (λ (i : ℕ). endings_text image 0 listed ++ ending_text image i ending) numbered in
    (listed ++ ending ∷ [], told-each links ways listed ending w told here of, long, adds ∙ ap (λ (bytes : List ℕ). bytes ++ ending_text image k ending) is ∙ sym lines)

-- an end is told in three parts
pub in-parts : (old front middle back one two three : List ℕ) → one ≡ old ++ front → two ≡ one ++ middle → three ≡ two ++ back → three ≡ old ++ (front ++ middle ++ back)
in-parts old front middle back one two three a b c = c ∙ ap (λ (bytes : List ℕ). bytes ++ back) (b ∙ ap (λ (bytes : List ℕ). bytes ++ middle) a) ∙ simp append_assoc refl

-- these events lead to the state of a number
pub path-led : (image : Image) (links : List Link) (k : ℕ) (events : List Event) (here : State) → PathTo links k events → Leads image links k here → IsLed image links k events here
path-led image links k events here path there =
    let same = one-path links k there.0 events there.1 path in
    record { path = path; run = subst (λ (es : List Event). IsRun image es here) same there.2 }

pub clash : (b : Bool) → b ≡ true → b ≡ false → ⊥
clash b is not = let both : true ≡ false = sym is ∙ not in cc

-- before the first state, no way is known
pub ways-none : (image : Image) (links : List Link) (ways : List Way) → ways ≡ [] → AreWays image links 0 ways
ways-none image links ways none = record {
  each = λ i w at. absurd (none-below i (slice_get_within [] i w (ap (λ (ws : List Way). slice_get ws i) (sym none) ∙ at)));
  all = λ j events s less led complete. absurd (none-below j less);
}

pub place-same : (these ways : List Way) (this text : List ℕ) (place is : Option ℕ) → these ≡ ways → this ≡ text → place ≡ is → IsPlaceOf these this place → IsPlaceOf ways text is
place-same these ways this text place is a b d h =
    subst (λ (p : Option ℕ). IsPlaceOf ways text p) d (subst (λ (t : List ℕ). IsPlaceOf ways t place) b (subst (λ (ws : List Way). IsPlaceOf ws this place) a h))
