-- A run that is shown, and what it shows.
use Rattle.std.proofs.Common.{◌≡◌, ℕ, ◌+◌, ◌≤◌, Bool, IsTrue, List, [], ◌∷◌, ◌++◌, length, length-append, refl, sym, ap, ◌∙◌, subst, append_assoc, arith, Result, Ok, Err, Option, None, Some}
use Rattle.std.specs.List.{last_or}
use Rattle.std.specs.Prelude.{IfOk}
use Rattle.um_base.specs.declared.act.Event.{Event}
use Rattle.um_base.specs.declared.image.Image.{Image}
use Rattle.um_invariants.specs.Described.{IsDescribed}
use Rattle.um_machine.specs.Run.{IsComplete, IsRun, Runs, Step, opening}
use Rattle.um_machine.specs.State.{State}
use Rattle.um_machine.proofs.RunLemmas.{runs-push}
use Rattle.um_matrix.specs.Offered.{IsStep}
use Rattle.um_trace.specs.Text.{text}
use Rattle.um_explore.specs.Met.{AreDone, AreLayered, IsHit, IsLed, Leads, PathTo, Shows, ShowsOpening}
use Rattle.um_explore.specs.Questions.{IsFinding, Test, latest}
use Rattle.um_explore.specs.declared.finding.Finding.{Finding}
use Rattle.um_explore.specs.declared.met.Link.{Link}
use Rattle.um_explore.proofs.MetLemmas.{one-path, one-state}
use Rattle.um_explore.proofs.SearchLemmas.{first-place}

-- what follows, of each value, from what an Ok says of it
pub ok-each : {A E : Type 0} (P Q : A → Type 0) (r : Result A E) → IfOk r P → ((x : A) → P x → Q x) → IfOk r Q
ok-each P Q (Ok x) h so = so x h
ok-each P Q (Err e) h so = tt

pub hit-step : (image : Image) (asked : Test) (links : List Link) (k : ℕ) (event : Event) → IsDescribed image → IsHit image asked links k event → (s : State) → Leads image links k s → IsStep s event
hit-step image asked links k event is (state, s2, leads, step, meets) s there =
    let same = one-state image is links k state s leads there in (s2, subst (λ (now : State). Step now event s2) same step)

pub shows : (image : Image) (links : List Link) (k : ℕ) (event : Event) (front run all more : List Event) (s s1 last : State) (bytes : List ℕ) → IsLed image links k front s → Step s event s1 → run ≡ front ++ event ∷ []
    → ((o : State) → Runs o run s1 → Runs o all last) → all ≡ run ++ more → IsComplete last → bytes ≡ text image all last
    → (before : List Event) × (behind : List Event) × (final : State) × PathTo links k before × IsRun image (before ++ event ∷ behind) final × IsComplete final × (bytes ≡ text image (before ++ event ∷ behind) final)
shows image links k event front run all more s s1 last bytes led step pushed goes_on is complete text_is =
    let next : Runs (opening image) run s1 = subst (λ (es : List Event). Runs (opening image) es s1) (sym pushed) (runs-push (opening image) front s event s1 led.run step) in
    let whole : all ≡ front ++ event ∷ more = is ∙ ap (λ (es : List Event). es ++ more) pushed ∙ append_assoc front (event ∷ []) more in
    (front, more, last, led.path, subst (λ (es : List Event). Runs (opening image) es last) whole (goes_on (opening image) next), complete, text_is ∙ ap (λ (es : List Event). text image es last) whole)

-- the last event of a list
last-push : (before : Option Event) (events : List Event) (e : Event) → last_or before (events ++ e ∷ []) ≡ Some e
last-push before [] e = refl
last-push before (x ∷ events) e = last-push (Some x) events e

pub finding-of : (image : Image) (asked : Test) (links : List Link) (k : ℕ) (event : Event) → AreLayered links → AreDone image asked links k → (IsTrue (asked None (opening image)) → ⊥) → IsHit image asked links k event → (finding : Finding)
    → Shows image links k event finding → IsFinding image asked finding
finding-of image asked links k event layered done not (s, s2, leads, step, meets) (Finding.Found bytes) (front, more, last, path, run, complete, is) =
    let here : IsRun image front s = subst (λ (es : List Event). IsRun image es s) (one-path links k leads.0 front leads.1 path) leads.2 in
    let whole = append_assoc front (event ∷ []) more in
    record {
      front = front ++ event ∷ [];
      more = more;
      here = s2;
      last = last;
      comes = runs-push (opening image) front s event s2 here step;
      meets = subst (λ (o : Option Event). IsTrue (asked o s2)) (sym (last-push None front event)) meets;
      run = subst (λ (es : List Event). IsRun image es last) (sym whole) run;
      complete = complete;
      is = is ∙ ap (λ (es : List Event). text image es last) (sym whole);
      first = λ others o other comes.
          let place = first-place image asked links k front done layered path not others o other comes in let long = length-append front (event ∷ []) in omega (arith, place, long);
    }
finding-of image asked links k event layered done not hit (Finding.Never states) none = absurd none
finding-of image asked links k event layered done not hit (Finding.Unknown states unseen) shown = tt

-- the opening comes to what is asked already
pub opening-finding : (image : Image) (asked : Test) → IsTrue (asked None (opening image)) → (finding : Finding) → ShowsOpening image finding → IsFinding image asked finding
opening-finding image asked meets (Finding.Found bytes) (events, last, run, complete, is) = record {
  front = [];
  more = events;
  here = opening image;
  last = last;
  comes = refl;
  meets = meets;
  run = run;
  complete = complete;
  is = is;
  first = λ others s other comes. omega arith;
}
opening-finding image asked meets (Finding.Never states) none = absurd none
opening-finding image asked meets (Finding.Unknown states unseen) shown = tt
