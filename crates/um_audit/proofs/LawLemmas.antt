-- A text has one verdict, and it is yes exactly where the text is that of a complete run.
use Rattle.std.proofs.Common.{◌≡◌, ◌≢◌, ◌⊎◌, inl, inr, ℕ, ◌+◌, ◌<◌, true, List, [], ◌∷◌, ◌++◌, length, take, refl, sym, ap, ◌∙◌, subst, arith, Some, slice_get}
use Rattle.std.specs.Prelude.{◌↔◌}
use Rattle.std.proofs.lemmas.Bool.{and_parts}
use Rattle.std.specs.List.{list_all}
use Rattle.um_base.specs.declared.act.Act.{Act}
use Rattle.um_base.specs.declared.act.Event.{Event}
use Rattle.um_base.specs.declared.image.Boot.{Boot}
use Rattle.um_base.specs.declared.image.Image.{Image}
use Rattle.um_base.specs.Lawful.{is_lawful_boot}
use Rattle.um_machine.specs.State.{State}
use Rattle.um_machine.specs.Run.{Step, IsComplete, opening}
use Rattle.um_machine.specs.Table.{act_of}
use Rattle.um_machine.proofs.RunLemmas.{runs-push}
use Rattle.um_trace.specs.Dump.{dump}
use Rattle.um_trace.specs.Acts.{act_text}
use Rattle.um_invariants.proofs.Cores.{core_of}
use Rattle.um_invariants.proofs.Turns.{IsKnown}
use Rattle.um_invariants.proofs.RunMoves.{known_step}
use Rattle.um_invariants.proofs.Starts.{known_or_none}
use Rattle.um_invariants.specs.Described.{IsDescribed}
use Rattle.um_texts.proofs.NameLemmas.{are_named}
use Rattle.um_texts.proofs.IdentityLemmas.{thread_known}
use Rattle.um_texts.proofs.OpeningLemmas.{kept_opening, sound_booted, idle_opening, offered_acting}
use Rattle.um_texts.proofs.StepLemmas.{IsMade, made_by, one_made, kept_made}
use Rattle.um_texts.proofs.TextLemmas.{line, same_line}
use Rattle.um_texts.proofs.RunLemmas.{acting}
use Rattle.um_audit.specs.declared.verdict.Verdict.{Verdict}
use Rattle.um_audit.specs.Lines.{pieces, line_of}
use Rattle.um_audit.specs.Steps.{IsLine, IsNoStepLine, AreStepLines}
use Rattle.um_audit.specs.Verdict.{event_pieces, dump_pieces, LeadsTo, StopsAt, no_step, no_line, DiffersAt, IsVerdict, IsTextOfRun}
use Rattle.um_audit.proofs.LineLemmas.{snoc-same, le-or-lt}
use Rattle.um_audit.proofs.PartLemmas.{step-at, get-take, take-take, get-within}
use Rattle.um_audit.proofs.WholeLemmas.{event-ended, dump-some, yes-of-run, run-of-yes}
use Rattle.um_audit.proofs.OneLemmas.{IsGood, same_state, to_both}

-- what is known at the opening, or there is no step at all
good_booted : (image : Image) → IsDescribed image → (boot : Boot) → is_lawful_boot image boot ≡ true → IsKnown (core_of (opening image)) → IsGood image (opening image)
good_booted image is boot lawful known =
    let sound = sound_booted image is.lawful is.few boot lawful in record { sound = sound; named = are_named image is.lawful; kept = kept_opening image sound; known = known; opened = known; events = []; led = refl }

good_or_none : (image : Image) → IsDescribed image → (boots : List Boot) → image.boots ≡ boots → IsGood image (opening image) ⊎ ((event : Event) (s2 : State) → Step (opening image) event s2 → ⊥)
good_or_none image is [] none = inr (λ e s2 step. idle_opening image e.thread.0 none (offered_acting (opening image) e.thread.0 step.step step.rest step.offered))
good_or_none image is (boot ∷ boots) some =
    let all : list_all (is_lawful_boot image) (boot ∷ boots) ≡ true = ap (λ (bs : List Boot). list_all (is_lawful_boot image) bs) (sym some) ∙ is.lawful.boots in
    let lawful = (and_parts (is_lawful_boot image boot) (list_all (is_lawful_boot image) boots) all).0 in
    elim (known_or_none image is) as (λ _. IsGood image (opening image) ⊎ ((event : Event) (s2 : State) → Step (opening image) event s2 → ⊥)) [
      | inl known ↦ inl (good_booted image is boot lawful known)
      | inr none ↦ inr none
    ]

good_step : (image : Image) (s : State) → IsGood image s → (e : Event) (m : State) → Step s e m → IsGood image m
good_step image s good e m step =
    record {
      sound = good.sound;
      named = good.named;
      kept = kept_made image good.sound s good.kept e.thread.0 e.act m (made_by s e m step);
      known = known_step s m e good.known step;
      opened = good.opened;
      events = good.events ++ e ∷ [];
      led = runs-push (opening image) good.events s e m good.led step;
    }

-- two steps with one line
made_one : (image : Image) (s : State) → IsGood image s → (t : ℕ) (a b : Act) (m m2 : State) → IsMade s t a m → IsMade s t b m2 → act_text image a ≡ act_text image b → m ≡ m2
made_one image s good t a b m m2 one two texts =
    let same = one_made image s s (to_both image s good) t a b m m2 one two texts in
    let acts : act_of s t one.row one.step ≡ act_of s t two.row two.step = sym one.says ∙ same.act ∙ two.says in
    one.leaves ∙ same_state image s good t one.row two.row one.step two.step one.rest two.rest one.offered two.offered one.chosen two.chosen acts ∙ sym two.leaves

event_one : (image : Image) (s : State) → IsGood image s → (l : List ℕ) (e f : Event) (m m2 : State) → IsLine image l e → IsLine image l f → Step s e m → Step s f m2 → m ≡ m2
event_one image s good l e f m m2 is other step step2 =
    let texts : line image e ≡ line image f = snoc-same (line image e) (line image f) (sym (event-ended image e) ∙ is ∙ sym other ∙ event-ended image f) in
    let parts = same_line image good.named e f texts in
    let thread : e.thread.0 ≡ f.thread.0 =
    thread_known image good.sound.lawful good.named good.sound.few e.thread.0 f.thread.0 (acting image s good.kept e m step) (acting image s good.kept f m2 step2) parts.0 in
    made_one image s good e.thread.0 e.act f.act m m2 (made_by s e m step) (subst (λ (t : ℕ). IsMade s t f.act m2) (sym thread) (made_by s f m2 step2)) parts.1

lines_one : (image : Image) (ps : List (List ℕ)) (s : State) → IsGood image s → (a b : State) → AreStepLines image s ps a → AreStepLines image s ps b → a ≡ b
lines_one image [] s good a b led other = led ∙ sym other
lines_one image (p ∷ ps) s good a b (mid, (e, is, step), led) (mid2, (f, is2, step2), other) =
    let same : mid ≡ mid2 = event_one image s good (line_of p) e f mid mid2 is is2 step step2 in
    lines_one image ps mid (good_step image s good e mid step) a b led (subst (λ (m : State). AreStepLines image m ps b) (sym same) other)

none_one : (image : Image) (ps : List (List ℕ)) (a b : State) → ((event : Event) (s2 : State) → Step (opening image) event s2 → ⊥) → AreStepLines image (opening image) ps a → AreStepLines image (opening image) ps b → a ≡ b
none_one image [] a b none led other = led ∙ sym other
none_one image (p ∷ ps) a b none (mid, (e, is, step), led) other = absurd (none e mid step)

-- lines lead from the opening to one state
pub led-one : (image : Image) → IsDescribed image → (ps : List (List ℕ)) (a b : State) → AreStepLines image (opening image) ps a → AreStepLines image (opening image) ps b → a ≡ b
led-one image is ps a b led other =
    elim (good_or_none image is image.boots refl) as (λ _. a ≡ b) [ inl good ↦ lines_one image ps (opening image) good a b led other | inr none ↦ none_one image ps a b none led other ]

-- a line that is a step from where the lines before it lead isn't one that is none
clash : (image : Image) → IsDescribed image → (ps : List (List ℕ)) (k : ℕ) (p : List ℕ) (s s2 : State) → AreStepLines image (opening image) (take k ps) s → AreStepLines image (opening image) ps s2
    → slice_get ps k ≡ Some p → IsNoStepLine image (line_of p) s → ⊥
clash image is ps k p s s2 led whole at none =
    let (mid, next, front, (e, line, step)) = step-at image ps (opening image) s2 k p whole at in
    let same : mid ≡ s = led-one image is (take k ps) mid s front led in none e next line (subst (λ (m : State). Step m e next) same step)

stop_led : (image : Image) → IsDescribed image → (bytes : List ℕ) (k : ℕ) (s s2 : State) → AreStepLines image (opening image) (take k (event_pieces bytes)) s → StopsAt image bytes k s → LeadsTo image bytes s2
    → dump_pieces bytes ≢ [] → ⊥
stop_led image is bytes k s s2 led (no_step {piece} at none) whole some = clash image is (event_pieces bytes) k piece s s2 led whole at none
stop_led image is bytes k s s2 led (no_line here nothing) whole some = some nothing

stop_less : (image : Image) → IsDescribed image → (bytes : List ℕ) (k j : ℕ) (s s2 : State) → AreStepLines image (opening image) (take k (event_pieces bytes)) s → StopsAt image bytes k s
    → AreStepLines image (opening image) (take j (event_pieces bytes)) s2 → StopsAt image bytes j s2 → k < j → ⊥
stop_less image is bytes k j s s2 led (no_step {piece} at none) other stop less =
    let ps = event_pieces bytes in
    clash image is (take j ps) k piece s s2 (subst (λ (front : List (List ℕ)). AreStepLines image (opening image) front s) (sym (take-take ps k j less)) led) other (get-take ps k j less ∙ at) none
stop_less image is bytes k j s s2 led (no_line here nothing) other (no_step {piece} at none) less =
    let within = get-within (event_pieces bytes) j piece at in omega (arith, within, here, less)
stop_less image is bytes k j s s2 led (no_line here nothing) other (no_line there empty) less = omega (arith, here, there, less)

three : (k j : ℕ) → (k < j) ⊎ ((j < k) ⊎ (k ≡ j))
three k j = elim (le-or-lt k j) [ inl less ↦ inl less | inr more ↦ elim (le-or-lt j k) [ inl less ↦ inr (inl less) | inr same ↦ inr (inr (omega (arith, more, same))) ] ]

stop_same : (image : Image) → IsDescribed image → (bytes : List ℕ) (k j : ℕ) (s s2 : State) → AreStepLines image (opening image) (take k (event_pieces bytes)) s → StopsAt image bytes k s
    → AreStepLines image (opening image) (take j (event_pieces bytes)) s2 → StopsAt image bytes j s2 → k ≡ j
stop_same image is bytes k j s s2 led stop other stops =
    elim (three k j) as (λ _. k ≡ j) [
      | inl less ↦ absurd (stop_less image is bytes k j s s2 led stop other stops less)
      | inr (inl more) ↦ absurd (stop_less image is bytes j k s2 s other stops led stop more)
      | inr (inr same) ↦ same
    ]

-- two lists differ first at one place
differs_less : (xs ys : List (List ℕ)) (i j : ℕ) → DiffersAt xs ys i → DiffersAt xs ys j → i < j → ⊥
differs_less xs ys i j one two less =
    one.1 (sym (get-take xs i j less) ∙ ap (λ (zs : List (List ℕ)). slice_get zs i) two.0 ∙ get-take ys i j less)

differs_same : (xs ys : List (List ℕ)) (i j : ℕ) → DiffersAt xs ys i → DiffersAt xs ys j → i ≡ j
differs_same xs ys i j one two =
    elim (three i j) as (λ _. i ≡ j) [
      | inl less ↦ absurd (differs_less xs ys i j one two less)
      | inr (inl more) ↦ absurd (differs_less xs ys j i two one more)
      | inr (inr same) ↦ same
    ]

no_difference : (xs ys : List (List ℕ)) (j : ℕ) → xs ≡ ys → DiffersAt xs ys j → ⊥
no_difference xs ys j same apart = apart.1 (ap (λ (zs : List (List ℕ)). slice_get zs j) same)

some_dump : (image : Image) (bytes : List ℕ) (s : State) → dump_pieces bytes ≡ pieces (dump image s) → dump_pieces bytes ≢ []
some_dump image bytes s same none = dump-some image s (sym same ∙ none)

at_state : (image : Image) (bytes : List ℕ) (j : ℕ) (s s2 : State) → s2 ≡ s → DiffersAt (dump_pieces bytes) (pieces (dump image s2)) j → DiffersAt (dump_pieces bytes) (pieces (dump image s)) j
at_state image bytes j s s2 same apart = subst (λ (m : State). DiffersAt (dump_pieces bytes) (pieces (dump image m)) j) same apart

-- A text has one verdict.
pub one-verdict : (image : Image) → IsDescribed image → (bytes : List ℕ) (v w : Verdict) → IsVerdict image bytes v → IsVerdict image bytes w → v ≡ w
one-verdict image is bytes Verdict.Yes Verdict.Yes a b = refl
one-verdict image is bytes Verdict.Yes (Verdict.NoStep line) (s, led, complete, same) (k, s2, e, front, stop) =
    absurd (stop_led image is bytes k s2 s front stop led (some_dump image bytes s same))
one-verdict image is bytes Verdict.Yes Verdict.NotComplete (s, led, complete, same) (s2, other, some, open_end) =
    absurd (open_end (subst IsComplete (led-one image is (event_pieces bytes) s s2 led other) complete))
one-verdict image is bytes Verdict.Yes (Verdict.NoDump line) (s, led, complete, same) (j, s2, e, other, some, complete2, apart) =
    absurd (no_difference (dump_pieces bytes) (pieces (dump image s)) j same (at_state image bytes j s s2 (led-one image is (event_pieces bytes) s2 s other led) apart))
one-verdict image is bytes (Verdict.NoStep line) Verdict.Yes (k, s2, e, front, stop) (s, led, complete, same) =
    absurd (stop_led image is bytes k s2 s front stop led (some_dump image bytes s same))
one-verdict image is bytes (Verdict.NoStep line) (Verdict.NoStep other) (k, s, e, front, stop) (j, s2, f, back, stops) =
    let same = stop_same image is bytes k j s s2 front stop back stops in ap (λ (n : ℕ). Verdict.NoStep n) (e ∙ ap (λ (n : ℕ). n + 1) same ∙ sym f)
one-verdict image is bytes (Verdict.NoStep line) Verdict.NotComplete (k, s2, e, front, stop) (s, led, some, open_end) = absurd (stop_led image is bytes k s2 s front stop led some)
one-verdict image is bytes (Verdict.NoStep line) (Verdict.NoDump other) (k, s2, e, front, stop) (j, s, f, led, some, complete, apart) = absurd (stop_led image is bytes k s2 s front stop led some)
one-verdict image is bytes Verdict.NotComplete Verdict.Yes (s2, other, some, open_end) (s, led, complete, same) =
    absurd (open_end (subst IsComplete (led-one image is (event_pieces bytes) s s2 led other) complete))
one-verdict image is bytes Verdict.NotComplete (Verdict.NoStep line) (s, led, some, open_end) (k, s2, e, front, stop) = absurd (stop_led image is bytes k s2 s front stop led some)
one-verdict image is bytes Verdict.NotComplete Verdict.NotComplete a b = refl
one-verdict image is bytes Verdict.NotComplete (Verdict.NoDump line) (s, led, some, open_end) (j, s2, e, other, some2, complete, apart) =
    absurd (open_end (subst IsComplete (led-one image is (event_pieces bytes) s2 s other led) complete))
one-verdict image is bytes (Verdict.NoDump line) Verdict.Yes (j, s2, e, other, some, complete2, apart) (s, led, complete, same) =
    absurd (no_difference (dump_pieces bytes) (pieces (dump image s)) j same (at_state image bytes j s s2 (led-one image is (event_pieces bytes) s2 s other led) apart))
one-verdict image is bytes (Verdict.NoDump other) (Verdict.NoStep line) (j, s, f, led, some, complete, apart) (k, s2, e, front, stop) = absurd (stop_led image is bytes k s2 s front stop led some)
one-verdict image is bytes (Verdict.NoDump line) Verdict.NotComplete (j, s2, e, other, some2, complete, apart) (s, led, some, open_end) =
    absurd (open_end (subst IsComplete (led-one image is (event_pieces bytes) s2 s other led) complete))
one-verdict image is bytes (Verdict.NoDump line) (Verdict.NoDump more) (j, s, e, led, some, complete, apart) (i, s2, f, other, some2, complete2, apart2) =
    let same = differs_same (dump_pieces bytes) (pieces (dump image s)) j i apart (at_state image bytes i s s2 (led-one image is (event_pieces bytes) s2 s other led) apart2) in
    ap (λ (n : ℕ). Verdict.NoDump n) (e ∙ ap (λ (n : ℕ). length (event_pieces bytes) + n + 1) same ∙ sym f)

-- It is yes exactly where the text is that of a complete run.
pub yes-is : (image : Image) → IsDescribed image → (bytes : List ℕ) (v : Verdict) → IsVerdict image bytes v → IsTextOfRun image bytes → v ≡ Verdict.Yes
yes-is image is bytes v verdict run = one-verdict image is bytes v Verdict.Yes verdict (yes-of-run image is.lawful bytes run)

pub is-run : (image : Image) (bytes : List ℕ) (v : Verdict) → IsVerdict image bytes v → v ≡ Verdict.Yes → IsTextOfRun image bytes
is-run image bytes v verdict same = run-of-yes image bytes (subst (λ (w : Verdict). IsVerdict image bytes w) same verdict)

pub exact-of : (image : Image) → IsDescribed image → (bytes : List ℕ) (v : Verdict) → IsVerdict image bytes v → (v ≡ Verdict.Yes) ↔ IsTextOfRun image bytes
exact-of image is bytes v verdict = (is-run image bytes v verdict, yes-is image is bytes v verdict)
