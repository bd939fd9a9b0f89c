-- Two runs of an image whose texts are equal are one list of events.
use Rattle.std.proofs.Common.{◌≡◌, ◌≤◌, inl, inr, ℕ, true, List, [], ◌∷◌, ◌++◌, length, refl, sym, ap, ◌∙◌, subst}
use Rattle.std.proofs.lemmas.Bool.{and_parts}
use Rattle.std.specs.List.{list_all}
use Rattle.um_base.specs.declared.act.Act.{Act}
use Rattle.um_base.specs.declared.act.Event.{Event}
use Rattle.um_base.specs.declared.image.Boot.{Boot}
use Rattle.um_base.specs.declared.image.Image.{Image}
use Rattle.um_base.specs.declared.limits.TheConstants.{STATIC_ROWS}
use Rattle.um_base.specs.Lawful.{IsLawful, is_lawful_boot}
use Rattle.um_machine.specs.State.{State}
use Rattle.um_machine.specs.Run.{Step, Runs, IsRun, opening}
use Rattle.um_machine.proofs.RunLemmas.{runs-push}
use Rattle.um_invariants.proofs.Starts.{known_or_none}
use Rattle.um_invariants.proofs.ThreadRuns.{reached-kept}
use Rattle.um_invariants.proofs.ThreadWords.{AreKept}
use Rattle.um_invariants.specs.Described.{IsDescribed}
use Rattle.um_trace.specs.Text.{text}
use Rattle.um_texts.proofs.CellLemmas.{sole-cell}
use Rattle.um_texts.proofs.NameLemmas.{AreNamed, are_named}
use Rattle.um_texts.proofs.TextLemmas.{SameLines, same_lines}
use Rattle.um_texts.proofs.IdentityLemmas.{has_own, thread_known}
use Rattle.um_texts.proofs.StateLemmas.{IsKept}
use Rattle.um_texts.proofs.OwnLemmas.{IsSound}
use Rattle.um_texts.proofs.OpeningLemmas.{kept_opening, sound_booted, idle_opening, offered_acting}
use Rattle.um_texts.proofs.CoreLemmas.{core}
use Rattle.um_texts.proofs.StepLemmas.{AreBoth, IsMade, made_by, one_made, kept_made}

pub event_same : (e f : Event) → e.thread.0 ≡ f.thread.0 → e.act ≡ f.act → e ≡ f
event_same e f h k =
    ap (λ (n : ℕ). record { thread = record { 0 = n }; act = e.act }) h ∙ ap (λ (a : Act). record { thread = record { 0 = f.thread.0 }; act = a }) k

pub acting : (image : Image) (s : State) → IsKept image s → (e : Event) (m : State) → Step s e m → has_own image e.thread.0 ≡ true
acting image s kept e m step = kept.own e.thread.0 (offered_acting s e.thread.0 step.step step.rest step.offered)

-- what holds of the threads of each state of a run
abbrev KeepsThreads : Image → Type 0
KeepsThreads image = (events : List Event) (s : State) → Runs (opening image) events s → AreKept s

-- from two states with one core, the second of which a run leads to
same_runs : (image : Image) → IsSound image → AreNamed image → KeepsThreads image → (before : List Event) (es fs : List Event) (s s2 last last2 : State) → Runs (opening image) before s2 → IsKept image s → IsKept image s2 → core s ≡ core s2
    → Runs s es last → Runs s2 fs last2 → SameLines image es fs → es ≡ fs
unfolding SameLines
same_runs image sound named threads before [] [] s s2 last last2 led kept kept2 e run run2 lines = refl
same_runs image sound named threads before [] (f ∷ fs) s s2 last last2 led kept kept2 e run run2 lines = absurd lines
same_runs image sound named threads before (e ∷ es) [] s s2 last last2 led kept kept2 same run run2 lines = absurd lines
same_runs image sound named threads before (e ∷ es) (f ∷ fs) s s2 last last2 led kept kept2 same run run2 lines =
    let both : AreBoth image s s2 = record { sound = sound; named = named; first = kept; second = kept2; same = same; sole = sole-cell s2 (threads before s2 led) } in
    let thread : e.thread.0 ≡ f.thread.0 =
    thread_known image sound.lawful named sound.few e.thread.0 f.thread.0 (acting image s kept e run.0 run.1) (acting image s2 kept2 f run2.0 run2.1) lines.0 in
    let one : IsMade s e.thread.0 e.act run.0 = made_by s e run.0 run.1 in
    let two : IsMade s2 e.thread.0 f.act run2.0 = subst (λ (t : ℕ). IsMade s2 t f.act run2.0) (sym thread) (made_by s2 f run2.0 run2.1) in
    let is = one_made image s s2 both e.thread.0 e.act f.act run.0 run2.0 one two lines.1 in
    let rest =
    same_runs image sound named threads (before ++ f ∷ []) es fs run.0 run2.0 last last2 (runs-push (opening image) before s2 f run2.0 led run2.1) (kept_made image sound s kept e.thread.0 e.act run.0 one) (kept_made image sound s2 kept2 e.thread.0 f.act run2.0 two) is.after
    run.2 run2.2 lines.2 in
    ap (λ (x : Event). x ∷ es) (event_same e f thread is.act) ∙ ap (λ (xs : List Event). f ∷ xs) rest

-- where no thread is booted there is no event
pub no_event : (image : Image) (e : Event) (es : List Event) (last : State) → image.boots ≡ [] → IsRun image (e ∷ es) last → ⊥
no_event image e es last none run = idle_opening image e.thread.0 none (offered_acting (opening image) e.thread.0 run.1.step run.1.rest run.1.offered)

-- where no event is a step there are no events
no_runs : (image : Image) (es fs : List Event) (last last2 : State) → ((event : Event) (s : State) → Step (opening image) event s → ⊥) → IsRun image es last → IsRun image fs last2 → SameLines image es fs → es ≡ fs
unfolding SameLines
no_runs image [] [] last last2 none run run2 lines = refl
no_runs image [] (f ∷ fs) last last2 none run run2 lines = absurd lines
no_runs image (e ∷ es) fs last last2 none run run2 lines = absurd (none e run.0 run.1)

by_boots : (image : Image) → IsLawful image → length image.objects ≤ STATIC_ROWS → (boots : List Boot) → image.boots ≡ boots → (es fs : List Event) (last last2 : State) → IsRun image es last → IsRun image fs last2
    → SameLines image es fs → es ≡ fs
unfolding SameLines
by_boots image lawful few [] none [] [] last last2 run run2 lines = refl
by_boots image lawful few [] none [] (f ∷ fs) last last2 run run2 lines = absurd lines
by_boots image lawful few [] none (e ∷ es) fs last last2 run run2 lines = absurd (no_event image e es last none run)
by_boots image lawful few (boot ∷ boots) some es fs last last2 run run2 lines =
    let all : list_all (is_lawful_boot image) (boot ∷ boots) ≡ true = ap (λ (bs : List Boot). list_all (is_lawful_boot image) bs) (sym some) ∙ lawful.boots in
    let sound = sound_booted image lawful few boot (and_parts (is_lawful_boot image boot) (list_all (is_lawful_boot image) boots) all).0 in
    let kept = kept_opening image sound in
    let given : IsDescribed image = record { lawful = lawful; few = few } in
    elim (known_or_none image given) as (λ _. es ≡ fs) [
      | inl known ↦
          let threads : KeepsThreads image = λ events s led. reached-kept image given known (rw kept.image_is lawful) events s led in
          same_runs image sound (are_named image lawful) threads [] es fs (opening image) (opening image) last last2 refl kept kept refl run run2 lines
      | inr none ↦ no_runs image es fs last last2 none run run2 lines
    ]

pub texts_differ : (image : Image) → IsLawful image → length image.objects ≤ STATIC_ROWS → (es fs : List Event) (last last2 : State) → IsRun image es last → IsRun image fs last2
    → text image es last ≡ text image fs last2 → es ≡ fs
texts_differ image lawful few es fs last last2 run run2 same = by_boots image lawful few image.boots refl es fs last last2 run run2 (same_lines image (are_named image lawful) es fs last last2 same)
