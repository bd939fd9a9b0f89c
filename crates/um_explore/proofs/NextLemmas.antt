-- The lines of a text are followed.
use Rattle.std.proofs.Common.{◌≡◌, ◌≢◌, ℕ, ◌+◌, List, [], ◌∷◌, ◌++◌, drop, length, refl, sym, ap, ◌∙◌, subst, arith, append_assoc, length-append, Some, None}
use Rattle.std.proofs.Math.Seq.{drop-append_seam}
use Rattle.std.proofs.lemmas.Grind.{flat_map-append}
use Rattle.std.proofs.lemmas.List.{append-nil}
use Rattle.std.proofs.lemmas.Option.{get_or_from_slice_get, slice_get_within}
use Rattle.um_base.specs.declared.act.Event.{Event}
use Rattle.um_base.specs.declared.image.Image.{Image}
use Rattle.um_machine.specs.Run.{Step, opening}
use Rattle.um_machine.specs.State.{State}
use Rattle.um_machine.proofs.RunLemmas.{runs-push}
use Rattle.um_matrix.specs.Offered.{IsStep}
use Rattle.um_trace.specs.Acts.{event_line}
use Rattle.um_audit.proofs.WholeLemmas.{event-ended}
use Rattle.um_explore.specs.Steps.{AreSteps, Has}
use Rattle.um_explore.specs.Following.{Followed, FollowsLine}
use Rattle.um_explore.specs.Questions.{AreLines, AreNext, IsFollowed, IsNoLine, lines}

pub none-left : (rest : List ℕ) → length rest ≡ 0 → rest ≡ []
none-left [] h = refl
none-left (b ∷ rest) h = cc

pub has-step : (s : State) (events : List Event) (event : Event) → AreSteps s events → Has events event → IsStep s event
has-step s events event steps (k, at) =
    subst (λ (e : Event). IsStep s e) (get_or_from_slice_get events k event event at) (steps.each k event (slice_get_within events k event at))

pub no-line : (image : Image) (s : State) (events : List Event) (rest : List ℕ) → AreSteps s events → ((event : Event) (more : List ℕ) → Has events event → rest ≡ event_line image event ++ more → ⊥) → IsNoLine image rest s
no-line image s events rest steps none event s2 more step is = none event more (steps.all event s2 step) is

pub line-follows : (image : Image) (s s2 : State) (rest room more : List ℕ) (event : Event) (n : ℕ) → Step s event s2 → room ≡ event_line image event → rest ≡ event_line image event ++ more → n ≡ length room → FollowsLine image rest s s2 (Some n)
line-follows image s s2 rest room more event n step line is len =
    let long : n ≡ length (event_line image event) = len ∙ ap (λ (l : List ℕ). length l) line in
    let ended = ap (λ (l : List ℕ). length l) (event-ended image event) in
    let more_of : drop n rest ≡ more = ap (λ (k : ℕ). drop k rest) long ∙ ap (λ (l : List ℕ). drop (length (event_line image event)) l) is ∙ drop-append_seam (event_line image event) more in
    let whole = ap (λ (l : List ℕ). length l) is in
    (event, step, subst (λ (l : List ℕ). rest ≡ event_line image event ++ l) (sym more_of) is, grind (arith, long, ended, length-append), grind (arith, long, whole, length-append))

pub followed-none : (image : Image) (text : List ℕ) (s : State) → s ≡ opening image → IsFollowed image text text 0 s
followed-none image text s opens = record { events = []; run = opens; whole = refl; many = refl }

pub followed-more : (image : Image) (text rest behind : List ℕ) (count n : ℕ) (s s2 : State) → IsFollowed image text rest count s → FollowsLine image rest s s2 (Some n) → behind ≡ drop n rest → IsFollowed image text behind (count + 1) s2
followed-more image text rest behind count n s s2 so_far (event, step, line, some, few) is =
    record {
      events = so_far.events ++ event ∷ [];
      run = runs-push (opening image) so_far.events s event s2 so_far.run step;
      whole =
          so_far.whole ∙ ap (λ (l : List ℕ). lines image so_far.events ++ l) (line ∙ ap (λ (l : List ℕ). event_line image event ++ l) (sym is))
          ∙ sym (append_assoc (lines image so_far.events) (event_line image event) behind)
          ∙ ap (λ (l : List ℕ). l ++ behind) (sym (flat_map-append (event_line image) so_far.events (event ∷ []) ∙ ap (λ (l : List ℕ). lines image so_far.events ++ l) (append-nil (event_line image event))));
      many = length-append so_far.events (event ∷ []) ∙ ap (λ (k : ℕ). k + 1) so_far.many;
    }

pub followed-less : (image : Image) (text rest : List ℕ) (count : ℕ) (s s2 : State) → IsFollowed image text rest count s → FollowsLine image rest s s2 None → rest ≢ [] → Followed image text s2 (Some count)
followed-less image text rest count s s2 so_far (none, same) some =
    (rest, subst (λ (now : State). IsFollowed image text rest count now) (sym same) so_far, some, subst (λ (now : State). IsNoLine image rest now) (sym same) none)

pub followed-all : (image : Image) (text rest : List ℕ) (count : ℕ) (s : State) → IsFollowed image text rest count s → rest ≡ [] → Followed image text s None
followed-all image text rest count s so_far none =
    (so_far.events, so_far.run, so_far.whole ∙ ap (λ (l : List ℕ). lines image so_far.events ++ l) none ∙ append-nil (lines image so_far.events))

pub next-are : (image : Image) (text : List ℕ) (s : State) (events : List Event) (next : List ℕ) → Followed image text s None → AreSteps s events → next ≡ lines image events → (t : State) × AreLines image text t × AreNext image t next
next-are image text s events next led steps is = (s, led, record { events = events; steps = steps; is = is })
