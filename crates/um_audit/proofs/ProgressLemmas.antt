-- How far the lines of a text have been followed, and what a stop there says.
use Rattle.std.proofs.Common.{◌≡◌, ◌≢◌, ℕ, ◌+◌, ◌<◌, false, List, [], ◌∷◌, ◌++◌, length, take, refl, sym, ap, ◌∙◌, subst, arith, append_assoc, length-append, slice_get}
use Rattle.std.proofs.lemmas.Bool.{and_from, not_from_false}
use Rattle.std.proofs.lemmas.List.{append-nil}
use Rattle.std.proofs.lemmas.List.Folds.{list_all-append}
use Rattle.um_base.specs.declared.act.Event.{Event}
use Rattle.um_base.specs.declared.image.Image.{Image}
use Rattle.um_matrix.specs.Offered.{IsStep}
use Rattle.um_machine.specs.State.{State}
use Rattle.um_machine.specs.Run.{IsComplete, opening}
use Rattle.um_trace.specs.Dump.{dump}
use Rattle.um_audit.specs.declared.verdict.Verdict.{Verdict}
use Rattle.um_audit.specs.Lines.{pieces, line_of, is_dump, before_dump, from_dump}
use Rattle.um_audit.specs.Steps.{IsStepLine, IsNoStepLine, AreStepLines}
use Rattle.um_audit.specs.Progress.{IsAt, is_events, IsStuck, nothing, refused, BeginsDump}
use Rattle.um_audit.specs.Verdict.{event_pieces, dump_pieces, LeadsTo, StopsAt, no_step, no_line, DiffersAt, IsVerdict}
use Rattle.um_audit.proofs.PartLemmas.{before-behind, from-behind, before-nothing, from-nothing, before-dump, before-more, from-dump, steps-more, take-front, get-front}

pub at-front : (image : Image) (text : List ℕ) (s : State) → s ≡ opening image → IsAt image text text 0 s
at-front image text s opens = record { done = []; whole = refl; events = refl; count = refl; short = omega arith; led = opens }

-- one line more
pub at-next : (image : Image) (text rest behind : List ℕ) (lines : ℕ) (piece : List ℕ) (s s2 : State) → IsAt image text rest lines s → pieces rest ≡ piece ∷ pieces behind → length behind < length rest → is_dump piece ≡ false
    → IsStepLine image (line_of piece) s s2 → IsAt image text behind (lines + 1) s2
at-next image text rest behind lines piece s s2 at cut less plain step =
    record {
      done = at.done ++ piece ∷ [];
      whole = at.whole ∙ ap (λ (ps : List (List ℕ)). at.done ++ ps) cut ∙ sym (append_assoc at.done (piece ∷ []) (pieces behind));
      events = list_all-append is_events at.done (piece ∷ []) ∙ and_from _ _ at.events (and_from _ _ (not_from_false (is_dump piece) plain) refl);
      count = length-append at.done (piece ∷ []) ∙ ap (λ (n : ℕ). n + 1) at.count;
      short = (let s = at.short in omega (arith, s, less));
      led = steps-more image (opening image) at.done piece s s2 at.led step;
    }

-- The parts of the text, from there.

before_at : (image : Image) (text rest : List ℕ) (lines : ℕ) (s : State) → (at : IsAt image text rest lines s) → event_pieces text ≡ at.done ++ before_dump (pieces rest)
before_at image text rest lines s at = ap before_dump at.whole ∙ before-behind at.done (pieces rest) at.events

from_at : (image : Image) (text rest : List ℕ) (lines : ℕ) (s : State) → (at : IsAt image text rest lines s) → dump_pieces text ≡ from_dump (pieces rest)
from_at image text rest lines s at = ap from_dump at.whole ∙ from-behind at.done (pieces rest) at.events

front_led : (image : Image) (text rest : List ℕ) (lines : ℕ) (s : State) → IsAt image text rest lines s → AreStepLines image (opening image) (take lines (event_pieces text)) s
front_led image text rest lines s at =
    let front : take lines (event_pieces text) ≡ at.done =
    ap (λ (n : ℕ). take n (event_pieces text)) (sym at.count) ∙ ap (take (length at.done)) (before_at image text rest lines s at) ∙ take-front at.done (before_dump (pieces rest)) in
    subst (λ (ps : List (List ℕ)). AreStepLines image (opening image) ps s) (sym front) at.led

stuck_stops : (image : Image) (text rest : List ℕ) (lines : ℕ) (s : State) → IsAt image text rest lines s → IsStuck image rest s → StopsAt image text lines s
stuck_stops image text rest lines s at (nothing none) =
    let all : event_pieces text ≡ at.done = before_at image text rest lines s at ∙ ap (λ (ps : List (List ℕ)). at.done ++ before_dump ps) none ∙ ap (λ (ps : List (List ℕ)). at.done ++ ps) before-nothing ∙ append-nil at.done in
    no_line (sym at.count ∙ ap (λ (ps : List (List ℕ)). length ps) (sym all)) (from_at image text rest lines s at ∙ ap from_dump none ∙ from-nothing)
stuck_stops image text rest lines s at (refused {piece} {more} cut plain none) =
    let here : event_pieces text ≡ at.done ++ piece ∷ before_dump more = before_at image text rest lines s at ∙ ap (λ (ps : List (List ℕ)). at.done ++ ps) (ap before_dump cut ∙ before-more piece more plain) in
    no_step (ap (λ (ps : List (List ℕ)). slice_get ps lines) here ∙ ap (slice_get (at.done ++ piece ∷ before_dump more)) (sym at.count) ∙ get-front at.done (before_dump more) piece) none

-- where a line is no step
pub stuck-at : (image : Image) (text rest : List ℕ) (lines : ℕ) (piece : List ℕ) (more : List (List ℕ)) (s s2 : State) → s2 ≡ s → IsAt image text rest lines s → pieces rest ≡ piece ∷ more → is_dump piece ≡ false
    → IsNoStepLine image (line_of piece) s → (left : List ℕ) × IsAt image text left lines s2 × IsStuck image left s2
stuck-at image text rest lines piece more s s2 same at cut plain none = (
  rest,
  subst (λ (now : State). IsAt image text rest lines now) (sym same) at,
  subst (λ (now : State). IsStuck image rest now) (sym same) (refused cut plain none),
)

pub stuck-end : (image : Image) (text rest : List ℕ) (lines : ℕ) (s : State) → IsAt image text rest lines s → pieces rest ≡ [] → (left : List ℕ) × IsAt image text left lines s × IsStuck image left s
stuck-end image text rest lines s at none = (rest, at, nothing none)

-- a state from which there is a step isn't the end of a complete run
pub not-final : (s : State) → (event : Event) × IsStep s event → IsComplete s → ⊥
not-final s (event, (s2, step)) complete = complete event s2 step

-- The verdicts.

pub verdict-stuck : (image : Image) (text rest : List ℕ) (lines : ℕ) (s : State) → IsAt image text rest lines s → IsStuck image rest s → IsVerdict image text (Verdict.NoStep (lines + 1))
verdict-stuck image text rest lines s at stuck = (lines, s, refl, front_led image text rest lines s at, stuck_stops image text rest lines s at stuck)

all_led : (image : Image) (text rest : List ℕ) (lines : ℕ) (s : State) → (at : IsAt image text rest lines s) → BeginsDump rest → event_pieces text ≡ at.done
all_led image text rest lines s at (piece, more, cut, is) =
    before_at image text rest lines s at ∙ ap (λ (ps : List (List ℕ)). at.done ++ ps) (ap before_dump cut ∙ before-dump piece more is) ∙ append-nil at.done

leads : (image : Image) (text rest : List ℕ) (lines : ℕ) (s : State) → IsAt image text rest lines s → BeginsDump rest → LeadsTo image text s
leads image text rest lines s at begins = subst (λ (ps : List (List ℕ)). AreStepLines image (opening image) ps s) (sym (all_led image text rest lines s at begins)) at.led

dump_all : (image : Image) (text rest : List ℕ) (lines : ℕ) (s : State) → IsAt image text rest lines s → BeginsDump rest → dump_pieces text ≡ pieces rest
dump_all image text rest lines s at (piece, more, cut, is) = from_at image text rest lines s at ∙ ap from_dump cut ∙ from-dump piece more is ∙ sym cut

dump_some : (image : Image) (text rest : List ℕ) (lines : ℕ) (s : State) → IsAt image text rest lines s → BeginsDump rest → dump_pieces text ≢ []
dump_some image text rest lines s at (piece, more, cut, is) none =
    let all = dump_all image text rest lines s at (piece, more, cut, is) in let bad : piece ∷ more ≡ [] = sym cut ∙ sym all ∙ none in cc

pub verdict-open : (image : Image) (text rest : List ℕ) (lines : ℕ) (s : State) → IsAt image text rest lines s → BeginsDump rest → (IsComplete s → ⊥) → IsVerdict image text Verdict.NotComplete
verdict-open image text rest lines s at begins open_end = (s, leads image text rest lines s at begins, dump_some image text rest lines s at begins, open_end)

pub verdict-yes : (image : Image) (text rest : List ℕ) (lines : ℕ) (s : State) → IsAt image text rest lines s → BeginsDump rest → IsComplete s → pieces rest ≡ pieces (dump image s) → IsVerdict image text Verdict.Yes
verdict-yes image text rest lines s at begins complete same = (s, leads image text rest lines s at begins, complete, dump_all image text rest lines s at begins ∙ same)

pub verdict-dump : (image : Image) (text rest : List ℕ) (lines j : ℕ) (s : State) → IsAt image text rest lines s → BeginsDump rest → IsComplete s → DiffersAt (pieces rest) (pieces (dump image s)) j
    → IsVerdict image text (Verdict.NoDump (lines + j + 1))
verdict-dump image text rest lines j s at begins complete apart = (
  j,
  s,
  ap (λ (n : ℕ). n + j + 1) (sym at.count ∙ ap (λ (ps : List (List ℕ)). length ps) (sym (all_led image text rest lines s at begins))),
  leads image text rest lines s at begins,
  dump_some image text rest lines s at begins,
  complete,
  subst (λ (ps : List (List ℕ)). DiffersAt ps (pieces (dump image s)) j) (sym (dump_all image text rest lines s at begins)) apart,
)
