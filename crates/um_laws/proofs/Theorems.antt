-- The laws over every run.
use Rattle.um_laws.specs.Origins.{HasOrigin, IsOwned, booted}
use Rattle.um_laws.proofs.HoldLemmas.{held_run, check_holds, none_holds}
use Rattle.um_laws.specs.Holds.{IsInCall}
use Rattle.um_base.specs.Places.{row_at}
use Rattle.um_base.specs.declared.names.Want.{Want}
use Rattle.um_base.specs.declared.names.Kind.{Kind}
use Rattle.std.proofs.Common.{◌≡◌, ℕ, ◌≤◌, arith, List, [], ◌∷◌, ◌++◌, append_assoc, subst, ◌∙◌, Option, None, ap, sym}
use Rattle.um_base.specs.declared.act.Event.{Event}
use Rattle.um_base.specs.declared.image.Image.{Image}
use Rattle.um_machine.specs.Run.{Step, IsRun, opening}
use Rattle.um_machine.specs.State.{State}
use Rattle.um_invariants.specs.Described.{IsDescribed}
use Rattle.um_invariants.proofs.Opening.{IsOpening}
use Rattle.um_laws.proofs.OriginLemmas.{AreOwned, owned_step, is_owned, image_run, image_step}
use Rattle.um_invariants.proofs.Starts.{starts, starts_run, steps_inside}
use Rattle.um_base.specs.declared.act.Act.{Act}
use Rattle.um_base.specs.declared.names.Addr.{Addr}
use Rattle.um_base.specs.declared.limits.TheConstants.{STATIC_ROWS}
use Rattle.um_machine.specs.declared.object.Status.{Status}
use Rattle.um_laws.specs.Lives.{born, gone, recycled, marks, InTurns, IsWithoutBirth, WasBornAndGone}
use Rattle.um_invariants.proofs.Cores.{core_of, status_at}
use Rattle.um_laws.proofs.LifeLemmas.{AreInTurns, turns_step, turns_first, between_births, before_recycling}
use Rattle.um_machine.proofs.RunLemmas.{runs-push, runs-parts}
use Rattle.um_invariants.proofs.RunMoves.{kept_run, known_run, known_step}

owned_first : (image : Image) → IsOpening image → AreOwned [] (core_of (opening image))
owned_first image o u x h = subst (λ (i : Image). HasOrigin i u x []) (sym o.image_is) (booted (o.owned u x h) tt)

pub owned_event : (image : Image) (before : List Event) (event : Event) (s s2 : State) → IsDescribed image → IsRun image before s → Step s event s2 → IsOwned image before s event
owned_event image before event s s2 given run step =
    let o = starts image before event s s2 given run step in
    let same : s.image ≡ image = image_run (opening image) before s o.known run ∙ o.image_is in
    subst (λ (i : Image). IsOwned i before s event) same (is_owned s s2 before event (kept_run AreOwned owned_step (opening image) [] before s o.known (owned_first image o) run) step)

pub marks_turn : (image : Image) (events : List Event) (s : State) → IsDescribed image → IsRun image events s → (a : ℕ) → InTurns born (marks a events)
marks_turn image [] s given run a = tt
marks_turn image (event ∷ events) s given run a =
    let o = starts_run image event events s given run in
    let free : (x : ℕ) → STATIC_ROWS ≤ x → status_at (core_of (opening image)) x ≡ Status.Free = λ x low. o.fresh x (omega (arith, low, given.few)) in
    (kept_run AreInTurns turns_step (opening image) [] (event ∷ events) s o.known (turns_first (core_of (opening image)) free) run a).0

pub lives_between : (image : Image) (before middle : List Event) (birth rebirth : Event) (a : Addr) (s s2 : State) → IsDescribed image → IsRun image (before ++ birth ∷ middle) s → Step s rebirth s2
    → birth.act ≡ Act.Born a → rebirth.act ≡ Act.Born a → IsWithoutBirth a middle → marks a.0 middle ≡ gone ∷ recycled ∷ []
lives_between image before middle birth rebirth a s s2 given run step e f none =
    let whole = runs-push (opening image) (before ++ birth ∷ middle) s rebirth s2 run step in
    let same = append_assoc before (birth ∷ middle) (rebirth ∷ []) in
    between_births a before middle birth rebirth (marks_turn image (before ++ birth ∷ (middle ++ rebirth ∷ [])) s2 given (subst (λ (events : List Event). IsRun image events s2) same whole) a.0) e f none

pub was_alive : (image : Image) (before : List Event) (event : Event) (a : Addr) (s s2 : State) → IsDescribed image → IsRun image before s → Step s event s2 → event.act ≡ Act.Recycle a → WasBornAndGone (marks a.0 before)
was_alive image before event a s s2 given run step e =
    before_recycling a before event (marks_turn image (before ++ event ∷ []) s2 given (runs-push (opening image) before s event s2 run step) a.0) e

pub holds_until : (image : Image) (before middle : List Event) (check recycle : Event) (a : Addr) (kind : Option Kind) (want : Want) (s s2 : State) → IsDescribed image → IsRun image (before ++ check ∷ middle) s → Step s recycle s2
    → check.act ≡ Act.Check a kind want None → IsInCall check.thread.0 middle → ¬ (recycle.act ≡ Act.Recycle a)
holds_until image before middle check recycle a kind want s s2 given run step e calls f =
    let (mid, first, later) = runs-parts (opening image) before (check ∷ middle) s run in
    let (next, checks, rest) = later in
    let o = starts image before check mid next given first checks in
    let reached = known_run (opening image) before mid o.known first in
    let (x, row, held) = check_holds mid next check reached (steps_inside mid next check checks) checks a kind want e in
    let reached2 = known_step mid next check reached checks in
    let still = held_run next middle s reached2 rest check.thread.0 x held calls in
    let reached3 = known_run next middle s reached2 rest in
    let same : s.image ≡ mid.image = image_run next middle s reached2 rest ∙ image_step mid next check reached checks in
    let none = none_holds s s2 recycle reached3 step a f x (ap (λ (i : Image). row_at i a.0) same ∙ row) check.thread.0 in cc
