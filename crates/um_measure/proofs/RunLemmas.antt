-- Whole runs.
use Rattle.std.proofs.Common.{◌≤◌, ◌+◌, List, [], ◌∷◌, length, ap, arith}
use Rattle.um_base.specs.Lawful.{IsLawful}
use Rattle.um_base.specs.Weight.{weight}
use Rattle.um_base.specs.declared.act.Event.{Event}
use Rattle.um_base.specs.declared.image.Image.{Image}
use Rattle.um_base.specs.declared.limits.TheConstants.{STATIC_ROWS}
use Rattle.um_machine.specs.Run.{opening, IsRun, Runs, RunsDue}
use Rattle.um_machine.specs.State.{State}
use Rattle.um_measure.specs.Measure.{measure, armings}
use Rattle.um_measure.specs.Reached.{IsReached}
use Rattle.um_measure.proofs.OpenLemmas.{opens, opens-armings}
use Rattle.um_measure.proofs.StepLemmas.{keeps, falls, arms}

bounded : (s s2 : State) (events : List Event) → IsReached s → RunsDue s events s2 → length events + measure s2 ≤ measure s
bounded s s2 [] reached run = let same = ap measure run in omega (arith, same)
bounded s s2 (event ∷ events) reached run =
    let less = falls s run.0 event reached run.1.made run.1.due in
    let rest = bounded run.0 s2 events (keeps s run.0 event reached run.1.made) run.2 in omega (arith, less, rest)

pub within_weight : (image : Image) (events : List Event) (s : State) → IsLawful image → length image.objects ≤ STATIC_ROWS → RunsDue (opening image) events s → length events + measure s ≤ weight image
within_weight image events s lawful few run =
    let start = opens image lawful few in
    let rest = bounded (opening image) s events start.0 run in
    let most = start.1 in omega (arith, rest, most)

-- Deadlines.

armings-kept : (s s2 : State) (events : List Event) → IsReached s → Runs s events s2 → armings s2 ≤ armings s
armings-kept s s2 [] reached run = let same = ap armings run in omega (arith, same)
armings-kept s s2 (event ∷ events) reached run =
    let kept = arms s run.0 event reached run.1 in
    let rest = armings-kept run.0 s2 events (keeps s run.0 event reached run.1) run.2 in omega (arith, kept, rest)

armed-most : (s : State) → length s.armed ≤ armings s
unfolding armings
armed-most s = omega arith

pub armed_within : (image : Image) (events : List Event) (s : State) → IsLawful image → length image.objects ≤ STATIC_ROWS → IsRun image events s → length s.armed ≤ weight image
armed_within image events s lawful few run =
    let start = opens image lawful few in
    let kept = armings-kept (opening image) s events start.0 run in
    let none = opens-armings image lawful few in
    let most = armed-most s in omega (arith, kept, none, most)
