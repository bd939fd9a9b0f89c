-- Runs grow by one event at their end, and fall into two.
use Rattle.std.proofs.Common.{List, [], ◌∷◌, ◌++◌, refl, subst}
use Rattle.um_base.specs.declared.act.Event.{Event}
use Rattle.um_machine.specs.State.{State}
use Rattle.um_machine.specs.Run.{Step, Runs, Advances, RunsDue}

pub runs-push : (s : State) (events : List Event) (mid : State) (event : Event) (s2 : State) → Runs s events mid → Step mid event s2 → Runs s (events ++ event ∷ []) s2
runs-push s [] mid event s2 here step = (s2, subst (λ (now : State). Step now event s2) here step, refl)
runs-push s (e ∷ events) mid event s2 (next, first, rest) step = (next, first, runs-push next events mid event s2 rest step)

pub runs-parts : (s : State) (before events : List Event) (s2 : State) → Runs s (before ++ events) s2 → (mid : State) × Runs s before mid × Runs mid events s2
runs-parts s [] events s2 run = (s, refl, run)
runs-parts s (e ∷ before) events s2 (next, first, rest) = let (mid, one, two) = runs-parts next before events s2 rest in (mid, (next, first, one), two)

pub runs-due-push : (s : State) (events : List Event) (mid : State) (event : Event) (s2 : State) → RunsDue s events mid → Advances mid event s2 → RunsDue s (events ++ event ∷ []) s2
runs-due-push s [] mid event s2 here made = (s2, subst (λ (now : State). Advances now event s2) here made, refl)
runs-due-push s (e ∷ events) mid event s2 (next, first, rest) made = (next, first, runs-due-push next events mid event s2 rest made)

-- a run of events that inherit only what is due is a run
pub runs-of : (s : State) (events : List Event) (s2 : State) → RunsDue s events s2 → Runs s events s2
runs-of s [] s2 run = run
runs-of s (e ∷ events) s2 (next, first, rest) = (next, first.made, runs-of next events s2 rest)
