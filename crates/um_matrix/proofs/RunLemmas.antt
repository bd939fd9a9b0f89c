-- Runs grow by one event.
use Rattle.std.proofs.Common.{◌≡◌, ℕ, zero, suc, ◌+◌, List, [], ◌∷◌, take, refl, arith, sym, subst, Some, slice_get}
use Rattle.um_base.specs.declared.act.Event.{Event}
use Rattle.um_machine.specs.State.{State}
use Rattle.um_machine.specs.Run.{Step, Runs}

-- the first k events of a list are a run, and the next one is a step from there
pub runs_more : (s : State) (events : List Event) (k : ℕ) (mid : State) (event : Event) (s2 : State) → slice_get events k ≡ Some event → Runs s (take k events) mid → Step mid event s2 → Runs s (take (k + 1) events) s2
runs_more s [] k mid event s2 here run step = cc
runs_more s (e ∷ events) zero mid event s2 here run step =
    let same : event ≡ e = cc in
    (s2, subst (λ (r : State). Step r e s2) run (subst (λ (x : Event). Step mid x s2) same step), refl)
runs_more s (e ∷ events) (suc k) mid event s2 here (next, first, rest) step =
    let more : suc k + 1 ≡ suc (k + 1) = omega arith in
    subst (λ (n : ℕ). Runs s (take n (e ∷ events)) s2) (sym more) (next, first, runs_more next events k mid event s2 here rest step)
