use Rattle.std.proofs.Common.{arith, ◌≡◌, ℕ, zero, suc, eqb, List, [], ◌∷◌, Option, Some, None, refl, sym}
use Rattle.std.proofs.lemmas.Bool.{ne_eqb}
use Rattle.um_base.specs.declared.act.Event.{Event}
use Rattle.um_fine.specs.Runs.{sublist}
use Rattle.um_merge.specs.Logs.{Log}
use Rattle.um_merge.specs.Merged.{AreNumbered, cpu_of, site_of, log_at}
use Rattle.um_merge.specs.declared.logged.Logged.{Logged}
use Rattle.um_merge.proofs.tests.steps_of_two_processors_are_merged.Goals as goal

abbrev step : ℕ → ℕ → ℕ → Option Event → Logged
step cpu site number event = record { cpu = cpu; site = site; number = number; event = event }

-- the steps in an order that they have, where the first of each processor shows an event
abbrev order : Event → Event → List Logged
order a b = step 1 5 1 (Some b) ∷ step 0 5 2 (Some a) ∷ step 0 6 1 None ∷ step 1 6 2 None ∷ []

logged : (a b : Event) (one other : Log) → one.items ≡ step 0 5 2 (Some a) ∷ step 0 6 1 None ∷ [] → other.items ≡ step 1 5 1 (Some b) ∷ step 1 6 2 None ∷ [] → (cpu : ℕ)
    → sublist eqb cpu_of cpu (order a b) ≡ log_at (one ∷ other ∷ []) cpu
logged a b one other first second zero = sym first
logged a b one other first second (suc zero) = sym second
logged a b one other first second (suc (suc n)) = rw (ne_eqb 1 (suc (suc n)) (λ e. omega (arith, e)), ne_eqb 0 (suc (suc n)) (λ e. omega (arith, e))) refl

numbered : (a b : Event) (site : ℕ) → AreNumbered 0 (sublist eqb site_of site (order a b))
numbered a b zero = tt
numbered a b (suc zero) = tt
numbered a b (suc (suc zero)) = tt
numbered a b (suc (suc (suc zero))) = tt
numbered a b (suc (suc (suc (suc zero)))) = tt
numbered a b (suc (suc (suc (suc (suc zero))))) = (refl, (refl, tt))
numbered a b (suc (suc (suc (suc (suc (suc zero)))))) = (refl, (refl, tt))
numbered a b (suc (suc (suc (suc (suc (suc (suc n))))))) =
    let site = suc (suc (suc (suc (suc (suc (suc n)))))) in rw (ne_eqb 5 site (λ e. omega (arith, e)), ne_eqb 6 site (λ e. omega (arith, e))) tt

pub merge-requires-clause-fits : goal.merge-requires-clause-fits
merge-requires-clause-fits g c =
    let a = c.shown.result in
    let b = c.shown-2.result in
    (order a b, record { logged = logged a b c.in_ok-first.first c.in_ok-second.second c.in_ok-first.ensures c.in_ok-second.ensures; numbered = numbered a b }, omega (arith, c.in_ok-merged.ensures.room))
