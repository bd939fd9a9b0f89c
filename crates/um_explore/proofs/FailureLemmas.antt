-- How the threads of a run failed, one event after another.
use Rattle.std.proofs.Common.{◌≡◌, ℕ, List, [], ◌∷◌, ◌++◌, refl}
use Rattle.um_base.specs.declared.act.Event.{Event}
use Rattle.um_explore.specs.Failures.{Failures, failures, noted, noted_all}

noted-push : (events : List Event) (event : Event) (notes : Failures) → noted_all (events ++ event ∷ []) notes ≡ noted event (noted_all events notes)
noted-push [] event notes = refl
noted-push (e ∷ events) event notes = noted-push events event (noted e notes)

pub failures-push : (events : List Event) (event : Event) → failures (events ++ event ∷ []) ≡ noted event (failures events)
failures-push events event = noted-push events event _
