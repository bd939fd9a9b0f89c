-- How long a call holds the objects that it checked (Zephyr: User Mode, System Calls).
use Rattle.um_invariants.specs.Acts.{EndsCall}
use Rattle.std.specs.Prelude.{◌≡◌, ℕ, List, [], ◌∷◌}
use Rattle.um_base.specs.declared.act.Event.{Event}

-- in none of these events a thread's call ends
abbrev pub IsInCall : ℕ → List Event → Type 0
IsInCall t [] = Unit {0}
IsInCall t (event ∷ events) = ¬ ((event.thread.0 ≡ t) × EndsCall event.act) × IsInCall t events
