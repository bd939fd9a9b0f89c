-- Those who wait on an object: each is a thread of its own.
use Rattle.std.specs.Prelude.{◌≡◌, ℕ, ◌<◌, false, ◌==◌, List, [], ◌∷◌}
use Rattle.um_base.specs.declared.ask.Waiter.{Waiter}

-- a thread doesn't wait
abbrev pub IsApart : ℕ → List Waiter → Type 0
IsApart t [] = Unit {0}
IsApart t (w ∷ ws) = ((w.thread.0 == t) ≡ false) × IsApart t ws

-- the threads that wait are distinct indices below a number
abbrev pub AreWaiters : ℕ → List Waiter → Type 0
AreWaiters n [] = Unit {0}
AreWaiters n (w ∷ ws) = (w.thread.0 < n) × IsApart w.thread.0 ws × AreWaiters n ws
