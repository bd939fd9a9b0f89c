-- Those who wait are at most as many as the threads, and stay threads of their own.
use Rattle.std.proofs.Common.{◌≡◌, ℕ, zero, suc, ◌+◌, ◌<◌, ◌≤◌, Bool, true, false, not, cond, List, [], ◌∷◌, ◌++◌, length, filter, refl, arith}
use Rattle.std.specs.Prelude.{◌==◌}
use Rattle.std.proofs.lemmas.Bool.Decides.{nat_tests}
use Rattle.um_base.specs.declared.ask.Waiter.{Waiter}
use Rattle.um_machine.specs.Services.{without}
use Rattle.um_machine.specs.Waiting.{IsApart, AreWaiters}

pub IsApart-filter : (p : Waiter → Bool) (t : ℕ) (ws : List Waiter) → IsApart t ws → IsApart t (filter p ws)
IsApart-filter p t [] h = tt
IsApart-filter p t (w ∷ ws) h =
    elim (p w) as (λ b. IsApart t (cond b (w ∷ filter p ws) (filter p ws))) [ true ↦ (h.0, IsApart-filter p t ws h.1) | false ↦ IsApart-filter p t ws h.1 ]

pub AreWaiters-filter : (p : Waiter → Bool) (n : ℕ) (ws : List Waiter) → AreWaiters n ws → AreWaiters n (filter p ws)
AreWaiters-filter p n [] h = tt
AreWaiters-filter p n (w ∷ ws) h =
    elim (p w) as (λ b. AreWaiters n (cond b (w ∷ filter p ws) (filter p ws))) [
      | true ↦ (h.0, IsApart-filter p w.thread.0 ws h.1, AreWaiters-filter p n ws h.2)
      | false ↦ AreWaiters-filter p n ws h.2
    ]

pub AreWaiters-without : (n t : ℕ) (ws : List Waiter) → AreWaiters n ws → AreWaiters n (without t ws)
AreWaiters-without n t ws h = AreWaiters-filter (λ (w : Waiter). not (w.thread.0 == t)) n ws h

-- a thread that left doesn't wait
pub without-apart : (t : ℕ) (ws : List Waiter) → IsApart t (without t ws)
without-apart t [] = tt
without-apart t (w ∷ ws) =
    elim (w.thread.0 == t) as (λ b. (w.thread.0 == t) ≡ b → IsApart t (cond (not b) (w ∷ without t ws) (without t ws))) [
      | true ↦ λ e. without-apart t ws
      | false ↦ λ e. (e, without-apart t ws)
    ] refl

-- a thread that doesn't wait can't leave
pub apart-same : (t : ℕ) (ws : List Waiter) → IsApart t ws → without t ws ≡ ws
apart-same t [] h = refl
apart-same t (w ∷ ws) h = rw (h.0, apart-same t ws h.1) refl

-- threads below the next number, without the last one
below-without : (n : ℕ) (ws : List Waiter) → AreWaiters (suc n) ws → AreWaiters n (without n ws)
below-without n [] h = tt
below-without n (w ∷ ws) h =
    let below : w.thread.0 < suc n = h.0 in
    let rest = below-without n ws h.2 in
    elim (w.thread.0 == n) as (λ b. (w.thread.0 == n) ≡ b → AreWaiters n (cond (not b) (w ∷ without n ws) (without n ws))) [
      | true ↦ λ e. rest
      | false ↦ λ e. (grind (arith, nat_tests), IsApart-filter (λ (v : Waiter). not (v.thread.0 == n)) w.thread.0 ws h.1, rest)
    ] refl

-- at most one of them leaves
one-leaves : (n t : ℕ) (ws : List Waiter) → AreWaiters n ws → length ws ≤ length (without t ws) + 1
one-leaves n t [] h = omega arith
one-leaves n t (w ∷ ws) h =
    let rest = one-leaves n t ws h.2 in
    elim (w.thread.0 == t) as (λ b. (w.thread.0 == t) ≡ b → length (w ∷ ws) ≤ length (cond (not b) (w ∷ without t ws) (without t ws)) + 1) [
      | true ↦ λ e. (let same : w.thread.0 ≡ t = grind (arith, nat_tests) in let apart = apart-same t ws (rw same at h.1) in rw apart (omega arith))
      | false ↦ λ e. omega arith
    ] refl

-- distinct threads below a number are at most so many
pub few : (n : ℕ) (ws : List Waiter) → AreWaiters n ws → length ws ≤ n
few zero [] h = omega arith
few zero (w ∷ ws) h = let below : w.thread.0 < zero = h.0 in absurd (omega arith)
few (suc n) ws h = omega (arith, one-leaves (suc n) n ws h, few n (without n ws) (below-without n ws h))

IsApart-push : (t : ℕ) (ws : List Waiter) (w : Waiter) → IsApart t ws → (w.thread.0 == t) ≡ false → IsApart t (ws ++ w ∷ [])
IsApart-push t [] w h e = (e, tt)
IsApart-push t (v ∷ vs) w h e = (h.0, IsApart-push t vs w h.1 e)

-- a thread that doesn't wait is put behind the others
pub AreWaiters-push : (n : ℕ) (ws : List Waiter) (w : Waiter) → AreWaiters n ws → IsApart w.thread.0 ws → w.thread.0 < n → AreWaiters n (ws ++ w ∷ [])
AreWaiters-push n [] w h apart below = (below, tt, tt)
AreWaiters-push n (v ∷ vs) w h apart below =
    let other : (v.thread.0 == w.thread.0) ≡ false = apart.0 in
    (h.0, IsApart-push v.thread.0 vs w h.1 (grind (arith, nat_tests)), AreWaiters-push n vs w h.2 apart.1 below)

-- a thread that doesn't wait comes behind fewer than all
pub fewer : (n : ℕ) (ws : List Waiter) (w : Waiter) → AreWaiters n ws → IsApart w.thread.0 ws → w.thread.0 < n → length ws < n
fewer n ws w h apart below = omega (arith, few n (w ∷ ws) (below, apart, h))
