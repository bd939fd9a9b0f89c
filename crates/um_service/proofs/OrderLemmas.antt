-- Waiters in the order of service, one after another.
use Rattle.std.proofs.Common.{◌≡◌, ℕ, ◌+◌, ◌<◌, ◌≤◌, Bool, true, false, cond, List, [], ◌∷◌, length, map, filter, drop, get_or, refl, sym, ap, arith}
use Rattle.std.specs.Prelude.{int_lt}
use Rattle.std.proofs.lemmas.List.{drop_more}
use Rattle.um_base.specs.declared.ask.Waiter.{Waiter}
use Rattle.um_machine.specs.declared.served.Served.{Served}
use Rattle.um_machine.specs.Services.{with_waiter, in_order}
use Rattle.um_machine.specs.Serving.{serves}
use Rattle.um_service.specs.declared.order.Queued.{Queued}
use Rattle.um_service.specs.Preview.{queued, with_queued}

-- the order of service is that of the waiters
map-with_waiter : (which : Served) (w : Waiter) (vs : List Waiter) → map (queued which) (with_waiter w vs) ≡ with_queued (queued which w) (map (queued which) vs)
map-with_waiter which w [] = refl
map-with_waiter which w (v ∷ vs) =
    elim (int_lt v.priority w.priority) as (λ b. map (queued which) (cond b (v ∷ with_waiter w vs) (w ∷ v ∷ vs)) ≡ cond b (queued which v ∷ with_queued (queued which w) (map (queued which) vs)) (queued which w ∷ queued which v ∷ map (queued which) vs)) [
      | true ↦ ap (λ (qs : List Queued). queued which v ∷ qs) (map-with_waiter which w vs)
      | false ↦ refl
    ]

-- the waiter at a place joins those after it
pub joined : (which : Served) (all : List Waiter) (i : ℕ) (w : Waiter) (queue : List Queued) → i < length all → w ≡ get_or all i w
    → queue ≡ map (queued which) (in_order (filter (serves which) (drop (i + 1) all)))
    → cond (serves which w) (with_queued (queued which w) queue) queue ≡ map (queued which) (in_order (filter (serves which) (drop i all)))
joined which all i w queue inside at h =
    let rest = filter (serves which) (drop (i + 1) all) in
    let split : drop i all ≡ w ∷ drop (i + 1) all = rw (drop_more all i w inside, ← at) refl in
    rw (split, h)
    (elim (serves which w) as (λ b. cond b (with_queued (queued which w) (map (queued which) (in_order rest))) (map (queued which) (in_order rest)) ≡ map (queued which) (in_order (cond b (w ∷ rest) rest))) [
      | true ↦ sym (map-with_waiter which w (in_order rest))
      | false ↦ refl
    ])

length-with_queued : (one : Queued) (queue : List Queued) → length (with_queued one queue) ≡ length queue + 1
length-with_queued one [] = refl
length-with_queued one (v ∷ queue) =
    elim (int_lt v.priority one.priority) as (λ b. length (cond b (v ∷ with_queued one queue) (one ∷ v ∷ queue)) ≡ length (v ∷ queue) + 1) [
      | true ↦ omega (arith, length-with_queued one queue)
      | false ↦ omega arith
    ]

-- one more at most
pub few_joined : (b : Bool) (one : Queued) (queue : List Queued) → length (cond b (with_queued one queue) queue) ≤ length queue + 1
few_joined true one queue = omega (arith, length-with_queued one queue)
few_joined false one queue = omega arith
