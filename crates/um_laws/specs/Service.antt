-- Whom an act on an object wakes: first by priority, and then by time (Zephyr: Kernel Services, Scheduling, Waiting).
use Rattle.std.specs.Prelude.{◌≡◌, ℕ, ℤ, Bool, false, List, [], ◌∷◌, ◌++◌, map, filter, int_lt}
use Rattle.std.specs.Ordering.{int_eq}
use Rattle.um_base.specs.declared.act.Act.{Act}
use Rattle.um_base.specs.declared.act.Event.{Event}
use Rattle.um_base.specs.declared.ask.Waiter.{Waiter}
use Rattle.um_base.specs.declared.names.Reply.{Reply}
use Rattle.um_base.specs.declared.names.ThreadIx.{ThreadIx}
use Rattle.um_machine.specs.declared.served.Served.{Served}
use Rattle.um_base.specs.Places.{addr_of}
use Rattle.um_machine.specs.Futexes.{is_on}
use Rattle.um_machine.specs.Joins.{joins}
use Rattle.um_machine.specs.Order.{to_addr}
use Rattle.um_machine.specs.Serving.{served}
use Rattle.um_machine.specs.State.{State, object_at}
use Rattle.um_machine.specs.Table.{row_of}

abbrev pub has_priority : ℤ → Waiter → Bool
has_priority p w = int_eq w.priority p

abbrev pub threads_of : List Waiter → List ThreadIx
threads_of ws = map (λ (w : Waiter). w.thread) ws

-- none goes before the one that stands in front of it: the least priority number is the first
abbrev pub AreAscending : List Waiter → Type 0
AreAscending [] = Unit {0}
AreAscending (w ∷ []) = Unit {0}
AreAscending (w ∷ v ∷ ws) = (int_lt v.priority w.priority ≡ false) × AreAscending (v ∷ ws)

-- The same waiters by priority, and among equals as they began to wait.
pub record AreInOrder (waiting ordered : List Waiter) : Type 0 where
  pub ascending : AreAscending ordered
  pub equals : (p : ℤ) → filter (has_priority p) ordered ≡ filter (has_priority p) waiting

-- Of those who wait and are served by an act, the woken are the first ones, in their order.
pub record AreServedFirst (waiting : List Waiter) (woken : List ThreadIx) : Type 0 where
  pub which : Served
  pub first : List Waiter
  pub behind : List Waiter
  pub in_order : AreInOrder (served which waiting) (first ++ behind)
  pub woken_are : woken ≡ threads_of first

abbrev pub woken_threads : List (ThreadIx × Reply) → List ThreadIx
woken_threads woken = map (λ (p : ThreadIx × Reply). p.0) woken

abbrev pub WakesFirst : State → Act → Type 0
WakesFirst s (Act.Work a answer woken) = AreServedFirst (object_at s (row_of s a)).waiters (woken_threads woken)
WakesFirst s (Act.Left who woken) = AreServedFirst (filter (joins who.0) s.joins) (woken_threads woken)
WakesFirst s (Act.FutexWake a answer woken) = AreServedFirst (filter (is_on a.0) s.futexes) (woken_threads woken)
WakesFirst s (Act.Expire a woken) = (x : ℕ) × (a ≡ to_addr (addr_of s.image x)) × AreServedFirst (object_at s x).waiters (woken_threads woken)
WakesFirst s act = Unit {0}

abbrev pub IsInOrderOfService : State → Event → Type 0
IsInOrderOfService s event = WakesFirst s event.act
