use Rattle.std.proofs.Common.{◌≡◌, ℕ, ◌+◌, ◌<◌, ◌≤◌, ◌++◌, ◌∷◌, [], List, length, take, slice_set, arith, ap, ◌∙◌, length-take-le}
use Rattle.std.proofs.lemmas.List.{take_more_set, length-set}
use Rattle.um_base.specs.declared.ask.Waiter.{Waiter}
use Rattle.um_base.specs.declared.limits.TheConstants.{THREADS}
use Rattle.um_machine.specs.Services.{without}
use Rattle.um_machine.specs.Waiting.{IsApart, AreWaiters}
use Rattle.um_machine.proofs.WaiterLemmas.{AreWaiters-push, fewer, without-apart}
use Rattle.um_machine.proofs.waiters.Waiters.wait.Goals as goal

-- A thread that isn't among the waiters comes behind fewer than all.
module _ (n len : ℕ) (items : List Waiter) (w : Waiter) (old : List Waiter) (kept : (len ≤ n) × (length items ≡ n) × AreWaiters n (take len items)) (others : take len items ≡ without w.thread.0 old) (below : w.thread.0 < n) where
  apart : IsApart w.thread.0 (take len items)
  apart = rw others (without-apart w.thread.0 old)

  inside : len < n
  inside = omega (arith, kept.0, fewer n (take len items) w kept.2 apart below, length-take-le len items (omega (arith, kept.0, kept.1)))

  listed_place : len < length items
  listed_place = omega (arith, kept.1, inside)

  kept_then : (len + 1 ≤ n) × (length (slice_set items len w) ≡ n) × AreWaiters n (take (len + 1) (slice_set items len w))
  kept_then = (
    omega (arith, inside),
    length-set items len w ∙ kept.1,
    rw (take_more_set items len w listed_place) (AreWaiters-push n (take len items) w kept.2 apart below),
  )

  list_then : take (len + 1) (slice_set items len w) ≡ without w.thread.0 old ++ w ∷ []
  list_then = take_more_set items len w listed_place ∙ ap (λ (ws : List Waiter). ws ++ w ∷ []) others

pub listed : goal.listed
listed c = listed_place THREADS _ _ c.args.who.now _ c.self.invariant (c.self.view_is ∙ c.remove.ensures) c.requires

pub bounds-self-inside-self-inside : goal.bounds-self-inside-self-inside
bounds-self-inside-self-inside c = inside THREADS _ _ c.args.who.now _ c.self.invariant (c.self.view_is ∙ c.remove.ensures) c.requires

pub invariant_of-self : goal.invariant_of-self
invariant_of-self c = kept_then THREADS _ _ c.args.who.now _ c.self.invariant (c.self.view_is ∙ c.remove.ensures) c.requires

pub returns : goal.returns
returns c = list_then THREADS _ _ c.args.who.now _ c.self.invariant (c.self.view_is ∙ c.remove.ensures) c.requires
