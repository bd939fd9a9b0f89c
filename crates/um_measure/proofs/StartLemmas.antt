-- A thread starts another.
use Rattle.std.proofs.Common.{◌≡◌, ◌<◌, ◌≤◌, ℕ, zero, suc, ◌+◌, true, List, [], ◌∷◌, refl, sym, ap, ◌∙◌, subst, arith, None, slice_index_or, slice_set}
use Rattle.std.specs.Prelude.{◌⊎◌, ℤ}
use Rattle.std.specs.List.{list_all}
use mathlib.Core.Logic.{inl, inr, ⊎_elim}
use Rattle.um_base.specs.declared.names.Mode.{Mode}
use Rattle.um_base.specs.declared.names.Row.{Row}
use Rattle.um_base.specs.declared.names.ThreadIx.{ThreadIx}
use Rattle.um_machine.specs.declared.pending.Pending.{Pending}
use Rattle.um_machine.specs.declared.thread.Life.{Life}
use Rattle.um_machine.specs.declared.thread.Thread.{Thread}
use Rattle.um_machine.specs.Order.{Steps}
use Rattle.um_machine.specs.State.{State, nobody, thread_at, with_thread, first_place, next_place}
use Rattle.um_machine.specs.Table.{after, at_steps, newborn}
use Rattle.um_measure.specs.Measure.{total, end_cost, lines_left, thread_cost, measure, armings}
use Rattle.um_measure.specs.Reached.{may_wait, IsSound, IsReached}
use Rattle.um_measure.proofs.TotalLemmas.{total-set}
use Rattle.um_measure.proofs.EasedLemmas.{cost-nobody, sound-set}
use Rattle.um_measure.proofs.MadeLemmas.{IsMade, IsReady, begun_cost, cost-at_steps, cost-pending, sound-at_steps, ready-living, ready-rest}
use Rattle.um_measure.proofs.LifeLemmas.{cost-rests, begun-living}
use Rattle.um_measure.proofs.NextLemmas.{next-stands, first-stands}

-- an item of a list of which one is written: that one, or the one that stood there
set-either : (xs : List Thread) (i : ℕ) (y : Thread) (j : ℕ) → ((slice_index_or (slice_set xs i y) j nobody ≡ y) × (i ≡ j)) ⊎ (slice_index_or (slice_set xs i y) j nobody ≡ slice_index_or xs j nobody)
set-either [] i y j = inr refl
set-either (x ∷ xs) zero y zero = inl (refl, refl)
set-either (x ∷ xs) zero y (suc j) = inr refl
set-either (x ∷ xs) (suc i) y zero = inr refl
set-either (x ∷ xs) (suc i) y (suc j) = ⊎_elim (λ h. inl (h.0, ap suc h.1)) (λ h. inr h) (set-either xs i y j)

module _ (s : State) (reached : IsReached s) (t x : ℕ) (rest : Steps) (who : ThreadIx) (script : ℕ) (stack : Row) (priority : ℤ) (mode : Mode) where
  abbrev Step : Pending
  Step = Pending.Start who script stack priority mode

  abbrev New : Thread
  New = newborn s (thread_at s t) who.0 script Step

  abbrev Started : State
  Started = with_thread s who.0 New

  new-cost : thread_cost s.image New ≡ end_cost + lines_left s.image (first_place s.image script)
  new-cost = let cost = cost-rests s.image New refl refl in omega (arith, cost)

  new-sound : IsSound s.image New
  new-sound = record { place = λ l. (first-stands s.image reached.lawful script).stands; waits = refl; passes = refl }

  start-falls : IsReady s t Step rest → total (thread_cost s.image) (slice_set Started.threads t (at_steps s.image (record (thread_at Started t) { child = None }) rest)) < total (thread_cost s.image) s.threads
  start-falls ready =
      let me = thread_at s t in
      let alive = ready-living s t Step rest ready refl in
      let first = total-set (thread_cost s.image) nobody (cost-nobody s.image) s.threads who.0 New in
      let second = total-set (thread_cost s.image) nobody (cost-nobody s.image) Started.threads t (at_steps s.image (record (thread_at Started t) { child = None }) rest) in
      let after-it = cost-at_steps s.image (record (thread_at Started t) { child = None }) rest in
      let before = cost-pending s.image me ready.first ready.others ready.are in
      let cost = ready.cost in
      let new = new-cost in
      ⊎_elim
      (λ h.
      let life : (thread_at Started t).life ≡ Life.Living = rw h.0 refl in
      let begun = begun-living s.image (thread_at Started t).life (thread_at Started t).place life in
      let place : (thread_at Started t).place ≡ first_place s.image script = rw h.0 refl in
      let ahead : lines_left s.image (next_place s.image (thread_at Started t).place) ≤ lines_left s.image (first_place s.image script)
      = rw place (next-stands s.image reached.lawful (first_place s.image script) (first-stands s.image reached.lawful script).stands).cost in
      let there : thread_cost s.image (thread_at Started t) ≡ thread_cost s.image New = ap (thread_cost s.image) h.0 in
      let here : thread_cost s.image (thread_at s who.0) ≡ thread_cost s.image me = ap (λ u. thread_cost s.image (thread_at s u)) h.1 in
      omega (arith, first, second, after-it, before, cost, new, begun, ahead, there, here))
      (λ h.
      let there : thread_cost s.image (thread_at Started t) ≡ thread_cost s.image me = ap (thread_cost s.image) h in
      let begun : begun_cost s.image (thread_at Started t).life (thread_at Started t).place ≡ begun_cost s.image me.life me.place = ap (λ (u : Thread). begun_cost s.image u.life u.place) h in
      omega (arith, first, second, after-it, before, cost, new, begun, there))
      (set-either s.threads who.0 New t)

  pub start : IsReady s t Step rest → IsMade s (after s t x Step rest) (Unit {0})
  unfolding measure armings
  start ready =
      let me = record (thread_at Started t) { child = None } in
      let all = sound-set s.image s.threads who.0 New new-sound reached.sound in
      let living : (thread_at Started t).life ≡ Life.Living = ⊎_elim (λ h. ap (λ (u : Thread). u.life) h.0) (λ h. ap (λ (u : Thread). u.life) h ∙ ready-living s t Step rest ready refl) (set-either s.threads who.0 New t) in
      let waits : list_all (may_wait (thread_at Started t).life) rest ≡ true
      = subst (λ (life : Life). list_all (may_wait life) rest ≡ true) (ready-living s t Step rest ready refl ∙ sym living) (ready-rest s t Step rest ready) in
      let falls = start-falls ready in
      record {
        image_is = refl;
        sized = reached.sized;
        sound = sound-set s.image Started.threads t (at_steps s.image me rest) (sound-at_steps s.image reached.lawful me rest (all t).place waits ready.passes) all;
        falls = λ due. omega (arith, falls);
        arms = omega (arith, falls);
      }
