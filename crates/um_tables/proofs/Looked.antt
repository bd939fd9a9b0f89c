-- What a cell makes of a look for a thread that waits there, and of a mark of a timer.
use Rattle.std.proofs.Common.{◌≡◌, ℕ, Bool, true, false, not, IsTrue, List, [], Option, Some, None, refl, sym, subst, if◌then◌else◌}
use Rattle.um_base.specs.declared.act.Act.{Act}
use Rattle.um_base.specs.declared.act.Event.{Event}
use Rattle.um_base.specs.declared.image.Image.{Image}
use Rattle.um_base.specs.declared.ask.Told.{Told}
use Rattle.um_base.specs.declared.names.Addr.{Addr}
use Rattle.um_base.specs.declared.names.ThreadIx.{ThreadIx}
use Rattle.um_machine.specs.Order.{to_row}
use Rattle.um_machine.specs.Services.{in_order}
use Rattle.um_machine.specs.Table.{replies_of}
use Rattle.um_machine.specs.Time.{has_run_out}
use Rattle.um_words.specs.CellActs.{join_takes, memory_takes, object_takes}
use Rattle.um_words.specs.declared.fine.FineAct.{FineAct}
use Rattle.um_words.specs.declared.fine.Mark.{Mark}
use Rattle.um_words.specs.declared.fine.More.{More}
use Rattle.um_fine.specs.Answers.{act_in, is_void, woken_in}
use Rattle.um_fine.specs.Follows.{told_all}
use Rattle.um_fine.specs.Joins.{Joins, join_after, join_moves, join_says}
use Rattle.um_fine.specs.Memory.{Bytes, memory_after, memory_moves, memory_says}
use Rattle.um_fine.specs.Objects.{ObjectCell, object_after, object_moves, object_says, run_out}
use Rattle.um_fine.specs.Seeking.{finds, looked_for}
use Rattle.um_fine.specs.Steps.{Exchange}
use Rattle.um_tables.specs.Asked.{by_thread, event_of, shown}
use Rattle.um_tables.specs.Looks.{left_by, look_act, look_sent}
use Rattle.um_tables.specs.ObjectCells.{expiry, kept_in}
use Rattle.um_tables.specs.declared.look.Look.{Look}
use Rattle.um_tables.specs.declared.object_cell.ObjectCell.{ObjectCell as Held}
use Rattle.um_tables.proofs.Told.{told-run-out}

-- What comes of a look: by what the cell says, it takes that, is left so, and the event is that of the step.
pub record Comes {C : Type 0} (takes : FineAct → Bool) (after : FineAct → C) (said : FineAct) (left : C) (event : Option Event) (found : Bool) : Type 0 where
  pub takes_it : IsTrue (takes said)
  pub leaves : left ≡ after said
  pub event_is : event ≡ event_of said
  pub found_is : found ≡ not (is_void said)

module _ (image : Image) (m : Bytes) where
  abbrev memory_comes : Look → FineAct → Bool → Type 0
  memory_comes look said found =
      Comes memory_takes (λ a. memory_after image m (act_in a) (memory_moves image m (act_in (look_act look)) (look_sent look))) said
      (record m { futexes = left_by found look m.futexes }) (event_of (looked_for found (look_act look))) found

  at-memory : (look : Look) (found : Bool) → memory_comes look (looked_for found (look_act look)) found
  at-memory (Look.Aborted t who before) true = record { takes_it = refl; leaves = refl; event_is = refl; found_is = refl }
  at-memory (Look.Aborted t who before) false = record { takes_it = refl; leaves = refl; event_is = refl; found_is = refl }
  at-memory (Look.Late t who deadline site) true = record { takes_it = refl; leaves = refl; event_is = refl; found_is = refl }
  at-memory (Look.Late t who deadline site) false = record { takes_it = refl; leaves = refl; event_is = refl; found_is = refl }

  pub looked-at-memory : (look : Look) (found : Bool) → found ≡ finds m.futexes m.noted (look_sent look) → memory_comes look (memory_says image m (look_sent look) (look_act look)) found
  looked-at-memory (Look.Aborted t who before) found h =
      subst (λ (b : Bool). memory_comes (Look.Aborted t who before) (looked_for b (look_act (Look.Aborted t who before))) found) h (at-memory (Look.Aborted t who before) found)
  looked-at-memory (Look.Late t who deadline site) found h =
      subst (λ (b : Bool). memory_comes (Look.Late t who deadline site) (looked_for b (look_act (Look.Late t who deadline site))) found) h (at-memory (Look.Late t who deadline site) found)

module _ (o : ObjectCell) where
  abbrev object_comes : Look → FineAct → Bool → Type 0
  object_comes look said found =
      Comes object_takes (λ a. object_after o a (object_moves o (look_act look) (look_sent look))) said
      (record o { waiters = left_by found look o.waiters }) (event_of (looked_for found (look_act look))) found

  at-object : (look : Look) (found : Bool) → object_comes look (looked_for found (look_act look)) found
  at-object (Look.Aborted t who before) true = record { takes_it = refl; leaves = refl; event_is = refl; found_is = refl }
  at-object (Look.Aborted t who before) false = record { takes_it = refl; leaves = refl; event_is = refl; found_is = refl }
  at-object (Look.Late t who deadline site) true = record { takes_it = refl; leaves = refl; event_is = refl; found_is = refl }
  at-object (Look.Late t who deadline site) false = record { takes_it = refl; leaves = refl; event_is = refl; found_is = refl }

  pub looked-at-object : (look : Look) (found : Bool) → found ≡ finds o.waiters o.noted (look_sent look) → object_comes look (object_says o (look_sent look) (look_act look)) found
  looked-at-object (Look.Aborted t who before) found h =
      subst (λ (b : Bool). object_comes (Look.Aborted t who before) (looked_for b (look_act (Look.Aborted t who before))) found) h (at-object (Look.Aborted t who before) found)
  looked-at-object (Look.Late t who deadline site) found h =
      subst (λ (b : Bool). object_comes (Look.Late t who deadline site) (looked_for b (look_act (Look.Late t who deadline site))) found) h (at-object (Look.Late t who deadline site) found)

  -- a timer runs out, or doesn't
  abbrev ran_out : ThreadIx → Addr → FineAct
  ran_out t a = shown t (Act.Expire a (replies_of (run_out o).2)) More.Nothing

  abbrev timer_comes : ThreadIx → Addr → ℕ → ℕ → FineAct → ObjectCell → Option Event → Bool → Type 0
  timer_comes t a x deadline said left event found =
      Comes object_takes (λ z. object_after o z (object_moves o (expiry t a) (Exchange.mark deadline (Mark.Timer (to_row x))))) said left event found

-- the timer in a cell runs out: what is left there, and who is woken
pub record Expires (d : Held) (t : ThreadIx) (a : Addr) (x deadline : ℕ) (z : Held) (woken : List (ThreadIx × Told)) (found : Bool) : Type 0 where
  pub comes : timer_comes (kept_in d) t a x deadline (object_says (kept_in d) (Exchange.mark deadline (Mark.Timer (to_row x))) (expiry t a)) (kept_in z)
      (if found then Some (by_thread t (Act.Expire a (replies_of woken))) else None) found
  pub steps_same : z.steps ≡ d.steps
  pub woken_is : woken ≡ told_all (woken_in (act_in (object_says (kept_in d) (Exchange.mark deadline (Mark.Timer (to_row x))) (expiry t a))))

module _ (d : Held) (t : ThreadIx) (a : Addr) (x deadline : ℕ) where
  abbrev expires_by : Bool → Held → List (ThreadIx × Told) → Bool → Type 0
  expires_by ran z woken found =
      let said = looked_for ran (ran_out (kept_in d) t a) in
      timer_comes (kept_in d) t a x deadline said (kept_in z) (if found then Some (by_thread t (Act.Expire a (replies_of woken))) else None) found
      × (z.steps ≡ d.steps) × (woken ≡ told_all (woken_in (act_in said)))

  expires : (z : Held) (woken : List (ThreadIx × Told)) (found : Bool)
      → (found ≡ true → (z ≡ record d { contents = (run_out (kept_in d)).0; waiters = (run_out (kept_in d)).1 }) × (woken ≡ (run_out (kept_in d)).2))
      → (found ≡ false → (z ≡ d) × (woken ≡ [])) → expires_by found z woken found
  expires z woken true left kept =
      let e = left refl in
      rw (e.0, e.1) (record { takes_it = refl; leaves = refl; event_is = refl; found_is = refl }, refl, sym (told-run-out d.waiters (in_order d.waiters)))
  expires z woken false left kept =
      let e = kept refl in rw (e.0, e.1) (record { takes_it = refl; leaves = refl; event_is = refl; found_is = refl }, refl, refl)

  pub expired-at-timer : (z : Held) (woken : List (ThreadIx × Told)) (found : Bool) → found ≡ has_run_out deadline d.contents
      → (found ≡ true → (z ≡ record d { contents = (run_out (kept_in d)).0; waiters = (run_out (kept_in d)).1 }) × (woken ≡ (run_out (kept_in d)).2))
      → (found ≡ false → (z ≡ d) × (woken ≡ [])) → Expires d t a x deadline z woken found
  expired-at-timer z woken found h left kept =
      let e = subst (λ (b : Bool). expires_by b z woken found) h (expires z woken found left kept) in record { comes = e.0; steps_same = e.1; woken_is = e.2 }

module _ (j : Joins) where
  abbrev joins_comes : Look → FineAct → Bool → Type 0
  joins_comes look said found =
      Comes join_takes (λ a. join_after j a (join_moves j (look_act look) (look_sent look))) said
      (record j { waiters = left_by found look j.waiters }) (event_of (looked_for found (look_act look))) found

  at-joins : (look : Look) (found : Bool) → joins_comes look (looked_for found (look_act look)) found
  at-joins (Look.Aborted t who before) true = record { takes_it = refl; leaves = refl; event_is = refl; found_is = refl }
  at-joins (Look.Aborted t who before) false = record { takes_it = refl; leaves = refl; event_is = refl; found_is = refl }
  at-joins (Look.Late t who deadline site) true = record { takes_it = refl; leaves = refl; event_is = refl; found_is = refl }
  at-joins (Look.Late t who deadline site) false = record { takes_it = refl; leaves = refl; event_is = refl; found_is = refl }

  pub looked-at-joins : (look : Look) (found : Bool) → found ≡ finds j.waiters j.noted (look_sent look) → joins_comes look (join_says j (look_sent look) (look_act look)) found
  looked-at-joins (Look.Aborted t who before) found h =
      subst (λ (b : Bool). joins_comes (Look.Aborted t who before) (looked_for b (look_act (Look.Aborted t who before))) found) h (at-joins (Look.Aborted t who before) found)
  looked-at-joins (Look.Late t who deadline site) found h =
      subst (λ (b : Bool). joins_comes (Look.Late t who deadline site) (looked_for b (look_act (Look.Late t who deadline site))) found) h (at-joins (Look.Late t who deadline site) found)
