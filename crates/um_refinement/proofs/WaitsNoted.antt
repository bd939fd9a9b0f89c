-- A thread that begins to wait in a cell noted that cell, and its processor is to read its word once more then.
use Rattle.um_refinement.proofs.Words.{says_step, Waiter, bytes_at, le_value, object_at, thread_at, to_thread, ◌≡◌, ℕ, zero, suc, ◌+◌, ◌<◌, Bool, true, false, List, [], ◌∷◌, ◌++◌, Option, Some, None, refl, sym, ap, ◌∙◌, subst, ◌==◌, ◌||◌, if◌then◌else◌, eq-eqb, list_any, ltb-true, false≢true, ROWS, Answer, ThreadIx, Told, Context, FineStep, Pending, Steps, State, Errno, Processor, Todo, Todos, act_in, after_show, answer_in, continues, filled_up, outcome_in, row_named, thread_in, wakes, Fine}
use Rattle.um_base.specs.declared.names.Timeout.{Timeout}
use Rattle.um_machine.specs.Futexes.{futex_refusal, futex_wait}
use Rattle.um_machine.specs.Joins.{join_answer}
use Rattle.um_machine.specs.Table as T
use Rattle.um_fine.specs.Follows.{rereads, waits_behind}
use Rattle.um_fine.specs.Places.{if_patient, is_patient, noted_cell, put_away}
use Rattle.um_refinement.specs.Stops.{cell_site, is_reread}
use Rattle.um_refinement.proofs.Erased.{around}
use Rattle.um_refinement.proofs.Leaves.{Lawful}
use Rattle.um_refinement.proofs.Offered.{IsStep, Shows}
use Rattle.um_refinement.proofs.RowSteps.{named-row}
use Rattle.um_refinement.proofs.RowsPart.{named-below}
use Rattle.um_refinement.proofs.TailsKept.{in-front, made-there}
use Rattle.um_refinement.proofs.TimeoutPart.{row-site}
use Rattle.um_refinement.proofs.WaitNotes.{acts-patient}
use Rattle.um_refinement.proofs.WaitSteps.{Begins}

abbrev pub is_wait : Answer → Bool
is_wait Answer.Wait = true
is_wait answer = false

either-now : (b : Bool) (x y : Answer) → is_wait x ≡ false → is_wait y ≡ false → is_wait (if b then x else y) ≡ false
either-now true x y h k = h
either-now false x y h k = k

-- a join and a wait on a futex that are told to wait may wait
join-patient : (s : State) (t n who : ℕ) (timeout : Timeout) → join_answer s t n who timeout ≡ Answer.Wait → is_patient timeout ≡ true
join-patient s t zero who Timeout.NoWait h = absurd (false≢true (ap is_wait h))
join-patient s t zero who (Timeout.Ticks ticks) h = refl
join-patient s t zero who Timeout.Forever h = refl
join-patient s t (suc n) who timeout h = absurd (false≢true (ap is_wait h))

futex-patient : (value found : ℕ) (timeout : Timeout) (refusal : Option Errno) → futex_wait value found timeout refusal ≡ Answer.Wait → is_patient timeout ≡ true
futex-patient value found (Timeout.Ticks ticks) refusal h = refl
futex-patient value found Timeout.Forever refusal h = refl
futex-patient value found Timeout.NoWait (Some e) h = absurd (false≢true (ap is_wait h))
futex-patient value found Timeout.NoWait None h = absurd (false≢true (sym (either-now (found == value) _ _ refl refl) ∙ ap is_wait h))

module _ (f : Fine) (m : State) (e : FineStep) (law : Lawful f m e) where
  open around f e use {processor as p, now}

  pub begins-noted : (t x c : ℕ) (q : Pending) → Begins m t x q c → noted_cell f.image (q ∷ []) ≡ Some (cell_site c)
  begins-noted t x c (Pending.Work a ask) (cell, waits) =
      let row : c ≡ row_named f.image a = cell ∙ named-row f m law.rel a in
      let few : c < ROWS = subst (λ n. n < ROWS) (sym row) (ltb-true (row_named f.image a) ROWS (named-below f m e law a)) in
      let me = thread_at m t in
      let o = object_at m (T.row_of m a) in
      let who : Waiter = record { thread = to_thread t; priority = me.priority; ask = ask; bytes = T.bytes_given me.buffer ask; until = me.until } in
      ap (λ b. if_patient b (168 + row_named f.image a)) (acts-patient o.contents o.waiters who ask waits) ∙ ap Some (ap (λ n. 168 + n) (sym row) ∙ sym (row-site c few))
  begins-noted t x c (Pending.Join who timeout) (cell, waits) = ap (λ b. if_patient b 308) (join-patient m t x who.0 timeout waits) ∙ ap (λ n. Some (cell_site n)) (sym cell)
  begins-noted t x c (Pending.FutexWait a value timeout) (cell, waits) = ap (λ b. if_patient b 304) (futex-patient value (le_value (bytes_at m a.0 4)) timeout (futex_refusal m t a.0) waits) ∙ ap (λ n. Some (cell_site n)) (sym cell)
  begins-noted t x c q starts = absurd starts

  -- Behind such an event its processor is to read its word once more.

  pub rereads-there : (q : Pending) (rest : Steps) (todo : Todos) (x c : ℕ) → Shows f m e.cpu e q rest todo → IsStep f m e.cpu e x q → Begins m p.context.thread x q c → list_any (is_reread (cell_site c)) now.todo ≡ true
  rereads-there q rest todo x c h is starts =
      made-there f.image (is_reread (cell_site c)) refl p e (Todo.show h.listed rest) todo h.at
      (subst (λ (z : Processor). list_any (is_reread (cell_site c)) z.todo ≡ true)
      (sym (λ i. if h.shown i then record p { todo = put_away (thread_in e.word).doomed } else after_show f.image p e (h.made i) rest todo)) (by q starts answers))
    where
      last : (todo : Todos) → list_any (is_reread (cell_site c)) (todo ++ Todo.reread (cell_site c) ∷ []) ≡ true
      last [] = ap (λ b. b || false) (eq-eqb (cell_site c) (cell_site c) refl)
      last (r ∷ todo) = in-front f.image (is_reread (cell_site c)) refl r (todo ++ Todo.reread (cell_site c) ∷ []) (last todo)

      filled : (d : Context) (todo : Todos) → list_any (is_reread (cell_site c)) todo ≡ true → list_any (is_reread (cell_site c)) (filled_up f.image d todo) ≡ true
      filled d [] h = absurd (false≢true h)
      filled d (r ∷ todo) h = h

      woken : (ws : List (ThreadIx × Told)) (todo : Todos) → list_any (is_reread (cell_site c)) todo ≡ true → list_any (is_reread (cell_site c)) (wakes ws todo) ≡ true
      woken [] todo h = h
      woken (w ∷ ws) todo h = woken ws todo h

      answers : Begins m p.context.thread x q c → answer_in (act_in e.act) ≡ Answer.Wait
      answers = by-step q is.says
        where
          by-step : (q : Pending) → says_step f.image p q (act_in e.act) ≡ T.act_of m p.context.thread x q → Begins m p.context.thread x q c → answer_in (act_in e.act) ≡ Answer.Wait
          by-step (Pending.Work a ask) says (cell, waits) = ap answer_in says ∙ waits
          by-step (Pending.Join who timeout) says (cell, waits) = ap answer_in says ∙ waits
          by-step (Pending.FutexWait a value timeout) says (cell, waits) = ap answer_in says ∙ waits
          by-step q says starts = absurd starts

      behind : (q : Pending) → Begins m p.context.thread x q c → answer_in (act_in e.act) ≡ Answer.Wait → list_any (is_reread (cell_site c)) (waits_behind f.image q e todo) ≡ true
      behind q starts waits =
          subst (λ (z : Answer × Option ℕ). list_any (is_reread (cell_site c)) (rereads f.image z.0 z.1 todo) ≡ true) (λ i. (sym waits i, sym (begins-noted p.context.thread x c q starts) i)) (last todo)

      by : (q : Pending) → Begins m p.context.thread x q c → (Begins m p.context.thread x q c → answer_in (act_in e.act) ≡ Answer.Wait) → list_any (is_reread (cell_site c)) (after_show f.image p e q rest todo).todo ≡ true
      by (Pending.Work a ask) starts waits =
          let c2 = continues f.image p.context 0 (Pending.Work a ask) rest (act_in e.act) e.moved in
          let left = waits_behind f.image (Pending.Work a ask) e todo in
          woken (outcome_in e.moved).woken (filled_up f.image c2 left) (filled c2 left (behind (Pending.Work a ask) starts (waits starts)))
      by (Pending.Join who timeout) starts waits = filled (continues f.image p.context 0 (Pending.Join who timeout) rest (act_in e.act) e.moved) (waits_behind f.image (Pending.Join who timeout) e todo) (behind (Pending.Join who timeout) starts (waits starts))
      by (Pending.FutexWait a value timeout) starts waits =
          filled (continues f.image p.context 0 (Pending.FutexWait a value timeout) rest (act_in e.act) e.moved) (waits_behind f.image (Pending.FutexWait a value timeout) e todo) (behind (Pending.FutexWait a value timeout) starts (waits starts))
      by q starts waits = absurd starts
