-- The cell in which a thread begins to wait keeps the number of its note, where it has a place for each thread.
use Rattle.um_refinement.proofs.Words.{◌≡◌, ℕ, ◌<◌, true, List, Option, Some, length, refl, sym, ap, ◌∙◌, arith, slice_index_or, slice_set, unwrap_or, get_or-set_at, eq-eqb, false, cond, Bool, ◌==◌, if◌then◌else◌, eqb-true, ltb-true, ROWS, same_site, s_next, site_after, Site, SiteState, ObjectCell, bytes, bytes_state, memory_after, object, row_named, Act, Addr, Ask, THREADS, Answer, Exchange, Pending, Steps, ThreadIx, State, act_in, answer_in, caller_in, FineStep, Todos, Fine}
use Rattle.um_base.specs.declared.limits.TheConstants.{FUTEX_CELL, JOIN_CELL}
use Rattle.um_base.specs.declared.names.Timeout.{Timeout}
use Rattle.um_fine.specs.Answers.{noted_in}
use Rattle.um_fine.specs.Joins.{Joins, begins_waiting}
use Rattle.um_refinement.specs.Fine.{joins}
use Rattle.um_refinement.specs.Stops.{noted_at, notes_in}
use Rattle.um_refinement.proofs.CellSteps.{cell-here}
use Rattle.um_refinement.proofs.MemorySteps.{memory-sort}
use Rattle.um_refinement.proofs.RowSteps.{named-row}
use Rattle.um_refinement.proofs.RowsPart.{named-below}
use Rattle.um_refinement.proofs.WaitSteps.{Begins}
use Rattle.um_refinement.proofs.WaitsKept.{Begun, begun}
use Rattle.um_refinement.proofs.Erased.{around}
use Rattle.um_refinement.proofs.Leaves.{Lawful, mine}
use Rattle.um_refinement.proofs.Offered.{IsStep, Shows, moved-made, site-is}
use Rattle.um_refinement.proofs.ParkedPart.{joins-later}

-- the numbers that a row's cell keeps
notes-of-row : (f : Fine) (x : ℕ) → x < ROWS → notes_in f x ≡ (object f x).noted
notes-of-row f x few = by (x == JOIN_CELL) refl (x == FUTEX_CELL) refl
  where
    by : (a : Bool) → (x == JOIN_CELL) ≡ a → (b : Bool) → (x == FUTEX_CELL) ≡ b → (if a then (joins f).noted else if b then (bytes f).noted else (object f x).noted) ≡ (object f x).noted
    by true p b q = let at = eqb-true x JOIN_CELL p in absurd (omega (arith, few, at))
    by false p true q = let at = eqb-true x FUTEX_CELL q in absurd (omega (arith, few, at))
    by false p false q = refl

module _ (f : Fine) (m : State) (e : FineStep) (law : Lawful f m e) (t : ℕ) (few : t < THREADS) where
  open around f e use {later, processor as p}

  -- the place of the thread in a list of numbers, where its own is put
  put-at : (xs : List ℕ) (n : ℕ) → length xs ≡ THREADS → (caller_in e.moved).thread.0 ≡ t → noted_in e.moved ≡ n → slice_index_or (slice_set xs (caller_in e.moved).thread.0 (noted_in e.moved)) t 0 ≡ n
  put-at xs n long same is = get_or-set_at xs (caller_in e.moved).thread.0 t (noted_in e.moved) 0 (sym same) (omega (arith, few, long, same)) ∙ is

  pub join-held : (who : ThreadIx) (timeout : Timeout) (rest : Steps) (todo : Todos) (x n : ℕ) → Shows f m e.cpu e (Pending.Join who timeout) rest todo → IsStep f m e.cpu e x (Pending.Join who timeout)
      → t ≡ mine f m e → answer_in (act_in e.act) ≡ Answer.Wait
      → length (joins f).noted ≡ THREADS → p.context.noted ≡ Some n → noted_at later JOIN_CELL t ≡ n
  join-held who timeout rest todo x n h is same waits long noted =
      ap (λ (j : Joins). slice_index_or j.noted t 0) (joins-later f m e law (site-is h) _ is.said)
      ∙ (ap (λ a. slice_index_or (begins_waiting (joins f) e.moved a).noted t 0) waits
      ∙ put-at (joins f).noted n long (ap (λ (mv : Exchange). (caller_in mv).thread.0) (moved-made h) ∙ sym same) (ap (λ (mv : Exchange). noted_in mv) (moved-made h) ∙ ap (λ (o : Option ℕ). unwrap_or o 0) noted))

  pub futex-held : (a : Addr) (value : ℕ) (timeout : Timeout) (rest : Steps) (todo : Todos) (x n : ℕ) → Shows f m e.cpu e (Pending.FutexWait a value timeout) rest todo
      → IsStep f m e.cpu e x (Pending.FutexWait a value timeout) → t ≡ mine f m e → answer_in (act_in e.act) ≡ Answer.Wait → length (bytes f).noted ≡ THREADS → p.context.noted ≡ Some n → noted_at later FUTEX_CELL t ≡ n
  futex-held a value timeout rest todo x n h is same waits long noted =
      ap (λ b. slice_index_or (bytes_state (cond b (s_next f.image (f.sites Site.memory) e) (f.sites Site.memory))).noted t 0) (ap (λ i. same_site i Site.memory) (site-is h))
      ∙ (ap (λ (s : SiteState). slice_index_or (bytes_state (site_after f.image s e.act e.moved)).noted t 0) (memory-sort (f.sites Site.memory) (law.rel.sorts Site.memory)).1
      ∙ (ap (λ z. slice_index_or (memory_after f.image (bytes f) (act_in z) e.moved).noted t 0) is.said
      ∙ (ap (λ z. slice_index_or (memory_after f.image (bytes f) (Act.FutexWait a value z) e.moved).noted t 0) waits
      ∙ put-at (bytes f).noted n long (ap (λ (mv : Exchange). (caller_in mv).thread.0) (moved-made h) ∙ sym same) (ap (λ (mv : Exchange). noted_in mv) (moved-made h) ∙ ap (λ (o : Option ℕ). unwrap_or o 0) noted))))

  pub work-held : (a : Addr) (ask : Ask) (rest : Steps) (todo : Todos) (x n : ℕ) → Shows f m e.cpu e (Pending.Work a ask) rest todo → IsStep f m e.cpu e x (Pending.Work a ask)
      → t ≡ mine f m e → length (object f (row_named f.image a)).noted ≡ THREADS → p.context.noted ≡ Some n → noted_at later (row_named f.image a) t ≡ n
  work-held a ask rest todo x n h is same long noted =
      let r = row_named f.image a in
      let low : r < ROWS = ltb-true r ROWS (named-below f m e law a) in
      ap (λ xs. slice_index_or xs t 0) (notes-of-row later r low)
      ∙ (ap (λ (o : ObjectCell). slice_index_or o.noted t 0) (cell-here f m e law r low (ap (λ i. same_site i (Site.object r)) (site-is h) ∙ eq-eqb r r refl) _ is.said)
      ∙ put-at (object f r).noted n long (ap (λ (mv : Exchange). (caller_in mv).thread.0) (moved-made h) ∙ sym same) (ap (λ (mv : Exchange). noted_in mv) (moved-made h) ∙ ap (λ (o : Option ℕ). unwrap_or o 0) noted))

  -- of each cell
  pub begun-held : (c n : ℕ) → Begun f m e t c → length (notes_in f c) ≡ THREADS → p.context.noted ≡ Some n → noted_at later c t ≡ n
  begun-held c n (begun q rest todo x h is same starts) long noted = by q h is starts
    where
      by : (q : Pending) → Shows f m e.cpu e q rest todo → IsStep f m e.cpu e x q → Begins m (mine f m e) x q c → noted_at later c t ≡ n
      by (Pending.Work a ask) h is (cell, waits) =
          let row : c ≡ row_named f.image a = cell ∙ named-row f m law.rel a in
          let low = ltb-true (row_named f.image a) ROWS (named-below f m e law a) in
          ap (λ y. noted_at later y t) row ∙ work-held a ask rest todo x n h is same (ap (λ xs. length xs) (sym (notes-of-row f (row_named f.image a) low)) ∙ (ap (λ y. length (notes_in f y)) (sym row) ∙ long)) noted
      by (Pending.Join who timeout) h is (cell, waits) =
          ap (λ y. noted_at later y t) cell ∙ join-held who timeout rest todo x n h is same (ap answer_in is.says ∙ waits) (ap (λ y. length (notes_in f y)) (sym cell) ∙ long) noted
      by (Pending.FutexWait a value timeout) h is (cell, waits) =
          ap (λ y. noted_at later y t) cell ∙ futex-held a value timeout rest todo x n h is same (ap answer_in is.says ∙ waits) (ap (λ y. length (notes_in f y)) (sym cell) ∙ long) noted
      by q h is starts = absurd starts
