-- The steps before a thread's next step, as steps of the whole processor.
use Rattle.std.proofs.Common.{◌≡◌, ℕ, ◌+◌, ◌<◌, Bool, true, false, List, [], ◌∷◌, ◌++◌, drop, get_or, length, refl, sym, subst, ap, ◌∙◌, arith, add-one, drop-cons}
use Rattle.std.specs.Prelude.{remove, Option, Some, if◌then◌else◌}
use Rattle.um_fine.specs.Answers.{is_visit}
use Rattle.um_base.specs.declared.ask.Told.{Told}
use Rattle.um_base.specs.declared.image.Image.{Image}
use Rattle.um_base.specs.declared.names.ThreadIx.{ThreadIx}
use Rattle.um_machine.specs.declared.object.Cost.{Cost}
use Rattle.um_machine.specs.Order.{to_addr, to_row, to_thread}
use Rattle.um_words.specs.declared.row_word.RowWord.{RowWord}
use Rattle.um_fine.specs.Asks.{begins_cleaning}
use Rattle.um_fine.specs.Follows.{end_calls, wakes}
use Rattle.um_fine.specs.Heap.{Heap}
use Rattle.um_fine.specs.Objects.{ObjectCell}
use Rattle.um_fine.specs.Places.{Todo, Todos, clean_pairs, cleanings}
use Rattle.um_fine.specs.Processor.{Processor}
use Rattle.um_fine.specs.Scheduler.{Scheduler}
use Rattle.um_fine.specs.Steps.{Exchange, FineStep}
use Rattle.um_processor.specs.declared.phase.Phase.{Phase}
use Rattle.um_base.specs.Places.{addr_of}
use Rattle.um_tables.specs.declared.heap_act.HeapAct.{HeapAct}
use Rattle.um_processor.specs.declared.processor.Processor.{Processor as Kept}
use Rattle.um_processor.specs.declared.request.Request.{Request}
use Rattle.um_words.specs.declared.row_act.RowAct.{RowAct}
use Rattle.um_processor.specs.declared.running.Running.{Running}
use Rattle.um_processor.specs.Cleanings.{all_clean, block_if}
use Rattle.um_tables.specs.HeapActs.{heap_made}
use Rattle.um_tables.specs.ObjectCells.{cleared_made}
use Rattle.um_processor.specs.Phases.{is_idle}
use Rattle.um_processor.specs.Processors.{Goes, errands_of, in_phase, processor_of, site_next}
use Rattle.um_processor.specs.Wants.{Wants}
use Rattle.um_processor.specs.Requests.{Leads}
use Rattle.um_tables.specs.RowActs.{row_made}
use Rattle.um_tables.specs.SchedulerActs.{woken_made}
use Rattle.um_processor.specs.Standing.{CleansNext, standing, whole}
use Rattle.um_processor.proofs.Cleaned.{cleanings-append}
use Rattle.um_processor.proofs.Counted.{none-before, none-of}
use Rattle.um_processor.proofs.Standings.{Front, ended, front-before, front-of, pair_cleaned, recycled, stands, sweep-asks, vacated, waked, wiped}

-- the first of a list, and those after it
pub first-removed : (xs : List ℕ) (d : ℕ) → 0 < length xs → xs ≡ get_or xs 0 d ∷ remove xs 0
first-removed [] d h = absurd (omega arith)
first-removed (x ∷ xs) d h = refl

pub next-told : (woken : List (ThreadIx × Told)) (told : ℕ) (w : ThreadIx × Told) → told < length woken → w ≡ get_or woken told w
    → drop told woken ≡ w ∷ drop (told + 1) woken
next-told woken told w h e = drop-cons woken told w h ∙ (λ i. sym e i ∷ drop (sym (add-one told) i) woken)

charged : (phase : Phase) (r : Running) (cost : Option Cost) → in_phase phase (record r { charge = cost }) ≡ record (in_phase phase r) { charge = cost }
charged Phase.Idle r cost = refl
charged phase r cost = refl

acted-in : (phase : Phase) (r : Running) (t : Option ℕ) → in_phase phase (record r { actor = t }) ≡ record (in_phase phase r) { actor = t }
acted-in Phase.Idle r t = refl
acted-in phase r t = refl

module _ (image : Image) (cpu : ℕ) (r : Running) (runs : is_idle r.phase ≡ false) where
  p : Processor
  p = processor_of r

  -- what is left behind the cleaning
  abbrev pub behind : List ℕ → List (ThreadIx × Told) → Todos
  behind ends woken = end_calls ends (wakes woken (errands_of r.phase r))

  front : Front (errands_of r.phase r)
  front = front-of r.phase r runs

  pub stood : (cleans cs : Todos) (ends : List ℕ) (woken : List (ThreadIx × Told)) → cleans ≡ cs
      → standing cleans ends woken (processor_of r) ≡ record (processor_of r) { todo = cs ++ behind ends woken }
  stood cleans cs ends woken e = ap (λ (t : Todos). standing t ends woken (processor_of r)) e ∙ stands cs ends woken (processor_of r) front

  -- the first claim
  pub end-first : (cleans : Todos) (ends rest : List ℕ) (woken : List (ThreadIx × Told)) (x : ℕ) → cleans ≡ [] → ends ≡ x ∷ rest
      → standing cleans ends woken (processor_of r) ≡ record (processor_of r) { todo = Todo.end_call x ∷ behind rest woken }
  end-first cleans ends rest woken x ec ee =
      ap (λ (t : List ℕ). standing cleans t woken (processor_of r)) ee ∙ stood cleans [] (x ∷ rest) woken ec

  pub end-goes : (cleans new : Todos) (ends rest : List ℕ) (woken : List (ThreadIx × Told)) (x : ℕ) (w : RowWord) (b : Bool) → cleans ≡ [] → ends ≡ x ∷ rest
      → let e = row_made image cpu x w RowAct.EndCall in b ≡ begins_cleaning e → new ≡ block_if image x b
      → Goes cpu image (standing cleans ends woken (processor_of r)) e (standing new rest woken (processor_of r))
  end-goes cleans new ends rest woken x w b ec ee h en =
      subst (λ (q : Processor × Processor). Goes cpu image q.0 (row_made image cpu x w RowAct.EndCall) q.1)
      (λ i. (sym (end-first cleans ends rest woken x ec ee) i, sym (stood new (block_if image x b) rest woken en) i))
      (ended image cpu (processor_of r) (behind rest woken) (front-before rest woken (errands_of r.phase r) front) x w b h)

  -- the first woken thread
  pub wake-first : (cleans : Todos) (ends : List ℕ) (woken rest : List (ThreadIx × Told)) (w : ThreadIx × Told) → cleans ≡ [] → ends ≡ [] → woken ≡ w ∷ rest
      → standing cleans ends woken (processor_of r) ≡ record (processor_of r) { todo = Todo.wake w.0.0 w.1 ∷ behind [] rest }
  wake-first cleans ends woken rest w ec ee ew =
      (λ i. standing cleans (ee i) (ew i) (processor_of r)) ∙ stood cleans [] [] (w ∷ rest) ec

  pub wake-goes : (cleans : Todos) (ends : List ℕ) (woken rest : List (ThreadIx × Told)) (w : ThreadIx × Told) (n : ℕ) (s : Scheduler) → cleans ≡ [] → ends ≡ [] → woken ≡ w ∷ rest
      → Goes cpu image (standing cleans ends woken (processor_of r)) (woken_made image cpu n s w.0 w.1) (standing cleans ends rest (processor_of r))
  wake-goes cleans ends woken rest w n s ec ee ew =
      let left : standing cleans ends rest (processor_of r) ≡ record (processor_of r) { todo = behind [] rest } =
      ap (λ (t : List ℕ). standing cleans t rest (processor_of r)) ee ∙ stood cleans [] [] rest ec in
      subst (λ (q : Processor × Processor). Goes cpu image q.0 (woken_made image cpu n s w.0 w.1) q.1)
      (λ i. (sym (wake-first cleans ends woken rest w ec ee ew) i, sym left i))
      (waked image cpu (processor_of r) (behind [] rest) (front-before [] rest (errands_of r.phase r) front) n s w.0 w.1)

  -- the cleaning
  -- as many objects are to be cleaned as stand in the queue
  pub cleanings-stood : (cleans : Todos) (ends : List ℕ) (woken : List (ThreadIx × Told)) → cleanings (standing cleans ends woken (processor_of r)).todo ≡ cleanings cleans
  cleanings-stood cleans ends woken =
      let none : cleanings (behind ends woken) ≡ 0 = none-before ends woken (errands_of r.phase r) (none-of r.phase r) in
      let a = cleanings-append cleans (behind ends woken) in
      let b : cleanings (standing cleans ends woken (processor_of r)).todo ≡ cleanings (cleans ++ behind ends woken) =
      ap (λ (q : Processor). cleanings q.todo) (stood cleans cleans ends woken refl) in
      omega arith

  pub pair-goes : (cleans new cs : Todos) (ends : List ℕ) (woken : List (ThreadIx × Told)) (who x t a : ℕ) (w : RowWord) (b : Bool)
      → cleans ≡ Todo.clean_pair who x ∷ cs → all_clean (clean_pairs who (x + 1) cs) ≡ true
      → t ≡ (processor_of r).context.thread → a ≡ addr_of image x
      → let e = row_made image cpu x w (RowAct.Sweep (to_thread t) (to_thread who) (to_addr a)) in
      b ≡ begins_cleaning e → new ≡ clean_pairs who (x + 1) cs ++ block_if image x b
      → (z : Running) → z ≡ record r { actor = if is_visit e.act then r.actor else Some t }
      → Goes cpu image (standing cleans ends woken (processor_of r)) e (standing new ends woken (processor_of z))
  pair-goes cleans new cs ends woken who x t a w b ec clean et ea eb en z ez =
      let made : ℕ → ℕ → FineStep = λ i j. row_made image cpu x w (RowAct.Sweep (to_thread i) (to_thread who) (to_addr j)) in
      let thread : (processor_of r).context.thread ≡ t = sym et in
      let actor : ℕ → ℕ → Option ℕ = λ i j. if is_visit (made i j).act then r.actor else Some i in
      let left : standing new ends woken (processor_of z)
      ≡ record (processor_of r) { todo = (clean_pairs who (x + 1) cs ++ block_if image x b) ++ behind ends woken; actor = actor (processor_of r).context.thread (addr_of image x) } =
      ap (λ (q : Running). standing new ends woken (processor_of q)) (ez ∙ (λ i. record r { actor = actor (sym thread i) (ea i) }))
      ∙ ap (standing new ends woken) (acted-in r.phase r (actor (processor_of r).context.thread (addr_of image x)))
      ∙ ap (λ (q : Processor). record q { actor = actor (processor_of r).context.thread (addr_of image x) }) (stood new (clean_pairs who (x + 1) cs ++ block_if image x b) ends woken en) in
      subst (λ (q : Processor × FineStep × Processor). Goes cpu image q.0 q.1 q.2)
      (λ i. (sym (stood cleans (Todo.clean_pair who x ∷ cs) ends woken ec) i, made (thread i) (sym ea i), sym left i))
      (pair_cleaned image cpu (processor_of r) (behind ends woken) (front-before ends woken (errands_of r.phase r) front) cs who x w b clean
      (eb ∙ (λ i. begins_cleaning (made (sym thread i) (ea i)))))

  pub pair-asks : (cleans cs : Todos) (ends : List ℕ) (woken : List (ThreadIx × Told)) (who x t a : ℕ) (w : RowWord)
      → cleans ≡ Todo.clean_pair who x ∷ cs → t ≡ (processor_of r).context.thread → a ≡ addr_of image x
      → Wants cpu image (standing cleans ends woken (processor_of r)) (row_made image cpu x w (RowAct.Sweep (to_thread t) (to_thread who) (to_addr a)))
  pair-asks cleans cs ends woken who x t a w ec et ea =
      let made : ℕ → ℕ → FineStep = λ i j. row_made image cpu x w (RowAct.Sweep (to_thread i) (to_thread who) (to_addr j)) in
      let thread : (processor_of r).context.thread ≡ t = sym et in
      subst (λ (q : Processor × FineStep). Wants cpu image q.0 q.1)
      (λ i. (sym (stood cleans (Todo.clean_pair who x ∷ cs) ends woken ec) i, made (thread i) (sym ea i)))
      (sweep-asks image cpu (processor_of r) (behind ends woken) (front-before ends woken (errands_of r.phase r) front) cs who x w)

  pub wipe-goes : (cleans new cs : Todos) (ends : List ℕ) (woken : List (ThreadIx × Told)) (x n : ℕ) (o : ObjectCell) (cost : Option Cost)
      → cleans ≡ Todo.wipe x ∷ cs → new ≡ cs → (cleared_made image cpu x n o).moved ≡ Exchange.charge cost
      → Goes cpu image (standing cleans ends woken (processor_of r)) (cleared_made image cpu x n o) (standing new ends woken (processor_of (record r { charge = cost })))
  wipe-goes cleans new cs ends woken x n o cost ec en h =
      let left : standing new ends woken (processor_of (record r { charge = cost })) ≡ record (processor_of r) { charge = cost; todo = cs ++ behind ends woken } =
      ap (λ (q : Processor). standing new ends woken q) (charged r.phase r cost)
      ∙ ap (λ (q : Processor). record q { charge = cost }) (stood new cs ends woken en) in
      subst (λ (q : Processor × Processor). Goes cpu image q.0 (cleared_made image cpu x n o) q.1)
      (λ i. (sym (stood cleans (Todo.wipe x ∷ cs) ends woken ec) i, sym left i))
      (wiped image cpu (processor_of r) (behind ends woken) (front-before ends woken (errands_of r.phase r) front) cs x n o cost h)

  pub vacate-goes : (cleans new cs : Todos) (ends : List ℕ) (woken : List (ThreadIx × Told)) (x : ℕ) (w : RowWord) → cleans ≡ Todo.vacate x ∷ cs → new ≡ cs
      → Goes cpu image (standing cleans ends woken (processor_of r)) (row_made image cpu x w RowAct.Vacate) (standing new ends woken (processor_of r))
  vacate-goes cleans new cs ends woken x w ec en =
      subst (λ (q : Processor × Processor). Goes cpu image q.0 (row_made image cpu x w RowAct.Vacate) q.1)
      (λ i. (sym (stood cleans (Todo.vacate x ∷ cs) ends woken ec) i, sym (stood new cs ends woken en) i))
      (vacated image cpu (processor_of r) (behind ends woken) (front-before ends woken (errands_of r.phase r) front) cs x w)

  pub recycle-goes : (cleans new cs : Todos) (ends : List ℕ) (woken : List (ThreadIx × Told)) (x n t a : ℕ) (h : Heap) (cost : Option Cost)
      → cleans ≡ Todo.recycle x ∷ cs → new ≡ cs → t ≡ (processor_of r).context.thread → a ≡ addr_of image x → cost ≡ r.charge
      → (z : Running) → z ≡ record r { actor = Some t }
      → Goes cpu image (standing cleans ends woken (processor_of r)) (heap_made image cpu n h (HeapAct.Recycle (to_thread t) (to_addr a)) cost) (standing new ends woken (processor_of z))
  recycle-goes cleans new cs ends woken x n t a h cost ec en et ea eh z ez =
      let thread : (processor_of r).context.thread ≡ t = sym et in
      let left : standing new ends woken (processor_of z) ≡ record (processor_of r) { todo = cs ++ behind ends woken; actor = Some t } =
      ap (λ (k : Running). standing new ends woken (processor_of k)) ez
      ∙ ap (λ (q : Processor). standing new ends woken q) (acted-in r.phase r (Some t))
      ∙ ap (λ (q : Processor). record q { actor = Some t }) (stood new cs ends woken en) in
      let there : record (processor_of r) { todo = cs ++ behind ends woken; actor = Some (processor_of r).context.thread } ≡ standing new ends woken (processor_of z) =
      ap (λ (k : ℕ). record (processor_of r) { todo = cs ++ behind ends woken; actor = Some k }) thread ∙ sym left in
      subst (λ (q : Processor × FineStep × Processor). Goes cpu image q.0 q.1 q.2)
      (λ i. (sym (stood cleans (Todo.recycle x ∷ cs) ends woken ec) i, heap_made image cpu n h (HeapAct.Recycle (to_thread (thread i)) (to_addr (sym ea i))) (sym eh i), there i))
      (recycled image cpu (processor_of r) (behind ends woken) (front-before ends woken (errands_of r.phase r) front) cs x n h)

-- the object that leaves its row next
pub vacate-leads : (image : Image) (cpu : ℕ) (k : Kept) (x : ℕ) (new : Todos) → CleansNext k (Todo.vacate x) → new ≡ drop 1 k.cleans
    → Leads cpu image (whole k) (Request.Row (to_row x) RowAct.Vacate) (standing new k.ends.items (drop k.told k.outcome.woken) (processor_of k.running))
vacate-leads image cpu k x new next en =
    let rest = drop 1 k.cleans in
    let woken = drop k.told k.outcome.woken in
    record {
      few = refl;
      site = ap (site_next image) (stood image cpu k.running next.runs k.cleans (Todo.vacate x ∷ rest) k.ends.items woken next.first);
      goes = λ w. vacate-goes image cpu k.running next.runs k.cleans new rest k.ends.items woken x w next.first en;
    }
