-- The steps before a thread's next step: what each leaves.
use Rattle.std.proofs.Common.{◌≡◌, ℕ, ◌+◌, Bool, true, false, List, [], ◌∷◌, ◌++◌, refl, sym, ap, ◌∙◌, append_assoc}
use Rattle.std.proofs.lemmas.List.{append-nil}
use Rattle.std.specs.Prelude.{◌≢◌, not, nat_lt, if◌then◌else◌, Option, Some}
use Rattle.um_base.specs.declared.act.Act.{Act}
use Rattle.um_base.specs.declared.act.Leftover.{Leftover}
use Rattle.um_base.specs.declared.ask.Told.{Told}
use Rattle.um_base.specs.declared.image.Image.{Image}
use Rattle.um_base.specs.declared.limits.TheConstants.{ROWS}
use Rattle.um_base.specs.declared.names.ThreadIx.{ThreadIx}
use Rattle.um_machine.specs.declared.object.Cost.{Cost}
use Rattle.um_machine.specs.Order.{Steps, to_thread}
use Rattle.um_words.specs.declared.fine.FineAct.{FineAct}
use Rattle.um_words.specs.declared.fine.More.{More}
use Rattle.um_words.specs.declared.fine.Unseen.{Unseen}
use Rattle.um_words.specs.declared.row_word.RowWord.{RowWord}
use Rattle.um_words.specs.Rows.{has, is_last}
use Rattle.um_fine.specs.Addresses.{address_of}
use Rattle.um_fine.specs.Answers.{charge_in, is_visit}
use Rattle.um_fine.specs.Asks.{begins_cleaning}
use Rattle.um_fine.specs.Context.{Context}
use Rattle.um_fine.specs.Follows.{end_calls, filled_up, wakes, with_actor}
use Rattle.um_fine.specs.Heap.{Heap}
use Rattle.um_fine.specs.Objects.{ObjectCell}
use Rattle.um_fine.specs.Places.{Todo, Todos, clean_pairs, cleaning, is_cleaning_todo, with_cleaning}
use Rattle.um_fine.specs.Processor.{Processor}
use Rattle.um_fine.specs.Scheduler.{Scheduler}
use Rattle.um_fine.specs.Sites.{SiteState, filled}
use Rattle.um_fine.specs.Steps.{Exchange, FineStep, Site}
use Rattle.um_tables.specs.declared.heap_act.HeapAct.{HeapAct}
use Rattle.um_processor.specs.declared.phase.Phase.{Phase}
use Rattle.um_words.specs.declared.row_act.RowAct.{RowAct}
use Rattle.um_processor.specs.declared.running.Running.{Running}
use Rattle.um_tables.specs.Asked.{asked, shown}
use Rattle.um_processor.specs.Wants.{Wants}
use Rattle.um_processor.specs.Cleanings.{all_clean, block_if}
use Rattle.um_tables.specs.HeapActs.{heap_made}
use Rattle.um_tables.specs.ObjectCells.{cleared_made}
use Rattle.um_processor.specs.Phases.{is_idle, showing}
use Rattle.um_tables.specs.Contexts.{steps_behind}
use Rattle.um_processor.specs.Processors.{Goes, Ready, cleaned, errands_of, processor_of, ready_of, todo_in, todo_of}
use Rattle.um_tables.specs.RowActs.{row_made}
use Rattle.um_tables.specs.SchedulerActs.{woken_made}
use Rattle.um_processor.specs.Standing.{before, standing}
use Rattle.um_processor.proofs.Cleaned.{behind-clean}
use Rattle.um_processor.proofs.Visited.{cleaned-is, there-dropped}

-- a list whose first step is none of cleaning
pub record Front (todo : Todos) : Type 0 where
  pub first : Todo
  pub rest : Todos
  pub plain : is_cleaning_todo first ≡ false
  pub is : todo ≡ first ∷ rest

front-showing : (steps : Steps) (todo : Todos) → Front (showing steps todo)
front-showing [] todo = record { first = Todo.park; rest = todo; plain = refl; is = refl }
front-showing (p ∷ rest) todo = record { first = Todo.show p rest; rest = todo; plain = refl; is = refl }

front-in : (phase : Phase) (steps : Steps) (k : Ready) → Front (todo_in phase steps k)
front-in Phase.Access steps k = front-showing steps _
front-in Phase.Start steps k = front-showing steps _
front-in Phase.Act steps k = front-showing steps _
front-in Phase.Show steps k = front-showing steps _
front-in phase steps k = record { first = _; rest = _; plain = refl; is = refl }

-- the next step of a processor with a thread is none of cleaning
front-own : (phase : Phase) (r : Running) → is_idle phase ≡ false → Front (todo_of phase r)
front-own Phase.Idle r h = absurd (cc)
front-own Phase.Pass r h = record { first = _; rest = _; plain = refl; is = refl }
front-own Phase.Drop r h = record { first = _; rest = _; plain = refl; is = refl }
front-own phase r h = front-in phase (steps_behind r.visited r.context.value.pending) (ready_of r)

pub front-of : (phase : Phase) (r : Running) → is_idle phase ≡ false → Front (errands_of phase r)
front-of Phase.Look r h = record { first = _; rest = _; plain = refl; is = refl }
front-of Phase.TellCut r h = record { first = _; rest = _; plain = refl; is = refl }
front-of Phase.Rouse r h = record { first = _; rest = _; plain = refl; is = refl }
front-of Phase.AddRoused r h = record { first = _; rest = _; plain = refl; is = refl }
front-of Phase.Handle r h = record { first = _; rest = _; plain = refl; is = refl }
front-of Phase.Paid r h = record { first = _; rest = _; plain = refl; is = refl }
front-of phase r h = front-own phase r h

front-wakes : (woken : List (ThreadIx × Told)) (todo : Todos) → Front todo → Front (wakes woken todo)
front-wakes [] todo f = f
front-wakes (w ∷ ws) todo f = record { first = _; rest = _; plain = refl; is = refl }

pub front-before : (ends : List ℕ) (woken : List (ThreadIx × Told)) (todo : Todos) → Front todo → Front (end_calls ends (wakes woken todo))
front-before [] woken todo f = front-wakes woken todo f
front-before (x ∷ xs) woken todo f = record { first = _; rest = _; plain = refl; is = refl }

-- with a thread, all stands before its next step
pub stands : (cleans : Todos) (ends : List ℕ) (woken : List (ThreadIx × Told)) (p : Processor) → Front p.todo
    → standing cleans ends woken p ≡ record p { todo = cleans ++ end_calls ends (wakes woken p.todo) }
stands cleans ends woken p f =
    ap (λ (t : Todos). record p { todo = before cleans ends woken t }) f.is
    ∙ sym (ap (λ (t : Todos). record p { todo = cleans ++ end_calls ends (wakes woken t) }) f.is)

-- A processor without a thread has nothing to do, whatever it had to do before its last step. One with a thread has something to do.
pub none_idle : (cleans : Todos) (ends : List ℕ) (woken : List (ThreadIx × Told)) (r : Running) → is_idle r.phase ≡ true
    → before cleans ends woken (errands_of r.phase r) ≡ []
none_idle cleans ends woken r h = none r.phase h
  where
    none : (phase : Phase) → is_idle phase ≡ true → before cleans ends woken (errands_of phase r) ≡ []
    none Phase.Idle h = refl
    none phase h = absurd (cc)

some-behind : (cleans todo : Todos) → Front todo → cleans ++ todo ≢ []
some-behind [] todo f h = let e : f.first ∷ f.rest ≡ [] = sym f.is ∙ h in absurd (cc)
some-behind (q ∷ cleans) todo f h = absurd (cc)

pub some_busy : (cleans : Todos) (ends : List ℕ) (woken : List (ThreadIx × Told)) (r : Running) → is_idle r.phase ≡ false
    → before cleans ends woken (errands_of r.phase r) ≢ []
some_busy cleans ends woken r h e =
    let f = front-of r.phase r h in
    some-behind cleans (end_calls ends (wakes woken (errands_of r.phase r))) (front-before ends woken (errands_of r.phase r) f)
    (sym (ap (λ (p : Processor). p.todo) (stands cleans ends woken (record (processor_of r) { todo = errands_of r.phase r }) f)) ∙ e)

fills : (image : Image) (c : Context) (todo : Todos) → Front todo → filled_up image c todo ≡ todo
fills image c todo f = ap (filled_up image c) f.is ∙ sym f.is

-- what is filled up after steps of cleaning
fills-behind : (image : Image) (c : Context) (cs todo : Todos) → Front todo → filled_up image c (cs ++ todo) ≡ cs ++ todo
fills-behind image c [] todo f = fills image c todo f
fills-behind image c (q ∷ cs) todo f = refl

unless : (q : Todo) (rest block : Todos) (b : Bool) → b ≡ false → (if b then q ∷ with_cleaning block rest else block ++ q ∷ rest) ≡ block ++ q ∷ rest
unless q rest block true h = absurd (cc)
unless q rest block false h = refl

first-cleaned : (block todo : Todos) → Front todo → with_cleaning block todo ≡ block ++ todo
first-cleaned block todo f =
    ap (with_cleaning block) f.is ∙ (unless f.first f.rest block (is_cleaning_todo f.first) f.plain ∙ ap (λ (t : Todos). block ++ t) (sym f.is))

pub cleaned-behind : (image : Image) (x : ℕ) (p : Processor) (cs todo : Todos) (b : Bool) → all_clean cs ≡ true → Front todo
    → cleaned image x b (record p { todo = cs ++ todo }) ≡ record p { todo = (cs ++ block_if image x b) ++ todo }
cleaned-behind image x p cs todo true h f =
    let block = cleaning image x in
    ap (λ (t : Todos). record p { todo = t }) (behind-clean block cs todo h (first-cleaned block todo f) ∙ sym (append_assoc cs block todo))
cleaned-behind image x p cs todo false h f = ap (λ (t : Todos). record p { todo = t ++ todo }) (sym (append-nil cs))

module _ (image : Image) (cpu : ℕ) (p : Processor) (todo : Todos) (f : Front todo) where
  pub waked : (n : ℕ) (s : Scheduler) (who : ThreadIx) (told : Told)
      → Goes cpu image (record p { todo = Todo.wake who.0 told ∷ todo }) (woken_made image cpu n s who told) (record p { todo = todo })
  waked n s who told =
      record { asks = record { maker = refl; makes = refl; fit = refl }; next = ap (λ (t : Todos). record p { todo = t }) (sym (fills image p.context todo f)) }

  pub ended : (x : ℕ) (w : RowWord) (cleans : Bool) → let e = row_made image cpu x w RowAct.EndCall in cleans ≡ begins_cleaning e
      → Goes cpu image (record p { todo = Todo.end_call x ∷ todo }) e (record p { todo = block_if image x cleans ++ todo })
  ended x w cleans h =
      let e = row_made image cpu x w RowAct.EndCall in
      record {
        asks = record { maker = refl; makes = refl; fit = refl };
        next =
            sym (cleaned-behind image x p [] todo cleans refl f)
            ∙ ((λ i. cleaned image x (h i) (record p { todo = sym (fills image p.context todo f) i }))
            ∙ cleaned-is image x e (record p { todo = filled_up image p.context todo }) (begins_cleaning e) refl);
      }

  module _ (cs : Todos) where
    pub wiped : (x n : ℕ) (o : ObjectCell) (cost : Option Cost) → (cleared_made image cpu x n o).moved ≡ Exchange.charge cost
        → Goes cpu image (record p { todo = Todo.wipe x ∷ (cs ++ todo) }) (cleared_made image cpu x n o) (record p { charge = cost; todo = cs ++ todo })
    wiped x n o cost h =
        record { asks = record { maker = refl; makes = refl; fit = refl }; next = ap (λ (v : Exchange). record p { charge = charge_in v; todo = cs ++ todo }) (sym h) }

    pub vacated : (x : ℕ) (w : RowWord) → Goes cpu image (record p { todo = Todo.vacate x ∷ (cs ++ todo) }) (row_made image cpu x w RowAct.Vacate) (record p { todo = cs ++ todo })
    vacated x w = record { asks = record { maker = refl; makes = refl; fit = refl }; next = refl }

    pub recycled : (x n : ℕ) (h : Heap)
        → Goes cpu image (record p { todo = Todo.recycle x ∷ (cs ++ todo) }) (heap_made image cpu n h (HeapAct.Recycle (to_thread p.context.thread) (address_of image x)) p.charge) (record p { todo = cs ++ todo; actor = Some p.context.thread })
    recycled x n h =
        record { asks = record { maker = refl; makes = refl; fit = refl }; next = ap (λ (t : Todos). record p { todo = t; actor = Some p.context.thread }) (sym (fills-behind image p.context cs todo f)) }

    -- a drop of the cleaner, where there is a permission, and the look where there is none
    abbrev swept : ℕ → ℕ → RowWord → FineStep
    swept who x w = row_made image cpu x w (RowAct.Sweep (to_thread p.context.thread) (to_thread who) (address_of image x))

    pub sweep-asks : (who x : ℕ) (w : RowWord)
        → Wants cpu image (record p { todo = Todo.clean_pair who x ∷ (cs ++ todo) }) (swept who x w)
    sweep-asks who x w = by (has w who) refl
      where
        by : (b : Bool) → has w who ≡ b
            → Wants cpu image (record p { todo = Todo.clean_pair who x ∷ (cs ++ todo) })
            (filled image (SiteState.row w) (asked cpu (Site.row x)
            (if b then shown (to_thread p.context.thread) (Act.DropPair (to_thread who) (address_of image x) Leftover.NoPair) More.Nothing else FineAct.Unseen Unseen.Visit)
            Exchange.nothing))
        by true h = record { maker = refl; makes = refl; fit = there-dropped (has w who) (is_last w who) h }
        by false h = record { maker = refl; makes = refl; fit = ap (λ (v : Bool). not v) h }

    pairs-behind : (who x : ℕ) (b : Bool) → (if b then Todo.clean_pair who x ∷ (cs ++ todo) else cs ++ todo) ≡ (if b then Todo.clean_pair who x ∷ cs else cs) ++ todo
    pairs-behind who x true = refl
    pairs-behind who x false = refl

    -- the thread of the last event then
    sweep-acts : (who x : ℕ) (w : RowWord) (list : Todos) → let e = swept who x w in
        record p { todo = list; actor = if is_visit e.act then p.actor else Some p.context.thread } ≡ with_actor image (record p { todo = list }) e.act
    sweep-acts who x w list = by (has w who)
      where
        by : (b : Bool) → let e = filled image (SiteState.row w) (asked cpu (Site.row x)
            (if b then shown (to_thread p.context.thread) (Act.DropPair (to_thread who) (address_of image x) Leftover.NoPair) More.Nothing else FineAct.Unseen Unseen.Visit)
            Exchange.nothing) in
            record p { todo = list; actor = if is_visit e.act then p.actor else Some p.context.thread } ≡ with_actor image (record p { todo = list }) e.act
        by true = refl
        by false = refl

    pub pair_cleaned : (who x : ℕ) (w : RowWord) (cleans : Bool)
        → all_clean (clean_pairs who (x + 1) cs) ≡ true → cleans ≡ begins_cleaning (swept who x w)
        → Goes cpu image (record p { todo = Todo.clean_pair who x ∷ (cs ++ todo) }) (swept who x w)
        (record p { todo = (clean_pairs who (x + 1) cs ++ block_if image x cleans) ++ todo; actor = if is_visit (swept who x w).act then p.actor else Some p.context.thread })
    pair_cleaned who x w cleans clean h =
        let b = nat_lt (x + 1) ROWS in
        let e = swept who x w in
        record {
          asks = sweep-asks who x w;
          next =
              sym (cleaned-behind image x (record p { actor = if is_visit e.act then p.actor else Some p.context.thread }) (clean_pairs who (x + 1) cs) todo cleans clean f)
              ∙ ((λ i. cleaned image x (h i) (record p { todo = sym (pairs-behind who (x + 1) b) i; actor = if is_visit e.act then p.actor else Some p.context.thread }))
              ∙ ap (cleaned image x (begins_cleaning e)) (sweep-acts who x w (clean_pairs who (x + 1) (cs ++ todo)))
              ∙ cleaned-is image x e (record p { todo = clean_pairs who (x + 1) (cs ++ todo) }) (begins_cleaning e) refl);
        }
