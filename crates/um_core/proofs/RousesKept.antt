-- Who is roused is a thread that there is: a rouse comes of an event that names one, or of a thread that goes to sleep.
use Rattle.std.proofs.lemmas.Bool.{and_from, and_parts, false≢true}
use Rattle.std.proofs.Common.{◌≡◌, ℕ, ◌+◌, Bool, true, false, List, [], ◌∷◌, ◌++◌, Option, Some, None, refl, sym, subst}
use Rattle.std.specs.Prelude.{◌==◌, ◌&&◌, not, if◌then◌else◌, nat_lt}
use Rattle.std.specs.List.{list_all}
use Rattle.um_base.specs.declared.limits.TheConstants.{ROWS, THREADS}
use Rattle.um_base.specs.declared.act.Answer.{Answer}
use Rattle.um_fine.specs.Steps.{Exchange, FineStep}
use Rattle.um_base.specs.declared.image.Image.{Image}
use Rattle.um_machine.specs.declared.pending.Pending.{Pending}
use Rattle.um_machine.specs.Order.{Steps}
use Rattle.um_base.specs.declared.names.ThreadIx.{ThreadIx}
use Rattle.um_words.specs.declared.thread_word.ThreadWord.{ThreadWord}
use Rattle.um_base.specs.declared.ask.Told.{Told}
use Rattle.um_fine.specs.Context.{Context}
use Rattle.um_fine.specs.Places.{Todo, Todos, cleaning_of, fine_steps, next_steps, end_of_turn}
use Rattle.um_fine.specs.Processor.{Processor}
use Rattle.um_fine.specs.Answers.{act_in, answer_in, context_in, is_visit, is_word_read, outcome_in, thread_in}
use Rattle.um_fine.specs.Follows.{after_show, behind_step, dropped_at, end_calls, filled_up, goes_on_by, p_next, row_number, wakes, with_cleaned}
use Rattle.um_fine.specs.Asks.{begins_cleaning}
use Rattle.um_fine.specs.Continues.{continues}
use Rattle.um_base.specs.Places.{own_row}
use Rattle.um_fine.specs.Addresses.{row_named}
use Rattle.um_words.specs.Threads.{is_awake}
use Rattle.um_fine.specs.Answers.{is_done_in, is_killed, is_void, woken_in}
use Rattle.um_fine.specs.Follows.{looks_behind, looks_for, rereads, shown_step, told_all, told_marked, waits_behind}
use Rattle.um_fine.specs.Places.{noted_cell, put_away}
use Rattle.um_refinement.proofs.ListGrowth.{visits_row, acted-kept, claim-kept, cleaning-kept, drop-kept, either, forms-kept, next-kept, pass-kept, take-kept, turn-kept, unless}
use Rattle.um_core.proofs.NamedSteps.{names_thread}

abbrev pub rouses_well : Todo → Bool
rouses_well (Todo.rouse who) = nat_lt who THREADS
rouses_well q = true

abbrev pub AreWell : Todos → Type 0
AreWell todo = list_all rouses_well todo ≡ true

front : (q : Todo) (todo : Todos) → rouses_well q ≡ true → AreWell todo → AreWell (q ∷ todo)
front q todo well h = and_from (rouses_well q) (list_all rouses_well todo) well h

wakes-well : (ws : List (ThreadIx × Told)) (todo : Todos) → AreWell todo → AreWell (wakes ws todo)
wakes-well [] todo h = h
wakes-well (w ∷ ws) todo h = wakes-well ws todo h

ends-well : (xs : List ℕ) (todo : Todos) → AreWell todo → AreWell (end_calls xs todo)
ends-well [] todo h = h
ends-well (x ∷ xs) todo h = ends-well xs todo h

behind-well : (todo more : Todos) → AreWell todo → AreWell more → AreWell (todo ++ more)
behind-well [] more h k = k
behind-well (q ∷ todo) more h k = let parts = and_parts (rouses_well q) (list_all rouses_well todo) h in front q (todo ++ more) parts.0 (behind-well todo more parts.1 k)

module _ (image : Image) where
  fine-well : (c : Context) (q : Pending) (rest : Steps) → AreWell (fine_steps image c q rest)
  fine-well =
      forms-kept image AreWell
      (record {
        note = λ site todo h. h;
        act = λ q rest. refl;
        settles = λ q rest deadline mark. refl;
        access = λ q rest. refl;
        access_settles = λ q rest deadline mark. refl;
        look = λ x todo h. h;
        owe = λ q rest. refl;
        leave = λ a rest. refl;
        edit = λ d q rest. refl;
        move = λ d who rest. refl;
        start = λ who q rest c. refl;
      })

  next-well : (c : Context) (steps : Steps) → AreWell (next_steps image c steps)
  next-well =
      next-kept image AreWell (λ q todo visit names h. front q todo (visits-well q visit) h) fine-well (λ b. elim b as (λ b. AreWell (end_of_turn image b)) [ true ↦ refl | false ↦ refl ])
    where
      visits-well : (q : Todo) → visits_row q ≡ true → rouses_well q ≡ true
      visits-well (Todo.pass who x) h = refl
      visits-well (Todo.drop x) h = refl
      visits-well q h = absurd (false≢true h)

  fill : (c : Context) (todo : Todos) → AreWell todo → AreWell (filled_up image c todo)
  fill c [] h = next-well c c.pending
  fill c (q ∷ todo) h = h

  step-well : (c : Context) (q : Pending) (moved : Exchange) (todo : Todos) → AreWell todo → AreWell (behind_step image c q moved todo)
  step-well c (Pending.Work a ask) moved todo h = wakes-well (outcome_in moved).woken todo h
  step-well c Pending.Exit moved todo h = ends-well c.claims todo h
  step-well c Pending.Killed moved todo h = ends-well c.claims todo h
  step-well c (Pending.Answer reply to) moved todo h = ends-well c.claims todo h
  step-well c (Pending.Fatal reason cause) moved todo h = ends-well c.claims todo h
  step-well c (Pending.ClearInit a) moved todo h = let own = own_row image c.thread in either image AreWell (row_named image a == own) (Todo.end_call own) todo (λ b k. k) h
  step-well c q moved todo h = h

  -- a cleaning that begins
  block-well : (x : ℕ) (o : Option ℕ) → AreWell (cleaning_of x o)
  block-well x None = refl
  block-well x (Some who) = refl

  cleaned-well : (p : Processor) (e : FineStep) (b : Bool) → AreWell p.todo → AreWell (with_cleaned image p e b).todo
  cleaned-well p e true h =
      cleaning-kept image (λ old new. AreWell old → AreWell new) (row_number e.site) (λ o todo at k. behind-well (cleaning_of (row_number e.site) o) todo (block-well (row_number e.site) o) k)
      (λ q old new c on k. let parts = and_parts (rouses_well q) (list_all rouses_well old) k in front q new parts.0 (on parts.1)) p.todo h
  cleaned-well p e false h = h

  -- behind an act that waits, and behind one that stops or continues a thread
  waits-well : (q : Pending) (e : FineStep) (todo : Todos) → AreWell todo → AreWell (waits_behind image q e todo)
  waits-well q e todo h = by (answer_in (act_in e.act)) (noted_cell image (q ∷ []))
    where
      by : (answer : Answer) (site : Option ℕ) → AreWell (rereads image answer site todo)
      by Answer.Wait (Some site) = behind-well todo (Todo.reread site ∷ []) h refl
      by Answer.Wait None = h
      by (Answer.Now reply) site = h

  look-well : (who : ℕ) (w : ThreadWord) → nat_lt who THREADS ≡ true → (todo : Todos) → AreWell todo → AreWell (looks_for image who w todo)
  look-well who w there todo h = by w.note
    where
      by : (o : Option ℕ) → AreWell (elim o as (λ _. Todos) [ Some site ↦ Todo.look who site w.number ∷ todo | None ↦ Todo.rouse who ∷ todo ])
      by (Some site) = h
      by None = front (Todo.rouse who) todo there h

  looks-behind-well : (c : Context) (q : Pending) (e : FineStep) → names_thread q ≡ true → (left : Todos) → AreWell left → AreWell (looks_behind image c q e left)
  looks-behind-well c (Pending.Abort who) e named left k = by (is_done_in (act_in e.act) && not (who.0 == c.thread))
    where
      by : (b : Bool) → AreWell (if b then looks_for image who.0 (thread_in e.word) left else left)
      by true = look-well who.0 (thread_in e.word) named left k
      by false = k
  looks-behind-well c (Pending.Continue who) e named left k = either image AreWell (is_done_in (act_in e.act)) (Todo.rouse who.0) left (λ b z. front (Todo.rouse who.0) left named z) k
  looks-behind-well c (Pending.FutexWake a all) e named left k = wakes-well (told_all (woken_in (act_in e.act))) left k
  looks-behind-well c q e named left k = k

  made-named : (q : Pending) (killed : Bool) → names_thread q ≡ true → names_thread (if killed then Pending.Killed else q) ≡ true
  made-named q true named = refl
  made-named q false named = named

  module _ (p : Processor) (e : FineStep) where
    -- an event that is next names a thread that there is, and so does who goes to sleep
    abbrev pub Names : Todos → Type 0
    Names (Todo.show q rest ∷ todo) = names_thread q ≡ true
    Names (Todo.reread_asleep ∷ todo) = nat_lt p.context.thread THREADS ≡ true
    Names todo = Unit {0}

    abbrev Any : Context → Type 0
    Any c = Unit {0}

    expands : (c : Context) → Any c → AreWell [] → AreWell (next_steps image c c.pending)
    expands c of h = next-well c c.pending

    away : (b : Bool) → AreWell (put_away b)
    away true = refl
    away false = refl

    after-well : (q : Pending) (rest : Steps) (todo : Todos) → names_thread q ≡ true → AreWell todo → AreWell (after_show image p e q rest todo).todo
    after-well q rest todo named h =
        let c = continues image p.context 0 q rest (act_in e.act) e.moved in
        let left = waits_behind image q e todo in
        looks-behind-well p.context q e named (behind_step image p.context q e.moved (filled_up image c left)) (step-well p.context q e.moved (filled_up image c left) (fill c left (waits-well q e todo h)))

    by-step : (q : Todo) (todo : Todos) → Names (q ∷ todo) → AreWell todo → AreWell (goes_on_by image p e (q ∷ todo)).todo
    by-step (Todo.show q rest) todo named h = by (is_word_read e.act)
      where
        by : (b : Bool) → AreWell (if b then record p { todo = put_away (thread_in e.word).doomed } else after_show image p e (shown_step image q e.act) rest todo).todo
        by true = away (thread_in e.word).doomed
        by false = after-well (shown_step image q e.act) rest todo (made-named q (is_killed e.act) named) h
    by-step (Todo.read_claim d) todo named h = claim-kept image AreWell (λ z k. k) p e d todo (λ x at. h) h
    by-step (Todo.pass who x) todo named h = pass-kept image AreWell Any expands p who x todo (λ y few k. k) tt h
    by-step (Todo.drop x) todo named h = drop-kept image AreWell Any expands p (dropped_at image p.context x (is_visit e.act)) x todo (λ y few k. k) tt h
    by-step (Todo.clean_pair who x) todo named h = either image AreWell (nat_lt (x + 1) ROWS) (Todo.clean_pair who (x + 1)) todo (λ few k. k) h
    by-step Todo.park todo named h = refl
    by-step Todo.done todo named h = refl
    by-step Todo.paid todo named h = refl
    by-step (Todo.reread site) todo named h =
        let w = thread_in e.word in
        let look = Todo.look p.context.thread site w.number in
        fill p.context (if w.aborted then look ∷ todo else todo) (either image AreWell w.aborted look todo (λ b k. k) h)
    by-step (Todo.look who site before) todo named h =
        fill p.context (if is_void e.act then todo else Todo.tell_cut who ∷ todo) (unless image AreWell (is_void e.act) (Todo.tell_cut who) todo (λ b k. k) h)
    by-step (Todo.rouse who) todo named h =
        fill p.context (if is_void e.act then todo else Todo.add (context_in e.moved) ∷ todo) (unless image AreWell (is_void e.act) (Todo.add (context_in e.moved)) todo (λ b k. k) h)
    by-step Todo.reread_asleep todo named h = either image AreWell (is_awake (thread_in e.word)) (Todo.rouse p.context.thread) todo (λ b k. front (Todo.rouse p.context.thread) todo named k) h
    by-step Todo.leave todo named h = wakes-well (told_all (woken_in (act_in e.act))) todo h
    by-step (Todo.handle deadline mark) todo named h = by (is_void e.act)
      where
        by : (b : Bool) → AreWell (if b then todo else wakes (told_marked mark (woken_in (act_in e.act))) todo)
        by true = h
        by false = wakes-well (told_marked mark (woken_in (act_in e.act))) todo h
    by-step Todo.let_go todo named h = fill p.context todo h
    by-step (Todo.read_done d) todo named h = fill p.context todo h
    by-step (Todo.end_call x) todo named h = fill p.context todo h
    by-step (Todo.wake who told) todo named h = fill p.context todo h
    by-step (Todo.add c) todo named h = fill p.context todo h
    by-step (Todo.recycle x) todo named h = fill p.context todo h
    by-step (Todo.settle deadline mark) todo named h = fill p.context todo h
    by-step (Todo.tell_cut who) todo named h = fill p.context todo h
    by-step q todo named h = h

    goes-well : (todo : Todos) → p.todo ≡ todo → Names todo → AreWell todo → AreWell (goes_on_by image p e todo).todo
    goes-well [] at named h =
        take-kept image AreWell Any expands p (turn-kept image AreWell refl refl) (λ deadline mark. refl) e.moved tt refl (subst AreWell (sym at) h)
    goes-well (q ∷ todo) at named h = by-step q todo named (and_parts (rouses_well q) (list_all rouses_well todo) h).1

    pub rouses-kept : Names p.todo → AreWell p.todo → AreWell (p_next image p e).todo
    rouses-kept named h =
        acted-kept image AreWell (with_cleaned image (goes_on_by image p e p.todo) e (begins_cleaning e)) e.act
        (cleaned-well (goes_on_by image p e p.todo) e (begins_cleaning e) (goes-well p.todo refl named h))
