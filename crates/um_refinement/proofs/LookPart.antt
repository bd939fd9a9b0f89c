-- Looks are made in cells in which threads wait, after every lawful step.
use Rattle.um_refinement.proofs.Words.{Event, More, Unseen, by_me, says_show, true≢false, unwrap_or, ◌≡◌, ℕ, ◌+◌, ◌<◌, Bool, true, false, cond, List, [], ◌∷◌, ◌++◌, Option, Some, None, refl, sym, ap, ◌∙◌, subst, ◌==◌, ◌&&◌, not, and_from, and_parts, if◌then◌else◌, nat_lt, list_all, eqb-true, false≢true, ROWS, THREADS, Act, Answer, Exchange, FineAct, FineStep, Image, Pending, Steps, Offers, State, ThreadIx, ThreadWord, Told, Context, Site, SiteState, Todo, Todos, Processor, act_in, answer_in, after_show, behind_step, cleaning_of, begins_cleaning, context_in, continues, dropped_at, end_calls, filled_up, fine_steps, goes_on_by, is_visit, is_word_read, next_steps, end_of_turn, outcome_in, own_row, p_next, row_named, row_number, s_next, site_after, shows, thread_after, thread_in, wakes, with_cleaned, word, Fine}
use Rattle.um_words.specs.declared.fine.Mark.{Mark}
use Rattle.um_machine.specs.State.{is_living}
use Rattle.um_words.specs.Threads.{is_awake}
use Rattle.um_fine.specs.Answers.{is_done_in, is_killed, is_void, woken_in}
use Rattle.um_fine.specs.Follows.{looks_behind, looks_for, rereads, shown_step, told_all, told_marked, waits_behind}
use Rattle.um_fine.specs.Places.{noted_cell, put_away}
use Rattle.um_fine.specs.Sites.{word_of}
use Rattle.um_refinement.specs.Stops.{LookThere, is_waiting_site, looks_well}
use Rattle.um_refinement.proofs.Erased.{around}
use Rattle.um_refinement.proofs.Leaves.{Beside, Lawful, Leaves, beside as beside_it, cleans, cuts, drops, event, expires, leaves as leaves_it, nothing, passes, recycles, resumes, ticks, times_out}
use Rattle.um_refinement.proofs.ListGrowth.{is_shown, visits_row, acted-kept, claim-kept, cleaning-kept, drop-kept, either, forms-kept, next-kept, pass-kept, take-kept, turn-kept, unless}
use Rattle.um_refinement.proofs.NoteCells.{noted-well}
use Rattle.um_refinement.proofs.Offered.{Shows, act-is, shown-offers, site-is}
use Rattle.um_refinement.proofs.RowSteps.{thread-sort}
use Rattle.um_refinement.proofs.SchedulerSteps.{made-says, word-left}

some-one : {a b : ℕ} → Some a ≡ Some b → a ≡ b
some-one {a} h = ap (λ (o : Option ℕ). unwrap_or o a) h

abbrev AreWell : Todos → Type 0
AreWell todo = list_all looks_well todo ≡ true

front : (q : Todo) (todo : Todos) → looks_well q ≡ true → AreWell todo → AreWell (q ∷ todo)
front q todo well h = and_from (looks_well q) (list_all looks_well todo) well h

wakes-well : (ws : List (ThreadIx × Told)) (todo : Todos) → AreWell todo → AreWell (wakes ws todo)
wakes-well [] todo h = h
wakes-well (w ∷ ws) todo h = wakes-well ws todo h

ends-well : (xs : List ℕ) (todo : Todos) → AreWell todo → AreWell (end_calls xs todo)
ends-well [] todo h = h
ends-well (x ∷ xs) todo h = ends-well xs todo h

behind-well : (todo more : Todos) → AreWell todo → AreWell more → AreWell (todo ++ more)
behind-well [] more h k = k
behind-well (q ∷ todo) more h k = let parts = and_parts (looks_well q) (list_all looks_well todo) h in front q (todo ++ more) parts.0 (behind-well todo more parts.1 k)

module _ (image : Image) where
  fine-well : (c : Context) (q : Pending) (rest : Steps) → AreWell (fine_steps image c q rest)
  fine-well =
      forms-kept image AreWell
      (record {
        note = λ site todo h. h;
        act = λ q rest. refl;
        settles = λ q rest deadline mark. refl;
        access = λ q rest. refl;
        access_settles = λ q rest deadline mark. refl;
        look = λ x todo h. h;
        owe = λ q rest. refl;
        leave = λ a rest. refl;
        edit = λ d q rest. refl;
        move = λ d who rest. refl;
        start = λ who q rest c. refl;
      })

  next-well : (c : Context) (steps : Steps) → AreWell (next_steps image c steps)
  next-well =
      next-kept image AreWell (λ q todo visit names h. front q todo (visits-well q visit) h) fine-well (λ b. elim b as (λ b. AreWell (end_of_turn image b)) [ true ↦ refl | false ↦ refl ])
    where
      visits-well : (q : Todo) → visits_row q ≡ true → looks_well q ≡ true
      visits-well (Todo.pass who x) h = refl
      visits-well (Todo.drop x) h = refl
      visits-well q h = absurd (false≢true h)

  fill : (c : Context) (todo : Todos) → AreWell todo → AreWell (filled_up image c todo)
  fill c [] h = next-well c c.pending
  fill c (q ∷ todo) h = h

  step-well : (c : Context) (q : Pending) (moved : Exchange) (todo : Todos) → AreWell todo → AreWell (behind_step image c q moved todo)
  step-well c (Pending.Work a ask) moved todo h = wakes-well (outcome_in moved).woken todo h
  step-well c Pending.Exit moved todo h = ends-well c.claims todo h
  step-well c Pending.Killed moved todo h = ends-well c.claims todo h
  step-well c (Pending.Answer reply to) moved todo h = ends-well c.claims todo h
  step-well c (Pending.Fatal reason cause) moved todo h = ends-well c.claims todo h
  step-well c (Pending.ClearInit a) moved todo h = let own = own_row image c.thread in either image AreWell (row_named image a == own) (Todo.end_call own) todo (λ b k. k) h
  step-well c q moved todo h = h

  -- a cleaning that begins
  block-well : (x : ℕ) (o : Option ℕ) → AreWell (cleaning_of x o)
  block-well x None = refl
  block-well x (Some who) = refl

  cleaned-well : (p : Processor) (e : FineStep) (b : Bool) → AreWell p.todo → AreWell (with_cleaned image p e b).todo
  cleaned-well p e true h =
      cleaning-kept image (λ old new. AreWell old → AreWell new) (row_number e.site) (λ o todo at k. behind-well (cleaning_of (row_number e.site) o) todo (block-well (row_number e.site) o) k)
      (λ q old new c on k. let parts = and_parts (looks_well q) (list_all looks_well old) k in front q new parts.0 (on parts.1)) p.todo h
  cleaned-well p e false h = h

module _ (f : Fine) (m : State) (e : FineStep) (law : Lawful f m e) (abort-below : (who : ThreadIx) (rest : Steps) → Offers m (f.processors e.cpu).context.thread (Pending.Abort who) rest → who.0 < THREADS) where
  open around f e use {later, processor as p, now}

  next-made : (q : Todo) (todo : Todos) → p.todo ≡ q ∷ todo → AreWell (goes_on_by f.image p e (q ∷ todo)).todo → AreWell now.todo
  next-made q todo at k =
      acted-kept f.image AreWell (with_cleaned f.image (goes_on_by f.image p e p.todo) e (begins_cleaning e)) e.act
      (cleaned-well f.image (goes_on_by f.image p e p.todo) e (begins_cleaning e) (subst (λ z. AreWell (goes_on_by f.image p e z).todo) (sym at) k))

  was : AreWell p.todo
  was = (law.rel.processors e.cpu law.by.named).look

  tail : (q : Todo) (todo : Todos) → p.todo ≡ q ∷ todo → AreWell todo
  tail q todo at = (and_parts (looks_well q) (list_all looks_well todo) (ap (list_all looks_well) (sym at) ∙ was)).1

  -- Behind an act that waits.

  waits-well : (q : Pending) (todo : Todos) → AreWell todo → AreWell (waits_behind f.image q e todo)
  waits-well q todo h = by (answer_in (act_in e.act)) (noted_cell f.image (q ∷ [])) refl
    where
      by : (answer : Answer) (site : Option ℕ) → noted_cell f.image (q ∷ []) ≡ site → AreWell (rereads f.image answer site todo)
      by Answer.Wait (Some site) at = behind-well todo (Todo.reread site ∷ []) h (and_from (is_waiting_site site) true (noted-well f m e law (q ∷ []) site at) refl)
      by Answer.Wait None at = h
      by (Answer.Now reply) site at = h

  -- Behind an abort.

  look-well : (who : ℕ) (w : ThreadWord) → ((site : ℕ) → w.note ≡ Some site → is_waiting_site site ≡ true) → (todo : Todos) → AreWell todo → AreWell (looks_for f.image who w todo)
  look-well who w well todo h = by w.note refl
    where
      by : (o : Option ℕ) → w.note ≡ o → AreWell (elim o as (λ _. Todos) [ Some site ↦ Todo.look who site w.number ∷ todo | None ↦ Todo.rouse who ∷ todo ])
      by (Some site) k = front (Todo.look who site w.number) todo (well site k) h
      by None k = h

  read-note : (who : ℕ) → who < THREADS → e.site ≡ Site.thread who → (act : FineAct) → e.act ≡ act → ((w : ThreadWord) → (thread_after w act).note ≡ w.note) → (site : ℕ) → (thread_in e.word).note ≡ Some site
      → is_waiting_site site ≡ true
  read-note who few at act said same site noted =
      (law.rel.threads who few).note.cell site
      (sym (ap (λ w. (thread_in w).note) (word-left f m e law ∙ ap (λ i. word_of (s_next f.image (f.sites i) e)) at)
      ∙ (ap (λ (s : SiteState). (thread_in (word_of (site_after f.image s e.act e.moved))).note) (thread-sort who (f.sites (Site.thread who)) (law.rel.sorts (Site.thread who)))
      ∙ (ap (λ a. (thread_after (word f who) a).note) said ∙ same (word f who))))
      ∙ noted)

  looks-behind-well : (q : Pending) (rest : Steps) (todo : Todos) → Shows f m e.cpu e q rest todo → (left : Todos) → AreWell left → AreWell (looks_behind f.image p.context q e left)
  looks-behind-well (Pending.Abort who) rest todo h left k = by (is_done_in (act_in e.act) && not (who.0 == p.context.thread))
    where
      by : (b : Bool) → AreWell (if b then looks_for f.image who.0 (thread_in e.word) left else left)
      by true = look-well who.0 (thread_in e.word) (read-note who.0 (abort-below who rest (shown-offers h)) (site-is h) _ (act-is h) (λ w. either-note (is_living w.life) w (record w { aborted = true }) refl)) left k
        where
          either-note : (b : Bool) (w z : ThreadWord) → z.note ≡ w.note → (if b then z else w).note ≡ w.note
          either-note true w z same = same
          either-note false w z same = refl
      by false = k
  looks-behind-well (Pending.Continue who) rest todo h left k = either f.image AreWell (is_done_in (act_in e.act)) (Todo.rouse who.0) left (λ b z. z) k
  looks-behind-well (Pending.FutexWake a all) rest todo h left k = wakes-well (told_all (woken_in (act_in e.act))) left k
  looks-behind-well q rest todo h left k = k

  -- an event
  shown-well : (q : Pending) (rest : Steps) (todo : Todos) → Shows f m e.cpu e q rest todo → AreWell todo → AreWell now.todo
  shown-well q rest todo h k =
      let c = continues f.image p.context 0 q rest (act_in e.act) e.moved in
      let left = waits_behind f.image q e todo in
      next-made (Todo.show h.listed rest) todo h.at
      (subst (λ (z : Processor). AreWell z.todo)
      (sym (λ i. if h.shown i then record p { todo = put_away (thread_in e.word).doomed } else after_show f.image p e (h.made i) rest todo))
      (looks-behind-well q rest todo h (behind_step f.image p.context q e.moved (filled_up f.image c left)) (step-well f.image p.context q e.moved (filled_up f.image c left) (fill f.image c left (waits-well q todo k)))))

  -- Steps but events.

  abbrev Any : Context → Type 0
  Any c = Unit {0}

  expands : (c : Context) → Any c → AreWell [] → AreWell (next_steps f.image c c.pending)
  expands c of h = next-well f.image c c.pending

  by-step : (q : Todo) (todo : Todos) → is_shown q ≡ false → AreWell (q ∷ todo) → AreWell todo → AreWell (goes_on_by f.image p e (q ∷ todo)).todo
  by-step (Todo.show q rest) todo quiet all h = absurd (true≢false quiet)
  by-step (Todo.read_claim d) todo quiet all h = claim-kept f.image AreWell (λ z k. k) p e d todo (λ x at. h) h
  by-step (Todo.pass who x) todo quiet all h = pass-kept f.image AreWell Any expands p who x todo (λ y few k. k) tt h
  by-step (Todo.drop x) todo quiet all h = drop-kept f.image AreWell Any expands p (dropped_at f.image p.context x (is_visit e.act)) x todo (λ y few k. k) tt h
  by-step (Todo.clean_pair who x) todo quiet all h = either f.image AreWell (nat_lt (x + 1) ROWS) (Todo.clean_pair who (x + 1)) todo (λ few k. k) h
  by-step Todo.park todo quiet all h = refl
  by-step Todo.done todo quiet all h = refl
  by-step Todo.paid todo quiet all h = refl
  by-step (Todo.reread site) todo quiet all h =
      let w = thread_in e.word in
      let look = Todo.look p.context.thread site w.number in
      fill f.image p.context (if w.aborted then look ∷ todo else todo) (either f.image AreWell w.aborted look todo (λ b k. front look todo (and_parts (is_waiting_site site) (list_all looks_well todo) all).0 k) h)
  by-step (Todo.look who site before) todo quiet all h = fill f.image p.context (if is_void e.act then todo else Todo.tell_cut who ∷ todo) (unless f.image AreWell (is_void e.act) (Todo.tell_cut who) todo (λ b k. k) h)
  by-step (Todo.rouse who) todo quiet all h =
      fill f.image p.context (if is_void e.act then todo else Todo.add (context_in e.moved) ∷ todo) (unless f.image AreWell (is_void e.act) (Todo.add (context_in e.moved)) todo (λ b k. k) h)
  by-step Todo.reread_asleep todo quiet all h = either f.image AreWell (is_awake (thread_in e.word)) (Todo.rouse p.context.thread) todo (λ b k. k) h
  by-step Todo.leave todo quiet all h = wakes-well (told_all (woken_in (act_in e.act))) todo h
  by-step (Todo.handle deadline mark) todo quiet all h = by (is_void e.act)
    where
      by : (b : Bool) → AreWell (if b then todo else wakes (told_marked mark (woken_in (act_in e.act))) todo)
      by true = h
      by false = wakes-well (told_marked mark (woken_in (act_in e.act))) todo h
  by-step Todo.let_go todo quiet all h = fill f.image p.context todo h
  by-step (Todo.read_done d) todo quiet all h = fill f.image p.context todo h
  by-step (Todo.end_call x) todo quiet all h = fill f.image p.context todo h
  by-step (Todo.wake who told) todo quiet all h = fill f.image p.context todo h
  by-step (Todo.add c) todo quiet all h = fill f.image p.context todo h
  by-step (Todo.recycle x) todo quiet all h = fill f.image p.context todo h
  by-step (Todo.settle deadline mark) todo quiet all h = fill f.image p.context todo h
  by-step (Todo.tell_cut who) todo quiet all h = fill f.image p.context todo h
  by-step q todo quiet all h = h

  goes-well : (q : Todo) (todo : Todos) → is_shown q ≡ false → p.todo ≡ q ∷ todo → AreWell now.todo
  goes-well q todo quiet at = next-made q todo at (by-step q todo quiet (ap (list_all looks_well) (sym at) ∙ was) (tail q todo at))

  idle-well : p.todo ≡ [] → AreWell now.todo
  idle-well at =
      acted-kept f.image AreWell (with_cleaned f.image (goes_on_by f.image p e p.todo) e (begins_cleaning e)) e.act
      (cleaned-well f.image (goes_on_by f.image p e p.todo) e (begins_cleaning e)
      (subst (λ z. AreWell (goes_on_by f.image p e z).todo) (sym at)
      (take-kept f.image AreWell Any expands p (turn-kept f.image AreWell refl refl) (λ deadline mark. refl) e.moved tt refl was)))

  -- the word of its thread is read
  read-well : (q : Pending) (rest : Steps) (todo : Todos) → p.todo ≡ Todo.show q rest ∷ todo → is_word_read e.act ≡ true → AreWell now.todo
  read-well q rest todo at read =
      next-made (Todo.show q rest) todo at
      (ap (λ b. list_all looks_well (if b then record p { todo = put_away (thread_in e.word).doomed } else after_show f.image p e (shown_step f.image q e.act) rest todo).todo) read ∙ away (thread_in e.word).doomed)
    where
      away : (b : Bool) → AreWell (put_away b)
      away true = refl
      away false = refl

  quiet-well : (u : Unseen) → e.act ≡ FineAct.Unseen u → (todo : Todos) → p.todo ≡ todo → AreWell now.todo
  quiet-well u said [] at = idle-well at
  quiet-well u said (Todo.show q rest ∷ todo) at = read-well q rest todo at (by q (made-says f m e law (Todo.show q rest ∷ todo) at))
    where
      is-unseen : {event : Event} {more : More} {A : Type 0} → e.act ≡ FineAct.Shown event more → A
      is-unseen h = absurd (subst (λ act. elim act as (λ _. Type 0) [ FineAct.Unseen v ↦ Unit {0} | FineAct.Shown a b ↦ ⊥ ]) (sym said ∙ h) tt)

      begun : (q : Pending) → (b c : Bool) → is_word_read e.act ≡ b → e.act ≡ (if b then FineAct.Unseen Unseen.WordRead else if c then by_me f.image p Act.Killed else shows f.image p q e.act) → is_word_read e.act ≡ true
      begun q true c k h = k
      begun q false true k h = is-unseen h
      begun q false false k h = is-unseen h

      by : (q : Pending) → e.act ≡ says_show f.image p q e.act → is_word_read e.act ≡ true
      by Pending.Begin h = begun Pending.Begin (is_word_read e.act) (is_killed e.act) refl h
      by Pending.Exit h = begun Pending.Exit (is_word_read e.act) (is_killed e.act) refl h
      by q h = is-unseen h
  quiet-well u said (q ∷ todo) at = goes-well q todo refl at

  now-well : (s : State) → Leaves f m e s → AreWell now.todo
  now-well _ (nothing u said) = quiet-well u said p.todo refl
  now-well _ (event q rest todo x h shown is) = shown-well q rest todo h (tail (Todo.show h.listed rest) todo h.at)
  now-well _ (resumes c told rest at moved said) = idle-well at
  now-well _ (passes who x rest todo h said) = goes-well (Todo.pass who x) todo refl h.at
  now-well _ (drops from x rest todo h said) = goes-well (Todo.drop x) todo refl h.at
  now-well _ (cleans who x rest todo h said) = goes-well (Todo.clean_pair who x) todo refl h.at
  now-well _ (recycles x rest todo at l said chosen) = goes-well (Todo.recycle x) todo refl at
  now-well _ (beside_it t x q how chosen started) = by how
    where
      by : {t x : ℕ} {q : Pending} → Beside f m e t x q → AreWell now.todo
      by (cuts who site before x todo at place inside said) = goes-well (Todo.look who site before) todo refl at
      by (times_out deadline site x who todo at place inside said) = goes-well (Todo.handle deadline (Mark.Thread who site)) todo refl at
      by (expires deadline x todo at inside said) = goes-well (Todo.handle deadline (Mark.Timer x)) todo refl at
      by (ticks at said) = idle-well at
      by (leaves_it todo at said) = goes-well Todo.leave todo refl at

  pub look-part : (s : State) → Leaves f m e s → (k : ℕ) → k < f.cpus → LookThere later k
  look-part s left k l = by (e.cpu == k) refl
    where
      by : (b : Bool) → (e.cpu == k) ≡ b → AreWell (cond b (p_next f.image (f.processors k) e) (f.processors k)).todo
      by true on = subst (λ j. AreWell (p_next f.image (f.processors j) e).todo) (eqb-true e.cpu k on) (now-well s left)
      by false off = (law.rel.processors k l).look
