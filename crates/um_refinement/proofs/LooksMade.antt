-- A look is for a step of its thread's word that was made, after every lawful step.
use Rattle.um_refinement.proofs.Words.{inl, inr, ◌||◌, nat_le, le-leb, leb-true, eq-eqb, arith, same_site, ◌≤◌, Event, More, Unseen, by_me, says_show, true≢false, ◌≡◌, ℕ, ◌+◌, ◌<◌, Bool, true, false, cond, List, [], ◌∷◌, ◌++◌, Option, Some, None, refl, sym, ap, ◌∙◌, subst, ◌==◌, ◌&&◌, not, and_from, and_parts, if◌then◌else◌, nat_lt, list_all, eqb-true, false≢true, ROWS, THREADS, Act, Answer, Exchange, FineAct, FineStep, Image, Pending, Steps, State, ThreadIx, ThreadWord, Told, Context, Site, SiteState, Todo, Todos, Processor, act_in, answer_in, after_show, behind_step, cleaning_of, begins_cleaning, context_in, continues, dropped_at, end_calls, filled_up, fine_steps, goes_on_by, is_visit, is_word_read, next_steps, end_of_turn, outcome_in, own_row, p_next, row_named, row_number, s_next, site_after, shows, thread_after, thread_in, wakes, with_cleaned, word, Fine}
use Rattle.um_words.specs.declared.fine.Mark.{Mark}
use Rattle.um_machine.specs.State.{is_living}
use Rattle.um_words.specs.Threads.{is_awake, thread_after_act}
use Rattle.um_fine.specs.Answers.{is_done_in, is_killed, is_void, woken_in}
use Rattle.um_fine.specs.Follows.{looks_behind, looks_for, rereads, shown_step, told_all, told_marked, waits_behind}
use Rattle.um_fine.specs.Places.{noted_cell, put_away}
use Rattle.um_fine.specs.Sites.{word_of}
use Rattle.um_refinement.specs.Stops.{Looking}
use Rattle.um_refinement.proofs.Erased.{around}
use Rattle.um_refinement.proofs.Leaves.{Beside, Lawful, Leaves, beside as beside_it, cleans, cuts, drops, event, expires, leaves as leaves_it, nothing, passes, recycles, resumes, ticks, times_out}
use Rattle.um_refinement.proofs.ListGrowth.{is_shown, visits_row, acted-kept, claim-kept, cleaning-kept, drop-kept, either, forms-kept, next-kept, pass-kept, take-kept, turn-kept, unless}
use Rattle.um_refinement.proofs.Offered.{Shows, site-is}
use Rattle.um_refinement.proofs.RowSteps.{thread-sort}
use Rattle.um_refinement.proofs.SchedulerSteps.{made-at, made-says, word-left}
use Rattle.um_refinement.proofs.SleepFlags.{word-else, word-here}

-- a step keeps the number of a word, before it is counted
numbered : (w : ThreadWord) (act : FineAct) → (thread_after w act).number ≡ w.number
numbered w (FineAct.Shown said more) = by said.act
  where
    flag : (b : Bool) (z : ThreadWord) → z.number ≡ w.number → (if b then z else w).number ≡ w.number
    flag true z h = h
    flag false z h = refl

    by : (act : Act) → (thread_after_act w more act).number ≡ w.number
    by (Act.Abort who done) = flag (is_living w.life) (record w { aborted = true }) refl
    by (Act.Suspend who done) = flag (is_living w.life) (record w { suspended = true }) refl
    by (Act.Continue who done) = flag (is_living w.life) (record w { suspended = false }) refl
    by act = refl
numbered w (FineAct.Unseen Unseen.Hold) = refl
numbered w (FineAct.Unseen Unseen.LetGo) = refl
numbered w (FineAct.Unseen (Unseen.Note site)) = refl
numbered w (FineAct.Unseen u) = refl

module _ (t n : ℕ) where
  abbrev looks_well : Todo → Bool
  looks_well (Todo.look who site before) = not (who == t) || nat_le before n
  looks_well q = true

  abbrev AreWell : Todos → Type 0
  AreWell todo = list_all looks_well todo ≡ true

  front : (q : Todo) (todo : Todos) → looks_well q ≡ true → AreWell todo → AreWell (q ∷ todo)
  front q todo well h = and_from (looks_well q) (list_all looks_well todo) well h

  wakes-well : (ws : List (ThreadIx × Told)) (todo : Todos) → AreWell todo → AreWell (wakes ws todo)
  wakes-well [] todo h = h
  wakes-well (w ∷ ws) todo h = wakes-well ws todo h

  ends-well : (xs : List ℕ) (todo : Todos) → AreWell todo → AreWell (end_calls xs todo)
  ends-well [] todo h = h
  ends-well (x ∷ xs) todo h = ends-well xs todo h

  behind-well : (todo more : Todos) → AreWell todo → AreWell more → AreWell (todo ++ more)
  behind-well [] more h k = k
  behind-well (q ∷ todo) more h k = let parts = and_parts (looks_well q) (list_all looks_well todo) h in front q (todo ++ more) parts.0 (behind-well todo more parts.1 k)

  module _ (image : Image) where
    fine-well : (c : Context) (q : Pending) (rest : Steps) → AreWell (fine_steps image c q rest)
    fine-well =
        forms-kept image AreWell
        (record {
          note = λ site todo h. h;
          act = λ q rest. refl;
          settles = λ q rest deadline mark. refl;
          access = λ q rest. refl;
          access_settles = λ q rest deadline mark. refl;
          look = λ x todo h. h;
          owe = λ q rest. refl;
          leave = λ a rest. refl;
          edit = λ d q rest. refl;
          move = λ d who rest. refl;
          start = λ who q rest c. refl;
        })

    next-well : (c : Context) (steps : Steps) → AreWell (next_steps image c steps)
    next-well =
        next-kept image AreWell (λ q todo visit names h. front q todo (visits-well q visit) h) fine-well (λ b. elim b as (λ b. AreWell (end_of_turn image b)) [ true ↦ refl | false ↦ refl ])
      where
        visits-well : (q : Todo) → visits_row q ≡ true → looks_well q ≡ true
        visits-well (Todo.pass who x) h = refl
        visits-well (Todo.drop x) h = refl
        visits-well q h = absurd (false≢true h)

    fill : (c : Context) (todo : Todos) → AreWell todo → AreWell (filled_up image c todo)
    fill c [] h = next-well c c.pending
    fill c (q ∷ todo) h = h

    step-well : (c : Context) (q : Pending) (moved : Exchange) (todo : Todos) → AreWell todo → AreWell (behind_step image c q moved todo)
    step-well c (Pending.Work a ask) moved todo h = wakes-well (outcome_in moved).woken todo h
    step-well c Pending.Exit moved todo h = ends-well c.claims todo h
    step-well c Pending.Killed moved todo h = ends-well c.claims todo h
    step-well c (Pending.Answer reply to) moved todo h = ends-well c.claims todo h
    step-well c (Pending.Fatal reason cause) moved todo h = ends-well c.claims todo h
    step-well c (Pending.ClearInit a) moved todo h = let own = own_row image c.thread in either image AreWell (row_named image a == own) (Todo.end_call own) todo (λ b k. k) h
    step-well c q moved todo h = h

    -- a cleaning that begins
    block-well : (x : ℕ) (o : Option ℕ) → AreWell (cleaning_of x o)
    block-well x None = refl
    block-well x (Some who) = refl

    cleaned-well : (p : Processor) (e : FineStep) (b : Bool) → AreWell p.todo → AreWell (with_cleaned image p e b).todo
    cleaned-well p e true h =
        cleaning-kept image (λ old new. AreWell old → AreWell new) (row_number e.site) (λ o todo at k. behind-well (cleaning_of (row_number e.site) o) todo (block-well (row_number e.site) o) k)
        (λ q old new c on k. let parts = and_parts (looks_well q) (list_all looks_well old) k in front q new parts.0 (on parts.1)) p.todo h
    cleaned-well p e false h = h

  module _ (f : Fine) (m : State) (e : FineStep) (law : Lawful f m e) (few : t < THREADS) (current : n ≡ (word (around f e).later t).number) where
    open around f e use {later, processor as p, now}

    next-made : (q : Todo) (todo : Todos) → p.todo ≡ q ∷ todo → AreWell (goes_on_by f.image p e (q ∷ todo)).todo → AreWell now.todo
    next-made q todo at k =
        acted-kept f.image AreWell (with_cleaned f.image (goes_on_by f.image p e p.todo) e (begins_cleaning e)) e.act
        (cleaned-well f.image (goes_on_by f.image p e p.todo) e (begins_cleaning e) (subst (λ z. AreWell (goes_on_by f.image p e z).todo) (sym at) k))

    grows : (word f t).number ≤ n
    grows = by (same_site e.site (Site.thread t)) refl
      where
        by : (b : Bool) → same_site e.site (Site.thread t) ≡ b → (word f t).number ≤ n
        by true on = let now = current ∙ ap (λ (w : ThreadWord). w.number) (word-here f m e law t few on) in let kept = numbered (word f t) e.act in omega (arith, now, kept)
        by false off = let now = current ∙ ap (λ (w : ThreadWord). w.number) (word-else f m e law t few off) in omega (arith, now)

    all-fit : (todo : Todos) → ((site before : ℕ) → Looking todo t site before → before ≤ (word f t).number) → AreWell todo
    all-fit [] h = refl
    all-fit (Todo.look who site before ∷ todo) h = front (Todo.look who site before) todo (one (who == t) refl) (all-fit todo (λ there older found. h there older (inr found)))
      where
        one : (b : Bool) → (who == t) ≡ b → (not (who == t) || nat_le before n) ≡ true
        one false k = ap (λ c. not c || nat_le before n) k
        one true k = let less = h site before (inl (eqb-true who t k, refl, refl)) in let more = grows in ap (λ c. not c || nat_le before n) k ∙ le-leb before n (omega (arith, less, more))
    all-fit (q ∷ todo) h = all-fit todo h

    was-well : (k : ℕ) → k < f.cpus → AreWell (f.processors k).todo
    was-well k l = all-fit (f.processors k).todo (λ site before there. (law.rel.threads t few).looks.made k site before l there)

    was : AreWell p.todo
    was = was-well e.cpu law.by.named

    tail : (q : Todo) (todo : Todos) → p.todo ≡ q ∷ todo → AreWell todo
    tail q todo at = (and_parts (looks_well q) (list_all looks_well todo) (ap (list_all looks_well) (sym at) ∙ was)).1

    waits-well : (q : Pending) (todo : Todos) → AreWell todo → AreWell (waits_behind f.image q e todo)
    waits-well q todo h = by (answer_in (act_in e.act)) (noted_cell f.image (q ∷ [])) refl
      where
        by : (answer : Answer) (site : Option ℕ) → noted_cell f.image (q ∷ []) ≡ site → AreWell (rereads f.image answer site todo)
        by Answer.Wait (Some site) at = behind-well todo (Todo.reread site ∷ []) h refl
        by Answer.Wait None at = h
        by (Answer.Now reply) site at = h

    -- Behind an abort.

    -- the number of the word that was read is that of the step
    fresh : (who : ℕ) → e.site ≡ Site.thread who → (site : ℕ) → looks_well (Todo.look who site (thread_in e.word).number) ≡ true
    fresh who place site = by (who == t) refl
      where
        read : who ≡ t → (thread_in e.word).number ≡ n
        read same =
            let at : e.site ≡ Site.thread t = place ∙ ap Site.thread same in
            ap (λ w. (thread_in w).number) (word-left f m e law ∙ ap (λ i. word_of (s_next f.image (f.sites i) e)) at)
            ∙ (ap (λ (s : SiteState). (thread_in (word_of (site_after f.image s e.act e.moved))).number) (thread-sort t (f.sites (Site.thread t)) (law.rel.sorts (Site.thread t)))
            ∙ (ap (λ (w : ThreadWord). w.number) (sym (word-here f m e law t few (ap (λ i. same_site i (Site.thread t)) at ∙ eq-eqb t t refl))) ∙ sym current))

        by : (b : Bool) → (who == t) ≡ b → (not (who == t) || nat_le (thread_in e.word).number n) ≡ true
        by false k = ap (λ c. not c || nat_le (thread_in e.word).number n) k
        by true k = let same = read (eqb-true who t k) in ap (λ c. not c || nat_le (thread_in e.word).number n) k ∙ le-leb (thread_in e.word).number n (omega (arith, same))

    look-well : (who : ℕ) → e.site ≡ Site.thread who → (o : Option ℕ) (todo : Todos) → AreWell todo
        → AreWell (elim o as (λ _. Todos) [ Some site ↦ Todo.look who site (thread_in e.word).number ∷ todo | None ↦ Todo.rouse who ∷ todo ])
    look-well who place (Some site) todo h = front (Todo.look who site (thread_in e.word).number) todo (fresh who place site) h
    look-well who place None todo h = h

    looks-behind-well : (q : Pending) (rest : Steps) (todo : Todos) → Shows f m e.cpu e q rest todo → (left : Todos) → AreWell left → AreWell (looks_behind f.image p.context q e left)
    looks-behind-well (Pending.Abort who) rest todo h left k = by (is_done_in (act_in e.act) && not (who.0 == p.context.thread))
      where
        by : (b : Bool) → AreWell (if b then looks_for f.image who.0 (thread_in e.word) left else left)
        by true = look-well who.0 (site-is h) (thread_in e.word).note left k
        by false = k
    looks-behind-well (Pending.Continue who) rest todo h left k = either f.image AreWell (is_done_in (act_in e.act)) (Todo.rouse who.0) left (λ b z. z) k
    looks-behind-well (Pending.FutexWake a all) rest todo h left k = wakes-well (told_all (woken_in (act_in e.act))) left k
    looks-behind-well q rest todo h left k = k

    -- an event
    shown-well : (q : Pending) (rest : Steps) (todo : Todos) → Shows f m e.cpu e q rest todo → AreWell todo → AreWell now.todo
    shown-well q rest todo h k =
        let c = continues f.image p.context 0 q rest (act_in e.act) e.moved in
        let left = waits_behind f.image q e todo in
        next-made (Todo.show h.listed rest) todo h.at
        (subst (λ (z : Processor). AreWell z.todo)
        (sym (λ i. if h.shown i then record p { todo = put_away (thread_in e.word).doomed } else after_show f.image p e (h.made i) rest todo))
        (looks-behind-well q rest todo h (behind_step f.image p.context q e.moved (filled_up f.image c left)) (step-well f.image p.context q e.moved (filled_up f.image c left) (fill f.image c left (waits-well q todo k)))))

    -- Steps but events.

    abbrev Any : Context → Type 0
    Any c = Unit {0}

    expands : (c : Context) → Any c → AreWell [] → AreWell (next_steps f.image c c.pending)
    expands c of h = next-well f.image c c.pending

    by-step : (q : Todo) (todo : Todos) → is_shown q ≡ false → p.todo ≡ q ∷ todo → AreWell todo → AreWell (goes_on_by f.image p e (q ∷ todo)).todo
    by-step (Todo.show q rest) todo quiet all h = absurd (true≢false quiet)
    by-step (Todo.read_claim d) todo quiet all h = claim-kept f.image AreWell (λ z k. k) p e d todo (λ x at. h) h
    by-step (Todo.pass who x) todo quiet all h = pass-kept f.image AreWell Any expands p who x todo (λ y few k. k) tt h
    by-step (Todo.drop x) todo quiet all h = drop-kept f.image AreWell Any expands p (dropped_at f.image p.context x (is_visit e.act)) x todo (λ y few k. k) tt h
    by-step (Todo.clean_pair who x) todo quiet all h = either f.image AreWell (nat_lt (x + 1) ROWS) (Todo.clean_pair who (x + 1)) todo (λ few k. k) h
    by-step Todo.park todo quiet all h = refl
    by-step Todo.done todo quiet all h = refl
    by-step Todo.paid todo quiet all h = refl
    by-step (Todo.reread site) todo quiet all h =
        let w = thread_in e.word in
        let look = Todo.look p.context.thread site w.number in
        fill f.image p.context (if w.aborted then look ∷ todo else todo) (either f.image AreWell w.aborted look todo (λ b k. front look todo (fresh p.context.thread (made-at f m e law (Todo.reread site ∷ todo) all) site) k) h)
    by-step (Todo.look who site before) todo quiet all h = fill f.image p.context (if is_void e.act then todo else Todo.tell_cut who ∷ todo) (unless f.image AreWell (is_void e.act) (Todo.tell_cut who) todo (λ b k. k) h)
    by-step (Todo.rouse who) todo quiet all h =
        fill f.image p.context (if is_void e.act then todo else Todo.add (context_in e.moved) ∷ todo) (unless f.image AreWell (is_void e.act) (Todo.add (context_in e.moved)) todo (λ b k. k) h)
    by-step Todo.reread_asleep todo quiet all h = either f.image AreWell (is_awake (thread_in e.word)) (Todo.rouse p.context.thread) todo (λ b k. k) h
    by-step Todo.leave todo quiet all h = wakes-well (told_all (woken_in (act_in e.act))) todo h
    by-step (Todo.handle deadline mark) todo quiet all h = by (is_void e.act)
      where
        by : (b : Bool) → AreWell (if b then todo else wakes (told_marked mark (woken_in (act_in e.act))) todo)
        by true = h
        by false = wakes-well (told_marked mark (woken_in (act_in e.act))) todo h
    by-step Todo.let_go todo quiet all h = fill f.image p.context todo h
    by-step (Todo.read_done d) todo quiet all h = fill f.image p.context todo h
    by-step (Todo.end_call x) todo quiet all h = fill f.image p.context todo h
    by-step (Todo.wake who told) todo quiet all h = fill f.image p.context todo h
    by-step (Todo.add c) todo quiet all h = fill f.image p.context todo h
    by-step (Todo.recycle x) todo quiet all h = fill f.image p.context todo h
    by-step (Todo.settle deadline mark) todo quiet all h = fill f.image p.context todo h
    by-step (Todo.tell_cut who) todo quiet all h = fill f.image p.context todo h
    by-step q todo quiet all h = h

    goes-well : (q : Todo) (todo : Todos) → is_shown q ≡ false → p.todo ≡ q ∷ todo → AreWell now.todo
    goes-well q todo quiet at = next-made q todo at (by-step q todo quiet at (tail q todo at))

    idle-well : p.todo ≡ [] → AreWell now.todo
    idle-well at =
        acted-kept f.image AreWell (with_cleaned f.image (goes_on_by f.image p e p.todo) e (begins_cleaning e)) e.act
        (cleaned-well f.image (goes_on_by f.image p e p.todo) e (begins_cleaning e)
        (subst (λ z. AreWell (goes_on_by f.image p e z).todo) (sym at)
        (take-kept f.image AreWell Any expands p (turn-kept f.image AreWell refl refl) (λ deadline mark. refl) e.moved tt refl was)))

    -- the word of its thread is read
    read-well : (q : Pending) (rest : Steps) (todo : Todos) → p.todo ≡ Todo.show q rest ∷ todo → is_word_read e.act ≡ true → AreWell now.todo
    read-well q rest todo at read =
        next-made (Todo.show q rest) todo at
        (ap (λ b. list_all looks_well (if b then record p { todo = put_away (thread_in e.word).doomed } else after_show f.image p e (shown_step f.image q e.act) rest todo).todo) read ∙ away (thread_in e.word).doomed)
      where
        away : (b : Bool) → AreWell (put_away b)
        away true = refl
        away false = refl

    quiet-well : (u : Unseen) → e.act ≡ FineAct.Unseen u → (todo : Todos) → p.todo ≡ todo → AreWell now.todo
    quiet-well u said [] at = idle-well at
    quiet-well u said (Todo.show q rest ∷ todo) at = read-well q rest todo at (by q (made-says f m e law (Todo.show q rest ∷ todo) at))
      where
        is-unseen : {event : Event} {more : More} {A : Type 0} → e.act ≡ FineAct.Shown event more → A
        is-unseen h = absurd (subst (λ act. elim act as (λ _. Type 0) [ FineAct.Unseen v ↦ Unit {0} | FineAct.Shown a b ↦ ⊥ ]) (sym said ∙ h) tt)

        begun : (q : Pending) → (b c : Bool) → is_word_read e.act ≡ b → e.act ≡ (if b then FineAct.Unseen Unseen.WordRead else if c then by_me f.image p Act.Killed else shows f.image p q e.act) → is_word_read e.act ≡ true
        begun q true c k h = k
        begun q false true k h = is-unseen h
        begun q false false k h = is-unseen h

        by : (q : Pending) → e.act ≡ says_show f.image p q e.act → is_word_read e.act ≡ true
        by Pending.Begin h = begun Pending.Begin (is_word_read e.act) (is_killed e.act) refl h
        by Pending.Exit h = begun Pending.Exit (is_word_read e.act) (is_killed e.act) refl h
        by q h = is-unseen h
    quiet-well u said (q ∷ todo) at = goes-well q todo refl at

    now-well : (s : State) → Leaves f m e s → AreWell now.todo
    now-well _ (nothing u said) = quiet-well u said p.todo refl
    now-well _ (event q rest todo x h shown is) = shown-well q rest todo h (tail (Todo.show h.listed rest) todo h.at)
    now-well _ (resumes c told rest at moved said) = idle-well at
    now-well _ (passes who x rest todo h said) = goes-well (Todo.pass who x) todo refl h.at
    now-well _ (drops from x rest todo h said) = goes-well (Todo.drop x) todo refl h.at
    now-well _ (cleans who x rest todo h said) = goes-well (Todo.clean_pair who x) todo refl h.at
    now-well _ (recycles x rest todo at l said chosen) = goes-well (Todo.recycle x) todo refl at
    now-well _ (beside_it t x q how chosen started) = by how
      where
        by : {t x : ℕ} {q : Pending} → Beside f m e t x q → AreWell now.todo
        by (cuts who site before x todo at place inside said) = goes-well (Todo.look who site before) todo refl at
        by (times_out deadline site x who todo at place inside said) = goes-well (Todo.handle deadline (Mark.Thread who site)) todo refl at
        by (expires deadline x todo at inside said) = goes-well (Todo.handle deadline (Mark.Timer x)) todo refl at
        by (ticks at said) = idle-well at
        by (leaves_it todo at said) = goes-well Todo.leave todo refl at

    pub made-part : (s : State) → Leaves f m e s → (k : ℕ) → k < f.cpus → AreWell (later.processors k).todo
    made-part s left k l = by (e.cpu == k) refl
      where
        by : (b : Bool) → (e.cpu == k) ≡ b → AreWell (cond b (p_next f.image (f.processors k) e) (f.processors k)).todo
        by true on = subst (λ j. AreWell (p_next f.image (f.processors j) e).todo) (eqb-true e.cpu k on) (now-well s left)
        by false off = was-well k l

  fits-all : (todo : Todos) (site before : ℕ) → AreWell todo → Looking todo t site before → before ≤ n
  fits-all [] site before h found = absurd found
  fits-all (Todo.look who there older ∷ todo) site before h (inl same) =
      let first = (and_parts (not (who == t) || nat_le older n) (list_all looks_well todo) h).0 in
      let less = leb-true older n (sym (ap (λ b. not b || nat_le older n) (eq-eqb who t same.0)) ∙ first) in
      let is = same.2 in
      omega (arith, less, is)
  fits-all (Todo.look who there older ∷ todo) site before h (inr more) = fits-all todo site before (and_parts (not (who == t) || nat_le older n) (list_all looks_well todo) h).1 more
  fits-all (q ∷ todo) site before h found = fits-all todo site before h found

pub looks-made : (f : Fine) (m : State) (e : FineStep) → Lawful f m e → (t : ℕ) → t < THREADS → (s : State) → Leaves f m e s → (k site before : ℕ) → k < f.cpus
    → Looking ((around f e).later.processors k).todo t site before → before ≤ (word (around f e).later t).number
looks-made f m e law t few s left k site before l found =
    let n = (word (around f e).later t).number in fits-all t n ((around f e).later.processors k).todo site before (made-part t n f m e law few refl s left k l) found
