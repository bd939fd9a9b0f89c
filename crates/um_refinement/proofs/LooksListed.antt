-- A look for a thread that stands on a processor's list after a step stood there before; or the step put it there, with the number that the
-- thread's word has then, and that word says that the thread is aborted.
use Rattle.um_refinement.proofs.Words.{◌⊎◌, inl, inr, State, same_site, same-itself, s_next, word, Event, More, Unseen, by_me, says_show, true≢false, ◌≡◌, ℕ, ◌+◌, ◌<◌, Bool, true, false, List, [], ◌∷◌, ◌++◌, Option, Some, None, refl, sym, ap, ◌∙◌, subst, ◌==◌, ◌&&◌, not, if◌then◌else◌, nat_lt, false≢true, ROWS, THREADS, Act, Answer, Exchange, FineAct, FineStep, Image, Pending, Steps, State, ThreadIx, ThreadWord, Told, Context, Site, SiteState, Todo, Todos, Processor, act_in, answer_in, after_show, behind_step, cleaning_of, begins_cleaning, context_in, continues, dropped_at, end_calls, filled_up, fine_steps, goes_on_by, is_visit, is_word_read, next_steps, end_of_turn, outcome_in, own_row, row_named, row_number, s_next, site_after, shows, thread_after, thread_in, wakes, with_cleaned, word, Fine}
use Rattle.um_machine.specs.State.{thread_at}
use Rattle.um_refinement.specs.Stops.{Looking}
use Rattle.um_refinement.proofs.SleepFlags.{word-here}
use Rattle.um_words.specs.declared.fine.Mark.{Mark}
use Rattle.um_machine.specs.State.{is_living}
use Rattle.um_words.specs.Threads.{is_awake}
use Rattle.um_fine.specs.Answers.{is_done_in, is_killed, is_void, woken_in}
use Rattle.um_fine.specs.Follows.{looks_behind, looks_for, rereads, shown_step, told_all, told_marked, waits_behind}
use Rattle.um_fine.specs.Places.{noted_cell, put_away}
use Rattle.um_fine.specs.Sites.{word_of}
use Rattle.um_refinement.proofs.Erased.{around}
use Rattle.um_refinement.proofs.Leaves.{Beside, Lawful, Leaves, beside as beside_it, cleans, cuts, drops, event, expires, leaves as leaves_it, nothing, passes, recycles, resumes, ticks, times_out}
use Rattle.um_refinement.proofs.ListGrowth.{is_shown, visits_row, acted-kept, claim-kept, cleaning-kept, drop-kept, either, forms-kept, next-kept, pass-kept, take-kept, turn-kept, unless}
use Rattle.um_refinement.proofs.Offered.{IsStep, Shows, site-is}
use Rattle.um_refinement.proofs.RowSteps.{thread-sort}
use Rattle.um_refinement.proofs.SchedulerSteps.{made-at, made-says, word-left}

-- each look for this thread is so
abbrev AreSo : (ℕ → ℕ → Type 0) → ℕ → Todos → Type 0
AreSo Ok t todo = (site before : ℕ) → Looking todo t site before → Ok site before

module _ (Ok : ℕ → ℕ → Type 0) (t : ℕ) where
  abbrev AreFine : Todos → Type 0
  AreFine todo = AreSo Ok t todo

  none : AreFine []
  none site before h = absurd h

  -- one more of a list, where the rest goes over
  cons : (q : Todo) (old new : Todos) → (AreFine old → AreFine new) → AreFine (q ∷ old) → AreFine (q ∷ new)
  cons (Todo.look who there older) old new on k site before (inl is) = k site before (inl is)
  cons (Todo.look who there older) old new on k site before (inr h) = on (λ s b z. k s b (inr z)) site before h
  cons q old new on k site before h = on k site before h

  behind-of : (q : Todo) (todo : Todos) → AreFine (q ∷ todo) → AreFine todo
  behind-of (Todo.look who there older) todo k site before h = k site before (inr h)
  behind-of q todo k site before h = k site before h

  wakes-fine : (ws : List (ThreadIx × Told)) (todo : Todos) → AreFine todo → AreFine (wakes ws todo)
  wakes-fine [] todo h = h
  wakes-fine (w ∷ ws) todo h = wakes-fine ws todo h

  ends-fine : (xs : List ℕ) (todo : Todos) → AreFine todo → AreFine (end_calls xs todo)
  ends-fine [] todo h = h
  ends-fine (x ∷ xs) todo h = ends-fine xs todo h

  joined : (todo more : Todos) → AreFine todo → AreFine more → AreFine (todo ++ more)
  joined [] more h k = k
  joined (q ∷ todo) more h k = cons q todo (todo ++ more) (λ z. joined todo more z k) h

  module _ (image : Image) where
    fine-fine : (c : Context) (q : Pending) (rest : Steps) → AreFine (fine_steps image c q rest)
    fine-fine =
        forms-kept image AreFine
        (record {
          note = λ site todo h. h;
          act = λ q rest site before h. absurd h;
          settles = λ q rest deadline mark site before h. absurd h;
          access = λ q rest site before h. absurd h;
          access_settles = λ q rest deadline mark site before h. absurd h;
          look = λ x todo h. h;
          owe = λ q rest site before h. absurd h;
          leave = λ a rest site before h. absurd h;
          edit = λ d q rest site before h. absurd h;
          move = λ d who rest site before h. absurd h;
          start = λ who q rest c site before h. absurd h;
        })

    turn-fine : (b : Bool) → AreFine (end_of_turn image b)
    turn-fine true = none
    turn-fine false = none

    next-fine : (c : Context) (steps : Steps) → AreFine (next_steps image c steps)
    next-fine = next-kept image AreFine (λ q todo visit names h. visits-fine q todo visit h) fine-fine turn-fine
      where
        visits-fine : (q : Todo) (todo : Todos) → visits_row q ≡ true → AreFine todo → AreFine (q ∷ todo)
        visits-fine (Todo.pass who x) todo v h = h
        visits-fine (Todo.drop x) todo v h = h
        visits-fine q todo v h = absurd (false≢true v)

    fill : (c : Context) (todo : Todos) → AreFine todo → AreFine (filled_up image c todo)
    fill c [] h = next-fine c c.pending
    fill c (q ∷ todo) h = h

    step-fine : (c : Context) (q : Pending) (moved : Exchange) (todo : Todos) → AreFine todo → AreFine (behind_step image c q moved todo)
    step-fine c (Pending.Work a ask) moved todo h = wakes-fine (outcome_in moved).woken todo h
    step-fine c Pending.Exit moved todo h = ends-fine c.claims todo h
    step-fine c Pending.Killed moved todo h = ends-fine c.claims todo h
    step-fine c (Pending.Answer reply to) moved todo h = ends-fine c.claims todo h
    step-fine c (Pending.Fatal reason cause) moved todo h = ends-fine c.claims todo h
    step-fine c (Pending.ClearInit a) moved todo h = let own = own_row image c.thread in either image AreFine (row_named image a == own) (Todo.end_call own) todo (λ b k. k) h
    step-fine c q moved todo h = h

    block-fine : (x : ℕ) (o : Option ℕ) → AreFine (cleaning_of x o)
    block-fine x None = none
    block-fine x (Some who) = none

    cleaned-fine : (p : Processor) (e : FineStep) (b : Bool) → AreFine p.todo → AreFine (with_cleaned image p e b).todo
    cleaned-fine p e true h =
        cleaning-kept image (λ old new. AreFine old → AreFine new) (row_number e.site) (λ o todo at k. joined (cleaning_of (row_number e.site) o) todo (block-fine (row_number e.site) o) k)
        (λ q old new c on k. cons q old new on k) p.todo h
    cleaned-fine p e false h = h

    waits-fine : (q : Pending) (e : FineStep) (todo : Todos) → AreFine todo → AreFine (waits_behind image q e todo)
    waits-fine q e todo h = by (answer_in (act_in e.act)) (noted_cell image (q ∷ []))
      where
        by : (answer : Answer) (site : Option ℕ) → AreFine (rereads image answer site todo)
        by Answer.Wait (Some site) = joined todo (Todo.reread site ∷ []) h none
        by Answer.Wait None = h
        by (Answer.Now reply) site = h

module _ (f : Fine) (m : State) (e : FineStep) (law : Lawful f m e) (t : ℕ) (few : t < THREADS) where
  open around f e use {later, processor as p, now}

  -- where a look comes from
  abbrev pub Ok : ℕ → ℕ → Type 0
  Ok site before = Looking p.todo t site before ⊎ ((before ≡ (word later t).number) × ((word later t).aborted ≡ true))

  abbrev Fine-list : Todos → Type 0
  Fine-list todo = AreSo Ok t todo

  -- the word that a step leaves of a thread
  pub word-now : e.site ≡ Site.thread t → thread_in e.word ≡ word later t
  word-now site =
      ap thread_in (word-left f m e law ∙ ap (λ i. word_of (s_next f.image (f.sites i) e)) site)
      ∙ (ap (λ (s : SiteState). thread_in (word_of (site_after f.image s e.act e.moved))) (thread-sort t (f.sites (Site.thread t)) (law.rel.sorts (Site.thread t)))
      ∙ sym (word-here f m e law t few (ap (λ i. same_site i (Site.thread t)) site ∙ same-itself (Site.thread t))))

  next-made : (q : Todo) (todo : Todos) → p.todo ≡ q ∷ todo → Fine-list (goes_on_by f.image p e (q ∷ todo)).todo → Fine-list now.todo
  next-made q todo at k =
      acted-kept f.image Fine-list (with_cleaned f.image (goes_on_by f.image p e p.todo) e (begins_cleaning e)) e.act
      (cleaned-fine Ok t f.image (goes_on_by f.image p e p.todo) e (begins_cleaning e) (subst (λ z. Fine-list (goes_on_by f.image p e z).todo) (sym at) k))

  was : Fine-list p.todo
  was site before h = inl h

  tail : (q : Todo) (todo : Todos) → p.todo ≡ q ∷ todo → Fine-list todo
  tail q todo at = behind-of Ok t q todo (subst Fine-list at was)

  -- Behind an abort.

  look-fine : (who : ℕ) (w : ThreadWord) → (who ≡ t → (w.number ≡ (word later t).number) × ((word later t).aborted ≡ true)) → (todo : Todos) → Fine-list todo → Fine-list (looks_for f.image who w todo)
  look-fine who w new todo h = by w.note
    where
      by : (o : Option ℕ) → Fine-list (elim o as (λ _. Todos) [ Some site ↦ Todo.look who site w.number ∷ todo | None ↦ Todo.rouse who ∷ todo ])
      by (Some there) site before (inl is) = let n = new is.0 in inr (sym is.2 ∙ n.0, n.1)
      by (Some there) site before (inr z) = h site before z
      by None site before z = h site before z

  aborted-now : (who : ThreadIx) (x : ℕ) → e.site ≡ Site.thread who.0 → IsStep f m e.cpu e x (Pending.Abort who) → is_done_in (act_in e.act) ≡ true → who.0 ≡ t → (word later t).aborted ≡ true
  aborted-now who x site is done same =
      let at = site ∙ ap Site.thread same in
      let lives : is_living (word f t).life ≡ true = ap is_living (law.rel.threads t few).word.life ∙ (ap (λ n. is_living (thread_at m n).life) (sym same) ∙ (sym (ap is_done_in is.says) ∙ done)) in
      ap (λ (w : ThreadWord). w.aborted) (word-here f m e law t few (ap (λ i. same_site i (Site.thread t)) at ∙ same-itself (Site.thread t)))
      ∙ (ap (λ a. (thread_after (word f t) a).aborted) is.said ∙ ap (λ b. (if b then record (word f t) { aborted = true } else word f t).aborted) lives)

  looks-behind-fine : (q : Pending) (rest : Steps) (todo : Todos) (x : ℕ) → Shows f m e.cpu e q rest todo → IsStep f m e.cpu e x q → (left : Todos) → Fine-list left → Fine-list (looks_behind f.image p.context q e left)
  looks-behind-fine (Pending.Abort who) rest todo x h is left k = by (is_done_in (act_in e.act)) refl (not (who.0 == p.context.thread))
    where
      by : (b : Bool) → is_done_in (act_in e.act) ≡ b → (c : Bool) → Fine-list (if b && c then looks_for f.image who.0 (thread_in e.word) left else left)
      by true done true =
          look-fine who.0 (thread_in e.word)
          (λ same. (ap (λ (w : ThreadWord). w.number) (word-now (site-is h ∙ ap Site.thread same)), aborted-now who x (site-is h) is done same)) left k
      by true done false = k
      by false done c = k
  looks-behind-fine (Pending.Continue who) rest todo x h is left k = either f.image Fine-list (is_done_in (act_in e.act)) (Todo.rouse who.0) left (λ b z. z) k
  looks-behind-fine (Pending.FutexWake a all) rest todo x h is left k = wakes-fine Ok t (told_all (woken_in (act_in e.act))) left k
  looks-behind-fine q rest todo x h is left k = k

  -- an event
  shown-fine : (q : Pending) (rest : Steps) (todo : Todos) (x : ℕ) → Shows f m e.cpu e q rest todo → IsStep f m e.cpu e x q → Fine-list todo → Fine-list now.todo
  shown-fine q rest todo x h is k =
      let c = continues f.image p.context 0 q rest (act_in e.act) e.moved in
      let left = waits_behind f.image q e todo in
      next-made (Todo.show h.listed rest) todo h.at
      (subst (λ (z : Processor). Fine-list z.todo)
      (sym (λ i. if h.shown i then record p { todo = put_away (thread_in e.word).doomed } else after_show f.image p e (h.made i) rest todo))
      (looks-behind-fine q rest todo x h is (behind_step f.image p.context q e.moved (filled_up f.image c left)) (step-fine Ok t f.image p.context q e.moved (filled_up f.image c left) (fill Ok t f.image c left (waits-fine Ok t f.image q e todo k)))))

  -- Steps but events.

  abbrev Any : Context → Type 0
  Any c = Unit {0}

  expands : (c : Context) → Any c → Fine-list [] → Fine-list (next_steps f.image c c.pending)
  expands c of h = next-fine Ok t f.image c c.pending

  by-step : (q : Todo) (todo : Todos) → p.todo ≡ q ∷ todo → is_shown q ≡ false → Fine-list todo → Fine-list (goes_on_by f.image p e (q ∷ todo)).todo
  by-step (Todo.show q rest) todo at quiet h = absurd (true≢false quiet)
  by-step (Todo.read_claim d) todo at quiet h = claim-kept f.image Fine-list (λ z k. k) p e d todo (λ x same. h) h
  by-step (Todo.pass who x) todo at quiet h = pass-kept f.image Fine-list Any expands p who x todo (λ y few k. k) tt h
  by-step (Todo.drop x) todo at quiet h = drop-kept f.image Fine-list Any expands p (dropped_at f.image p.context x (is_visit e.act)) x todo (λ y few k. k) tt h
  by-step (Todo.clean_pair who x) todo at quiet h = either f.image Fine-list (nat_lt (x + 1) ROWS) (Todo.clean_pair who (x + 1)) todo (λ few k. k) h
  by-step Todo.park todo at quiet h = none Ok t
  by-step Todo.done todo at quiet h = none Ok t
  by-step Todo.paid todo at quiet h = none Ok t
  by-step (Todo.reread site) todo at quiet h = fill Ok t f.image p.context (if (thread_in e.word).aborted then look ∷ todo else todo) (by (thread_in e.word).aborted refl)
    where
      look : Todo
      look = Todo.look p.context.thread site (thread_in e.word).number

      by : (b : Bool) → (thread_in e.word).aborted ≡ b → Fine-list (if b then look ∷ todo else todo)
      by true aborted there before (inl is) =
          let now = word-now (made-at f m e law (Todo.reread site ∷ todo) at ∙ ap Site.thread is.0) in
          inr (sym is.2 ∙ ap (λ (w : ThreadWord). w.number) now, sym (ap (λ (w : ThreadWord). w.aborted) now) ∙ aborted)
      by true aborted there before (inr z) = h there before z
      by false aborted there before z = h there before z
  by-step (Todo.look who site before) todo at quiet h = fill Ok t f.image p.context (if is_void e.act then todo else Todo.tell_cut who ∷ todo) (unless f.image Fine-list (is_void e.act) (Todo.tell_cut who) todo (λ b k. k) h)
  by-step (Todo.rouse who) todo at quiet h =
      fill Ok t f.image p.context (if is_void e.act then todo else Todo.add (context_in e.moved) ∷ todo) (unless f.image Fine-list (is_void e.act) (Todo.add (context_in e.moved)) todo (λ b k. k) h)
  by-step Todo.reread_asleep todo at quiet h = either f.image Fine-list (is_awake (thread_in e.word)) (Todo.rouse p.context.thread) todo (λ b k. k) h
  by-step Todo.leave todo at quiet h = wakes-fine Ok t (told_all (woken_in (act_in e.act))) todo h
  by-step (Todo.handle deadline mark) todo at quiet h = by (is_void e.act)
    where
      by : (b : Bool) → Fine-list (if b then todo else wakes (told_marked mark (woken_in (act_in e.act))) todo)
      by true = h
      by false = wakes-fine Ok t (told_marked mark (woken_in (act_in e.act))) todo h
  by-step Todo.let_go todo at quiet h = fill Ok t f.image p.context todo h
  by-step (Todo.read_done d) todo at quiet h = fill Ok t f.image p.context todo h
  by-step (Todo.end_call x) todo at quiet h = fill Ok t f.image p.context todo h
  by-step (Todo.wake who told) todo at quiet h = fill Ok t f.image p.context todo h
  by-step (Todo.add c) todo at quiet h = fill Ok t f.image p.context todo h
  by-step (Todo.recycle x) todo at quiet h = fill Ok t f.image p.context todo h
  by-step (Todo.settle deadline mark) todo at quiet h = fill Ok t f.image p.context todo h
  by-step (Todo.tell_cut who) todo at quiet h = fill Ok t f.image p.context todo h
  by-step q todo at quiet h = h

  goes-fine : (q : Todo) (todo : Todos) → is_shown q ≡ false → p.todo ≡ q ∷ todo → Fine-list now.todo
  goes-fine q todo quiet at = next-made q todo at (by-step q todo at quiet (tail q todo at))

  idle-fine : p.todo ≡ [] → Fine-list now.todo
  idle-fine at =
      acted-kept f.image Fine-list (with_cleaned f.image (goes_on_by f.image p e p.todo) e (begins_cleaning e)) e.act
      (cleaned-fine Ok t f.image (goes_on_by f.image p e p.todo) e (begins_cleaning e)
      (subst (λ z. Fine-list (goes_on_by f.image p e z).todo) (sym at)
      (take-kept f.image Fine-list Any expands p (turn-kept f.image Fine-list (none Ok t) (none Ok t)) (λ deadline mark. none Ok t) e.moved tt (none Ok t) was)))

  -- the word of its thread is read
  read-fine : (q : Pending) (rest : Steps) (todo : Todos) → p.todo ≡ Todo.show q rest ∷ todo → is_word_read e.act ≡ true → Fine-list now.todo
  read-fine q rest todo at read =
      next-made (Todo.show q rest) todo at
      (subst (λ b. Fine-list (if b then record p { todo = put_away (thread_in e.word).doomed } else after_show f.image p e (shown_step f.image q e.act) rest todo).todo) (sym read) (away (thread_in e.word).doomed))
    where
      away : (b : Bool) → Fine-list (put_away b)
      away true = none Ok t
      away false = none Ok t

  quiet-fine : (u : Unseen) → e.act ≡ FineAct.Unseen u → (todo : Todos) → p.todo ≡ todo → Fine-list now.todo
  quiet-fine u said [] at = idle-fine at
  quiet-fine u said (Todo.show q rest ∷ todo) at = read-fine q rest todo at (by q (made-says f m e law (Todo.show q rest ∷ todo) at))
    where
      is-unseen : {event : Event} {more : More} {A : Type 0} → e.act ≡ FineAct.Shown event more → A
      is-unseen h = absurd (subst (λ act. elim act as (λ _. Type 0) [ FineAct.Unseen v ↦ Unit {0} | FineAct.Shown a b ↦ ⊥ ]) (sym said ∙ h) tt)

      begun : (q : Pending) → (b c : Bool) → is_word_read e.act ≡ b → e.act ≡ (if b then FineAct.Unseen Unseen.WordRead else if c then by_me f.image p Act.Killed else shows f.image p q e.act) → is_word_read e.act ≡ true
      begun q true c k h = k
      begun q false true k h = is-unseen h
      begun q false false k h = is-unseen h

      by : (q : Pending) → e.act ≡ says_show f.image p q e.act → is_word_read e.act ≡ true
      by Pending.Begin h = begun Pending.Begin (is_word_read e.act) (is_killed e.act) refl h
      by Pending.Exit h = begun Pending.Exit (is_word_read e.act) (is_killed e.act) refl h
      by q h = is-unseen h
  quiet-fine u said (q ∷ todo) at = goes-fine q todo refl at

  pub looks-now : (s : State) → Leaves f m e s → Fine-list now.todo
  looks-now _ (nothing u said) = quiet-fine u said p.todo refl
  looks-now _ (event q rest todo x h shown is) = shown-fine q rest todo x h is (tail (Todo.show h.listed rest) todo h.at)
  looks-now _ (resumes c told rest at moved said) = idle-fine at
  looks-now _ (passes who x rest todo h said) = goes-fine (Todo.pass who x) todo refl h.at
  looks-now _ (drops from x rest todo h said) = goes-fine (Todo.drop x) todo refl h.at
  looks-now _ (cleans who x rest todo h said) = goes-fine (Todo.clean_pair who x) todo refl h.at
  looks-now _ (recycles x rest todo at l said chosen) = goes-fine (Todo.recycle x) todo refl at
  looks-now _ (beside_it t x q how chosen started) = by how
    where
      by : {t x : ℕ} {q : Pending} → Beside f m e t x q → Fine-list now.todo
      by (cuts who site before x todo at place inside said) = goes-fine (Todo.look who site before) todo refl at
      by (times_out deadline site x who todo at place inside said) = goes-fine (Todo.handle deadline (Mark.Thread who site)) todo refl at
      by (expires deadline x todo at inside said) = goes-fine (Todo.handle deadline (Mark.Timer x)) todo refl at
      by (ticks at said) = idle-fine at
      by (leaves_it todo at said) = goes-fine Todo.leave todo refl at
