-- Where a processor's list says that a turn is done, and nobody is put to sleep first: the word of its thread showed it doomed, the list said so
-- before, or the thread has ended and has no step left, as one has that was put to sleep.
use Rattle.um_refinement.proofs.Words.{◌≡◌, ◌⊎◌, inl, inr, ℕ, ◌+◌, Bool, true, false, [], ◌∷◌, ◌++◌, Option, Some, None, refl, sym, ap, ◌∙◌, subst, ◌||◌, ◌&&◌, not, if◌then◌else◌, nat_lt, list_any, false≢true, Told, Answer, Image, ROWS, own_row, thread_of_row, Pending, Steps, instruction_at, act_in, answer_in, context_in, is_visit, is_word_read, is_empty, thread_in, woken_in, behind_step, Context, continues, resumed, refilled_by, after_show, after_take, dropped_at, filled_up, goes_on_by, row_number, wakes, with_cleaned, Todo, Todos, but, cleaning_of, drops, end_of_turn, fine_steps, next_steps, passes, turn, is_cleaning_todo, Processor, Exchange, FineStep, is_done, Fits, behind_shown}
use Rattle.um_words.specs.Threads.{is_awake}
use Rattle.um_fine.specs.Answers.{is_void}
use Rattle.um_fine.specs.Follows.{rereads, shown_step, told_all, told_marked, waits_behind}
use Rattle.um_fine.specs.Places.{armed_for, noted_cell, put_away, settling}
use Rattle.um_refinement.specs.Lists.{is_sleep}
use Rattle.um_refinement.proofs.ListGrowth.{behind-kept, claim-context, cleaning-kept, claim-kept, either, forms-kept, is_errand, looks-kept, turn-kept, unless, waked-kept}

abbrev pub says_done : Todos → Bool
says_done todo = list_any is_done todo && not (list_any is_sleep todo)

-- a thread that has ended and has no step left
abbrev pub Ends : Context → Type 0
Ends c = (c.pending ≡ []) × (c.ended ≡ true)

module _ (image : Image) where
  fine-none : (c : Context) (q : Pending) (rest : Steps) → says_done (fine_steps image c q rest) ≡ false
  fine-none = forms-kept image (λ todo. says_done todo ≡ false)
      (record {
        note = λ site todo h. h;
        act = λ q rest. refl;
        settles = λ q rest deadline mark. refl;
        access = λ q rest. refl;
        access_settles = λ q rest deadline mark. refl;
        look = λ x todo h. h;
        owe = λ q rest. refl;
        leave = λ a rest. refl;
        edit = λ d q rest. refl;
        move = λ d who rest. refl;
        start = λ who q rest c. refl;
      })

  settling-none : (c : Context) (until : Option ℕ) (q : Pending) → says_done (settling image c until q) ≡ false
  settling-none c None q = refl
  settling-none c (Some deadline) q = refl

  shown-none : (c : Context) (q : Pending) → says_done (behind_shown image c q) ≡ false
  shown-none c (Pending.Start who script stack priority mode) = refl
  shown-none c (Pending.Work a ask) = settling-none c (armed_for image c (Pending.Work a ask)) (Pending.Work a ask)
  shown-none c (Pending.Join who timeout) = settling-none c (armed_for image c (Pending.Join who timeout)) (Pending.Join who timeout)
  shown-none c (Pending.FutexWait a value timeout) = settling-none c (armed_for image c (Pending.FutexWait a value timeout)) (Pending.FutexWait a value timeout)
  shown-none c q = refl

  any-append : (f : Todo → Bool) (q : Todo) → f q ≡ false → (todo : Todos) → list_any f (todo ++ q ∷ []) ≡ list_any f todo
  any-append f q off [] = ap (λ b. b || false) off
  any-append f q off (r ∷ todo) = ap (λ b. f r || b) (any-append f q off todo)

  rereads-done : (answer : Answer) (site : Option ℕ) (todo : Todos) → says_done (rereads image answer site todo) ≡ says_done todo
  rereads-done Answer.Wait (Some site) todo = λ i. any-append is_done (Todo.reread site) refl todo i && not (any-append is_sleep (Todo.reread site) refl todo i)
  rereads-done Answer.Wait None todo = refl
  rereads-done (Answer.Now reply) site todo = refl

  abbrev Same : Todos → Todos → Type 0
  Same old new = says_done new ≡ says_done old

  errand : (old : Todos) (q : Todo) (todo : Todos) → is_errand q ≡ true → Same old todo → Same old (q ∷ todo)
  errand old (Todo.wake who told) todo on h = h
  errand old (Todo.look who site before) todo on h = h
  errand old (Todo.tell_cut who) todo on h = h
  errand old (Todo.rouse who) todo on h = h
  errand old q todo on h = absurd (false≢true on)

  passes-done : (who x : ℕ) (todo : Todos) → Same todo (passes who x todo)
  passes-done who x todo = either image (Same todo) (nat_lt x ROWS) (Todo.pass who x) todo (λ few h. h) refl

  drops-done : (x : ℕ) (todo : Todos) → Same todo (drops x todo)
  drops-done x todo = either image (Same todo) (nat_lt x ROWS) (Todo.drop x) todo (λ few h. h) refl

  next-ends : (c : Context) (steps : Steps) → c.pending ≡ steps → says_done (next_steps image c steps) ≡ true → Ends c
  next-ends c [] e h = by c.ended refl h
    where
      by : (b : Bool) → c.ended ≡ b → says_done (end_of_turn image b) ≡ true → Ends c
      by true q k = (e, q)
      by false q k = absurd (false≢true k)
  next-ends c (Pending.Resume ∷ rest) e h = absurd (false≢true h)
  next-ends c (Pending.Inherit who ∷ q ∷ rest) e h =
      absurd (false≢true (sym (passes-done who.0 (but (own_row image c.thread) 0) (fine_steps image c q rest) ∙ fine-none c q rest) ∙ h))
  next-ends c (Pending.Drops from ∷ q ∷ rest) e h = absurd (false≢true (sym (drops-done from (fine_steps image c q rest) ∙ fine-none c q rest) ∙ h))
  next-ends c (Pending.Inherit who ∷ []) e h = absurd (false≢true h)
  next-ends c (Pending.Drops from ∷ []) e h = absurd (false≢true h)
  next-ends c (q ∷ rest) e h = absurd (false≢true (sym (fine-none c q rest) ∙ h))

  pub filled-ends : (c : Context) (todo : Todos) → says_done (filled_up image c todo) ≡ true → (says_done todo ≡ true) ⊎ Ends c
  filled-ends c [] h = inr (next-ends c c.pending refl h)
  filled-ends c (q ∷ todo) h = inl h

  first-done : (x : ℕ) (o : Option ℕ) (todo : Todos) → thread_of_row image x ≡ o → Same todo (cleaning_of x o ++ todo)
  first-done x None todo at = refl
  first-done x (Some who) todo at = refl

  later-done : (q : Todo) (old new : Todos) → is_cleaning_todo q ≡ true → Same old new → Same (q ∷ old) (q ∷ new)
  later-done (Todo.clean_pair who y) old new c h = h
  later-done (Todo.wipe y) old new c h = h
  later-done (Todo.vacate y) old new c h = h
  later-done (Todo.recycle y) old new c h = h
  later-done q old new c h = absurd (false≢true c)

  pub with-cleaned-done : (p : Processor) (e : FineStep) (b : Bool) → says_done (with_cleaned image p e b).todo ≡ says_done p.todo
  with-cleaned-done p e true = cleaning-kept image Same (row_number e.site) (first-done (row_number e.site)) later-done p.todo
  with-cleaned-done p e false = refl

  pub take-ends : (p : Processor) (c : Context) (told : Option Told) → says_done (after_take image p (Exchange.thread c told)).todo ≡ true → Ends (after_take image p (Exchange.thread c told)).context
  take-ends p c None h = by (is_empty c.pending) h
    where
      by : (b : Bool) → says_done (if b then record p { context = c; todo = turn image c } else refilled_by image (record p { context = c }) []).todo ≡ true
          → Ends (if b then record p { context = c; todo = turn image c } else refilled_by image (record p { context = c }) []).context
      by true h = absurd (false≢true (sym (turn-kept image (λ todo. says_done todo ≡ false) refl refl (instruction_at image c.place)) ∙ h))
      by false h = next-ends c c.pending refl h
  take-ends p c (Some w) h = by (filled-ends (resumed image c w) [] h)
    where
      by : (says_done [] ≡ true) ⊎ Ends (resumed image c w) → Ends (resumed image c w)
      by (inl none) = absurd (false≢true none)
      by (inr ends) = ends

  -- the word of the thread was read, and showed it doomed
  abbrev pub Read : FineStep → Todo → Type 0
  Read e (Todo.show q rest) = (is_word_read e.act ≡ true) × ((thread_in e.word).doomed ≡ true)
  Read e q = ⊥

  -- an own part of the same thread, with the same steps left
  pub record AsBefore (c d : Context) : Type 0 where
    pub thread : c.thread ≡ d.thread
    pub pending : c.pending ≡ d.pending
    pub ended : c.ended ≡ d.ended

  as-before : {c d : Context} → c ≡ d → AsBefore c d
  as-before same = record { thread = ap (λ (c : Context). c.thread) same; pending = ap (λ (c : Context). c.pending) same; ended = ap (λ (c : Context). c.ended) same }

  -- what is known where a list says so after a step
  abbrev pub Done : Processor → FineStep → Todo → Todos → Type 0
  Done p e q todo =
      Read e q ⊎ (((says_done todo ≡ true) × AsBefore (goes_on_by image p e (q ∷ todo)).context p.context) ⊎ Ends (goes_on_by image p e (q ∷ todo)).context)

  still : (p : Processor) (e : FineStep) (q : Todo) (todo : Todos) → (goes_on_by image p e (q ∷ todo)).context ≡ p.context → says_done todo ≡ true → Done p e q todo
  still p e q todo same h = inr (inl (h, as-before same))

  refilled : (p : Processor) (e : FineStep) (q : Todo) (todo left : Todos) → Same todo left → (goes_on_by image p e (q ∷ todo)).context ≡ p.context → says_done (filled_up image p.context left) ≡ true
      → Done p e q todo
  refilled p e q todo left kept same h = by (filled-ends p.context left h)
    where
      by : (says_done left ≡ true) ⊎ Ends p.context → Done p e q todo
      by (inl was) = inr (inl (sym kept ∙ was, as-before same))
      by (inr ends) = inr (inr (subst Ends (sym same) ends))

  away-doomed : (doomed : Bool) → says_done (put_away doomed) ≡ true → doomed ≡ true
  away-doomed true h = refl
  away-doomed false h = absurd (false≢true h)

  show-done : (p : Processor) (e : FineStep) (q : Pending) (rest : Steps) (todo : Todos) → todo ≡ behind_shown image p.context q → (b : Bool) → is_word_read e.act ≡ b
      → says_done (if b then record p { todo = put_away (thread_in e.word).doomed } else after_show image p e (shown_step image q e.act) rest todo).todo ≡ true → Done p e (Todo.show q rest) todo
  show-done p e q rest todo behind true read h = inl (read, away-doomed (thread_in e.word).doomed h)
  show-done p e q rest todo behind false read h =
      let made = shown_step image q e.act in
      let c = continues image p.context 0 made rest (act_in e.act) e.moved in
      let there = waits_behind image made e todo in
      let left = filled_up image c there in
      by (filled-ends c there (sym (looks-kept image (Same left) (errand left) (λ x z k. k) p.context made e (behind_step image p.context made e.moved left)
      (behind-kept image (Same left) (errand left) (λ x z k. k) p.context made e.moved left refl)) ∙ h))
    where
      none : says_done (waits_behind image (shown_step image q e.act) e todo) ≡ false
      none = rereads-done (answer_in (act_in e.act)) (noted_cell image (shown_step image q e.act ∷ [])) todo ∙ (ap says_done behind ∙ shown-none p.context q)

      by : (says_done (waits_behind image (shown_step image q e.act) e todo) ≡ true) ⊎ Ends (continues image p.context 0 (shown_step image q e.act) rest (act_in e.act) e.moved)
          → Done p e (Todo.show q rest) todo
      by (inl was) = absurd (false≢true (sym none ∙ was))
      by (inr ends) =
          inr (inr (subst (λ b. Ends (if b then record p { todo = put_away (thread_in e.word).doomed } else after_show image p e (shown_step image q e.act) rest todo).context) (sym read) ends))

  pub goes-done : (p : Processor) (e : FineStep) (q : Todo) (todo : Todos) → Fits image p.context (q ∷ todo) → says_done (goes_on_by image p e (q ∷ todo)).todo ≡ true → Done p e q todo
  goes-done p e (Todo.show q rest) todo fits h = show-done p e q rest todo fits.1 (is_word_read e.act) refl h
  goes-done p e Todo.let_go todo fits h = refilled p e Todo.let_go todo todo refl refl h
  goes-done p e (Todo.read_claim d) todo fits h =
      still p e (Todo.read_claim d) todo (claim-context image p e d todo) (sym (claim-kept image (Same todo) (λ z k. k) p e d todo (λ x at. refl) refl) ∙ h)
  goes-done p e (Todo.read_done d) todo fits h = refilled p e (Todo.read_done d) todo todo refl refl h
  goes-done p e (Todo.end_call x) todo fits h = refilled p e (Todo.end_call x) todo todo refl refl h
  goes-done p e (Todo.wake who told) todo fits h = refilled p e (Todo.wake who told) todo todo refl refl h
  goes-done p e (Todo.add c) todo fits h = refilled p e (Todo.add c) todo todo refl refl h
  goes-done p e (Todo.recycle x) todo fits h = refilled p e (Todo.recycle x) todo todo refl refl h
  goes-done p e (Todo.settle deadline mark) todo fits h = refilled p e (Todo.settle deadline mark) todo todo refl refl h
  goes-done p e (Todo.tell_cut who) todo fits h = refilled p e (Todo.tell_cut who) todo todo refl refl h
  goes-done p e (Todo.reread site) todo fits h =
      let w = thread_in e.word in
      let q = Todo.look p.context.thread site w.number in
      refilled p e (Todo.reread site) todo (if w.aborted then q ∷ todo else todo) (either image (Same todo) w.aborted q todo (λ b k. k) refl) refl h
  goes-done p e (Todo.look who site before) todo fits h =
      refilled p e (Todo.look who site before) todo (if is_void e.act then todo else Todo.tell_cut who ∷ todo) (unless image (Same todo) (is_void e.act) (Todo.tell_cut who) todo (λ b k. k) refl) refl h
  goes-done p e (Todo.rouse who) todo fits h =
      let q = Todo.add (context_in e.moved) in
      refilled p e (Todo.rouse who) todo (if is_void e.act then todo else q ∷ todo) (unless image (Same todo) (is_void e.act) q todo (λ b k. k) refl) refl h
  goes-done p e (Todo.note site) todo fits h = inr (inl (h, record { thread = refl; pending = refl; ended = refl }))
  goes-done p e Todo.sleep todo fits h = inr (inr (refl, refl))
  goes-done p e Todo.reread_asleep todo fits h =
      still p e Todo.reread_asleep todo refl (sym (either image (Same todo) (is_awake (thread_in e.word)) (Todo.rouse p.context.thread) todo (λ b k. k) refl) ∙ h)
  goes-done p e Todo.leave todo fits h = still p e Todo.leave todo refl (sym (waked-kept image (Same todo) (errand todo) (told_all (woken_in (act_in e.act))) todo refl) ∙ h)
  goes-done p e (Todo.handle deadline mark) todo fits h = still p e (Todo.handle deadline mark) todo refl (sym (by (is_void e.act)) ∙ h)
    where
      by : (b : Bool) → Same todo (if b then todo else wakes (told_marked mark (woken_in (act_in e.act))) todo)
      by true = refl
      by false = waked-kept image (Same todo) (errand todo) (told_marked mark (woken_in (act_in e.act))) todo refl
  goes-done p e (Todo.pass who x) todo fits h = by (filled-ends p.context (passes who (but (own_row image p.context.thread) (x + 1)) todo) h)
    where
      by : (says_done (passes who (but (own_row image p.context.thread) (x + 1)) todo) ≡ true) ⊎ Ends p.context → Done p e (Todo.pass who x) todo
      by (inl was) =
          absurd (false≢true (sym (passes-done who (but (own_row image p.context.thread) (x + 1)) todo ∙ (ap says_done fits.0.behind ∙ fine-none p.context fits.0.step fits.0.rest)) ∙ was))
      by (inr ends) = inr (inr ends)
  goes-done p e (Todo.drop x) todo fits h = by (filled-ends (dropped_at image p.context x (is_visit e.act)) (drops (x + 1) todo) h)
    where
      by : (says_done (drops (x + 1) todo) ≡ true) ⊎ Ends (dropped_at image p.context x (is_visit e.act)) → Done p e (Todo.drop x) todo
      by (inl was) = absurd (false≢true (sym (drops-done (x + 1) todo ∙ (ap says_done fits.behind ∙ fine-none p.context fits.step fits.rest)) ∙ was))
      by (inr ends) = inr (inr ends)
  goes-done p e (Todo.clean_pair who x) todo fits h = still p e (Todo.clean_pair who x) todo refl (sym (either image (Same todo) (nat_lt (x + 1) ROWS) (Todo.clean_pair who (x + 1)) todo (λ few k. k) refl) ∙ h)
  goes-done p e Todo.park todo fits h = absurd (false≢true h)
  goes-done p e Todo.done todo fits h = absurd (false≢true h)
  goes-done p e Todo.paid todo fits h = absurd (false≢true h)
  goes-done p e q todo fits h = still p e q todo refl h
