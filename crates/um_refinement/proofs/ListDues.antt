-- How far a processor has visited the rows for its thread, after a step: only its visits change that, and the expansion of the thread's next
-- step where none was left.
use Rattle.um_refinement.proofs.Words.{◌≡◌, ◌⊎◌, inl, inr, ℕ, ◌+◌, ◌≤◌, Bool, true, false, [], ◌∷◌, ◌++◌, Option, Some, None, refl, sym, ap, arith, if◌then◌else◌, nat_lt, list_all, and_parts, ltb-true, true≢false, nat_tests, Image, ROWS, thread_of_row, Pending, Steps, Context, behind_step, filled_up, goes_on_by, row_number, with_cleaned, Todo, Todos, cleaning_of, drops, fine_steps, next_steps, passes, is_cleaning_todo, Processor, Exchange, FineStep, Behind, names_row, visited, false≢true, Answer, answer_in, act_in, thread_in, context_in, woken_in, wakes}
use Rattle.um_words.specs.Threads.{is_awake}
use Rattle.um_fine.specs.Answers.{is_void}
use Rattle.um_fine.specs.Follows.{looks_behind, rereads, told_all, told_marked, waits_behind}
use Rattle.um_fine.specs.Places.{noted_cell}
use Rattle.um_refinement.proofs.ListGrowth.{behind-kept, claim-kept, cleaning-kept, either, errands-kept, forms-kept, is_errand, waked-kept}

-- the steps of a list that say how far the visits are, or may be its thread's event
abbrev pub is_own : Todo → Bool
is_own (Todo.show q rest) = true
is_own (Todo.pass who x) = true
is_own (Todo.drop x) = true
is_own q = false

-- the steps named are rows, so a visit is of one
pub visited-bounded : (todo : Todos) → list_all names_row todo ≡ true → visited todo ≤ ROWS
visited-bounded [] h = omega arith
visited-bounded (Todo.pass who x ∷ todo) h = let l = ltb-true x ROWS (and_parts (nat_lt x ROWS) (list_all names_row todo) h).0 in omega (arith, l)
visited-bounded (Todo.drop x ∷ todo) h = let l = ltb-true x ROWS (and_parts (nat_lt x ROWS) (list_all names_row todo) h).0 in omega (arith, l)
visited-bounded (q ∷ todo) h = visited-bounded todo (and_parts (names_row q) (list_all names_row todo) h).1

pub skips-own : (q : Todo) (todo : Todos) → is_own q ≡ false → visited (q ∷ todo) ≡ visited todo
skips-own (Todo.pass who x) todo h = absurd (true≢false h)
skips-own (Todo.drop x) todo h = absurd (true≢false h)
skips-own q todo h = refl

not-below : (x : ℕ) → nat_lt x ROWS ≡ false → ROWS ≤ x
not-below x h = grind (arith, nat_tests)

module _ (image : Image) where
  abbrev Same : Todos → Todos → Type 0
  Same old new = visited new ≡ visited old

  pub fine-visited : (c : Context) (q : Pending) (rest : Steps) → visited (fine_steps image c q rest) ≡ ROWS
  fine-visited = forms-kept image (λ todo. visited todo ≡ ROWS)
      (record {
        note = λ site todo h. h;
        act = λ q rest. refl;
        settles = λ q rest deadline mark. refl;
        access = λ q rest. refl;
        access_settles = λ q rest deadline mark. refl;
        look = λ x todo h. h;
        owe = λ q rest. refl;
        leave = λ a rest. refl;
        edit = λ d q rest. refl;
        move = λ d who rest. refl;
        start = λ who q rest c. refl;
      })

  -- the visits from a row on
  from-visited : (q : Todo) (x : ℕ) (todo : Todos) → visited (q ∷ todo) ≡ x → visited todo ≡ ROWS
      → ((x ≤ ROWS) → visited (if nat_lt x ROWS then q ∷ todo else todo) ≡ x) × (visited (if nat_lt x ROWS then q ∷ todo else todo) ≤ x)
  from-visited q x todo at over = by (nat_lt x ROWS) refl
    where
      by : (b : Bool) → nat_lt x ROWS ≡ b → ((x ≤ ROWS) → visited (if b then q ∷ todo else todo) ≡ x) × (visited (if b then q ∷ todo else todo) ≤ x)
      by true k = (λ l. at, omega (arith, at))
      by false k = let past = not-below x k in (λ l. omega (arith, over, past, l), omega (arith, over, past))

  pub passes-visited : (who x : ℕ) (todo : Todos) → visited todo ≡ ROWS → ((x ≤ ROWS) → visited (passes who x todo) ≡ x) × (visited (passes who x todo) ≤ x)
  passes-visited who x todo over = from-visited (Todo.pass who x) x todo refl over

  pub drops-visited : (x : ℕ) (todo : Todos) → visited todo ≡ ROWS → ((x ≤ ROWS) → visited (drops x todo) ≡ x) × (visited (drops x todo) ≤ x)
  drops-visited x todo over = from-visited (Todo.drop x) x todo refl over

  errand : (old : Todos) (q : Todo) (todo : Todos) → is_errand q ≡ true → Same old todo → Same old (q ∷ todo)
  errand old (Todo.pass who x) todo on h = absurd (false≢true on)
  errand old (Todo.drop x) todo on h = absurd (false≢true on)
  errand old q todo on h = h

  pub behind-visited : (c : Context) (q : Pending) (moved : Exchange) (todo : Todos) → visited (behind_step image c q moved todo) ≡ visited todo
  behind-visited c q moved todo = behind-kept image (Same todo) (errand todo) (λ x z h. h) c q moved todo refl

  pub looks-visited : (c : Context) (q : Pending) (e : FineStep) (todo : Todos) → visited (looks_behind image c q e todo) ≡ visited todo
  looks-visited c q e todo = errands-kept image (Same todo) (errand todo) c q e todo refl

  append-visited : (todo : Todos) (site : ℕ) → visited (todo ++ Todo.reread site ∷ []) ≡ visited todo
  append-visited [] site = refl
  append-visited (Todo.pass who x ∷ todo) site = refl
  append-visited (Todo.drop x ∷ todo) site = refl
  append-visited (q ∷ todo) site = append-visited todo site

  rereads-visited : (answer : Answer) (site : Option ℕ) (todo : Todos) → visited (rereads image answer site todo) ≡ visited todo
  rereads-visited Answer.Wait (Some site) todo = append-visited todo site
  rereads-visited Answer.Wait None todo = refl
  rereads-visited (Answer.Now reply) site todo = refl

  pub waits-visited : (q : Pending) (e : FineStep) (todo : Todos) → visited (waits_behind image q e todo) ≡ visited todo
  waits-visited q e todo = rereads-visited (answer_in (act_in e.act)) (noted_cell image (q ∷ [])) todo

  -- where no step was left, the thread's next step is expanded
  abbrev pub Filled : Context → Todos → Todos → Type 0
  Filled c todo left = (visited left ≡ visited todo) ⊎ ((todo ≡ []) × (left ≡ next_steps image c c.pending))

  pub filled-visited : (c : Context) (todo : Todos) → Filled c todo (filled_up image c todo)
  filled-visited c [] = inr (refl, refl)
  filled-visited c (q ∷ todo) = inl refl

  -- any other step leaves how far they are
  pub goes-visited : (p : Processor) (e : FineStep) (q : Todo) (todo : Todos) → is_own q ≡ false → Behind image q todo → Filled p.context todo (goes_on_by image p e (q ∷ todo)).todo
  goes-visited p e (Todo.show q rest) todo free h = absurd (true≢false free)
  goes-visited p e (Todo.pass who x) todo free h = absurd (true≢false free)
  goes-visited p e (Todo.drop x) todo free h = absurd (true≢false free)
  goes-visited p e Todo.let_go todo free h = filled-visited p.context todo
  goes-visited p e (Todo.read_claim d) todo free h = inl (claim-kept image (Same todo) (λ z k. k) p e d todo (λ x at. refl) refl)
  goes-visited p e (Todo.read_done d) todo free h = filled-visited p.context todo
  goes-visited p e (Todo.end_call x) todo free h = filled-visited p.context todo
  goes-visited p e (Todo.wake u told) todo free h = filled-visited p.context todo
  goes-visited p e (Todo.add c) todo free h = filled-visited p.context todo
  goes-visited p e (Todo.settle deadline mark) todo free h = filled-visited p.context todo
  goes-visited p e (Todo.reread site) todo free h = by (thread_in e.word).aborted
    where
      by : (b : Bool) → Filled p.context todo (filled_up image p.context (if b then Todo.look p.context.thread site (thread_in e.word).number ∷ todo else todo))
      by true = inl refl
      by false = filled-visited p.context todo
  goes-visited p e (Todo.look who site before) todo free h = by (is_void e.act)
    where
      by : (b : Bool) → Filled p.context todo (filled_up image p.context (if b then todo else Todo.tell_cut who ∷ todo))
      by true = filled-visited p.context todo
      by false = inl refl
  goes-visited p e (Todo.tell_cut who) todo free h = filled-visited p.context todo
  goes-visited p e (Todo.rouse who) todo free h = by (is_void e.act)
    where
      by : (b : Bool) → Filled p.context todo (filled_up image p.context (if b then todo else Todo.add (context_in e.moved) ∷ todo))
      by true = filled-visited p.context todo
      by false = inl refl
  goes-visited p e Todo.reread_asleep todo free h =
      inl (either image (Same todo) (is_awake (thread_in e.word)) (Todo.rouse p.context.thread) todo (λ b k. k) refl)
  goes-visited p e Todo.leave todo free h = inl (waked-kept image (Same todo) (errand todo) (told_all (woken_in (act_in e.act))) todo refl)
  goes-visited p e (Todo.handle deadline mark) todo free h = inl (by (is_void e.act))
    where
      by : (b : Bool) → Same todo (if b then todo else wakes (told_marked mark (woken_in (act_in e.act))) todo)
      by true = refl
      by false = waked-kept image (Same todo) (errand todo) (told_marked mark (woken_in (act_in e.act))) todo refl
  goes-visited p e (Todo.clean_pair u x) todo free h = inl (either image (Same todo) (nat_lt (x + 1) ROWS) (Todo.clean_pair u (x + 1)) todo (λ few k. k) refl)
  goes-visited p e (Todo.recycle x) todo free h = filled-visited p.context todo
  goes-visited p e Todo.park todo free h = inl (sym (ap visited h))
  goes-visited p e Todo.done todo free h = inl (sym (ap visited h))
  goes-visited p e Todo.paid todo free h = inl (sym (ap visited h))
  goes-visited p e q todo free h = inl refl

  -- The cleaning of an object begins.

  first-visited : (x : ℕ) (o : Option ℕ) (todo : Todos) → thread_of_row image x ≡ o → Same todo (cleaning_of x o ++ todo)
  first-visited x None todo at = refl
  first-visited x (Some who) todo at = refl

  later-visited : (q : Todo) (old new : Todos) → is_cleaning_todo q ≡ true → Same old new → Same (q ∷ old) (q ∷ new)
  later-visited (Todo.pass who x) old new c h = refl
  later-visited (Todo.drop x) old new c h = refl
  later-visited q old new c h = h

  pub with-cleaned-visited : (p : Processor) (e : FineStep) (b : Bool) → visited (with_cleaned image p e b).todo ≡ visited p.todo
  with-cleaned-visited p e true = cleaning-kept image Same (row_number e.site) (first-visited (row_number e.site)) later-visited p.todo
  with-cleaned-visited p e false = refl
