-- How often a list says that a thread was cut: once more after a look that finds it, and once less after it gets ready.
use Rattle.um_refinement.proofs.Words.{◌≡◌, ℕ, ◌+◌, Bool, true, false, List, [], ◌∷◌, ◌++◌, Option, Some, None, refl, sym, ap, ◌∙◌, arith, ◌==◌, ◌&&◌, not, nat_lt, if◌then◌else◌, Told, Image, ROWS, ThreadIx, ThreadWord, own_row, thread_of_row, Pending, Steps, row_named, act_in, context_in, is_visit, outcome_in, thread_in, woken_in, begins_cleaning, Context, behind_step, dropped_at, end_calls, filled_up, goes_on_by, p_next, row_number, wakes, with_cleaned, Todo, Todos, cleaning_of, end_of_turn, fine_steps, next_steps, is_cleaning_todo, Processor, FineStep, Behind, counted, names_row, one_if, false≢true}
use Rattle.um_words.specs.Threads.{is_awake}
use Rattle.um_fine.specs.Answers.{is_done_in, is_void}
use Rattle.um_fine.specs.Follows.{looks_behind, looks_for, shown_step, told_all, told_marked}
use Rattle.um_fine.specs.Places.{put_away}
use Rattle.um_refinement.specs.Frames.{IsActOver, access_alone, access_settled, act_alone, act_settled}
use Rattle.um_refinement.specs.Lists.{is_cut_told}
use Rattle.um_refinement.proofs.ListGrowth.{ReadsLast, acted-kept, claim-kept, cleaning-kept, drop-kept, either, forms-kept, next-kept, pass-kept, show-kept, take-kept, turn-kept, visits_row}

module _ (image : Image) (t : ℕ) where
  abbrev pub Cuts : Todos → ℕ
  Cuts todo = counted (is_cut_told t) todo

  abbrev Is : ℕ → Todos → Type 0
  Is n todo = Cuts todo ≡ n

  abbrev All : Context → Type 0
  All c = Unit {0}

  fine-none : (c : Context) (q : Pending) (rest : Steps) → Cuts (fine_steps image c q rest) ≡ 0
  fine-none = forms-kept image (Is 0)
      (record {
        note = λ site todo h. h;
        act = λ q rest. refl;
        settles = λ q rest deadline mark. refl;
        access = λ q rest. refl;
        access_settles = λ q rest deadline mark. refl;
        look = λ x todo h. h;
        owe = λ q rest. refl;
        leave = λ a rest. refl;
        edit = λ d q rest. refl;
        move = λ d who rest. refl;
        start = λ who q rest c. refl;
      })

  put : (n : ℕ) (q : Todo) (todo : Todos) → visits_row q ≡ true → names_row q ≡ true → Is n todo → Is n (q ∷ todo)
  put n (Todo.tell_cut who) todo visit few h = absurd (false≢true visit)
  put n q todo visit few h = h

  expands : (n : ℕ) (c : Context) → All c → Is n [] → Is n (next_steps image c c.pending)
  expands n c of h = next-kept image (Is 0) (put 0) fine-none (λ b. elim b as (λ b. Is 0 (end_of_turn image b)) [ true ↦ refl | false ↦ refl ]) c c.pending ∙ h

  filled-cuts : (c : Context) (todo : Todos) → Cuts (filled_up image c todo) ≡ Cuts todo
  filled-cuts c [] = expands 0 c tt refl
  filled-cuts c (q ∷ todo) = refl

  wakes-cuts : (ws : List (ThreadIx × Told)) (todo : Todos) → Cuts (wakes ws todo) ≡ Cuts todo
  wakes-cuts [] todo = refl
  wakes-cuts (w ∷ ws) todo = wakes-cuts ws todo

  ends-cuts : (xs : List ℕ) (todo : Todos) → Cuts (end_calls xs todo) ≡ Cuts todo
  ends-cuts [] todo = refl
  ends-cuts (x ∷ xs) todo = ends-cuts xs todo

  behind-cuts : (c : Context) (q : Pending) (e : FineStep) (todo : Todos) → Cuts (behind_step image c q e.moved todo) ≡ Cuts todo
  behind-cuts c (Pending.Work a ask) e todo = wakes-cuts (outcome_in e.moved).woken todo
  behind-cuts c Pending.Exit e todo = ends-cuts c.claims todo
  behind-cuts c Pending.Killed e todo = ends-cuts c.claims todo
  behind-cuts c (Pending.Answer reply to) e todo = ends-cuts c.claims todo
  behind-cuts c (Pending.Fatal reason cause) e todo = ends-cuts c.claims todo
  behind-cuts c (Pending.ClearInit a) e todo =
      elim (row_named image a == own_row image c.thread) as (λ b. Cuts (if b then Todo.end_call (own_row image c.thread) ∷ todo else todo) ≡ Cuts todo) [ true ↦ refl | false ↦ refl ]
  behind-cuts c q e todo = refl

  look-cuts : (who : ℕ) (w : ThreadWord) (note : Option ℕ) (todo : Todos)
      → Cuts (elim note as (λ _. Todos) [ Some site ↦ Todo.look who site w.number ∷ todo | None ↦ Todo.rouse who ∷ todo ]) ≡ Cuts todo
  look-cuts who w None todo = refl
  look-cuts who w (Some site) todo = refl

  looks-cuts : (c : Context) (q : Pending) (e : FineStep) (todo : Todos) → Cuts (looks_behind image c q e todo) ≡ Cuts todo
  looks-cuts c (Pending.Abort who) e todo = by (is_done_in (act_in e.act) && not (who.0 == c.thread))
    where
      by : (b : Bool) → Cuts (if b then looks_for image who.0 (thread_in e.word) todo else todo) ≡ Cuts todo
      by true = look-cuts who.0 (thread_in e.word) (thread_in e.word).note todo
      by false = refl
  looks-cuts c (Pending.Continue who) e todo =
      elim (is_done_in (act_in e.act)) as (λ b. Cuts (if b then Todo.rouse who.0 ∷ todo else todo) ≡ Cuts todo) [ true ↦ refl | false ↦ refl ]
  looks-cuts c (Pending.FutexWake a all) e todo = wakes-cuts (told_all (woken_in (act_in e.act))) todo
  looks-cuts c q e todo = refl

  away-cuts : (doomed : Bool) → Cuts (put_away doomed) ≡ 0
  away-cuts true = refl
  away-cuts false = refl

  waited-cuts : (n site : ℕ) (todo : Todos) → IsActOver todo → Is n todo → Is n (todo ++ Todo.reread site ∷ [])
  waited-cuts n site _ act_alone h = h
  waited-cuts n site _ act_settled h = h
  waited-cuts n site _ access_alone h = h
  waited-cuts n site _ access_settled h = h

  -- a look that finds the thread
  abbrev pub found : FineStep → Todo → ℕ
  found e (Todo.look who site before) = if is_void e.act then 0 else one_if (who == t)
  found e q = 0

  goes-cuts : (p : Processor) (e : FineStep) (q : Todo) (todo : Todos) → Behind image q todo → ReadsLast e q todo → Cuts (goes_on_by image p e (q ∷ todo)).todo ≡ Cuts todo + found e q
  goes-cuts p e (Todo.show q rest) todo h last =
      let n = Cuts todo in
      let same = show-kept image (Is n) All (expands n) p e q rest todo (Is n) tt (waited-cuts n) h
      (λ z k. let made = shown_step image q e.act in looks-cuts p.context made e (behind_step image p.context made e.moved z) ∙ (behind-cuts p.context made e z ∙ k))
      (λ read. away-cuts (thread_in e.word).doomed ∙ sym (ap (counted (is_cut_told t)) (last read))) refl in omega (arith, same)
  goes-cuts p e Todo.let_go todo h last = let same = filled-cuts p.context todo in omega (arith, same)
  goes-cuts p e (Todo.read_claim d) todo h last = let same = claim-kept image (Is (Cuts todo)) (λ z k. k) p e d todo (λ x some. refl) refl in omega (arith, same)
  goes-cuts p e (Todo.read_done d) todo h last = let same = filled-cuts p.context todo in omega (arith, same)
  goes-cuts p e (Todo.end_call x) todo h last = let same = filled-cuts p.context todo in omega (arith, same)
  goes-cuts p e (Todo.wake who told) todo h last = let same = filled-cuts p.context todo in omega (arith, same)
  goes-cuts p e (Todo.add c) todo h last = let same = filled-cuts p.context todo in omega (arith, same)
  goes-cuts p e (Todo.recycle x) todo h last = let same = filled-cuts p.context todo in omega (arith, same)
  goes-cuts p e (Todo.settle deadline mark) todo h last = let same = filled-cuts p.context todo in omega (arith, same)
  goes-cuts p e (Todo.tell_cut who) todo h last = let same = filled-cuts p.context todo in omega (arith, same)
  goes-cuts p e (Todo.reread site) todo h last =
      let w = thread_in e.word in
      let q = Todo.look p.context.thread site w.number in
      let same = filled-cuts p.context (if w.aborted then q ∷ todo else todo) ∙ either image (Is (Cuts todo)) w.aborted q todo (λ b k. k) refl in omega (arith, same)
  goes-cuts p e (Todo.look who site before) todo h last = filled-cuts p.context (if is_void e.act then todo else Todo.tell_cut who ∷ todo) ∙ by (is_void e.act)
    where
      by : (b : Bool) → Cuts (if b then todo else Todo.tell_cut who ∷ todo) ≡ Cuts todo + (if b then 0 else one_if (who == t))
      by true = omega arith
      by false = elim (who == t) as (λ b. (if b then Cuts todo + 1 else Cuts todo) ≡ Cuts todo + one_if b) [ true ↦ refl | false ↦ omega arith ]
  goes-cuts p e (Todo.rouse who) todo h last =
      let same = filled-cuts p.context (if is_void e.act then todo else Todo.add (context_in e.moved) ∷ todo) ∙ added (is_void e.act) in omega (arith, same)
    where
      added : (b : Bool) → Cuts (if b then todo else Todo.add (context_in e.moved) ∷ todo) ≡ Cuts todo
      added true = refl
      added false = refl
  goes-cuts p e Todo.reread_asleep todo h last =
      let same = either image (Is (Cuts todo)) (is_awake (thread_in e.word)) (Todo.rouse p.context.thread) todo (λ b k. k) refl in omega (arith, same)
  goes-cuts p e Todo.leave todo h last = let same = wakes-cuts (told_all (woken_in (act_in e.act))) todo in omega (arith, same)
  goes-cuts p e (Todo.handle deadline mark) todo h last = let same = handled (is_void e.act) in omega (arith, same)
    where
      handled : (b : Bool) → Cuts (if b then todo else wakes (told_marked mark (woken_in (act_in e.act))) todo) ≡ Cuts todo
      handled true = refl
      handled false = wakes-cuts (told_marked mark (woken_in (act_in e.act))) todo
  goes-cuts p e (Todo.pass who x) todo h last =
      let same = pass-kept image (Is (Cuts todo)) All (expands (Cuts todo)) p who x todo (λ y few k. k) tt refl in omega (arith, same)
  goes-cuts p e (Todo.drop x) todo h last =
      let same = drop-kept image (Is (Cuts todo)) All (expands (Cuts todo)) p (dropped_at image p.context x (is_visit e.act)) x todo (λ y few k. k) tt refl in omega (arith, same)
  goes-cuts p e (Todo.clean_pair who x) todo h last =
      let same = either image (Is (Cuts todo)) (nat_lt (x + 1) ROWS) (Todo.clean_pair who (x + 1)) todo (λ few k. k) refl in omega (arith, same)
  goes-cuts p e Todo.park todo h last = let none = ap (counted (is_cut_told t)) h in omega (arith, none)
  goes-cuts p e Todo.done todo h last = let none = ap (counted (is_cut_told t)) h in omega (arith, none)
  goes-cuts p e Todo.paid todo h last = let none = ap (counted (is_cut_told t)) h in omega (arith, none)
  goes-cuts p e q todo h last = omega arith

  with-cleaned-cuts : (p : Processor) (e : FineStep) (b : Bool) → Cuts (with_cleaned image p e b).todo ≡ Cuts p.todo
  with-cleaned-cuts p e true = cleaning-kept image (λ old new. Cuts new ≡ Cuts old) (row_number e.site) first later p.todo
    where
      first : (o : Option ℕ) (todo : Todos) → thread_of_row image (row_number e.site) ≡ o → Cuts (cleaning_of (row_number e.site) o ++ todo) ≡ Cuts todo
      first None todo at = refl
      first (Some who) todo at = refl

      later : (q : Todo) (old new : Todos) → is_cleaning_todo q ≡ true → Cuts new ≡ Cuts old → Cuts (q ∷ new) ≡ Cuts (q ∷ old)
      later (Todo.tell_cut who) old new c h = absurd (false≢true c)
      later q old new c h = h
  with-cleaned-cuts p e false = refl

  next-cleaned : (p : Processor) (e : FineStep) → Cuts (p_next image p e).todo ≡ Cuts (goes_on_by image p e p.todo).todo
  next-cleaned p e =
      let q = with_cleaned image (goes_on_by image p e p.todo) e (begins_cleaning e) in
      acted-kept image (λ todo. Cuts todo ≡ Cuts q.todo) q e.act refl ∙ with-cleaned-cuts (goes_on_by image p e p.todo) e (begins_cleaning e)

  pub next-cuts : (p : Processor) (e : FineStep) (q : Todo) (todo : Todos) → p.todo ≡ q ∷ todo → Behind image q todo → ReadsLast e q todo → Cuts (p_next image p e).todo ≡ Cuts todo + found e q
  next-cuts p e q todo at h last = next-cleaned p e ∙ (ap (λ (z : Todos). Cuts (goes_on_by image p e z).todo) at ∙ goes-cuts p e q todo h last)

  pub takes-cuts : (p : Processor) (e : FineStep) → p.todo ≡ [] → Cuts (p_next image p e).todo ≡ 0
  takes-cuts p e at =
      next-cleaned p e
      ∙ (ap (λ (z : Todos). Cuts (goes_on_by image p e z).todo) at
      ∙ take-kept image (Is 0) All (expands 0) p (turn-kept image (Is 0) refl refl) (λ deadline mark. refl) e.moved tt refl (ap (counted (is_cut_told t)) at))
