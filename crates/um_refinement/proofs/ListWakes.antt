-- The wakes on a processor's list: an event that wakes puts them there, and each goes by its step.
use Rattle.um_refinement.proofs.Words.{◌≡◌, ℕ, ◌+◌, Bool, true, false, List, [], ◌∷◌, ◌++◌, map, Option, Some, None, refl, sym, ap, ◌∙◌, ◌==◌, ◌&&◌, not, nat_lt, if◌then◌else◌, Told, Image, ROWS, ThreadIx, ThreadWord, own_row, thread_of_row, Pending, Steps, row_named, act_in, context_in, is_visit, is_word_read, outcome_in, thread_in, woken_in, begins_cleaning, Context, behind_step, dropped_at, end_calls, filled_up, goes_on_by, p_next, row_number, wakes, with_cleaned, Todo, Todos, cleaning_of, end_of_turn, fine_steps, next_steps, is_cleaning_todo, Processor, FineStep, Behind, counted, is_wake, wake_of, names_row, false≢true}
use Rattle.um_words.specs.Threads.{is_awake}
use Rattle.um_fine.specs.Answers.{is_done_in, is_killed, is_void}
use Rattle.um_fine.specs.Follows.{looks_behind, looks_for, shown_step, told_all, told_marked}
use Rattle.um_fine.specs.Places.{put_away}
use Rattle.um_refinement.specs.Frames.{IsActOver, access_alone, access_settled, act_alone, act_settled}
use Rattle.um_refinement.proofs.ListGrowth.{acted-kept, claim-kept, cleaning-kept, drop-kept, either, forms-kept, next-kept, pass-kept, show-kept, take-kept, turn-kept, unless, visits_row}

abbrev pub Wakes : Type 0
Wakes = List (ℕ × Told)

abbrev pub wakers : Todos → Wakes
wakers [] = []
wakers (Todo.wake who told ∷ todo) = (who, told) ∷ wakers todo
wakers (q ∷ todo) = wakers todo

-- what is told to a thread first, and how often
abbrev pub told_first : ℕ → Wakes → Option Told
told_first t [] = None
told_first t (w ∷ ws) = if w.0 == t then Some w.1 else told_first t ws

abbrev pub told_times : ℕ → Wakes → ℕ
told_times t [] = 0
told_times t (w ∷ ws) = if w.0 == t then told_times t ws + 1 else told_times t ws

pub wake-first : (t : ℕ) (todo : Todos) → wake_of t todo ≡ told_first t (wakers todo)
wake-first t [] = refl
wake-first t (Todo.wake who told ∷ todo) = ap (λ (o : Option Told). if who == t then Some told else o) (wake-first t todo)
wake-first t (q ∷ todo) = wake-first t todo

pub wake-times : (t : ℕ) (todo : Todos) → counted (is_wake t) todo ≡ told_times t (wakers todo)
wake-times t [] = refl
wake-times t (Todo.wake who told ∷ todo) = ap (λ n. if who == t then n + 1 else n) (wake-times t todo)
wake-times t (q ∷ todo) = wake-times t todo

abbrev pub named : List (ThreadIx × Told) → Wakes
named ws = map (λ (w : ThreadIx × Told). (w.0.0, w.1)) ws

-- whom an event wakes: an act on an object or on a futex, the end of a thread, and a mark
abbrev pub woken_by : FineStep → Todo → Wakes
woken_by e (Todo.show (Pending.Work a ask) rest) = named (outcome_in e.moved).woken
woken_by e (Todo.show (Pending.FutexWake a all) rest) = named (told_all (woken_in (act_in e.act)))
woken_by e Todo.leave = named (told_all (woken_in (act_in e.act)))
woken_by e (Todo.handle deadline mark) = if is_void e.act then [] else named (told_marked mark (woken_in (act_in e.act)))
woken_by e q = []

module _ (image : Image) where
  abbrev Is : Wakes → Todos → Type 0
  Is ws todo = wakers todo ≡ ws

  abbrev All : Context → Type 0
  All c = Unit {0}

  pub fine-none : (c : Context) (q : Pending) (rest : Steps) → wakers (fine_steps image c q rest) ≡ []
  fine-none = forms-kept image (Is [])
      (record {
        note = λ site todo h. h;
        act = λ q rest. refl;
        settles = λ q rest deadline mark. refl;
        access = λ q rest. refl;
        access_settles = λ q rest deadline mark. refl;
        look = λ x todo h. h;
        owe = λ q rest. refl;
        leave = λ a rest. refl;
        edit = λ d q rest. refl;
        move = λ d who rest. refl;
        start = λ who q rest c. refl;
      })

  put : (ws : Wakes) (q : Todo) (todo : Todos) → visits_row q ≡ true → names_row q ≡ true → Is ws todo → Is ws (q ∷ todo)
  put ws (Todo.wake who told) todo visit few h = absurd (false≢true visit)
  put ws q todo visit few h = h

  expands : (ws : Wakes) (c : Context) → All c → Is ws [] → Is ws (next_steps image c c.pending)
  expands ws c of h = next-kept image (Is []) (put []) fine-none (λ b. elim b as (λ b. Is [] (end_of_turn image b)) [ true ↦ refl | false ↦ refl ]) c c.pending ∙ h

  wakes-wakers : (ws : List (ThreadIx × Told)) (todo : Todos) → wakers (wakes ws todo) ≡ named ws ++ wakers todo
  wakes-wakers [] todo = refl
  wakes-wakers (w ∷ ws) todo = ap (λ (l : Wakes). (w.0.0, w.1) ∷ l) (wakes-wakers ws todo)

  end_calls-wakers : (xs : List ℕ) (todo : Todos) → wakers (end_calls xs todo) ≡ wakers todo
  end_calls-wakers [] todo = refl
  end_calls-wakers (x ∷ xs) todo = end_calls-wakers xs todo

  -- those that an act on an object wakes, and those that one on a futex wakes
  abbrev by_object : FineStep → Pending → Wakes
  by_object e (Pending.Work a ask) = named (outcome_in e.moved).woken
  by_object e q = []

  abbrev by_futex : FineStep → Pending → Wakes
  by_futex e (Pending.FutexWake a all) = named (told_all (woken_in (act_in e.act)))
  by_futex e q = []

  behind-wakers : (c : Context) (q : Pending) (e : FineStep) (todo : Todos) → wakers (behind_step image c q e.moved todo) ≡ by_object e q ++ wakers todo
  behind-wakers c (Pending.Work a ask) e todo = wakes-wakers (outcome_in e.moved).woken todo
  behind-wakers c Pending.Exit e todo = end_calls-wakers c.claims todo
  behind-wakers c Pending.Killed e todo = end_calls-wakers c.claims todo
  behind-wakers c (Pending.Answer reply to) e todo = end_calls-wakers c.claims todo
  behind-wakers c (Pending.Fatal reason cause) e todo = end_calls-wakers c.claims todo
  behind-wakers c (Pending.ClearInit a) e todo =
      elim (row_named image a == own_row image c.thread) as (λ b. wakers (if b then Todo.end_call (own_row image c.thread) ∷ todo else todo) ≡ wakers todo) [ true ↦ refl | false ↦ refl ]
  behind-wakers c q e todo = refl

  look-wakers : (who : ℕ) (w : ThreadWord) (note : Option ℕ) (todo : Todos)
      → wakers (elim note as (λ _. Todos) [ Some site ↦ Todo.look who site w.number ∷ todo | None ↦ Todo.rouse who ∷ todo ]) ≡ wakers todo
  look-wakers who w None todo = refl
  look-wakers who w (Some site) todo = refl

  looks-wakers : (c : Context) (q : Pending) (e : FineStep) (todo : Todos) → wakers (looks_behind image c q e todo) ≡ by_futex e q ++ wakers todo
  looks-wakers c (Pending.Abort who) e todo = by (is_done_in (act_in e.act) && not (who.0 == c.thread))
    where
      by : (b : Bool) → wakers (if b then looks_for image who.0 (thread_in e.word) todo else todo) ≡ wakers todo
      by true = look-wakers who.0 (thread_in e.word) (thread_in e.word).note todo
      by false = refl
  looks-wakers c (Pending.Continue who) e todo =
      elim (is_done_in (act_in e.act)) as (λ b. wakers (if b then Todo.rouse who.0 ∷ todo else todo) ≡ wakers todo) [ true ↦ refl | false ↦ refl ]
  looks-wakers c (Pending.FutexWake a all) e todo = wakes-wakers (told_all (woken_in (act_in e.act))) todo
  looks-wakers c q e todo = refl

  both-wakers : (c : Context) (q : Pending) (e : FineStep) (rest : Steps) (todo : Todos)
      → wakers (looks_behind image c q e (behind_step image c q e.moved todo)) ≡ woken_by e (Todo.show q rest) ++ wakers todo
  both-wakers c (Pending.Work a ask) e rest todo = behind-wakers c (Pending.Work a ask) e todo
  both-wakers c (Pending.FutexWake a all) e rest todo = looks-wakers c (Pending.FutexWake a all) e todo
  both-wakers c q e rest todo = looks-wakers c q e (behind_step image c q e.moved todo) ∙ behind-wakers c q e todo

  with-cleaned-wakers : (p : Processor) (e : FineStep) (b : Bool) → wakers (with_cleaned image p e b).todo ≡ wakers p.todo
  with-cleaned-wakers p e true = cleaning-kept image (λ old new. wakers new ≡ wakers old) (row_number e.site) first later p.todo
    where
      first : (o : Option ℕ) (todo : Todos) → thread_of_row image (row_number e.site) ≡ o → wakers (cleaning_of (row_number e.site) o ++ todo) ≡ wakers todo
      first None todo at = refl
      first (Some who) todo at = refl

      later : (q : Todo) (old new : Todos) → is_cleaning_todo q ≡ true → wakers new ≡ wakers old → wakers (q ∷ new) ≡ wakers (q ∷ old)
      later (Todo.wake who told) old new c h = absurd (false≢true c)
      later q old new c h = h
  with-cleaned-wakers p e false = refl

  -- what is known of an event: one that reads the word of its thread, or that kills it, wakes nobody, and the first has nothing behind it
  abbrev pub LastRead : FineStep → Todo → Todos → Type 0
  LastRead e (Todo.show q rest) todo =
      (is_word_read e.act ≡ true → (todo ≡ []) × (woken_by e (Todo.show q rest) ≡ [])) × (is_killed e.act ≡ true → woken_by e (Todo.show q rest) ≡ [])
  LastRead e q todo = Unit {0}

  filled-wakers : (c : Context) (todo : Todos) → wakers (filled_up image c todo) ≡ wakers todo
  filled-wakers c [] = expands [] c tt refl
  filled-wakers c (q ∷ todo) = refl

  away-wakers : (doomed : Bool) → wakers (put_away doomed) ≡ []
  away-wakers true = refl
  away-wakers false = refl

  waited-wakers : (ws : Wakes) (site : ℕ) (todo : Todos) → IsActOver todo → Is ws todo → Is ws (todo ++ Todo.reread site ∷ [])
  waited-wakers ws site _ act_alone h = h
  waited-wakers ws site _ act_settled h = h
  waited-wakers ws site _ access_alone h = h
  waited-wakers ws site _ access_settled h = h

  shown-woken : (q : Pending) (e : FineStep) (rest : Steps) → (is_killed e.act ≡ true → woken_by e (Todo.show q rest) ≡ [])
      → woken_by e (Todo.show (shown_step image q e.act) rest) ≡ woken_by e (Todo.show q rest)
  shown-woken q e rest kills = by (is_killed e.act) refl
    where
      by : (b : Bool) → is_killed e.act ≡ b → woken_by e (Todo.show (if b then Pending.Killed else q) rest) ≡ woken_by e (Todo.show q rest)
      by true k = sym (kills k)
      by false k = refl

  goes-wakers : (p : Processor) (e : FineStep) (q : Todo) (todo : Todos) → Behind image q todo → LastRead e q todo → wakers (goes_on_by image p e (q ∷ todo)).todo ≡ woken_by e q ++ wakers todo
  goes-wakers p e (Todo.show q rest) todo h last =
      let ws = wakers todo in
      show-kept image (Is ws) All (expands ws) p e q rest todo (Is (woken_by e (Todo.show q rest) ++ ws)) tt (waited-wakers ws) h
      (λ z k. both-wakers p.context (shown_step image q e.act) e rest z ∙ (λ i. shown-woken q e rest last.1 i ++ k i))
      (λ read. away-wakers (thread_in e.word).doomed ∙ sym (λ i. (last.0 read).1 i ++ wakers ((last.0 read).0 i))) refl
  goes-wakers p e Todo.let_go todo h last = filled-wakers p.context todo
  goes-wakers p e (Todo.read_claim d) todo h last = claim-kept image (Is (wakers todo)) (λ z k. k) p e d todo (λ x some. refl) refl
  goes-wakers p e (Todo.read_done d) todo h last = filled-wakers p.context todo
  goes-wakers p e (Todo.end_call x) todo h last = filled-wakers p.context todo
  goes-wakers p e (Todo.wake who told) todo h last = filled-wakers p.context todo
  goes-wakers p e (Todo.add c) todo h last = filled-wakers p.context todo
  goes-wakers p e (Todo.recycle x) todo h last = filled-wakers p.context todo
  goes-wakers p e (Todo.settle deadline mark) todo h last = filled-wakers p.context todo
  goes-wakers p e (Todo.tell_cut who) todo h last = filled-wakers p.context todo
  goes-wakers p e (Todo.reread site) todo h last =
      let w = thread_in e.word in
      let q = Todo.look p.context.thread site w.number in
      filled-wakers p.context (if w.aborted then q ∷ todo else todo) ∙ either image (Is (wakers todo)) w.aborted q todo (λ b k. k) refl
  goes-wakers p e (Todo.look who site before) todo h last =
      filled-wakers p.context (if is_void e.act then todo else Todo.tell_cut who ∷ todo) ∙ unless image (Is (wakers todo)) (is_void e.act) (Todo.tell_cut who) todo (λ b k. k) refl
  goes-wakers p e (Todo.rouse who) todo h last =
      let q = Todo.add (context_in e.moved) in
      filled-wakers p.context (if is_void e.act then todo else q ∷ todo) ∙ unless image (Is (wakers todo)) (is_void e.act) q todo (λ b k. k) refl
  goes-wakers p e Todo.reread_asleep todo h last = either image (Is (wakers todo)) (is_awake (thread_in e.word)) (Todo.rouse p.context.thread) todo (λ b k. k) refl
  goes-wakers p e Todo.leave todo h last = wakes-wakers (told_all (woken_in (act_in e.act))) todo
  goes-wakers p e (Todo.handle deadline mark) todo h last = by (is_void e.act)
    where
      by : (b : Bool) → wakers (if b then todo else wakes (told_marked mark (woken_in (act_in e.act))) todo) ≡ (if b then [] else named (told_marked mark (woken_in (act_in e.act)))) ++ wakers todo
      by true = refl
      by false = wakes-wakers (told_marked mark (woken_in (act_in e.act))) todo
  goes-wakers p e (Todo.pass who x) todo h last =
      pass-kept image (Is (wakers todo)) All (expands (wakers todo)) p who x todo (λ y few k. k) tt refl
  goes-wakers p e (Todo.drop x) todo h last =
      drop-kept image (Is (wakers todo)) All (expands (wakers todo)) p (dropped_at image p.context x (is_visit e.act)) x todo (λ y few k. k) tt refl
  goes-wakers p e (Todo.clean_pair who x) todo h last =
      either image (Is (wakers todo)) (nat_lt (x + 1) ROWS) (Todo.clean_pair who (x + 1)) todo (λ few k. k) refl
  goes-wakers p e Todo.park todo h last = sym (ap wakers h)
  goes-wakers p e Todo.done todo h last = sym (ap wakers h)
  goes-wakers p e Todo.paid todo h last = sym (ap wakers h)
  goes-wakers p e q todo h last = refl

  next-cleaned : (p : Processor) (e : FineStep) → wakers (p_next image p e).todo ≡ wakers (goes_on_by image p e p.todo).todo
  next-cleaned p e =
      let q = with_cleaned image (goes_on_by image p e p.todo) e (begins_cleaning e) in
      acted-kept image (λ todo. wakers todo ≡ wakers q.todo) q e.act refl ∙ with-cleaned-wakers (goes_on_by image p e p.todo) e (begins_cleaning e)

  -- the wakes after a step
  pub next-wakers : (p : Processor) (e : FineStep) (q : Todo) (todo : Todos) → p.todo ≡ q ∷ todo → Behind image q todo → LastRead e q todo
      → wakers (p_next image p e).todo ≡ woken_by e q ++ wakers todo
  next-wakers p e q todo at h last = next-cleaned p e ∙ (ap (λ (z : Todos). wakers (goes_on_by image p e z).todo) at ∙ goes-wakers p e q todo h last)

  pub takes-wakers : (p : Processor) (e : FineStep) → p.todo ≡ [] → wakers (p_next image p e).todo ≡ []
  takes-wakers p e at =
      next-cleaned p e
      ∙ (ap (λ (z : Todos). wakers (goes_on_by image p e z).todo) at
      ∙ take-kept image (Is []) All (expands []) p (turn-kept image (Is []) refl refl) (λ deadline mark. refl) e.moved tt refl (ap wakers at))
