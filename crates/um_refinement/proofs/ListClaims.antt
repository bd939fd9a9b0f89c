-- What each fine step changes of the claims that its processor has still to end.
use Rattle.um_refinement.proofs.Words.{◌≡◌, ℕ, ◌+◌, Bool, true, false, List, [], ◌∷◌, ◌++◌, Option, Some, None, refl, ap, ◌∙◌, arith, ◌==◌, if◌then◌else◌, Act, Answer, Told, Image, Instr, Addr, Errno, ThreadIx, own_row, thread_of_row, Pending, Steps, instruction_at, row_named, act_in, answer_in, context_in, domain_in, is_visit, is_word_read, outcome_in, thread_in, verdict_in, is_empty, FineAct, Context, Exchange, FineStep, continues, resumed, Todo, Todos, cleaning, cleaning_of, end_of_turn, fine_steps, is_cleaning_todo, next_steps, turn, turn_of, with_cleaning, Processor, after_claim, after_show, after_take, behind_step, dropped_at, end_calls, filled_up, goes_on_by, p_next, refilled_by, row_number, wakes, with_cleaned, begins_cleaning, counted, is_end_call, names_row, occurs, call_claims, false≢true, true≢false, held_part}
use Rattle.um_fine.specs.Follows.{looks_behind, rereads, shown_step, waits_behind, with_actor}
use Rattle.um_fine.specs.Places.{noted_cell, put_away}
use Rattle.um_refinement.proofs.Continued.{Held, continues-held, resumed-held}
use Rattle.um_refinement.proofs.ListGrowth.{cleaning-kept, errands-kept, forms-kept, is_end, is_errand, is_shown, next-kept, quiet-kept, visits_row}

-- an expansion ends no call
module _ (image : Image) (x : ℕ) where
  abbrev Is : ℕ → Todos → Type 0
  Is n todo = counted (is_end_call x) todo ≡ n

  abbrev All : Context → Type 0
  All c = Unit {0}

  fine-none : (c : Context) (q : Pending) (rest : Steps) → counted (is_end_call x) (fine_steps image c q rest) ≡ 0
  fine-none = forms-kept image (Is 0)
      (record {
        note = λ site todo h. h;
        act = λ q rest. refl;
        settles = λ q rest deadline mark. refl;
        access = λ q rest. refl;
        access_settles = λ q rest deadline mark. refl;
        look = λ x todo h. h;
        owe = λ q rest. refl;
        leave = λ a rest. refl;
        edit = λ d q rest. refl;
        move = λ d who rest. refl;
        start = λ who q rest c. refl;
      })

  errand : (n : ℕ) (q : Todo) (todo : Todos) → is_errand q ≡ true → Is n todo → Is n (q ∷ todo)
  errand n (Todo.end_call y) todo on h = absurd (false≢true on)
  errand n q todo on h = h

  put : (n : ℕ) (q : Todo) (todo : Todos) → visits_row q ≡ true → names_row q ≡ true → Is n todo → Is n (q ∷ todo)
  put n (Todo.end_call y) todo visit few h = absurd (false≢true visit)
  put n q todo visit few h = h

  expands : (n : ℕ) (c : Context) → All c → Is n [] → Is n (next_steps image c c.pending)
  expands n c of h = next-kept image (Is 0) (put 0) fine-none (λ b. elim b as (λ b. Is 0 (end_of_turn image b)) [ true ↦ refl | false ↦ refl ]) c c.pending ∙ h

  pub filled-same : (c : Context) (todo : Todos) → counted (is_end_call x) (filled_up image c todo) ≡ counted (is_end_call x) todo
  filled-same c [] = expands 0 c tt refl
  filled-same c (q ∷ todo) = refl

  -- a step within a turn that is no event ends none of those behind it
  pub goes-same : (p : Processor) (e : FineStep) (q : Todo) (todo : Todos) → is_shown q ≡ false → is_end q ≡ false
      → counted (is_end_call x) (goes_on_by image p e (q ∷ todo)).todo ≡ counted (is_end_call x) todo
  goes-same p e Todo.park todo quiet on = absurd (true≢false on)
  goes-same p e Todo.done todo quiet on = absurd (true≢false on)
  goes-same p e Todo.paid todo quiet on = absurd (true≢false on)
  goes-same p e (Todo.show q rest) todo quiet on = absurd (true≢false quiet)
  goes-same p e (Todo.rouse who) todo quiet on =
      let n = counted (is_end_call x) todo in
      quiet-kept image (Is n) All (expands n) p (errand n) (put n) (λ who y z few k. k) (λ z k. k) (λ d z k. k) e (Todo.rouse who) todo refl tt (λ found z k. k) refl
  goes-same p e q todo quiet on =
      let n = counted (is_end_call x) todo in
      quiet-kept image (Is n) All (expands n) p (errand n) (put n) (λ who y z few k. k) (λ z k. k) (λ d z k. k) e q todo refl tt tt refl

  pub wakes-same : (ws : List (ThreadIx × Told)) (todo : Todos) → counted (is_end_call x) (wakes ws todo) ≡ counted (is_end_call x) todo
  wakes-same [] todo = refl
  wakes-same (w ∷ ws) todo = wakes-same ws todo

  pub end_calls-count : (xs : List ℕ) (todo : Todos) → counted (is_end_call x) (end_calls xs todo) ≡ occurs x xs + counted (is_end_call x) todo
  end_calls-count [] todo = omega arith
  end_calls-count (y ∷ ys) todo =
      let h = end_calls-count ys todo in
      elim (x == y) as (λ b. (if b then counted (is_end_call x) (end_calls ys todo) + 1 else counted (is_end_call x) (end_calls ys todo)) ≡ (if b then occurs x ys + 1 else occurs x ys) + counted (is_end_call x) todo) [ true ↦ omega arith | false ↦ h ]

  claims-more : (xs : List ℕ) (y : ℕ) → occurs x (xs ++ y ∷ []) ≡ occurs x xs + occurs x (y ∷ [])
  claims-more [] y = omega arith
  claims-more (z ∷ zs) y =
      let h = claims-more zs y in
      elim (x == z) as (λ b. (if b then occurs x (zs ++ y ∷ []) + 1 else occurs x (zs ++ y ∷ [])) ≡ (if b then occurs x zs + 1 else occurs x zs) + occurs x (y ∷ [])) [ true ↦ omega arith | false ↦ h ]

  -- nor does a second read of the word, or what stands behind an event that stops another thread or goes on with it
  append-same : (todo : Todos) (site : ℕ) → counted (is_end_call x) (todo ++ Todo.reread site ∷ []) ≡ counted (is_end_call x) todo
  append-same [] site = refl
  append-same (q ∷ todo) site = ap (λ n. if is_end_call x q then n + 1 else n) (append-same todo site)

  rereads-same : (answer : Answer) (site : Option ℕ) (todo : Todos) → counted (is_end_call x) (rereads image answer site todo) ≡ counted (is_end_call x) todo
  rereads-same Answer.Wait (Some site) todo = append-same todo site
  rereads-same Answer.Wait None todo = refl
  rereads-same (Answer.Now reply) site todo = refl

  pub waits-same : (q : Pending) (e : FineStep) (todo : Todos) → counted (is_end_call x) (waits_behind image q e todo) ≡ counted (is_end_call x) todo
  waits-same q e todo = rereads-same (answer_in (act_in e.act)) (noted_cell image (q ∷ [])) todo

  pub looks-same : (c : Context) (q : Pending) (e : FineStep) (todo : Todos) → counted (is_end_call x) (looks_behind image c q e todo) ≡ counted (is_end_call x) todo
  looks-same c q e todo = let n = counted (is_end_call x) todo in errands-kept image (Is n) (errand n) c q e todo refl

-- what an event takes: a claim of a check that is passed, and at the end that of the thread's life
abbrev pub come : Image → ℕ → Context → Pending → Act → ℕ
come image x c (Pending.Check a kind want refusal) act =
    elim (verdict_in act) as (λ _. ℕ) [ None ↦ occurs x (row_named image a ∷ []) | Some e ↦ 0 ]
come image x c (Pending.ClearInit a) act =
    let own = own_row image c.thread in if row_named image a == own then occurs x (own ∷ []) else 0
come image x c q act = 0

-- what is handed over is a thread
abbrev pub IsThread : Exchange → Type 0
IsThread (Exchange.thread c told) = Unit {0}
IsThread _ = ⊥

same-form : (a a' b b' : ℕ) → a' ≡ a → b' ≡ b → a' + b' ≡ a + b + 0
same-form a a' b b' e h = omega arith

module _ (image : Image) (x : ℕ) where
  check-claims : (c : Context) (a : Addr) (v : Option Errno) (todo : Todos)
      → occurs x (held_part (row_named image a) v c).claims + counted (is_end_call x) todo
      ≡ occurs x c.claims + counted (is_end_call x) todo + elim v as (λ _. ℕ) [ None ↦ occurs x (row_named image a ∷ []) | Some e ↦ 0 ]
  check-claims c a None todo = let h = claims-more image x c.claims (row_named image a) in omega arith
  check-claims c a (Some e) todo = omega arith

  life-claim : (b : Bool) (own : ℕ) (n : ℕ) (todo : Todos)
      → n + counted (is_end_call x) (if b then Todo.end_call own ∷ todo else todo) ≡ n + counted (is_end_call x) todo + (if b then occurs x (own ∷ []) else 0)
  life-claim true own n todo =
      elim (x == own) as (λ b. n + (if b then counted (is_end_call x) todo + 1 else counted (is_end_call x) todo) ≡ n + counted (is_end_call x) todo + (if b then 0 + 1 else 0)) [ true ↦ omega arith | false ↦ omega arith ]
  life-claim false own n todo = omega arith

  ended-claims : (xs : List ℕ) (todo : Todos) → 0 + counted (is_end_call x) (end_calls xs todo) ≡ occurs x xs + counted (is_end_call x) todo + 0
  ended-claims xs todo = let h = end_calls-count image x xs todo in omega arith

  -- of the claims that a processor has still to end, an event takes or leaves just these
  pub shown-claims : (c : Context) (q : Pending) (rest : Steps) (act : Act) (moved : Exchange) (todo : Todos)
      → occurs x (continues image c 0 q rest act moved).claims + counted (is_end_call x) (behind_step image c q moved todo)
      ≡ occurs x c.claims + counted (is_end_call x) todo + come image x c q act
  shown-claims c Pending.Exit rest act moved todo = ended-claims c.claims todo
  shown-claims c Pending.Killed rest act moved todo = ended-claims c.claims todo
  shown-claims c (Pending.Check a kind want refusal) rest act moved todo = check-claims c a (verdict_in act) todo
  shown-claims c (Pending.Work a ask) rest act moved todo =
      same-form _ _ _ _ (ap (λ (h : Held). occurs x h.1) (continues-held image c 0 (Pending.Work a ask) rest act moved tt)) (wakes-same image x (outcome_in moved).woken todo)
  shown-claims c (Pending.Answer reply to) rest act moved todo = ended-claims c.claims todo
  shown-claims c (Pending.ClearInit a) rest act moved todo =
      life-claim (row_named image a == own_row image c.thread) (own_row image c.thread) (occurs x c.claims) todo
  shown-claims c (Pending.Fatal reason cause) rest act moved todo = ended-claims c.claims todo
  -- any other leaves the claims of its thread
  shown-claims c q rest act moved todo = same-form _ _ _ _ (ap (λ (h : Held). occurs x h.1) (continues-held image c 0 q rest act moved tt)) refl

  pub cleaned-same : (y : ℕ) (todo : Todos) → counted (is_end_call x) (with_cleaning (cleaning image y) todo) ≡ counted (is_end_call x) todo
  cleaned-same y todo = cleaning-kept image (λ old new. counted (is_end_call x) new ≡ counted (is_end_call x) old) y first later todo
    where
      first : (o : Option ℕ) (todo : Todos) → thread_of_row image y ≡ o → counted (is_end_call x) (cleaning_of y o ++ todo) ≡ counted (is_end_call x) todo
      first None todo at = refl
      first (Some who) todo at = refl

      later : (q : Todo) (old new : Todos) → is_cleaning_todo q ≡ true → counted (is_end_call x) new ≡ counted (is_end_call x) old
          → counted (is_end_call x) (q ∷ new) ≡ counted (is_end_call x) (q ∷ old)
      later q old new c h = ap (λ n. if is_end_call x q then n + 1 else n) h

  -- what a step takes of claims, and what it gives back
  abbrev pub come_to : Processor → FineStep → Todos → ℕ
  come_to p e [] = occurs x (context_in e.moved).claims
  come_to p e (Todo.show q rest ∷ todo) = if is_word_read e.act then 0 else come image x p.context (shown_step image q e.act) (act_in e.act)
  come_to p e _ = 0

  abbrev pub gone : Processor → FineStep → Todos → ℕ
  gone p e (Todo.end_call y ∷ todo) = if x == y then 1 else 0
  gone p e (Todo.park ∷ todo) = occurs x p.context.claims + counted (is_end_call x) todo
  gone p e (Todo.done ∷ todo) = occurs x p.context.claims + counted (is_end_call x) todo
  gone p e (Todo.sleep ∷ todo) = occurs x p.context.claims
  gone p e (Todo.paid ∷ todo) = counted (is_end_call x) todo
  gone p e (Todo.show q rest ∷ todo) = if is_word_read e.act then counted (is_end_call x) todo else 0
  gone p e _ = 0

  claim-same : (p : Processor) (d : ℕ) (init : Bool) (todo : Todos) → call_claims x (after_claim p d init 0 todo) ≡ occurs x p.context.claims + counted (is_end_call x) todo
  claim-same p d true todo = refl
  claim-same p d false todo = refl

  dropped-same : (c : Context) (y : ℕ) (b : Bool) → (dropped_at image c y b).claims ≡ c.claims
  dropped-same c y true = refl
  dropped-same c y false = refl

  -- a step that only shortens the list
  short-form : (a b b' : ℕ) → b' ≡ b → a + b' + 0 ≡ a + b + 0
  short-form a b b' h = omega arith

  away-none : (doomed : Bool) → counted (is_end_call x) (put_away doomed) ≡ 0
  away-none true = refl
  away-none false = refl

  show-form : (p : Processor) (e : FineStep) (q : Pending) (rest : Steps) (todo : Todos) (b : Bool)
      → call_claims x (if b then record p { todo = put_away (thread_in e.word).doomed } else after_show image p e (shown_step image q e.act) rest todo) + (if b then counted (is_end_call x) todo else 0)
      ≡ occurs x p.context.claims + counted (is_end_call x) todo + (if b then 0 else come image x p.context (shown_step image q e.act) (act_in e.act))
  show-form p e q rest todo true = let none = away-none (thread_in e.word).doomed in omega (arith, none)
  show-form p e q rest todo false =
      let made = shown_step image q e.act in
      let c = continues image p.context 0 made rest (act_in e.act) e.moved in
      let there = waits_behind image made e todo in
      let h = shown-claims p.context made rest (act_in e.act) e.moved (filled_up image c there) in
      let k = filled-same image x c there in
      let l = waits-same image x made e todo in
      let n = looks-same image x p.context made e (behind_step image p.context made e.moved (filled_up image c there)) in omega (arith, h, k, l, n)

  turn-count : (instr : Option Instr) → counted (is_end_call x) (turn_of image instr) ≡ 0
  turn-count None = refl
  turn-count (Some instr) = refl

  -- a thread comes with what its call holds, and anything else with nothing
  taken-form : (p : Processor) (moved : Exchange) → p.context.claims ≡ [] → p.todo ≡ [] → call_claims x (after_take image p moved) + 0 ≡ occurs x p.context.claims + 0 + occurs x (context_in moved).claims
  taken-form p (Exchange.thread c None) h idle = by (is_empty c.pending)
    where
      by : (b : Bool) → call_claims x (if b then record p { context = c; todo = turn image c } else refilled_by image (record p { context = c }) []) + 0 ≡ occurs x p.context.claims + 0 + occurs x c.claims
      by true = let e = ap (occurs x) h in let k = turn-count (instruction_at image c.place) in omega (arith, e, k)
      by false = let e = ap (occurs x) h in let k = filled-same image x c [] in omega (arith, e, k)
  taken-form p (Exchange.thread c (Some told)) h idle =
      let e = ap (occurs x) h in
      let k = filled-same image x (resumed image c told) [] in
      let l = ap (λ (h : Held). occurs x h.1) (resumed-held image c told) in omega (arith, e, k, l)
  taken-form p (Exchange.mark deadline mark) h idle = omega arith
  taken-form p moved h idle = let none = ap (counted (is_end_call x)) idle in omega (arith, none)

  goes-claims : (p : Processor) (e : FineStep) (todo : Todos) → ((todo ≡ []) → (p.context.claims ≡ []) × (p.todo ≡ []))
      → call_claims x (goes_on_by image p e todo) + gone p e todo ≡ occurs x p.context.claims + counted (is_end_call x) todo + come_to p e todo
  goes-claims p e [] idle = taken-form p e.moved (idle refl).0 (idle refl).1
  goes-claims p e (Todo.show q rest ∷ todo) idle = show-form p e q rest todo (is_word_read e.act)
  goes-claims p e (Todo.read_claim (Some d) ∷ todo) idle = let h = claim-same p d (domain_in e.word).init todo in omega arith
  goes-claims p e (Todo.end_call y ∷ todo) idle =
      let h = filled-same image x p.context todo in
      elim (x == y) as (λ b. occurs x p.context.claims + counted (is_end_call x) (filled_up image p.context todo) + (if b then 1 else 0) ≡ occurs x p.context.claims + (if b then counted (is_end_call x) todo + 1 else counted (is_end_call x) todo) + 0) [ true ↦ omega arith | false ↦ omega arith ]
  goes-claims p e (Todo.drop y ∷ todo) idle =
      let h = ap (occurs x) (dropped-same p.context y (is_visit e.act)) in
      let k = goes-same image x p e (Todo.drop y) todo refl refl in omega arith
  goes-claims p e (Todo.park ∷ todo) idle = omega arith
  goes-claims p e (Todo.done ∷ todo) idle = omega arith
  goes-claims p e (Todo.sleep ∷ todo) idle = omega arith
  goes-claims p e (Todo.paid ∷ todo) idle = omega arith
  goes-claims p e (q ∷ todo) idle = short-form _ _ _ (goes-same image x p e q todo refl refl)

  with-cleaned : (p : Processor) (e : FineStep) (b : Bool) → call_claims x (with_cleaned image p e b) ≡ call_claims x p
  with-cleaned p e false = refl
  with-cleaned p e true = ap (λ n. occurs x p.context.claims + n) (cleaned-same (row_number e.site) p.todo)

  acted-claims : (p : Processor) (act : FineAct) → call_claims x (with_actor image p act) ≡ call_claims x p
  acted-claims p (FineAct.Shown event more) = refl
  acted-claims p (FineAct.Unseen unseen) = refl

  -- The claims that a processor has still to end change with a step by what it takes and gives back.
  pub processor-claims : (p : Processor) (e : FineStep) → (p.todo ≡ [] → p.context.claims ≡ [])
      → call_claims x (p_next image p e) + gone p e p.todo ≡ call_claims x p + come_to p e p.todo
  processor-claims p e idle =
      let h = goes-claims p e p.todo (λ none. (idle none, none)) in
      let k = with-cleaned (goes_on_by image p e p.todo) e (begins_cleaning e) in
      let l = acted-claims (with_cleaned image (goes_on_by image p e p.todo) e (begins_cleaning e)) e.act in omega (arith, h, k, l)
