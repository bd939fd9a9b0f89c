-- On a processor's list stand the ends of two claims of a row at most, where its thread's call holds no more objects.
use Rattle.um_refinement.proofs.Words.{◌≡◌, ℕ, suc, ◌+◌, ◌≤◌, Bool, true, false, List, [], ◌∷◌, length, Some, None, refl, ap, ◌∙◌, arith, ◌==◌, if◌then◌else◌, Image, own_row, Pending, Steps, instruction_at, row_named, act_in, is_word_read, outcome_in, begins_cleaning, Bool, Option, Context, is_empty, thread_in, turn, refilled_by, continues, resumed, after_show, after_take, behind_step, filled_up, goes_on_by, p_next, row_number, with_cleaned, Todo, Todos, Processor, Exchange, FineStep, counted, is_end_call, behind_shown, occurs}
use Rattle.um_fine.specs.Follows.{shown_step, waits_behind}
use Rattle.um_fine.specs.Places.{armed_for, put_away, settling}
use Rattle.um_refinement.proofs.ListClaims.{cleaned-same, end_calls-count, filled-same, looks-same, waits-same, wakes-same, goes-same}
use Rattle.um_refinement.proofs.ListGrowth.{acted-kept, turn-kept}

pub occurs-few : (x : ℕ) (xs : List ℕ) → occurs x xs ≤ length xs
occurs-few x [] = omega arith
occurs-few x (y ∷ ys) =
    let h = occurs-few x ys in elim (x == y) as (λ b. (if b then occurs x ys + 1 else occurs x ys) ≤ suc (length ys)) [ true ↦ omega (arith, h) | false ↦ omega (arith, h) ]

module _ (image : Image) (x : ℕ) where
  abbrev Ends : Todos → ℕ
  Ends todo = counted (is_end_call x) todo

  settling-none : (c : Context) (until : Option ℕ) (q : Pending) → Ends (settling image c until q) ≡ 0
  settling-none c None q = refl
  settling-none c (Some deadline) q = refl

  -- nothing behind a step that is shown ends a claim
  shown-none : (c : Context) (q : Pending) → Ends (behind_shown image c q) ≡ 0
  shown-none c (Pending.Load to a n) = refl
  shown-none c (Pending.Store a n value) = refl
  shown-none c (Pending.Fetch a) = refl
  shown-none c (Pending.Probe a amount) = refl
  shown-none c (Pending.CopyIn a amount) = refl
  shown-none c (Pending.CopyOut a) = refl
  shown-none c (Pending.CopyStr a) = refl
  shown-none c (Pending.Start who script stack priority mode) = refl
  shown-none c (Pending.Work a ask) = settling-none c (armed_for image c (Pending.Work a ask)) (Pending.Work a ask)
  shown-none c (Pending.Join who timeout) = settling-none c (armed_for image c (Pending.Join who timeout)) (Pending.Join who timeout)
  shown-none c (Pending.FutexWait a value timeout) = settling-none c (armed_for image c (Pending.FutexWait a value timeout)) (Pending.FutexWait a value timeout)
  shown-none c q = refl

  behind-ends : (c : Context) (q : Pending) (moved : Exchange) (todo : Todos) → length c.claims ≤ 2 → Ends todo ≡ 0 → Ends (behind_step image c q moved todo) ≤ 2
  behind-ends c (Pending.Work a ask) moved todo few none = let same = wakes-same image x (outcome_in moved).woken todo in omega (arith, none, same)
  behind-ends c Pending.Exit moved todo few none =
      let count = end_calls-count image x c.claims todo in
      let most = occurs-few x c.claims in
      omega (arith, few, none, count, most)
  behind-ends c Pending.Killed moved todo few none =
      let count = end_calls-count image x c.claims todo in
      let most = occurs-few x c.claims in
      omega (arith, few, none, count, most)
  behind-ends c (Pending.Answer reply to) moved todo few none =
      let count = end_calls-count image x c.claims todo in
      let most = occurs-few x c.claims in
      omega (arith, few, none, count, most)
  behind-ends c (Pending.Fatal reason cause) moved todo few none =
      let count = end_calls-count image x c.claims todo in
      let most = occurs-few x c.claims in
      omega (arith, few, none, count, most)
  behind-ends c (Pending.ClearInit a) moved todo few none = by (row_named image a == own_row image c.thread) (x == own_row image c.thread)
    where
      by : (b d : Bool) → Ends (if b then Todo.end_call (own_row image c.thread) ∷ todo else todo) ≤ 2
      by b d = elim b as (λ b. Ends (if b then Todo.end_call (own_row image c.thread) ∷ todo else todo) ≤ 2) [ true ↦ one (x == own_row image c.thread) | false ↦ omega (arith, none) ]
        where
          one : (d : Bool) → (if d then Ends todo + 1 else Ends todo) ≤ 2
          one true = omega (arith, none)
          one false = omega (arith, none)
  behind-ends c q moved todo few none = omega (arith, none)

  take-ends : (p : Processor) (moved : Exchange) → Ends p.todo ≤ 2 → Ends (after_take image p moved).todo ≤ 2
  take-ends p (Exchange.thread c None) h = by (is_empty c.pending)
    where
      by : (b : Bool) → Ends (if b then record p { context = c; todo = turn image c } else refilled_by image (record p { context = c }) []).todo ≤ 2
      by true = turn-kept image (λ todo. Ends todo ≤ 2) (omega arith) (omega arith) (instruction_at image c.place)
      by false = let same = filled-same image x c [] in omega (arith, same)
  take-ends p (Exchange.thread c (Some told)) h = let same = filled-same image x (resumed image c told) [] in omega (arith, same)
  take-ends p (Exchange.mark deadline mark) h = omega arith
  take-ends p moved h = h

  away-ends : (doomed : Bool) → Ends (put_away doomed) ≤ 2
  away-ends true = omega arith
  away-ends false = omega arith

  show-ends : (p : Processor) (e : FineStep) (q : Pending) (rest : Steps) (todo : Todos) (b : Bool) → length p.context.claims ≤ 2 → todo ≡ behind_shown image p.context q
      → Ends (if b then record p { todo = put_away (thread_in e.word).doomed } else after_show image p e (shown_step image q e.act) rest todo).todo ≤ 2
  show-ends p e q rest todo true few behind = away-ends (thread_in e.word).doomed
  show-ends p e q rest todo false few behind =
      let made = shown_step image q e.act in
      let c = continues image p.context 0 made rest (act_in e.act) e.moved in
      let there = waits_behind image made e todo in
      let left = filled_up image c there in
      let most = behind-ends p.context made e.moved left few (filled-same image x c there ∙ (waits-same image x made e todo ∙ (ap Ends behind ∙ shown-none p.context q))) in
      let same = looks-same image x p.context made e (behind_step image p.context made e.moved left) in omega (arith, most, same)

  -- what is known of a list whose first step is shown
  abbrev pub IsShown : Context → Todos → Type 0
  IsShown c (Todo.show q rest ∷ todo) = (length c.claims ≤ 2) × (todo ≡ behind_shown image c q)
  IsShown c todo = Unit {0}

  goes-ends : (p : Processor) (e : FineStep) (todo : Todos) → Ends p.todo ≤ 2 → IsShown p.context todo → Ends todo ≤ 2 → Ends (goes_on_by image p e todo).todo ≤ 2
  goes-ends p e [] was s h = take-ends p e.moved was
  goes-ends p e (Todo.show q rest ∷ todo) was s h = show-ends p e q rest todo (is_word_read e.act) s.0 s.1
  goes-ends p e (Todo.end_call y ∷ todo) was s h = by (x == y) h (goes-same image x p e (Todo.end_call y) todo refl refl)
    where
      by : (b : Bool) → (if b then Ends todo + 1 else Ends todo) ≤ 2 → Ends (filled_up image p.context todo) ≡ Ends todo → Ends (filled_up image p.context todo) ≤ 2
      by true k same = omega (arith, k, same)
      by false k same = omega (arith, k, same)
  goes-ends p e (Todo.park ∷ todo) was s h = omega arith
  goes-ends p e (Todo.done ∷ todo) was s h = omega arith
  goes-ends p e (Todo.paid ∷ todo) was s h = omega arith
  goes-ends p e (q ∷ todo) was s h = let same = goes-same image x p e q todo refl refl in omega (arith, same, h)

  cleaned-ends : (p : Processor) (e : FineStep) (b : Bool) → Ends p.todo ≤ 2 → Ends (with_cleaned image p e b).todo ≤ 2
  cleaned-ends p e false h = h
  cleaned-ends p e true h = let same = cleaned-same image x (row_number e.site) p.todo in omega (arith, same, h)

  pub next-ends : (p : Processor) (e : FineStep) → IsShown p.context p.todo → Ends p.todo ≤ 2 → Ends (p_next image p e).todo ≤ 2
  next-ends p e s h =
      acted-kept image (λ todo. Ends todo ≤ 2) (with_cleaned image (goes_on_by image p e p.todo) e (begins_cleaning e)) e.act
      (cleaned-ends (goes_on_by image p e p.todo) e (begins_cleaning e) (goes-ends p e p.todo h s h))
