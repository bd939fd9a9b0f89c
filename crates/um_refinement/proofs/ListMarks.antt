-- How many marks a processor has still to settle, has in its hand, and has still to pay, after a step of it: those behind that step, unless it arms a deadline
-- or takes a mark.
use Rattle.um_refinement.proofs.Words.{◌⊎◌, inl, inr, ◌≡◌, ℕ, ◌+◌, Bool, true, false, ◌∷◌, ◌++◌, Option, Some, None, refl, sym, behind_step, ap, ◌∙◌, [], if◌then◌else◌, ◌==◌, nat_lt, is_some, false≢true, true≢false, Image, ROWS, own_row, row_named, thread_of_row, Addr, Amount, Pending, Steps, Instr, begins_cleaning, Context, goes_on_by, p_next, row_number, with_cleaned, Todo, Todos, but, cleaning_of, emptying, end_of_turn, fine_steps, next_steps, on_memory, sized, turn_of, with_cleaning, cleaning, Processor, Exchange, FineStep, Behind, after_take, dropped_at, instruction_at, is_empty, is_visit, refilled_by, resumed, counted, names_row, one_if}
use Rattle.um_words.specs.declared.fine.Mark.{Mark}
use Rattle.um_fine.specs.Follows.{shown_step}
use Rattle.um_fine.specs.Places.{armed_for, clearing, handling, is_paid, mark_for, noted_cell, noting, put_away, settling, turn}
use Rattle.um_refinement.specs.Frames.{IsActOver, access_alone, access_settled, act_alone, act_settled}
use Rattle.um_refinement.specs.Timing.{armed_next, armed_step, handles, settles}
use Rattle.um_refinement.proofs.ArmSteps.{Acts}
use Rattle.um_refinement.proofs.ListGrowth.{EndsWell, ReadsLast, acted-kept, behind-kept, cleaning-kept, either, either-look, ends-behind, is_errand, looks-kept, claim-kept, drop-kept, goes-kept, pass-kept, show-kept, visits_row}

-- the steps that have to do with a mark
abbrev pub is_marking : Todo → Bool
is_marking (Todo.settle deadline mark) = true
is_marking (Todo.handle deadline mark) = true
is_marking Todo.paid = true
is_marking q = false

-- a test that other steps don't pass
abbrev pub IsOfMarking : (Todo → Bool) → Type 0
IsOfMarking test = (q : Todo) → is_marking q ≡ false → test q ≡ false

pub paid-of : IsOfMarking is_paid
paid-of Todo.paid h = absurd (true≢false h)
paid-of q h = refl

pub settles-of : (deadline : ℕ) (mark : Mark) → IsOfMarking (settles deadline mark)
settles-of deadline mark (Todo.settle d m) h = absurd (true≢false h)
settles-of deadline mark q h = refl

pub handles-of : (deadline : ℕ) (mark : Mark) → IsOfMarking (handles deadline mark)
handles-of deadline mark (Todo.handle d m) h = absurd (true≢false h)
handles-of deadline mark q h = refl

abbrev pub is_nil : Todos → Bool
is_nil [] = true
is_nil (q ∷ todo) = false

module _ (image : Image) (test : Todo → Bool) (of : IsOfMarking test) where
  abbrev Count : Todos → ℕ
  Count todo = counted test todo

  pub skips : (q : Todo) (todo : Todos) → is_marking q ≡ false → Count (q ∷ todo) ≡ Count todo
  skips q todo h = ap (λ b. if b then Count todo + 1 else Count todo) (of q h)

  noted : (c : Context) (site : Option ℕ) (todo : Todos) → Count todo ≡ 0 → Count (noting image c site todo) ≡ 0
  noted c None todo h = h
  noted c (Some site) todo h =
      elim (is_some c.noted) as (λ b. Count (if b then todo else Todo.note site ∷ todo) ≡ 0) [ true ↦ h | false ↦ skips (Todo.note site) todo refl ∙ h ]

  cleared : (own : Bool) (a : Addr) (rest : Steps) → Count (clearing image own (Pending.ClearInit a) rest) ≡ 0
  cleared true a rest = skips Todo.leave (Todo.show (Pending.ClearInit a) rest ∷ []) refl ∙ skips (Todo.show (Pending.ClearInit a) rest) [] refl
  cleared false a rest = skips (Todo.show (Pending.ClearInit a) rest) [] refl

  shown : (q : Pending) (rest : Steps) → Count (Todo.show q rest ∷ []) ≡ 0
  shown q rest = skips (Todo.show q rest) [] refl

  access : (q : Pending) (rest : Steps) (todo : Todos) → Count todo ≡ 0 → Count (on_memory q rest ++ todo) ≡ 0
  access q rest todo h =
      skips Todo.hold (Todo.read_claim None ∷ Todo.region_load ∷ Todo.show q rest ∷ Todo.read_done None ∷ Todo.let_go ∷ todo) refl
      ∙ (skips (Todo.read_claim None) (Todo.region_load ∷ Todo.show q rest ∷ Todo.read_done None ∷ Todo.let_go ∷ todo) refl
      ∙ (skips Todo.region_load (Todo.show q rest ∷ Todo.read_done None ∷ Todo.let_go ∷ todo) refl
      ∙ (skips (Todo.show q rest) (Todo.read_done None ∷ Todo.let_go ∷ todo) refl
      ∙ (skips (Todo.read_done None) (Todo.let_go ∷ todo) refl ∙ (skips Todo.let_go todo refl ∙ h)))))

  -- no mark that is to be settled counts
  abbrev pub IsFree : Type 0
  IsFree = (deadline : ℕ) (mark : Mark) → test (Todo.settle deadline mark) ≡ false

  settled : (c : Context) (until : Option ℕ) (q : Pending) → (until ≡ None) ⊎ IsFree → Count (settling image c until q) ≡ 0
  settled c until q (inl none) = ap (λ (o : Option ℕ). Count (settling image c o q)) none
  settled c None q (inr free) = refl
  settled c (Some deadline) q (inr free) = ap (λ b. if b then 0 + 1 else 0) (free deadline (mark_for image c.thread (q ∷ [])))

  acted : (c : Context) (until : Option ℕ) (q : Pending) (rest : Steps) → (until ≡ None) ⊎ IsFree → Count (Todo.show q rest ∷ settling image c until q) ≡ 0
  acted c until q rest none = skips (Todo.show q rest) (settling image c until q) refl ∙ settled c until q none

  acted-there : (c : Context) (until : Option ℕ) (q : Pending) (rest : Steps) → (until ≡ None) ⊎ IsFree → Count (on_memory q rest ++ settling image c until q) ≡ 0
  acted-there c until q rest none = access q rest (settling image c until q) (settled c until q none)

  edited : (d : ℕ) (q : Pending) (rest : Steps) → Count (Todo.write_claim d ∷ Todo.edit d q ∷ Todo.show q rest ∷ []) ≡ 0
  edited d q rest =
      skips (Todo.write_claim d) (Todo.edit d q ∷ Todo.show q rest ∷ []) refl ∙ (skips (Todo.edit d q) (Todo.show q rest ∷ []) refl ∙ shown q rest)

  owed : (q : Pending) (rest : Steps) → Count (Todo.owe ∷ Todo.show q rest ∷ []) ≡ 0
  owed q rest = skips Todo.owe (Todo.show q rest ∷ []) refl ∙ shown q rest

  looked : (amount : Amount) (q : Pending) (rest : Steps) → Count (sized image amount (on_memory q rest)) ≡ 0
  looked amount q rest =
      either-look image (λ todo. Count todo ≡ 0) amount (on_memory q rest) (λ x h. skips (Todo.size_look x) (on_memory q rest) refl ∙ h) (access q rest [] refl)

  -- where no deadline is armed for it, a pending step has no mark to settle that counts
  fine-none : (c : Context) (q : Pending) (rest : Steps) → (armed_step image c q ≡ None) ⊎ IsFree → Count (fine_steps image c q rest) ≡ 0
  fine-none c (Pending.Load to a n) rest h = access (Pending.Load to a n) rest [] refl
  fine-none c (Pending.Store a n value) rest h = access (Pending.Store a n value) rest [] refl
  fine-none c (Pending.Fetch a) rest h = access (Pending.Fetch a) rest [] refl
  fine-none c (Pending.Probe a amount) rest h = looked amount (Pending.Probe a amount) rest
  fine-none c (Pending.CopyIn a amount) rest h = looked amount (Pending.CopyIn a amount) rest
  fine-none c (Pending.CopyOut a) rest h = access (Pending.CopyOut a) rest [] refl
  fine-none c (Pending.CopyStr a) rest h = access (Pending.CopyStr a) rest [] refl
  fine-none c (Pending.DomInit d parts) rest h = edited d (Pending.DomInit d parts) rest
  fine-none c (Pending.DomAdd d range attr) rest h = edited d (Pending.DomAdd d range attr) rest
  fine-none c (Pending.DomRemove d range attr) rest h = edited d (Pending.DomRemove d range attr) rest
  fine-none c (Pending.DomMove d who) rest h = skips (Todo.read_claim (Some d)) (Todo.show (Pending.DomMove d who) rest ∷ []) refl ∙ shown (Pending.DomMove d who) rest
  fine-none c (Pending.Start who script stack priority mode) rest h = starts (Pending.Start who script stack priority mode) who.0 _
    where
      starts : (q : Pending) (t : ℕ) (d : Context) → Count (Todo.hold ∷ Todo.unshut t ∷ Todo.show q rest ∷ Todo.let_go ∷ Todo.add d ∷ []) ≡ 0
      starts q t d =
          skips Todo.hold (Todo.unshut t ∷ Todo.show q rest ∷ Todo.let_go ∷ Todo.add d ∷ []) refl
          ∙ (skips (Todo.unshut t) (Todo.show q rest ∷ Todo.let_go ∷ Todo.add d ∷ []) refl
          ∙ (skips (Todo.show q rest) (Todo.let_go ∷ Todo.add d ∷ []) refl ∙ (skips Todo.let_go (Todo.add d ∷ []) refl ∙ skips (Todo.add d) [] refl)))
  fine-none c (Pending.Work a ask) rest h =
      let q = Pending.Work a ask in noted c (noted_cell image (q ∷ [])) (Todo.show q rest ∷ settling image c (armed_for image c q) q) (acted c (armed_for image c q) q rest h)
  fine-none c (Pending.Join who timeout) rest h =
      let q = Pending.Join who timeout in noted c (noted_cell image (q ∷ [])) (Todo.show q rest ∷ settling image c (armed_for image c q) q) (acted c (armed_for image c q) q rest h)
  fine-none c (Pending.FutexWait a value timeout) rest h =
      let q = Pending.FutexWait a value timeout in
      noted c (noted_cell image (q ∷ [])) (on_memory q rest ++ settling image c (armed_for image c q) q) (acted-there c (armed_for image c q) q rest h)
  fine-none c (Pending.FutexWake a all) rest h = access (Pending.FutexWake a all) rest [] refl
  fine-none c (Pending.Arm ticks) rest h = noted c (noted_cell image rest) (Todo.owe ∷ Todo.show (Pending.Arm ticks) rest ∷ []) (owed (Pending.Arm ticks) rest)
  fine-none c (Pending.ArmTimer ticks) rest h = owed (Pending.ArmTimer ticks) rest
  fine-none c (Pending.ClearInit a) rest h = cleared (row_named image a == own_row image c.thread) a rest
  fine-none c q rest h = shown q rest

  end-none : (b : Bool) → Count (end_of_turn image b) ≡ 0
  end-none true = skips Todo.done [] refl
  end-none false = skips Todo.park [] refl

  visited : (b : Bool) (q : Todo) (todo : Todos) → is_marking q ≡ false → Count todo ≡ 0 → Count (if b then q ∷ todo else todo) ≡ 0
  visited b q todo off h = either image (λ z. Count z ≡ 0) b q todo (λ e k. skips q todo off ∙ k) h

  pub next-none : (c : Context) (steps : Steps) → (armed_next image c steps ≡ None) ⊎ IsFree → Count (next_steps image c steps) ≡ 0
  next-none c [] h = end-none c.ended
  next-none c (Pending.Resume ∷ rest) h = end-none false
  next-none c (Pending.Inherit who ∷ q ∷ rest) h =
      let x = but (own_row image c.thread) 0 in visited (nat_lt x ROWS) (Todo.pass who.0 x) (fine_steps image c q rest) refl (fine-none c q rest h)
  next-none c (Pending.Drops from ∷ q ∷ rest) h = visited (nat_lt from ROWS) (Todo.drop from) (fine_steps image c q rest) refl (fine-none c q rest h)
  next-none c (Pending.Inherit who ∷ []) h = shown (Pending.Inherit who) []
  next-none c (Pending.Drops from ∷ []) h = shown (Pending.Drops from) []
  next-none c (q ∷ rest) h = fine-none c q rest (same q rest h)
    where
      same : (q : Pending) (rest : Steps) → (armed_next image c (q ∷ rest) ≡ None) ⊎ IsFree → (armed_step image c q ≡ None) ⊎ IsFree
      same (Pending.Inherit who) rest h = inl refl
      same (Pending.Drops from) rest h = inl refl
      same q rest h = h

  -- Where a deadline is armed for an act that comes next, its mark is to be settled.
  noted-same : (c : Context) (site : Option ℕ) (todo : Todos) → Count (noting image c site todo) ≡ Count todo
  noted-same c None todo = refl
  noted-same c (Some site) todo =
      elim (is_some c.noted) as (λ b. Count (if b then todo else Todo.note site ∷ todo) ≡ Count todo) [ true ↦ refl | false ↦ skips (Todo.note site) todo refl ]

  access-same : (q : Pending) (rest : Steps) (todo : Todos) → Count (on_memory q rest ++ todo) ≡ Count todo
  access-same q rest todo =
      skips Todo.hold (Todo.read_claim None ∷ Todo.region_load ∷ Todo.show q rest ∷ Todo.read_done None ∷ Todo.let_go ∷ todo) refl
      ∙ (skips (Todo.read_claim None) (Todo.region_load ∷ Todo.show q rest ∷ Todo.read_done None ∷ Todo.let_go ∷ todo) refl
      ∙ (skips Todo.region_load (Todo.show q rest ∷ Todo.read_done None ∷ Todo.let_go ∷ todo) refl
      ∙ (skips (Todo.show q rest) (Todo.read_done None ∷ Todo.let_go ∷ todo) refl
      ∙ (skips (Todo.read_done None) (Todo.let_go ∷ todo) refl ∙ skips Todo.let_go todo refl))))

  settled-one : (c : Context) (until : Option ℕ) (q : Pending) (deadline : ℕ) → until ≡ Some deadline
      → Count (settling image c until q) ≡ one_if (test (Todo.settle deadline (mark_for image c.thread (q ∷ []))))
  settled-one c until q deadline is =
      ap (λ (o : Option ℕ). Count (settling image c o q)) is
      ∙ elim (test (Todo.settle deadline (mark_for image c.thread (q ∷ [])))) as (λ b. (if b then 0 + 1 else 0) ≡ one_if b) [ true ↦ refl | false ↦ refl ]

  pub next-one : (c : Context) (steps : Steps) (deadline : ℕ) → Acts steps → armed_next image c steps ≡ Some deadline
      → Count (next_steps image c steps) ≡ one_if (test (Todo.settle deadline (mark_for image c.thread steps)))
  next-one c (Pending.Work a ask ∷ rest) deadline acts is =
      let q = Pending.Work a ask in
      noted-same c (noted_cell image (q ∷ [])) (Todo.show q rest ∷ settling image c (armed_for image c q) q)
      ∙ (skips (Todo.show q rest) (settling image c (armed_for image c q) q) refl ∙ settled-one c (armed_for image c q) q deadline is)
  next-one c (Pending.Join who timeout ∷ rest) deadline acts is =
      let q = Pending.Join who timeout in
      noted-same c (noted_cell image (q ∷ [])) (Todo.show q rest ∷ settling image c (armed_for image c q) q)
      ∙ (skips (Todo.show q rest) (settling image c (armed_for image c q) q) refl ∙ settled-one c (armed_for image c q) q deadline is)
  next-one c (Pending.FutexWait a value timeout ∷ rest) deadline acts is =
      let q = Pending.FutexWait a value timeout in
      noted-same c (noted_cell image (q ∷ [])) (on_memory q rest ++ settling image c (armed_for image c q) q)
      ∙ (access-same q rest (settling image c (armed_for image c q) q) ∙ settled-one c (armed_for image c q) q deadline is)
  next-one c steps deadline acts is = absurd acts

  -- What is behind a step: so many, and nothing only where that was nothing.
  module _ (todo : Todos) where
    abbrev Is : Todos → Type 0
    Is z = (Count z ≡ Count todo) × (is_nil z ≡ true → todo ≡ [])

    abbrev IsCalm : Context → Type 0
    IsCalm c = todo ≡ [] → (armed_next image c c.pending ≡ None) ⊎ IsFree

    in-front : (q : Todo) (z : Todos) → is_marking q ≡ false → Is z → Is (q ∷ z)
    in-front q z off h = (skips q z off ∙ h.0, λ e. absurd (false≢true e))

    errand : (q : Todo) (z : Todos) → is_errand q ≡ true → Is z → Is (q ∷ z)
    errand (Todo.wake who told) z on h = in-front (Todo.wake who told) z refl h
    errand (Todo.look who site before) z on h = in-front (Todo.look who site before) z refl h
    errand (Todo.tell_cut who) z on h = in-front (Todo.tell_cut who) z refl h
    errand (Todo.rouse who) z on h = in-front (Todo.rouse who) z refl h
    errand q z on h = absurd (false≢true on)

    put : (q : Todo) (z : Todos) → visits_row q ≡ true → names_row q ≡ true → Is z → Is (q ∷ z)
    put (Todo.pass who x) z visit few h = in-front (Todo.pass who x) z refl h
    put (Todo.drop x) z visit few h = in-front (Todo.drop x) z refl h
    put q z visit few h = absurd (false≢true visit)

    expands : (c : Context) → IsCalm c → Is [] → Is (next_steps image c c.pending)
    expands c calm h = let none = h.1 refl in (next-none c c.pending (calm none) ∙ h.0, λ e. none)

    away : (doomed : Bool) → Is [] → Is (put_away doomed)
    away true h = in-front Todo.done [] refl h
    away false h = in-front Todo.sleep (Todo.reread_asleep ∷ Todo.done ∷ []) refl (in-front Todo.reread_asleep (Todo.done ∷ []) refl (in-front Todo.done [] refl h))

    waited : (site : ℕ) (z : Todos) → IsActOver z → Is z → Is (z ++ Todo.reread site ∷ [])
    waited site _ act_alone h = in-front (Todo.reread site) [] refl h
    waited site _ (act_settled {deadline} {mark}) h = (behind (Todo.settle deadline mark) ∙ h.0, λ e. absurd (false≢true e))
      where
        behind : (q : Todo) → Count (q ∷ Todo.reread site ∷ []) ≡ Count (q ∷ [])
        behind q = ap (λ n. if test q then n + 1 else n) (skips (Todo.reread site) [] refl)
    waited site _ access_alone h = (
      skips (Todo.read_done None) (Todo.let_go ∷ Todo.reread site ∷ []) refl ∙ (skips Todo.let_go (Todo.reread site ∷ []) refl ∙ (skips (Todo.reread site) [] refl
          ∙ (sym (skips (Todo.read_done None) (Todo.let_go ∷ []) refl ∙ skips Todo.let_go [] refl) ∙ h.0))),
      λ e. absurd (false≢true e),
    )
    waited site _ (access_settled {deadline} {mark}) h = (
      skips (Todo.read_done None) (Todo.let_go ∷ Todo.settle deadline mark ∷ Todo.reread site ∷ []) refl ∙ (skips Todo.let_go (Todo.settle deadline mark ∷ Todo.reread site ∷ []) refl
          ∙ (ap (λ n. if test (Todo.settle deadline mark) then n + 1 else n) (skips (Todo.reread site) [] refl)
          ∙ (sym (skips (Todo.read_done None) (Todo.let_go ∷ Todo.settle deadline mark ∷ []) refl ∙ skips Todo.let_go (Todo.settle deadline mark ∷ []) refl) ∙ h.0))),
      λ e. absurd (false≢true e),
    )

    pub goes-count : (p : Processor) (e : FineStep) (q : Todo) → Behind image q todo → ReadsLast e q todo → IsCalm (goes_on_by image p e (q ∷ todo)).context
        → Count (goes_on_by image p e (q ∷ todo)).todo ≡ Count todo
    goes-count p e q over last calm = by q (ends-behind image Is (λ h doomed. away doomed h) (λ c z h. in-front (Todo.add c) z refl h) e q todo over last was) over calm
      where
        by-nil : (z : Todos) → is_nil z ≡ true → z ≡ []
        by-nil [] e = refl
        by-nil (x ∷ z) e = absurd (false≢true e)

        was : Is todo
        was = (refl, by-nil todo)

        by : (q : Todo) → EndsWell Is e q → Behind image q todo → IsCalm (goes_on_by image p e (q ∷ todo)).context → Count (goes_on_by image p e (q ∷ todo)).todo ≡ Count todo
        by (Todo.show q rest) ends over calm =
            (show-kept image Is IsCalm expands p e q rest todo Is calm waited over
            (λ z k. let made = shown_step image q e.act in looks-kept image Is errand (λ x y h. in-front (Todo.end_call x) y refl h) p.context made e (behind_step image p.context made e.moved z)
            (behind-kept image Is errand (λ x y h. in-front (Todo.end_call x) y refl h) p.context made e.moved z k))
            ends was).0
        by (Todo.read_claim d) ends over calm =
            claim-kept image (λ z. Count z ≡ Count todo) (λ z k. sym (skips Todo.region_load z refl) ∙ k) p e d todo (λ x some. skips (Todo.read_done (Some x)) todo refl) refl
        by (Todo.pass who x) ends over calm = (pass-kept image Is IsCalm expands p who x todo (λ y few k. in-front (Todo.pass who y) todo refl k) calm was).0
        by (Todo.drop x) ends over calm =
            (drop-kept image Is IsCalm expands p (dropped_at image p.context x (is_visit e.act)) x todo (λ y few k. in-front (Todo.drop y) todo refl k) calm was).0
        by (Todo.clean_pair who x) ends over calm =
            (either image Is (nat_lt (x + 1) ROWS) (Todo.clean_pair who (x + 1)) todo (λ few k. in-front (Todo.clean_pair who (x + 1)) todo refl k) was).0
        by q ends over calm = (goes-kept image Is IsCalm expands p errand e q todo refl calm ends was).0

    -- a cleaning that begins has to do with no mark
    emptying-count : (x : ℕ) (z : Todos) → Count (emptying x ++ z) ≡ Count z
    emptying-count x z =
        skips (Todo.wipe x) (Todo.vacate x ∷ Todo.recycle x ∷ z) refl ∙ (skips (Todo.vacate x) (Todo.recycle x ∷ z) refl ∙ skips (Todo.recycle x) z refl)

    block-count : (x : ℕ) (o : Option ℕ) (z : Todos) → thread_of_row image x ≡ o → Count (cleaning_of x o ++ z) ≡ Count z
    block-count x None z e = emptying-count x z
    block-count x (Some who) z e = skips (Todo.clean_pair who 0) (emptying x ++ z) refl ∙ emptying-count x z

    pub cleaned-count : (x : ℕ) (z : Todos) → Count (with_cleaning (cleaning image x) z) ≡ Count z
    cleaned-count x z =
        cleaning-kept image (λ old new. Count new ≡ Count old) x (block-count x) (λ q old new c h. ap (λ n. if test q then n + 1 else n) h) z

    next-is : (p : Processor) (e : FineStep) (b : Bool) → Count (with_cleaned image p e b).todo ≡ Count p.todo
    next-is p e true = cleaned-count (row_number e.site) p.todo
    next-is p e false = refl

    pub next-made : (p : Processor) (e : FineStep) → Count (p_next image p e).todo ≡ Count (goes_on_by image p e p.todo).todo
    next-made p e =
        let q = with_cleaned image (goes_on_by image p e p.todo) e (begins_cleaning e) in
        acted-kept image (λ z. Count z ≡ Count q.todo) q e.act refl ∙ next-is (goes_on_by image p e p.todo) e (begins_cleaning e)

    -- after a step of this list
    pub next-count : (p : Processor) (e : FineStep) (q : Todo) → p.todo ≡ q ∷ todo → Behind image q todo → ReadsLast e q todo → IsCalm (goes_on_by image p e (q ∷ todo)).context
        → Count (p_next image p e).todo ≡ Count todo
    next-count p e q at over last calm = next-made p e ∙ (ap (λ (z : Todos). Count (goes_on_by image p e z).todo) at ∙ goes-count p e q over last calm)

  -- Where a processor takes a thread for whose next step no deadline is armed, it has none; it has those of the mark that it takes.
  abbrev pub TakesCalm : Exchange → Type 0
  TakesCalm (Exchange.thread c None) = (armed_next image c c.pending ≡ None) ⊎ IsFree
  TakesCalm (Exchange.thread c (Some told)) = (armed_next image (resumed image c told) (resumed image c told).pending ≡ None) ⊎ IsFree
  TakesCalm moved = Unit {0}

  pub takes-free : IsFree → (moved : Exchange) → TakesCalm moved
  takes-free free (Exchange.thread c None) = inr free
  takes-free free (Exchange.thread c (Some told)) = inr free
  takes-free free moved = tt

  abbrev pub in_hand : Exchange → ℕ
  in_hand (Exchange.mark deadline mark) = Count (handling deadline mark)
  in_hand moved = 0

  taken : (p : Processor) (moved : Exchange) → p.todo ≡ [] → TakesCalm moved → Count (after_take image p moved).todo ≡ in_hand moved
  taken p (Exchange.thread c None) at calm = by (is_empty c.pending)
    where
      turns : (instr : Option Instr) → Count (turn_of image instr) ≡ 0
      turns None = shown Pending.Exit []
      turns (Some instr) = shown Pending.Begin []

      by : (b : Bool) → Count (if b then record p { context = c; todo = turn image c } else refilled_by image (record p { context = c }) []).todo ≡ 0
      by true = turns (instruction_at image c.place)
      by false = next-none c c.pending calm
  taken p (Exchange.thread c (Some told)) at calm = next-none (resumed image c told) (resumed image c told).pending calm
  taken p (Exchange.mark deadline mark) at calm = refl
  taken p moved at calm = ap Count at

  pub taken-count : (p : Processor) (e : FineStep) → p.todo ≡ [] → TakesCalm e.moved → Count (p_next image p e).todo ≡ in_hand e.moved
  taken-count p e at calm = next-made [] p e ∙ (ap (λ (z : Todos). Count (goes_on_by image p e z).todo) at ∙ taken p e.moved at calm)
