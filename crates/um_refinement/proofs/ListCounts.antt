-- How many steps of cleanings are on a processor's list after a step of it: those behind that step, and those of a cleaning that it begins.
use Rattle.um_refinement.proofs.Words.{◌≡◌, ℕ, ◌+◌, Bool, true, false, ◌∷◌, ◌++◌, Option, Some, None, refl, sym, behind_step, ap, ◌∙◌, arith, [], ◌||◌, if◌then◌else◌, list_any, false≢true, true≢false, Image, thread_of_row, Pending, Steps, begins_cleaning, Context, goes_on_by, p_next, row_number, with_cleaned, Todo, Todos, cleaning, cleaning_of, emptying, end_of_turn, fine_steps, next_steps, with_cleaning, Processor, FineStep, AreBlocks, one_if, Behind, counted, is_recycle, is_vacate, is_wipe, names_row}
use Rattle.um_words.specs.declared.fine.Mark.{Mark}
use Rattle.um_fine.specs.Follows.{shown_step}
use Rattle.um_fine.specs.Places.{put_away}
use Rattle.um_refinement.specs.Frames.{IsActOver, access_alone, access_settled, act_alone, act_settled}
use Rattle.um_refinement.proofs.ListGrowth.{EndsWell, ReadsLast, acted-kept, behind-kept, cleaning-kept, ends-behind, forms-kept, is_errand, looks-kept, next-kept, quiet-kept, show-kept, take-kept, turn-kept, visits_row}

-- the steps that clear a cell, vacate a row, or recycle an object
abbrev pub empties : Todo → Bool
empties (Todo.wipe x) = true
empties (Todo.vacate x) = true
empties (Todo.recycle x) = true
empties q = false

-- a test that other steps don't pass
abbrev pub IsOfEmptying : (Todo → Bool) → Type 0
IsOfEmptying test = (q : Todo) → empties q ≡ false → test q ≡ false

pub wipes-of : (x : ℕ) → IsOfEmptying (is_wipe x)
wipes-of x (Todo.wipe y) h = absurd (true≢false h)
wipes-of x q h = refl

pub vacates-of : (x : ℕ) → IsOfEmptying (is_vacate x)
vacates-of x (Todo.vacate y) h = absurd (true≢false h)
vacates-of x q h = refl

pub recycles-of : (x : ℕ) → IsOfEmptying (is_recycle x)
recycles-of x (Todo.recycle y) h = absurd (true≢false h)
recycles-of x q h = refl

module _ (test : Todo → Bool) (of : IsOfEmptying test) where
  abbrev Count : Todos → ℕ
  Count todo = counted test todo

  pub skips : (q : Todo) (todo : Todos) → empties q ≡ false → Count (q ∷ todo) ≡ Count todo
  skips q todo h = ap (λ b. if b then Count todo + 1 else Count todo) (of q h)

  none-of : (todo : Todos) → list_any empties todo ≡ false → Count todo ≡ 0
  none-of [] h = refl
  none-of (q ∷ todo) h = by (empties q) refl h (none-of todo)
    where
      by : (b : Bool) → empties q ≡ b → (b || list_any empties todo) ≡ false → (list_any empties todo ≡ false → Count todo ≡ 0) → Count (q ∷ todo) ≡ 0
      by true e k more = absurd (true≢false k)
      by false e k more = skips q todo e ∙ more k

  module _ (image : Image) where
    abbrev Is : ℕ → Todos → Type 0
    Is n todo = Count todo ≡ n

    abbrev All : Context → Type 0
    All c = Unit {0}

    fine-none : (c : Context) (q : Pending) (rest : Steps) → list_any empties (fine_steps image c q rest) ≡ false
    fine-none = forms-kept image (λ todo. list_any empties todo ≡ false)
        (record {
          note = λ site todo h. h;
          act = λ q rest. refl;
          settles = λ q rest deadline mark. refl;
          access = λ q rest. refl;
          access_settles = λ q rest deadline mark. refl;
          look = λ x todo h. h;
          owe = λ q rest. refl;
          leave = λ a rest. refl;
          edit = λ d q rest. refl;
          move = λ d who rest. refl;
          start = λ who q rest c. refl;
        })

    errand : (n : ℕ) (q : Todo) (todo : Todos) → is_errand q ≡ true → Is n todo → Is n (q ∷ todo)
    errand n (Todo.wake who told) todo on h = skips (Todo.wake who told) todo refl ∙ h
    errand n (Todo.look who site before) todo on h = skips (Todo.look who site before) todo refl ∙ h
    errand n (Todo.tell_cut who) todo on h = skips (Todo.tell_cut who) todo refl ∙ h
    errand n (Todo.rouse who) todo on h = skips (Todo.rouse who) todo refl ∙ h
    errand n q todo on h = absurd (false≢true on)

    ended : (n : ℕ) (x : ℕ) (todo : Todos) → Is n todo → Is n (Todo.end_call x ∷ todo)
    ended n x todo h = skips (Todo.end_call x) todo refl ∙ h

    away-count : (doomed : Bool) → Count (put_away doomed) ≡ 0
    away-count true = skips Todo.done [] refl
    away-count false = skips Todo.sleep (Todo.reread_asleep ∷ Todo.done ∷ []) refl ∙ (skips Todo.reread_asleep (Todo.done ∷ []) refl ∙ skips Todo.done [] refl)

    waited : (n site : ℕ) (todo : Todos) → IsActOver todo → Is n todo → Is n (todo ++ Todo.reread site ∷ [])
    waited n site _ act_alone h = skips (Todo.reread site) [] refl ∙ h
    waited n site _ (act_settled {deadline} {mark}) h =
        skips (Todo.settle deadline mark) (Todo.reread site ∷ []) refl ∙ (skips (Todo.reread site) [] refl ∙ (sym (skips (Todo.settle deadline mark) [] refl) ∙ h))
    waited n site _ access_alone h =
        skips (Todo.read_done None) (Todo.let_go ∷ Todo.reread site ∷ []) refl ∙ (skips Todo.let_go (Todo.reread site ∷ []) refl ∙ (skips (Todo.reread site) [] refl
        ∙ (sym (skips (Todo.read_done None) (Todo.let_go ∷ []) refl ∙ skips Todo.let_go [] refl) ∙ h)))
    waited n site _ (access_settled {deadline} {mark}) h =
        skips (Todo.read_done None) (Todo.let_go ∷ Todo.settle deadline mark ∷ Todo.reread site ∷ []) refl ∙ (skips Todo.let_go (Todo.settle deadline mark ∷ Todo.reread site ∷ []) refl
        ∙ (skips (Todo.settle deadline mark) (Todo.reread site ∷ []) refl ∙ (skips (Todo.reread site) [] refl
        ∙ (sym (skips (Todo.read_done None) (Todo.let_go ∷ Todo.settle deadline mark ∷ []) refl ∙ (skips Todo.let_go (Todo.settle deadline mark ∷ []) refl ∙ skips (Todo.settle deadline mark) [] refl)) ∙ h))))

    end-none : (b : Bool) → list_any empties (end_of_turn image b) ≡ false
    end-none true = refl
    end-none false = refl

    put : (n : ℕ) (q : Todo) (todo : Todos) → visits_row q ≡ true → names_row q ≡ true → Is n todo → Is n (q ∷ todo)
    put n (Todo.wipe x) todo visit few h = absurd (false≢true visit)
    put n (Todo.vacate x) todo visit few h = absurd (false≢true visit)
    put n (Todo.recycle x) todo visit few h = absurd (false≢true visit)
    put n q todo visit few h = skips q todo refl ∙ h

    next-count : (c : Context) (steps : Steps) → Count (next_steps image c steps) ≡ 0
    next-count c steps =
        next-kept image (Is 0) (put 0) (λ d q rest. none-of (fine_steps image d q rest) (fine-none d q rest)) (λ b. none-of (end_of_turn image b) (end-none b)) c steps

    expands : (n : ℕ) (c : Context) → All c → Is n [] → Is n (next_steps image c c.pending)
    expands n c of h = next-count c c.pending ∙ h

    -- the steps of a cleaning
    one-more : (q : Todo) (todo : Todos) → Count (q ∷ todo) ≡ Count (q ∷ []) + Count todo
    one-more q todo = elim (test q) as (λ b. (if b then Count todo + 1 else Count todo) ≡ (if b then 0 + 1 else 0) + Count todo) [ true ↦ omega arith | false ↦ omega arith ]

    emptying-count : (x : ℕ) (todo : Todos) → Count (emptying x ++ todo) ≡ Count (emptying x) + Count todo
    emptying-count x todo =
        let a = one-more (Todo.wipe x) (Todo.vacate x ∷ Todo.recycle x ∷ todo) in
        let b = one-more (Todo.vacate x) (Todo.recycle x ∷ todo) in
        let c = one-more (Todo.recycle x) todo in
        let d = one-more (Todo.wipe x) (Todo.vacate x ∷ Todo.recycle x ∷ []) in
        let g = one-more (Todo.vacate x) (Todo.recycle x ∷ []) in
        omega (arith, a, b, c, d, g)

    block-count : (x : ℕ) (o : Option ℕ) (todo : Todos) → thread_of_row image x ≡ o → Count (cleaning_of x o ++ todo) ≡ Count (emptying x) + Count todo
    block-count x None todo e = emptying-count x todo
    block-count x (Some who) todo e = skips (Todo.clean_pair who 0) (emptying x ++ todo) refl ∙ emptying-count x todo

    behind-one : (q : Todo) (n : ℕ) (new old : Todos) → Count new ≡ n + Count old → Count (q ∷ new) ≡ n + Count (q ∷ old)
    behind-one q n new old h =
        elim (test q) as (λ b. (if b then Count new + 1 else Count new) ≡ n + (if b then Count old + 1 else Count old)) [ true ↦ omega (arith, h) | false ↦ h ]

    cleaned-count : (x : ℕ) (todo : Todos) → Count (with_cleaning (cleaning image x) todo) ≡ Count (emptying x) + Count todo
    cleaned-count x todo =
        cleaning-kept image (λ old new. Count new ≡ Count (emptying x) + Count old) x (block-count x) (λ q old new c h. behind-one q (Count (emptying x)) new old h) todo

    pub goes-count : (p : Processor) (e : FineStep) (q : Todo) (todo : Todos) → Behind image q todo → ReadsLast e q todo → Count (goes_on_by image p e (q ∷ todo)).todo ≡ Count todo
    goes-count p e q todo h last = by q (ends-behind image (Is (Count todo)) (λ k doomed. away-count doomed ∙ k) (λ c z k. skips (Todo.add c) z refl ∙ k) e q todo h last refl) h
      where
        by : (q : Todo) → EndsWell (Is (Count todo)) e q → Behind image q todo → Is (Count todo) (goes_on_by image p e (q ∷ todo)).todo
        by (Todo.show q rest) ends over =
            let n = Count todo in
            show-kept image (Is n) All (expands n) p e q rest todo (Is n) tt (waited n) over
            (λ z k. let made = shown_step image q e.act in looks-kept image (Is n) (errand n) (ended n) p.context made e (behind_step image p.context made e.moved z)
            (behind-kept image (Is n) (errand n) (ended n) p.context made e.moved z k))
            ends refl
        by q ends over =
            quiet-kept image (Is (Count todo)) All (expands (Count todo)) p (errand (Count todo)) (put (Count todo)) (λ who x z few k. skips (Todo.clean_pair who x) z refl ∙ k) (λ z k. sym (skips Todo.region_load z refl) ∙ k)
            (λ d z k. skips (Todo.read_done (Some d)) z refl ∙ k) e q todo refl tt ends refl

    -- what a cleaning adds
    abbrev pub begun : FineStep → Bool → ℕ
    begun e true = Count (emptying (row_number e.site))
    begun e false = 0

    with-cleaned-count : (p : Processor) (e : FineStep) (b : Bool) → Count (with_cleaned image p e b).todo ≡ begun e b + Count p.todo
    with-cleaned-count p e true = cleaned-count (row_number e.site) p.todo
    with-cleaned-count p e false = omega arith

    acted-count : (p : Processor) (e : FineStep) → Count (p_next image p e).todo ≡ begun e (begins_cleaning e) + Count (goes_on_by image p e p.todo).todo
    acted-count p e =
        let q = with_cleaned image (goes_on_by image p e p.todo) e (begins_cleaning e) in
        acted-kept image (λ todo. Count todo ≡ Count q.todo) q e.act refl ∙ with-cleaned-count (goes_on_by image p e p.todo) e (begins_cleaning e)

    pub next-counts : (p : Processor) (e : FineStep) (q : Todo) (todo : Todos) → p.todo ≡ q ∷ todo → Behind image q todo → ReadsLast e q todo
        → Count (p_next image p e).todo ≡ begun e (begins_cleaning e) + Count todo
    next-counts p e q todo at h last =
        acted-count p e
        ∙ ap (λ n. begun e (begins_cleaning e) + n) (ap (λ (z : Todos). Count (goes_on_by image p e z).todo) at ∙ goes-count p e q todo h last)

    pub takes-counts : (p : Processor) (e : FineStep) → p.todo ≡ [] → begins_cleaning e ≡ false → Count (p_next image p e).todo ≡ 0
    takes-counts p e at quiet =
        let all = acted-count p e in
        let none = ap (begun e) quiet in
        let turn = turn-kept image (Is 0) (skips (Todo.show Pending.Begin []) [] refl) (skips (Todo.show Pending.Exit []) [] refl) in
        let hand = λ (deadline : ℕ) (mark : Mark). skips (Todo.handle deadline mark) (Todo.paid ∷ []) refl ∙ skips Todo.paid [] refl in
        let rest = ap (λ (z : Todos). Count (goes_on_by image p e z).todo) at ∙ take-kept image (Is 0) All (expands 0) p turn hand e.moved tt refl (ap Count at) in
        omega (arith, all, none, rest)

-- A processor that doesn't recycle an object has nothing left of its cleaning: it clears no cell, and vacates no row.

pub count-cons : (test : Todo → Bool) (q : Todo) (todo : Todos) → counted test (q ∷ todo) ≡ one_if (test q) + counted test todo
count-cons test q todo = elim (test q) as (λ b. (if b then counted test todo + 1 else counted test todo) ≡ one_if b + counted test todo) [ true ↦ omega arith | false ↦ omega arith ]

blocks-behind : (image : Image) (q : Todo) (todo : Todos) → AreBlocks image (q ∷ todo) → AreBlocks image todo
blocks-behind image (Todo.clean_pair who y) todo h = h.1
blocks-behind image (Todo.wipe z) todo h = h.1
blocks-behind image (Todo.vacate z) todo h = h.1
blocks-behind image q todo h = h

begins-none : (image : Image) (x : ℕ) (q : Todo) (todo : Todos) → AreBlocks image (q ∷ todo) → counted (is_recycle x) (q ∷ todo) ≡ 0 → (one_if (is_wipe x q) ≡ 0) × (one_if (is_vacate x q) ≡ 0)
begins-none image x (Todo.wipe z) todo h none =
    let recycled = count-cons (is_recycle x) (Todo.recycle z) h.0.0 in
    let same = ap (counted (is_recycle x)) h.0.1 in (omega (arith, recycled, same, none), refl)
begins-none image x (Todo.vacate z) todo h none =
    let recycled = count-cons (is_recycle x) (Todo.recycle z) h.0.0 in
    let same = ap (counted (is_recycle x)) h.0.1 in (refl, omega (arith, recycled, same, none))
begins-none image x q todo h none = (refl, refl)

pub cleans-none : (image : Image) (x : ℕ) (todo : Todos) → AreBlocks image todo → counted (is_recycle x) todo ≡ 0 → (counted (is_wipe x) todo ≡ 0) × (counted (is_vacate x) todo ≡ 0)
cleans-none image x [] h none = (refl, refl)
cleans-none image x (q ∷ todo) h none =
    let recycles = count-cons (is_recycle x) q todo in
    let wipes = count-cons (is_wipe x) q todo in
    let vacates = count-cons (is_vacate x) q todo in
    let here = begins-none image x q todo h none in
    let behind = cleans-none image x todo (blocks-behind image q todo h) (omega (arith, recycles, none)) in
    let (wipe, vacate) = here in
    let (no_wipe, no_vacate) = behind in (omega (arith, wipes, wipe, no_wipe), omega (arith, vacates, vacate, no_vacate))
