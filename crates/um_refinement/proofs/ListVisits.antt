-- How far a processor has visited the permissions of a thread whose object it cleans, after a step: only its visits change that, and a
-- cleaning of the object that begins.
use Rattle.um_refinement.proofs.Words.{◌≡◌, ℕ, ◌+◌, ◌≤◌, Bool, true, false, [], ◌∷◌, ◌++◌, Option, Some, None, refl, sym, ap, ◌∙◌, arith, eq-eqb, ◌==◌, if◌then◌else◌, nat_lt, list_all, and_parts, eqb-true, ltb-true, true≢false, false≢true, Image, ROWS, own_row, thread_of_row, Pending, Steps, is_visit, Context, dropped_at, goes_on_by, Todo, Todos, cleaning, cleaning_of, end_of_turn, fine_steps, next_steps, with_cleaning, is_cleaning_todo, Processor, FineStep, AreBlocks, Behind, cleaned_pairs, counted, is_recycle, names_row, behind_step}
use Rattle.um_fine.specs.Follows.{shown_step}
use Rattle.um_fine.specs.Places.{put_away}
use Rattle.um_refinement.specs.Frames.{IsActOver, access_alone, access_settled, act_alone, act_settled}
use Rattle.um_refinement.proofs.CleanSteps.{OwnRows}
use Rattle.um_refinement.proofs.ListCounts.{count-cons}
use Rattle.um_refinement.proofs.ListGrowth.{ends-behind, ReadsLast, forms-kept, is_clean_pair, is_errand, looks-kept, next-kept, visits_row, EndsWell, cleaning-kept, show-kept, behind-kept, claim-kept, pass-kept, drop-kept, goes-kept}

-- the steps named are rows, so a visit is of one
pub cleaned-bounded : (who : ℕ) (todo : Todos) → list_all names_row todo ≡ true → cleaned_pairs who todo ≤ ROWS
cleaned-bounded who [] h = omega arith
cleaned-bounded who (Todo.clean_pair u x ∷ todo) h = by (u == who) (cleaned-bounded who todo (and_parts (nat_lt x ROWS) (list_all names_row todo) h).1)
  where
    parts : (nat_lt x ROWS ≡ true) × (list_all names_row todo ≡ true)
    parts = and_parts (nat_lt x ROWS) (list_all names_row todo) h

    by : (b : Bool) → cleaned_pairs who todo ≤ ROWS → (if b then x else cleaned_pairs who todo) ≤ ROWS
    by true more = let l = ltb-true x ROWS parts.0 in omega (arith, l)
    by false more = more
cleaned-bounded who (q ∷ todo) h = cleaned-bounded who todo (and_parts (names_row q) (list_all names_row todo) h).1

module _ (image : Image) (who : ℕ) where
  abbrev At : Todos → ℕ
  At todo = cleaned_pairs who todo

  pub skips-visit : (q : Todo) (todo : Todos) → is_clean_pair q ≡ false → At (q ∷ todo) ≡ At todo
  skips-visit (Todo.clean_pair u x) todo h = absurd (true≢false h)
  skips-visit q todo h = refl

  abbrev Is : ℕ → Todos → Type 0
  Is n todo = At todo ≡ n

  abbrev All : Context → Type 0
  All c = Unit {0}

  fine-visits : (c : Context) (q : Pending) (rest : Steps) → At (fine_steps image c q rest) ≡ ROWS
  fine-visits = forms-kept image (Is ROWS)
      (record {
        note = λ site todo h. h;
        act = λ q rest. refl;
        settles = λ q rest deadline mark. refl;
        access = λ q rest. refl;
        access_settles = λ q rest deadline mark. refl;
        look = λ x todo h. h;
        owe = λ q rest. refl;
        leave = λ a rest. refl;
        edit = λ d q rest. refl;
        move = λ d who rest. refl;
        start = λ who q rest c. refl;
      })

  errand : (n : ℕ) (q : Todo) (todo : Todos) → is_errand q ≡ true → Is n todo → Is n (q ∷ todo)
  errand n (Todo.clean_pair u x) todo on h = absurd (false≢true on)
  errand n q todo on h = h

  away-visits : (doomed : Bool) → At (put_away doomed) ≡ ROWS
  away-visits true = refl
  away-visits false = refl

  waited : (n site : ℕ) (todo : Todos) → IsActOver todo → Is n todo → Is n (todo ++ Todo.reread site ∷ [])
  waited n site _ act_alone h = h
  waited n site _ act_settled h = h
  waited n site _ access_alone h = h
  waited n site _ access_settled h = h

  put : (q : Todo) (todo : Todos) → visits_row q ≡ true → names_row q ≡ true → Is ROWS todo → Is ROWS (q ∷ todo)
  put (Todo.clean_pair u x) todo visit few h = absurd (false≢true visit)
  put q todo visit few h = h

  next-visits : (c : Context) (steps : Steps) → At (next_steps image c steps) ≡ ROWS
  next-visits c steps = next-kept image (Is ROWS) put fine-visits (λ b. elim b as (λ b. At (end_of_turn image b) ≡ ROWS) [ true ↦ refl | false ↦ refl ]) c steps

  expands : (n : ℕ) (c : Context) → All c → Is n [] → Is n (next_steps image c c.pending)
  expands n c of h = next-visits c c.pending ∙ h

  -- any other step leaves it
  pub goes-visits : (p : Processor) (e : FineStep) (q : Todo) (todo : Todos) → is_clean_pair q ≡ false → Behind image q todo → ReadsLast e q todo → At (goes_on_by image p e (q ∷ todo)).todo ≡ At todo
  goes-visits p e q todo free h last = by q free (ends-behind image (Is (At todo)) (λ k doomed. away-visits doomed ∙ k) (λ c z k. k) e q todo h last refl) h
    where
      by : (q : Todo) → is_clean_pair q ≡ false → EndsWell (Is (At todo)) e q → Behind image q todo → Is (At todo) (goes_on_by image p e (q ∷ todo)).todo
      by (Todo.show q rest) free ends over =
          let n = At todo in
          show-kept image (Is n) All (expands n) p e q rest todo (Is n) tt (waited n) over
          (λ z k. let made = shown_step image q e.act in looks-kept image (Is n) (errand n) (λ x y g. g) p.context made e (behind_step image p.context made e.moved z)
          (behind-kept image (Is n) (errand n) (λ x y g. g) p.context made e.moved z k))
          ends refl
      by (Todo.read_claim d) free ends over = claim-kept image (Is (At todo)) (λ z k. k) p e d todo (λ x at. refl) refl
      by (Todo.clean_pair u x) free ends over = absurd (true≢false free)
      by (Todo.pass u x) free ends over = pass-kept image (Is (At todo)) All (expands (At todo)) p u x todo (λ y few k. k) tt refl
      by (Todo.drop x) free ends over = drop-kept image (Is (At todo)) All (expands (At todo)) p (dropped_at image p.context x (is_visit e.act)) x todo (λ y few k. k) tt refl
      by q free ends over = goes-kept image (Is (At todo)) All (expands (At todo)) p (errand (At todo)) e q todo refl tt ends refl

  -- The cleaning of another object begins.
  pub cleaned-apart : (x : ℕ) → (thread_of_row image x ≡ Some who → ⊥) → (todo : Todos) → At (with_cleaning (cleaning image x) todo) ≡ At todo
  cleaned-apart x ne todo = cleaning-kept image (λ old new. At new ≡ At old) x first later todo
    where
      first : (o : Option ℕ) (todo : Todos) → thread_of_row image x ≡ o → At (cleaning_of x o ++ todo) ≡ At todo
      first None todo q = refl
      first (Some u) todo q = other (u == who) refl
        where
          other : (b : Bool) → (u == who) ≡ b → (if b then 0 else At todo) ≡ At todo
          other true k = absurd (ne (q ∙ ap Some (eqb-true u who k)))
          other false k = refl

      later : (q : Todo) (old new : Todos) → is_cleaning_todo q ≡ true → At new ≡ At old → At (q ∷ new) ≡ At (q ∷ old)
      later (Todo.clean_pair u y) old new c h = ap (λ n. if u == who then y else n) h
      later q old new c h = h

  -- that of the thread's object begins with its first visit
  pub cleaned-first : (x : ℕ) → OwnRows image → thread_of_row image x ≡ Some who → (todo : Todos) → AreBlocks image todo → counted (is_recycle x) todo ≡ 0 → At (with_cleaning (cleaning image x) todo) ≡ 0
  cleaned-first x own at [] h none = ap (λ o. At (cleaning_of x o)) at ∙ ap (λ b. if b then 0 else ROWS) (eq-eqb who who refl)
  cleaned-first x own at (Todo.clean_pair u y ∷ todo) h none = by (u == who) refl (cleaned-first x own at todo h.1 none)
    where
      by : (b : Bool) → (u == who) ≡ b → At (with_cleaning (cleaning image x) todo) ≡ 0 → (if u == who then y else At (with_cleaning (cleaning image x) todo)) ≡ 0
      by true k more =
          let z = h.0.0 in
          let same : x ≡ z = sym (own x who at).0 ∙ (ap (own_row image) (sym (eqb-true u who k)) ∙ (own z u h.0.1).0) in
          let list : counted (is_recycle x) todo ≡ (if x == z then counted (is_recycle x) h.0.2.0 + 1 else counted (is_recycle x) h.0.2.0) = ap (counted (is_recycle x)) h.0.2.1 in
          let some = list ∙ ap (λ b. if b then counted (is_recycle x) h.0.2.0 + 1 else counted (is_recycle x) h.0.2.0) (eq-eqb x z same) in
          absurd (omega (arith, some, none))
      by false k more = ap (λ b. if b then y else At (with_cleaning (cleaning image x) todo)) k ∙ more
  cleaned-first x own at (Todo.wipe y ∷ todo) h none = cleaned-first x own at todo h.1 none
  cleaned-first x own at (Todo.vacate y ∷ todo) h none = cleaned-first x own at todo h.1 none
  cleaned-first x own at (Todo.recycle y ∷ todo) h none = let all = count-cons (is_recycle x) (Todo.recycle y) todo in cleaned-first x own at todo h (omega (arith, all, none))
  cleaned-first x own at (q ∷ todo) h none = ap (λ o. At (cleaning_of x o ++ q ∷ todo)) at ∙ ap (λ b. if b then 0 else At (q ∷ todo)) (eq-eqb who who refl)
