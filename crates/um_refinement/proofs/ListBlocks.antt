-- Each step leaves a list on which right behind each step of a cleaning stands what is left of it.
use Rattle.um_refinement.proofs.Words.{◌≡◌, ℕ, ◌+◌, Bool, true, false, ◌==◌, cond, thread_in, behind_step, [], ◌∷◌, ◌++◌, Option, Some, None, refl, ap, ◌<◌, false≢true, if◌then◌else◌, nat_lt, Image, ROWS, thread_of_row, Pending, Steps, State, is_visit, Context, FineStep, Todo, Todos, cleaning, cleaning_of, end_of_turn, fine_steps, next_steps, with_cleaning, Processor, dropped_at, goes_on_by, p_next, row_number, with_cleaned, begins_cleaning, cpu_of, same_cpu, Fine, AreBlocks, names_row, Rel}
use Rattle.um_fine.specs.Follows.{shown_step}
use Rattle.um_fine.specs.Places.{put_away}
use Rattle.um_fine.specs.Runs.{changed}
use Rattle.um_refinement.specs.Frames.{AreFramed, IsActOver, access_alone, access_settled, act_alone, act_settled}
use Rattle.um_refinement.proofs.ListGrowth.{acted-kept, behind-kept, claim-kept, drop-kept, ends-always, forms-kept, goes-kept, is_errand, looks-kept, next-kept, pass-kept, show-kept, take-kept, turn-kept, visits_row}

module _ (image : Image) where
  abbrev Are : Todos → Type 0
  Are todo = AreBlocks image todo

  fine-blocks : (c : Context) (q : Pending) (rest : Steps) → Are (fine_steps image c q rest)
  fine-blocks = forms-kept image Are
      (record {
        note = λ site todo h. h;
        act = λ q rest. tt;
        settles = λ q rest deadline mark. tt;
        access = λ q rest. tt;
        access_settles = λ q rest deadline mark. tt;
        look = λ x todo h. h;
        owe = λ q rest. tt;
        leave = λ a rest. tt;
        edit = λ d q rest. tt;
        move = λ d who rest. tt;
        start = λ who q rest c. tt;
      })

  errand-blocks : (q : Todo) (todo : Todos) → is_errand q ≡ true → Are todo → Are (q ∷ todo)
  errand-blocks (Todo.wake who told) todo on h = h
  errand-blocks (Todo.look who site before) todo on h = h
  errand-blocks (Todo.tell_cut who) todo on h = h
  errand-blocks (Todo.rouse who) todo on h = h
  errand-blocks q todo on h = absurd (false≢true on)

  away-blocks : (doomed : Bool) → Are (put_away doomed)
  away-blocks true = tt
  away-blocks false = tt

  waited-blocks : (site : ℕ) (todo : Todos) → IsActOver todo → Are todo → Are (todo ++ Todo.reread site ∷ [])
  waited-blocks site _ act_alone h = tt
  waited-blocks site _ act_settled h = tt
  waited-blocks site _ access_alone h = tt
  waited-blocks site _ access_settled h = tt

  put : (q : Todo) (todo : Todos) → visits_row q ≡ true → names_row q ≡ true → Are todo → Are (q ∷ todo)
  put (Todo.pass who x) todo visit few h = h
  put (Todo.drop x) todo visit few h = h
  put q todo visit few h = absurd (false≢true visit)

  abbrev All : Context → Type 0
  All c = Unit {0}

  expands : (c : Context) → All c → Are [] → Are (next_steps image c c.pending)
  expands c of h = next-kept image Are put fine-blocks (λ b. elim b as (λ b. Are (end_of_turn image b)) [ true ↦ tt | false ↦ tt ]) c c.pending

  -- A cleaning stands behind those that have begun.

  block-first : (x : ℕ) (o : Option ℕ) (todo : Todos) → thread_of_row image x ≡ o → Are todo → Are (cleaning_of x o ++ todo)
  block-first x None todo e h = ((todo, refl), ((todo, refl), h))
  block-first x (Some who) todo e h = ((x, e, (todo, refl)), ((todo, refl), ((todo, refl), h)))

  block-alone : (x : ℕ) (o : Option ℕ) → thread_of_row image x ≡ o → Are (cleaning_of x o)
  block-alone x None e = (([], refl), (([], refl), tt))
  block-alone x (Some who) e = ((x, e, ([], refl)), (([], refl), (([], refl), tt)))

  cleaned-blocks : (x : ℕ) (todo : Todos) → Are todo → Are (with_cleaning (cleaning image x) todo)
  cleaned-blocks x [] h = block-alone x (thread_of_row image x) refl
  cleaned-blocks x (Todo.clean_pair who y ∷ todo) h =
      ((h.0.0, h.0.1, (with_cleaning (cleaning image x) h.0.2.0, ap (with_cleaning (cleaning image x)) h.0.2.1)), cleaned-blocks x todo h.1)
  cleaned-blocks x (Todo.wipe y ∷ todo) h = ((with_cleaning (cleaning image x) h.0.0, ap (with_cleaning (cleaning image x)) h.0.1), cleaned-blocks x todo h.1)
  cleaned-blocks x (Todo.vacate y ∷ todo) h = ((with_cleaning (cleaning image x) h.0.0, ap (with_cleaning (cleaning image x)) h.0.1), cleaned-blocks x todo h.1)
  cleaned-blocks x (Todo.recycle y ∷ todo) h = cleaned-blocks x todo h
  cleaned-blocks x (q ∷ todo) h = block-first x (thread_of_row image x) (q ∷ todo) refl h

  -- A step.

  pub goes-blocks : (p : Processor) (e : FineStep) (todo : Todos) → AreFramed image todo → Are p.todo → Are todo → Are (goes_on_by image p e todo).todo
  goes-blocks p e [] framed was h = take-kept image Are All expands p (turn-kept image Are tt tt) (λ deadline mark. tt) e.moved tt tt was
  goes-blocks p e (Todo.show q rest ∷ todo) framed was h =
      show-kept image Are All expands p e q rest todo Are tt waited-blocks framed.0
      (λ z k. let made = shown_step image q e.act in looks-kept image Are errand-blocks (λ x y g. g) p.context made e (behind_step image p.context made e.moved z)
      (behind-kept image Are errand-blocks (λ x y g. g) p.context made e.moved z k))
      (λ read. away-blocks (thread_in e.word).doomed) h
  goes-blocks p e (Todo.clean_pair who x ∷ todo) framed was h =
      elim (nat_lt (x + 1) ROWS) as (λ b. Are (if b then Todo.clean_pair who (x + 1) ∷ todo else todo)) [ true ↦ h | false ↦ h.1 ]
  goes-blocks p e (Todo.wipe x ∷ todo) framed was h = h.1
  goes-blocks p e (Todo.vacate x ∷ todo) framed was h = h.1
  goes-blocks p e (Todo.read_claim d ∷ todo) framed was h = claim-kept image Are (λ z k. k) p e d todo (λ x at. h) h
  goes-blocks p e (Todo.pass who x ∷ todo) framed was h = pass-kept image Are All expands p who x todo (λ y few k. k) tt h
  goes-blocks p e (Todo.drop x ∷ todo) framed was h = drop-kept image Are All expands p (dropped_at image p.context x (is_visit e.act)) x todo (λ y few k. k) tt h
  goes-blocks p e (q ∷ todo) framed was h = goes-kept image Are All expands p errand-blocks e q todo refl tt (ends-always Are tt away-blocks (λ c z k. k) e q) h

  with-cleaned-blocks : (p : Processor) (e : FineStep) (b : Bool) → Are p.todo → Are (with_cleaned image p e b).todo
  with-cleaned-blocks p e false h = h
  with-cleaned-blocks p e true h = cleaned-blocks (row_number e.site) p.todo h

  -- whatever a processor's step is, it leaves such a list
  pub blocks-next : (p : Processor) (e : FineStep) → AreFramed image p.todo → AreBlocks image p.todo → AreBlocks image (p_next image p e).todo
  blocks-next p e framed was =
      acted-kept image Are (with_cleaned image (goes_on_by image p e p.todo) e (begins_cleaning e)) e.act
      (with-cleaned-blocks (goes_on_by image p e p.todo) e (begins_cleaning e) (goes-blocks p e p.todo framed was was))

pub blocks-kept : (f : Fine) (m : State) → Rel f m → (e : FineStep) (k : ℕ) → k < f.cpus
    → AreBlocks f.image (changed same_cpu cpu_of (p_next f.image) f.processors e k).todo
blocks-kept f m rel e k l =
    elim (e.cpu == k) as (λ b. AreBlocks f.image (cond b (p_next f.image (f.processors k) e) (f.processors k)).todo) [
      | true ↦ blocks-next f.image (f.processors k) e (rel.processors k l).frames (rel.processors k l).blocks
      | false ↦ (rel.processors k l).blocks
    ]
