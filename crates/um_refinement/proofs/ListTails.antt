-- What is read of a list that passes over the steps of turns, visits and cleaning, over wakes and the ends of calls, and finds nothing where
-- the next pending step is expanded: after a step of the processor it is what is read of the list behind that step.
use Rattle.um_refinement.proofs.Words.{◌≡◌, ℕ, ◌+◌, Bool, true, false, ◌∷◌, ◌++◌, Option, Some, None, refl, sym, ap, ◌∙◌, [], nat_lt, false≢true, true≢false, Image, ROWS, thread_of_row, Pending, Steps, is_visit, begins_cleaning, Context, dropped_at, filled_up, goes_on_by, p_next, row_number, with_cleaned, behind_step, context_in, thread_in, Todo, Todos, cleaning_of, emptying, end_of_turn, fine_steps, is_cleaning_todo, next_steps, Processor, FineStep, FineAct, Unseen, Behind, names_row}
use Rattle.um_words.specs.declared.fine.Mark.{Mark}
use Rattle.um_fine.specs.Follows.{shown_step, with_actor}
use Rattle.um_fine.specs.Places.{handling, put_away}
use Rattle.um_refinement.specs.Frames.{IsActOver}
use Rattle.um_refinement.proofs.ListGrowth.{EndsWell, ReadsLast, acted-kept, behind-kept, claim-kept, cleaning-kept, drop-kept, either, goes-kept, is_errand, is_read_claim, looks-kept, next-kept, pass-kept, show-kept, take-kept, turn-kept, visits_row}

-- the steps that are passed over
abbrev pub is_passed : Todo → Bool
is_passed (Todo.end_call x) = true
is_passed (Todo.wake who told) = true
is_passed (Todo.pass who x) = true
is_passed (Todo.drop x) = true
is_passed (Todo.clean_pair who x) = true
is_passed (Todo.wipe x) = true
is_passed (Todo.vacate x) = true
is_passed (Todo.recycle x) = true
is_passed Todo.park = true
is_passed Todo.done = true
is_passed (Todo.note site) = true
is_passed (Todo.settle deadline mark) = true
is_passed (Todo.reread site) = true
is_passed (Todo.look who site before) = true
is_passed (Todo.tell_cut who) = true
is_passed (Todo.rouse who) = true
is_passed Todo.sleep = true
is_passed Todo.reread_asleep = true
is_passed (Todo.handle deadline mark) = true
is_passed Todo.paid = true
is_passed q = false

passes-errand : (q : Todo) → is_errand q ≡ true → is_passed q ≡ true
passes-errand (Todo.wake who told) h = refl
passes-errand (Todo.look who site before) h = refl
passes-errand (Todo.tell_cut who) h = refl
passes-errand (Todo.rouse who) h = refl
passes-errand q h = absurd (false≢true h)

passes-visit : (q : Todo) → visits_row q ≡ true → is_passed q ≡ true
passes-visit (Todo.pass who x) h = refl
passes-visit (Todo.drop x) h = refl
passes-visit q h = absurd (false≢true h)

passes-cleaning : (q : Todo) → is_cleaning_todo q ≡ true → is_passed q ≡ true
passes-cleaning (Todo.clean_pair who x) h = refl
passes-cleaning (Todo.wipe x) h = refl
passes-cleaning (Todo.vacate x) h = refl
passes-cleaning (Todo.recycle x) h = refl
passes-cleaning q h = absurd (false≢true h)

-- What is read of a list, of this kind.
pub record Reads {A : Type 0} (image : Image) (read : Todos → A) (none : A) : Type 0 where
  pub empty : read [] ≡ none
  pub passed : (q : Todo) (todo : Todos) → is_passed q ≡ true → read (q ∷ todo) ≡ read todo
  pub expanded : (c : Context) (q : Pending) (rest : Steps) → read (fine_steps image c q rest) ≡ none
  pub begins : read (Todo.show Pending.Begin [] ∷ []) ≡ none
  pub exits : read (Todo.show Pending.Exit [] ∷ []) ≡ none
  pub waited : (site : ℕ) (todo : Todos) → IsActOver todo → read (todo ++ Todo.reread site ∷ []) ≡ read todo

-- what is told by what is read
pub reads-through : {A B : Type 0} {image : Image} {read : Todos → A} {none : A} (tell : A → B) → Reads image read none → Reads image (λ todo. tell (read todo)) (tell none)
reads-through tell reads =
    record {
      empty = ap tell reads.empty;
      passed = λ q todo h. ap tell (reads.passed q todo h);
      expanded = λ c q rest. ap tell (reads.expanded c q rest);
      begins = ap tell reads.begins;
      exits = ap tell reads.exits;
      waited = λ site todo h. ap tell (reads.waited site todo h);
    }

module _ {A : Type 0} (image : Image) (read : Todos → A) (none : A) (reads : Reads image read none) where
  abbrev Is : A → Todos → Type 0
  Is v todo = read todo ≡ v

  abbrev All : Context → Type 0
  All c = Unit {0}

  end-read : (b : Bool) → read (end_of_turn image b) ≡ none
  end-read true = reads.passed Todo.done [] refl ∙ reads.empty
  end-read false = reads.passed Todo.park [] refl ∙ reads.empty

  away-read : (doomed : Bool) → read (put_away doomed) ≡ none
  away-read true = reads.passed Todo.done [] refl ∙ reads.empty
  away-read false =
      reads.passed Todo.sleep (Todo.reread_asleep ∷ Todo.done ∷ []) refl
      ∙ (reads.passed Todo.reread_asleep (Todo.done ∷ []) refl ∙ (reads.passed Todo.done [] refl ∙ reads.empty))

  hand-read : (deadline : ℕ) (mark : Mark) → read (handling deadline mark) ≡ none
  hand-read deadline mark = reads.passed (Todo.handle deadline mark) (Todo.paid ∷ []) refl ∙ (reads.passed Todo.paid [] refl ∙ reads.empty)

  errand : (v : A) (q : Todo) (todo : Todos) → is_errand q ≡ true → Is v todo → Is v (q ∷ todo)
  errand v q todo on h = reads.passed q todo (passes-errand q on) ∙ h

  ended : (v : A) (x : ℕ) (todo : Todos) → Is v todo → Is v (Todo.end_call x ∷ todo)
  ended v x todo h = reads.passed (Todo.end_call x) todo refl ∙ h

  put : (v : A) (q : Todo) (todo : Todos) → visits_row q ≡ true → names_row q ≡ true → Is v todo → Is v (q ∷ todo)
  put v q todo visit few h = reads.passed q todo (passes-visit q visit) ∙ h

  pub next-read : (c : Context) (steps : Steps) → read (next_steps image c steps) ≡ none
  next-read c steps = next-kept image (Is none) (put none) reads.expanded end-read c steps

  expands : (v : A) (c : Context) → All c → Is v [] → Is v (next_steps image c c.pending)
  expands v c of h = next-read c c.pending ∙ (sym reads.empty ∙ h)

  pub filled-read : (c : Context) (todo : Todos) → read (filled_up image c todo) ≡ read todo
  filled-read c [] = next-read c c.pending ∙ sym reads.empty
  filled-read c (q ∷ todo) = refl

  emptying-read : (x : ℕ) (todo : Todos) → read (emptying x ++ todo) ≡ read todo
  emptying-read x todo =
      reads.passed (Todo.wipe x) (Todo.vacate x ∷ Todo.recycle x ∷ todo) refl
      ∙ (reads.passed (Todo.vacate x) (Todo.recycle x ∷ todo) refl ∙ reads.passed (Todo.recycle x) todo refl)

  block-read : (x : ℕ) (o : Option ℕ) (todo : Todos) → thread_of_row image x ≡ o → read (cleaning_of x o ++ todo) ≡ read todo
  block-read x None todo e = emptying-read x todo
  block-read x (Some who) todo e = reads.passed (Todo.clean_pair who 0) (emptying x ++ todo) refl ∙ emptying-read x todo

  pub with-cleaned-read : (p : Processor) (e : FineStep) (b : Bool) → read (with_cleaned image p e b).todo ≡ read p.todo
  with-cleaned-read p e true =
      cleaning-kept image (λ old new. read new ≡ read old) (row_number e.site) (block-read (row_number e.site))
      (λ q old new c h. reads.passed q new (passes-cleaning q c) ∙ (h ∙ sym (reads.passed q old (passes-cleaning q c)))) p.todo
  with-cleaned-read p e false = refl

  next-cleaned : (p : Processor) (e : FineStep) → read (p_next image p e).todo ≡ read (goes_on_by image p e p.todo).todo
  next-cleaned p e =
      let q = with_cleaned image (goes_on_by image p e p.todo) e (begins_cleaning e) in
      acted-kept image (λ todo. read todo ≡ read q.todo) q e.act refl ∙ with-cleaned-read (goes_on_by image p e p.todo) e (begins_cleaning e)

  -- where a thread may be roused, its adding is passed over
  abbrev pub AddsPass : Todo → Type 0
  AddsPass (Todo.rouse who) = (c : Context) (todo : Todos) → read (Todo.add c ∷ todo) ≡ read todo
  AddsPass q = Unit {0}

  pub adds-pass : ((c : Context) (todo : Todos) → read (Todo.add c ∷ todo) ≡ read todo) → (q : Todo) → AddsPass q
  adds-pass added (Todo.rouse who) = added
  adds-pass added q = tt

  ends-read : (e : FineStep) (q : Todo) (todo : Todos) → AddsPass q → Behind image q todo → ReadsLast e q todo → EndsWell (Is (read todo)) e q
  ends-read e (Todo.show q rest) todo pass h last = λ w. away-read (thread_in e.word).doomed ∙ (sym reads.empty ∙ ap read (sym (last w)))
  ends-read e Todo.park todo pass h last = ap read (sym h)
  ends-read e Todo.done todo pass h last = ap read (sym h)
  ends-read e Todo.paid todo pass h last = ap read (sym h)
  ends-read e (Todo.rouse who) todo pass h last = λ found z k. pass (context_in e.moved) z ∙ k
  ends-read e q todo pass h last = tt

  goes-read : (p : Processor) (e : FineStep) (q : Todo) (todo : Todos) → is_read_claim q ≡ false → AddsPass q → Behind image q todo → ReadsLast e q todo
      → read (goes_on_by image p e (q ∷ todo)).todo ≡ read todo
  goes-read p e q todo other pass h last = by q other (ends-read e q todo pass h last) h
    where
      by : (q : Todo) → is_read_claim q ≡ false → EndsWell (Is (read todo)) e q → Behind image q todo → Is (read todo) (goes_on_by image p e (q ∷ todo)).todo
      by (Todo.show q rest) other ends over =
          let v = read todo in
          show-kept image (Is v) All (expands v) p e q rest todo (Is v) tt (λ site z act k. reads.waited site z act ∙ k) over
          (λ z k. let made = shown_step image q e.act in looks-kept image (Is v) (errand v) (ended v) p.context made e (behind_step image p.context made e.moved z)
          (behind-kept image (Is v) (errand v) (ended v) p.context made e.moved z k))
          ends refl
      by (Todo.read_claim d) other ends over = absurd (true≢false other)
      by (Todo.pass who x) other ends over = pass-kept image (Is (read todo)) All (expands (read todo)) p who x todo (λ y few. put (read todo) (Todo.pass who y) todo refl few) tt refl
      by (Todo.drop x) other ends over =
          drop-kept image (Is (read todo)) All (expands (read todo)) p (dropped_at image p.context x (is_visit e.act)) x todo (λ y few. put (read todo) (Todo.drop y) todo refl few) tt refl
      by (Todo.clean_pair who x) other ends over =
          either image (Is (read todo)) (nat_lt (x + 1) ROWS) (Todo.clean_pair who (x + 1)) todo (λ few k. reads.passed (Todo.clean_pair who (x + 1)) todo refl ∙ k) refl
      by q other ends over = goes-kept image (Is (read todo)) All (expands (read todo)) p (errand (read todo)) e q todo refl tt ends refl

  pub tail-read : (p : Processor) (e : FineStep) (q : Todo) (todo : Todos) → p.todo ≡ q ∷ todo → is_read_claim q ≡ false → AddsPass q → Behind image q todo → ReadsLast e q todo
      → read (p_next image p e).todo ≡ read todo
  tail-read p e q todo at other pass h last =
      next-cleaned p e ∙ (ap (λ (z : Todos). read (goes_on_by image p e z).todo) at ∙ goes-read p e q todo other pass h last)

  -- so of any step, where the load of a table and the end of a move's claim are passed over too
  pub whole-read : ((todo : Todos) → read (Todo.region_load ∷ todo) ≡ read todo) → ((d : ℕ) (todo : Todos) → read (Todo.read_done (Some d) ∷ todo) ≡ read todo)
      → (p : Processor) (e : FineStep) (q : Todo) (todo : Todos) → p.todo ≡ q ∷ todo → AddsPass q → Behind image q todo → ReadsLast e q todo → read (p_next image p e).todo ≡ read todo
  whole-read loaded claimed p e (Todo.read_claim d) todo at pass h last =
      next-cleaned p e ∙ (ap (λ (z : Todos). read (goes_on_by image p e z).todo) at ∙ claim-kept image (Is (read todo)) (λ z k. sym (loaded z) ∙ k) p e d todo (λ x some. claimed x todo) refl)
  whole-read loaded claimed p e q todo at pass h last = tail-read p e q todo at refl pass h last

  pub takes-read : (p : Processor) (e : FineStep) → p.todo ≡ [] → read (p_next image p e).todo ≡ none
  takes-read p e at =
      let turn = turn-kept image (Is none) reads.begins reads.exits in
      next-cleaned p e
      ∙ (ap (λ (z : Todos). read (goes_on_by image p e z).todo) at
      ∙ take-kept image (Is none) All (expands none) p turn hand-read e.moved tt reads.empty (ap read at ∙ reads.empty))

-- what a processor is after a step that begins no cleaning
pub exact-next : (image : Image) (p : Processor) (e : FineStep) (todo : Todos) → p.todo ≡ todo → begins_cleaning e ≡ false → p_next image p e ≡ with_actor image (goes_on_by image p e todo) e.act
exact-next image p e todo at quiet = λ i. with_actor image (with_cleaned image (goes_on_by image p e (at i)) e (quiet i)) e.act

-- one that no trace shows leaves who made its last event
pub quiet-next : (image : Image) (p : Processor) (e : FineStep) (todo : Todos) (u : Unseen) → p.todo ≡ todo → e.act ≡ FineAct.Unseen u → begins_cleaning (record e { act = FineAct.Unseen u }) ≡ false
    → p_next image p e ≡ goes_on_by image p e todo
quiet-next image p e todo u at said quiet =
    exact-next image p e todo at (ap (λ a. begins_cleaning (record e { act = a })) said ∙ quiet) ∙ ap (with_actor image (goes_on_by image p e todo)) said
