-- Where a list puts its thread to sleep, and where it reads the word of one that was put to sleep once more: that is put on a list by a read of a word
-- alone. A thread that is about to sleep runs.
use Rattle.std.proofs.Common.{◌≡◌, ℕ, Bool, true, false, [], ◌∷◌, ◌++◌, Option, Some, None, refl, sym, ap, ◌∙◌, subst}
use Rattle.std.specs.Prelude.{◌||◌}
use Rattle.std.specs.List.{list_any}
use Rattle.std.proofs.lemmas.Bool.{false≢true}
use Rattle.um_base.specs.declared.image.Image.{Image}
use Rattle.um_base.specs.Places.{thread_of_row}
use Rattle.um_machine.specs.declared.pending.Pending.{Pending}
use Rattle.um_machine.specs.Order.{Steps}
use Rattle.um_fine.specs.Asks.{begins_cleaning}
use Rattle.um_fine.specs.Context.{Context}
use Rattle.um_fine.specs.Follows.{behind_step, goes_on_by, p_next, row_number, shown_step, with_cleaned}
use Rattle.um_fine.specs.Places.{Todo, Todos, armed_for, cleaning_of, end_of_turn, fine_steps, is_cleaning_todo, next_steps, settling}
use Rattle.um_fine.specs.Processor.{Processor}
use Rattle.um_fine.specs.Steps.{FineStep}
use Rattle.um_refinement.specs.Frames.{AreFramed, Behind}
use Rattle.um_refinement.specs.Lists.{is_sleep, times}
use Rattle.um_refinement.specs.Offers.{Fits, behind_shown}
use Rattle.um_refinement.specs.Stops.{is_reread_asleep}
use Rattle.um_refinement.proofs.ListGrowth.{EndsWell, acted-kept, behind-kept, cleaning-kept, forms-kept, is_errand, looks-kept, next-kept, quiet-kept, show-kept, take-kept, turn-kept, visits_row}

any-append : (f : Todo → Bool) (q : Todo) → f q ≡ false → (todo : Todos) → list_any f (todo ++ q ∷ []) ≡ list_any f todo
any-append f q off [] = ap (λ b. b || false) off
any-append f q off (r ∷ todo) = ap (λ b. f r || b) (any-append f q off todo)

-- Nobody who was put to sleep has his word read once more.

abbrev pub IsNone : Todos → Type 0
IsNone todo = list_any is_reread_asleep todo ≡ false

module _ (image : Image) where
  errand-none : (q : Todo) (todo : Todos) → is_errand q ≡ true → IsNone todo → IsNone (q ∷ todo)
  errand-none (Todo.wake who told) todo on h = h
  errand-none (Todo.look who site before) todo on h = h
  errand-none (Todo.tell_cut who) todo on h = h
  errand-none (Todo.rouse who) todo on h = h
  errand-none q todo on h = absurd (false≢true on)

  visit-none : (q : Todo) (todo : Todos) → visits_row q ≡ true → IsNone todo → IsNone (q ∷ todo)
  visit-none (Todo.pass who x) todo on h = h
  visit-none (Todo.drop x) todo on h = h
  visit-none q todo on h = absurd (false≢true on)

  fine-none : (c : Context) (q : Pending) (rest : Steps) → IsNone (fine_steps image c q rest)
  fine-none = forms-kept image IsNone
      (record {
        note = λ site todo h. h;
        act = λ q rest. refl;
        settles = λ q rest deadline mark. refl;
        access = λ q rest. refl;
        access_settles = λ q rest deadline mark. refl;
        look = λ x todo h. h;
        owe = λ q rest. refl;
        leave = λ a rest. refl;
        edit = λ d q rest. refl;
        move = λ d who rest. refl;
        start = λ who q rest c. refl;
      })

  ends-none : (b : Bool) → IsNone (end_of_turn image b)
  ends-none true = refl
  ends-none false = refl

  abbrev Any : Context → Type 0
  Any c = Unit {0}

  expands-none : (c : Context) → Any c → IsNone [] → IsNone (next_steps image c c.pending)
  expands-none c of none = next-kept image IsNone (λ q todo visits few h. visit-none q todo visits h) fine-none ends-none c c.pending

  waited-none : (site : ℕ) (todo : Todos) → IsNone todo → IsNone (todo ++ Todo.reread site ∷ [])
  waited-none site todo h = any-append is_reread_asleep (Todo.reread site) refl todo ∙ h

  goes-none : (p : Processor) (e : FineStep) (q : Todo) (todo : Todos) → Behind image q todo → EndsWell IsNone e q → IsNone todo → IsNone (goes_on_by image p e (q ∷ todo)).todo
  goes-none p e (Todo.show q rest) todo behind last h =
      show-kept image IsNone Any expands-none p e q rest todo IsNone tt (λ site z over k. waited-none site z k) behind
      (λ z k.
      let made = shown_step image q e.act in
      looks-kept image IsNone errand-none (λ x z k. k) p.context made e (behind_step image p.context made e.moved z)
      (behind-kept image IsNone errand-none (λ x z k. k) p.context made e.moved z k))
      last h
  goes-none p e q todo behind last h =
      quiet-kept image IsNone Any expands-none p errand-none (λ q z visits few k. visit-none q z visits k) (λ who x z few k. k) (λ z k. k) (λ d z k. k) e q todo refl tt last h

  abbrev Same : Todos → Todos → Type 0
  Same old new = IsNone old → IsNone new

  first-none : (x : ℕ) (o : Option ℕ) (todo : Todos) → thread_of_row image x ≡ o → Same todo (cleaning_of x o ++ todo)
  first-none x None todo at h = h
  first-none x (Some who) todo at h = h

  later-none : (q : Todo) (old new : Todos) → is_cleaning_todo q ≡ true → Same old new → Same (q ∷ old) (q ∷ new)
  later-none (Todo.clean_pair who y) old new c on = on
  later-none (Todo.wipe y) old new c on = on
  later-none (Todo.vacate y) old new c on = on
  later-none (Todo.recycle y) old new c on = on
  later-none q old new c on = absurd (false≢true c)

  cleaned-none : (p : Processor) (e : FineStep) (b : Bool) → IsNone p.todo → IsNone (with_cleaned image p e b).todo
  cleaned-none p e true h = cleaning-kept image Same (row_number e.site) (first-none (row_number e.site)) later-none p.todo h
  cleaned-none p e false h = h

  -- it is on a list after a step only where it stood behind the first, or where the word was read and showed a thread that isn't doomed
  pub next-none : (p : Processor) (e : FineStep) (q : Todo) (todo : Todos) → p.todo ≡ q ∷ todo → Behind image q todo → EndsWell IsNone e q → IsNone todo → IsNone (p_next image p e).todo
  next-none p e q todo at behind last h =
      acted-kept image IsNone (with_cleaned image (goes_on_by image p e p.todo) e (begins_cleaning e)) e.act
      (cleaned-none (goes_on_by image p e p.todo) e (begins_cleaning e) (subst (λ z. IsNone (goes_on_by image p e z).todo) (sym at) (goes-none p e q todo behind last h)))

  pub idle-none : (p : Processor) (e : FineStep) → p.todo ≡ [] → IsNone (p_next image p e).todo
  idle-none p e at =
      acted-kept image IsNone (with_cleaned image (goes_on_by image p e p.todo) e (begins_cleaning e)) e.act
      (cleaned-none (goes_on_by image p e p.todo) e (begins_cleaning e)
      (subst (λ z. IsNone (goes_on_by image p e z).todo) (sym at)
      (take-kept image IsNone Any expands-none p (λ instr. turn-kept image IsNone refl refl instr) (λ deadline mark. refl) e.moved tt refl (ap (list_any is_reread_asleep) at))))

-- One who is about to sleep runs.

module _ (image : Image) where
  sleep-settling : (c : Context) (until : Option ℕ) (q : Pending) → list_any is_sleep (settling image c until q) ≡ false
  sleep-settling c None q = refl
  sleep-settling c (Some deadline) q = refl

  sleep-shown : (c : Context) (q : Pending) → list_any is_sleep (behind_shown image c q) ≡ false
  sleep-shown c (Pending.Start who script stack priority mode) = refl
  sleep-shown c (Pending.Work a ask) = sleep-settling c (armed_for image c (Pending.Work a ask)) (Pending.Work a ask)
  sleep-shown c (Pending.Join who timeout) = sleep-settling c (armed_for image c (Pending.Join who timeout)) (Pending.Join who timeout)
  sleep-shown c (Pending.FutexWait a value timeout) = sleep-settling c (armed_for image c (Pending.FutexWait a value timeout)) (Pending.FutexWait a value timeout)
  sleep-shown c q = refl

  sleep-fine : (c : Context) (q : Pending) (rest : Steps) → list_any is_sleep (fine_steps image c q rest) ≡ false
  sleep-fine = forms-kept image (λ todo. list_any is_sleep todo ≡ false)
      (record {
        note = λ site todo h. h;
        act = λ q rest. refl;
        settles = λ q rest deadline mark. refl;
        access = λ q rest. refl;
        access_settles = λ q rest deadline mark. refl;
        look = λ x todo h. h;
        owe = λ q rest. refl;
        leave = λ a rest. refl;
        edit = λ d q rest. refl;
        move = λ d who rest. refl;
        start = λ who q rest c. refl;
      })

  no-sleep : {A : Type 0} (todo list : Todos) → todo ≡ list → list_any is_sleep list ≡ false → list_any is_sleep todo ≡ true → A
  no-sleep todo list same none h = absurd (false≢true (sym none ∙ (sym (ap (list_any is_sleep) same) ∙ h)))

  -- its thread hasn't ended
  pub sleep-lives : (c : Context) (todo : Todos) → Fits image c todo → list_any is_sleep todo ≡ true → c.ended ≡ false
  sleep-lives c [] fits h = absurd (false≢true h)
  sleep-lives c (Todo.show q rest ∷ todo) fits h = no-sleep todo (behind_shown image c q) fits.1 (sleep-shown c q) h
  sleep-lives c (Todo.pass who x ∷ todo) fits h = no-sleep todo (fine_steps image c fits.0.step fits.0.rest) fits.0.behind (sleep-fine c fits.0.step fits.0.rest) h
  sleep-lives c (Todo.drop x ∷ todo) fits h = no-sleep todo (fine_steps image c fits.step fits.rest) fits.behind (sleep-fine c fits.step fits.rest) h
  sleep-lives c (Todo.park ∷ todo) fits h = no-sleep todo [] fits.2 refl h
  sleep-lives c (Todo.sleep ∷ todo) fits h = fits.1
  sleep-lives c (Todo.note site ∷ todo) fits h = sleep-lives (record c { noted = Some 0 }) todo (fits 0) h
  sleep-lives c (Todo.add d ∷ todo) fits h = sleep-lives c todo fits.1 h
  sleep-lives c (Todo.leave ∷ todo) fits h = sleep-lives c todo fits.1 h
  sleep-lives c (q ∷ todo) fits h = sleep-lives c todo fits h

  -- and the processor has no mark in its hand
  pub sleep-runs : (todo : Todos) → AreFramed image todo → list_any is_sleep todo ≡ true → times todo ≡ false
  sleep-runs [] framed h = refl
  sleep-runs (Todo.sleep ∷ todo) framed h = ap times framed.0
  sleep-runs (Todo.paid ∷ todo) framed h = absurd (false≢true (sym (ap (list_any is_sleep) framed.0) ∙ h))
  sleep-runs (q ∷ todo) framed h = sleep-runs todo framed.1 h
