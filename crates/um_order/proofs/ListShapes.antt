-- The processor's list of steps after a step: where its thread is at rest, no event stands on it. And a list that begins with an event of the thread
-- ends no call's claim, and cleans no object.
use Rattle.std.proofs.Common.{◌≡◌, ◌⊎◌, inl, inr, ℕ, Bool, true, false, [], ◌∷◌, ◌++◌, Option, Some, None, refl, sym, ap, ◌∙◌, subst}
use Rattle.std.specs.Prelude.{◌||◌, not}
use Rattle.std.specs.List.{list_any}
use Rattle.std.proofs.lemmas.Bool.{and_parts, false≢true, true≢false}
use Rattle.um_base.specs.declared.image.Image.{Image}
use Rattle.um_base.specs.Places.{thread_of_row}
use Rattle.um_machine.specs.declared.pending.Pending.{Pending}
use Rattle.um_machine.specs.Order.{Steps}
use Rattle.um_fine.specs.Context.{Context}
use Rattle.um_words.specs.declared.fine.FineAct.{FineAct}
use Rattle.um_fine.specs.Answers.{is_word_read, thread_in}
use Rattle.um_fine.specs.Asks.{begins_cleaning}
use Rattle.um_fine.specs.Follows.{behind_step, goes_on_by, p_next, row_number, shown_step, with_actor, with_cleaned}
use Rattle.um_fine.specs.Places.{Todo, Todos, armed_for, cleaning_of, end_of_turn, fine_steps, next_steps, put_away, settling}
use Rattle.um_refinement.specs.Frames.{Behind}
use Rattle.um_fine.specs.Processor.{Processor}
use Rattle.um_fine.specs.Steps.{FineStep}
use Rattle.um_refinement.specs.Lists.{counted, is_done, is_end_call, is_recycle, is_sleep, names_row}
use Rattle.um_refinement.specs.Offers.{Fits, behind_shown}
use Rattle.um_refinement.proofs.ListDone.{AsBefore, Done, Ends, Read, goes-done, says_done, with-cleaned-done}
use Rattle.um_refinement.proofs.ListGrowth.{behind-kept, cleaning-kept, ends-always, forms-kept, is_errand, looks-kept, next-kept, quiet-kept, show-kept, visits_row}
use Rattle.um_order.proofs.Standing.{is_show}

any-append : (f : Todo → Bool) (q : Todo) → f q ≡ false → (todo : Todos) → list_any f (todo ++ q ∷ []) ≡ list_any f todo
any-append f q off [] = ap (λ b. b || false) off
any-append f q off (r ∷ todo) = ap (λ b. f r || b) (any-append f q off todo)

-- a turn that is done with behind a step is done with where that step stands first, unless its thread is put to sleep
done-later : (q : Todo) (todo : Todos) → is_sleep q ≡ false → says_done todo ≡ true → says_done (q ∷ todo) ≡ true
done-later Todo.done todo awake h = (and_parts (list_any is_done todo) (not (list_any is_sleep todo)) h).1
done-later Todo.sleep todo awake h = absurd (true≢false awake)
done-later q todo awake h = h

module _ (image : Image) where
  away-no-show : (doomed : Bool) → list_any is_show (put_away doomed) ≡ false
  away-no-show true = refl
  away-no-show false = refl

  abbrev NoShow : Todos → Type 0
  NoShow todo = list_any is_show todo ≡ false

  abbrev AtRest : Context → Type 0
  AtRest c = c.pending ≡ []

  end-no-show : (b : Bool) → NoShow (end_of_turn image b)
  end-no-show true = refl
  end-no-show false = refl

  expands : (c : Context) → AtRest c → NoShow [] → NoShow (next_steps image c c.pending)
  expands c rest h = subst (λ steps. NoShow (next_steps image c steps)) (sym rest) (end-no-show c.ended)

  visit-put : (q : Todo) (todo : Todos) → visits_row q ≡ true → names_row q ≡ true → NoShow todo → NoShow (q ∷ todo)
  visit-put (Todo.show q rest) todo visit few h = absurd (false≢true visit)
  visit-put q todo visit few h = h

  errand-put : (q : Todo) (todo : Todos) → is_errand q ≡ true → NoShow todo → NoShow (q ∷ todo)
  errand-put (Todo.show q rest) todo errand h = absurd (false≢true errand)
  errand-put q todo errand h = h

  goes-no-show : (p : Processor) (e : FineStep) (q : Todo) (todo : Todos) → is_show q ≡ false → AtRest (goes_on_by image p e (q ∷ todo)).context → NoShow todo
      → NoShow (goes_on_by image p e (q ∷ todo)).todo
  goes-no-show p e (Todo.show r rest) todo quiet of h = absurd (true≢false quiet)
  goes-no-show p e q todo quiet of h =
      quiet-kept image NoShow AtRest expands p errand-put visit-put (λ who x z few k. k) (λ z k. k) (λ d z k. k) e q todo refl of (ends-always NoShow refl away-no-show (λ c z k. k) e q) h

  event-no-show : (p : Processor) (e : FineStep) (q : Pending) (rest : Steps) (todo : Todos) → AtRest (goes_on_by image p e (Todo.show q rest ∷ todo)).context → Behind image (Todo.show q rest) todo → NoShow todo
      → NoShow (goes_on_by image p e (Todo.show q rest ∷ todo)).todo
  event-no-show p e q rest todo of behind h =
      show-kept image NoShow AtRest expands p e q rest todo NoShow of (λ site z over k. any-append is_show (Todo.reread site) refl z ∙ k) behind
      (λ z k.
      let made = shown_step image q e.act in
      looks-kept image NoShow errand-put (λ x z k. k) p.context made e (behind_step image p.context made e.moved z) (behind-kept image NoShow errand-put (λ x z k. k) p.context made e.moved z k))
      (λ read. away-no-show (thread_in e.word).doomed) h

  cleaned-shows : (p : Processor) (e : FineStep) (b : Bool) → list_any is_show (with_cleaned image p e b).todo ≡ list_any is_show p.todo
  cleaned-shows p e true = cleaning-kept image (λ old new. list_any is_show new ≡ list_any is_show old) (row_number e.site) first (λ q old new c h. ap (λ b. is_show q || b) h) p.todo
    where
      first : (o : Option ℕ) (todo : Todos) → thread_of_row image (row_number e.site) ≡ o → list_any is_show (cleaning_of (row_number e.site) o ++ todo) ≡ list_any is_show todo
      first None todo at = refl
      first (Some who) todo at = refl
  cleaned-shows p e false = refl

  pub acted-list : (p : Processor) (act : FineAct) → (with_actor image p act).todo ≡ p.todo
  acted-list p (FineAct.Shown event more) = refl
  acted-list p (FineAct.Unseen unseen) = refl

  -- a step behind which the thread is at rest leaves no event on the list, if none stood behind it
  pub next-shows : (p : Processor) (e : FineStep) (q : Todo) (todo : Todos) → p.todo ≡ q ∷ todo → AtRest (goes_on_by image p e (q ∷ todo)).context → Behind image q todo → NoShow todo
      → NoShow (p_next image p e).todo
  next-shows p e q todo at of behind h =
      ap (list_any is_show) (acted-list (with_cleaned image (goes_on_by image p e p.todo) e (begins_cleaning e)) e.act)
      ∙ (cleaned-shows (goes_on_by image p e p.todo) e (begins_cleaning e) ∙ (ap (λ (z : Todos). list_any is_show (goes_on_by image p e z).todo) at ∙ by q of behind))
    where
      by : (q : Todo) → AtRest (goes_on_by image p e (q ∷ todo)).context → Behind image q todo → NoShow (goes_on_by image p e (q ∷ todo)).todo
      by (Todo.show r rest) of behind = event-no-show p e r rest todo of behind h
      by q of behind = goes-no-show p e q todo refl of h

  -- a turn is done with behind a step only if the thread has ended, if that was so before
  pub next-ends : (p : Processor) (e : FineStep) (q : Todo) (todo : Todos) → p.todo ≡ q ∷ todo → Fits image p.context (q ∷ todo) → (is_show q ≡ true → is_word_read e.act ≡ false) → is_sleep q ≡ false
      → (says_done (q ∷ todo) ≡ true → p.context.ended ≡ true) → says_done (p_next image p e).todo ≡ true → (goes_on_by image p e (q ∷ todo)).context.ended ≡ true
  next-ends p e q todo at fits unread awake was h =
      by
      (goes-done image p e q todo fits
      (sym (ap (λ (z : Todos). says_done (goes_on_by image p e z).todo) at)
      ∙ (sym (with-cleaned-done image (goes_on_by image p e p.todo) e (begins_cleaning e))
      ∙ (sym (ap says_done (acted-list (with_cleaned image (goes_on_by image p e p.todo) e (begins_cleaning e)) e.act)) ∙ h))))
    where
      ended-by : (says_done (q ∷ todo) ≡ true → p.context.ended ≡ true) → ((says_done todo ≡ true) × AsBefore image (goes_on_by image p e (q ∷ todo)).context p.context) ⊎ Ends (goes_on_by image p e (q ∷ todo)).context
          → (goes_on_by image p e (q ∷ todo)).context.ended ≡ true
      ended-by was (inl k) = k.1.ended ∙ was (done-later q todo awake k.0)
      ended-by was (inr ends) = ends.1

      unread-not : (q : Todo) → (is_show q ≡ true → is_word_read e.act ≡ false) → Read image e q → ⊥
      unread-not (Todo.show r rest) unread read = true≢false (sym read.0 ∙ unread refl)
      unread-not q unread read = read

      by : Done image p e q todo → (goes_on_by image p e (q ∷ todo)).context.ended ≡ true
      by (inl read) = absurd (unread-not q unread read)
      by (inr k) = ended-by was k

  -- Behind an event of its thread the list has no step that ends a call's claim, or that recycles an object.

  abbrev EndsNone : ℕ → Todos → Type 0
  EndsNone x todo = (counted (is_end_call x) todo ≡ 0) × (counted (is_recycle x) todo ≡ 0)

  settling-ends : (x : ℕ) (c : Context) (until : Option ℕ) (q : Pending) → EndsNone x (settling image c until q)
  settling-ends x c None q = (refl, refl)
  settling-ends x c (Some deadline) q = (refl, refl)

  shown-ends : (x : ℕ) (c : Context) (q : Pending) → (counted (is_end_call x) (behind_shown image c q) ≡ 0) × (counted (is_recycle x) (behind_shown image c q) ≡ 0)
  shown-ends x c (Pending.Start who script stack priority mode) = (refl, refl)
  shown-ends x c (Pending.Work a ask) = settling-ends x c (armed_for image c (Pending.Work a ask)) (Pending.Work a ask)
  shown-ends x c (Pending.Join who timeout) = settling-ends x c (armed_for image c (Pending.Join who timeout)) (Pending.Join who timeout)
  shown-ends x c (Pending.FutexWait a value timeout) = settling-ends x c (armed_for image c (Pending.FutexWait a value timeout)) (Pending.FutexWait a value timeout)
  shown-ends x c q = (refl, refl)

  fine-ends : (x : ℕ) (c : Context) (q : Pending) (rest : Steps) → EndsNone x (fine_steps image c q rest)
  fine-ends x = forms-kept image (EndsNone x)
      (record {
        note = λ site todo h. h;
        act = λ q rest. (refl, refl);
        settles = λ q rest deadline mark. (refl, refl);
        access = λ q rest. (refl, refl);
        access_settles = λ q rest deadline mark. (refl, refl);
        look = λ x todo h. h;
        owe = λ q rest. (refl, refl);
        leave = λ a rest. (refl, refl);
        edit = λ d q rest. (refl, refl);
        move = λ d who rest. (refl, refl);
        start = λ who q rest c. (refl, refl);
      })

  clear-put : (x : ℕ) (q : Todo) (todo : Todos) → visits_row q ≡ true → names_row q ≡ true → EndsNone x todo → EndsNone x (q ∷ todo)
  clear-put x (Todo.pass who y) todo visit few h = h
  clear-put x (Todo.drop y) todo visit few h = h
  clear-put x q todo visit few h = absurd (false≢true visit)

  -- nor have the fresh steps of a thread
  pub next-clear : (x : ℕ) (c : Context) (steps : Steps) → (counted (is_end_call x) (next_steps image c steps) ≡ 0) × (counted (is_recycle x) (next_steps image c steps) ≡ 0)
  next-clear x c steps = next-kept image (EndsNone x) (clear-put x) (fine-ends x) (λ b. elim b as (λ b. EndsNone x (end_of_turn image b)) [ true ↦ (refl, refl) | false ↦ (refl, refl) ]) c steps

  -- a step that may show an event of its own thread, or one of time
  abbrev pub is_own : Todos → Bool
  is_own [] = true
  is_own (Todo.show q rest ∷ todo) = true
  is_own (Todo.pass who x ∷ todo) = true
  is_own (Todo.drop x ∷ todo) = true
  is_own (Todo.leave ∷ todo) = is_own todo
  is_own (Todo.handle deadline mark ∷ Todo.paid ∷ []) = true
  is_own _ = false

  pub own-clear : (x : ℕ) (c : Context) (todo : Todos) → Fits image c todo → is_own todo ≡ true → EndsNone x todo
  own-clear x c [] fits own = (refl, refl)
  own-clear x c (Todo.show q rest ∷ todo) fits own =
      subst (λ (z : Todos). (counted (is_end_call x) z ≡ 0) × (counted (is_recycle x) z ≡ 0)) (sym fits.1) (shown-ends x c q)
  own-clear x c (Todo.pass who y ∷ todo) fits own =
      subst (λ (z : Todos). (counted (is_end_call x) z ≡ 0) × (counted (is_recycle x) z ≡ 0)) (sym fits.0.behind) (fine-ends x c fits.0.step fits.0.rest)
  own-clear x c (Todo.drop y ∷ todo) fits own =
      subst (λ (z : Todos). (counted (is_end_call x) z ≡ 0) × (counted (is_recycle x) z ≡ 0)) (sym fits.behind) (fine-ends x c fits.step fits.rest)
  own-clear x c (Todo.leave ∷ todo) fits own = own-clear x c todo fits.1 own
  own-clear x c (Todo.handle deadline mark ∷ Todo.paid ∷ []) fits own = (refl, refl)
  own-clear x c (q ∷ todo) fits own = absurd (false≢true own)
