-- What stands on a list behind its first step stays on it: each step that a processor makes takes the first away alone, and puts others in front
-- or behind.
use Rattle.um_refinement.proofs.Words.{◌≡◌, Bool, true, false, [], ◌∷◌, ◌++◌, refl, sym, ap, ◌∙◌, subst, ◌||◌, list_any, false≢true, Image, Context, FineStep, Some, cleaning_of, Todo, Todos, Processor, Behind, begins_cleaning, goes_on_by, p_next, row_number, with_cleaned, behind_step}
use Rattle.um_fine.specs.Follows.{shown_step}
use Rattle.um_refinement.proofs.ListGrowth.{EndsWell, ReadsLast, acted-kept, behind-kept, cleaning-kept, ends-behind, looks-kept, quiet-kept, show-kept}

or-right : (a b : Bool) → b ≡ true → (a || b) ≡ true
or-right true b h = refl
or-right false b h = h

module _ (image : Image) (test : Todo → Bool) (loads : test Todo.region_load ≡ false) where
  -- a step of this kind is on the list
  abbrev pub IsThere : Todos → Type 0
  IsThere todo = list_any test todo ≡ true

  pub in-front : (q : Todo) (todo : Todos) → IsThere todo → IsThere (q ∷ todo)
  in-front q todo h = or-right (test q) (list_any test todo) h

  none-there : {A : Type 0} → IsThere [] → A
  none-there h = absurd (false≢true h)

  before-more : (todo more : Todos) → IsThere todo → IsThere (todo ++ more)
  before-more [] more h = none-there h
  before-more (q ∷ todo) more h = by (test q) refl h (before-more todo more)
    where
      by : (b : Bool) → test q ≡ b → (test q || list_any test todo) ≡ true → (IsThere todo → IsThere (todo ++ more)) → (test q || list_any test (todo ++ more)) ≡ true
      by true k h rest = ap (λ b. b || list_any test (todo ++ more)) k
      by false k h rest = ap (λ b. b || list_any test (todo ++ more)) k ∙ rest (sym (ap (λ b. b || list_any test todo) k) ∙ h)

  behind-more : (more todo : Todos) → IsThere todo → IsThere (more ++ todo)
  behind-more [] todo h = h
  behind-more (q ∷ more) todo h = in-front q (more ++ todo) (behind-more more todo h)

  unloaded : (todo : Todos) → IsThere (Todo.region_load ∷ todo) → IsThere todo
  unloaded todo h = sym (ap (λ b. b || list_any test todo) loads) ∙ h

  abbrev Any : Context → Type 0
  Any c = Unit {0}

  ends : (e : FineStep) (q : Todo) (todo : Todos) → Behind image q todo → ReadsLast e q todo → IsThere todo → EndsWell IsThere e q
  ends e q todo behind last h = ends-behind image IsThere (λ none doomed. none-there none) (λ c todo k. in-front (Todo.add c) todo k) e q todo behind last h

  goes-there : (p : Processor) (e : FineStep) (q : Todo) (todo : Todos) → Behind image q todo → ReadsLast e q todo → IsThere todo → IsThere (goes_on_by image p e (q ∷ todo)).todo
  goes-there p e (Todo.show q rest) todo behind last h =
      show-kept image IsThere Any (λ c of none. none-there none) p e q rest todo IsThere tt (λ site z over k. before-more z (Todo.reread site ∷ []) k) behind
      (λ z k.
      let made = shown_step image q e.act in
      looks-kept image IsThere (λ q z errand k. in-front q z k) (λ x z k. in-front (Todo.end_call x) z k) p.context made e (behind_step image p.context made e.moved z)
      (behind-kept image IsThere (λ q z errand k. in-front q z k) (λ x z k. in-front (Todo.end_call x) z k) p.context made e.moved z k))
      (ends e (Todo.show q rest) todo behind last h) h
  goes-there p e q todo behind last h =
      quiet-kept image IsThere Any (λ c of none. none-there none) p (λ q z errand k. in-front q z k) (λ q z visit few k. in-front q z k) (λ who x z few k. in-front (Todo.clean_pair who x) z k) unloaded
      (λ d z k. in-front (Todo.read_done (Some d)) z k) e q todo refl tt (ends e q todo behind last h) h

  in-both : (q : Todo) (old new : Todos) → (IsThere old → IsThere new) → IsThere (q ∷ old) → IsThere (q ∷ new)
  in-both q old new on h = by (test q) refl
    where
      by : (b : Bool) → test q ≡ b → IsThere (q ∷ new)
      by true k = ap (λ b. b || list_any test new) k
      by false k = in-front q new (on (sym (ap (λ b. b || list_any test old) k) ∙ h))

  cleaned-there : (p : Processor) (e : FineStep) (b : Bool) → IsThere p.todo → IsThere (with_cleaned image p e b).todo
  cleaned-there p e true h =
      let x = row_number e.site in
      cleaning-kept image (λ old new. IsThere old → IsThere new) x (λ o todo at k. behind-more (cleaning_of x o) todo k) (λ q old new c on. in-both q old new on) p.todo h
  cleaned-there p e false h = h

  pub next-there : (p : Processor) (e : FineStep) (q : Todo) (todo : Todos) → p.todo ≡ q ∷ todo → Behind image q todo → ReadsLast e q todo → IsThere todo → IsThere (p_next image p e).todo
  next-there p e q todo at behind last h =
      acted-kept image IsThere (with_cleaned image (goes_on_by image p e p.todo) e (begins_cleaning e)) e.act
      (cleaned-there (goes_on_by image p e p.todo) e (begins_cleaning e) (subst (λ z. IsThere (goes_on_by image p e z).todo) (sym at) (goes-there p e q todo behind last h)))

  -- and so does one that the step itself puts there
  pub made-there : (p : Processor) (e : FineStep) (q : Todo) (todo : Todos) → p.todo ≡ q ∷ todo → IsThere (goes_on_by image p e (q ∷ todo)).todo → IsThere (p_next image p e).todo
  made-there p e q todo at h =
      acted-kept image IsThere (with_cleaned image (goes_on_by image p e p.todo) e (begins_cleaning e)) e.act
      (cleaned-there (goes_on_by image p e p.todo) e (begins_cleaning e) (subst (λ z. IsThere (goes_on_by image p e z).todo) (sym at) h))
