-- The processor's list after a step but an event, a look, a rouse and the end of a turn: no look and no rouse comes on it, and nobody gets ready by it who
-- was cut.
use Rattle.std.proofs.Common.{◌≡◌, ℕ, Bool, true, false, List, [], ◌∷◌, ◌++◌, Option, Some, None, refl, sym, ap, ◌∙◌, subst, if◌then◌else◌}
use Rattle.std.specs.Prelude.{◌+◌, nat_lt}
use Rattle.std.specs.List.{list_all}
use Rattle.std.proofs.lemmas.Bool.{and_from, and_parts, false≢true}
use Rattle.um_base.specs.declared.image.Image.{Image}
use Rattle.um_base.specs.declared.limits.TheConstants.{ROWS}
use Rattle.um_base.specs.Places.{thread_of_row}
use Rattle.um_machine.specs.declared.pending.Pending.{Pending}
use Rattle.um_machine.specs.Order.{Steps}
use Rattle.um_fine.specs.Answers.{is_visit, thread_in}
use Rattle.um_fine.specs.Asks.{begins_cleaning}
use Rattle.um_fine.specs.Context.{Context}
use Rattle.um_fine.specs.Follows.{dropped_at, filled_up, goes_on_by, p_next, row_number, with_cleaned}
use Rattle.um_fine.specs.Places.{Todo, Todos, cleaning_of, end_of_turn, fine_steps, is_cleaning_todo, next_steps}
use Rattle.um_fine.specs.Processor.{Processor}
use Rattle.um_fine.specs.Steps.{FineStep}
use Rattle.um_refinement.specs.Lists.{names_row}
use Rattle.um_refinement.proofs.ListGrowth.{claim-kept, cleaning-kept, drop-kept, either, filled-kept, forms-kept, next-kept, pass-kept, visits_row}
use Rattle.um_order.proofs.ListShapes.{acted-list}
use Rattle.um_order.proofs.Standing.{cutters, is_calm}

-- a step by which neither an event, nor a look or a rouse, nor a wake comes on the list
abbrev pub is_plain : Todo → Bool
is_plain (Todo.show q rest) = false
is_plain (Todo.reread site) = false
is_plain Todo.leave = false
is_plain Todo.park = false
is_plain Todo.done = false
is_plain q = is_calm q

module _ (image : Image) (P : Todos → Type 0) (Of : Context → Type 0) (expands : (c : Context) → Of c → P [] → P (next_steps image c c.pending)) (p : Processor)
    (put : (q : Todo) (todo : Todos) → visits_row q ≡ true → names_row q ≡ true → P todo → P (q ∷ todo)) (paired : (who x : ℕ) (todo : Todos) → nat_lt x ROWS ≡ true → P todo → P (Todo.clean_pair who x ∷ todo))
    (loaded : (todo : Todos) → P (Todo.region_load ∷ todo) → P todo) (claimed : (d : ℕ) (todo : Todos) → P todo → P (Todo.read_done (Some d) ∷ todo)) where
  fills : (c : Context) → Of c → (todo : Todos) → P todo → P (filled_up image c todo)
  fills c of todo h = filled-kept image P Of expands p c of todo h

  pub plain-kept : (e : FineStep) (q : Todo) (todo : Todos) → is_plain q ≡ true → Of (goes_on_by image p e (q ∷ todo)).context → P todo → P (goes_on_by image p e (q ∷ todo)).todo
  plain-kept e (Todo.show q rest) todo plain of h = absurd (false≢true plain)
  plain-kept e (Todo.reread site) todo plain of h = absurd (false≢true plain)
  plain-kept e Todo.leave todo plain of h = absurd (false≢true plain)
  plain-kept e Todo.park todo plain of h = absurd (false≢true plain)
  plain-kept e Todo.done todo plain of h = absurd (false≢true plain)
  plain-kept e (Todo.look who site before) todo plain of h = absurd (false≢true plain)
  plain-kept e (Todo.rouse who) todo plain of h = absurd (false≢true plain)
  plain-kept e Todo.sleep todo plain of h = absurd (false≢true plain)
  plain-kept e Todo.reread_asleep todo plain of h = absurd (false≢true plain)
  plain-kept e (Todo.handle deadline mark) todo plain of h = absurd (false≢true plain)
  plain-kept e Todo.paid todo plain of h = absurd (false≢true plain)
  plain-kept e Todo.let_go todo plain of h = fills p.context of todo h
  plain-kept e (Todo.read_claim d) todo plain of h = claim-kept image P loaded p e d todo (λ x at. claimed x todo h) h
  plain-kept e (Todo.read_done d) todo plain of h = fills p.context of todo h
  plain-kept e (Todo.end_call x) todo plain of h = fills p.context of todo h
  plain-kept e (Todo.wake who told) todo plain of h = fills p.context of todo h
  plain-kept e (Todo.add c) todo plain of h = fills p.context of todo h
  plain-kept e (Todo.pass who x) todo plain of h = pass-kept image P Of expands p who x todo (λ y few. put (Todo.pass who y) todo refl few) of h
  plain-kept e (Todo.drop x) todo plain of h = drop-kept image P Of expands p (dropped_at image p.context x (is_visit e.act)) x todo (λ y few. put (Todo.drop y) todo refl few) of h
  plain-kept e (Todo.clean_pair who x) todo plain of h = either image P (nat_lt (x + 1) ROWS) (Todo.clean_pair who (x + 1)) todo (paired who (x + 1) todo) h
  plain-kept e (Todo.recycle x) todo plain of h = fills p.context of todo h
  plain-kept e (Todo.settle deadline mark) todo plain of h = fills p.context of todo h
  plain-kept e (Todo.tell_cut who) todo plain of h = fills p.context of todo h
  plain-kept e q todo plain of h = h

  -- also behind a wait, where the own word shows no abort
  pub reread-kept : (e : FineStep) (site : ℕ) (todo : Todos) → (thread_in e.word).aborted ≡ false → Of p.context → P todo → P (goes_on_by image p e (Todo.reread site ∷ todo)).todo
  reread-kept e site todo calm of h =
      subst (λ b. P (filled_up image p.context (if b then Todo.look p.context.thread site (thread_in e.word).number ∷ todo else todo))) (sym calm) (fills p.context of todo h)

-- What is read of a list so.

module _ (image : Image) where
  abbrev Any : Context → Type 0
  Any c = Unit {0}

  -- whom it makes ready that was cut
  abbrev Cuts : List ℕ → Todos → Type 0
  Cuts cut todo = cutters todo ≡ cut

  pub cuts-none : (c : Context) (q : Pending) (rest : Steps) → Cuts [] (fine_steps image c q rest)
  cuts-none = forms-kept image (Cuts [])
      (record {
        note = λ site todo h. h;
        act = λ q rest. refl;
        settles = λ q rest deadline mark. refl;
        access = λ q rest. refl;
        access_settles = λ q rest deadline mark. refl;
        look = λ x todo h. h;
        owe = λ q rest. refl;
        leave = λ a rest. refl;
        edit = λ d q rest. refl;
        move = λ d who rest. refl;
        start = λ who q rest c. refl;
      })

  cuts-put : (cut : List ℕ) (q : Todo) (todo : Todos) → visits_row q ≡ true → names_row q ≡ true → Cuts cut todo → Cuts cut (q ∷ todo)
  cuts-put cut (Todo.tell_cut who) todo visit few h = absurd (false≢true visit)
  cuts-put cut q todo visit few h = h

  pub cuts-expands : (cut : List ℕ) (c : Context) → Any c → Cuts cut [] → Cuts cut (next_steps image c c.pending)
  cuts-expands cut c of h = next-kept image (Cuts []) (cuts-put []) cuts-none (λ b. elim b as (λ b. Cuts [] (end_of_turn image b)) [ true ↦ refl | false ↦ refl ]) c c.pending ∙ h

  pub cuts-cleaned : (p : Processor) (e : FineStep) (b : Bool) → cutters (with_cleaned image p e b).todo ≡ cutters p.todo
  cuts-cleaned p e true = cleaning-kept image (λ old new. cutters new ≡ cutters old) (row_number e.site) first later p.todo
    where
      first : (o : Option ℕ) (todo : Todos) → thread_of_row image (row_number e.site) ≡ o → cutters (cleaning_of (row_number e.site) o ++ todo) ≡ cutters todo
      first None todo at = refl
      first (Some who) todo at = refl

      later : (q : Todo) (old new : Todos) → is_cleaning_todo q ≡ true → cutters new ≡ cutters old → cutters (q ∷ new) ≡ cutters (q ∷ old)
      later (Todo.tell_cut who) old new c h = absurd (false≢true c)
      later q old new c h = h
  cuts-cleaned p e false = refl

  -- the list that a step leaves, with the cleaning that it begins
  pub next-cutters : (p : Processor) (e : FineStep) (q : Todo) (todo : Todos) → p.todo ≡ q ∷ todo → (cut : List ℕ) → Cuts cut (goes_on_by image p e (q ∷ todo)).todo → cutters (p_next image p e).todo ≡ cut
  next-cutters p e q todo at cut h =
      ap cutters (acted-list image (with_cleaned image (goes_on_by image p e p.todo) e (begins_cleaning e)) e.act)
      ∙ (cuts-cleaned (goes_on_by image p e p.todo) e (begins_cleaning e) ∙ (ap (λ (z : Todos). cutters (goes_on_by image p e z).todo) at ∙ h))

  pub plain-cutters : (p : Processor) (e : FineStep) (q : Todo) (todo : Todos) → p.todo ≡ q ∷ todo → is_plain q ≡ true → cutters (p_next image p e).todo ≡ cutters todo
  plain-cutters p e q todo at plain =
      next-cutters p e q todo at (cutters todo)
      (plain-kept image (Cuts (cutters todo)) Any (cuts-expands (cutters todo)) p (cuts-put (cutters todo)) (λ who x z few k. k) (λ z k. k) (λ d z k. k) e q todo plain tt refl)

  pub reread-cutters : (p : Processor) (e : FineStep) (site : ℕ) (todo : Todos) → p.todo ≡ Todo.reread site ∷ todo → (thread_in e.word).aborted ≡ false → cutters (p_next image p e).todo ≡ cutters todo
  reread-cutters p e site todo at calm =
      next-cutters p e (Todo.reread site) todo at (cutters todo)
      (reread-kept image (Cuts (cutters todo)) Any (cuts-expands (cutters todo)) p (cuts-put (cutters todo)) (λ who x z few k. k) (λ z k. k) (λ d z k. k) e site todo calm tt refl)

  -- that no look and no rouse is on it
  abbrev pub Calm : Todos → Type 0
  Calm todo = list_all is_calm todo ≡ true

  calm-put : (q : Todo) (todo : Todos) → is_calm q ≡ true → Calm todo → Calm (q ∷ todo)
  calm-put q todo on h = and_from (is_calm q) (list_all is_calm todo) on h

  calm-visit : (q : Todo) (todo : Todos) → visits_row q ≡ true → names_row q ≡ true → Calm todo → Calm (q ∷ todo)
  calm-visit (Todo.pass who x) todo visit few h = h
  calm-visit (Todo.drop x) todo visit few h = h
  calm-visit q todo visit few h = absurd (false≢true visit)

  pub calm-fine : (c : Context) (q : Pending) (rest : Steps) → Calm (fine_steps image c q rest)
  calm-fine = forms-kept image Calm
      (record {
        note = λ site todo h. h;
        act = λ q rest. refl;
        settles = λ q rest deadline mark. refl;
        access = λ q rest. refl;
        access_settles = λ q rest deadline mark. refl;
        look = λ x todo h. h;
        owe = λ q rest. refl;
        leave = λ a rest. refl;
        edit = λ d q rest. refl;
        move = λ d who rest. refl;
        start = λ who q rest c. refl;
      })

  pub calm-expands : (c : Context) → Any c → Calm [] → Calm (next_steps image c c.pending)
  calm-expands c of h = next-kept image Calm calm-visit calm-fine (λ b. elim b as (λ b. Calm (end_of_turn image b)) [ true ↦ refl | false ↦ refl ]) c c.pending

  pub calm-cleaned : (p : Processor) (e : FineStep) (b : Bool) → Calm p.todo → Calm (with_cleaned image p e b).todo
  calm-cleaned p e true h = cleaning-kept image (λ old new. Calm old → Calm new) (row_number e.site) first later p.todo h
    where
      first : (o : Option ℕ) (todo : Todos) → thread_of_row image (row_number e.site) ≡ o → Calm todo → Calm (cleaning_of (row_number e.site) o ++ todo)
      first None todo at h = h
      first (Some who) todo at h = h

      later : (q : Todo) (old new : Todos) → is_cleaning_todo q ≡ true → (Calm old → Calm new) → Calm (q ∷ old) → Calm (q ∷ new)
      later q old new c on h = let parts = and_parts (is_calm q) (list_all is_calm old) h in and_from (is_calm q) (list_all is_calm new) parts.0 (on parts.1)
  calm-cleaned p e false h = h

  pub next-calm : (p : Processor) (e : FineStep) (q : Todo) (todo : Todos) → p.todo ≡ q ∷ todo → Calm (goes_on_by image p e (q ∷ todo)).todo → Calm (p_next image p e).todo
  next-calm p e q todo at h =
      ap (list_all is_calm) (acted-list image (with_cleaned image (goes_on_by image p e p.todo) e (begins_cleaning e)) e.act)
      ∙ calm-cleaned (goes_on_by image p e p.todo) e (begins_cleaning e) (ap (λ (z : Todos). list_all is_calm (goes_on_by image p e z).todo) at ∙ h)

  pub plain-calm : (p : Processor) (e : FineStep) (q : Todo) (todo : Todos) → p.todo ≡ q ∷ todo → is_plain q ≡ true → Calm todo → Calm (p_next image p e).todo
  plain-calm p e q todo at plain h =
      next-calm p e q todo at (plain-kept image Calm Any calm-expands p calm-visit (λ who x z few k. k) (λ z k. k) (λ d z k. k) e q todo plain tt h)

  pub reread-calm : (p : Processor) (e : FineStep) (site : ℕ) (todo : Todos) → p.todo ≡ Todo.reread site ∷ todo → (thread_in e.word).aborted ≡ false → Calm todo → Calm (p_next image p e).todo
  reread-calm p e site todo at calm h =
      next-calm p e (Todo.reread site) todo at (reread-kept image Calm Any calm-expands p calm-visit (λ who x z few k. k) (λ z k. k) (λ d z k. k) e site todo calm tt h)
