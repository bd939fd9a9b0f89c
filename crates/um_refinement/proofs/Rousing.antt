-- A look for one who sleeps: nobody is found, or who slept is taken from there, to be added.
use Rattle.um_refinement.proofs.Words.{◌≡◌, ℕ, Bool, true, false, ◌∷◌, None, refl, ap, ◌∙◌, if◌then◌else◌, slice_set, to_thread, State, FineAct, Unseen, context_in, begins_cleaning, Todo, Todos, Processor, FineStep, Fine, adders}
use Rattle.um_fine.specs.Answers.{is_void}
use Rattle.um_fine.specs.Follows.{filled_up}
use Rattle.um_fine.specs.Joins.{Joins}
use Rattle.um_refinement.specs.Fine.{joins}
use Rattle.um_refinement.proofs.Erased.{around}
use Rattle.um_refinement.proofs.Leaves.{Lawful}
use Rattle.um_refinement.proofs.ListAdders.{filled-adders}
use Rattle.um_refinement.proofs.ListTails.{quiet-next}
use Rattle.um_refinement.proofs.ParkedPart.{joins-later}
use Rattle.um_refinement.proofs.SchedulerSteps.{made-at, made-says}

module _ (f : Fine) (m : State) (e : FineStep) (law : Lawful f m e) (who : ℕ) (todo : Todos) (at : (f.processors e.cpu).todo ≡ Todo.rouse who ∷ todo) where
  open around f e use {later, processor as p, now}

  abbrev says_so : Bool → FineAct
  says_so b = if b then FineAct.Unseen Unseen.Void else FineAct.Unseen (Unseen.Rouse (to_thread who))

  pub said : (b : Bool) → is_void e.act ≡ b → e.act ≡ says_so b
  said b k = made-says f m e law (Todo.rouse who ∷ todo) at ∙ ap says_so k

  -- who is added then
  pub list : (b : Bool) → is_void e.act ≡ b → adders now.todo ≡ adders (if b then todo else Todo.add (context_in e.moved) ∷ todo)
  list b k =
      let u = unseen b in
      ap (λ (z : Processor). adders z.todo) (quiet-next f.image p e (Todo.rouse who ∷ todo) u.0 at (said b k ∙ u.1) u.2)
      ∙ (ap (λ c. adders (filled_up f.image p.context (if c then todo else Todo.add (context_in e.moved) ∷ todo))) k
      ∙ filled-adders f.image p.context (if b then todo else Todo.add (context_in e.moved) ∷ todo))
    where
      unseen : (b : Bool) → (u : Unseen) × (says_so b ≡ FineAct.Unseen u) × (begins_cleaning (record e { act = FineAct.Unseen u }) ≡ false)
      unseen true = (Unseen.Void, refl, refl)
      unseen false = (Unseen.Rouse (to_thread who), refl, refl)

  -- and who sleeps
  pub sleepers : is_void e.act ≡ false → (joins later).asleep ≡ slice_set (joins f).asleep who None
  sleepers found = ap (λ (j : Joins). j.asleep) (joins-later f m e law (made-at f m e law (Todo.rouse who ∷ todo) at) (FineAct.Unseen (Unseen.Rouse (to_thread who))) (said false found))
