-- What stands behind the entry of a list whose step a processor makes.
use Rattle.um_refinement.proofs.Words.{◌≡◌, Bool, false, [], ◌∷◌, ◌∙◌, ap, refl, subst, sym, true, true≢false, Pending, Steps, State, is_word_read, says_show, Todo, Todos, FineStep, Fine, AreFramed, Behind, Fits, and_parts, list_all}
use Rattle.um_fine.specs.Answers.{is_killed}
use Rattle.um_refinement.specs.Stops.{is_waiting_site, looks_well}
use Rattle.um_refinement.proofs.DomainReads.{IsPlaced}
use Rattle.um_refinement.proofs.Erased.{around}
use Rattle.um_refinement.proofs.Leaves.{Lawful}
use Rattle.um_refinement.proofs.ListGrips.{read-rests}
use Rattle.um_refinement.proofs.ListGrowth.{ReadsLast}
use Rattle.um_refinement.proofs.ListWakes.{LastRead, woken_by}
use Rattle.um_refinement.proofs.SchedulerSteps.{made-says}

-- whether an event is first on a list, and what stands behind the first
abbrev pub shows_first : Todos → Bool
shows_first (Todo.show q rest ∷ todo) = true
shows_first todo = false

abbrev pub behind_first : Todos → Todos
behind_first [] = []
behind_first (q ∷ todo) = todo

pub record IsBehind (f : Fine) (e : FineStep) : Type 0 where
  pub frame : (q : Todo) (todo : Todos) → (f.processors e.cpu).todo ≡ q ∷ todo → Behind f.image q todo
  -- what reads the word of an object stands alone
  pub last-shown : (q : Pending) (rest : Steps) (todo : Todos) → (f.processors e.cpu).todo ≡ Todo.show q rest ∷ todo → ReadsLast e (Todo.show q rest) todo

module _ (f : Fine) (m : State) (e : FineStep) (law : Lawful f m e) where
  open around f e use {processor as p}

  pub is-behind : IsBehind f e
  is-behind =
      record {
        frame = λ q todo at. (subst (AreFramed f.image) at (law.rel.processors e.cpu law.by.named).frames).0;
        last-shown = λ q rest todo at read.
            (subst (Fits f.image p.context) at (law.rel.processors e.cpu law.by.named).list.fits).1
            ∙ read-rests f.image p p.context q e.act (made-says f m e law (Todo.show q rest ∷ todo) at) read;
      }

  -- and nobody is woken by it, nor by a kill
  pub last-read : (q : Todo) (todo : Todos) → p.todo ≡ q ∷ todo → LastRead f.image e q todo
  last-read (Todo.show r rest) todo at =
      let said = made-says f m e law (Todo.show r rest ∷ todo) at in (λ read. (is-behind.last-shown r rest todo at read, reads r said read), kills r said)
    where
      reads : (r : Pending) → e.act ≡ says_show f.image p r e.act → is_word_read e.act ≡ true → woken_by e (Todo.show r rest) ≡ []
      reads (Pending.Work a ask) said read = absurd (true≢false (sym read ∙ ap is_word_read said))
      reads (Pending.FutexWake a all) said read = absurd (true≢false (sym read ∙ ap is_word_read said))
      reads r said read = refl

      kills : (r : Pending) → e.act ≡ says_show f.image p r e.act → is_killed e.act ≡ true → woken_by e (Todo.show r rest) ≡ []
      kills (Pending.Work a ask) said kill = absurd (true≢false (sym kill ∙ ap is_killed said))
      kills (Pending.FutexWake a all) said kill = absurd (true≢false (sym kill ∙ ap is_killed said))
      kills r said kill = refl
  last-read q todo at = tt

  pub reads-last : (q : Todo) (todo : Todos) → p.todo ≡ q ∷ todo → ReadsLast e q todo
  reads-last (Todo.show r rest) todo at = is-behind.last-shown r rest todo at
  reads-last q todo at = tt

  -- a look, and a mark in a hand, are for a cell in which threads wait
  pub is-placed : (q : Todo) (todo : Todos) → p.todo ≡ q ∷ todo → IsPlaced q
  is-placed (Todo.look who site before) todo at =
      (and_parts (is_waiting_site site) (list_all looks_well todo) (ap (list_all looks_well) (sym at) ∙ (law.rel.processors e.cpu law.by.named).look)).0
  is-placed (Todo.handle deadline mark) todo at = (law.rel.marks.hands e.cpu deadline mark todo law.by.named at).1
  is-placed q todo at = tt
