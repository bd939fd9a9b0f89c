-- A look at a row finds nothing that is due of the thread that looks.
use Rattle.um_refinement.proofs.Words.{◌≡◌, ℕ, ◌<◌, true, false, ◌∷◌, refl, sym, ap, ◌∙◌, subst, eq-eqb, ◌&&◌, ◌||◌, not, list_all, and_parts, false≢true, ltb-true, not-true, true≢false, ROWS, State, pair_at, FineAct, Unseen, RowWord, has, is_visit, row_in, fits, Todo, Todos, same_site, FineStep, Site, Fine, names_row, fits_visit}
use Rattle.um_refinement.proofs.CleanersSteps.{row-here, word-here}
use Rattle.um_refinement.proofs.Erased.{around}
use Rattle.um_refinement.proofs.Leaves.{Lawful}
use Rattle.um_refinement.proofs.SchedulerSteps.{made-at}
use Rattle.um_refinement.proofs.VisitSteps.{pair-is}

module _ (f : Fine) (m : State) (e : FineStep) (law : Lawful f m e) where
  open around f e use {processor as p}

  pub row-first : (q : Todo) (todo : Todos) → p.todo ≡ q ∷ todo → names_row q ≡ true
  row-first q todo at = (and_parts (names_row q) (list_all names_row todo) (subst (λ (z : Todos). list_all names_row z ≡ true) at (law.rel.processors e.cpu law.by.named).rows)).0

  -- the word of a row that was looked at
  looked-at : (x : ℕ) (q : Todo) (todo : Todos) → p.todo ≡ q ∷ todo → x < ROWS → e.site ≡ Site.row x → e.act ≡ FineAct.Unseen Unseen.Visit → (t : ℕ) → has (row_in e.word) t ≡ pair_at m t x
  looked-at x q todo at few site said t =
      let on = ap (λ i. same_site i (Site.row x)) site ∙ eq-eqb x x refl in
      ap (λ (w : RowWord). has w t) (word-here f m e law x few on ∙ row-here f m e law x few on (FineAct.Unseen Unseen.Visit) said) ∙ pair-is f m law.rel x t few

  pub pass-looked : (who x : ℕ) (todo : Todos) → p.todo ≡ Todo.pass who x ∷ todo → e.act ≡ FineAct.Unseen Unseen.Visit → pair_at m p.context.thread x ≡ true → pair_at m who x ≡ false → ⊥
  pass-looked who x todo at looked mine theirs =
      let small = ltb-true x ROWS (row-first (Todo.pass who x) todo at) in
      let reads = looked-at x (Todo.pass who x) todo at small (made-at f m e law (Todo.pass who x ∷ todo) at) looked in
      let has-mine = reads p.context.thread ∙ mine in
      let has-theirs = reads who ∙ theirs in
      let fit = (and_parts _ _ (subst (λ (z : Todos). fits f.image p z e ≡ true) at law.by.may.fit)).0 in
      false≢true (sym (λ i. not (is_visit (looked i)) || not (has-mine i && not (has-theirs i))) ∙ fit)

  pub drop-looked : (x : ℕ) (todo : Todos) → p.todo ≡ Todo.drop x ∷ todo → e.act ≡ FineAct.Unseen Unseen.Visit → pair_at m p.context.thread x ≡ true → ⊥
  drop-looked x todo at looked mine =
      let small = ltb-true x ROWS (row-first (Todo.drop x) todo at) in
      let reads = looked-at x (Todo.drop x) todo at small (made-at f m e law (Todo.drop x ∷ todo) at) looked in
      let found =
      ap (λ a. fits_visit (record e { act = a }) (has (row_in e.word) p.context.thread)) (sym looked)
      ∙ (and_parts (fits_visit e (has (row_in e.word) p.context.thread)) _ (subst (λ (z : Todos). fits f.image p z e ≡ true) at law.by.may.fit)).0 in
      true≢false (sym (reads p.context.thread ∙ mine) ∙ not-true (has (row_in e.word) p.context.thread) found)
