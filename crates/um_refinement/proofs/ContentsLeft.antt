-- What a step leaves of the cell of an object, but for the numbers of notes in it: all where it is made elsewhere, and after each that no trace shows.
use Rattle.um_refinement.proofs.Words.{Event, More, if◌then◌else◌, ◌≡◌, ℕ, ◌+◌, ◌<◌, Bool, true, false, [], ◌∷◌, length, refl, sym, ap, ◌∙◌, subst, arith, ◌==◌, ROWS, Pending, State, object_at, FineAct, Unseen, begins_cleaning, says_show, row_number, ObjectCell, Todo, Todos, same_site, FineStep, Site, Fine, object, one_if, is_recycle, is_wipe, cell_of, recyclers, wipers, ContentsAre, empty_cell}
use Rattle.um_machine.specs.Objects as Plain
use Rattle.um_fine.specs.Asks.{or_void}
use Rattle.um_fine.specs.Answers.{is_void}
use Rattle.um_refinement.proofs.CellSteps.{takes-apart, cell-else, cell-here, idle-count, is_on_cell, off-cell, takes-quiet, wipe-sum, wipers-few}
use Rattle.um_refinement.proofs.CleanersSteps.{gain, no-gain, rec-sum}
use Rattle.um_refinement.proofs.DomainReads.{eqb-swap}
use Rattle.um_refinement.proofs.Erased.{around}
use Rattle.um_refinement.proofs.Leaves.{Lawful}
use Rattle.um_refinement.proofs.ListCounts.{recycles-of, takes-counts, wipes-of}
use Rattle.um_refinement.proofs.ListGrowth.{ReadsLast}
use Rattle.um_refinement.proofs.SchedulerSteps.{made-at, made-says}
use Rattle.um_refinement.proofs.StepReads.{is-behind}

-- The cell without the numbers of notes.
abbrev pub strip : ObjectCell → ObjectCell
strip o = record o { noted = [] }

pub record AreStripped (f : Fine) (m : State) (x : ℕ) : Type 0 where
  pub whole : wipers f x ≡ recyclers f x → strip (object f x) ≡ cell_of [] (object_at m x)
  pub cleared : wipers f x < recyclers f x → strip (object f x) ≡ empty_cell []
  pub vacant : Plain.is_free (object_at m x).status ≡ true → strip (object f x) ≡ empty_cell []

pub are-stripped : (f : Fine) (m : State) (x : ℕ) → ContentsAre f m x → AreStripped f m x
are-stripped f m x h = record { whole = λ k. ap strip (h.whole k); cleared = λ k. ap strip (h.cleared k); vacant = λ k. ap strip (h.vacant k) }

pub with-notes : (f : Fine) (m : State) (x : ℕ) → AreStripped f m x → ContentsAre f m x
with-notes f m x h =
    record {
      whole = λ k i. record (h.whole k i) { noted = (object f x).noted };
      cleared = λ k i. record (h.cleared k i) { noted = (object f x).noted };
      vacant = λ k i. record (h.vacant k i) { noted = (object f x).noted };
    }

module _ (f : Fine) (m : State) (e : FineStep) (law : Lawful f m e) (x : ℕ) (few : x < ROWS) where
  open around f e use {later, processor as p}
  open is-behind f m e law use {last-shown}

  abbrev Result : State → Type 0
  Result s = AreStripped later s x

  abbrev Free : State → Bool
  Free s = Plain.is_free (object_at s x).status

  abbrev Cell : State → ObjectCell
  Cell s = cell_of [] (object_at s x)

  pub was : AreStripped f m x
  was = are-stripped f m x (law.rel.rows x few).contents

  pub in-objects : {y : ℕ} → y < ROWS → y < length m.objects
  in-objects l = let long = law.sound.wide.objects in omega (arith, l, long)

  -- What is so then.

  -- as many more clear the cell as recycle the object
  pub same : (s : State) (n : ℕ) → wipers later x ≡ wipers f x + n → recyclers later x ≡ recyclers f x + n → object later x ≡ object f x → Cell s ≡ Cell m → (Free s ≡ true → Free m ≡ true) → Result s
  same s n wipes recs cell contents free =
      record {
        whole = λ h. ap strip cell ∙ (was.whole (omega (arith, h, wipes, recs)) ∙ sym contents);
        cleared = λ h. ap strip cell ∙ was.cleared (omega (arith, h, wipes, recs));
        vacant = λ h. ap strip cell ∙ was.vacant (free h);
      }

  -- a step that neither clears the cell nor recycles the object, and leaves both
  pub beside : (s : State) (q : Todo) (todo : Todos) → p.todo ≡ q ∷ todo → ReadsLast e q todo → is_wipe x q ≡ false → is_recycle x q ≡ false → object later x ≡ object f x → Cell s ≡ Cell m
      → (Free s ≡ true → Free m ≡ true) → Result s
  beside s q todo at last wipe rec cell contents free =
      let wipes = wipe-sum f m e law x few q todo at last in
      let recs = rec-sum f m e law x few q todo at last in
      let one = ap one_if wipe in
      let two = ap one_if rec in
      same s (gain f m e law x few (begins_cleaning e) (row_number e.site)) (omega (arith, wipes, one)) (omega (arith, recs, two)) cell contents free

  -- A step that no trace shows.

  pub idle : (s : State) → p.todo ≡ [] → begins_cleaning e ≡ false → Cell s ≡ Cell m → (Free s ≡ true → Free m ≡ true) → Result s
  idle s at quiet contents free =
      let wipes = idle-count f m e law x few (is_wipe x) (takes-counts (is_wipe x) (wipes-of x) f.image p e at quiet) at in
      let recs = idle-count f m e law x few (is_recycle x) (takes-counts (is_recycle x) (recycles-of x) f.image p e at quiet) at in
      same s 0 (omega (arith, wipes)) (omega (arith, recs)) (cell-else f m e law x few (ap (λ i. same_site i (Site.object x)) (made-at f m e law [] at) ∙ takes-apart f m e law x few (Site.object x) e.act refl refl)) contents free

  -- the cell is cleared
  wipes : (z : ℕ) (todo : Todos) → p.todo ≡ Todo.wipe z ∷ todo → Result m
  wipes z todo at = by (x == z) refl (made-says f m e law (Todo.wipe z ∷ todo) at) (ap (λ i. same_site i (Site.object x)) (made-at f m e law (Todo.wipe z ∷ todo) at))
    where
      by : (b : Bool) → (x == z) ≡ b → e.act ≡ FineAct.Unseen Unseen.Wipe → same_site e.site (Site.object x) ≡ (z == x) → Result m
      by false k said site = beside m (Todo.wipe z) todo at tt k refl (cell-else f m e law x few (site ∙ (eqb-swap z x ∙ k))) refl (λ h. h)
      by true k said site =
          let wipes = wipe-sum f m e law x few (Todo.wipe z) todo at tt in
          let recs = rec-sum f m e law x few (Todo.wipe z) todo at tt in
          let one = ap one_if k in
          let none = no-gain f m e law x few (ap (λ a. begins_cleaning (record e { act = a })) said) in
          let most = wipers-few f m e law x few in
          let cell = cell-here f m e law x few (site ∙ (eqb-swap z x ∙ k)) (FineAct.Unseen Unseen.Wipe) said in
          record { whole = λ h. absurd (omega (arith, h, wipes, recs, one, none, most)); cleared = λ h. ap strip cell; vacant = λ h. ap strip cell }

  -- the size of a message is looked at
  looks : (z : ℕ) (todo : Todos) → p.todo ≡ Todo.size_look z ∷ todo → Result m
  looks z todo at = beside m (Todo.size_look z) todo at tt refl refl (by (z == x) refl) refl (λ h. h)
    where
      site : same_site e.site (Site.object x) ≡ (z == x)
      site = ap (λ i. same_site i (Site.object x)) (made-at f m e law (Todo.size_look z ∷ todo) at)

      by : (b : Bool) → (z == x) ≡ b → object later x ≡ object f x
      by true k = cell-here f m e law x few (site ∙ k) (FineAct.Unseen Unseen.SizeLook) (made-says f m e law (Todo.size_look z ∷ todo) at)
      by false k = cell-else f m e law x few (site ∙ k)

  -- a search that finds nothing leaves the cell
  unfound : (u : Unseen) → e.act ≡ FineAct.Unseen u → (q : Todo) (todo : Todos) → p.todo ≡ q ∷ todo → ReadsLast e q todo → is_wipe x q ≡ false → is_recycle x q ≡ false → (said : Event) (more : More)
      → e.act ≡ or_void f.image p e.act (FineAct.Shown said more) → Result m
  unfound u said q todo at last wipe rec told more h = beside m q todo at last wipe rec (by (same_site e.site (Site.object x)) refl) refl (λ z. z)
    where
      void : (b : Bool) → is_void e.act ≡ b → e.act ≡ FineAct.Unseen Unseen.Void
      void true k = h ∙ ap (λ b. if b then FineAct.Unseen Unseen.Void else FineAct.Shown told more) k
      void false k = absurd (subst (λ act. elim act as (λ _. Type 0) [ FineAct.Unseen v ↦ Unit {0} | FineAct.Shown a b ↦ ⊥ ]) (sym said ∙ (h ∙ ap (λ b. if b then FineAct.Unseen Unseen.Void else FineAct.Shown told more) k)) tt)

      by : (b : Bool) → same_site e.site (Site.object x) ≡ b → object later x ≡ object f x
      by true k = cell-here f m e law x few k (FineAct.Unseen Unseen.Void) (void (is_void e.act) refl)
      by false k = cell-else f m e law x few k

  pub quiet-part : (u : Unseen) → e.act ≡ FineAct.Unseen u → (todo : Todos) → p.todo ≡ todo → Result m
  quiet-part u said [] at = idle m at (takes-quiet f m e law x few at) refl (λ h. h)
  quiet-part u said (Todo.wipe z ∷ todo) at = wipes z todo at
  quiet-part u said (Todo.size_look z ∷ todo) at = looks z todo at
  quiet-part u said (Todo.look who site before ∷ todo) at = unfound u said (Todo.look who site before) todo at tt refl refl _ _ (made-says f m e law (Todo.look who site before ∷ todo) at)
  quiet-part u said (Todo.handle deadline mark ∷ todo) at = unfound u said (Todo.handle deadline mark) todo at tt refl refl _ _ (made-says f m e law (Todo.handle deadline mark ∷ todo) at)
  quiet-part u said (Todo.recycle z ∷ todo) at = absurd (is-unseen (sym said ∙ made-says f m e law (Todo.recycle z ∷ todo) at))
    where
      is-unseen : {e : _} {more : _} → FineAct.Unseen u ≡ FineAct.Shown e more → ⊥
      is-unseen h = subst (λ act. elim act as (λ _. Type 0) [ FineAct.Unseen v ↦ Unit {0} | FineAct.Shown a b ↦ ⊥ ]) h tt
  quiet-part u said (Todo.show q rest ∷ todo) at =
      beside m (Todo.show q rest) todo at (last-shown q rest todo at) refl refl (cell-else f m e law x few (ap (λ i. same_site i (Site.object x)) (made-at f m e law (Todo.show q rest ∷ todo) at) ∙ off-cell f.image p q x (by q (made-says f m e law (Todo.show q rest ∷ todo) at)))) refl (λ h. h)
    where
      is-unseen : {e : _} {more : _} → FineAct.Unseen u ≡ FineAct.Shown e more → ⊥
      is-unseen h = subst (λ act. elim act as (λ _. Type 0) [ FineAct.Unseen v ↦ Unit {0} | FineAct.Shown a b ↦ ⊥ ]) h tt

      by : (q : Pending) → e.act ≡ says_show f.image p q e.act → is_on_cell q ≡ false
      by (Pending.Work a ask) h = absurd (is-unseen (sym said ∙ h))
      by (Pending.Named who) h = absurd (is-unseen (sym said ∙ h))
      by q h = refl
  quiet-part u said (q ∷ todo) at =
      beside m q todo at tt refl refl (cell-else f m e law x few (ap (λ i. same_site i (Site.object x)) (made-at f m e law (q ∷ todo) at))) refl (λ h. h)
