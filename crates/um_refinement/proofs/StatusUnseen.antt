-- The word of each row says what its object is, after a step that no trace shows, and after one that drops a permission.
use Rattle.um_refinement.proofs.Words.{Event, ◌≡◌, ℕ, ◌<◌, Bool, true, false, [], ◌∷◌, refl, sym, ap, ◌∙◌, subst, arith, ◌==◌, ◌&&◌, if◌then◌else◌, and_parts, eqb-false, eqb-true, false≢true, Act, Leftover, ROWS, Addr, ThreadIx, Status, Pending, to_thread, State, object_at, FineAct, More, Unseen, RowWord, Stage, gone_stage, has, is_cleaning, is_free, is_last, is_live, permitted, begins_cleaning, says_show, site_at, row_number, Todo, Todos, same_site, FineStep, Site, Fine, one_if, row, is_recycle, is_vacate, is_reserved, status_of, counted_row}
use Rattle.um_machine.specs.Objects as Plain
use Rattle.um_machine.specs.Table as T
use Rattle.um_fine.specs.Answers.{is_void}
use Rattle.um_fine.specs.Asks.{or_void}
use Rattle.um_refinement.proofs.CellSteps.{idle-count, takes-off, takes-quiet}
use Rattle.um_refinement.proofs.CleanersPart.{unshown, visit-is}
use Rattle.um_refinement.proofs.CleanersSteps.{gain, no-gain, rec-sum, row-else, row-here, row-takes-it, vac-sum}
use Rattle.um_refinement.proofs.CleaningFacts.{cleaning-is, ends-free, left-gone, takes_last}
use Rattle.um_refinement.proofs.DomainReads.{eqb-swap}
use Rattle.um_refinement.proofs.DropSteps.{left-here}
use Rattle.um_refinement.proofs.Erased.{around}
use Rattle.um_refinement.proofs.Leaves.{Lawful}
use Rattle.um_refinement.proofs.ListCounts.{recycles-of, takes-counts, vacates-of}
use Rattle.um_refinement.proofs.ListGrowth.{ReadsLast}
use Rattle.um_refinement.proofs.Reachable.{sound-held}
use Rattle.um_refinement.proofs.RowSteps.{settled}
use Rattle.um_refinement.proofs.SchedulerSteps.{made-at, made-says}
use Rattle.um_refinement.proofs.StatusKept.{Traits, marks_of, traits_of}
use Rattle.um_refinement.proofs.StepReads.{is-behind}
use Rattle.um_refinement.proofs.StatusSteps.{free-is, live-is, ends-status, Result, was, counts, before, less, carry, beside, writes, same-marks}

module _ (f : Fine) (m : State) (e : FineStep) (law : Lawful f m e) (x : ℕ) (few : x < ROWS) where
  open around f e use {later, processor as p}
  open is-behind f m e law use {last-shown}

  -- A step that no trace shows.

  pub idle : (s : State) → p.todo ≡ [] → begins_cleaning e ≡ false → traits_of (object_at s x) ≡ traits_of (object_at m x) → Result f m e law x few s
  idle s at quiet traits =
      let vacs = idle-count f m e law x few (is_vacate x) (takes-counts (is_vacate x) (vacates-of x) f.image p e at quiet) at in
      let recs = idle-count f m e law x few (is_recycle x) (takes-counts (is_recycle x) (recycles-of x) f.image p e at quiet) at in
      carry f m e law x few s 0 (omega (arith, vacs), omega (arith, recs)) (ap marks_of (row-else f m e law x few (takes-off f m e law x few at))) traits

  -- a claim ends
  pub end-call : (z : ℕ) (todo : Todos) → p.todo ≡ Todo.end_call z ∷ todo → Result f m e law x few m
  end-call z todo at = by (z == x) refl
    where
      site : same_site e.site (Site.row x) ≡ (z == x)
      site = ap (λ i. same_site i (Site.row x)) (made-at f m e law (Todo.end_call z ∷ todo) at)

      by : (b : Bool) → (z == x) ≡ b → Result f m e law x few m
      by false k = beside f m e law x few m (Todo.end_call z) todo at tt refl refl (ap marks_of (row-else f m e law x few (site ∙ k))) refl
      by true k =
          let word = row-here f m e law x few (site ∙ k) (FineAct.Unseen Unseen.EndCall) (made-says f m e law (Todo.end_call z ∷ todo) at) in
          let n = gain f m e law x few (begins_cleaning e) (row_number e.site) in
          let more = counts f m e law x few (Todo.end_call z) todo at tt refl refl in
          let stage = ap (λ (w : RowWord). w.stage) word in
          let init = ap (λ (w : RowWord). w.init) word in
          let public = ap (λ (w : RowWord). w.public) word in
          let free = ap is_free stage ∙ ends-free (row f x).stage ((row f x).claims == 1) in
          record {
            status = λ h.
                (was f m e law x few).status (before f m e law x few n more h)
                ∙ sym (ap (λ st. status_of st (is_reserved (object_at m x).status)) stage ∙ ends-status (row f x).stage ((row f x).claims == 1) (is_reserved (object_at m x).status));
            vacated = λ h. let v = (was f m e law x few).vacated (less f m e law x few n more h) in (free-is (row later x).stage (free ∙ ap is_free v.0), v.1);
            init = λ h. init ∙ (was f m e law x few).init (before f m e law x few n more h);
            public = λ h. public ∙ (was f m e law x few).public (before f m e law x few n more h);
            bare = λ h. let b = (was f m e law x few).bare (free-is (row f x).stage (sym free ∙ ap is_free h)) in (init ∙ b.0, public ∙ b.1);
            kind = (was f m e law x few).kind;
          }

  -- the row is vacated
  pub vacate-row : (z : ℕ) (todo : Todos) → p.todo ≡ Todo.vacate z ∷ todo → Result f m e law x few m
  vacate-row z todo at = by (z == x) refl
    where
      said : e.act ≡ FineAct.Unseen Unseen.Vacate
      said = made-says f m e law (Todo.vacate z ∷ todo) at

      site : same_site e.site (Site.row x) ≡ (z == x)
      site = ap (λ i. same_site i (Site.row x)) (made-at f m e law (Todo.vacate z ∷ todo) at)

      by : (b : Bool) → (z == x) ≡ b → Result f m e law x few m
      by false k = beside f m e law x few m (Todo.vacate z) todo at tt (eqb-swap x z ∙ k) refl (ap marks_of (row-else f m e law x few (site ∙ k))) refl
      by true k =
          let word = row-here f m e law x few (site ∙ k) (FineAct.Unseen Unseen.Vacate) said in
          let stage = cleaning-is (row f x).stage (and_parts (is_cleaning (row f x).stage) _ (row-takes-it f m e law x few (site ∙ k) (FineAct.Unseen Unseen.Vacate) said)).0 in
          let even = settled f m law.rel x few (ap is_free stage) in
          let vacs = vac-sum f m e law x few (Todo.vacate z) todo at tt in
          let recs = rec-sum f m e law x few (Todo.vacate z) todo at tt in
          let none = no-gain f m e law x few (ap (λ a. begins_cleaning (record e { act = a })) said) in
          let one = ap one_if (eqb-swap x z ∙ k) in
          record {
            status = λ h. absurd (omega (arith, h, even, vacs, recs, none, one));
            vacated = λ h. (ap (λ (w : RowWord). w.stage) word, (was f m e law x few).status even ∙ ap (λ st. status_of st (is_reserved (object_at m x).status)) stage);
            init = λ h. absurd (omega (arith, h, even, vacs, recs, none, one));
            public = λ h. absurd (omega (arith, h, even, vacs, recs, none, one));
            bare = λ h. (ap (λ (w : RowWord). w.init) word, ap (λ (w : RowWord). w.public) word);
            kind = (was f m e law x few).kind;
          }

  pub look-at : (q : Todo) (todo : Todos) → p.todo ≡ q ∷ todo → ReadsLast e q todo → is_vacate x q ≡ false → is_recycle x q ≡ false → e.act ≡ FineAct.Unseen Unseen.Visit → Result f m e law x few m
  look-at q todo at last vac rec said = beside f m e law x few m q todo at last vac rec (same-marks f m e law x few (FineAct.Unseen Unseen.Visit) said (λ w. refl)) refl

  -- a search that finds nothing
  pub unfound : (u : Unseen) → e.act ≡ FineAct.Unseen u → (q : Todo) (todo : Todos) → p.todo ≡ q ∷ todo → ReadsLast e q todo → is_vacate x q ≡ false → is_recycle x q ≡ false → (found : Event) (more : More)
      → e.act ≡ or_void f.image p e.act (FineAct.Shown found more) → Result f m e law x few m
  unfound u said q todo at last vac rec found more h = beside f m e law x few m q todo at last vac rec (same-marks f m e law x few (FineAct.Unseen Unseen.Void) (void (is_void e.act) refl) (λ w. refl)) refl
    where
      void : (b : Bool) → is_void e.act ≡ b → e.act ≡ FineAct.Unseen Unseen.Void
      void true k = h ∙ ap (λ b. if b then FineAct.Unseen Unseen.Void else FineAct.Shown found more) k
      void false k =
          absurd (subst (λ act. elim act as (λ _. Type 0) [ FineAct.Unseen v ↦ Unit {0} | FineAct.Shown a b ↦ ⊥ ])
          (sym said ∙ (h ∙ ap (λ b. if b then FineAct.Unseen Unseen.Void else FineAct.Shown found more) k)) tt)

  pub quiet-part : (u : Unseen) → e.act ≡ FineAct.Unseen u → (todo : Todos) → p.todo ≡ todo → Result f m e law x few m
  quiet-part u said [] at = idle m at (takes-quiet f m e law x few at) refl
  quiet-part u said (Todo.show q rest ∷ todo) at =
      beside f m e law x few m (Todo.show q rest) todo at (last-shown q rest todo at) refl refl
      (ap marks_of (row-else f m e law x few (ap (λ i. same_site i (Site.row x)) (made-at f m e law (Todo.show q rest ∷ todo) at) ∙ off q (made-says f m e law (Todo.show q rest ∷ todo) at)))) refl
    where
      off : (q : Pending) → e.act ≡ says_show f.image p q e.act → same_site (site_at f.image p (Todo.show q rest ∷ todo)) (Site.row x) ≡ false
      off Pending.Begin is = refl
      off Pending.Exit is = refl
      off q is = unshown f m e law x few said is refl
  quiet-part u said (Todo.end_call z ∷ todo) at = end-call z todo at
  quiet-part u said (Todo.vacate z ∷ todo) at = vacate-row z todo at
  quiet-part u said (Todo.recycle z ∷ todo) at = unshown f m e law x few said (made-says f m e law (Todo.recycle z ∷ todo) at) refl
  quiet-part u said (Todo.pass who z ∷ todo) at = look-at (Todo.pass who z) todo at tt refl refl (visit-is f m e law x few u _ said (made-says f m e law (Todo.pass who z ∷ todo) at))
  quiet-part u said (Todo.drop z ∷ todo) at = look-at (Todo.drop z) todo at tt refl refl (visit-is f m e law x few u _ said (made-says f m e law (Todo.drop z ∷ todo) at))
  quiet-part u said (Todo.clean_pair who z ∷ todo) at = look-at (Todo.clean_pair who z) todo at tt refl refl (visit-is f m e law x few u _ said (made-says f m e law (Todo.clean_pair who z ∷ todo) at))
  quiet-part u said (Todo.look who site rank ∷ todo) at = unfound u said (Todo.look who site rank) todo at tt refl refl _ _ (made-says f m e law (Todo.look who site rank ∷ todo) at)
  quiet-part u said (Todo.handle deadline mark ∷ todo) at = unfound u said (Todo.handle deadline mark) todo at tt refl refl _ _ (made-says f m e law (Todo.handle deadline mark ∷ todo) at)
  quiet-part u said (q ∷ todo) at = beside f m e law x few m q todo at tt refl refl (ap marks_of (row-else f m e law x few (ap (λ i. same_site i (Site.row x)) (made-at f m e law (q ∷ todo) at)))) refl

  -- A permission is dropped.
  pub drop-case : (s : State) (who : ThreadIx) (addr : Addr) (left : Leftover) (y t : ℕ) (more : More) (q : Todo) (todo : Todos) → p.todo ≡ q ∷ todo → ReadsLast e q todo
      → is_vacate x q ≡ false → is_recycle x q ≡ false → e.site ≡ Site.row y → e.act ≡ FineAct.Shown (record { thread = to_thread t; act = Act.DropPair who addr left }) more
      → ((x ≡ y → ⊥) → traits_of (object_at s x) ≡ traits_of (object_at m x)) → (y ≡ x → takes_last (T.dropped m who.0 x) ≡ false → traits_of (object_at s x) ≡ traits_of (object_at m x))
      → (y ≡ x → takes_last (T.dropped m who.0 x) ≡ true → traits_of (object_at s x) ≡ record (traits_of (object_at m x)) { status = Status.Gone }) → Result f m e law x few s
  drop-case s who addr left y t more q todo at last vac rec site said others kept dead = by (y == x) refl
    where
      on-is : same_site e.site (Site.row x) ≡ (y == x)
      on-is = ap (λ i. same_site i (Site.row x)) site

      n : ℕ
      n = gain f m e law x few (begins_cleaning e) (row_number e.site)

      here : (y == x) ≡ true → Result f m e law x few s
      here k = which (takes_last (T.dropped m who.0 x)) refl
        where
          cond-is : (is_last (row f x) who.0 && has (row f x) who.0) ≡ takes_last (T.dropped m who.0 x)
          cond-is = sym (left-gone (has (row f x) who.0) (is_last (row f x) who.0)) ∙ ap takes_last (left-here f m law.rel x who.0 few (sound-held m law.sound x who.0 few))

          word-by : (b : Bool) → takes_last (T.dropped m who.0 x) ≡ b
              → row later x ≡ counted_row (if b then record (permitted (row f x) who.0 false) { stage = gone_stage (row f x) } else permitted (row f x) who.0 false)
          word-by b h =
              row-here f m e law x few (on-is ∙ k) _ said
              ∙ ap (λ c. counted_row (if c then record (permitted (row f x) who.0 false) { stage = gone_stage (row f x) } else permitted (row f x) who.0 false)) (cond-is ∙ h)

          gone-status : (c b : Bool) → Status.Gone ≡ status_of (if c then Stage.Cleaning else Stage.Dying) b
          gone-status true b = refl
          gone-status false b = refl

          gone-free : (c : Bool) → is_free (if c then Stage.Cleaning else Stage.Dying) ≡ false
          gone-free true = refl
          gone-free false = refl

          which : (b : Bool) → takes_last (T.dropped m who.0 x) ≡ b → Result f m e law x few s
          which false h = beside f m e law x few s q todo at last vac rec (ap marks_of (word-by false h)) (kept (eqb-true y x k) h)
          which true h =
              let word = word-by true h in
              let live = live-is (row f x).stage (and_parts ((row f x).dynamic) (is_live (row f x).stage) (and_parts ((row f x).dynamic && is_live (row f x).stage) _ (and_parts (is_last (row f x) who.0) (has (row f x) who.0) (cond-is ∙ h)).0).0).1 in
              let even = settled f m law.rel x few (ap is_free live) in
              let status = (was f m e law x few).status even ∙ ap (λ st. status_of st (is_reserved (object_at m x).status)) live in
              let traits = dead (eqb-true y x k) h in
              let stage = ap (λ (w : RowWord). w.stage) word in
              writes f m e law x few s n (counts f m e law x few q todo at last vac rec) even (ap is_free stage ∙ gone-free ((row f x).claims == 0))
              (ap (λ (o : Traits). o.status) traits ∙ (gone-status ((row f x).claims == 0) (is_reserved (object_at s x).status) ∙ ap (λ st. status_of st (is_reserved (object_at s x).status)) (sym stage)))
              (ap (λ (w : RowWord). w.init) word ∙ ((was f m e law x few).init even ∙ sym (ap (λ (o : Traits). o.init) traits)))
              (ap (λ (w : RowWord). w.public) word ∙ ((was f m e law x few).public even ∙ sym (ap (λ (o : Traits). o.public) traits)))
              (ap (λ (o : Traits). o.kind) traits ∙ (was f m e law x few).kind (λ z. false≢true (ap Plain.is_live (sym z ∙ status))))

      by : (b : Bool) → (y == x) ≡ b → Result f m e law x few s
      by true k = here k
      by false k = beside f m e law x few s q todo at last vac rec (ap marks_of (row-else f m e law x few (on-is ∙ k))) (others (λ same. eqb-false y x k (sym same)))
