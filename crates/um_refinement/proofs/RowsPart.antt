-- The rows that the steps on a processor's list name are rows, after every lawful step.
use Rattle.um_refinement.proofs.Words.{◌≡◌, ℕ, ◌<◌, Bool, true, false, cond, List, [], ◌∷◌, ◌++◌, Option, Some, None, refl, sym, ap, ◌∙◌, subst, ◌==◌, if◌then◌else◌, nat_lt, unwrap_or, list_all, and_from, and_parts, eqb-true, false≢true, lt-ltb, Told, Image, ROWS, Addr, ThreadIx, own_row, row_at, thread_of_row, Pending, Steps, State, row_named, outcome_in, begins_cleaning, check_site, site_of_step, Context, cpu_of, same_cpu, behind_step, end_calls, goes_on_by, p_next, row_number, wakes, with_cleaned, Todo, Todos, is_cleaning_todo, cleaning_of, end_of_turn, fine_steps, next_steps, Processor, fails, Exchange, FineStep, Site, Fine, Behind, thread_in, ◌||◌, names_row}
use Rattle.um_words.specs.declared.fine.Mark.{Mark}
use Rattle.um_fine.specs.Answers.{is_due_act, is_tick}
use Rattle.um_fine.specs.Asks.{site_by}
use Rattle.um_fine.specs.Follows.{shown_step}
use Rattle.um_fine.specs.Places.{put_away}
use Rattle.um_refinement.specs.Frames.{IsActOver, access_alone, access_settled, act_alone, act_settled}
use Rattle.um_refinement.proofs.Offered.{runs-first}
use Rattle.um_refinement.proofs.StepReads.{is-behind, is-placed}
use Rattle.um_refinement.proofs.WaitingSites.{waiting-place}
use Rattle.um_fine.specs.Runs.{changed}
use Rattle.um_refinement.proofs.Leaves.{Lawful}
use Rattle.um_refinement.proofs.ListGrowth.{acted-kept, cleaning-kept, ends-always, errands-kept, forms-kept, is_errand, next-kept, quiet-kept, show-kept, take-kept, turn-kept, visits_row}
use Rattle.um_refinement.proofs.ObjectsKept.{found-below}
use Rattle.um_refinement.proofs.StepsLeft.{run-below}
use Rattle.um_refinement.proofs.SchedulerSteps.{made-at, made-says}

abbrev Are : Todos → Type 0
Are todo = list_all names_row todo ≡ true

abbrev Below : List ℕ → Type 0
Below xs = list_all (λ x. nat_lt x ROWS) xs ≡ true

-- what stands behind the first step of a list
abbrev Behinds : Image → Todos → Type 0
Behinds image [] = Unit {0}
Behinds image (q ∷ todo) = Behind image q todo

tail-are : (q : Todo) (todo : Todos) → Are (q ∷ todo) → Are todo
tail-are q todo h = (and_parts (names_row q) (list_all names_row todo) h).1

module _ (image : Image) (named : (a : Addr) → nat_lt (row_named image a) ROWS ≡ true) where
  fine-rows : (c : Context) (q : Pending) (rest : Steps) → Are (fine_steps image c q rest)
  fine-rows = forms-kept image Are
      (record {
        note = λ site todo h. h;
        act = λ q rest. refl;
        settles = λ q rest deadline mark. refl;
        access = λ q rest. refl;
        access_settles = λ q rest deadline mark. refl;
        look = λ x todo h. h;
        owe = λ q rest. refl;
        leave = λ a rest. refl;
        edit = λ d q rest. refl;
        move = λ d who rest. refl;
        start = λ who q rest c. refl;
      })

  errand : (q : Todo) (todo : Todos) → is_errand q ≡ true → Are todo → Are (q ∷ todo)
  errand (Todo.wake who told) todo on h = h
  errand (Todo.look who site before) todo on h = h
  errand (Todo.tell_cut who) todo on h = h
  errand (Todo.rouse who) todo on h = h
  errand q todo on h = absurd (false≢true on)

  away-rows : (doomed : Bool) → Are (put_away doomed)
  away-rows true = refl
  away-rows false = refl

  waited : (site : ℕ) (todo : Todos) → IsActOver todo → Are todo → Are (todo ++ Todo.reread site ∷ [])
  waited site _ act_alone h = refl
  waited site _ act_settled h = refl
  waited site _ access_alone h = refl
  waited site _ access_settled h = refl

  put : (q : Todo) (todo : Todos) → visits_row q ≡ true → names_row q ≡ true → Are todo → Are (q ∷ todo)
  put q todo visit few h = and_from _ _ few h

  abbrev All : Context → Type 0
  All c = Unit {0}

  expands : (c : Context) → All c → Are [] → Are (next_steps image c c.pending)
  expands c of h = next-kept image Are put fine-rows (λ b. elim b as (λ b. Are (end_of_turn image b)) [ true ↦ refl | false ↦ refl ]) c c.pending

  wakes-rows : (ws : List (ThreadIx × Told)) (todo : Todos) → Are todo → Are (wakes ws todo)
  wakes-rows [] todo h = h
  wakes-rows (w ∷ ws) todo h = wakes-rows ws todo h

  end_calls-rows : (xs : List ℕ) (todo : Todos) → Below xs → Are todo → Are (end_calls xs todo)
  end_calls-rows [] todo b h = h
  end_calls-rows (x ∷ xs) todo b h = let parts = and_parts (nat_lt x ROWS) _ b in and_from _ _ parts.0 (end_calls-rows xs todo parts.1 h)

  behind-rows : (c : Context) (q : Pending) (moved : Exchange) (todo : Todos) → Below c.claims → Are todo → Are (behind_step image c q moved todo)
  behind-rows c (Pending.Work a ask) moved todo b h = wakes-rows (outcome_in moved).woken todo h
  behind-rows c Pending.Exit moved todo b h = end_calls-rows c.claims todo b h
  behind-rows c Pending.Killed moved todo b h = end_calls-rows c.claims todo b h
  behind-rows c (Pending.Answer reply to) moved todo b h = end_calls-rows c.claims todo b h
  behind-rows c (Pending.Fatal reason cause) moved todo b h = end_calls-rows c.claims todo b h
  behind-rows c (Pending.ClearInit a) moved todo b h = by (row_named image a == own_row image c.thread) refl
    where
      by : (d : Bool) → (row_named image a == own_row image c.thread) ≡ d → Are (if d then Todo.end_call (own_row image c.thread) ∷ todo else todo)
      by true q = and_from _ _ (ap (λ n. nat_lt n ROWS) (sym (eqb-true (row_named image a) (own_row image c.thread) q)) ∙ named a) h
      by false q = h
  behind-rows c q moved todo b h = h

  first-rows : (x : ℕ) → nat_lt x ROWS ≡ true → (o : Option ℕ) (todo : Todos) → thread_of_row image x ≡ o → Are todo → Are (cleaning_of x o ++ todo)
  first-rows x l None todo at h = and_from _ _ l (and_from _ _ l (and_from _ _ l h))
  first-rows x l (Some who) todo at h = and_from _ _ l (and_from _ _ l (and_from _ _ l h))

  later-rows : (q : Todo) (old new : Todos) → is_cleaning_todo q ≡ true → (Are old → Are new) → Are (q ∷ old) → Are (q ∷ new)
  later-rows q old new c more h = let parts = and_parts (names_row q) (list_all names_row old) h in and_from (names_row q) (list_all names_row new) parts.0 (more parts.1)

  -- where an event comes next, its call holds rows
  abbrev HoldsRows : Processor → Type 0
  HoldsRows p = (q : Pending) (rest : Steps) (todo : Todos) → p.todo ≡ Todo.show q rest ∷ todo → Below p.context.claims

  goes-rows : (p : Processor) (e : FineStep) (todo : Todos) → p.todo ≡ todo → Behinds image todo → Are p.todo → HoldsRows p → Are todo → Are (goes_on_by image p e todo).todo
  goes-rows p e [] at over was b h = take-kept image Are All expands p (turn-kept image Are refl refl) (λ deadline mark. refl) e.moved tt refl was
  goes-rows p e (Todo.show q rest ∷ todo) at over was b h =
      show-kept image Are All expands p e q rest todo Are tt waited over
      (λ z k. let made = shown_step image q e.act in errands-kept image Are errand p.context made e (behind_step image p.context made e.moved z)
      (behind-rows p.context made e.moved z (b q rest todo at) k))
      (λ read. away-rows (thread_in e.word).doomed) h
  goes-rows p e (q ∷ todo) at over was b h =
      quiet-kept image Are All expands p errand put (λ who x z few k. and_from _ _ few k) (λ z k. k) (λ d z k. k) e q todo refl tt (ends-always Are refl away-rows (λ c z k. k) e q) (tail-are q todo h)

  cleaned-are : (p : Processor) (e : FineStep) (b : Bool) → (b ≡ true → nat_lt (row_number e.site) ROWS ≡ true) → Are p.todo → Are (with_cleaned image p e b).todo
  cleaned-are p e false l h = h
  cleaned-are p e true l h = cleaning-kept image (λ old new. Are old → Are new) (row_number e.site) (first-rows (row_number e.site) (l refl)) later-rows p.todo h

  rows-next : (p : Processor) (e : FineStep) → (begins_cleaning e ≡ true → nat_lt (row_number e.site) ROWS ≡ true) → Behinds image p.todo → HoldsRows p → Are p.todo
      → Are (p_next image p e).todo
  rows-next p e l over b h =
      acted-kept image Are (with_cleaned image (goes_on_by image p e p.todo) e (begins_cleaning e)) e.act
      (cleaned-are (goes_on_by image p e p.todo) e (begins_cleaning e) l (goes-rows p e p.todo refl over h b h))

module _ (f : Fine) (m : State) (e : FineStep) (law : Lawful f m e) where
  pub found : (a x : ℕ) → row_at f.image a ≡ Some x → nat_lt x ROWS ≡ true
  found a x q = lt-ltb x ROWS (found-below m law.sound a x (ap (λ (i : Image). row_at i a) law.rel.image ∙ q))

  pub named-below : (a : Addr) → nat_lt (row_named f.image a) ROWS ≡ true
  named-below a = by (row_at f.image a.0) refl
    where
      by : (o : Option ℕ) → row_at f.image a.0 ≡ o → nat_lt (unwrap_or o 0) ROWS ≡ true
      by None q = refl
      by (Some x) q = found a.0 x q

  -- a step that begins a cleaning is made at a row
  at-row : (todo : Todos) → (f.processors e.cpu).todo ≡ todo → Are todo → begins_cleaning e ≡ true → nat_lt (row_number (site_by f.image (f.processors e.cpu) todo e.act)) ROWS ≡ true
  at-row [] at h begins = elim (is_due_act e.act || is_tick e.act) as (λ b. nat_lt (row_number (if b then Site.clock else Site.scheduler)) ROWS ≡ true) [ true ↦ refl | false ↦ refl ]
  at-row (Todo.look who site before ∷ todo) at h begins =
      waiting-place site (is-placed f m e law (Todo.look who site before) todo at) (λ s. nat_lt (row_number s) ROWS ≡ true) (λ x. refl) refl refl
  at-row (Todo.handle deadline (Mark.Thread who site) ∷ todo) at h begins =
      waiting-place site (is-placed f m e law (Todo.handle deadline (Mark.Thread who site)) todo at) (λ s. nat_lt (row_number s) ROWS ≡ true) (λ x. refl) refl refl
  at-row (Todo.handle deadline (Mark.Timer x) ∷ todo) at h begins = refl
  at-row (Todo.show q rest ∷ todo) at h begins = by q at
    where
      by-check : (a : Addr) (o : Option ℕ) → row_at f.image a.0 ≡ o → nat_lt (row_number (check_site f.image (f.processors e.cpu) o)) ROWS ≡ true
      by-check a None k = refl
      by-check a (Some x) k = found a.0 x k

      by-move : (d : ℕ) (who : ThreadIx) (b : Bool) → nat_lt (row_number (if b then Site.domain d else Site.thread who.0)) ROWS ≡ true
      by-move d who true = refl
      by-move d who false = refl

      by : (q : Pending) → (f.processors e.cpu).todo ≡ Todo.show q rest ∷ todo → nat_lt (row_number (site_of_step f.image (f.processors e.cpu) q)) ROWS ≡ true
      by (Pending.Check a kind want refusal) at = by-check a (row_at f.image a.0) refl
      by (Pending.DomMove d who) at = by-move d who (fails (f.processors e.cpu).reply)
      by (Pending.Grant who a) at = named-below a
      by (Pending.DropPair who a) at = named-below a
      by (Pending.Publish a) at = named-below a
      by (Pending.SetInit a strict undo) at = named-below a
      by (Pending.ClearInit a) at = named-below a
      by (Pending.Born a) at = named-below a
      by (Pending.Own who) at =
          absurd (false≢true (sym (ap (λ act. begins_cleaning (record e { act = act })) (made-says f m e law (Todo.show (Pending.Own who) rest ∷ todo) at)) ∙ begins))
      by q at = refl
  at-row (Todo.pass who x ∷ todo) at h begins = (and_parts (nat_lt x ROWS) _ h).0
  at-row (Todo.drop x ∷ todo) at h begins = (and_parts (nat_lt x ROWS) _ h).0
  at-row (Todo.clean_pair who x ∷ todo) at h begins = (and_parts (nat_lt x ROWS) _ h).0
  at-row (Todo.end_call x ∷ todo) at h begins = (and_parts (nat_lt x ROWS) _ h).0
  at-row (Todo.vacate x ∷ todo) at h begins = (and_parts (nat_lt x ROWS) _ h).0
  at-row (q ∷ todo) at h begins = refl

  pub rows-part : (k : ℕ) → k < f.cpus → list_all names_row (changed same_cpu cpu_of (p_next f.image) f.processors e k).todo ≡ true
  rows-part k l = by (e.cpu == k) refl
    where
      over : (todo : Todos) → (f.processors e.cpu).todo ≡ todo → Behinds f.image todo
      over [] at = tt
      over (q ∷ todo) at = (is-behind f m e law).frame q todo at

      mine : Are (p_next f.image (f.processors e.cpu) e).todo
      mine =
          let was = (law.rel.processors e.cpu law.by.named).rows in
          rows-next f.image named-below (f.processors e.cpu) e
          (λ begins. ap (λ i. nat_lt (row_number i) ROWS) (made-at f m e law (f.processors e.cpu).todo refl) ∙ at-row (f.processors e.cpu).todo refl was begins)
          (over (f.processors e.cpu).todo refl)
          (λ q rest todo at.
          run-below f m (f.processors e.cpu).context
          (law.rel.contexts.running e.cpu law.by.named (runs-first law.rel law.by.named (Todo.show q rest) todo at (λ hand. hand)))) was

      by : (b : Bool) → (e.cpu == k) ≡ b → Are (cond b (p_next f.image (f.processors k) e) (f.processors k)).todo
      by true q = subst (λ n. Are (p_next f.image (f.processors n) e).todo) (eqb-true e.cpu k q) mine
      by false q = (law.rel.processors k l).rows
