-- A thread whose own object is cleared next is shut, after every lawful step: all who wait for its end are told right before, and nobody starts it.
use Rattle.um_refinement.proofs.Words.{◌≡◌, ℕ, ◌<◌, Bool, true, false, cond, List, [], ◌∷◌, ◌++◌, Option, Some, None, refl, sym, ap, ◌∙◌, subst, arith, ◌==◌, if◌then◌else◌, is_some, nat_lt, and_parts, eqb-false, eqb-true, eq-eqb, false≢true, true≢false, get_or-set_other, get_or-set_same, same-sound, slice_index_or, slice_set, length, and_from, THREADS, ROWS, Act, Answer, Image, Amount, Pending, Steps, Thread, State, thread_at, thread_in, to_thread, thread_of_row, own_row, row_named, is_empty, is_visit, is_word_read, waits, FineAct, Unseen, Exchange, FineStep, Site, same_site, Context, Todo, Todos, Processor, begins_cleaning, behind_step, cleaning_of, end_of_turn, fine_steps, goes_on_by, next_steps, p_next, row_number, says, says_show, with_cleaned, is_cleaning_todo, names_row, Fine, Fits, IsOffered, AreFramed, behind_shown, act_in, runs, runs_thread}
use Rattle.um_fine.specs.Answers.{is_due_act, is_killed, is_shut_act, is_tick, is_void, woken_in}
use Rattle.um_fine.specs.Asks.{begins, by_me, says_turn}
use Rattle.um_fine.specs.Follows.{shown_step}
use Rattle.um_fine.specs.Joins.{Joins, begins_waiting, is_shut, join_after, join_after_act}
use Rattle.um_fine.specs.Places.{armed_for, clearing, handling, noted_cell, noting, on_memory, put_away, settling}
use Rattle.um_refinement.specs.Fine.{joins}
use Rattle.um_refinement.specs.Frames.{IsActOver, IsStart, access_alone, access_settled, act_alone, act_settled, starts_one}
use Rattle.um_refinement.specs.Offers as O
use Rattle.um_refinement.specs.Stops.{clears, clears_own, starts}
use Rattle.um_refinement.proofs.CallsProper.{AreProper}
use Rattle.um_refinement.proofs.Erased.{around}
use Rattle.um_refinement.proofs.HandReads.{read-runs}
use Rattle.um_refinement.proofs.Leaves.{Lawful, Leaves}
use Rattle.um_refinement.proofs.ListGrips.{next-context, next-thread}
use Rattle.um_refinement.proofs.ListGrowth.{acted-kept, behind-kept, cleaning-kept, ends-always, is_end, is_errand, looks-kept, quiet-kept, show-kept, take-kept, turn-kept, visits_row}
use Rattle.um_refinement.proofs.Offered.{own-unless}
use Rattle.um_refinement.proofs.ParkedPart.{joins-else, joins-later}
use Rattle.um_refinement.proofs.SchedulerSteps.{made-at, made-says}
use Rattle.um_refinement.proofs.ListStarts.{list-claims}
use Rattle.um_refinement.proofs.ShutBegins.{claimed-idle}
use Rattle.um_refinement.proofs.StepsLeft.{offered-on}

-- What is cleared on a list after a step was cleared behind that step.

module _ (image : Image) (t : ℕ) where
  abbrev Clears : Todos → Type 0
  Clears todo = clears image t todo ≡ true

  noted-none : (c : Context) (site : Option ℕ) (todo : Todos) → clears image t todo ≡ false → clears image t (noting image c site todo) ≡ false
  noted-none c None todo h = h
  noted-none c (Some site) todo h = elim (is_some c.noted) as (λ b. clears image t (if b then todo else Todo.note site ∷ todo) ≡ false) [ true ↦ h | false ↦ h ]

  -- the own object is cleared only behind the telling of those who wait
  fine-none : (c : Context) → c.thread ≡ t → (q : Pending) (rest : Steps) → clears image t (fine_steps image c q rest) ≡ false
  fine-none c own (Pending.Probe a (Amount.Bytes n)) rest = refl
  fine-none c own (Pending.Probe a (Amount.MessageOf b)) rest = refl
  fine-none c own (Pending.CopyIn a (Amount.Bytes n)) rest = refl
  fine-none c own (Pending.CopyIn a (Amount.MessageOf b)) rest = refl
  fine-none c own (Pending.Work a ask) rest =
      let q = Pending.Work a ask in noted-none c (noted_cell image (q ∷ [])) (Todo.show q rest ∷ settling image c (armed_for image c q) q) refl
  fine-none c own (Pending.Join who timeout) rest =
      let q = Pending.Join who timeout in noted-none c (noted_cell image (q ∷ [])) (Todo.show q rest ∷ settling image c (armed_for image c q) q) refl
  fine-none c own (Pending.FutexWait a value timeout) rest =
      let q = Pending.FutexWait a value timeout in noted-none c (noted_cell image (q ∷ [])) (on_memory q rest ++ settling image c (armed_for image c q) q) refl
  fine-none c own (Pending.Arm ticks) rest = noted-none c (noted_cell image rest) (Todo.owe ∷ Todo.show (Pending.Arm ticks) rest ∷ []) refl
  fine-none c own (Pending.ClearInit a) rest = by (row_named image a == own_row image c.thread) refl
    where
      by : (b : Bool) → (row_named image a == own_row image c.thread) ≡ b → clears image t (clearing image b (Pending.ClearInit a) rest) ≡ false
      by true e = refl
      by false e = ap (λ n. row_named image a == own_row image n) (sym own) ∙ e
  fine-none c own q rest = refl

  -- what stands behind an event clears nothing
  behind-none : (c : Context) (q : Pending) → clears image t (behind_shown image c q) ≡ false
  behind-none c (Pending.Work a ask) = settled (armed_for image c (Pending.Work a ask)) (Pending.Work a ask)
    where
      settled : (until : Option ℕ) (q : Pending) → clears image t (settling image c until q) ≡ false
      settled None q = refl
      settled (Some deadline) q = refl
  behind-none c (Pending.Join who timeout) = elim c.until as (λ o. clears image t (settling image c o (Pending.Join who timeout)) ≡ false) [ None ↦ refl | Some d ↦ refl ]
  behind-none c (Pending.FutexWait a value timeout) = elim c.until as (λ o. clears image t (settling image c o (Pending.FutexWait a value timeout)) ≡ false) [ None ↦ refl | Some d ↦ refl ]
  behind-none c q = refl

  module _ (todo : Todos) where
    abbrev P : Todos → Type 0
    P z = Clears z → Clears todo

    abbrev All : Context → Type 0
    All c = c.thread ≡ t

    none : (z : Todos) → clears image t z ≡ false → P z
    none z off h = absurd (true≢false (sym h ∙ off))

    put : (q : Todo) (z : Todos) → visits_row q ≡ true → names_row q ≡ true → P z → P (q ∷ z)
    put (Todo.show q rest) z visit few k = absurd (false≢true visit)
    put Todo.leave z visit few k = absurd (false≢true visit)
    put q z visit few k = k

    errand : (q : Todo) (z : Todos) → is_errand q ≡ true → P z → P (q ∷ z)
    errand (Todo.show q rest) z on k = absurd (false≢true on)
    errand Todo.leave z on k = absurd (false≢true on)
    errand q z on k = k

    ends : (b : Bool) → clears image t (end_of_turn image b) ≡ false
    ends true = refl
    ends false = refl

    visited : (b : Bool) (q : Todo) (z : Todos) → clears image t (q ∷ z) ≡ clears image t z → clears image t z ≡ false → clears image t (if b then q ∷ z else z) ≡ false
    visited true q z same h = same ∙ h
    visited false q z same h = h

    next-none : (c : Context) → c.thread ≡ t → (steps : Steps) → clears image t (next_steps image c steps) ≡ false
    next-none c own [] = ends c.ended
    next-none c own (Pending.Resume ∷ rest) = refl
    next-none c own (Pending.Inherit who ∷ q ∷ rest) = visited _ (Todo.pass who.0 _) (fine_steps image c q rest) refl (fine-none c own q rest)
    next-none c own (Pending.Drops from ∷ q ∷ rest) = visited (nat_lt from ROWS) (Todo.drop from) (fine_steps image c q rest) refl (fine-none c own q rest)
    next-none c own (Pending.Inherit who ∷ []) = refl
    next-none c own (Pending.Drops from ∷ []) = refl
    next-none c own (q ∷ rest) = fine-none c own q rest

    expands : (c : Context) → All c → P [] → P (next_steps image c c.pending)
    expands c own h = none (next_steps image c c.pending) (next-none c own c.pending)

    away : (doomed : Bool) → P (put_away doomed)
    away true = none (put_away true) refl
    away false = none (put_away false) refl

    waited : (site : ℕ) (z : Todos) → IsActOver z → P z → P (z ++ Todo.reread site ∷ [])
    waited site _ act_alone k = none (Todo.reread site ∷ []) refl
    waited site _ (act_settled {deadline} {mark}) k = none (Todo.settle deadline mark ∷ Todo.reread site ∷ []) refl
    waited site _ access_alone k = none (Todo.read_done None ∷ Todo.let_go ∷ Todo.reread site ∷ []) refl
    waited site _ (access_settled {deadline} {mark}) k = none (Todo.read_done None ∷ Todo.let_go ∷ Todo.settle deadline mark ∷ Todo.reread site ∷ []) refl

    goes : (p : Processor) (e : FineStep) (q : Todo) → AreFramed image (q ∷ todo) → All (goes_on_by image p e (q ∷ todo)).context → P (goes_on_by image p e (q ∷ todo)).todo
    goes p e (Todo.show q rest) framed own =
        show-kept image P All expands p e q rest todo P own waited framed.0
        (λ z k. let made = shown_step image q e.act in looks-kept image P errand (λ x y g. g) p.context made e (behind_step image p.context made e.moved z) (behind-kept image P errand (λ x y g. g) p.context made e.moved z k))
        (λ read. away (thread_in e.word).doomed) (λ h. h)
    goes p e q framed own =
        quiet-kept image P All expands p errand put (λ who x z few k. k) (λ z k. k) (λ d z k. k) e q todo refl own (ends-always P (none [] refl) away (λ c z k. k) e q) (λ h. h)

    cleaned-are : (p : Processor) (e : FineStep) (b : Bool) → P p.todo → P (with_cleaned image p e b).todo
    cleaned-are p e false h = h
    cleaned-are p e true h = cleaning-kept image (λ old new. P old → P new) (row_number e.site) first later p.todo h
      where
        first : (o : Option ℕ) (z : Todos) → thread_of_row image (row_number e.site) ≡ o → P z → P (cleaning_of (row_number e.site) o ++ z)
        first None z at k = k
        first (Some who) z at k = k

        later : (q : Todo) (old new : Todos) → is_cleaning_todo q ≡ true → (P old → P new) → P (q ∷ old) → P (q ∷ new)
        later (Todo.show q rest) old new c more k = absurd (false≢true c)
        later Todo.leave old new c more k = absurd (false≢true c)
        later q old new c more k = more k

    next-clears : (p : Processor) (e : FineStep) → P (goes_on_by image p e p.todo).todo → P (p_next image p e).todo
    next-clears p e h =
        acted-kept image P (with_cleaned image (goes_on_by image p e p.todo) e (begins_cleaning e)) e.act
        (cleaned-are (goes_on_by image p e p.todo) e (begins_cleaning e) h)

  -- a processor that takes a thread, or tends to time, clears nothing next
  pub takes-none : (p : Processor) (e : FineStep) → p.todo ≡ [] → (p_next image p e).context.thread ≡ t → clears image t (p_next image p e).todo ≡ true → ⊥
  takes-none p e at own h =
      false≢true
      (next-clears [] p e
      (subst (λ (z : Todos). P [] (goes_on_by image p e z).todo) (sym at)
      (take-kept image (P []) (All []) (expands []) p (turn-kept image (P []) (none [] (Todo.show Pending.Begin [] ∷ []) refl) (none [] (Todo.show Pending.Exit [] ∷ []) refl)) (λ deadline mark. none [] (handling deadline mark) refl) e.moved
      (ap (λ (c : Context). c.thread) (ap (λ (z : Todos). (goes_on_by image p e z).context) (sym at) ∙ sym (next-context image p e)) ∙ own) (none [] [] refl) (subst (P []) (sym at) (none [] [] refl)))) h)

  pub next-behind : (p : Processor) (e : FineStep) (q : Todo) (todo : Todos) → p.todo ≡ q ∷ todo → AreFramed image (q ∷ todo) → (p_next image p e).context.thread ≡ t → clears image t (p_next image p e).todo ≡ true
      → clears image t todo ≡ true
  next-behind p e q todo at framed own h =
      next-clears todo p e
      (subst (λ (z : Todos). P todo (goes_on_by image p e z).todo) (sym at)
      (goes todo p e q framed (ap (λ (c : Context). c.thread) (ap (λ (z : Todos). (goes_on_by image p e z).context) (sym at) ∙ sym (next-context image p e)) ∙ own))) h

-- Who clears its own object next isn't at rest.
module _ (image : Image) (t : ℕ) where
  HasSteps : Context → Type 0
  HasSteps c = (is_empty c.pending ≡ false) × (waits c.pending ≡ false) × (O.is_over c ≡ false)

  offered-steps : (c : Context) (a : _) (rest : Steps) → IsOffered image c (Pending.ClearInit a) rest → HasSteps c
  unfolding HasSteps
  offered-steps c a rest offered = by offered
    where
      by : IsOffered image c (Pending.ClearInit a) rest → (is_empty c.pending ≡ false) × (waits c.pending ≡ false) × (O.is_over c ≡ false)
      by (O.goes e) = (ap is_empty e, ap waits e, offered-on image c (Pending.ClearInit a) rest offered)
      by (O.passed e) = (ap is_empty e, ap waits e, offered-on image c (Pending.ClearInit a) rest offered)
      by (O.dropped e) = (ap is_empty e, ap waits e, offered-on image c (Pending.ClearInit a) rest offered)

  list-steps : (c : Context) (todo : Todos) → c.thread ≡ t → Fits image c todo → clears image t todo ≡ true → HasSteps c
  unfolding HasSteps
  list-steps c [] own fits h = absurd (false≢true h)
  list-steps c (Todo.show (Pending.ClearInit a) rest ∷ todo) own fits h = offered-steps c a rest fits.0
  list-steps c (Todo.show q rest ∷ todo) own fits h = absurd (false≢true h)
  list-steps c (Todo.pass who x ∷ todo) own fits h = absurd (true≢false (sym h ∙ (ap (clears image t) fits.0.behind ∙ fine-none image t c own fits.0.step fits.0.rest)))
  list-steps c (Todo.drop x ∷ todo) own fits h = absurd (true≢false (sym h ∙ (ap (clears image t) fits.behind ∙ fine-none image t c own fits.step fits.rest)))
  list-steps c (Todo.park ∷ todo) own fits h = absurd (true≢false (sym h ∙ ap (clears image t) fits.2))
  list-steps c (Todo.sleep ∷ todo) own fits h = absurd (true≢false (sym h ∙ ap (clears image t) fits.2))
  list-steps c (Todo.note site ∷ todo) own fits h = list-steps (record c { noted = Some 0 }) todo own (fits 0) h
  list-steps c (Todo.add d ∷ todo) own fits h = list-steps c todo own fits.1 h
  list-steps c (Todo.leave ∷ todo) own fits h = absurd (false≢true h)
  list-steps c (q ∷ todo) own fits h = list-steps c todo own fits h

abbrev cleared : Image → ℕ → Todos → Option ℕ
cleared image t todo = if clears image t todo then Some 0 else None

abbrev opened_list : Todos → Option ℕ
opened_list [] = None
opened_list (Todo.unshut who ∷ z) = Some 0
opened_list (Todo.wake who told ∷ z) = opened_list z
opened_list (Todo.paid ∷ z) = opened_list z
opened_list (Todo.handle deadline mark ∷ z) = opened_list z
opened_list (q ∷ z) = None

abbrev opens : ℕ → FineAct → Bool
opens t (FineAct.Unseen (Unseen.Unshut who)) = who.0 == t
opens t act = false

abbrev opens_head : ℕ → Todo → Bool
opens_head t (Todo.unshut who) = who == t
opens_head t q = false

either-opens : (t : ℕ) (b : Bool) (one other : FineAct) → opens t one ≡ false → opens t other ≡ false → opens t (if b then one else other) ≡ false
either-opens t true one other h k = h
either-opens t false one other h k = k

-- what is shut stays so, unless a step opens it
stays-shut : (j : Joins) (t : ℕ) → t < length j.shut → (act : FineAct) (moved : Exchange) → opens t act ≡ false → is_shut j t ≡ true → is_shut (join_after j act moved) t ≡ true
stays-shut j t few act moved = by act
  where
    set : (who : ℕ) → is_shut j t ≡ true → slice_index_or (slice_set j.shut who true) t true ≡ true
    set who h = on (who == t) refl
      where
        on : (b : Bool) → (who == t) ≡ b → slice_index_or (slice_set j.shut who true) t true ≡ true
        on true k = ap (λ n. slice_index_or (slice_set j.shut n true) t true) (eqb-true who t k) ∙ get_or-set_same j.shut t true true few
        on false k = get_or-set_other j.shut who t true true (λ z. eqb-false who t k (sym z)) ∙ h

    begun : (answer : Answer) → (begins_waiting j moved answer).shut ≡ j.shut
    begun Answer.Wait = refl
    begun (Answer.Now reply) = refl

    said : (act : Act) → is_shut j t ≡ true → is_shut (join_after_act j moved act) t ≡ true
    said (Act.Join who answer) h = ap (λ (l : List Bool). slice_index_or l t true) (begun answer) ∙ h
    said (Act.Left who woken) h = set who.0 h
    said act h = h

    by : (act : FineAct) → opens t act ≡ false → is_shut j t ≡ true → is_shut (join_after j act moved) t ≡ true
    by (FineAct.Shown event more) plain h = said event.act h
    by (FineAct.Unseen (Unseen.Shut who)) plain h = set who.0 h
    by (FineAct.Unseen (Unseen.Unshut who)) plain h = get_or-set_other j.shut who.0 t false true (λ z. eqb-false who.0 t plain (sym z)) ∙ h
    by (FineAct.Unseen u) plain h = h

module _ (f : Fine) (m : State) (e : FineStep) (law : Lawful f m e) (proper : AreProper m.image m) (t : ℕ) (few : t < THREADS) (s : State) (left : Leaves f m e s) where
  open around f e use {later, processor as p, now}

  frame : (q : Todo) (todo : Todos) → p.todo ≡ q ∷ todo → AreFramed f.image (q ∷ todo)
  frame q todo at = subst (AreFramed f.image) at (law.rel.processors e.cpu law.by.named).frames

  opens-not : (q : Todo) (todo : Todos) → p.todo ≡ q ∷ todo → opens_head t q ≡ false → opens t e.act ≡ false
  opens-not q todo at other = ap (opens t) (made-says f m e law (q ∷ todo) at) ∙ by q other
    where
      rests : (r : Pending) → opens t (begins f.image p r e.act) ≡ false
      rests r = either-opens t (is_word_read e.act) _ _ refl (either-opens t (is_killed e.act) _ _ refl refl)

      shown : (r : Pending) → opens t (says_show f.image p r e.act) ≡ false
      shown Pending.Begin = rests Pending.Begin
      shown Pending.Exit = rests Pending.Exit
      shown r = refl

      by : (q : Todo) → opens_head t q ≡ false → opens t (says f.image p (q ∷ todo) e.act e.moved) ≡ false
      by (Todo.unshut who) h = h
      by Todo.leave h = either-opens t (is_shut_act e.act) _ _ refl refl
      by (Todo.show r rest) h = shown r
      by (Todo.rouse who) h = either-opens t (is_void e.act) _ _ refl refl
      by (Todo.look who site before) h = either-opens t (is_void e.act) _ _ refl refl
      by (Todo.handle deadline mark) h = either-opens t (is_void e.act) _ _ refl refl
      by (Todo.pass who x) h = either-opens t (is_visit e.act) _ _ refl refl
      by (Todo.drop x) h = either-opens t (is_visit e.act) _ _ refl refl
      by (Todo.clean_pair who x) h = either-opens t (is_visit e.act) _ _ refl refl
      by q h = refl

  opens-idle : p.todo ≡ [] → opens t e.act ≡ false
  opens-idle at = ap (opens t) (made-says f m e law [] at) ∙ either-opens t (is_due_act e.act) _ _ refl (either-opens t (is_tick e.act) _ _ refl (turn e.moved))
    where
      turn : (moved : Exchange) → opens t (says_turn f.image p moved) ≡ false
      turn (Exchange.thread c None) = refl
      turn (Exchange.thread c (Some told)) = refl
      turn moved = refl

  kept-shut : opens t e.act ≡ false → is_shut (joins f) t ≡ true → is_shut (joins later) t ≡ true
  kept-shut plain was = by (same_site e.site Site.joins) refl
    where
      by : (b : Bool) → same_site e.site Site.joins ≡ b → is_shut (joins later) t ≡ true
      by true on =
          let long = law.rel.joins.shut in
          ap (λ (j : Joins). is_shut j t) (joins-later f m e law (same-sound e.site Site.joins on) e.act refl) ∙ stays-shut (joins f) t (omega (arith, few, long)) e.act e.moved plain was
      by false off = ap (λ (j : Joins). is_shut j t) (joins-else f m e law off) ∙ was

  clearing-runs : (k : ℕ) → k < f.cpus → clears f.image t (f.processors k).todo ≡ true → runs (f.processors k) ≡ true
  clearing-runs k l h =
      read-runs (cleared f.image t) refl (λ who told todo. refl) (λ todo. refl) (λ deadline mark todo. refl) law.rel l (ap (λ b. is_some {T = ℕ} (if b then Some 0 else None)) h)

  clearing-steps : (k : ℕ) → k < f.cpus → (f.processors k).context.thread ≡ t → clears f.image t (f.processors k).todo ≡ true → is_empty (thread_at m t).pending ≡ false
  unfolding HasSteps
  clearing-steps k l own h =
      let c = (f.processors k).context in
      let steps = list-steps f.image t c (f.processors k).todo own (law.rel.processors k l).list.fits h in
      let of = (law.rel.contexts.running k l (clearing-runs k l h)).of steps.2 in
      ap (λ n. is_empty (thread_at m n).pending) (sym own) ∙ (sym (ap (λ (z : Thread). is_empty z.pending) (own-unless of steps.1)) ∙ steps.0)

  old-shut : (k : ℕ) → k < f.cpus → (f.processors k).context.thread ≡ t → clears f.image t (f.processors k).todo ≡ true → is_shut (joins f) t ≡ true
  old-shut k l own h =
      let run = clearing-runs k l h in
      (law.rel.threads t few).shut.clears k l (and_from _ _ run (eq-eqb (f.processors k).context.thread t own)) (ap (λ n. clears f.image n (f.processors k).todo) own ∙ h)

  -- another's thread isn't opened while it clears its own object
  theirs : (k : ℕ) → k < f.cpus → (f.processors k).context.thread ≡ t → clears f.image t (f.processors k).todo ≡ true → is_shut (joins later) t ≡ true
  theirs k l own h = by p.todo refl
    where
      keep : opens t e.act ≡ false → is_shut (joins later) t ≡ true
      keep plain = kept-shut plain (old-shut k l own h)

      idle : (todo : Todos) → p.todo ≡ Todo.unshut t ∷ todo → (thread_at m t).pending ≡ []
      idle todo at =
          let (q, rest, c, list, one) = (frame (Todo.unshut t) todo at).0 in
          let fits = subst (Fits f.image p.context) at (law.rel.processors e.cpu law.by.named).list.fits in
          let next : starts todo ≡ Some t = started q rest c todo list one in
          let run = read-runs opened_list refl (λ who told z. refl) (λ z. refl) (λ deadline mark z. refl) law.rel law.by.named (ap (λ (z : Todos). is_some (opened_list z)) at) in
          claimed-idle f m e law proper t few s left e.cpu law.by.named run (list-claims f.image p.context t todo fits next)
        where
          started : (q : Pending) (rest : Steps) (c : Context) (todo : Todos) → todo ≡ Todo.show q rest ∷ Todo.let_go ∷ Todo.add c ∷ [] → starts_one t q ≡ true → starts todo ≡ Some t
          started (Pending.Start v script stack priority mode) rest c todo at one = ap starts at ∙ ap Some (eqb-true v.0 t one)
          started q rest c todo at one = absurd (false≢true one)

      head : (q : Todo) (todo : Todos) → p.todo ≡ q ∷ todo → (b : Bool) → opens_head t q ≡ b → is_shut (joins later) t ≡ true
      head q todo at false off = keep (opens-not q todo at off)
      head (Todo.unshut who) todo at true on =
          let none = idle todo (at ∙ ap (λ n. Todo.unshut n ∷ todo) (eqb-true who t on)) in
          absurd (true≢false (sym (ap is_empty none) ∙ clearing-steps k l own h))
      head q todo at true on = absurd (false≢true on)

      by : (todo : Todos) → p.todo ≡ todo → is_shut (joins later) t ≡ true
      by [] at = keep (opens-idle at)
      by (q ∷ todo) at = head q todo at (opens_head t q) refl

  mine-shut : now.context.thread ≡ t → clears f.image t now.todo ≡ true → is_shut (joins later) t ≡ true
  mine-shut own h = by p.todo refl
    where
      behind : (q : Todo) (todo : Todos) → p.todo ≡ q ∷ todo → clears f.image t todo ≡ true
      behind q todo at = next-behind f.image t p e q todo at (frame q todo at) own h

      same : (q : Todo) (todo : Todos) → p.todo ≡ q ∷ todo → is_end q ≡ false → p.context.thread ≡ t
      same q todo at on = sym (next-thread f.image p e q todo at on) ∙ own

      none : {A : Type 0} (todo : Todos) → clears f.image t todo ≡ false → clears f.image t todo ≡ true → A
      none todo off on = absurd (true≢false (sym on ∙ off))

      keeps : (q : Todo) (todo : Todos) → p.todo ≡ q ∷ todo → is_end q ≡ false → opens_head t q ≡ false → clears f.image t (q ∷ todo) ≡ clears f.image t todo → is_shut (joins later) t ≡ true
      keeps q todo at on off still = kept-shut (opens-not q todo at off) (old-shut e.cpu law.by.named (same q todo at on) (ap (clears f.image t) at ∙ (still ∙ behind q todo at)))

      start-none : (who : ℕ) (todo : Todos) → IsStart who todo → clears f.image t todo ≡ false
      start-none who todo (q, rest, c, list, one) = by q rest list one
        where
          by : (q : Pending) (rest : Steps) → todo ≡ Todo.show q rest ∷ Todo.let_go ∷ Todo.add c ∷ [] → starts_one who q ≡ true → clears f.image t todo ≡ false
          by (Pending.Start v script stack priority mode) rest list one = ap (clears f.image t) list
          by q rest list one = absurd (false≢true one)

      shuts : (todo : Todos) → p.todo ≡ Todo.leave ∷ todo → is_shut (joins later) t ≡ true
      shuts todo at = by (is_shut_act e.act) refl
        where
          place : e.site ≡ Site.joins
          place = made-at f m e law (Todo.leave ∷ todo) at

          long : length (joins f).shut ≡ THREADS
          long = law.rel.joins.shut

          set : slice_index_or (slice_set (joins f).shut p.context.thread true) t true ≡ true
          set = ap (λ n. slice_index_or (slice_set (joins f).shut n true) t true) (same Todo.leave todo at refl) ∙ get_or-set_same (joins f).shut t true true (omega (arith, few, long))

          act-is : (b : Bool) → is_shut_act e.act ≡ b → e.act ≡ (if b then FineAct.Unseen (Unseen.Shut (to_thread p.context.thread)) else by_me f.image p (Act.Left (to_thread p.context.thread) (woken_in (act_in e.act))))
          act-is b on = made-says f m e law (Todo.leave ∷ todo) at ∙ ap (λ b. if b then FineAct.Unseen (Unseen.Shut (to_thread p.context.thread)) else by_me f.image p (Act.Left (to_thread p.context.thread) (woken_in (act_in e.act)))) on

          by : (b : Bool) → is_shut_act e.act ≡ b → is_shut (joins later) t ≡ true
          by true on = ap (λ (j : Joins). is_shut j t) (joins-later f m e law place _ (act-is true on)) ∙ set
          by false off = ap (λ (j : Joins). is_shut j t) (joins-later f m e law place _ (act-is false off)) ∙ set

      ended : (q : Todo) (todo : Todos) → p.todo ≡ q ∷ todo → todo ≡ [] → is_shut (joins later) t ≡ true
      ended q todo at nil = none todo (ap (clears f.image t) nil) (behind q todo at)

      by : (todo : Todos) → p.todo ≡ todo → is_shut (joins later) t ≡ true
      by [] at = absurd (takes-none f.image t p e at own h)
      by (Todo.leave ∷ todo) at = shuts todo at
      by (Todo.show q rest ∷ todo) at =
          none todo (ap (clears f.image t) (subst (Fits f.image p.context) at (law.rel.processors e.cpu law.by.named).list.fits).1 ∙ behind-none f.image t p.context q) (behind (Todo.show q rest) todo at)
      by (Todo.unshut who ∷ todo) at = none todo (start-none who todo (frame (Todo.unshut who) todo at).0) (behind (Todo.unshut who) todo at)
      by (Todo.park ∷ todo) at = ended Todo.park todo at (frame Todo.park todo at).0
      by (Todo.done ∷ todo) at = ended Todo.done todo at (frame Todo.done todo at).0
      by (Todo.paid ∷ todo) at = ended Todo.paid todo at (frame Todo.paid todo at).0
      by (q ∷ todo) at = keeps q todo at refl refl refl

  pub clears-part : (k : ℕ) → k < f.cpus → runs_thread t (later.processors k) ≡ true → clears_own later (later.processors k) (later.processors k).todo ≡ true → is_shut (joins later) t ≡ true
  clears-part k l = by (e.cpu == k) refl
    where
      by : (b : Bool) → (e.cpu == k) ≡ b → let q = cond b (p_next f.image (f.processors k) e) (f.processors k) in runs_thread t q ≡ true → clears f.image q.context.thread q.todo ≡ true → is_shut (joins later) t ≡ true
      by true same run h =
          let own = eqb-true (p_next f.image (f.processors k) e).context.thread t (and_parts (runs (p_next f.image (f.processors k) e)) _ run).1 in
          mine-shut (ap (λ j. (p_next f.image (f.processors j) e).context.thread) (eqb-true e.cpu k same) ∙ own)
          (ap (λ j. clears f.image t (p_next f.image (f.processors j) e).todo) (eqb-true e.cpu k same) ∙ (ap (λ n. clears f.image n (p_next f.image (f.processors k) e).todo) (sym own) ∙ h))
      by false off run h =
          let own = eqb-true (f.processors k).context.thread t (and_parts (runs (f.processors k)) _ run).1 in theirs k l own (ap (λ n. clears f.image n (f.processors k).todo) (sym own) ∙ h)
