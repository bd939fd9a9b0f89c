-- Cleanings stand on a list in order: the cell of one object at most was cleared that is still to be recycled, and the processor has with it
-- what the buffer of that one cost, after every lawful step.
use Rattle.um_refinement.proofs.Words.{◌≡◌, inl, inr, ℕ, zero, suc, ◌+◌, ◌<◌, ◌≤◌, Bool, true, false, cond, List, [], ◌∷◌, length, refl, sym, ap, ◌∙◌, subst, arith, eq-eqb, ◌==◌, ◌&&◌, not, slice_index_or, slice_set, and_parts, eqb-false, eqb-true, false≢true, get_or-set_other, Image, ROWS, own_row, Object, Status, Pending, Steps, to_thread, MayChoose, State, object_at, thread_at, vacant, FineAct, Unseen, is_dying, charge_in, begins_cleaning, Cell, goes_on_by, p_next, row_number, ObjectCell, Todo, Todos, Processor, SiteState, site_moves, Exchange, FineStep, Site, AreBlocks, Cleans, Fine, object, one_if, row, counted, is_recycle, is_wipe, cell_of, recyclers, wipers, CleaningIs, is_cleared}
use Rattle.um_machine.specs.declared.contents.Contents.TheVariants as Contents
use Rattle.um_words.specs.declared.fine.Mark.{Mark}
use Rattle.um_machine.specs.Objects as Plain
use Rattle.um_machine.specs.Table as T
use Rattle.um_refinement.proofs.CellSteps.{clears-few, takes-quiet, wipers-few, wipes-gain}
use Rattle.um_refinement.proofs.CleanersSteps.{gain, no-gain, recycles-gain}
use Rattle.um_refinement.proofs.ContentsKept.{IsBeside, queues-kept, beside-kept, cell-beside, clean-kept, work-objects}
use Rattle.um_refinement.proofs.DomainFacts.{two-parts}
use Rattle.um_refinement.proofs.Erased.{around, later}
use Rattle.um_refinement.proofs.FirstThreads.{one-most}
use Rattle.um_refinement.proofs.HeldRows.{checked-claimed, claimed-kept}
use Rattle.um_refinement.proofs.LawfulSteps.{Suits}
use Rattle.um_refinement.proofs.Leaves.{Beside, Lawful, Leaves, beside, cuts, expires, leaves, ticks, times_out, cleans, drops, event, nothing, passes, recycles, resumes}
use Rattle.um_refinement.proofs.ListBlocks.{blocks-next}
use Rattle.um_refinement.proofs.ListCounts.{count-cons, next-counts, recycles-of, takes-counts, wipes-of}
use Rattle.um_refinement.proofs.ListGrowth.{ReadsLast}
use Rattle.um_refinement.proofs.ListTails.{quiet-next}
use Rattle.um_refinement.proofs.MemorySteps.{part-total}
use Rattle.um_refinement.proofs.ObjectsKept.{set-kept}
use Rattle.um_refinement.proofs.Offered.{runs-first, IsStep, Shows, shown-offers, shown-on}
use Rattle.um_refinement.proofs.SchedulerSteps.{made-at, made-says}
use Rattle.um_refinement.proofs.StepReads.{is-behind}
use Rattle.um_refinement.proofs.WordsKept.{IsShown}
use Rattle.um_refinement.proofs.WorkSteps.{object-sort}
use Rattle.um_refinement.proofs.Writes.{reserved-objects}
use Rattle.um_refinement.proofs.Sums.{one-true}

-- an object whose cell was cleared is recycled once more than cells of it are cleared
cleared-more : (image : Image) (x : ℕ) (todo : Todos) → AreBlocks image todo → is_cleared x todo ≡ true → counted (is_wipe x) todo < counted (is_recycle x) todo
cleared-more image x [] h c = absurd (false≢true c)
cleared-more image x (Todo.vacate z ∷ todo) h c =
    let at : todo ≡ Todo.recycle z ∷ h.0.0 = h.0.1 in
    let few = clears-few image x (length h.0.0) h.0.0 (omega arith) (subst (AreBlocks image) at h.1) in
    let wipes : counted (is_wipe x) todo ≡ counted (is_wipe x) h.0.0 = ap (counted (is_wipe x)) at in
    let recs : counted (is_recycle x) todo ≡ one_if (x == z) + counted (is_recycle x) h.0.0 = ap (counted (is_recycle x)) at ∙ count-cons (is_recycle x) (Todo.recycle z) h.0.0 in
    let one = ap one_if c in
    omega (arith, few, wipes, recs, one)
cleared-more image x (Todo.recycle z ∷ todo) h c =
    let few = clears-few image x (length todo) todo (omega arith) h in
    let recs = count-cons (is_recycle x) (Todo.recycle z) todo in
    let one = ap one_if c in
    omega (arith, few, recs, one)
cleared-more image x (q ∷ todo) h c = absurd (false≢true c)

buffer-beside : IsBeside (λ (o : Object). o.buffer)
buffer-beside = record { status = λ o status. refl; public = λ o. refl; init = λ o init. refl }

module _ (f : Fine) (m : State) (e : FineStep) (law : Lawful f m e) (x : ℕ) (few : x < ROWS) where
  open around f e use {processor as p, now}
  open is-behind f m e law use {frame, last-shown}

  abbrev Recs : Todos → ℕ
  Recs todo = counted (is_recycle x) todo

  abbrev Wipes : Todos → ℕ
  Wipes todo = counted (is_wipe x) todo

  was : CleaningIs f m e.cpu x
  was = (law.rel.processors e.cpu law.by.named).cleaning x few

  blocks : (todo : Todos) → p.todo ≡ todo → AreBlocks f.image todo
  blocks todo at = subst (AreBlocks f.image) at (law.rel.processors e.cpu law.by.named).blocks

  abbrev Order : Todos → Type 0
  Order todo = Recs todo ≡ Wipes todo + one_if (is_cleared x todo)

  order-was : (todo : Todos) → p.todo ≡ todo → Order todo
  order-was todo at = subst Order at was.order

  -- as many of both: nothing was cleared
  even : Recs now.todo ≡ Wipes now.todo → Order now.todo
  even same = by (is_cleared x now.todo) refl
    where
      by : (b : Bool) → is_cleared x now.todo ≡ b → Order now.todo
      by true c = let more = cleared-more f.image x now.todo (blocks-next f.image p e (law.rel.processors e.cpu law.by.named).frames (law.rel.processors e.cpu law.by.named).blocks) c in absurd (omega (arith, same, more))
      by false c = let none = ap one_if c in omega (arith, same, none)

  module _ (q : Todo) (todo : Todos) (at : p.todo ≡ q ∷ todo) (last : ReadsLast e q todo) where
    recs-now : Recs now.todo ≡ gain f m e law x few (begins_cleaning e) (row_number e.site) + Recs todo
    recs-now =
        let all = next-counts (is_recycle x) (recycles-of x) f.image p e q todo at (frame q todo at) last in
        let more = recycles-gain f m e law x few (begins_cleaning e) in
        omega (arith, all, more)

    wipes-now : Wipes now.todo ≡ gain f m e law x few (begins_cleaning e) (row_number e.site) + Wipes todo
    wipes-now =
        let all = next-counts (is_wipe x) (wipes-of x) f.image p e q todo at (frame q todo at) last in
        let more = wipes-gain f m e law x few (begins_cleaning e) in
        omega (arith, all, more)

    -- as many of both behind the step
    level : Recs todo ≡ Wipes todo → Recs now.todo ≡ Wipes now.todo
    level same = let r = recs-now in let w = wipes-now in omega (arith, r, w, same)

    -- a step of no cleaning, or a visit
    plain : is_recycle x q ≡ false → is_wipe x q ≡ false → is_cleared x (q ∷ todo) ≡ false → Recs todo ≡ Wipes todo
    plain rec wipe cleared =
        let before = order-was (q ∷ todo) at in
        let r = count-cons (is_recycle x) q todo in
        let w = count-cons (is_wipe x) q todo in
        let one = ap one_if rec in
        let two = ap one_if wipe in
        let three = ap one_if cleared in
        omega (arith, before, r, w, one, two, three)

  -- behind a step that clears another cell, or vacates another row, or recycles
  wipe-other : (z : ℕ) (todo : Todos) → p.todo ≡ Todo.wipe z ∷ todo → (x == z) ≡ false → Recs todo ≡ Wipes todo
  wipe-other z todo at k = plain (Todo.wipe z) todo at tt refl k refl

  vacate-other : (z : ℕ) (todo : Todos) → p.todo ≡ Todo.vacate z ∷ todo → (x == z) ≡ false → Recs todo ≡ Wipes todo
  vacate-other z todo at k = plain (Todo.vacate z) todo at tt refl refl k

  behind-recycle : (z : ℕ) (todo : Todos) → p.todo ≡ Todo.recycle z ∷ todo → Recs todo ≡ Wipes todo
  behind-recycle z todo at =
      let before = order-was (Todo.recycle z ∷ todo) at in
      let r = count-cons (is_recycle x) (Todo.recycle z) todo in
      omega (arith, before, r)

  list-is : (q : Todo) (todo : Todos) (u : Unseen) → p.todo ≡ q ∷ todo → e.act ≡ FineAct.Unseen u → begins_cleaning (record e { act = FineAct.Unseen u }) ≡ false → now ≡ goes_on_by f.image p e (q ∷ todo)
  list-is q todo u at said none = quiet-next f.image p e (q ∷ todo) u at said none

  nothing-left : p.todo ≡ [] → Recs now.todo ≡ Wipes now.todo
  nothing-left at =
      takes-counts (is_recycle x) (recycles-of x) f.image p e at (takes-quiet f m e law x few at)
      ∙ sym (takes-counts (is_wipe x) (wipes-of x) f.image p e at (takes-quiet f m e law x few at))

  -- a step that clears this object's cell, or vacates its row, leaves the rest of its cleaning
  order-after : (q : Todo) (todo : Todos) (u : Unseen) → p.todo ≡ q ∷ todo → ReadsLast e q todo → e.act ≡ FineAct.Unseen u → begins_cleaning (record e { act = FineAct.Unseen u }) ≡ false
      → is_cleared x (goes_on_by f.image p e (q ∷ todo)).todo ≡ true → Recs todo ≡ Wipes todo + 1 → Order now.todo
  order-after q todo u at last said quiet cleared one-more =
      let next = list-is q todo u at said quiet in
      let one = ap one_if (ap (λ (z : Processor). is_cleared x z.todo) next ∙ cleared) in
      let r = recs-now q todo at last in
      let w = wipes-now q todo at last in
      omega (arith, r, w, one, one-more)

  order-mine : Order now.todo
  order-mine = by p.todo refl
    where
      by-wipe : (z : ℕ) (todo : Todos) → p.todo ≡ Todo.wipe z ∷ todo → (b : Bool) → (x == z) ≡ b → Order now.todo
      by-wipe z todo at false k = even (level (Todo.wipe z) todo at tt (wipe-other z todo at k))
      by-wipe z todo at true k =
          let before = order-was (Todo.wipe z ∷ todo) at in
          let wipes = count-cons (is_wipe x) (Todo.wipe z) todo in
          let one = ap one_if k in
          order-after (Todo.wipe z) todo Unseen.Wipe at tt (made-says f m e law (Todo.wipe z ∷ todo) at) refl (ap (is_cleared x) (blocks (Todo.wipe z ∷ todo) at).0.1 ∙ k) (omega (arith, before, wipes, one))

      by-vacate : (z : ℕ) (todo : Todos) → p.todo ≡ Todo.vacate z ∷ todo → (b : Bool) → (x == z) ≡ b → Order now.todo
      by-vacate z todo at false k = even (level (Todo.vacate z) todo at tt (vacate-other z todo at k))
      by-vacate z todo at true k =
          let before = order-was (Todo.vacate z ∷ todo) at in
          let one = ap one_if k in order-after (Todo.vacate z) todo Unseen.Vacate at tt (made-says f m e law (Todo.vacate z ∷ todo) at) refl (ap (is_cleared x) (blocks (Todo.vacate z ∷ todo) at).0.1 ∙ k) (omega (arith, before, one))

      by : (todo : Todos) → p.todo ≡ todo → Order now.todo
      by [] at = even (nothing-left at)
      by (Todo.wipe z ∷ todo) at = by-wipe z todo at (x == z) refl
      by (Todo.vacate z ∷ todo) at = by-vacate z todo at (x == z) refl
      by (Todo.recycle z ∷ todo) at = even (level (Todo.recycle z) todo at tt (behind-recycle z todo at))
      by (Todo.show q rest ∷ todo) at = even (level (Todo.show q rest) todo at (last-shown q rest todo at) (plain (Todo.show q rest) todo at (last-shown q rest todo at) refl refl refl))
      by (q ∷ todo) at = even (level q todo at tt (plain q todo at tt refl refl refl))

  -- What the buffer cost.

  -- no cleaning whose cell was cleared is left
  none-left : {A : Type 0} → Recs now.todo ≡ Wipes now.todo → 0 < Recs now.todo → Wipes now.todo ≡ 0 → A
  none-left same some none = absurd (omega (arith, same, some, none))

  most : recyclers f x ≤ 1
  most =
      let c = (law.rel.rows x few).cleaners.cleaner in
      let o = one-most (Plain.is_gone (object_at m x).status && not (is_dying (row f x).stage)) in
      omega (arith, c, o)

  -- an object that a processor cleans is gone
  gone-now : 0 < recyclers f x → Plain.is_gone (object_at m x).status ≡ true
  gone-now some =
      let c = (law.rel.rows x few).cleaners.cleaner in
      (and_parts (Plain.is_gone (object_at m x).status) _ (one-true (Plain.is_gone (object_at m x).status && not (is_dying (row f x).stage)) (omega (arith, some, c)))).0

  -- the cell that is cleared has the object's buffer
  whole-at : (todo : Todos) → p.todo ≡ Todo.wipe x ∷ todo → object f x ≡ cell_of (object f x).noted (object_at m x)
  whole-at todo at = (law.rel.rows x few).contents.whole (omega (arith, all, part, wipes, m1, mine))
    where
      all : wipers f x ≤ recyclers f x
      all = wipers-few f m e law x few

      part : Wipes p.todo ≤ wipers f x
      part = part-total (λ j. Wipes (f.processors j).todo) f.cpus e.cpu law.by.named

      m1 : recyclers f x ≤ 1
      m1 = most

      wipes : Wipes p.todo ≡ one_if (x == x) + Wipes todo
      wipes = ap Wipes at ∙ count-cons (is_wipe x) (Todo.wipe x) todo

      mine : one_if (x == x) ≡ 1
      mine = ap one_if (eq-eqb x x refl)

  charge-at : (todo : Todos) → p.todo ≡ Todo.wipe x ∷ todo → now.charge ≡ (object_at m x).buffer
  charge-at todo at =
      ap (λ (z : Processor). z.charge) (list-is (Todo.wipe x) todo Unseen.Wipe at said refl)
      ∙ (ap charge_in (sym moved) ∙ ap (λ (o : ObjectCell). o.buffer) (whole-at todo at))
    where
      said : e.act ≡ FineAct.Unseen Unseen.Wipe
      said = made-says f m e law (Todo.wipe x ∷ todo) at

      cell : (n : ℕ) × (f.sites (Site.object x) ≡ SiteState.cell n (Cell.object (object f x)))
      cell = object-sort x (f.sites (Site.object x)) (law.rel.sorts (Site.object x))

      moved : Exchange.charge (object f x).buffer ≡ e.moved
      moved =
          subst (λ (s : SiteState). site_moves f.image s (FineAct.Unseen Unseen.Wipe) e.moved ≡ e.moved) cell.1
          (subst (λ (z : Site × FineAct). site_moves f.image (f.sites z.0) z.1 e.moved ≡ e.moved) (λ i. (made-at f m e law (Todo.wipe x ∷ todo) at i, said i)) (ap (λ (s : FineStep). s.moved) law.taken.filled_in))

  unseen-mine : 0 < Recs now.todo → Wipes now.todo ≡ 0 → (todo : Todos) → p.todo ≡ todo → now.charge ≡ (object_at m x).buffer
  unseen-mine some none [] at = none-left (nothing-left at) some none
  unseen-mine some none (Todo.wipe z ∷ todo) at = by (x == z) refl
    where
      by : (b : Bool) → (x == z) ≡ b → now.charge ≡ (object_at m x).buffer
      by true k = charge-at todo (at ∙ ap (λ r. Todo.wipe r ∷ todo) (sym (eqb-true x z k)))
      by false k = none-left (level (Todo.wipe z) todo at tt (wipe-other z todo at k)) some none
  unseen-mine some none (Todo.vacate z ∷ todo) at = by (x == z) refl
    where
      next : begins_cleaning e ≡ false
      next = ap (λ a. begins_cleaning (record e { act = a })) (made-says f m e law (Todo.vacate z ∷ todo) at)

      by : (b : Bool) → (x == z) ≡ b → now.charge ≡ (object_at m x).buffer
      by true k =
          let r = recs-now (Todo.vacate z) todo at tt in
          let w = wipes-now (Todo.vacate z) todo at tt in
          let g = no-gain f m e law x few next in
          let recs : Recs p.todo ≡ Recs todo = ap Recs at in
          let wipes : Wipes p.todo ≡ Wipes todo = ap Wipes at in
          ap (λ (z : Processor). z.charge) (list-is (Todo.vacate z) todo Unseen.Vacate at (made-says f m e law (Todo.vacate z ∷ todo) at) refl) ∙ was.charged (omega (arith, some, r, g, recs)) (omega (arith, none, w, g, wipes))
      by false k = none-left (level (Todo.vacate z) todo at tt (vacate-other z todo at k)) some none
  unseen-mine some none (Todo.recycle z ∷ todo) at = none-left (level (Todo.recycle z) todo at tt (behind-recycle z todo at)) some none
  unseen-mine some none (Todo.show q rest ∷ todo) at =
      none-left (level (Todo.show q rest) todo at (last-shown q rest todo at) (plain (Todo.show q rest) todo at (last-shown q rest todo at) refl refl refl)) some none
  unseen-mine some none (q ∷ todo) at = none-left (level q todo at tt (plain q todo at tt refl refl refl)) some none

  on-beside : (t y : ℕ) (q : Pending) → Beside f m e t y q → 0 < Recs now.todo → Wipes now.todo ≡ 0 → now.charge ≡ (object_at (T.after m t y q (thread_at m t).pending) x).buffer
  on-beside t y _ (cuts who site before _ todo at place inside said) some none =
      let z = Todo.look who site before in none-left (level z todo at tt (plain z todo at tt refl refl refl)) some none
  on-beside t y _ (times_out deadline site _ who todo at place inside said) some none =
      let z = Todo.handle deadline (Mark.Thread who site) in none-left (level z todo at tt (plain z todo at tt refl refl refl)) some none
  on-beside t y _ (expires deadline x todo at inside said) some none =
      let z = Todo.handle deadline (Mark.Timer x) in none-left (level z todo at tt (plain z todo at tt refl refl refl)) some none
  on-beside t y _ (ticks at said) some none = none-left (nothing-left at) some none
  on-beside t y _ (leaves todo at said) some none = none-left (level Todo.leave todo at tt (plain Todo.leave todo at tt refl refl refl)) some none

  charged-mine : (s : State) → Leaves f m e s → 0 < Recs now.todo → Wipes now.todo ≡ 0 → now.charge ≡ (object_at s x).buffer
  charged-mine _ (nothing u said) some none = unseen-mine some none p.todo refl
  charged-mine _ (event q rest todo n h shown is) some none =
      let last = last-shown h.listed rest todo h.at in none-left (level (Todo.show h.listed rest) todo h.at last (plain (Todo.show h.listed rest) todo h.at last refl refl refl)) some none
  charged-mine _ (resumes c told rest at moved said) some none = none-left (nothing-left at) some none
  charged-mine _ (passes who y rest todo h said) some none = none-left (level (Todo.pass who y) todo h.at tt (plain (Todo.pass who y) todo h.at tt refl refl refl)) some none
  charged-mine _ (drops from y rest todo h said) some none = none-left (level (Todo.drop y) todo h.at tt (plain (Todo.drop y) todo h.at tt refl refl refl)) some none
  charged-mine _ (cleans who y rest todo h said) some none = none-left (level (Todo.clean_pair who y) todo h.at tt (plain (Todo.clean_pair who y) todo h.at tt refl refl refl)) some none
  charged-mine _ (recycles y rest todo at l said chosen) some none = none-left (level (Todo.recycle y) todo at tt (behind-recycle y todo at)) some none
  charged-mine _ (beside t y q how chosen started) some none = on-beside t y q how some none

  -- An object that another processor cleans keeps its buffer.

  module _ (suits : Suits f m) (k : ℕ) (l : k < f.cpus) (ne : e.cpu ≡ k → ⊥) (cleans-it : 0 < Recs (f.processors k).todo) where
    some-one : 0 < recyclers f x
    some-one = let part = part-total (λ j. Recs (f.processors j).todo) f.cpus k l in omega (arith, part, cleans-it)

    Buffer : State → Type 0
    Buffer s = (object_at s x).buffer ≡ (object_at m x).buffer

    other : (y : ℕ) (o : Object) → (x ≡ y → ⊥) → (slice_index_or (slice_set m.objects y o) x vacant).buffer ≡ (object_at m x).buffer
    other y o apart = ap (λ (w : Object). w.buffer) (get_or-set_other m.objects y x o vacant apart)

    free-gone : (s : Status) → Plain.is_free s ≡ true → Plain.is_gone s ≡ true → ⊥
    free-gone Status.Free a b = false≢true b
    free-gone Status.Live a b = false≢true a
    free-gone Status.Gone a b = false≢true a
    free-gone Status.Reserved a b = false≢true a

    by-event : (q : Pending) (rest : Steps) (todo : Todos) (n : ℕ) → Shows f m e.cpu e q rest todo → IsShown q → IsStep f m e.cpu e n q
        → (object_at (T.after m p.context.thread n q rest) x).buffer ≡ (object_at m x).buffer
    by-event (Pending.Work a ask) rest todo n h shown is =
        ap (λ (os : List Object). (slice_index_or os x vacant).buffer) (work-objects m p.context.thread n a ask rest) ∙ other (T.row_of m a) _ apart
      where
        apart : x ≡ T.row_of m a → ⊥
        apart at =
            let held = ap (λ r. slice_index_or (thread_at m p.context.thread).checked r false) at ∙ suits.works p.context.thread a ask rest (shown-offers h) in
            let none = (claimed-kept f m law.rel x few (checked-claimed f m law.rel e.cpu x law.by.named few (runs-first law.rel law.by.named (Todo.show h.listed rest) todo h.at (λ hand. hand)) (shown-on h) held)).1 in
            let some = some-one in
            omega (arith, none, some)
    by-event (Pending.Named who) rest todo n h shown is =
        let y = own_row m.image who.0 in set-kept (λ (w : Object). w.buffer) m.objects y x (record (object_at m y) { contents = Contents.Named (thread_at m p.context.thread).buffer }) refl
    by-event (Pending.Reserve kind) rest todo zero h shown is = refl
    by-event (Pending.Reserve kind) rest todo (suc n) h shown is = by-choice is.chosen
      where
        no-zero : suc n ≡ 0 → ⊥
        no-zero z = omega (arith, z)

        by-choice : MayChoose m p.context.thread (suc n) (Pending.Reserve kind) → (object_at (T.after m p.context.thread (suc n) (Pending.Reserve kind) rest) x).buffer ≡ (object_at m x).buffer
        by-choice (inr none) = absurd (no-zero none.0)
        by-choice (inl pays) =
            ap (λ (os : List Object). (slice_index_or os x vacant).buffer) (reserved-objects m p.context.thread n kind rest)
            ∙ other (suc n) _
            (λ at.
            free-gone (object_at m x).status (ap (λ r. Plain.is_free (object_at m r).status) at ∙ (and_parts _ (Plain.is_free (object_at m (suc n)).status) pays.1).1) (gone-now some-one))
    by-event (Pending.Inherit who) rest todo n h shown is = absurd shown
    by-event (Pending.Drops from) rest todo n h shown is = absurd shown
    by-event (Pending.CleanPair who) rest todo n h shown is = absurd shown
    by-event Pending.Recycle rest todo n h shown is = absurd shown
    by-event (Pending.TimeOut who) rest todo n h shown is = absurd shown
    by-event Pending.Expire rest todo n h shown is = absurd shown
    by-event (Pending.Cut who) rest todo n h shown is = absurd shown
    by-event q rest todo n h shown is = ap (λ (o : ObjectCell). o.buffer) (beside-kept (cell_of []) (cell-beside []) m x p.context.thread n q rest refl)

    buffer-stays : (s : State) → Leaves f m e s → (object_at s x).buffer ≡ (object_at m x).buffer
    buffer-stays _ (nothing u said) = refl
    buffer-stays _ (event q rest todo n h shown is) = by-event q rest todo n h shown is
    buffer-stays _ (resumes c told rest at moved said) = ap (λ (o : ObjectCell). o.buffer) (beside-kept (cell_of []) (cell-beside []) m x c.thread 0 Pending.Resume rest refl)
    buffer-stays _ (passes who y rest todo h said) = refl
    buffer-stays _ (drops from y rest todo h said) = ap (λ (o : ObjectCell). o.buffer) (beside-kept (cell_of []) (cell-beside []) m x p.context.thread y (Pending.Drops from) rest refl)
    buffer-stays _ (cleans who y rest todo h said) =
        ap (λ (o : ObjectCell). o.buffer) (clean-kept (cell_of []) (cell-beside []) (λ o by. refl) m x p.context.thread y (to_thread who) rest)
    buffer-stays _ (recycles y rest todo at few-y said chosen) = other y vacant apart
      where
        apart : x ≡ y → ⊥
        apart same =
            let both = two-parts (λ j. Recs (f.processors j).todo) f.cpus e.cpu k law.by.named l ne in
            let mine : Recs p.todo ≡ one_if (x == y) + Recs todo = ap Recs at ∙ count-cons (is_recycle x) (Todo.recycle y) todo in
            let one = ap one_if (eq-eqb x y same) in
            let one-only = most in
            omega (arith, both, mine, one, one-only, cleans-it)
    buffer-stays _ (beside t y q how chosen started) = ends t y q how
      where
        ends : (t y : ℕ) (q : Pending) → Beside f m e t y q → (object_at (T.after m t y q (thread_at m t).pending) x).buffer ≡ (object_at m x).buffer
        ends t y _ (cuts who site before _ todo at place inside said) = queues-kept (λ (o : Object). o.buffer) buffer-beside (λ o contents waiters. refl) m x t y (Pending.Cut (to_thread who)) (thread_at m t).pending refl
        ends t y _ (times_out deadline site _ who todo at place inside said) = queues-kept (λ (o : Object). o.buffer) buffer-beside (λ o contents waiters. refl) m x t y (Pending.TimeOut who) (thread_at m t).pending refl
        ends t y _ (expires deadline z todo at inside said) = queues-kept (λ (o : Object). o.buffer) buffer-beside (λ o contents waiters. refl) m x t y Pending.Expire (thread_at m t).pending refl
        ends t y _ (ticks at said) = queues-kept (λ (o : Object). o.buffer) buffer-beside (λ o contents waiters. refl) m x t y Pending.Tick (thread_at m t).pending refl
        ends t y _ (leaves todo at said) = queues-kept (λ (o : Object). o.buffer) buffer-beside (λ o contents waiters. refl) m x t y Pending.Left (thread_at m t).pending refl

  pub order-part : (k : ℕ) → k < f.cpus → Recs ((later f e).processors k).todo ≡ Wipes ((later f e).processors k).todo + one_if (is_cleared x ((later f e).processors k).todo)
  order-part k l = by (e.cpu == k) refl
    where
      kth : Bool → Processor
      kth b = cond b (p_next f.image (f.processors k) e) (f.processors k)

      by : (b : Bool) → (e.cpu == k) ≡ b → Order (kth (e.cpu == k)).todo
      by true q = subst (λ (z : Processor). Order z.todo) (sym (ap kth q ∙ ap (λ (z : Processor). p_next f.image z e) (sym (ap f.processors (eqb-true e.cpu k q))))) order-mine
      by false q = subst (λ (z : Processor). Order z.todo) (sym (ap kth q)) ((law.rel.processors k l).cleaning x few).order

  pub charged-part : Suits f m → (s : State) → Leaves f m e s → (k : ℕ) → k < f.cpus → Cleans (later f e) k x → Wipes ((later f e).processors k).todo ≡ 0 → ((later f e).processors k).charge ≡ (object_at s x).buffer
  charged-part suits s how k l = by (e.cpu == k) refl
    where
      kth : Bool → Processor
      kth b = cond b (p_next f.image (f.processors k) e) (f.processors k)

      Charged : Processor → Type 0
      Charged z = 0 < Recs z.todo → Wipes z.todo ≡ 0 → z.charge ≡ (object_at s x).buffer

      by : (b : Bool) → (e.cpu == k) ≡ b → Charged (kth (e.cpu == k))
      by true q = subst Charged (sym (ap kth q ∙ ap (λ (z : Processor). p_next f.image z e) (sym (ap f.processors (eqb-true e.cpu k q))))) (charged-mine s how)
      by false q =
          subst Charged (sym (ap kth q))
          (λ some none. ((law.rel.processors k l).cleaning x few).charged some none ∙ sym (buffer-stays suits k l (eqb-false e.cpu k q) some s how))
