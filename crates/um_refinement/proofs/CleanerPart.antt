-- The thread by which the machine has begun to clean an object is run by the processor that cleans it, after every lawful step; and the
-- machine has begun to clean none that no processor cleans.
use Rattle.um_refinement.proofs.Words.{◌≡◌, ◌⊎◌, inl, inr, ℕ, zero, suc, ◌+◌, ◌<◌, ◌≤◌, Bool, true, false, cond, List, [], ◌∷◌, Option, Some, None, refl, sym, ap, ◌∙◌, subst, arith, eq-eqb, ◌==◌, ◌&&◌, not, is_some, slice_index_or, slice_set, unwrap_or, eqb-false, eqb-true, false≢true, get_or-set_other, get_or-set_same, ROWS, ThreadIx, own_row, Object, Status, Pending, Steps, to_thread, State, object_at, thread_at, vacant, FineAct, Unseen, is_dying, p_next, Todo, Todos, Processor, FineStep, AreBlocks, Cleans, Fine, one_if, row, Behind, counted, is_recycle, recyclers, CleanerIs}
use Rattle.um_words.specs.declared.fine.Mark.{Mark}
use Rattle.um_machine.specs.State.{thread_at}
use Rattle.um_machine.specs.declared.contents.Contents.TheVariants as Contents
use Rattle.um_machine.specs.Objects as Plain
use Rattle.um_machine.specs.Table as T
use Rattle.um_refinement.proofs.CellSteps.{idle-count, takes-quiet}
use Rattle.um_refinement.proofs.CleanersPart.{cleaners-part}
use Rattle.um_refinement.proofs.CleanersSteps.{rec-sum}
use Rattle.um_refinement.proofs.CleanSteps.{OwnRows}
use Rattle.um_refinement.proofs.ContentsKept.{queues-kept, IsBeside, beside-kept, drops-kept, work-objects}
use Rattle.um_refinement.proofs.DomainFacts.{two-parts}
use Rattle.um_refinement.proofs.Erased.{around, later}
use Rattle.um_refinement.proofs.FirstThreads.{one-most}
use Rattle.um_refinement.proofs.Leaves.{Beside, Lawful, Leaves, beside, cuts, expires, leaves, ticks, times_out, cleans, drops, event, nothing, passes, recycles, resumes}
use Rattle.um_refinement.proofs.ListCounts.{count-cons, recycles-of, takes-counts}
use Rattle.um_refinement.proofs.ListGrips.{next-thread}
use Rattle.um_refinement.proofs.ListGrowth.{ReadsLast, is_end}
use Rattle.um_refinement.proofs.MemorySteps.{part-total}
use Rattle.um_refinement.proofs.ObjectsKept.{set-kept}
use Rattle.um_refinement.proofs.SchedulerSteps.{made-says}
use Rattle.um_refinement.proofs.StepReads.{is-behind}
use Rattle.um_refinement.proofs.Sums.{over-changed}
use Rattle.um_refinement.proofs.WordsKept.{IsShown}
use Rattle.um_refinement.proofs.Writes.{with_dropped, with_cleaner, reserved-objects}

abbrev cleaner_of : Object → Option ThreadIx
cleaner_of o = o.cleaner

cleaner-beside : IsBeside cleaner_of
cleaner-beside = record { status = λ o status. refl; public = λ o. refl; init = λ o init. refl }

module _ (f : Fine) (m : State) (e : FineStep) (law : Lawful f m e) (x : ℕ) (few : x < ROWS) where
  open around f e use {processor as p, now}
  open is-behind f m e law use {frame, last-shown}

  abbrev Recs : Todos → ℕ
  Recs todo = counted (is_recycle x) todo

  -- What the machine makes of the cleaner: it stays, it is none, or it is the thread that visits a permission of the object's thread.

  data Cleaner (s : State) : Type 0 where
    stays : (object_at s x).cleaner ≡ (object_at m x).cleaner → Cleaner s
    goes : (object_at s x).cleaner ≡ None → Cleaner s
    begins : (who y : ℕ) (todo : Todos) → p.todo ≡ Todo.clean_pair who y ∷ todo → own_row m.image who ≡ x → (object_at s x).cleaner ≡ Some (to_thread p.context.thread) → Cleaner s

  -- an object is written at some row
  written : (s : State) (y : ℕ) (o : Object) → o.cleaner ≡ None → object_at s x ≡ slice_index_or (slice_set m.objects y o) x vacant → Cleaner s
  written s y o none same = by (x == y) refl
    where
      by : (b : Bool) → (x == y) ≡ b → Cleaner s
      by false k = stays (ap cleaner_of (same ∙ get_or-set_other m.objects y x o vacant (eqb-false x y k)))
      by true k =
          let long = law.sound.wide.objects in
          goes (ap cleaner_of (same ∙ (ap (λ r. slice_index_or (slice_set m.objects r o) x vacant) (sym (eqb-true x y k)) ∙ get_or-set_same m.objects x o vacant (omega (arith, few, long)))) ∙ none)

  by-event : (q : Pending) (rest : Steps) (t n : ℕ) → IsShown q → Cleaner (T.after m t n q rest)
  by-event (Pending.Work a ask) rest t n shown =
      let w = T.work_of m t a ask in
      let y = T.row_of m a in
      stays
      (ap (λ (os : List Object). (slice_index_or os x vacant).cleaner) (work-objects m t n a ask rest)
      ∙ set-kept cleaner_of m.objects y x (record (object_at m y) { contents = w.contents; waiters = w.waiters; buffer = T.buffer_cost ask w.answer (object_at m y).buffer }) refl)
  by-event (Pending.Named who) rest t n shown =
      let y = own_row m.image who.0 in stays (set-kept cleaner_of m.objects y x (record (object_at m y) { contents = Contents.Named (thread_at m t).buffer }) refl)
  by-event (Pending.Reserve kind) rest t zero shown = stays refl
  by-event (Pending.Reserve kind) rest t (suc n) shown =
      written (T.after m t (suc n) (Pending.Reserve kind) rest) (suc n) (record vacant { kind = Some kind; status = Status.Reserved; cost = T.cost_of (thread_at m t).pool 64 }) refl
      (ap (λ (os : List Object). slice_index_or os x vacant) (reserved-objects m t n kind rest))
  by-event (Pending.CleanPair who) rest t n shown = absurd shown
  by-event Pending.Recycle rest t n shown = absurd shown
  by-event (Pending.TimeOut who) rest t n shown = absurd shown
  by-event Pending.Expire rest t n shown = absurd shown
  by-event (Pending.Cut who) rest t n shown = absurd shown
  by-event q rest t n shown = stays (beside-kept cleaner_of cleaner-beside m x t n q rest refl)

  on-beside : (t y : ℕ) (q : Pending) → Beside f m e t y q → (object_at (T.after m t y q (thread_at m t).pending) x).cleaner ≡ (object_at m x).cleaner
  on-beside t y _ (cuts who site before _ todo at place inside said) = queues-kept cleaner_of cleaner-beside (λ o contents waiters. refl) m x t y (Pending.Cut (to_thread who)) (thread_at m t).pending refl
  on-beside t y _ (times_out deadline site _ who todo at place inside said) = queues-kept cleaner_of cleaner-beside (λ o contents waiters. refl) m x t y (Pending.TimeOut who) (thread_at m t).pending refl
  on-beside t y _ (expires deadline z todo at inside said) = queues-kept cleaner_of cleaner-beside (λ o contents waiters. refl) m x t y Pending.Expire (thread_at m t).pending refl
  on-beside t y _ (ticks at said) = queues-kept cleaner_of cleaner-beside (λ o contents waiters. refl) m x t y Pending.Tick (thread_at m t).pending refl
  on-beside t y _ (leaves todo at said) = queues-kept cleaner_of cleaner-beside (λ o contents waiters. refl) m x t y Pending.Left (thread_at m t).pending refl

  cleaner-then : (s : State) → Leaves f m e s → Cleaner s
  cleaner-then _ (nothing u said) = stays refl
  cleaner-then _ (event q rest todo n h shown is) = by-event q rest p.context.thread n shown
  cleaner-then _ (resumes c told rest at moved said) = stays (beside-kept cleaner_of cleaner-beside m x c.thread 0 Pending.Resume rest refl)
  cleaner-then _ (passes who y rest todo h said) = stays refl
  cleaner-then _ (drops from y rest todo h said) = stays (beside-kept cleaner_of cleaner-beside m x p.context.thread y (Pending.Drops from) rest refl)
  cleaner-then _ (recycles y rest todo at l said chosen) = written (T.after m p.context.thread y Pending.Recycle rest) y vacant refl refl
  cleaner-then _ (cleans who y rest todo h said) = by (own_row m.image who == x) refl
    where
      z : ℕ
      z = own_row m.image who

      o : Object
      o = record (object_at m z) { cleaner = Some (to_thread p.context.thread) }

      s : State
      s = with_cleaner m p.context.thread z

      dropped : (object_at (with_dropped s who y) x).cleaner ≡ (object_at s x).cleaner
      dropped = drops-kept cleaner_of cleaner-beside s x who y (T.dropped s who y)

      by : (b : Bool) → (own_row m.image who == x) ≡ b → Cleaner (T.after m p.context.thread y (Pending.CleanPair (to_thread who)) rest)
      by false k = stays (dropped ∙ ap cleaner_of (get_or-set_other m.objects z x o vacant (λ same. eqb-false z x k (sym same))))
      by true k =
          let long = law.sound.wide.objects in
          begins who y todo h.at (eqb-true z x k)
          (dropped ∙ (ap (λ r. cleaner_of (slice_index_or (slice_set m.objects r o) x vacant)) (eqb-true z x k) ∙ ap cleaner_of (get_or-set_same m.objects x o vacant (omega (arith, few, long)))))
  cleaner-then _ (beside t y q how chosen started) = stays (on-beside t y q how)

  -- How many recycle the object.

  more : (q : Todo) (todo : Todos) → p.todo ≡ q ∷ todo → ReadsLast e q todo → is_recycle x q ≡ false → recyclers f x ≤ recyclers (later f e) x
  more q todo at last rec = let sum = rec-sum f m e law x few q todo at last in let none = ap one_if rec in omega (arith, sum, none)

  as-many : p.todo ≡ [] → recyclers f x ≤ recyclers (later f e) x
  as-many at = let same = idle-count f m e law x few (is_recycle x) (takes-counts (is_recycle x) (recycles-of x) f.image p e at (takes-quiet f m e law x few at)) at in omega (arith, same)

  unseen-more : (u : Unseen) → e.act ≡ FineAct.Unseen u → (todo : Todos) → p.todo ≡ todo → recyclers f x ≤ recyclers (later f e) x
  unseen-more u said [] at = as-many at
  unseen-more u said (Todo.show q rest ∷ todo) at = more (Todo.show q rest) todo at (last-shown q rest todo at) refl
  unseen-more u said (Todo.recycle z ∷ todo) at = absurd (is-unseen (sym said ∙ made-says f m e law (Todo.recycle z ∷ todo) at))
    where
      is-unseen : {event : _} {more : _} → FineAct.Unseen u ≡ FineAct.Shown event more → ⊥
      is-unseen h = subst (λ act. elim act as (λ _. Type 0) [ FineAct.Unseen v ↦ Unit {0} | FineAct.Shown a b ↦ ⊥ ]) h tt
  unseen-more u said (q ∷ todo) at = more q todo at tt refl

  -- no fewer, unless it is recycled, and then the machine has no cleaner of it
  more-beside : (t y : ℕ) (q : Pending) → Beside f m e t y q → recyclers f x ≤ recyclers (later f e) x
  more-beside t y _ (cuts who site before _ todo at place inside said) = more (Todo.look who site before) todo at tt refl
  more-beside t y _ (times_out deadline site _ who todo at place inside said) = more (Todo.handle deadline (Mark.Thread who site)) todo at tt refl
  more-beside t y _ (expires deadline z todo at inside said) = more (Todo.handle deadline (Mark.Timer z)) todo at tt refl
  more-beside t y _ (ticks at said) = as-many at
  more-beside t y _ (leaves todo at said) = more Todo.leave todo at tt refl

  more-then : (s : State) → Leaves f m e s → (recyclers f x ≤ recyclers (later f e) x) ⊎ ((object_at s x).cleaner ≡ None)
  more-then _ (nothing u said) = inl (unseen-more u said p.todo refl)
  more-then _ (event q rest todo n h shown is) = inl (more (Todo.show h.listed rest) todo h.at (last-shown h.listed rest todo h.at) refl)
  more-then _ (resumes c told rest at moved said) = inl (as-many at)
  more-then _ (passes who y rest todo h said) = inl (more (Todo.pass who y) todo h.at tt refl)
  more-then _ (drops from y rest todo h said) = inl (more (Todo.drop y) todo h.at tt refl)
  more-then _ (cleans who y rest todo h said) = inl (more (Todo.clean_pair who y) todo h.at tt refl)
  more-then _ (recycles y rest todo at l said chosen) = by (x == y) refl
    where
      by : (b : Bool) → (x == y) ≡ b → (recyclers f x ≤ recyclers (later f e) x) ⊎ ((slice_index_or (slice_set m.objects y vacant) x vacant).cleaner ≡ None)
      by false k = inl (more (Todo.recycle y) todo at tt k)
      by true k =
          let long = law.sound.wide.objects in
          inr (ap cleaner_of (ap (λ r. slice_index_or (slice_set m.objects r vacant) x vacant) (sym (eqb-true x y k)) ∙ get_or-set_same m.objects x vacant vacant (omega (arith, few, long))))
  more-then _ (beside t y q how chosen started) = inl (more-beside t y q how)

  -- a visit of a permission of the object's thread is made by the processor that recycles it
  cleans-here : OwnRows f.image → (who y : ℕ) (todo : Todos) → p.todo ≡ Todo.clean_pair who y ∷ todo → own_row m.image who ≡ x → 0 < Recs p.todo
  cleans-here own who y todo at mine =
      let blocks = (subst (AreBlocks f.image) at (law.rel.processors e.cpu law.by.named).blocks).0 in
      let z = blocks.0 in
      let same : x ≡ z = sym mine ∙ (ap (λ (i : _). own_row i who) law.rel.image ∙ (own z who blocks.1).0) in
      let list : Recs p.todo ≡ one_if (x == z) + Recs blocks.2.0 = ap Recs at ∙ (ap Recs blocks.2.1 ∙ count-cons (is_recycle x) (Todo.recycle z) blocks.2.0) in
      let one = ap one_if (eq-eqb x z same) in
      omega (arith, list, one)

  most : recyclers f x ≤ 1
  most =
      let c = (law.rel.rows x few).cleaners.cleaner in
      let o = one-most (Plain.is_gone (object_at m x).status && not (is_dying (row f x).stage)) in
      omega (arith, c, o)

  changed-recs : recyclers (later f e) x + Recs p.todo ≡ recyclers f x + Recs now.todo
  changed-recs = over-changed f e (λ z. Recs z.todo) law.by.named

  none-some : {A B : Type 0} {a : A} → None ≡ Some a → B
  none-some h = absurd (false≢true (ap is_some h))

  pub cleaner-part : OwnRows f.image → (s : State) → Leaves f m e s → CleanerIs (later f e) s x
  cleaner-part own s how = record { none = λ h. by h (cleaner-then s how) (more-then s how) }
    where
      by : recyclers (later f e) x ≡ 0 → Cleaner s → (recyclers f x ≤ recyclers (later f e) x) ⊎ ((object_at s x).cleaner ≡ None) → (object_at s x).cleaner ≡ None
      by h c (inr none) = none
      by h (goes none) (inl fewer) = none
      by h (stays same) (inl fewer) = same ∙ (law.rel.rows x few).cleaner.none (omega (arith, h, fewer))
      by h (begins who y todo at mine is) (inl fewer) =
          let here = cleans-here own who y todo at mine in
          let part = part-total (λ j. Recs (f.processors j).todo) f.cpus e.cpu law.by.named in
          absurd (omega (arith, h, fewer, here, part))

  -- the thread that cleans it goes on to run
  same-thread : 0 < Recs p.todo → now.context.thread ≡ p.context.thread
  same-thread some = by p.todo refl
    where
      ends : (q : Todo) (todo : Todos) → p.todo ≡ q ∷ todo → (b : Bool) → is_end q ≡ b → now.context.thread ≡ p.context.thread
      ends q todo at false h = next-thread f.image p e q todo at h
      ends q todo at true h = absurd (last q h at (frame q todo at))
        where
          last : (q : Todo) → is_end q ≡ true → p.todo ≡ q ∷ todo → Behind f.image q todo → ⊥
          last Todo.park h at b = let none : Recs p.todo ≡ 0 = ap Recs (at ∙ ap (λ (z : Todos). Todo.park ∷ z) b) in omega (arith, some, none)
          last Todo.done h at b = let none : Recs p.todo ≡ 0 = ap Recs (at ∙ ap (λ (z : Todos). Todo.done ∷ z) b) in omega (arith, some, none)
          last Todo.paid h at b = let none : Recs p.todo ≡ 0 = ap Recs (at ∙ ap (λ (z : Todos). Todo.paid ∷ z) b) in omega (arith, some, none)
          last q h at b = false≢true h

      by : (todo : Todos) → p.todo ≡ todo → now.context.thread ≡ p.context.thread
      by [] at = let none : Recs p.todo ≡ 0 = ap Recs at in absurd (omega (arith, some, none))
      by (q ∷ todo) at = ends q todo at (is_end q) refl

  begun-mine : OwnRows f.image → (s : State) → Leaves f m e s → (t : ThreadIx) → (object_at s x).cleaner ≡ Some t → 0 < Recs now.todo → now.context.thread ≡ t.0
  begun-mine own s how t is some = by (cleaner-then s how)
    where
      later-most : recyclers (later f e) x ≤ 1
      later-most =
          let c = (cleaners-part f m e law x few s how).cleaner in
          let o = one-most (Plain.is_gone (object_at s x).status && not (is_dying (row (later f e) x).stage)) in
          omega (arith, c, o)

      counts : (n : ℕ) → Recs p.todo ≡ n → (object_at m x).cleaner ≡ Some t → now.context.thread ≡ t.0
      counts zero none same =
          let all = changed-recs in
          let one = later-most in
          none-some (sym ((law.rel.rows x few).cleaner.none (omega (arith, all, one, none, some))) ∙ same)
      counts (suc n) there same =
          let here : 0 < Recs p.todo = omega (arith, there) in
          same-thread here ∙ ((law.rel.processors e.cpu law.by.named).cleaning x few).begun t same here

      by : Cleaner s → now.context.thread ≡ t.0
      by (goes none) = none-some (sym none ∙ is)
      by (stays same) = counts (Recs p.todo) refl (sym same ∙ is)
      by (begins who y todo at mine set) = same-thread (cleans-here own who y todo at mine) ∙ ap (λ (o : Option ThreadIx). (unwrap_or o (to_thread 0)).0) (sym set ∙ is)

  begun-other : OwnRows f.image → (s : State) → Leaves f m e s → (k : ℕ) → k < f.cpus → (e.cpu ≡ k → ⊥) → (t : ThreadIx) → (object_at s x).cleaner ≡ Some t → 0 < Recs (f.processors k).todo
      → (f.processors k).context.thread ≡ t.0
  begun-other own s how k l ne t is some = by (cleaner-then s how)
    where
      by : Cleaner s → (f.processors k).context.thread ≡ t.0
      by (goes none) = none-some (sym none ∙ is)
      by (stays same) = ((law.rel.processors k l).cleaning x few).begun t (sym same ∙ is) some
      by (begins who y todo at mine set) =
          let here = cleans-here own who y todo at mine in
          let both = two-parts (λ j. Recs (f.processors j).todo) f.cpus e.cpu k law.by.named l ne in
          let one = most in
          absurd (omega (arith, here, both, one, some))

  pub begun-part : OwnRows f.image → (s : State) → Leaves f m e s → (k : ℕ) → k < f.cpus → (t : ThreadIx) → (object_at s x).cleaner ≡ Some t → Cleans (later f e) k x
      → ((later f e).processors k).context.thread ≡ t.0
  begun-part own s how k l t is = by (e.cpu == k) refl
    where
      kth : Bool → Processor
      kth b = cond b (p_next f.image (f.processors k) e) (f.processors k)

      Begun : Processor → Type 0
      Begun z = 0 < Recs z.todo → z.context.thread ≡ t.0

      by : (b : Bool) → (e.cpu == k) ≡ b → Begun (kth (e.cpu == k))
      by true q = subst Begun (sym (ap kth q ∙ ap (λ (z : Processor). p_next f.image z e) (sym (ap f.processors (eqb-true e.cpu k q))))) (begun-mine own s how t is)
      by false q = subst Begun (sym (ap kth q)) (begun-other own s how k l (eqb-false e.cpu k q) t is)
