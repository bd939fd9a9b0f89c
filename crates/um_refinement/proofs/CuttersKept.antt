-- In how many places it stands that a thread was cut and isn't taken yet, after a lawful step: in one more where a look has found it, and in none
-- once it is taken; and that it gets ready leaves that.
use Rattle.um_refinement.proofs.Words.{◌≡◌, ℕ, ◌+◌, ◌<◌, Bool, true, false, List, [], ◌∷◌, refl, sym, ap, ◌∙◌, arith, ◌==◌, if◌then◌else◌, slice_index_or, slice_set, eqb-false, eqb-true, true≢false, get_or-set_at, get_or-set_other, THREADS, State, Todo, Todos, Scheduler, first_taken, same_site, FineStep, Fine, Site, one_if, over_processors, scheduler}
use Rattle.um_fine.specs.Asks.{says_turn}
use Rattle.um_fine.specs.Scheduler.{is_cut}
use Rattle.um_refinement.specs.Threads.{cutters}
use Rattle.um_refinement.proofs.Erased.{around}
use Rattle.um_refinement.proofs.Leaves.{Lawful}
use Rattle.um_refinement.proofs.ListCuts.{Cuts, found, next-cuts, takes-cuts}
use Rattle.um_refinement.proofs.MemorySteps.{part-total}
use Rattle.um_refinement.proofs.RunningPart.{idle-after, todo-elsewhere}
use Rattle.um_refinement.proofs.SchedulerSteps.{made-at, made-says, sched-else, sched-later}
use Rattle.um_refinement.proofs.StepReads.{is-behind, is-placed, reads-last}
use Rattle.um_refinement.proofs.Sums.{over-changed}

-- the step by which one that was cut gets ready
abbrev pub tells_cut : Todo → Bool
tells_cut (Todo.tell_cut who) = true
tells_cut q = false

counted-else : (f : Fine) (t : ℕ) (q : Todo) (todo : Todos) → tells_cut q ≡ false → Cuts f.image t (q ∷ todo) ≡ Cuts f.image t todo
counted-else f t (Todo.tell_cut who) todo h = absurd (true≢false h)
counted-else f t q todo h = refl

module _ (f : Fine) (m : State) (e : FineStep) (law : Lawful f m e) where
  open around f e use {later, processor as p, now}

  -- any other step leaves whom the scheduler keeps as cut
  cuts-later : (q : Todo) (todo : Todos) → p.todo ≡ q ∷ todo → tells_cut q ≡ false → (scheduler later).cuts ≡ (scheduler f).cuts
  cuts-later (Todo.tell_cut who) todo at h = absurd (true≢false h)
  cuts-later (Todo.wake who told) todo at h =
      ap (λ (s : Scheduler). s.cuts) (sched-later f m e law (made-at f m e law (Todo.wake who told ∷ todo) at) _ (made-says f m e law (Todo.wake who told ∷ todo) at))
  cuts-later (Todo.add c) todo at h =
      ap (λ (s : Scheduler). s.cuts) (sched-later f m e law (made-at f m e law (Todo.add c ∷ todo) at) _ (made-says f m e law (Todo.add c ∷ todo) at))
  cuts-later Todo.park todo at h =
      ap (λ (s : Scheduler). s.cuts) (sched-later f m e law (made-at f m e law (Todo.park ∷ todo) at) _ (made-says f m e law (Todo.park ∷ todo) at))
  cuts-later Todo.done todo at h =
      ap (λ (s : Scheduler). s.cuts) (sched-later f m e law (made-at f m e law (Todo.done ∷ todo) at) _ (made-says f m e law (Todo.done ∷ todo) at))
  cuts-later Todo.owe todo at h =
      ap (λ (s : Scheduler). s.cuts) (sched-later f m e law (made-at f m e law (Todo.owe ∷ todo) at) _ (made-says f m e law (Todo.owe ∷ todo) at))
  cuts-later Todo.paid todo at h =
      ap (λ (s : Scheduler). s.cuts) (sched-later f m e law (made-at f m e law (Todo.paid ∷ todo) at) _ (made-says f m e law (Todo.paid ∷ todo) at))
  cuts-later q todo at h =
      ap (λ (s : Scheduler). s.cuts)
      (sched-else f m e law (ap (λ i. same_site i Site.scheduler) (made-at f m e law (q ∷ todo) at) ∙ todo-elsewhere f.image p q todo refl (is-placed f m e law q todo at)))

  listed : (t : ℕ) → over_processors later (λ z. Cuts f.image t z.todo) + Cuts f.image t p.todo ≡ over_processors f (λ z. Cuts f.image t z.todo) + Cuts f.image t now.todo
  listed t = over-changed f e (λ z. Cuts f.image t z.todo) law.by.named

  left : (t : ℕ) (q : Todo) (todo : Todos) → p.todo ≡ q ∷ todo → Cuts f.image t now.todo ≡ Cuts f.image t todo + found f.image t e q
  left t q todo at = next-cuts f.image t p e q todo at ((is-behind f m e law).frame q todo at) (reads-last f m e law q todo at)

  -- a look that finds it tells so
  pub cutters-on : (t : ℕ) (q : Todo) (todo : Todos) → p.todo ≡ q ∷ todo → tells_cut q ≡ false → cutters later t ≡ cutters f t + found f.image t e q
  cutters-on t q todo at h =
      let lists = listed t in
      let behind = left t q todo at in
      let here = ap (Cuts f.image t) at ∙ counted-else f t q todo h in
      let kept = ap (λ (cuts : List Bool). one_if (slice_index_or cuts t false)) (cuts-later q todo at h) in
      omega (arith, lists, behind, here, kept)

  told-cuts : (who : ℕ) (todo : Todos) → p.todo ≡ Todo.tell_cut who ∷ todo → (scheduler later).cuts ≡ slice_set (scheduler f).cuts who true
  told-cuts who todo at = ap (λ (s : Scheduler). s.cuts) (sched-later f m e law (made-at f m e law (Todo.tell_cut who ∷ todo) at) _ (made-says f m e law (Todo.tell_cut who ∷ todo) at))

  -- another gets ready
  pub cutters-apart : (who : ℕ) (todo : Todos) → p.todo ≡ Todo.tell_cut who ∷ todo → (t : ℕ) → (who == t) ≡ false → cutters later t ≡ cutters f t
  cutters-apart who todo at t other =
      let lists = listed t in
      let behind = left t (Todo.tell_cut who) todo at in
      let mine : Cuts f.image t p.todo ≡ Cuts f.image t todo = ap (Cuts f.image t) at ∙ ap (λ b. if b then Cuts f.image t todo + 1 else Cuts f.image t todo) other in
      let kept : one_if (is_cut (scheduler later) t) ≡ one_if (is_cut (scheduler f) t) =
      ap (λ (cuts : List Bool). one_if (slice_index_or cuts t false)) (told-cuts who todo at) ∙ ap one_if (get_or-set_other (scheduler f).cuts who t true false (λ same. eqb-false who t other (sym same))) in
      omega (arith, lists, behind, mine, kept)

  -- it gets ready
  pub cutters-told : (who : ℕ) (todo : Todos) → p.todo ≡ Todo.tell_cut who ∷ todo → (t : ℕ) → t < THREADS → cutters later t ≡ cutters f t
  cutters-told who todo at t few = by (who == t) refl
    where
      here : Cuts f.image t p.todo ≡ (if who == t then Cuts f.image t todo + 1 else Cuts f.image t todo)
      here = ap (Cuts f.image t) at

      by : (b : Bool) → (who == t) ≡ b → cutters later t ≡ cutters f t
      by true same =
          let lists = listed t in
          let behind = left t (Todo.tell_cut who) todo at in
          let mine : Cuts f.image t p.todo ≡ Cuts f.image t todo + 1 = here ∙ ap (λ b. if b then Cuts f.image t todo + 1 else Cuts f.image t todo) same in
          let part = part-total (λ k. Cuts f.image t (f.processors k).todo) f.cpus e.cpu law.by.named in
          let once = (law.rel.threads t few).cut.once in
          let long = law.rel.scheduler.cuts in
          let equal = eqb-true who t same in
          let none : one_if (is_cut (scheduler f) t) ≡ 0 = omega (arith, once, part, mine) in
          let set : one_if (is_cut (scheduler later) t) ≡ 1 =
          ap (λ (cuts : List Bool). one_if (slice_index_or cuts t false)) (told-cuts who todo at) ∙ ap one_if (get_or-set_at (scheduler f).cuts who t true false (sym equal) (omega (arith, few, long, equal))) in
          omega (arith, lists, behind, mine, none, set)
      by false other = cutters-apart who todo at t other

  -- a processor without a thread that takes none
  pub cutters-idle : (t : ℕ) → p.todo ≡ [] → e.site ≡ Site.clock → cutters later t ≡ cutters f t
  cutters-idle t at site =
      let lists = listed t in
      let behind = takes-cuts f.image t p e at in
      let here = ap (Cuts f.image t) at in
      let kept = ap (λ (s : Scheduler). one_if (is_cut s t)) (sched-else f m e law (ap (λ i. same_site i Site.scheduler) site)) in
      omega (arith, lists, behind, here, kept)

  module _ (at : p.todo ≡ []) (site : e.site ≡ Site.scheduler) (said : e.act ≡ says_turn f.image p e.moved) (u : ℕ) (ready : List ℕ) (first : (scheduler f).ready ≡ u ∷ ready) where
    taken : (scheduler later).cuts ≡ slice_set (scheduler f).cuts u false
    taken =
        ap (λ (s : Scheduler). s.cuts) (sched-later f m e law site (says_turn f.image p e.moved) said ∙ (idle-after f.image p (scheduler f) e.moved ∙ ap (first_taken (scheduler f)) first))

    lists-same : (t : ℕ) → over_processors later (λ z. Cuts f.image t z.todo) ≡ over_processors f (λ z. Cuts f.image t z.todo)
    lists-same t =
        let lists = listed t in
        let behind = takes-cuts f.image t p e at in
        let here = ap (Cuts f.image t) at in
        omega (arith, lists, behind, here)

    -- or that takes another
    pub cutters-other : (t : ℕ) → (u ≡ t → ⊥) → cutters later t ≡ cutters f t
    cutters-other t ne =
        let lists = lists-same t in
        let kept : one_if (is_cut (scheduler later) t) ≡ one_if (is_cut (scheduler f) t) =
        ap (λ (cuts : List Bool). one_if (slice_index_or cuts t false)) taken ∙ ap one_if (get_or-set_other (scheduler f).cuts u t false false (λ same. ne (sym same))) in
        omega (arith, lists, kept)

    -- that one isn't kept as cut any more
    pub cutters-taken : u < THREADS → cutters later u + one_if (is_cut (scheduler f) u) ≡ cutters f u
    cutters-taken few =
        let lists = lists-same u in
        let long = law.rel.scheduler.cuts in
        let none : one_if (is_cut (scheduler later) u) ≡ 0 =
        ap (λ (cuts : List Bool). one_if (slice_index_or cuts u false)) taken ∙ ap one_if (get_or-set_at (scheduler f).cuts u u false false refl (omega (arith, few, long))) in
        omega (arith, lists, none)
