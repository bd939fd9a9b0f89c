-- A thread that is started next isn't shut, after every lawful step: it is opened right before, and only its own end shuts it.
use Rattle.um_refinement.proofs.Words.{◌≡◌, ◌⊎◌, inl, inr, ℕ, ◌<◌, Bool, true, false, cond, [], ◌∷◌, Some, None, refl, sym, ap, ◌∙◌, subst, arith, ◌==◌, is_some, and_parts, eqb-true, false≢true, true≢false, get_or-set_same, slice_index_or, slice_set, THREADS, Image, Pending, Steps, Thread, State, thread_at, to_thread, claims, Call, call_is, waits, FineAct, Unseen, FineStep, Context, Todo, Todos, p_next, Fine, Fits, runs}
use Rattle.um_machine.specs.Joins as Plain
use Rattle.um_fine.specs.Joins.{Joins, is_shut}
use Rattle.um_refinement.specs.Fine.{joins}
use Rattle.um_refinement.specs.Frames.{AreFramed, starts_one}
use Rattle.um_refinement.specs.Offers as O
use Rattle.um_refinement.specs.Stops.{starts}
use Rattle.um_refinement.proofs.CallsProper.{AreProper}
use Rattle.um_refinement.proofs.Erased.{around}
use Rattle.um_refinement.proofs.HandReads.{read-runs}
use Rattle.um_refinement.proofs.LeaveSteps.{leave-ending}
use Rattle.um_refinement.proofs.Leaves.{Lawful, Leaves}
use Rattle.um_refinement.proofs.ListStarts.{behind-none, list-claims, some-number, starts-reads}
use Rattle.um_refinement.proofs.ListTails.{adds-pass, takes-read, whole-read}
use Rattle.um_refinement.proofs.Offered.{own-unless}
use Rattle.um_refinement.proofs.ParkedPart.{joins-later}
use Rattle.um_refinement.proofs.SchedulerSteps.{made-at, made-says}
use Rattle.um_refinement.proofs.ShutDead.{shut-by}
use Rattle.um_refinement.proofs.StepReads.{reads-last}

module _ (f : Fine) (m : State) (e : FineStep) (law : Lawful f m e) (proper : AreProper m.image m) (t : ℕ) (few : t < THREADS) (s : State) (left : Leaves f m e s) where
  open around f e use {later, processor as p, now}

  -- a thread that a running processor's steps claim has no step left
  pub claimed-idle : (k : ℕ) → k < f.cpus → runs (f.processors k) ≡ true → (claims f.image t (f.processors k).context.pending ≡ true) × (waits (f.processors k).context.pending ≡ false) × (O.is_over (f.processors k).context ≡ false)
      → (thread_at m t).pending ≡ []
  claimed-idle k l run claim =
      let c = (f.processors k).context in
      let of = (law.rel.contexts.running k l run).of claim.2 in
      let pending : c.pending ≡ (thread_at m c.thread).pending = ap (λ (z : Thread). z.pending) (own-unless of claim.1) in
      let claimed = law.sound.known.claimed in
      let here : claims m.image t (thread_at m c.thread).pending ≡ true = ap (λ (i : Image). claims i t (thread_at m c.thread).pending) law.rel.image ∙ (ap (claims f.image t) (sym pending) ∙ claim.0) in
      let free = claimed.free c.thread t (ap (λ (z : Call). claims m.image t z.pending) (call_is m c.thread) ∙ here) in
      sym (ap (λ (z : Call). z.pending) (call_is m t)) ∙ claimed.idle t free

  -- who is started next has no step left
  pub no-steps : (k : ℕ) → k < f.cpus → starts (f.processors k).todo ≡ Some t → (thread_at m t).pending ≡ []
  no-steps k l next =
      claimed-idle k l (read-runs starts refl (λ who told todo. refl) (λ todo. refl) (λ deadline mark todo. refl) law.rel l (ap is_some next))
      (list-claims f.image (f.processors k).context t (f.processors k).todo (law.rel.processors k l).list.fits next)

  -- so it doesn't tell of its end
  not-leaving : (k : ℕ) → k < f.cpus → starts (f.processors k).todo ≡ Some t → (todo : Todos) → p.todo ≡ Todo.leave ∷ todo → p.context.thread ≡ t → ⊥
  not-leaving k l next todo at same =
      let ending = leave-ending f m law.rel law.sound proper e.cpu law.by.named e law.by.may law.taken todo at in
      let has = (and_parts (Plain.has_ended (thread_at m p.context.thread).life) (Plain.is_end (thread_at m p.context.thread).pending) ending).1 in
      false≢true (sym (ap (λ n. Plain.is_end (thread_at m n).pending) same ∙ ap Plain.is_end (no-steps k l next)) ∙ has)

  kept-open : (k : ℕ) → k < f.cpus → starts (f.processors k).todo ≡ Some t → is_shut (joins later) t ≡ false
  kept-open k l next = by (is_shut (joins later) t) refl
    where
      open-was : is_shut (joins f) t ≡ false
      open-was = (law.rel.threads t few).shut.begins k l next

      which : (is_shut (joins f) t ≡ true) ⊎ ((todo : Todos) × (p.todo ≡ Todo.leave ∷ todo) × (p.context.thread ≡ t)) → ⊥
      which (inl was) = true≢false (sym was ∙ open-was)
      which (inr (todo, at, same)) = not-leaving k l next todo at same

      by : (b : Bool) → is_shut (joins later) t ≡ b → b ≡ false
      by false q = refl
      by true q = absurd (which (shut-by f m e law proper t few s left q))

  mine-open : starts now.todo ≡ Some t → is_shut (joins later) t ≡ false
  mine-open next = by p.todo refl
    where
      frame : (q : Todo) (todo : Todos) → p.todo ≡ q ∷ todo → AreFramed f.image (q ∷ todo)
      frame q todo at = subst (AreFramed f.image) at (law.rel.processors e.cpu law.by.named).frames

      behind : (q : Todo) (todo : Todos) → p.todo ≡ q ∷ todo → starts todo ≡ Some t
      behind q todo at =
          sym
          (whole-read f.image starts None (starts-reads f.image) (λ z. refl) (λ d z. refl) p e q todo at (adds-pass f.image starts None (starts-reads f.image) (λ c z. refl) q) (frame q todo at).0
          (reads-last f m e law q todo at))
          ∙ next

      none : {A : Type 0} (todo : Todos) → starts todo ≡ None → starts todo ≡ Some t → A
      none todo one two = absurd (false≢true (sym (ap is_some one) ∙ ap is_some two))

      starts-it : (who : ℕ) (q : Pending) (rest : Steps) (c : Context) (todo : Todos) → todo ≡ Todo.show q rest ∷ Todo.let_go ∷ Todo.add c ∷ [] → starts_one who q ≡ true → starts todo ≡ Some t → who ≡ t
      starts-it who (Pending.Start v script stack priority mode) rest c todo at one h = sym (eqb-true v.0 who one) ∙ some-number f.image (sym (ap starts at) ∙ h)
      starts-it who q rest c todo at one h = absurd (false≢true one)

      opened : (who : ℕ) (todo : Todos) → p.todo ≡ Todo.unshut who ∷ todo → is_shut (joins later) t ≡ false
      opened who todo at =
          let (q, rest, c, list, one) = (frame (Todo.unshut who) todo at).0 in
          let same = starts-it who q rest c todo list one (behind (Todo.unshut who) todo at) in
          let long = law.rel.joins.shut in
          ap (λ (j : Joins). is_shut j t) (joins-later f m e law (made-at f m e law (Todo.unshut who ∷ todo) at) (FineAct.Unseen (Unseen.Unshut (to_thread who))) (made-says f m e law (Todo.unshut who ∷ todo) at))
          ∙ (ap (λ n. slice_index_or (slice_set (joins f).shut n false) t true) same ∙ get_or-set_same (joins f).shut t false true (omega (arith, few, long)))

      by : (todo : Todos) → p.todo ≡ todo → is_shut (joins later) t ≡ false
      by [] at = none now.todo (takes-read f.image starts None (starts-reads f.image) p e at) next
      by (Todo.show q rest ∷ todo) at =
          none todo (ap starts (subst (Fits f.image p.context) at (law.rel.processors e.cpu law.by.named).list.fits).1 ∙ behind-none f.image p.context q) (behind (Todo.show q rest) todo at)
      by (Todo.unshut who ∷ todo) at = opened who todo at
      by (q ∷ todo) at = kept-open e.cpu law.by.named (ap starts at ∙ behind q todo at)

  pub begins-part : (k : ℕ) → k < f.cpus → starts (later.processors k).todo ≡ Some t → is_shut (joins later) t ≡ false
  begins-part k l = by (e.cpu == k) refl
    where
      by : (b : Bool) → (e.cpu == k) ≡ b → starts (cond b (p_next f.image (f.processors k) e) (f.processors k)).todo ≡ Some t → is_shut (joins later) t ≡ false
      by true q next = mine-open (subst (λ j. starts (p_next f.image (f.processors j) e).todo ≡ Some t) (sym (eqb-true e.cpu k q)) next)
      by false q next = kept-open k l next
