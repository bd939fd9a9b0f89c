-- What a step of the machine leaves of the steps of the thread that makes it: those of a call, a doom of all, a wait, or what others leave of them.
use Rattle.std.specs.Prelude.{is_some, IsTrue}
use Rattle.std.proofs.Common.{◌≡◌, ◌⊎◌, inl, inr, ℕ, ◌+◌, Bool, true, false, List, [], ◌∷◌, Option, Some, None, refl, sym, ◌∙◌, subst}
use Rattle.std.proofs.lemmas.Bool.{false≢true, true≢false}
use Rattle.um_base.specs.declared.ask.Told.{Told}
use Rattle.um_base.specs.declared.image.Image.{Image}
use Rattle.um_base.specs.declared.instr.Instr.{Instr}
use Rattle.um_machine.specs.Goes.{Change, Next, at_steps, changed, gone, Way, steps_by, without_copy, work_change, work_way}
use Rattle.um_machine.specs.Order.{Steps, to_deadline}
use Rattle.um_machine.specs.Run.{MayChoose, Offers, goes, skips_inherit, skips_drops, begins, exits, leaves, stops, tends, may_go, is_tending}
use Rattle.um_machine.specs.Services.{is_empty}
use Rattle.um_machine.specs.State.{State, instruction_at, thread_at}
use Rattle.um_machine.specs.Table as T
use Rattle.um_machine.specs.Writes.{wrote}
use Rattle.um_machine.specs.declared.pending.Pending.{Pending}
use Rattle.um_machine.specs.declared.thread.Thread.{Thread}
use Rattle.um_machine.proofs.EffectLemmas.{effects_of, next_of}
use Rattle.um_invariants.proofs.ThreadWords.{is_beside}
use Rattle.um_refinement.proofs.CallSteps.{Proper}
use Rattle.um_refinement.proofs.CallsProper.{AreProper}
use Rattle.um_order.proofs.OneAct.{Calls, DoomsNext, IsCall, IsGone, IsSettled, Quiet, calls-closed, calls-steps, gone-left, inner-needs, is_asking, is_inner, quiet-calls, quiet-closed}
use Rattle.um_order.proofs.ThreadsMoved.{IsMoved, IsShort, Shortens, beside-left, own-after}

-- the steps that no call has
abbrev pub is_odd : Pending → Bool
is_odd Pending.Begin = true
is_odd q = is_beside q

pub odd-not : (image : Image) (checked : List Bool) (q : Pending) (rest : Steps) → Proper image checked (q ∷ rest) → is_odd q ≡ true → ⊥
odd-not image checked Pending.Begin rest h odd = absurd h
odd-not image checked Pending.Left rest h odd = absurd h
odd-not image checked (Pending.CleanPair who) rest h odd = absurd h
odd-not image checked Pending.Recycle rest h odd = absurd h
odd-not image checked Pending.Tick rest h odd = absurd h
odd-not image checked (Pending.TimeOut who) rest h odd = absurd h
odd-not image checked Pending.Expire rest h odd = absurd h
odd-not image checked (Pending.Cut who) rest h odd = absurd h
odd-not image checked q rest h odd = false≢true odd

-- an act in a cell
abbrev pub is_act : Pending → Bool
is_act (Pending.Work a ask) = true
is_act (Pending.Join who timeout) = true
is_act (Pending.FutexWait a value timeout) = true
is_act q = false

-- a step that stops a thread, or goes on with one
abbrev pub is_stirring : Pending → Bool
is_stirring (Pending.Abort who) = true
is_stirring (Pending.Suspend who) = true
is_stirring (Pending.Continue who) = true
is_stirring q = false

abbrev pub is_begin : Pending → Bool
is_begin Pending.Begin = true
is_begin q = false

-- from where on all are doomed next
abbrev pub DoomsFrom : Pending → ℕ → Type 0
DoomsFrom (Pending.Dooms before) from = from ≡ before + 1
DoomsFrom (Pending.Fatal reason cause) from = from ≡ 0
DoomsFrom q from = ⊥

-- the steps of a thread behind one that it made
pub data IsNow (s : State) (t : ℕ) (q : Pending) (now : Steps) : Type 0 where
  calls : Calls now → (is_begin q ≡ false → (is_asking q ≡ true) ⊎ IsSettled (thread_at s t).pending → Quiet now) → IsNow s t q now
  dooms : (from : ℕ) → now ≡ Pending.Dooms from ∷ [] → DoomsFrom q from → IsNow s t q now
  waits : (left : Steps) → is_act q ≡ true → now ≡ Pending.Resume ∷ left → Quiet left → IsNow s t q now
  stays : is_beside q ≡ true → (now ≡ (thread_at s t).pending) ⊎ (IsShort now × Shortens t q) → IsNow s t q now

module _ (s : State) (t x : ℕ) (proper : AreProper s.image s) (call : IsCall (thread_at s t).pending) where
  -- what sort of a step the thread makes, and what stands behind it
  pub data IsOffered (q : Pending) (rest : Steps) : Type 0 where
    inner : is_inner q ≡ true → Calls rest → (IsSettled (thread_at s t).pending → Quiet rest) → IsOffered q rest
    asks : is_asking q ≡ true → Quiet rest → (is_stirring q ≡ true → is_empty rest ≡ false) → (IsSettled (thread_at s t).pending → ⊥) → IsOffered q rest
    resumes : q ≡ Pending.Resume → Quiet rest → IsOffered q rest
    rises : q ≡ Pending.Begin → IsTrue (may_go (thread_at s t)) → IsTrue (is_some (instruction_at s.image (thread_at s t).place)) → IsOffered q rest
    beside : is_beside q ≡ true → IsOffered q rest

  later-offered : (q : Pending) (rest : Steps) → Calls (q ∷ rest) → (IsSettled (thread_at s t).pending → Quiet (q ∷ rest)) → is_odd q ≡ false → IsOffered q rest
  later-offered Pending.Begin rest h g o = absurd (true≢false o)
  later-offered Pending.Left rest h g o = absurd (true≢false o)
  later-offered (Pending.CleanPair who) rest h g o = absurd (true≢false o)
  later-offered Pending.Recycle rest h g o = absurd (true≢false o)
  later-offered Pending.Tick rest h g o = absurd (true≢false o)
  later-offered (Pending.TimeOut who) rest h g o = absurd (true≢false o)
  later-offered Pending.Expire rest h g o = absurd (true≢false o)
  later-offered (Pending.Cut who) rest h g o = absurd (true≢false o)
  later-offered Pending.Resume rest h g o = absurd h
  later-offered (Pending.Dooms from) rest h g o = absurd h
  later-offered (Pending.Work a ask) rest h g o = asks refl h (λ k. absurd (false≢true k)) g
  later-offered (Pending.Join who timeout) rest h g o = asks refl h (λ k. absurd (false≢true k)) g
  later-offered (Pending.FutexWait a value timeout) rest h g o = asks refl h (λ k. absurd (false≢true k)) g
  later-offered (Pending.Abort who) rest h g o = asks refl h.0 (λ k. h.1) g
  later-offered (Pending.Suspend who) rest h g o = asks refl h.0 (λ k. h.1) g
  later-offered (Pending.Continue who) rest h g o = asks refl h.0 (λ k. h.1) g
  later-offered q rest h g o = inner refl h g

  first-offered : (q : Pending) (rest : Steps) → IsCall (q ∷ rest) → (IsSettled (thread_at s t).pending → IsSettled (q ∷ rest)) → is_odd q ≡ false → IsOffered q rest
  first-offered Pending.Resume rest h g o = resumes refl h
  first-offered (Pending.Dooms from) rest h g o = inner refl (subst Calls (sym h) tt) (λ k. subst Quiet (sym h) tt)
  first-offered q rest h g o = later-offered q rest h g o

  even : (q : Pending) (rest : Steps) → Proper s.image (thread_at s t).checked (q ∷ rest) → is_odd q ≡ false
  even q rest h = by (is_odd q) refl
    where
      by : (b : Bool) → is_odd q ≡ b → b ≡ false
      by false e = refl
      by true e = absurd (odd-not s.image (thread_at s t).checked q rest h e)

  pub offered-is : (q : Pending) (rest : Steps) → Offers s t q rest → IsOffered q rest
  offered-is q rest offers = by offers
    where
      at : (steps : Steps) → (thread_at s t).pending ≡ steps → Proper s.image (thread_at s t).checked steps
      at steps e = subst (Proper s.image (thread_at s t).checked) e (proper t).0

      by : {q : Pending} {rest : Steps} → Offers s t q rest → IsOffered q rest
      by (goes {p} {rest} e) = first-offered p rest (subst IsCall e call) (subst IsSettled e) (even p rest (at (p ∷ rest) e))
      by (skips_inherit {who} {p} {rest} e due) =
          later-offered p rest (subst IsCall e call) (subst IsSettled e) (even p rest (at (Pending.Inherit who ∷ p ∷ rest) e).1)
      by (skips_drops {from} {p} {rest} e due) = later-offered p rest (subst IsCall e call) (subst IsSettled e) (even p rest (at (Pending.Drops from ∷ p ∷ rest) e))
      by (begins e lives may there) = rises refl may there
      by (exits e lives may there) = inner refl tt (λ k. tt)
      by (stops e lives must) = inner refl tt (λ k. tt)
      by (leaves ends) = beside refl
      by (tends {p} is started) = beside (tending p is)
        where
          tending : (p : Pending) → IsTrue (is_tending p) → is_beside p ≡ true
          tending Pending.Left h = refl
          tending p h = h

  inner-moved : (q : Pending) → is_inner q ≡ true → IsMoved (next_of s t x q)
  inner-moved Pending.Begin h = absurd (false≢true h)
  inner-moved Pending.Resume h = absurd (false≢true h)
  inner-moved (Pending.CleanPair who) h = absurd (false≢true h)
  inner-moved Pending.Recycle h = absurd (false≢true h)
  inner-moved Pending.Left h = absurd (false≢true h)
  inner-moved Pending.Tick h = absurd (false≢true h)
  inner-moved (Pending.TimeOut who) h = absurd (false≢true h)
  inner-moved Pending.Expire h = absurd (false≢true h)
  inner-moved (Pending.Cut who) h = absurd (false≢true h)
  inner-moved q h = tt

  dooms-from : (q : Pending) (from : ℕ) → DoomsNext (next_of s t x q) from → DoomsFrom q from
  dooms-from (Pending.Dooms before) from h = h
  dooms-from (Pending.Fatal reason cause) from h = h
  dooms-from q from h = h

  -- behind an act
  asked-left : (q : Pending) → is_act q ≡ true → (left : Steps) (way : Way) → Quiet left → IsNow s t q (steps_by left way)
  asked-left q act left way h = by way
    where
      quiet : (steps : Steps) → Quiet steps → IsNow s t q steps
      quiet steps k = calls (quiet-calls steps k) (λ other settled. k)

      uncopied : (left : Steps) → Quiet left → Quiet (without_copy left)
      uncopied [] k = k
      uncopied (Pending.CopyOut a ∷ rest) k = k
      uncopied (p ∷ rest) k = k

      deadline-left : (deadline : ℕ) (left : Steps) → Quiet left → Quiet (to_deadline deadline left)
      deadline-left deadline [] k = k
      deadline-left deadline (Pending.Work a ask ∷ rest) k = absurd k
      deadline-left deadline (p ∷ rest) k = k

      by : (way : Way) → IsNow s t q (steps_by left way)
      by Way.rest = quiet left h
      by Way.skips_copy = quiet (without_copy left) (uncopied left h)
      by Way.waits = waits left act refl h
      by (Way.bears a) = quiet _ h
      by (Way.runs_to deadline) = quiet (to_deadline deadline left) (deadline-left deadline left h)
      by (Way.replies reply) = quiet _ tt
      by (Way.fails reason cause) = quiet _ tt
      by (Way.gives_back size reason cause) = quiet _ tt
      by (Way.clears a reason cause) = quiet _ tt

  abbrev Now : Pending → Steps → Type 0
  Now q now = IsNow s t q now

  none-left : (q : Pending) → Now q []
  none-left q = calls tt (λ other settled. tt)

  stirred-left : (q : Pending) (rest : Steps) → Quiet rest → Now q rest
  stirred-left q rest h = calls (quiet-calls rest h) (λ other settled. h)

  asking-now : (q : Pending) (rest : Steps) → is_asking q ≡ true → Quiet rest → Now q (thread_at (T.after s t x q rest) t).pending
  asking-now (Pending.Work a ask) rest is h =
      own-after (Now (Pending.Work a ask)) (none-left (Pending.Work a ask)) t s x (Pending.Work a ask) rest tt
      (changed-now (wrote (effects_of s t x (Pending.Work a ask)) s).image (work_change (T.work_of s t a ask).answer (T.work_of s t a ask).taken)
      (thread_at (wrote (effects_of s t x (Pending.Work a ask)) s) t) (asked-left (Pending.Work a ask) refl rest (work_way (thread_at s t).mode ask (T.work_of s t a ask).answer) h))
    where
      changed-now : (image : Image) (change : Change) (me : Thread) {steps : Steps} → Now (Pending.Work a ask) steps → Now (Pending.Work a ask) (at_steps image (changed change me) steps).pending
      changed-now image Change.nothing me k = k
      changed-now image change me k = k
  asking-now (Pending.Join who timeout) rest is h = own-after (Now (Pending.Join who timeout)) (none-left _) t s x (Pending.Join who timeout) rest tt (asked-left (Pending.Join who timeout) refl rest _ h)
  asking-now (Pending.FutexWait a value timeout) rest is h =
      own-after (Now (Pending.FutexWait a value timeout)) (none-left _) t s x (Pending.FutexWait a value timeout) rest tt (asked-left (Pending.FutexWait a value timeout) refl rest _ h)
  asking-now (Pending.Abort who) rest is h = own-after (Now (Pending.Abort who)) (none-left _) t s x (Pending.Abort who) rest tt (stirred-left _ rest h)
  asking-now (Pending.Suspend who) rest is h = own-after (Now (Pending.Suspend who)) (none-left _) t s x (Pending.Suspend who) rest tt (stirred-left _ rest h)
  asking-now (Pending.Continue who) rest is h = own-after (Now (Pending.Continue who)) (none-left _) t s x (Pending.Continue who) rest tt (stirred-left _ rest h)
  asking-now q rest is h = absurd (false≢true is)

  asks-not : (q : Pending) → is_inner q ≡ true → is_asking q ≡ true → ⊥
  asks-not (Pending.Work a ask) h k = false≢true h
  asks-not (Pending.Join who timeout) h k = false≢true h
  asks-not (Pending.FutexWait a value timeout) h k = false≢true h
  asks-not (Pending.Abort who) h k = false≢true h
  asks-not (Pending.Suspend who) h k = false≢true h
  asks-not (Pending.Continue who) h k = false≢true h
  asks-not q h k = false≢true k

  -- behind a step within a call
  inner-now : (q : Pending) (rest : Steps) → is_inner q ≡ true → Calls rest → (IsSettled (thread_at s t).pending → Quiet rest) → Now q (thread_at (T.after s t x q rest) t).pending
  inner-now q rest is h g =
      own-after (Now q) (none-left q) t s x q rest (inner-moved q is) (both (gone-left Calls calls-closed rest z t next me (inner-needs Calls s t x q rest is h)))
    where
      z : State
      z = wrote (effects_of s t x q) s

      next : Next
      next = next_of s t x q

      me : Thread
      me = thread_at z t

      quiet-then : (steps : Steps) → Calls steps → steps ≡ (gone rest z t next me).pending → (is_asking q ≡ true) ⊎ IsSettled (thread_at s t).pending → Quiet steps
      quiet-then steps k same (inl asking) = absurd (asks-not q is asking)
      quiet-then steps k same (inr settled) = by (gone-left Quiet quiet-closed rest z t next me (inner-needs Quiet s t x q rest is (g settled)))
        where
          by : IsGone Quiet next (gone rest z t next me).pending → Quiet steps
          by (inl quiet) = subst Quiet (sym same) quiet
          by (inr (from, e, by_next)) = absurd (subst Calls (same ∙ e) k)

      both : IsGone Calls next (gone rest z t next me).pending → Now q (gone rest z t next me).pending
      both (inl k) = calls k (λ other settled. quiet-then (gone rest z t next me).pending k refl settled)
      both (inr (from, e, by_next)) = dooms from e (dooms-from q from by_next)

  -- behind a resume, where it was told something
  resumed-now : (rest : Steps) (told : Told) → (thread_at s t).told ≡ Some told → Quiet rest → Now Pending.Resume (thread_at (T.after s t x Pending.Resume rest) t).pending
  resumed-now rest told e h =
      own-after (Now Pending.Resume) (none-left Pending.Resume) t s x Pending.Resume rest (subst (λ (o : Option Told). IsMoved (Next.resumes o)) (sym e) tt)
      (subst (λ (o : Option Told). Now Pending.Resume (gone rest s t (Next.resumes o) me).pending) (sym e) (both (gone-left Quiet quiet-closed rest s t (Next.resumes (Some told)) me h)))
    where
      me : Thread
      me = thread_at s t

      both : IsGone Quiet (Next.resumes (Some told)) (gone rest s t (Next.resumes (Some told)) me).pending → Now Pending.Resume (gone rest s t (Next.resumes (Some told)) me).pending
      both (inl k) = calls (quiet-calls (gone rest s t (Next.resumes (Some told)) me).pending k) (λ other settled. k)
      both (inr (from, f, by_next)) = absurd by_next

  -- behind the begin of a line
  risen-now : (rest : Steps) → IsTrue (is_some (instruction_at s.image (thread_at s t).place)) → Now Pending.Begin (thread_at (T.after s t x Pending.Begin rest) t).pending
  risen-now rest there = by (instruction_at s.image (thread_at s t).place) refl there
    where
      by : (o : Option Instr) → instruction_at s.image (thread_at s t).place ≡ o → IsTrue (is_some o) → Now Pending.Begin (thread_at (T.after s t x Pending.Begin rest) t).pending
      by None e h = absurd (false≢true h)
      by (Some instr) e h =
          own-after (Now Pending.Begin) (none-left Pending.Begin) t s x Pending.Begin rest (subst (λ (o : Option Instr). IsMoved (Next.begins o)) (sym e) tt)
          (subst (λ (o : Option Instr). Now Pending.Begin (gone rest s t (Next.begins o) (thread_at s t)).pending) (sym e)
          (calls (calls-steps s.image t (thread_at s t) instr) (λ other. absurd (true≢false other))))

  beside-now : (q : Pending) (rest : Steps) → is_beside q ≡ true → Now q (thread_at (T.after s t x q rest) t).pending
  beside-now q rest beside_it = stays beside_it (beside-left s t x q rest beside_it).pending

  pub now-is : (q : Pending) (rest : Steps) → Offers s t q rest → MayChoose s t x q → Now q (thread_at (T.after s t x q rest) t).pending
  now-is q rest offers chosen = by (offered-is q rest offers)
    where
      by : IsOffered q rest → Now q (thread_at (T.after s t x q rest) t).pending
      by (inner is h g) = inner-now q rest is h g
      by (asks is h more g) = asking-now q rest is h
      by (resumes e h) =
          let told : MayChoose s t x Pending.Resume = subst (MayChoose s t x) e chosen in
          subst (λ p. Now p (thread_at (T.after s t x p rest) t).pending) (sym e) (resumed-now rest told.0 told.1 h)
      by (rises e may there) = subst (λ p. Now p (thread_at (T.after s t x p rest) t).pending) (sym e) (risen-now rest there)
      by (beside is) = beside-now q rest is
