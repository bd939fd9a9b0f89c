-- Behind a step that aborts a thread, or goes on with one, its own thread goes on; and that thread is not doomed: nobody is within a call once one is.
use Rattle.std.specs.Prelude.{◌==◌, is_some}
use Rattle.std.proofs.Common.{◌≡◌, ◌≢◌, ◌⊎◌, inl, inr, ℕ, ◌<◌, Bool, true, false, [], ◌∷◌, Some, refl, sym, ap, ◌∙◌, subst}
use Rattle.std.proofs.lemmas.Bool.{eqb-false, eqb-true, false≢true, true≢false}
use Rattle.um_base.specs.declared.act.Act.{Act}
use Rattle.um_base.specs.declared.limits.TheConstants.{THREADS}
use Rattle.um_machine.specs.Order.{Steps}
use Rattle.um_machine.specs.Run.{Offers}
use Rattle.um_machine.specs.Services.{is_empty}
use Rattle.um_machine.specs.State.{State, thread_at}
use Rattle.um_machine.specs.Table as T
use Rattle.um_machine.specs.declared.pending.Pending.{Pending}
use Rattle.um_invariants.proofs.ThreadWords.{is_beside}
use Rattle.um_fine.specs.Answers.{act_in}
use Rattle.um_fine.specs.Continues.{continues}
use Rattle.um_fine.specs.Places.{Todos}
use Rattle.um_fine.specs.Steps.{FineStep}
use Rattle.um_refinement.specs.Fine.{Fine}
use Rattle.um_refinement.proofs.CallsProper.{AreProper, offered-proper}
use Rattle.um_refinement.proofs.Leaves.{Lawful}
use Rattle.um_refinement.proofs.Offered.{Shows, shown-offers, own-part}
use Rattle.um_order.proofs.CallsKept.{AllDoomed, AreCalls, AtMostOne, IsBack, IsDooming, back-settled}
use Rattle.um_order.proofs.CallsMoved.{IsOffered, asks, beside, inner, is_stirring, offered-is, resumes, rises}
use Rattle.um_order.proofs.OneAct.{IsCall, IsSettled, Quiet, is_inner}
use Rattle.um_order.proofs.OneKnown.{stirred}
use Rattle.um_order.proofs.ShownLists.{stirs}
use Rattle.um_order.proofs.Standing.{goes}
use Rattle.um_order.proofs.ThreadsMoved.{DoomsIt, flags-left}

module _ (f : Fine) (m : State) (e : FineStep) (law : Lawful f m e) (proper : AreProper m.image m) (one : AtMostOne m) (calls : AreCalls m) where
  abbrev t : ℕ
  t = (f.processors e.cpu).context.thread

  quiet-goes : (steps : Steps) → Quiet steps → is_empty steps ≡ false → goes steps ≡ true
  quiet-goes [] h k = absurd (true≢false k)
  quiet-goes (Pending.Resume ∷ rest) h k = absurd h
  quiet-goes (q ∷ rest) h k = refl

  -- what is left behind such a step
  record IsStir (q : Pending) (rest : Steps) : Type 0 where
    quiet : Quiet rest
    more : is_empty rest ≡ false
    free : IsSettled (thread_at m t).pending → ⊥

  stir-is : (q : Pending) (rest : Steps) → is_stirring q ≡ true → Offers m t q rest → IsStir q rest
  stir-is q rest stirring offers = by (offered-is m t 0 proper (calls.calls t) q rest offers)
    where
      inner-not : (p : Pending) → is_inner p ≡ true → is_stirring p ≡ true → ⊥
      inner-not (Pending.Abort who) h k = false≢true h
      inner-not (Pending.Suspend who) h k = false≢true h
      inner-not (Pending.Continue who) h k = false≢true h
      inner-not p h k = false≢true k

      beside-not : (p : Pending) → is_beside p ≡ true → is_stirring p ≡ true → ⊥
      beside-not (Pending.Abort who) h k = false≢true h
      beside-not (Pending.Suspend who) h k = false≢true h
      beside-not (Pending.Continue who) h k = false≢true h
      beside-not p h k = false≢true k

      by : IsOffered m t 0 proper (calls.calls t) q rest → IsStir q rest
      by (inner is h g) = absurd (inner-not q is stirring)
      by (asks is h more g) = record { quiet = h; more = more stirring; free = g }
      by (resumes k h) = absurd (false≢true (sym (ap is_stirring k) ∙ stirring))
      by (rises k may there) = absurd (false≢true (sym (ap is_stirring k) ∙ stirring))
      by (beside is) = absurd (beside-not q is stirring)

  stirs-stirring : (q : Pending) (act : Act) → stirs q act ≡ true → is_stirring q ≡ true
  stirs-stirring (Pending.Abort who) act h = refl
  stirs-stirring (Pending.Continue who) act h = refl
  stirs-stirring q act h = absurd (false≢true h)

  pub stir-goes : (q : Pending) (rest : Steps) (todo : Todos) → Shows f m e.cpu e q rest todo → stirs q (act_in e.act) ≡ true
      → goes (continues f.image (f.processors e.cpu).context 0 q rest (act_in e.act) e.moved).pending ≡ true
  stir-goes (Pending.Abort who) rest todo h k = let is = stir-is (Pending.Abort who) rest refl (shown-offers h) in quiet-goes rest is.quiet is.more
  stir-goes (Pending.Continue who) rest todo h k = let is = stir-is (Pending.Continue who) rest refl (shown-offers h) in quiet-goes rest is.quiet is.more
  stir-goes q rest todo h k = absurd (false≢true k)

  -- once one is doomed, nobody makes such a step
  stirs-none : (q : Pending) (rest : Steps) → is_stirring q ≡ true → Offers m t q rest → t < THREADS → (u : ℕ) → (thread_at m u).doomed ≡ true → ⊥
  stirs-none q rest stirring offers few u doomed = by (calls.all u doomed)
    where
      free : IsSettled (thread_at m t).pending → ⊥
      free = (stir-is q rest stirring offers).free

      mine : (from : ℕ) (left : Steps) → (thread_at m t).pending ≡ Pending.Dooms from ∷ left → ⊥
      mine from left k = let none : left ≡ [] = subst IsCall k (calls.calls t) in free (subst IsSettled (sym k) none)

      other : (d from : ℕ) (left : Steps) → d ≢ t → (thread_at m d).pending ≡ Pending.Dooms from ∷ left → ⊥
      other d from left apart k = which (one d t apart)
        where
          which : IsBack (thread_at m d).pending ⊎ IsBack (thread_at m t).pending → ⊥
          which (inl back) = subst IsBack k back
          which (inr back) = free (back-settled (thread_at m t).pending (calls.calls t) back)

      each : (b : Bool) (d from : ℕ) (left : Steps) → (d == t) ≡ b → (thread_at m d).pending ≡ Pending.Dooms from ∷ left → ⊥
      each true d from left same k = mine from left (ap (λ n. (thread_at m n).pending) (sym (eqb-true d t same)) ∙ k)
      each false d from left apart k = other d from left (eqb-false d t apart) k

      by : AllDoomed m ⊎ IsDooming m → ⊥
      by (inl all) = free (calls.stopped t (inr (all t few)))
      by (inr (d, from, left, k)) = each (d == t) d from left refl k

  stirred-none : (q : Pending) (rest : Steps) (todo : Todos) (x u : ℕ) → is_stirring q ≡ true → ((v : ℕ) → DoomsIt v q → ⊥) → Shows f m e.cpu e q rest todo → (thread_at (T.after m t x q rest) u).doomed ≡ false
  stirred-none q rest todo x u stirring quiet h = by (thread_at (T.after m t x q rest) u).doomed refl
    where
      before : ((thread_at m u).doomed ≡ true) ⊎ DoomsIt u q → ⊥
      before (inl doomed) = stirs-none q rest stirring (shown-offers h) (own-part h).index u doomed
      before (inr it) = quiet u it

      by : (b : Bool) → (thread_at (T.after m t x q rest) u).doomed ≡ b → b ≡ false
      by false k = refl
      by true k = absurd (before ((flags-left m t x u q rest).doomed k))

  same-some : (a b : ℕ) → Some a ≡ Some b → a ≡ b
  same-some a b h = cc

  pub stir-who : (q : Pending) (rest : Steps) (todo : Todos) (x u : ℕ) → Shows f m e.cpu e q rest todo → stirred q ≡ Some u
      → (u < THREADS) × ((thread_at (T.after m (f.processors e.cpu).context.thread x q rest) u).doomed ≡ false)
  stir-who (Pending.Abort who) rest todo x u h k = (
    subst (λ n. n < THREADS) (same-some who.0 u k) (offered-proper m t 0 (proper t) (Pending.Abort who) rest (shown-offers h)).0.0,
    stirred-none (Pending.Abort who) rest todo x u refl (λ v it. it) h,
  )
  stir-who (Pending.Continue who) rest todo x u h k = (
    subst (λ n. n < THREADS) (same-some who.0 u k) (offered-proper m t 0 (proper t) (Pending.Continue who) rest (shown-offers h)).0.0,
    stirred-none (Pending.Continue who) rest todo x u refl (λ v it. it) h,
  )
  stir-who q rest todo x u h k = absurd (false≢true (ap is_some k))
