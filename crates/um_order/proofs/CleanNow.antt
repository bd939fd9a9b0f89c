-- Where no processor has a call's claim to end or an object to clean, no cleaning step is lawful, since each object that is gone is held.
use Rattle.std.proofs.Common.{◌≡◌, ℕ, zero, suc, ◌+◌, ◌<◌, Bool, true, false, List, [], Option, Some, None, refl, sym, ap, ◌∙◌, subst, arith}
use Rattle.std.specs.Prelude.{◌==◌, ◌&&◌, ◌||◌, not, IsTrue, nat_lt, slice_index_or}
use Rattle.std.proofs.lemmas.Bool.{eqb-true, false≢true, ltb-true}
use Rattle.std.proofs.Math.Bool.{or-true}
use Rattle.um_base.specs.declared.image.Image.{Image}
use Rattle.um_base.specs.declared.limits.TheConstants.{ROWS, THREADS}
use Rattle.um_base.specs.declared.names.ThreadIx.{ThreadIx}
use Rattle.um_base.specs.Places.{own_row}
use Rattle.um_machine.specs.declared.object.Object.{Object}
use Rattle.um_machine.specs.declared.pending.Pending.{Pending}
use Rattle.um_machine.specs.Objects as Plain
use Rattle.um_machine.specs.Run.{MayChoose, MayClean}
use Rattle.um_machine.specs.State.{State, object_at, thread_at, vacant}
use Rattle.um_invariants.proofs.Claims.{claims as claims_child}
use Rattle.um_invariants.proofs.Cores.{Call, call_is}
use Rattle.um_invariants.specs.InOrder.{is_cleaning}
use Rattle.um_words.specs.declared.row_word.Stage.{Stage}
use Rattle.um_words.specs.Rows.{is_dying}
use Rattle.um_fine.specs.Context.{Context}
use Rattle.um_fine.specs.Scheduler.{parked_at}
use Rattle.um_refinement.specs.Claims.{call_claims, claims, context_claims, creates}
use Rattle.um_refinement.specs.Fine.{Fine, one_if, over_processors, row, scheduler, total}
use Rattle.um_refinement.specs.Lists.{counted, is_end_call, is_recycle, runs}
use Rattle.um_refinement.specs.Objects.{recyclers}
use Rattle.um_refinement.specs.Offers.{is_over}
use Rattle.um_refinement.specs.Relation.{Rel}
use Rattle.um_refinement.specs.Threads.{IsOf, occurs}
use Rattle.um_refinement.proofs.ChildrenKnown.{AllCreate}
use Rattle.um_refinement.proofs.HeldRows.{some-part, total-zero}
use Rattle.um_refinement.proofs.IdleComplete.{occurs-flagged, one-holds, outside, past}
use Rattle.um_refinement.proofs.Reachable.{IsSound}
use Rattle.um_refinement.proofs.Sums.{one-true}
use Rattle.um_refinement.proofs.ClaimRoom.{child-claims}

-- no processor has a step on its list that ends a call's claim, or that recycles an object
pub record IsClear (f : Fine) : Type 0 where
  pub ends : (k x : ℕ) → k < f.cpus → counted (is_end_call x) (f.processors k).todo ≡ 0
  pub cleans : (k x : ℕ) → k < f.cpus → counted (is_recycle x) (f.processors k).todo ≡ 0

module _ (f : Fine) (m : State) (rel : Rel f m) (sound : IsSound m) (orderly : AllCreate m) (clear : IsClear f) where
  module _ (x : ℕ) (few : x < ROWS) where
    held-by : (t : ℕ) → t < THREADS → Plain.thread_holds m.image x t (thread_at m t) ≡ true → Plain.is_held m x ≡ true
    held-by t l h =
        let many = sound.wide.threads in
        let at : 0 + t ≡ t = omega arith in
        one-holds m.image x 0 m.threads t (omega (arith, many, l)) (subst (λ n. Plain.thread_holds m.image x n (thread_at m t) ≡ true) (sym at) h)

    flag-holds : (t : ℕ) → t < THREADS → slice_index_or (thread_at m t).checked x false ≡ true → Plain.is_held m x ≡ true
    flag-holds t l here = held-by t l (ap (λ b. b || ((thread_at m t).keeps_own && (own_row m.image t == x))) here)

    part-holds : (c : Context) → IsOf f m c → 0 < occurs x c.claims → Plain.is_held m x ≡ true
    part-holds c of some =
        flag-holds c.thread of.index (ap (λ (flags : List Bool). slice_index_or flags x false) of.claims ∙ occurs-flagged x c.claims few some)

    runs-holds : (k : ℕ) → k < f.cpus → 0 < call_claims x (f.processors k) → Plain.is_held m x ≡ true
    runs-holds k l some = by (runs (f.processors k)) refl
      where
        c : Context
        c = (f.processors k).context

        claimed : 0 < occurs x c.claims
        claimed = let none = clear.ends k x l in omega (arith, some, none)

        not-empty : c.claims ≡ [] → ⊥
        not-empty e = let none : occurs x c.claims ≡ 0 = ap (occurs x) e in omega (arith, claimed, none)

        over : (b : Bool) → is_over c ≡ b → runs (f.processors k) ≡ true → Plain.is_held m x ≡ true
        over true o r = absurd (not-empty ((rel.contexts.running k l r).over o))
        over false o r = part-holds c ((rel.contexts.running k l r).of o) claimed

        by : (b : Bool) → runs (f.processors k) ≡ b → Plain.is_held m x ≡ true
        by true r = over (is_over c) refl r
        by false r = absurd (not-empty ((rel.processors k l).idle.idle r))

    parked-holds : (t : ℕ) → (o : Option Context) → parked_at (scheduler f) t ≡ o → 0 < context_claims x o → Plain.is_held m x ≡ true
    parked-holds t None e some = absurd (omega (arith, some))
    parked-holds t (Some c) e some = part-holds c (rel.contexts.parked t c e).0 some

    lives-holds : (t : ℕ) → t < THREADS → ((thread_at m t).keeps_own && (own_row f.image t == x)) ≡ true → Plain.is_held m x ≡ true
    lives-holds t l h =
        let here : ((thread_at m t).keeps_own && (own_row m.image t == x)) ≡ true = ap (λ (i : Image). (thread_at m t).keeps_own && (own_row i t == x)) rel.image ∙ h in
        held-by t l (ap (λ b. slice_index_or (thread_at m t).checked x false || b) here ∙ or-true (slice_index_or (thread_at m t).checked x false))

    child-holds : (t : ℕ) → t < THREADS → (o : Option ThreadIx) → (thread_at m t).child ≡ o → creates f.image x o ≡ true → Plain.is_held m x ≡ true
    child-holds t l None e h = absurd (false≢true h)
    child-holds t l (Some who) e h =
        let claimed = child-claims m.image (thread_at m t).child (thread_at m t).pending who (orderly t) e in
        let checked = sound.known.claimed.held t who.0 (ap (λ (c : Call). claims_child m.image who.0 c.pending) (call_is m t) ∙ claimed) in
        let row : own_row m.image who.0 ≡ x = ap (λ (i : Image). own_row i who.0) rel.image ∙ eqb-true (own_row f.image who.0) x h in
        flag-holds t l
        (ap (λ y. slice_index_or (thread_at m t).checked y false) (sym row) ∙ (sym (ap (λ (c : Call). slice_index_or c.checked (own_row m.image who.0) false) (call_is m t)) ∙ checked))

    -- the object of a row with claims is held
    claimed-held : 0 < claims f m x → Plain.is_held m x ≡ true
    claimed-held some = by (over_processors f (call_claims x)) refl (total parked THREADS) refl (total lives THREADS) refl
      where
        parked : ℕ → ℕ
        parked t = context_claims x (parked_at (scheduler f) t)

        lives : ℕ → ℕ
        lives t = one_if ((thread_at m t).keeps_own && (own_row f.image t == x))

        births : ℕ → ℕ
        births t = one_if (creates f.image x (thread_at m t).child)

        by : (a : ℕ) → over_processors f (call_claims x) ≡ a → (b : ℕ) → total parked THREADS ≡ b → (c : ℕ) → total lives THREADS ≡ c → Plain.is_held m x ≡ true
        by (suc a) ea b eb c ec = let one = some-part (λ k. call_claims x (f.processors k)) f.cpus (omega (arith, ea)) in runs-holds one.0 one.1 one.2
        by zero ea (suc b) eb c ec = let one = some-part parked THREADS (omega (arith, eb)) in parked-holds one.0 (parked_at (scheduler f) one.0) refl one.2
        by zero ea zero eb (suc c) ec = let one = some-part lives THREADS (omega (arith, ec)) in lives-holds one.0 one.1 (one-true _ one.2)
        by zero ea zero eb zero ec =
            let one = some-part births THREADS (omega (arith, some, ea, eb, ec)) in child-holds one.0 one.1 (thread_at m one.0).child refl (one-true _ one.2)

    dying-held : Plain.is_gone (object_at m x).status ≡ true → Plain.is_held m x ≡ true
    dying-held gone = claimed-held (subst (λ n. 0 < n) (rel.rows x few).claims.claimed ((rel.rows x few).claims.dying stage))
      where
        none : recyclers f x ≡ 0
        none = total-zero (λ k. counted (is_recycle x) (f.processors k).todo) f.cpus (λ k l. clear.cleans k x l)

        dies : (b : Bool) → one_if (not b) ≡ 0 → b ≡ true
        dies true h = refl
        dies false h = absurd (omega (arith, h))

        dying : is_dying (row f x).stage ≡ true
        dying =
            dies (is_dying (row f x).stage)
            (ap (λ b. one_if (b && not (is_dying (row f x).stage))) (sym gone) ∙ (sym (rel.rows x few).cleaners.cleaner ∙ none))

        is-dying : (s : Stage) → is_dying s ≡ true → s ≡ Stage.Dying
        is-dying Stage.Free h = absurd (false≢true h)
        is-dying Stage.Live h = absurd (false≢true h)
        is-dying Stage.Dying h = refl
        is-dying Stage.Cleaning h = absurd (false≢true h)

        stage : (row f x).stage ≡ Stage.Dying
        stage = is-dying (row f x).stage dying

  -- no thread may clean an object
  pub none-cleans : (t x : ℕ) → MayClean m t x → ⊥
  none-cleans t x may = by (nat_lt x ROWS) refl
    where
      held : (b : Bool) → b ≡ true → IsTrue (not b) → ⊥
      held true e h = false≢true h
      held false e h = false≢true e

      by : (b : Bool) → nat_lt x ROWS ≡ b → ⊥
      by true e = held (Plain.is_held m x) (dying-held x (ltb-true x ROWS e) may.0) may.1
      by false e =
          let many = sound.wide.objects in
          let more = past x ROWS e in
          false≢true (sym (ap (λ (o : Object). Plain.is_gone o.status) (outside m.objects x vacant (omega (arith, many, more)))) ∙ may.0)

  -- so no step that cleans may be chosen
  pub none-chosen : (t x : ℕ) (q : Pending) → is_cleaning q ≡ true → MayChoose m t x q → ⊥
  none-chosen t x (Pending.CleanPair who) h may = none-cleans t (own_row m.image who.0) may.0
  none-chosen t x Pending.Recycle h may = none-cleans t x may.0
  none-chosen t x q h may = false≢true h
