-- The word of a row counts few claims: those of the calls of at most eight processors, of parked threads, of one life, and of one that is about to
-- begin; and the word of a domain counts a reader a processor at most.
use Rattle.um_refinement.proofs.Words.{◌≡◌, ℕ, ◌<◌, ◌≤◌, Bool, true, false, [], ◌∷◌, length, Option, Some, None, refl, sym, ap, ◌∙◌, subst, arith, eq-eqb, ◌==◌, ◌&&◌, unwrap_or, and_parts, eqb-true, false≢true, Image, ROWS, THREADS, ThreadIx, own_row, thread_of_row, Pending, Steps, State, thread_at, claims, Call, call_at, call_is, core_of, Context, parked_at, call_claims, context_claims, reads, Fine, domain, one_if, row, scheduler, total, runs, Rel, occurs}
use Rattle.um_refinement.specs.Claims.{creates}
use Rattle.um_refinement.proofs.Bounds.{AreBounded}
use Rattle.um_refinement.proofs.CallBounds.{bounded-few}
use Rattle.um_refinement.proofs.ChildSteps.{Creates}
use Rattle.um_refinement.proofs.ChildrenKnown.{AllCreate}
use Rattle.um_refinement.proofs.First.{none-some}
use Rattle.um_refinement.proofs.FirstThreads.{one-most}
use Rattle.um_refinement.proofs.ListEnds.{occurs-few}
use Rattle.um_refinement.proofs.Reachable.{IsSound}
use Rattle.um_refinement.proofs.Totals.{total-each, total-most, total-sole}

same-thread : {v w : ThreadIx} → Some v ≡ Some w → v.0 ≡ w.0
same-thread {v} h = ap (λ (o : Option ThreadIx). (unwrap_or o v).0) h

some-same : {a b : ℕ} → Some a ≡ Some b → a ≡ b
some-same {a} h = ap (λ (o : Option ℕ). unwrap_or o a) h

-- a thread claims the object of its child
pub child-claims : (image : Image) (child : Option ThreadIx) (steps : Steps) (who : ThreadIx) → Creates child steps → child ≡ Some who → claims image who.0 steps ≡ true
child-claims image child (Pending.Inherit w ∷ Pending.Start u script stack priority mode ∷ rest) who h e =
    eq-eqb u.0 who.0 (ap (λ (z : ThreadIx). z.0) h.1 ∙ same-thread (sym h.0 ∙ e))
child-claims image child (Pending.Start u script stack priority mode ∷ rest) who h e = eq-eqb u.0 who.0 (same-thread (sym h.0 ∙ e))
child-claims image child [] who h e = absurd (none-some (sym h.0 ∙ e))
child-claims image child (Pending.Inherit w ∷ rest) who h e = absurd h
child-claims image child (q ∷ rest) who h e = absurd (none-some (sym h.0 ∙ e))

module _ (f : Fine) (m : State) (rel : Rel f m) (sound : IsSound m) (children : AllCreate m) (bounds : AreBounded f) (few : f.cpus ≤ 8) where
  mine-most : (k x : ℕ) → k < f.cpus → call_claims x (f.processors k) ≤ 4
  mine-most k x l =
      let held = held-most (runs (f.processors k)) refl in
      let ends = bounds.ends k x l in
      omega (arith, held, ends)
    where
      held-most : (b : Bool) → runs (f.processors k) ≡ b → occurs x (f.processors k).context.claims ≤ 2
      held-most true e =
          let c = (f.processors k).context in
          let most = occurs-few x c.claims in
          let all = bounded-few f.image (length c.claims) c.pending (bounds.running k l e).steps in
          omega (arith, most, all)
      held-most false e = let none = ap (occurs x) ((rel.processors k l).idle.idle e) in omega (arith, none)

  parked-most : (t x : ℕ) → context_claims x (parked_at (scheduler f) t) ≤ 2
  parked-most t x = by (parked_at (scheduler f) t) refl
    where
      by : (o : Option Context) → parked_at (scheduler f) t ≡ o → context_claims x o ≤ 2
      by None e = omega arith
      by (Some c) e =
          let most = occurs-few x c.claims in
          let all = bounded-few f.image (length c.claims) c.pending (bounds.parked t c e).steps in
          omega (arith, most, all)

  same-owner : (x a b : ℕ) → own_row m.image a ≡ x → own_row m.image b ≡ x → thread_of_row m.image (own_row m.image a) ≡ Some a → thread_of_row m.image (own_row m.image b) ≡ Some b → a ≡ b
  same-owner x a b ea eb ta tb = some-same (sym ta ∙ (ap (thread_of_row m.image) (ea ∙ sym eb) ∙ tb))

  -- one thread keeps an object
  lives-most : (x : ℕ) → total (λ t. one_if ((thread_at m t).keeps_own && (own_row f.image t == x))) THREADS ≤ 1
  lives-most x = total-sole (λ t. (thread_at m t).keeps_own && (own_row f.image t == x)) THREADS sole
    where
      row-is : (t : ℕ) → (own_row f.image t == x) ≡ true → own_row m.image t ≡ x
      row-is t h = ap (λ (i : Image). own_row i t) rel.image ∙ eqb-true (own_row f.image t) x h

      real : (t : ℕ) → (thread_at m t).keeps_own ≡ true → thread_of_row m.image (own_row m.image t) ≡ Some t
      real t h = (sound.known.claimed.real t (ap (λ (call : Call). call.keeps) (call_is m t) ∙ h)).1

      sole : (a b : ℕ) → a < THREADS → b < THREADS → ((thread_at m a).keeps_own && (own_row f.image a == x)) ≡ true → ((thread_at m b).keeps_own && (own_row f.image b == x)) ≡ true → a ≡ b
      sole a b la lb ha hb =
          let pa = and_parts (thread_at m a).keeps_own _ ha in
          let pb = and_parts (thread_at m b).keeps_own _ hb in
          same-owner x a b (row-is a pa.1) (row-is b pb.1) (real a pa.0) (real b pb.0)

  -- one thread creates it
  begins-most : (x : ℕ) → total (λ t. one_if (creates f.image x (thread_at m t).child)) THREADS ≤ 1
  begins-most x = total-sole (λ t. creates f.image x (thread_at m t).child) THREADS sole
    where
      Child : ℕ → Type 0
      Child t = (w : ℕ) × (claims m.image w (call_at (core_of m) t).pending ≡ true) × (own_row m.image w ≡ x)

      child : (t : ℕ) (o : Option ThreadIx) → (thread_at m t).child ≡ o → creates f.image x o ≡ true → Child t
      child t None e h = absurd (false≢true h)
      child t (Some who) e h = (
        who.0,
        ap (λ (call : Call). claims m.image who.0 call.pending) (call_is m t) ∙ child-claims m.image (thread_at m t).child (thread_at m t).pending who (children t) e,
        ap (λ (i : Image). own_row i who.0) rel.image ∙ eqb-true (own_row f.image who.0) x h,
      )

      sole : (a b : ℕ) → a < THREADS → b < THREADS → creates f.image x (thread_at m a).child ≡ true → creates f.image x (thread_at m b).child ≡ true → a ≡ b
      sole a b la lb ha hb =
          let one = child a (thread_at m a).child refl ha in
          let two = child b (thread_at m b).child refl hb in
          let claimed = sound.known.claimed in
          let same = same-owner x one.0 two.0 one.2 two.2 (claimed.claimed a one.0 one.1).1 (claimed.claimed b two.0 two.1).1 in
          claimed.sole a b one.0 one.1 (subst (λ w. claims m.image w (call_at (core_of m) b).pending ≡ true) (sym same) two.1)

  pub claim-room : (x : ℕ) → x < ROWS → (row f x).claims < 127
  claim-room x low =
      let all = (rel.rows x low).claims.claimed in
      let mine = total-each (λ k. call_claims x (f.processors k)) 4 f.cpus (λ k l. mine-most k x l) in
      let parked = total-each (λ t. context_claims x (parked_at (scheduler f) t)) 2 THREADS (λ t l. parked-most t x) in
      let lives = lives-most x in
      let begins = begins-most x in
      omega (arith, all, mine, parked, lives, begins, few)

-- each processor reads a domain once
pub reader-room : (f : Fine) (m : State) → Rel f m → f.cpus ≤ 8 → (d : ℕ) → d < length f.image.domains → (domain f d).readers < 127
reader-room f m rel few d low =
    let all = (rel.domains d low).readers in
    let most = total-most (λ k. one_if (reads d (f.processors k))) f.cpus (λ k l. one-most (reads d (f.processors k))) in
    omega (arith, all, most, few)
