-- What the events ask of the machine's state is so in every state that a run of a described image reaches: edits are of the image's
-- domains, a call works on an object that it holds, only threads that wait are told anything, and who is in no call holds nothing by one.
use Rattle.um_refinement.proofs.Words.{Waiter, times, and_from, arith, not, ◌+◌, ◌==◌, ◌||◌, ◌≤◌, ◌≡◌, ◌≢◌, inl, inr, ℕ, Bool, true, false, List, [], ◌∷◌, length, refl, sym, ap, ◌∙◌, subst, IsTrue, is_some, slice_index_or, false≢true, true≢false, Ask, Image, Addr, IsLawful, Pending, Life, Steps, Offers, opening, State, is_living, thread_at, core_of, IsKnown, row_is, IsDescribed, AreKept, is_resume, waits, Fine, Rel}
use Rattle.um_machine.specs.Table as T
use Rattle.um_machine.specs.State.{is_to_resume, waiters_in}
use Rattle.um_invariants.proofs.ThreadCells.{cell, cell-is, place_of}
use Rattle.um_invariants.specs.Counts.{one_if}
use Rattle.um_invariants.proofs.ThreadRuns.{reached-kept}
use Rattle.um_fine.specs.Seeking.{stands_in}
use Rattle.um_refinement.proofs.WaitersFound.{WaitersWait}
use Rattle.um_refinement.proofs.CallSteps.{Bare, Proper}
use Rattle.um_refinement.proofs.CallsKnown.{RestsHoldNothing}
use Rattle.um_refinement.proofs.CallsProper.{AreProper, Closing, Stands, none-held, offered-proper, proper-run}
use Rattle.um_refinement.proofs.Erased.{IsReachable}
use Rattle.um_refinement.proofs.FirstObjects.{opening-image}
use Rattle.um_refinement.proofs.FirstWaits.{booted-known}
use Rattle.um_refinement.proofs.FirstThreads.{new-thread}
use Rattle.um_refinement.proofs.LawfulSteps.{EditsOne, Suits}
use Rattle.um_refinement.proofs.ResumeSteps.{TellsWaiters}

-- at the opening no thread is in a call
opening-proper : (image : Image) → AreProper (opening image).image (opening image)
opening-proper image u =
    let new = new-thread image u in
    let life = (thread_at (opening image) u).life in
    subst (λ (z : List Bool × Steps). Proper (opening image).image z.0 z.1 × (is_living life ≡ false → Bare z.0 × Closing z.1)) (λ i. (sym new.checked i, sym new.rests i))
    (none-held, λ dead. (none-held, tt))

resume-waits : (steps : Steps) → is_resume steps ≡ true → IsTrue (waits steps)
resume-waits [] h = absurd (false≢true h)
resume-waits (Pending.Resume ∷ rest) h = refl
resume-waits (p ∷ rest) h = absurd (false≢true h)

resumes-so : (steps : Steps) → is_resume steps ≡ true → is_to_resume steps ≡ true
resumes-so [] h = absurd (false≢true h)
resumes-so (Pending.Resume ∷ rest) h = refl
resumes-so (p ∷ rest) h = absurd (false≢true h)

stands-times : (t : ℕ) (ws : List Waiter) → stands_in t ws ≡ true → 1 ≤ times t ws
stands-times t [] h = absurd (false≢true h)
stands-times t (w ∷ ws) h = by (w.thread.0 == t) h (stands-times t ws)
  where
    by : (b : Bool) → (b || stands_in t ws) ≡ true → (stands_in t ws ≡ true → 1 ≤ times t ws) → 1 ≤ one_if b + times t ws
    by true h more = omega arith
    by false h more = let rest = more h in omega (arith, rest)

unliving : (life : Life) → life ≢ Life.Living → is_living life ≡ false
unliving Life.Unborn h = refl
unliving Life.Living h = absurd (h refl)
unliving Life.Ended h = refl

module _ (m : State) (t : ℕ) where
  edits-one : (q : Pending) (rest : Steps) → Stands m t 0 q rest → EditsOne (length m.image.domains) q
  edits-one (Pending.DomInit d parts) rest h = h.0.0
  edits-one (Pending.DomAdd d range attr) rest h = h.0.0
  edits-one (Pending.DomRemove d range attr) rest h = h.0.0
  edits-one q rest h = tt

module _ (image : Image) (cpus : ℕ) (described : IsDescribed image) (known : IsKnown (core_of (opening image))) (m : State) (reach : IsReachable image cpus m) where
  lawful : IsLawful (opening image).image
  lawful = subst IsLawful (sym (opening-image image)) described.lawful

  -- the calls of all threads are proper
  pub proper-known : AreProper m.image m
  proper-known = proper-run (opening image) reach.0 m lawful known (opening-proper image) reach.1

  -- an edit is of one of the image's domains
  pub edits-known : (t : ℕ) (q : Pending) (rest : Steps) → Offers m t q rest → EditsOne (length m.image.domains) q
  edits-known t q rest offers = edits-one m t q rest (offered-proper m t 0 (proper-known t) q rest offers)

  -- a call works on an object that it holds
  pub works-known : (t : ℕ) (a : Addr) (ask : Ask) (rest : Steps) → Offers m t (Pending.Work a ask) rest → slice_index_or (thread_at m t).checked (T.row_of m a) false ≡ true
  works-known t a ask rest offers =
      let names = (offered-proper m t 0 (proper-known t) (Pending.Work a ask) rest offers).0.0 in
      subst (λ n. slice_index_or (thread_at m t).checked n false ≡ true) (sym (row_is m a names.0 names.1)) names.2

  -- who is in no call holds nothing
  pub rests-known : RestsHoldNothing m
  rests-known u x (inl dead) = ((proper-known u).1 (unliving (thread_at m u).life dead)).0 x
  rests-known u x (inr rests) = subst (Proper m.image (thread_at m u).checked) rests (proper-known u).0 x

  -- what holds of the threads that wait
  pub kept-known : AreKept m
  kept-known = reached-kept image described known lawful reach.0 m reach.1

  -- who is told something waits
  pub tells-known : TellsWaiters m
  tells-known t told said = by (is_resume (thread_at m t).pending) refl
    where
      by : (b : Bool) → is_resume (thread_at m t).pending ≡ b → IsTrue (waits (thread_at m t).pending)
      by true e = resume-waits (thread_at m t).pending e
      by false e = absurd (true≢false (ap is_some (sym said ∙ (kept-known.orderly t).told e)))

  -- who stands in a cell goes on once it is woken, and wasn't
  pub waits-known : WaitersWait m
  waits-known c t stands =
      let some : 1 ≤ times t (cell m (place_of c)) = subst (λ ws. 1 ≤ times t ws) (cell-is m c) (stands-times t (waiters_in m c) stands) in
      let is = kept-known.waits (place_of c) t some in
      and_from (is_to_resume (thread_at m t).pending) (not (is_some (thread_at m t).told)) (resumes-so (thread_at m t).pending is.0) (ap (λ o. not (is_some o)) is.1)

  pub suits-known : (f : Fine) → Rel f m → Suits f m
  suits-known f rel =
      record {
        edits = λ t q rest offers. subst (λ (i : Image). EditsOne (length i.domains) q) rel.image (edits-known t q rest offers);
        works = works-known;
        tells = tells-known;
        rests = rests-known;
        proper = proper-known;
        waits = waits-known;
        booted = booted-known image reach.0 m reach.1;
      }
