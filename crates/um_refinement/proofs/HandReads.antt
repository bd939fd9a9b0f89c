-- The list of a processor with a mark in its hand has no event of a thread: no move and no message of a queue stand on it. So a processor that has
-- one runs its thread. And a thread that is offered a step is offered it with any number of its note.
use Rattle.um_refinement.proofs.Words.{◌≡◌, ℕ, ◌<◌, Bool, true, false, [], ◌∷◌, Option, Some, None, refl, ap, sym, ◌∙◌, ◌&&◌, not, false≢true, is_some, Addr, Image, Pending, State, Steps, Todo, Todos, Fine, Rel, has_steps}
use Rattle.um_fine.specs.Context.{Context}
use Rattle.um_refinement.specs.Lists.{looked, moving, runs, times}
use Rattle.um_refinement.specs.Offers as O
use Rattle.um_refinement.specs.Offers.{IsOffered}
use Rattle.um_refinement.specs.Timing.{IsHand, IsPaying}

-- something that is read of lists, and that isn't there on those of hands
module _ {A : Type 0} (read : Todos → Option A) (empty : read [] ≡ None) (woken : (who : _) (told : _) (todo : Todos) → read (Todo.wake who told ∷ todo) ≡ read todo)
    (paid : (todo : Todos) → read (Todo.paid ∷ todo) ≡ read todo) (handled : (deadline : ℕ) (mark : _) (todo : Todos) → read (Todo.handle deadline mark ∷ todo) ≡ read todo) where
  paying-none : (todo : Todos) → IsPaying todo → read todo ≡ None
  paying-none [] h = absurd h
  paying-none (Todo.wake who told ∷ todo) h = woken who told todo ∙ paying-none todo h
  paying-none (Todo.paid ∷ todo) h = paid todo ∙ (ap read h ∙ empty)
  paying-none (q ∷ todo) h = absurd h

  hand-none : (todo : Todos) → IsHand todo → read todo ≡ None
  hand-none [] h = absurd h
  hand-none (Todo.handle deadline mark ∷ todo) h = handled deadline mark todo ∙ (ap read h ∙ (paid [] ∙ empty))
  hand-none (q ∷ todo) h = paying-none (q ∷ todo) h

  pub read-runs : {f : Fine} {m : State} {k : ℕ} → Rel f m → k < f.cpus → is_some (read (f.processors k).todo) ≡ true → runs (f.processors k) ≡ true
  read-runs {f} {m} {k} rel l there = by (times (f.processors k).todo) refl
    where
      which : (todo : Todos) → is_some (read todo) ≡ true → has_steps todo ≡ true
      which [] h = absurd (false≢true (sym (ap is_some empty) ∙ h))
      which (q ∷ todo) h = refl

      by : (b : Bool) → times (f.processors k).todo ≡ b → runs (f.processors k) ≡ true
      by true e = absurd (false≢true (sym (ap is_some (hand-none (f.processors k).todo ((rel.processors k l).timer.hand e))) ∙ there))
      by false e = λ i. which (f.processors k).todo there i && not (e i)

pub moving-runs : {f : Fine} {m : State} {k : ℕ} → Rel f m → k < f.cpus → (d : ℕ) → moving (f.processors k).todo ≡ Some d → runs (f.processors k) ≡ true
moving-runs rel l d there = read-runs moving refl (λ who told todo. refl) (λ todo. refl) (λ deadline mark todo. refl) rel l (ap is_some there)

pub looked-runs : {f : Fine} {m : State} {k : ℕ} → Rel f m → k < f.cpus → (a : Addr) → looked (f.processors k).todo ≡ Some a → runs (f.processors k) ≡ true
looked-runs rel l a there = read-runs looked refl (λ who told todo. refl) (λ todo. refl) (λ deadline mark todo. refl) rel l (ap is_some there)

pub offered-noted : (image : Image) (c : Context) (number : ℕ) (q : Pending) (rest : Steps) → IsOffered image (record c { noted = Some number }) q rest → IsOffered image c q rest
offered-noted image c number q rest (O.goes h) = O.goes h
offered-noted image c number q rest (O.passed {who} h) = O.passed {who = who} h
offered-noted image c number q rest (O.dropped {from} h) = O.dropped {from = from} h
offered-noted image c number _ _ (O.begins h on i) = O.begins h on i
offered-noted image c number _ _ (O.exits h on i) = O.exits h on i
