-- A thread with a note is in a call: one at rest has none.
use Rattle.um_refinement.proofs.Words.{◌≡◌, inl, inr, ℕ, [], Option, Some, None, refl, subst, State, thread_at, Fine, word}
use Rattle.um_refinement.specs.Stops.{HasNoted, NoteIs}

pub rests-unnoted : (f : Fine) (m : State) (t : ℕ) → NoteIs f m t → (thread_at m t).pending ≡ [] → (word f t).note ≡ None
rests-unnoted f m t is rests = by (word f t).note refl
  where
    none-left : (site : ℕ) → HasNoted f.image site [] → ⊥
    none-left site (inl h) = h
    none-left site (inr h) = h

    by : (o : Option ℕ) → (word f t).note ≡ o → o ≡ None
    by None noted = refl
    by (Some site) noted = absurd (none-left site (subst (HasNoted f.image site) rests (is.call site noted)))
