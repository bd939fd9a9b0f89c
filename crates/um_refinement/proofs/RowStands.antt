-- Rows that are neither free nor in cleaning: those that a call holds, those that are claimed, and those of live objects.
use Rattle.um_refinement.proofs.Words.{◌≡◌, ℕ, zero, suc, ◌<◌, Bool, true, false, List, [], ◌∷◌, length, refl, sym, ap, ◌∙◌, arith, nat_lt, slice_index_or, false≢true, ltb-true, ROWS, State, object_at, thread_at, Call, call_is, Stage, is_cleaning, is_free, Fine, row, runs, is_reserved, recyclers, status_of, vacaters, is_over, Rel, ltb-false}
use Rattle.um_machine.specs.Objects as Plain
use Rattle.um_refinement.proofs.HeldRows.{checked-claimed}
use Rattle.um_refinement.proofs.Reachable.{IsSound}

-- what stands in a list stands before its end
inside-of : (xs : List Bool) (x : ℕ) → slice_index_or xs x false ≡ true → x < length xs
inside-of [] x h = absurd (false≢true h)
inside-of (b ∷ xs) zero h = omega arith
inside-of (b ∷ xs) (suc x) h = let l = inside-of xs x h in omega (arith, l)

module _ (f : Fine) (m : State) (rel : Rel f m) (sound : IsSound m) where
  -- a row that a call holds is claimed
  pub held-claimed : (k : ℕ) → k < f.cpus → runs (f.processors k) ≡ true → is_over (f.processors k).context ≡ false → (x : ℕ)
      → slice_index_or (thread_at m (f.processors k).context.thread).checked x false ≡ true → (x < ROWS) × (0 < (row f x).claims)
  held-claimed k l run on x h =
      let t = (f.processors k).context.thread in
      let wide : length (thread_at m t).checked ≡ ROWS = sym (ap (λ (call : Call). length call.checked) (call_is m t)) ∙ sound.known.reached.wide t in
      let below = inside-of (thread_at m t).checked x h in
      let few : x < ROWS = omega (arith, wide, below) in
      (few, checked-claimed f m rel k x l few run on h)

  -- it is neither free nor in cleaning
  abbrev pub Stands : ℕ → Type 0
  Stands x = (is_free (row f x).stage ≡ false) × (is_cleaning (row f x).stage ≡ false)

  pub claimed-stands : (x : ℕ) → x < ROWS → 0 < (row f x).claims → Stands x
  claimed-stands x few some = by (row f x).stage refl
    where
      by : (s : Stage) → (row f x).stage ≡ s → (is_free s ≡ false) × (is_cleaning s ≡ false)
      by Stage.Free e = let none = (rel.rows x few).claims.free e in absurd (omega (arith, some, none))
      by Stage.Cleaning e = let none = (rel.rows x few).cleaners.unclaimed e in absurd (omega (arith, some, none))
      by Stage.Live e = (refl, refl)
      by Stage.Dying e = (refl, refl)

  -- the row of a live object is live
  pub live-stands : (x : ℕ) → x < ROWS → Plain.is_live (object_at m x).status ≡ true → Stands x
  live-stands x few lives = by (nat_lt (vacaters f x) (recyclers f x)) refl
    where
      stage : (s : Stage) (r : Bool) → Plain.is_live (status_of s r) ≡ true → (is_free s ≡ false) × (is_cleaning s ≡ false)
      stage Stage.Free true h = absurd (false≢true h)
      stage Stage.Free false h = absurd (false≢true h)
      stage Stage.Live r h = (refl, refl)
      stage Stage.Dying r h = absurd (false≢true h)
      stage Stage.Cleaning r h = absurd (false≢true h)

      by : (b : Bool) → nat_lt (vacaters f x) (recyclers f x) ≡ b → Stands x
      by true e = absurd (false≢true (sym (ap Plain.is_live ((rel.rows x few).status.vacated (ltb-true (vacaters f x) (recyclers f x) e)).1) ∙ lives))
      by false e =
          let order = (rel.rows x few).cleaners.order in
          let least = ltb-false (vacaters f x) (recyclers f x) e in
          let status = (rel.rows x few).status.status (omega (arith, order, least)) in
          stage (row f x).stage (is_reserved (object_at m x).status) (ap Plain.is_live (sym status) ∙ lives)
