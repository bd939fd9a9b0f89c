-- What a call holds: its row is claimed, so it is neither free nor in cleaning, and its cell has the object's contents.
use Rattle.um_refinement.proofs.Words.{◌≡◌, ℕ, zero, suc, ◌+◌, ◌<◌, Bool, true, false, List, [], ◌∷◌, replicate, refl, sym, ap, ◌∙◌, subst, arith, ◌==◌, ◌&&◌, not, if◌then◌else◌, slice_index_or, slice_set, eqb-false, false≢true, ROWS, State, object_at, thread_at, Stage, is_dying, is_free, Fine, one_if, row, total, counted, is_recycle, is_wipe, runs, call_claims, is_reserved, recyclers, status_of, vacaters, wipers, is_over, flags_of, occurs, Rel}
use Rattle.um_machine.specs.Objects as Plain
use Rattle.um_refinement.proofs.ListCounts.{cleans-none}
use Rattle.um_refinement.proofs.MemorySteps.{part-total}
use Rattle.um_refinement.proofs.RowSteps.{settled}

-- Flags.

pub none-flagged : (n x : ℕ) → slice_index_or (replicate n false) x false ≡ false
none-flagged zero x = refl
none-flagged (suc n) zero = refl
none-flagged (suc n) (suc x) = none-flagged n x

flag-else : (xs : List Bool) (y x : ℕ) → (y ≡ x → ⊥) → slice_index_or (slice_set xs y true) x false ≡ slice_index_or xs x false
flag-else [] y x ne = refl
flag-else (b ∷ bs) zero zero ne = absurd (ne refl)
flag-else (b ∷ bs) zero (suc x) ne = refl
flag-else (b ∷ bs) (suc y) zero ne = refl
flag-else (b ∷ bs) (suc y) (suc x) ne = flag-else bs y x (λ e. ne (ap suc e))

-- a row that is flagged is claimed
pub flagged-occurs : (x : ℕ) (xs : List ℕ) → slice_index_or (flags_of xs) x false ≡ true → 0 < occurs x xs
flagged-occurs x [] h = absurd (false≢true (sym (none-flagged ROWS x) ∙ h))
flagged-occurs x (y ∷ ys) h = by (x == y) refl (flagged-occurs x ys)
  where
    by : (b : Bool) → (x == y) ≡ b → (slice_index_or (flags_of ys) x false ≡ true → 0 < occurs x ys) → 0 < (if x == y then occurs x ys + 1 else occurs x ys)
    by true e more = subst (λ b. 0 < (if b then occurs x ys + 1 else occurs x ys)) (sym e) (omega arith)
    by false e more =
        subst (λ b. 0 < (if b then occurs x ys + 1 else occurs x ys)) (sym e)
        (more (sym (flag-else (flags_of ys) y x (λ q. eqb-false x y e (sym q))) ∙ h))

pub total-zero : (g : ℕ → ℕ) (n : ℕ) → ((k : ℕ) → k < n → g k ≡ 0) → total g n ≡ 0
total-zero g zero h = refl
total-zero g (suc n) h =
    let before = total-zero g n (λ k l. h k (omega (arith, l))) in
    let last = h n (omega arith) in
    omega (arith, before, last)

-- a sum that isn't zero has a part that isn't
pub some-part : (g : ℕ → ℕ) (n : ℕ) → 0 < total g n → (k : ℕ) × (k < n) × (0 < g k)
some-part g zero h = absurd (omega (arith, h))
some-part g (suc n) h = by (g n) refl (some-part g n)
  where
    by : (p : ℕ) → g n ≡ p → (0 < total g n → (k : ℕ) × (k < n) × (0 < g k)) → (k : ℕ) × (k < suc n) × (0 < g k)
    by zero e more = let r = more (omega (arith, h, e)) in let l = r.1 in (r.0, omega (arith, l), r.2)
    by (suc p) e more = (n, omega arith, omega (arith, e))

module _ (f : Fine) (m : State) (rel : Rel f m) where
  -- what a processor's call holds, and what it has still to end, is claimed in the word
  pub call-claimed : (k x : ℕ) → k < f.cpus → x < ROWS → 0 < call_claims x (f.processors k) → 0 < (row f x).claims
  call-claimed k x l few some =
      let part = part-total (λ j. call_claims x (f.processors j)) f.cpus k l in
      let all = (rel.rows x few).claims.claimed in
      omega (arith, some, part, all)

  -- a row that is claimed is neither free nor in cleaning: nobody vacates it, and nobody recycles its object
  pub claimed-kept : (x : ℕ) → x < ROWS → 0 < (row f x).claims → (vacaters f x ≡ 0) × (recyclers f x ≡ 0)
  claimed-kept x few some = by (row f x).stage refl
    where
      none : (s : Stage) → (row f x).stage ≡ s → is_free s ≡ false → Plain.is_gone (status_of s (is_reserved (object_at m x).status)) && not (is_dying s) ≡ false
          → (vacaters f x ≡ 0) × (recyclers f x ≡ 0)
      none s e free gone =
          let at = settled f m rel x few (ap is_free e ∙ free) in
          let r = rel.rows x few in
          let status = r.status.status at in
          let count : recyclers f x ≡ 0 = r.cleaners.cleaner ∙ ap one_if ((λ i. Plain.is_gone ((status ∙ ap (λ z. status_of z (is_reserved (object_at m x).status)) e) i) && not (is_dying (e i))) ∙ gone) in
          (at ∙ count, count)

      by : (s : Stage) → (row f x).stage ≡ s → (vacaters f x ≡ 0) × (recyclers f x ≡ 0)
      by Stage.Free e = let free = (rel.rows x few).claims.free e in absurd (omega (arith, some, free))
      by Stage.Cleaning e = let free = (rel.rows x few).cleaners.unclaimed e in absurd (omega (arith, some, free))
      by Stage.Live e = none Stage.Live e refl refl
      by Stage.Dying e = none Stage.Dying e refl refl

  -- so its cell has the object's contents
  pub claimed-whole : (x : ℕ) → x < ROWS → 0 < (row f x).claims → wipers f x ≡ recyclers f x
  claimed-whole x few some =
      let none = (claimed-kept x few some).1 in
      total-zero (λ k. counted (is_wipe x) (f.processors k).todo) f.cpus
      (λ k l.
      let part = part-total (λ j. counted (is_recycle x) (f.processors j).todo) f.cpus k l in
      (cleans-none f.image x (f.processors k).todo (rel.processors k l).blocks (omega (arith, part, none))).0)
      ∙ sym none

  -- the row that a thread's call holds is claimed, while it has steps left
  pub checked-claimed : (k x : ℕ) → k < f.cpus → x < ROWS → runs (f.processors k) ≡ true → is_over (f.processors k).context ≡ false
      → slice_index_or (thread_at m (f.processors k).context.thread).checked x false ≡ true → 0 < (row f x).claims
  checked-claimed k x l few running on held =
      let of = (rel.contexts.running k l running).of on in
      let some = flagged-occurs x (f.processors k).context.claims (ap (λ (flags : List Bool). slice_index_or flags x false) (sym of.claims) ∙ held) in
      call-claimed k x l few (omega (arith, some))
