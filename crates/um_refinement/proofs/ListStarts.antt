-- Which thread a list starts next: one that the steps of the list's own thread claim.
use Rattle.um_refinement.proofs.Words.{◌≡◌, ℕ, true, false, [], ◌∷◌, ◌++◌, Option, Some, None, refl, sym, ap, ◌∙◌, ◌==◌, if◌then◌else◌, is_some, unwrap_or, eq-eqb, false≢true, Image, Amount, Pending, Steps, own_row, row_named, claims, waits, Context, Todo, Todos, fine_steps, Fits, IsOffered, behind_shown}
use Rattle.um_fine.specs.Places.{armed_for, clearing, noted_cell, noting, on_memory, settling}
use Rattle.um_refinement.specs.Frames.{IsActOver, access_alone, access_settled, act_alone, act_settled, starts_one}
use Rattle.um_refinement.specs.Offers as O
use Rattle.um_refinement.specs.Stops.{starts}
use Rattle.um_refinement.proofs.ListTails.{Reads, is_passed}
use Rattle.um_refinement.proofs.StepsLeft.{offered-on}

starts-passed : (q : Todo) (todo : Todos) → is_passed q ≡ true → starts (q ∷ todo) ≡ starts todo
starts-passed (Todo.unshut who) todo h = absurd (false≢true h)
starts-passed (Todo.show q rest) todo h = absurd (false≢true h)
starts-passed q todo h = refl

module _ (image : Image) where
  noted-none : (c : Context) (site : Option ℕ) (todo : Todos) → starts todo ≡ None → starts (noting image c site todo) ≡ None
  noted-none c None todo h = h
  noted-none c (Some site) todo h = elim (is_some c.noted) as (λ b. starts (if b then todo else Todo.note site ∷ todo) ≡ None) [ true ↦ h | false ↦ h ]

  settled-none : (c : Context) (until : Option ℕ) (q : Pending) → starts (settling image c until q) ≡ None
  settled-none c None q = refl
  settled-none c (Some deadline) q = refl

  -- no start is expanded but behind the opening of its thread
  starts-none : (c : Context) (q : Pending) (rest : Steps) → starts (fine_steps image c q rest) ≡ None
  starts-none c (Pending.Probe a (Amount.Bytes n)) rest = refl
  starts-none c (Pending.Probe a (Amount.MessageOf b)) rest = refl
  starts-none c (Pending.CopyIn a (Amount.Bytes n)) rest = refl
  starts-none c (Pending.CopyIn a (Amount.MessageOf b)) rest = refl
  starts-none c (Pending.Work a ask) rest =
      let q = Pending.Work a ask in noted-none c (noted_cell image (q ∷ [])) (Todo.show q rest ∷ settling image c (armed_for image c q) q) (settled-none c (armed_for image c q) q)
  starts-none c (Pending.Join who timeout) rest =
      let q = Pending.Join who timeout in noted-none c (noted_cell image (q ∷ [])) (Todo.show q rest ∷ settling image c (armed_for image c q) q) (settled-none c (armed_for image c q) q)
  starts-none c (Pending.FutexWait a value timeout) rest =
      let q = Pending.FutexWait a value timeout in noted-none c (noted_cell image (q ∷ [])) (on_memory q rest ++ settling image c (armed_for image c q) q) (settled-none c (armed_for image c q) q)
  starts-none c (Pending.Arm ticks) rest = noted-none c (noted_cell image rest) (Todo.owe ∷ Todo.show (Pending.Arm ticks) rest ∷ []) refl
  starts-none c (Pending.ClearInit a) rest =
      elim (row_named image a == own_row image c.thread) as (λ b. starts (clearing image b (Pending.ClearInit a) rest) ≡ None) [ true ↦ refl | false ↦ refl ]
  starts-none c q rest = refl

  -- nor stands one behind an event
  pub behind-none : (c : Context) (q : Pending) → starts (behind_shown image c q) ≡ None
  behind-none c (Pending.Work a ask) = settled-none c (armed_for image c (Pending.Work a ask)) (Pending.Work a ask)
  behind-none c (Pending.Join who timeout) = settled-none c (armed_for image c (Pending.Join who timeout)) (Pending.Join who timeout)
  behind-none c (Pending.FutexWait a value timeout) = settled-none c (armed_for image c (Pending.FutexWait a value timeout)) (Pending.FutexWait a value timeout)
  behind-none c q = refl

  starts-waited : (site : ℕ) (todo : Todos) → IsActOver todo → starts (todo ++ Todo.reread site ∷ []) ≡ starts todo
  starts-waited site _ act_alone = refl
  starts-waited site _ act_settled = refl
  starts-waited site _ access_alone = refl
  starts-waited site _ access_settled = refl

  pub starts-reads : Reads image starts None
  starts-reads = record { empty = refl; passed = starts-passed; expanded = starts-none; begins = refl; exits = refl; waited = starts-waited }

  -- Who is started next on a list is claimed by the steps of its thread.
  offered-claims : (c : Context) (q : Pending) (rest : Steps) (t : ℕ) → starts_one t q ≡ true → IsOffered image c q rest → (claims image t c.pending ≡ true) × (waits c.pending ≡ false)
  offered-claims c (Pending.Start who script stack priority mode) rest t one offered = by offered
    where
      by : IsOffered image c (Pending.Start who script stack priority mode) rest → (claims image t c.pending ≡ true) × (waits c.pending ≡ false)
      by (O.goes e) = (ap (claims image t) e ∙ one, ap waits e)
      by (O.passed e) = (ap (claims image t) e ∙ one, ap waits e)
      by (O.dropped e) = (ap (claims image t) e ∙ one, ap waits e)
  offered-claims c q rest t one offered = absurd (false≢true one)

  pub some-number : {a b : ℕ} → Some a ≡ Some b → a ≡ b
  some-number {a} h = ap (λ (o : Option ℕ). unwrap_or o a) h

  pub list-claims : (c : Context) (t : ℕ) (todo : Todos) → Fits image c todo → starts todo ≡ Some t → (claims image t c.pending ≡ true) × (waits c.pending ≡ false) × (O.is_over c ≡ false)
  list-claims c t [] fits h = absurd (false≢true (ap is_some h))
  list-claims c t (Todo.show q rest ∷ todo) fits h = by q fits h
    where
      by : (q : Pending) → Fits image c (Todo.show q rest ∷ todo) → starts (Todo.show q rest ∷ todo) ≡ Some t → (claims image t c.pending ≡ true) × (waits c.pending ≡ false) × (O.is_over c ≡ false)
      by (Pending.Start who script stack priority mode) fits h =
          let q = Pending.Start who script stack priority mode in
          let one = eq-eqb who.0 t (some-number h) in
          let claim = offered-claims c q rest t one fits.0 in (claim.0, claim.1, offered-on image c q rest fits.0)
      by q fits h = absurd (false≢true (sym (ap is_some (ap starts fits.1 ∙ behind-none c q)) ∙ ap is_some h))
  list-claims c t (Todo.pass who x ∷ todo) fits h = absurd (false≢true (sym (ap is_some (ap starts fits.0.behind ∙ starts-none c fits.0.step fits.0.rest)) ∙ ap is_some h))
  list-claims c t (Todo.drop x ∷ todo) fits h = absurd (false≢true (sym (ap is_some (ap starts fits.behind ∙ starts-none c fits.step fits.rest)) ∙ ap is_some h))
  list-claims c t (Todo.park ∷ todo) fits h = absurd (false≢true (sym (ap is_some (ap starts fits.2)) ∙ ap is_some h))
  list-claims c t (Todo.sleep ∷ todo) fits h = absurd (false≢true (sym (ap is_some (ap starts fits.2)) ∙ ap is_some h))
  list-claims c t (Todo.note site ∷ todo) fits h = list-claims (record c { noted = Some 0 }) t todo (fits 0) h
  list-claims c t (Todo.add d ∷ todo) fits h = list-claims c t todo fits.1 h
  list-claims c t (Todo.leave ∷ todo) fits h = list-claims c t todo fits.1 h
  list-claims c t (Todo.unshut who ∷ todo) fits h = absurd (false≢true (ap is_some h))
  list-claims c t (q ∷ todo) fits h = list-claims c t todo fits h
