-- A mark that is cleared next is of a row that isn't free: the call holds the object, as when it takes a creation back; it is the thread's own,
-- which that one claims until then; or it is the stack, which is one of the image's objects.
use Rattle.um_refinement.proofs.Words.{as_thread, own_part, runs, ◌≡◌, ℕ, ◌<◌, Bool, true, false, [], ◌∷◌, length, Some, refl, sym, ap, ◌∙◌, subst, arith, eq-eqb, ◌==◌, ◌&&◌, slice_index_or, unwrap_or, true≢false, Image, ROWS, THREADS, Addr, own_row, row_at, thread_of_addr, Pending, Thread, Steps, is_empty, State, thread_at, claims, Call, call_at, call_is, core_of, status_is, below_rows, is_free, row_named, Context, Todo, Todos, Fine, one_if, row, Fits, IsOffered, Rel, IsOf, IsClearing, Shaped}
use Rattle.um_machine.specs.Objects as Plain
use Rattle.um_refinement.specs.Offers as O
use Rattle.um_refinement.proofs.Bounds.{AreBounded}
use Rattle.um_refinement.proofs.CallBounds.{Bounded, Clears}
use Rattle.um_refinement.proofs.CallSteps.{Proper}
use Rattle.um_refinement.proofs.CallsProper.{AreProper}
use Rattle.um_refinement.proofs.MemorySteps.{part-total}
use Rattle.um_refinement.proofs.Reachable.{IsSound}
use Rattle.um_refinement.proofs.RowStands.{claimed-stands, held-claimed, live-stands}
use Rattle.um_refinement.proofs.StepsLeft.{offered-awake, offered-on}
use Rattle.um_refinement.proofs.Offered.{own-unless, runs-first}

module _ (f : Fine) (m : State) (rel : Rel f m) (proper : AreProper m.image m) (sound : IsSound m) (bounds : AreBounded f) (k : ℕ) (l : k < f.cpus) (a : Addr) (rest : Steps) (todo : Todos)
    (at : (f.processors k).todo ≡ Todo.show (Pending.ClearInit a) rest ∷ todo) where
  abbrev c : Context
  c = (f.processors k).context

  abbrev me : Thread
  me = thread_at m c.thread

  offered : IsOffered f.image c (Pending.ClearInit a) rest
  offered = (subst (Fits f.image c) at (rel.processors k l).list.fits).0

  running : runs (f.processors k) ≡ true
  running = runs-first rel l (Todo.show (Pending.ClearInit a) rest) todo at (λ hand. hand)

  of : IsOf f m c
  of = (rel.contexts.running k l (running)).of (offered-on f.image c (Pending.ClearInit a) rest offered)

  own : as_thread c ≡ own_part me
  own = own-unless of (offered-awake f.image c (Pending.ClearInit a) rest offered refl)

  named : (x : ℕ) → row_at m.image a.0 ≡ Some x → row_named f.image a ≡ x
  named x e = ap (λ (i : Image). row_named i a) (sym rel.image) ∙ ap (λ o. unwrap_or o 0) e

  -- what is known of the steps that are left
  record Left : Type 0 where
    clearing : IsClearing m.image c.thread (call_at (core_of m) c.thread).living (call_at (core_of m) c.thread).checked a rest
    bounded : Clears f.image a rest
    claims-same : (w : ℕ) → claims m.image w (call_at (core_of m) c.thread).pending ≡ claims m.image w (Pending.ClearInit a ∷ rest)
    busy : (call_at (core_of m) c.thread).pending ≡ [] → ⊥

  pending-is : (steps : Steps) → c.pending ≡ steps → (call_at (core_of m) c.thread).pending ≡ steps
  pending-is steps e = ap (λ (call : Call). call.pending) (call_is m c.thread) ∙ (sym (ap (λ (th : Thread). th.pending) own) ∙ e)

  left : IsOffered f.image c (Pending.ClearInit a) rest → Left
  left (O.goes e) =
      let here = pending-is (Pending.ClearInit a ∷ rest) e in
      record {
        clearing = subst (Shaped m.image c.thread (call_at (core_of m) c.thread).living (call_at (core_of m) c.thread).checked) here (sound.known.claimed.shaped c.thread);
        bounded = (subst (Bounded f.image (length c.claims)) e (bounds.running k l (running)).steps).0;
        claims-same = λ w. ap (claims m.image w) here;
        busy = λ none. true≢false (sym (ap is_empty none) ∙ ap is_empty here);
      }
  left (O.passed {who} e) = absurd (subst (Proper m.image me.checked) (sym (ap (λ (th : Thread). th.pending) own) ∙ e) (proper c.thread).0).0
  left (O.dropped {from} e) =
      let here = pending-is (Pending.Drops from ∷ Pending.ClearInit a ∷ rest) e in
      record {
        clearing = subst (Shaped m.image c.thread (call_at (core_of m) c.thread).living (call_at (core_of m) c.thread).checked) here (sound.known.claimed.shaped c.thread);
        bounded = (subst (Bounded f.image (length c.claims)) e (bounds.running k l (running)).steps).0;
        claims-same = λ w. ap (claims m.image w) here;
        busy = λ none. true≢false (sym (ap is_empty none) ∙ ap is_empty here);
      }

  -- its own object, which it claims by its life
  own-stands : Left → row_at m.image a.0 ≡ Some (own_row m.image c.thread) → is_free (row f (row_named f.image a)).stage ≡ false
  own-stands h e = subst (λ x. is_free (row f x).stage ≡ false) (sym (named x e)) (claimed-stands f m rel sound x few some).0
    where
      x : ℕ
      x = own_row m.image c.thread

      keeps : (call_at (core_of m) c.thread).keeps ≡ true
      keeps = by (call_at (core_of m) c.thread).keeps refl
        where
          by : (b : Bool) → (call_at (core_of m) c.thread).keeps ≡ b → b ≡ true
          by true q = refl
          by false q = absurd (h.busy (sound.known.claimed.idle c.thread q))

      few : x < ROWS
      few = below_rows m.image x sound.known.reached.sited (sound.known.claimed.real c.thread keeps).0

      some : 0 < (row f x).claims
      some =
          let part = part-total (λ t. one_if ((thread_at m t).keeps_own && (own_row f.image t == x))) THREADS c.thread of.index in
          let kept : me.keeps_own ≡ true = sym (ap (λ (call : Call). call.keeps) (call_is m c.thread)) ∙ keeps in
          let mine : one_if (me.keeps_own && (own_row f.image c.thread == x)) ≡ 1 = λ i. one_if (kept i && eq-eqb (own_row f.image c.thread) x (ap (λ (im : Image). own_row im c.thread) (sym rel.image)) i) in
          let all = (rel.rows x few).claims.claimed in
          omega (arith, part, mine, all)

  undone-stands : Left → claims m.image (thread_of_addr m.image a.0) (Pending.ClearInit a ∷ rest) ≡ true → row_at m.image a.0 ≡ Some (own_row m.image (thread_of_addr m.image a.0))
      → is_free (row f (row_named f.image a)).stage ≡ false
  undone-stands h mine e =
      let w = thread_of_addr m.image a.0 in
      let x = own_row m.image w in
      let held = sound.known.claimed.held c.thread w (h.claims-same w ∙ mine) in
      let claimed = held-claimed f m rel sound k l (running) (offered-on f.image c (Pending.ClearInit a) rest offered) x
      (ap (λ (call : Call). slice_index_or call.checked x false) (sym (call_is m c.thread)) ∙ held) in
      subst (λ y. is_free (row f y).stage ≡ false) (sym (named x e)) (claimed-stands f m rel sound x claimed.0 claimed.1).0

  stack-stands : row_named f.image a < length f.image.objects → is_free (row f (row_named f.image a)).stage ≡ false
  stack-stands static =
      let x = row_named f.image a in
      let inside = subst (λ (i : Image). x < length i.objects) (sym rel.image) static in
      let some = sound.known.reached.sited.few in
      (live-stands f m rel sound x (omega (arith, inside, some)) (ap Plain.is_live (sym (status_is m x)) ∙ sound.known.reached.static x inside)).0

  pub clears-stand : is_free (row f (row_named f.image a)).stage ≡ false
  clears-stand = by rest refl (left offered)
    where
      by : (steps : Steps) → rest ≡ steps → Left → is_free (row f (row_named f.image a)).stage ≡ false
      by [] e h = own-stands h (subst (IsClearing m.image c.thread (call_at (core_of m) c.thread).living (call_at (core_of m) c.thread).checked a) e h.clearing).1
      by (Pending.Fatal reason cause ∷ more) e h =
          undone-stands h (ap (λ (z : Steps). claims m.image (thread_of_addr m.image a.0) (Pending.ClearInit a ∷ z)) e ∙ eq-eqb (thread_of_addr m.image a.0) (thread_of_addr m.image a.0) refl)
          (subst (IsClearing m.image c.thread (call_at (core_of m) c.thread).living (call_at (core_of m) c.thread).checked a) e h.clearing)
      by (Pending.ClearInit b ∷ more) e h = stack-stands (subst (Clears f.image a) e h.bounded)
      by (q ∷ more) e h = absurd (subst (IsClearing m.image c.thread (call_at (core_of m) c.thread).living (call_at (core_of m) c.thread).checked a) e h.clearing)
