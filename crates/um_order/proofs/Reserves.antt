-- A reservation has the least row that it may choose, since the heap gives the least free address.
use Rattle.std.proofs.Common.{◌≡◌, ◌⊎◌, inl, inr, ℕ, zero, suc, ◌+◌, ◌<◌, ◌≤◌, Bool, true, false, Option, Some, None, refl, sym, ap, ◌∙◌, subst, arith, eq-or-lt_of_le, ne_eqb}
use Rattle.std.specs.Prelude.{◌==◌, if◌then◌else◌, is_some}
use Rattle.std.proofs.lemmas.Bool.{and_parts, false≢true, leb-true, ltb-true, true≢false}
use Rattle.um_base.specs.declared.image.Image.{Image}
use Rattle.um_base.specs.declared.limits.TheConstants.{ROWS, STATIC_ROWS}
use Rattle.um_base.specs.declared.names.Addr.{Addr}
use Rattle.um_base.specs.declared.names.Kind.{Kind}
use Rattle.um_base.specs.declared.names.ThreadIx.{ThreadIx}
use Rattle.um_base.specs.declared.names.Timeout.{Timeout}
use Rattle.um_base.specs.Places.{row_at}
use Rattle.um_machine.specs.declared.pending.Pending.{Pending}
use Rattle.um_machine.specs.Order.{Steps}
use Rattle.um_machine.specs.Run.{MayChoose, is_free_for}
use Rattle.um_machine.specs.State.{State}
use Rattle.um_invariants.specs.NextSteps.{IsLeast, MayTake}
use Rattle.um_fine.specs.Addresses.{address_of, address_or}
use Rattle.um_fine.specs.Answers.{act_in, reserved_in}
use Rattle.um_fine.specs.Asks.{shows}
use Rattle.um_fine.specs.Heap.{Heap, can_pay, is_open, least_open}
use Rattle.um_fine.specs.Places.{Todos}
use Rattle.um_fine.specs.Sites.{SiteState, site_answers}
use Rattle.um_fine.specs.Steps.{FineStep, Site}
use Rattle.um_fine.specs.Answers.{charge_in}
use Rattle.um_refinement.specs.Fine.{Fine, heap}
use Rattle.um_refinement.proofs.HeapSteps.{heap-sort, least-found, open-free}
use Rattle.um_refinement.proofs.Leaves.{Lawful}
use Rattle.um_refinement.proofs.Offered.{IsStep, Shows, act-is, says-at, site-is}
use Rattle.um_refinement.proofs.WordsKept.{IsShown}
use Rattle.um_order.proofs.NextSteps.{ChoosesLeast}

-- the search for a free address finds the least one
least-before : (h : Heap) (kind : Kind) (n x z y : ℕ) → least_open h kind x n ≡ Some z → x ≤ y → y < z → is_open h kind y ≡ false
least-before h kind zero x z y e low less = absurd (false≢true (ap is_some e))
least-before h kind (suc n) x z y e low less = by (is_open h kind x) refl e (least-before h kind n (x + 1) z y)
  where
    first-or-later : (x ≡ y) ⊎ (x < y) → is_open h kind x ≡ false → (x + 1 ≤ y → y < z → is_open h kind y ≡ false) → is_open h kind y ≡ false
    first-or-later (inl s) o more = ap (is_open h kind) (sym s) ∙ o
    first-or-later (inr l) o more = more (omega (arith, l)) less

    by : (b : Bool) → is_open h kind x ≡ b → (if b then Some x else least_open h kind (x + 1) n) ≡ Some z
        → (least_open h kind (x + 1) n ≡ Some z → x + 1 ≤ y → y < z → is_open h kind y ≡ false) → is_open h kind y ≡ false
    by true o e more = let s : x ≡ z = cc in absurd (omega (arith, s, low, less))
    by false o e more = first-or-later (eq-or-lt_of_le low) o (more e)

module _ (f : Fine) (m : State) (e : FineStep) (law : Lawful f m e) (kind : Kind) (rest : Steps) (todo : Todos) (x : ℕ) (h : Shows f m e.cpu e (Pending.Reserve kind) rest todo) (is : IsStep f m e.cpu e x (Pending.Reserve kind)) where
  abbrev t : ℕ
  t = (f.processors e.cpu).context.thread

  answer : (b : Bool) × (reserved_in (act_in e.act) ≡ (if b then address_or f.image (least_open (heap f) kind 0 ROWS) else None))
  answer =
      let act = shows f.image (f.processors e.cpu) (Pending.Reserve kind) e.act in
      let at = heap-sort (f.sites Site.heap) (h.rel.sorts Site.heap) in
      let here = subst (λ (s : SiteState). site_answers f.image s e.moved act ≡ act) at.1 (says-at h Site.heap act (site-is h) (act-is h)) in
      (can_pay (heap f).pools (charge_in e.moved), sym (ap (λ z. reserved_in (act_in z)) here))

  -- the rows that a reservation may choose are dynamic, and no two of them have one address
  dynamic : (y : ℕ) → is_free_for m kind y ≡ true → (STATIC_ROWS ≤ y) × (y < ROWS)
  dynamic y free =
      let both = and_parts _ _ (and_parts _ _ (and_parts _ _ free).0).0 in (leb-true STATIC_ROWS y both.0, ltb-true y ROWS both.1)

  one-row : (y z : ℕ) → (STATIC_ROWS ≤ y) × (y < ROWS) → (STATIC_ROWS ≤ z) × (z < ROWS) → address_of m.image y ≡ address_of m.image z → y ≡ z
  one-row y z ly lz same =
      let sited = law.sound.known.reached.sited in
      let both : Some y ≡ Some z = sym (sited.rows y (inr ly)) ∙ (ap (λ (a : Addr). row_at m.image a.0) same ∙ sited.rows z (inr lz)) in
      cc

  least-is : is_free_for m kind x ≡ true → (y : ℕ) → y < x → is_free_for m kind y ≡ true → ⊥
  least-is free y less other = by answer.0 answer.1
    where
      dx : (STATIC_ROWS ≤ x) × (x < ROWS)
      dx = dynamic x free

      some : (if x == 0 then None else Some (address_of m.image x)) ≡ Some (address_of m.image x)
      some = ap (λ b. if b then None else Some (address_of m.image x)) (ne_eqb x 0 (λ q. let low = dx.0 in absurd (omega (arith, q, low))))

      said : reserved_in (act_in e.act) ≡ Some (address_of f.image x)
      said = ap reserved_in is.says ∙ (some ∙ ap (λ (i : Image). Some (address_of i x)) h.rel.image)

      found : (o : Option ℕ) → least_open (heap f) kind 0 ROWS ≡ o → address_or f.image o ≡ Some (address_of f.image x) → ⊥
      found None l s = false≢true (ap is_some s)
      found (Some z) l s =
          let r = least-found (heap f) kind ROWS 0 z l in
          let few : z < ROWS = let q = r.0 in omega (arith, q) in
          let dz = dynamic z (sym (open-free f m h.rel kind z few) ∙ r.1) in
          let addresses : address_of f.image z ≡ address_of f.image x = cc in
          let same : z ≡ x = one-row z x dz dx (ap (λ (i : Image). address_of i z) h.rel.image ∙ (addresses ∙ ap (λ (i : Image). address_of i x) (sym h.rel.image))) in
          let closed = least-before (heap f) kind ROWS 0 z y l (omega arith) (omega (arith, less, same)) in
          true≢false (sym other ∙ (sym (open-free f m h.rel kind y (let few = dx.1 in omega (arith, less, few))) ∙ closed))

      by : (b : Bool) → reserved_in (act_in e.act) ≡ (if b then address_or f.image (least_open (heap f) kind 0 ROWS) else None) → ⊥
      by true a = found (least_open (heap f) kind 0 ROWS) refl (sym a ∙ said)
      by false a = false≢true (ap is_some (sym a ∙ said))

  pub reserve-least : ChoosesLeast m t x (Pending.Reserve kind)
  reserve-least = ((is.chosen, tt), λ y less may. by is.chosen y less may)
    where
      by : MayChoose m t x (Pending.Reserve kind) → (y : ℕ) → y < x → MayTake m t (Pending.Reserve kind) y → ⊥
      by (inr none) y less may = let at = none.0 in omega (arith, at, less)
      by (inl one) y less may = other may.0
        where
          other : MayChoose m t y (Pending.Reserve kind) → ⊥
          other (inl two) = least-is one.1 y less two.1
          other (inr two) = true≢false (sym one.1 ∙ two.1 one.0 x)

-- the same for any pending step, but for a join, which is shown elsewhere
pub chooses-least : (f : Fine) (m : State) (e : FineStep) (q : Pending) (rest : Steps) (todo : Todos) (x : ℕ) → Lawful f m e → Shows f m e.cpu e q rest todo → IsShown q → IsStep f m e.cpu e x q
    → ((who : ThreadIx) (timeout : Timeout) → q ≡ Pending.Join who timeout → IsLeast m (f.processors e.cpu).context.thread (Pending.Join who timeout) x)
    → ChoosesLeast m (f.processors e.cpu).context.thread x q
chooses-least f m e (Pending.Reserve kind) rest todo x law h shown is joins = reserve-least f m e law kind rest todo x h is
chooses-least f m e (Pending.Join who timeout) rest todo x law h shown is joins = joins who timeout refl
chooses-least f m e q rest todo x law h shown is joins = tt
