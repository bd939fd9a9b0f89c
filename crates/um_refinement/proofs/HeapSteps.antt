-- A processor's event on the heap is that step of the machine, where the relation holds: a buffer that is taken, and an address that is
-- reserved, the least one that is free for the kind.
use Rattle.um_refinement.proofs.Words.{◌≡◌, ◌⊎◌, inl, inr, ne_eqb, ℕ, zero, suc, ◌+◌, ◌<◌, ◌≤◌, Bool, true, false, Option, Some, None, refl, sym, ap, ◌∙◌, subst, arith, eq-or-lt_of_le, ◌==◌, ◌&&◌, nat_le, nat_lt, IsTrue, if◌then◌else◌, is_some, unwrap_or, and_parts, false≢true, leb-true, lt-ltb, ltb-true, Act, ROWS, STATIC_ROWS, Kind, Pending, Thread, Steps, MayChoose, State, object_at, thread_at, Image, address_of, act_in, charge_in, Exchange, FineStep, Site, Heap, Cell, SiteState, is_sort, site_answers, Todos, shows, Fine, heap, heap_state, Rel, dynamic_kind, is_free_for, address_or, fits_in, reserved_in, can_pay, is_open, least_open}
use Rattle.um_machine.specs.Objects.{is_free, kind_number}
use Rattle.um_machine.specs.Table as T
use Rattle.um_refinement.proofs.Offered.{IsStep, Shows, act-is, machine-step, moved-made, own-same, says-at, site-is}

pub heap-sort : (s : SiteState) → IsTrue (is_sort Site.heap s) → (n : ℕ) × (s ≡ SiteState.cell n (Cell.heap (heap_state s)))
heap-sort (SiteState.cell n (Cell.heap h)) is = (n, refl)
heap-sort s is = absurd (false≢true is)

pub pays-here : (m : State) (pool : Option ℕ) (size : ℕ) → can_pay m.pools (T.cost_of pool size) ≡ T.pays m pool size
pays-here m None size = refl
pays-here m (Some pool) size = refl

pub buffer-step : {f : Fine} {m : State} {k : ℕ} {e : FineStep} {rest : Steps} {todo : Todos} (size : ℕ) → Shows f m k e (Pending.Buffer size) rest todo
    → IsStep f m k e 0 (Pending.Buffer size)
buffer-step {f} {m} {k} {e} {rest} {todo} size h =
    let c = (f.processors k).context in
    let act = shows f.image (f.processors k) (Pending.Buffer size) e.act in
    let at = heap-sort (f.sites Site.heap) (h.rel.sorts Site.heap) in
    let here = subst (λ (s : SiteState). site_answers f.image s e.moved act ≡ act) at.1 (says-at h Site.heap act (site-is h) (act-is h)) in
    let moved : e.moved ≡ Exchange.charge (T.cost_of c.pool size) =
    moved-made h in
    let pool : c.pool ≡ (thread_at m c.thread).pool = ap (λ (z : Thread). z.pool) (own-same h) in
    machine-step h 0 (act-is h) tt
    (ap (Act.Buffer size)
    (sym (ap (λ z. fits_in (act_in z)) here)
    ∙ ((λ i. can_pay (h.rel.heap.pools i) (charge_in (moved i)))
    ∙ (pays-here m c.pool size ∙ ap (λ o. T.pays m o size) pool))))

-- The least free address.

some-same : {x y : ℕ} → Some x ≡ Some y → x ≡ y
some-same {x} h = ap (λ (o : Option ℕ). unwrap_or o x) h

none-some : {y : ℕ} → None ≡ Some y → ⊥
none-some h = false≢true (ap is_some h)

-- what the search finds is free for the kind, and where it finds none, none is
pub least-found : (h : Heap) (kind : Kind) (n x y : ℕ) → least_open h kind x n ≡ Some y → (y < x + n) × (is_open h kind y ≡ true)
least-found h kind zero x y e = absurd (none-some e)
least-found h kind (suc n) x y e = by (is_open h kind x) refl e (least-found h kind n (x + 1) y)
  where
    by : (b : Bool) → is_open h kind x ≡ b → (if b then Some x else least_open h kind (x + 1) n) ≡ Some y
        → (least_open h kind (x + 1) n ≡ Some y → (y < x + 1 + n) × (is_open h kind y ≡ true)) → (y < x + suc n) × (is_open h kind y ≡ true)
    by true o e more = let s = some-same e in (omega (arith, s), ap (is_open h kind) (sym s) ∙ o)
    by false o e more = let r = more e in let l = r.0 in (omega (arith, l), r.1)

pub least-missing : (h : Heap) (kind : Kind) (n x y : ℕ) → least_open h kind x n ≡ None → x ≤ y → y < x + n → is_open h kind y ≡ false
least-missing h kind zero x y e low high = absurd (omega (arith, low, high))
least-missing h kind (suc n) x y e low high = by (is_open h kind x) refl e (least-missing h kind n (x + 1) y)
  where
    first-or-later : (x ≡ y) ⊎ (x < y) → is_open h kind x ≡ false → (x + 1 ≤ y → y < x + 1 + n → is_open h kind y ≡ false) → is_open h kind y ≡ false
    first-or-later (inl s) o more = ap (is_open h kind) (sym s) ∙ o
    first-or-later (inr l) o more = more (omega (arith, l)) (omega (arith, high))

    by : (b : Bool) → is_open h kind x ≡ b → (if b then Some x else least_open h kind (x + 1) n) ≡ None
        → (least_open h kind (x + 1) n ≡ None → x + 1 ≤ y → y < x + 1 + n → is_open h kind y ≡ false) → is_open h kind y ≡ false
    by true o e more = absurd (none-some (sym e))
    by false o e more = first-or-later (eq-or-lt_of_le low) o (more e)

module _ (f : Fine) (m : State) (rel : Rel f m) (kind : Kind) where
  -- an address is free for the kind just where the machine's row is
  free-form : (static kinds free : Bool) → ((static && kinds) && (static && free)) ≡ (((static && true) && kinds) && free)
  free-form true true free = refl
  free-form true false free = refl
  free-form false kinds free = refl

  pub open-free : (x : ℕ) → x < ROWS → is_open (heap f) kind x ≡ is_free_for m kind x
  open-free x few =
      let kinds = kind_number (dynamic_kind x) == kind_number kind in
      ap (λ b. (nat_le STATIC_ROWS x && kinds) && b) (rel.heap.free x few)
      ∙ (free-form (nat_le STATIC_ROWS x) kinds (is_free (object_at m x).status)
      ∙ ap (λ b. ((nat_le STATIC_ROWS x && b) && kinds) && is_free (object_at m x).status) (sym (lt-ltb x ROWS few)))

  -- no row at or behind the last one is free for any kind
  beyond-free : (x : ℕ) → nat_lt x ROWS ≡ false → is_free_for m kind x ≡ false
  beyond-free x past =
      ap (λ b. ((nat_le STATIC_ROWS x && b) && (kind_number (dynamic_kind x) == kind_number kind)) && is_free (object_at m x).status) past
      ∙ blocked (nat_le STATIC_ROWS x)
    where
      blocked : (a : Bool) → (((a && false) && (kind_number (dynamic_kind x) == kind_number kind)) && is_free (object_at m x).status) ≡ false
      blocked true = refl
      blocked false = refl

  none-free : least_open (heap f) kind 0 ROWS ≡ None → (x : ℕ) → is_free_for m kind x ≡ false
  none-free missing x = by (nat_lt x ROWS) refl
    where
      by : (b : Bool) → nat_lt x ROWS ≡ b → is_free_for m kind x ≡ false
      by true few = sym (open-free x (ltb-true x ROWS few)) ∙ least-missing (heap f) kind ROWS 0 x missing (omega arith) (omega (arith, ltb-true x ROWS few))
      by false past = beyond-free x past

module _ {f : Fine} {m : State} {k : ℕ} {e : FineStep} {rest : Steps} {todo : Todos} (kind : Kind) (h : Shows f m k e (Pending.Reserve kind) rest todo) where
  -- the heap reserves where the pool pays
  reserved : reserved_in (act_in e.act)
      ≡ (if T.pays m (thread_at m (f.processors k).context.thread).pool 64 then address_or f.image (least_open (heap f) kind 0 ROWS) else None)
  reserved =
      let c = (f.processors k).context in
      let act = shows f.image (f.processors k) (Pending.Reserve kind) e.act in
      let at = heap-sort (f.sites Site.heap) (h.rel.sorts Site.heap) in
      let here = subst (λ (s : SiteState). site_answers f.image s e.moved act ≡ act) at.1 (says-at h Site.heap act (site-is h) (act-is h)) in
      let moved : e.moved ≡ Exchange.charge (T.cost_of c.pool 64) =
      moved-made h in
      let pool : c.pool ≡ (thread_at m c.thread).pool = ap (λ (z : Thread). z.pool) (own-same h) in
      let pays : can_pay (heap f).pools (charge_in e.moved) ≡ T.pays m (thread_at m c.thread).pool 64 =
      (λ i. can_pay (h.rel.heap.pools i) (charge_in (moved i))) ∙ (pays-here m c.pool 64 ∙ ap (λ o. T.pays m o 64) pool) in
      sym (ap (λ z. reserved_in (act_in z)) here) ∙ ap (λ b. if b then address_or f.image (least_open (heap f) kind 0 ROWS) else None) pays

  -- without an address, where the pool doesn't pay or none is free
  without : reserved_in (act_in e.act) ≡ None → MayChoose m (f.processors k).context.thread 0 (Pending.Reserve kind)
      → (x : ℕ) × IsStep f m k e x (Pending.Reserve kind)
  without said chosen = (0, machine-step h 0 (act-is h) chosen (ap (Act.Reserve kind) said))

  within : (y : ℕ) → reserved_in (act_in e.act) ≡ Some (address_of f.image y) → is_free_for m kind y ≡ true
      → T.pays m (thread_at m (f.processors k).context.thread).pool 64 ≡ true
      → (x : ℕ) × IsStep f m k e x (Pending.Reserve kind)
  within y said free pays =
      let static = leb-true STATIC_ROWS y (and_parts _ _ (and_parts _ _ (and_parts _ _ free).0).0).0 in
      let some : (if y == 0 then None else Some (address_of m.image y)) ≡ Some (address_of m.image y) =
      ap (λ b. if b then None else Some (address_of m.image y)) (ne_eqb y 0 (λ q. absurd (omega (arith, q, static)))) in (
        y,
        machine-step h y (act-is h) (inl (pays, free))
            (ap (Act.Reserve kind) (said ∙ (ap (λ (i : Image). Some (address_of i y)) (sym h.rel.image) ∙ sym some))),
      )

  pub reserve-step : (x : ℕ) × IsStep f m k e x (Pending.Reserve kind)
  reserve-step = by (T.pays m (thread_at m (f.processors k).context.thread).pool 64) refl (least_open (heap f) kind 0 ROWS) refl
    where
      by : (b : Bool) → T.pays m (thread_at m (f.processors k).context.thread).pool 64 ≡ b → (o : Option ℕ) → least_open (heap f) kind 0 ROWS ≡ o
          → (x : ℕ) × IsStep f m k e x (Pending.Reserve kind)
      by false p o l =
          without (reserved ∙ ap (λ b. if b then address_or f.image (least_open (heap f) kind 0 ROWS) else None) p)
          (inr (refl, λ pays. absurd (false≢true (sym p ∙ pays))))
      by true p None l =
          without (reserved ∙ (λ i. if p i then address_or f.image (l i) else None)) (inr (refl, λ pays. none-free f m h.rel kind l))
      by true p (Some y) l =
          let found = least-found (heap f) kind ROWS 0 y l in
          within y (reserved ∙ (λ i. if p i then address_or f.image (l i) else None))
          (sym (open-free f m h.rel kind y (omega (arith, found.0))) ∙ found.1) p
