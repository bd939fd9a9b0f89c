-- The heap has the machine's pools, costs and free addresses after every lawful step.
use Rattle.um_refinement.proofs.Words.{◌≡◌, inl, inr, ℕ, zero, suc, ◌+◌, ◌<◌, ◌≤◌, Bool, true, false, List, ◌∷◌, length, Option, Some, None, refl, sym, ap, ◌∙◌, subst, arith, eq-eqb, ◌==◌, ◌&&◌, not, if◌then◌else◌, nat_le, slice_index_or, slice_set, unwrap_or, and_parts, eqb-false, eqb-true, leb-true, ltb-true, get_or-set_other, get_or-set_same, length-set, Act, Event, Image, ROWS, STATIC_ROWS, Kind, addr_of, own_row, Object, Pending, Thread, Steps, to_addr, to_thread, MayChoose, State, object_at, thread_at, vacant, with_object, IsRow, is_dying, FineAct, More, address_of, row_named, act_in, charge_in, moves, Heap, Todo, Todos, FineStep, Site, Fine, heap, row, counted, is_recycle, is_wipe, AreBlocks, HeapIs, and-false, Cost, le_is, fits_in, reserved_in, cost_at, heap_after, paid, ne_eqb}
use Rattle.um_machine.specs.declared.object.Status.TheVariants as Status
use Rattle.um_machine.specs.Objects as Plain
use Rattle.um_machine.specs.Table as T
use Rattle.um_refinement.proofs.FirstThreads.{one-most}
use Rattle.um_refinement.proofs.Erased.{around}
use Rattle.um_refinement.proofs.Leaves.{Beside, Lawful, Leaves, acting, beside, cleans, cuts, drops, event, expires, leaves, maker, mine, nothing, passes, recycles, resumes, ticks, times_out}
use Rattle.um_refinement.proofs.ListCounts.{cleans-none}
use Rattle.um_refinement.proofs.MemorySteps.{part-total}
use Rattle.um_refinement.proofs.ObjectsKept.{NoBirths, NoStatuses, born-reserved, drop-free, gone-dynamic, gone-row, lasting-kept, paired-live, row-again, set-kept, status-kept}
use Rattle.um_fine.specs.Asks.{moves_show, site_by}
use Rattle.um_refinement.proofs.Offered.{IsStep, Shows, moved-made, own-same, shown-offers, site-is}
use Rattle.um_refinement.proofs.PoolsKept.{heap-put, heap-still, paid-same, pools-same, unbuffer-pools, heap-untouched}
use Rattle.um_refinement.proofs.Quiet.{heap-quiet}
use Rattle.um_refinement.proofs.WordsKept.{IsShown}
use Rattle.um_refinement.proofs.Writes.{Lasting, Makes, with_cleaner, after_saying, reserved-is, reserved-objects}

-- two lists are written alike in one place
pub both-set : {A B : Type 0} (g : B → A) (xs : List A) (ys : List B) (x y : ℕ) (a c : A) (b d : B) → x < length xs → x < length ys → a ≡ g b
    → slice_index_or xs y c ≡ g (slice_index_or ys y d) → slice_index_or (slice_set xs x a) y c ≡ g (slice_index_or (slice_set ys x b) y d)
both-set g xs ys x y a c b d l k e was = by (y == x) refl
  where
    by : (n : Bool) → (y == x) ≡ n → slice_index_or (slice_set xs x a) y c ≡ g (slice_index_or (slice_set ys x b) y d)
    by true q =
        ap (λ n. slice_index_or (slice_set xs x a) n c) (eqb-true y x q)
        ∙ (get_or-set_same xs x a c l ∙ (e ∙ (ap g (sym (get_or-set_same ys x b d k)) ∙ ap (λ n. g (slice_index_or (slice_set ys x b) n d)) (sym (eqb-true y x q)))))
    by false q =
        get_or-set_other xs x y a c (eqb-false y x q) ∙ (was ∙ ap g (sym (get_or-set_other ys x y b d (eqb-false y x q))))

module _ (f : Fine) (m : State) (e : FineStep) (law : Lawful f m e) where
  open around f e use {later}

  -- the heap is left, but for what its pools have, and so is what objects cost and which rows are free
  left-alone : (s : State) → (heap later).costs ≡ (heap f).costs → (heap later).free ≡ (heap f).free → (heap later).pools ≡ s.pools
      → ((y : ℕ) → (object_at s y).cost ≡ (object_at m y).cost) → ((y : ℕ) → Plain.is_free (object_at s y).status ≡ Plain.is_free (object_at m y).status) → HeapIs later s
  left-alone s costs free pools cost status =
      record {
        pools = pools;
        cost = λ y l. ap (λ (all : List (Option Cost)). slice_index_or all y None) costs ∙ (law.rel.heap.cost y l ∙ sym (cost y));
        free = λ y l. ap (λ (all : List Bool). slice_index_or all y false) free ∙ (law.rel.heap.free y l ∙ ap (λ b. nat_le STATIC_ROWS y && b) (sym (status y)));
        costs = ap length costs ∙ law.rel.heap.costs;
        frees = ap length free ∙ law.rel.heap.frees;
      }

  -- the heap is left altogether
  untouched : (s : State) → heap later ≡ heap f → s.pools ≡ m.pools → ((y : ℕ) → (object_at s y).cost ≡ (object_at m y).cost)
      → ((y : ℕ) → Plain.is_free (object_at s y).status ≡ Plain.is_free (object_at m y).status) → HeapIs later s
  untouched s same pools cost status =
      left-alone s (ap (λ (h : Heap). h.costs) same) (ap (λ (h : Heap). h.free) same) (ap (λ (h : Heap). h.pools) same ∙ (law.rel.heap.pools ∙ sym pools)) cost status

  named-again : (x : ℕ) → IsRow m.image x → row_named f.image (address_of f.image x) ≡ x
  named-again x row =
      ap (λ (i : Image). row_named i (address_of i x)) (sym law.rel.image) ∙ ap (λ (o : Option ℕ). unwrap_or o 0) (row-again m law.sound x row)

  in-costs : {n : ℕ} → n < ROWS → n < length (heap f).costs
  in-costs l = let long = law.rel.heap.costs in omega (arith, l, long)

  in-objects : {n : ℕ} → n < ROWS → n < length m.objects
  in-objects l = let long = law.sound.wide.objects in omega (arith, l, long)

  in-frees : {n : ℕ} → n < ROWS → n < length (heap f).free
  in-frees l = let long = law.rel.heap.frees in omega (arith, l, long)

  -- an address is marked as free or taken, as the object is that is written there
  free-set : (x y : ℕ) → x < ROWS → y < ROWS → (b : Bool) (o : Object) → b ≡ (nat_le STATIC_ROWS x && Plain.is_free o.status)
      → slice_index_or (slice_set (heap f).free x b) y false ≡ (nat_le STATIC_ROWS y && Plain.is_free (slice_index_or (slice_set m.objects x o) y vacant).status)
  free-set x y few l b o same = by (y == x) refl
    where
      by : (n : Bool) → (y == x) ≡ n
          → slice_index_or (slice_set (heap f).free x b) y false ≡ (nat_le STATIC_ROWS y && Plain.is_free (slice_index_or (slice_set m.objects x o) y vacant).status)
      by true q =
          subst (λ n. slice_index_or (slice_set (heap f).free x b) n false ≡ (nat_le STATIC_ROWS n && Plain.is_free (slice_index_or (slice_set m.objects x o) n vacant).status)) (sym (eqb-true y x q))
          (get_or-set_same (heap f).free x b false (in-frees few)
          ∙ (same ∙ sym (ap (λ (z : Object). nat_le STATIC_ROWS x && Plain.is_free z.status) (get_or-set_same m.objects x o vacant (in-objects few)))))
      by false q =
          get_or-set_other (heap f).free x y b false (eqb-false y x q)
          ∙ (law.rel.heap.free y l ∙ ap (λ (z : Object). nat_le STATIC_ROWS y && Plain.is_free z.status) (sym (get_or-set_other m.objects x y o vacant (eqb-false y x q))))

  -- an event of a pending step on the heap

  put : {q : Pending} {rest : Steps} {todo : Todos} → Shows f m e.cpu e q rest todo → (act : Act) → e.act ≡ FineAct.Shown (record { thread = to_thread (mine f m e); act = act }) More.Nothing
      → e.site ≡ Site.heap → heap later ≡ heap_after f.image (heap f) act e.moved
  put h act said site = heap-put f m law.rel e _ More.Nothing said site

  moved-is : {q : Pending} {rest : Steps} {todo : Todos} → Shows f m e.cpu e q rest todo → e.moved ≡ moves_show f.image (maker f m e) q rest e.moved
  moved-is h = moved-made h

  pool-is : {q : Pending} {rest : Steps} {todo : Todos} → Shows f m e.cpu e q rest todo → (maker f m e).context.pool ≡ (thread_at m (mine f m e)).pool
  pool-is h = ap (λ (z : Thread). z.pool) (own-same h)

  on-buffer : (size : ℕ) (rest : Steps) (todo : Todos) (x : ℕ) → Shows f m e.cpu e (Pending.Buffer size) rest todo → IsStep f m e.cpu e x (Pending.Buffer size)
      → HeapIs later (T.after m (mine f m e) x (Pending.Buffer size) rest)
  on-buffer size rest todo x h is =
      by (T.pays m (thread_at m (mine f m e)).pool size)
      (put h (Act.Buffer size (fits_in (act_in e.act))) is.said (site-is h) ∙ ap (λ act. heap_after f.image (heap f) act e.moved) is.says)
    where
      me : Thread
      me = thread_at m (mine f m e)

      by : (b : Bool) → heap later ≡ heap_after f.image (heap f) (Act.Buffer size b) e.moved
          → HeapIs later (after_saying m (mine f m e) x (Pending.Buffer size) (Act.Buffer size b) rest)
      by true now =
          left-alone (after_saying m (mine f m e) x (Pending.Buffer size) (Act.Buffer size true) rest) (ap (λ (z : Heap). z.costs) now) (ap (λ (z : Heap). z.free) now)
          (ap (λ (z : Heap). z.pools) now
          ∙ ((λ i. paid (law.rel.heap.pools i) (charge_in (moved-is h i)))
          ∙ (paid-same (maker f m e).context.pool size m.pools ∙ ap (λ o. T.paid_from o size m.pools) (pool-is h))))
          (λ y. refl) (λ y. refl)
      by false now = untouched (after_saying m (mine f m e) x (Pending.Buffer size) (Act.Buffer size false) rest) now refl (λ y. refl) (λ y. refl)

  on-unbuffer : (size : ℕ) (rest : Steps) (todo : Todos) (x : ℕ) → Shows f m e.cpu e (Pending.Unbuffer size) rest todo → IsStep f m e.cpu e x (Pending.Unbuffer size)
      → HeapIs later (T.after m (mine f m e) x (Pending.Unbuffer size) rest)
  on-unbuffer size rest todo x h is =
      let now = put h (Act.Unbuffer size) is.said (site-is h) in
      left-alone (T.after m (mine f m e) x (Pending.Unbuffer size) rest) (ap (λ (z : Heap). z.costs) now) (ap (λ (z : Heap). z.free) now) (unbuffer-pools size x h) (λ y. refl) (λ y. refl)

  -- an object that costs what its pool pays stands at an address that was free
  reserved-at : (kind : Kind) (rest : Steps) (todo : Todos) (x : ℕ) → STATIC_ROWS ≤ x → x < ROWS → Shows f m e.cpu e (Pending.Reserve kind) rest todo
      → heap later ≡ heap_after f.image (heap f) (Act.Reserve kind (Some (to_addr (addr_of m.image x)))) e.moved
      → HeapIs later (with_object (record m { pools = T.paid_from (thread_at m (mine f m e)).pool 64 m.pools }) x
      (record vacant { kind = Some kind; status = Status.Reserved; cost = T.cost_of (thread_at m (mine f m e)).pool 64 }))
  reserved-at kind rest todo x static few h now =
      let me = thread_at m (mine f m e) in
      let o = record vacant { kind = Some kind; status = Status.Reserved; cost = T.cost_of me.pool 64 } in
      let charge : charge_in e.moved ≡ T.cost_of me.pool 64 = ap charge_in (moved-is h) ∙ ap (λ p. T.cost_of p 64) (pool-is h) in
      let costs : (heap later).costs ≡ slice_set (heap f).costs x (charge_in e.moved) = ap (λ (z : Heap). z.costs) now ∙ ap (λ n. slice_set (heap f).costs n (charge_in e.moved)) place in
      let free : (heap later).free ≡ slice_set (heap f).free x false = ap (λ (z : Heap). z.free) now ∙ ap (λ n. slice_set (heap f).free n false) place in
      record {
        pools = ap (λ (z : Heap). z.pools) now
            ∙ ((λ i. paid (law.rel.heap.pools i) (charge_in (moved-is h i)))
            ∙ (paid-same (maker f m e).context.pool 64 m.pools ∙ ap (λ p. T.paid_from p 64 m.pools) (pool-is h)));
        cost = λ y l.
            ap (λ (all : List (Option Cost)). slice_index_or all y None) costs
            ∙ both-set (λ (z : Object). z.cost) (heap f).costs m.objects x y (charge_in e.moved) None o vacant (in-costs few) (in-objects few) charge (law.rel.heap.cost y l);
        free = λ y l.
            ap (λ (all : List Bool). slice_index_or all y false) free ∙ free-set x y few l false o (sym (and-false (nat_le STATIC_ROWS x)));
        costs = ap length costs ∙ (length-set (heap f).costs x (charge_in e.moved) ∙ law.rel.heap.costs);
        frees = ap length free ∙ (length-set (heap f).free x false ∙ law.rel.heap.frees);
      }
    where
      place : row_named f.image (to_addr (addr_of m.image x)) ≡ x
      place = ap (λ (i : Image). row_named f.image (to_addr (addr_of i x))) law.rel.image ∙ named-again x (inr (static, few))

  on-reserve : (kind : Kind) (rest : Steps) (todo : Todos) (x : ℕ) → Shows f m e.cpu e (Pending.Reserve kind) rest todo → IsStep f m e.cpu e x (Pending.Reserve kind)
      → HeapIs later (T.after m (mine f m e) x (Pending.Reserve kind) rest)
  on-reserve kind rest todo x h is =
      by x is.chosen (put h (Act.Reserve kind (reserved_in (act_in e.act))) is.said (site-is h) ∙ ap (λ act. heap_after f.image (heap f) act e.moved) is.says)
    where
      some-not : {n : ℕ} → suc n ≡ 0 → ⊥
      some-not q = omega (arith, q)

      same-heap : (s s2 : State) → s2.pools ≡ s.pools → s2.objects ≡ s.objects → HeapIs later s → HeapIs later s2
      same-heap s s2 pools objects k =
          record {
            pools = k.pools ∙ sym pools;
            cost = λ y l. k.cost y l ∙ ap (λ (os : List Object). (slice_index_or os y vacant).cost) (sym objects);
            free = λ y l. k.free y l ∙ ap (λ (os : List Object). nat_le STATIC_ROWS y && Plain.is_free (slice_index_or os y vacant).status) (sym objects);
            costs = k.costs;
            frees = k.frees;
          }

      by : (n : ℕ) → MayChoose m (mine f m e) n (Pending.Reserve kind)
          → heap later ≡ heap_after f.image (heap f) (Act.Reserve kind (if n == 0 then None else Some (to_addr (addr_of m.image n)))) e.moved
          → HeapIs later (T.after m (mine f m e) n (Pending.Reserve kind) rest)
      by zero chosen now = untouched (T.after m (mine f m e) 0 (Pending.Reserve kind) rest) now refl (λ y. refl) (λ y. refl)
      by (suc n) (inr none) now = absurd (some-not none.0)
      by (suc n) (inl pays) now =
          let place = and_parts _ _ (and_parts _ _ (and_parts _ _ pays.1).0).0 in
          same-heap _ (T.after m (mine f m e) (suc n) (Pending.Reserve kind) rest) (ap (λ (s : State). s.pools) (reserved-is m (mine f m e) n kind rest)) (reserved-objects m (mine f m e) n kind rest)
          (reserved-at kind rest todo (suc n) (leb-true STATIC_ROWS (suc n) place.0) (ltb-true (suc n) ROWS place.1) h
          (now ∙ ap (λ b. heap_after f.image (heap f) (Act.Reserve kind (if b then None else Some (to_addr (addr_of m.image (suc n))))) e.moved) (ne_eqb (suc n) 0 (λ q. some-not q))))

  -- an object that is recycled gives back what it and its buffer cost
  on-recycle : (x : ℕ) (rest : Steps) (todo : Todos) → (maker f m e).todo ≡ Todo.recycle x ∷ todo → x < ROWS
      → e.act ≡ FineAct.Shown (record { thread = to_thread (mine f m e); act = Act.Recycle (address_of f.image x) }) More.Nothing
      → MayChoose m (mine f m e) x Pending.Recycle → HeapIs later (T.after m (mine f m e) x Pending.Recycle rest)
  on-recycle x rest todo at few said chosen =
      record {
        pools = ap (λ (z : Heap). z.pools) now
            ∙ (λ i. T.paid_back (charged i) (T.paid_back ((ap (cost_at (heap f)) place ∙ law.rel.heap.cost x few) i) (law.rel.heap.pools i)));
        cost = λ y l.
            ap (λ (all : List (Option Cost)). slice_index_or all y None) costs
            ∙ both-set (λ (z : Object). z.cost) (heap f).costs m.objects x y None None vacant vacant (in-costs few) (in-objects few) refl (law.rel.heap.cost y l);
        free = λ y l.
            ap (λ (all : List Bool). slice_index_or all y false) free
            ∙ free-set x y few l true vacant (sym (ap (λ b. b && true) (le_is STATIC_ROWS x (gone-dynamic m law.sound x chosen.0.0))));
        costs = ap length costs ∙ (length-set (heap f).costs x None ∙ law.rel.heap.costs);
        frees = ap length free ∙ (length-set (heap f).free x true ∙ law.rel.heap.frees);
      }
    where
      now : heap later ≡ heap_after f.image (heap f) (Act.Recycle (address_of f.image x)) e.moved
      now =
          heap-put f m law.rel e _ More.Nothing said
          (sym (ap (λ (s : FineStep). s.site) law.by.may.makes) ∙ ap (λ (z : Todos). site_by f.image (maker f m e) z e.act) at)

      place : row_named f.image (address_of f.image x) ≡ x
      place = named-again x (gone-row m law.sound x chosen.0.0)

      costs : (heap later).costs ≡ slice_set (heap f).costs x None
      costs = ap (λ (z : Heap). z.costs) now ∙ ap (λ n. slice_set (heap f).costs n None) place

      free : (heap later).free ≡ slice_set (heap f).free x true
      free = ap (λ (z : Heap). z.free) now ∙ ap (λ n. slice_set (heap f).free n true) place

      mine-left : counted (is_recycle x) (maker f m e).todo ≡ counted (is_recycle x) todo + 1
      mine-left = ap (counted (is_recycle x)) at ∙ ap (λ b. if b then counted (is_recycle x) todo + 1 else counted (is_recycle x) todo) (eq-eqb x x refl)

      -- it is no longer to be cleared
      cleared : counted (is_wipe x) (maker f m e).todo ≡ 0
      cleared =
          let part = part-total (λ j. counted (is_recycle x) (f.processors j).todo) f.cpus e.cpu law.by.named in
          let one = (law.rel.rows x few).cleaners.cleaner in
          let most = one-most (Plain.is_gone (object_at m x).status && not (is_dying (row f x).stage)) in
          let here = mine-left in
          ap (counted (is_wipe x)) at
          ∙ (cleans-none f.image x todo (subst (AreBlocks f.image) at (law.rel.processors e.cpu law.by.named).blocks) (omega (arith, part, one, most, here))).0

      charged : charge_in e.moved ≡ (object_at m x).buffer
      charged =
          let here = mine-left in
          ap charge_in (sym (ap (λ (s : FineStep). s.moved) law.by.may.makes) ∙ ap (λ (z : Todos). moves f.image (maker f m e) z e.act e.moved) at)
          ∙ ((law.rel.processors e.cpu law.by.named).cleaning x few).charged (omega (arith, here)) cleared

  -- an event beside the heap that leaves what objects cost and which rows are free

  still : (shown : Event) (more : More) (said : e.act ≡ FineAct.Shown shown more) → heap_after f.image (heap f) shown.act e.moved ≡ heap f → heap later ≡ heap f
  still shown more said same = heap-still f m law.rel e shown more said same

  cost-kept : (t x : ℕ) (q : Pending) (rest : Steps) → Makes NoBirths q → (y : ℕ) → (object_at (T.after m t x q rest) y).cost ≡ (object_at m y).cost
  cost-kept t x q rest makes y = ap (λ (z : Lasting). z.cost) (lasting-kept m y t x q rest makes)

  free-kept : (t x : ℕ) (q : Pending) (rest : Steps) → Makes NoStatuses q → (y : ℕ) → Plain.is_free (object_at (T.after m t x q rest) y).status ≡ Plain.is_free (object_at m y).status
  free-kept t x q rest makes y = ap Plain.is_free (status-kept m y t x q rest makes)

  by-event : (q : Pending) (rest : Steps) (todo : Todos) (x : ℕ) → Shows f m e.cpu e q rest todo → IsShown q → IsStep f m e.cpu e x q
      → HeapIs later (T.after m (mine f m e) x q rest)
  by-event (Pending.Reserve kind) rest todo x h shown is = on-reserve kind rest todo x h is
  by-event (Pending.Buffer size) rest todo x h shown is = on-buffer size rest todo x h is
  by-event (Pending.Unbuffer size) rest todo x h shown is = on-unbuffer size rest todo x h is
  by-event (Pending.DropPair who a) rest todo x h shown is =
      untouched (T.after m (mine f m e) x (Pending.DropPair who a) rest) (still _ More.Nothing is.said refl) (pools-same m (mine f m e) x (Pending.DropPair who a) rest tt)
      (cost-kept (mine f m e) x (Pending.DropPair who a) rest tt) (λ y. drop-free m who.0 (T.row_of m a) y (paired-live m law.sound (T.row_of m a) who.0))
  by-event (Pending.Born a) rest todo x h shown is =
      untouched (T.after m (mine f m e) x (Pending.Born a) rest) (still _ More.Nothing is.said refl) (pools-same m (mine f m e) x (Pending.Born a) rest tt)
      (cost-kept (mine f m e) x (Pending.Born a) rest tt)
      (λ y. set-kept (λ (z : Object). Plain.is_free z.status) m.objects (T.row_of m a) y (record (object_at m (T.row_of m a)) { status = Status.Live }) (sym reserved))
    where
      reserved : Plain.is_free (object_at m (T.row_of m a)).status ≡ false
      reserved =
          let r = born-reserved m law.sound (mine f m e) a rest (shown-offers h) in
          ap (λ (o : Option ℕ). Plain.is_free (object_at m (unwrap_or o 0)).status) r.1 ∙ ap Plain.is_free r.2
  by-event (Pending.Drops from) rest todo x h shown is = absurd shown
  by-event (Pending.CleanPair who) rest todo x h shown is = absurd shown
  by-event Pending.Recycle rest todo x h shown is = absurd shown
  by-event q rest todo x h shown is =
      untouched (T.after m (mine f m e) x q rest) (still _ _ is.said (heap-untouched f.image (maker f m e) (heap f) e.moved q (act_in e.act) shown tt)) (pools-same m (mine f m e) x q rest tt)
      (cost-kept (mine f m e) x q rest tt) (free-kept (mine f m e) x q rest tt)

  on-beside : (t x : ℕ) (q : Pending) → Beside f m e t x q → HeapIs later (T.after m t x q (thread_at m t).pending)
  on-beside _ _ _ (cuts who site before x todo at place inside said) =
      untouched (T.after m (mine f m e) x (Pending.Cut (to_thread who)) (thread_at m (mine f m e)).pending) (still _ More.Nothing said refl) (pools-same m (mine f m e) x (Pending.Cut (to_thread who)) (thread_at m (mine f m e)).pending tt)
      (cost-kept (mine f m e) x (Pending.Cut (to_thread who)) (thread_at m (mine f m e)).pending tt) (free-kept (mine f m e) x (Pending.Cut (to_thread who)) (thread_at m (mine f m e)).pending tt)
  on-beside _ _ _ (times_out deadline site x who todo at place inside said) =
      untouched (T.after m (acting f m e) x (Pending.TimeOut who) (thread_at m (acting f m e)).pending) (still _ More.Nothing said refl) (pools-same m (acting f m e) x (Pending.TimeOut who) (thread_at m (acting f m e)).pending tt)
      (cost-kept (acting f m e) x (Pending.TimeOut who) (thread_at m (acting f m e)).pending tt) (free-kept (acting f m e) x (Pending.TimeOut who) (thread_at m (acting f m e)).pending tt)
  on-beside _ _ _ (expires deadline x todo at inside said) =
      untouched (T.after m (acting f m e) x.0 Pending.Expire (thread_at m (acting f m e)).pending) (still _ More.Nothing said refl) (pools-same m (acting f m e) x.0 Pending.Expire (thread_at m (acting f m e)).pending tt)
      (cost-kept (acting f m e) x.0 Pending.Expire (thread_at m (acting f m e)).pending tt) (free-kept (acting f m e) x.0 Pending.Expire (thread_at m (acting f m e)).pending tt)
  on-beside _ _ _ (ticks at said) =
      untouched (T.after m (acting f m e) 0 Pending.Tick (thread_at m (acting f m e)).pending) (still _ More.Nothing said refl) (pools-same m (acting f m e) 0 Pending.Tick (thread_at m (acting f m e)).pending tt)
      (cost-kept (acting f m e) 0 Pending.Tick (thread_at m (acting f m e)).pending tt) (free-kept (acting f m e) 0 Pending.Tick (thread_at m (acting f m e)).pending tt)
  on-beside _ _ _ (leaves todo at said) =
      untouched (T.after m (mine f m e) 0 Pending.Left (thread_at m (mine f m e)).pending) (still _ More.Nothing said refl) (pools-same m (mine f m e) 0 Pending.Left (thread_at m (mine f m e)).pending tt)
      (cost-kept (mine f m e) 0 Pending.Left (thread_at m (mine f m e)).pending tt) (free-kept (mine f m e) 0 Pending.Left (thread_at m (mine f m e)).pending tt)

  pub heap-part : (s : State) → Leaves f m e s → HeapIs later s
  heap-part _ (nothing u said) = heap-quiet f m law.rel e u said
  heap-part _ (event q rest todo x h shown is) = by-event q rest todo x h shown is
  heap-part _ (resumes c told rest idle moved said) =
      untouched (T.after m c.thread 0 Pending.Resume rest) (still _ More.Nothing said refl) (pools-same m c.thread 0 Pending.Resume rest tt)
      (cost-kept c.thread 0 Pending.Resume rest tt) (free-kept c.thread 0 Pending.Resume rest tt)
  heap-part _ (passes who x rest todo h said) =
      untouched (T.after m (mine f m e) x (Pending.Inherit (to_thread who)) rest) (still _ More.Nothing said refl) refl (λ y. refl) (λ y. refl)
  heap-part _ (drops from x rest todo h said) =
      untouched (T.after m (mine f m e) x (Pending.Drops from) rest) (still _ More.Nothing said refl) (pools-same m (mine f m e) x (Pending.Drops from) rest tt)
      (cost-kept (mine f m e) x (Pending.Drops from) rest tt) (λ y. drop-free m (mine f m e) x y (paired-live m law.sound x (mine f m e)))
  heap-part _ (cleans who x rest todo h said) =
      let q = Pending.CleanPair (to_thread who) in
      let z = own_row m.image who in
      let o = record (object_at m z) { cleaner = Some (to_thread (mine f m e)) } in
      untouched (T.after m (mine f m e) x q rest) (still _ More.Nothing said refl) (pools-same m (mine f m e) x q rest tt)
      (cost-kept (mine f m e) x q rest tt)
      (λ y.
      drop-free (with_cleaner m (mine f m e) z) who x y (λ p. ap Plain.is_live (set-kept (λ (w : Object). w.status) m.objects z x o refl) ∙ paired-live m law.sound x who p)
      ∙ ap Plain.is_free (set-kept (λ (w : Object). w.status) m.objects z y o refl))
  heap-part _ (recycles x rest todo at few said chosen) = on-recycle x rest todo at few said chosen
  heap-part _ (beside t x q how chosen started) = on-beside t x q how
