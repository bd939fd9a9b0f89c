-- The pools of both machines stay the same at every event that doesn't write them, and are written alike by buffers, where the relation
-- holds; memory stays the same at the events that have places of their own.
use Rattle.um_refinement.proofs.Words.{◌≡◌, ℕ, Bool, true, false, cond, List, Option, Some, None, refl, sym, ap, ◌∙◌, Act, Event, Image, Pending, Thread, Steps, State, thread_at, FineAct, More, act_in, charge_in, Heap, Bytes, memory_after, Exchange, FineStep, Site, SiteState, s_next, same_site, site_after, Todos, Processor, allows, more_of, says_step, shows, same-itself, Fine, bytes, bytes_state, heap, heap_state, MemoryIs, Rel, heap_after, paid}
use Rattle.um_base.specs.declared.names.Access.TheVariants as Access
use Rattle.um_machine.specs.Table as T
use Rattle.um_refinement.proofs.Erased.{stepped}
use Rattle.um_refinement.proofs.HeapSteps.{heap-sort}
use Rattle.um_refinement.proofs.MemoryKept.{Untouched, after-untouched}
use Rattle.um_refinement.proofs.MemorySteps.{memory-sort}
use Rattle.um_refinement.proofs.Offered.{Shows, act-is, moved-made, own-same, site-is, either-act}
use Rattle.um_refinement.proofs.WordsKept.{IsShown}
use Rattle.um_refinement.proofs.Writes.{Makes, Part, pools, read-same, reads-keeping}

-- all that a step may write but the pools
abbrev pub NoPools : Part → Bool
NoPools pools = false
NoPools part = true

pub pools-same : (m : State) (t x : ℕ) (q : Pending) (rest : Steps) → Makes NoPools q → (T.after m t x q rest).pools ≡ m.pools
pools-same m = read-same NoPools (λ s. s.pools) m (reads-keeping NoPools (λ s. s.pools) m.pools (λ s threads. refl) (λ s objects. refl) (λ s bytes. (refl, refl)) (λ may s u x there. refl) (λ may s left. absurd may) (λ may s d ps. refl) (λ may s joins futexes. refl) (λ may s now armed. refl))

-- The fine machine.

pub heap-untouched : (image : Image) (p : Processor) (h : Heap) (moved : Exchange) (q : Pending) (act : Act) → IsShown q → Makes NoPools q → heap_after image h (says_step image p q act) moved ≡ h
heap-untouched image p h moved (Pending.Load to a n) act shown makes = either-act (λ z. heap_after image h z moved) h (allows image p Access.Read a.0 n) _ _ refl refl
heap-untouched image p h moved (Pending.Store a n value) act shown makes = either-act (λ z. heap_after image h z moved) h (allows image p Access.Write a.0 n) _ _ refl refl
heap-untouched image p h moved (Pending.Fetch a) act shown makes = either-act (λ z. heap_after image h z moved) h (allows image p Access.Exec a.0 4) _ _ refl refl
heap-untouched image p h moved (Pending.Reserve kind) act shown makes = absurd makes
heap-untouched image p h moved (Pending.Buffer size) act shown makes = absurd makes
heap-untouched image p h moved (Pending.Unbuffer size) act shown makes = absurd makes
heap-untouched image p h moved q act shown makes = refl

module _ (f : Fine) (m : State) (rel : Rel f m) (e : FineStep) (event : Event) (more : More) (said : e.act ≡ FineAct.Shown event more) where
  heap-is : heap_state (s_next f.image (f.sites Site.heap) e) ≡ heap_after f.image (heap f) event.act e.moved
  heap-is =
      ap (λ (s : SiteState). heap_state (site_after f.image s e.act e.moved)) (heap-sort (f.sites Site.heap) (rel.sorts Site.heap)).1
      ∙ ap (λ act. heap_after f.image (heap f) (act_in act) e.moved) said

  -- an event that leaves the heap
  pub heap-still : heap_after f.image (heap f) event.act e.moved ≡ heap f → heap (stepped f.image f.cpus f.processors f.sites e) ≡ heap f
  heap-still same =
      elim (same_site e.site Site.heap) as (λ b. heap_state (cond b (s_next f.image (f.sites Site.heap) e) (f.sites Site.heap)) ≡ heap f) [ true ↦ heap-is ∙ same | false ↦ refl ]

  -- an event on the heap
  pub heap-put : e.site ≡ Site.heap → heap (stepped f.image f.cpus f.processors f.sites e) ≡ heap_after f.image (heap f) event.act e.moved
  heap-put site =
      ap (λ c. heap_state (cond c (s_next f.image (f.sites Site.heap) e) (f.sites Site.heap))) (ap (λ i. same_site i Site.heap) site ∙ same-itself Site.heap) ∙ heap-is

  bytes-is : bytes_state (s_next f.image (f.sites Site.memory) e) ≡ memory_after f.image (bytes f) event.act e.moved
  bytes-is =
      ap (λ (s : SiteState). bytes_state (site_after f.image s e.act e.moved)) (memory-sort (f.sites Site.memory) (rel.sorts Site.memory)).1
      ∙ ap (λ act. memory_after f.image (bytes f) (act_in act) e.moved) said

  -- an event on memory, or elsewhere
  pub bytes-put : e.site ≡ Site.memory → bytes (stepped f.image f.cpus f.processors f.sites e) ≡ memory_after f.image (bytes f) event.act e.moved
  bytes-put site =
      ap (λ c. bytes_state (cond c (s_next f.image (f.sites Site.memory) e) (f.sites Site.memory))) (ap (λ i. same_site i Site.memory) site ∙ same-itself Site.memory) ∙ bytes-is

  pub bytes-else : same_site e.site Site.memory ≡ false → bytes (stepped f.image f.cpus f.processors f.sites e) ≡ bytes f
  bytes-else off = ap (λ c. bytes_state (cond c (s_next f.image (f.sites Site.memory) e) (f.sites Site.memory))) off

  -- an event that has a place of its own: a resumed call, a visit, the end of a cleaning
  pub memory-beside : (q : Pending) (rest : Steps) (t x : ℕ) → memory_after f.image (bytes f) event.act e.moved ≡ bytes f → Untouched q
      → MemoryIs (stepped f.image f.cpus f.processors f.sites e) (T.after m t x q rest)
  memory-beside q rest t x same untouched =
      let below = after-untouched m t x q rest untouched in
      record {
        memory = ap (λ (b : Bytes). b.memory) now ∙ (rel.memory.memory ∙ sym (ap (λ (b : Bytes). b.memory) below));
        stacks = ap (λ (b : Bytes). b.stacks) now ∙ (rel.memory.stacks ∙ sym (ap (λ (b : Bytes). b.stacks) below));
        futexes = ap (λ (b : Bytes). b.futexes) now ∙ (rel.memory.futexes ∙ sym (ap (λ (b : Bytes). b.futexes) below));
      }
    where
      now : bytes (stepped f.image f.cpus f.processors f.sites e) ≡ bytes f
      now = elim (same_site e.site Site.memory) as (λ b. bytes_state (cond b (s_next f.image (f.sites Site.memory) e) (f.sites Site.memory)) ≡ bytes f) [ true ↦ bytes-is ∙ same | false ↦ refl ]

  pub pools-beside : (q : Pending) (rest : Steps) (t x : ℕ) → heap_after f.image (heap f) event.act e.moved ≡ heap f → Makes NoPools q
      → (heap (stepped f.image f.cpus f.processors f.sites e)).pools ≡ (T.after m t x q rest).pools
  pools-beside q rest t x same makes = ap (λ (h : Heap). h.pools) (heap-still same) ∙ (rel.heap.pools ∙ sym (pools-same m t x q rest makes))

pub pools-kept : {f : Fine} {m : State} {k : ℕ} {e : FineStep} {q : Pending} {rest : Steps} {todo : Todos} → Shows f m k e q rest todo → (x : ℕ)
    → e.act ≡ shows f.image (f.processors k) q e.act → IsShown q → Makes NoPools q
    → (heap (stepped f.image f.cpus f.processors f.sites e)).pools ≡ (T.after m (f.processors k).context.thread x q rest).pools
pools-kept {f} {m} {k} {e} {q} {rest} h x said shown makes =
    pools-beside f m h.rel e _ (more_of f.image (f.processors k) q) said q rest (f.processors k).context.thread x
    (heap-untouched f.image (f.processors k) (heap f) e.moved q (act_in e.act) shown makes) makes

-- Bytes of a pool are taken for a buffer, and given back.

pub paid-same : (pool : Option ℕ) (size : ℕ) (left : List ℕ) → paid left (T.cost_of pool size) ≡ T.paid_from pool size left
paid-same None size left = refl
paid-same (Some n) size left = refl

module _ {f : Fine} {m : State} {k : ℕ} {e : FineStep} {rest : Steps} {todo : Todos} where
  pub unbuffer-pools : (size x : ℕ) → Shows f m k e (Pending.Unbuffer size) rest todo
      → (heap (stepped f.image f.cpus f.processors f.sites e)).pools ≡ (T.after m (f.processors k).context.thread x (Pending.Unbuffer size) rest).pools
  unbuffer-pools size x h =
      let c = (f.processors k).context in
      let moved : e.moved ≡ Exchange.charge (T.cost_of c.pool size) =
      moved-made h in
      let pool : c.pool ≡ (thread_at m c.thread).pool = ap (λ (z : Thread). z.pool) (own-same h) in
      ap (λ (z : Heap). z.pools) (heap-put f m h.rel e _ More.Nothing (act-is h) (site-is h))
      ∙ ((λ i. T.paid_back (charge_in (moved i)) (h.rel.heap.pools i)) ∙ ap (λ o. T.paid_back (T.cost_of o size) m.pools) pool)
