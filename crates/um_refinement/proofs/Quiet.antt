-- A step that no trace shows leaves the machine's state, and these parts of the relation: what the words of threads say, memory, heap.
use Rattle.um_refinement.proofs.Words.{◌≡◌, ℕ, ◌<◌, true, false, cond, refl, sym, ap, ◌∙◌, subst, slice_index_or, Image, THREADS, State, FineAct, Unseen, ThreadWord, Exchange, FineStep, Site, Heap, Bytes, Cell, SiteState, s_next, same_site, site_after, site_of, Fine, bytes, bytes_state, heap, heap_state, thread_state, WordIs, HeapIs, MemoryIs, Rel, thread_after_unseen, cost_at, ◌+◌, length}
use Rattle.um_fine.specs.Runs.{changed}
use Rattle.um_refinement.proofs.Erased.{Goes, GoesBy, stepped}

-- two words of threads say the same, but for whether the thread is held, and its note
record SaysSame (v w : ThreadWord) : Type 0 where
  life : v.life ≡ w.life
  doomed : v.doomed ≡ w.doomed
  mode : v.mode ≡ w.mode
  domain : v.domain ≡ w.domain
  aborted : v.aborted ≡ w.aborted
  suspended : v.suspended ≡ w.suspended

same-word : (w : ThreadWord) → SaysSame w w
same-word w = record { life = refl; doomed = refl; mode = refl; domain = refl; aborted = refl; suspended = refl }

word-after : (w : ThreadWord) (u : Unseen) → SaysSame (thread_after_unseen w u) w
word-after w Unseen.Hold = record { life = refl; doomed = refl; mode = refl; domain = refl; aborted = refl; suspended = refl }
word-after w Unseen.LetGo = record { life = refl; doomed = refl; mode = refl; domain = refl; aborted = refl; suspended = refl }
word-after w (Unseen.Note site) = record { life = refl; doomed = refl; mode = refl; domain = refl; aborted = refl; suspended = refl }
word-after w u = same-word w

counted-same : (v w : ThreadWord) → SaysSame v w → SaysSame (record v { number = v.number + 1 }) w
counted-same v w h = record { life = h.life; doomed = h.doomed; mode = h.mode; domain = h.domain; aborted = h.aborted; suspended = h.suspended }

module _ (image : Image) where
  thread-after : (s : SiteState) (u : Unseen) (moved : Exchange) → SaysSame (thread_state (site_after image s (FineAct.Unseen u) moved)) (thread_state s)
  thread-after (SiteState.row w) u moved = same-word _
  thread-after (SiteState.thread w) u moved = counted-same (thread_after_unseen w u) w (word-after w u)
  thread-after (SiteState.domain w) u moved = same-word _
  thread-after (SiteState.cell n c) u moved = same-word _

  bytes-after : (s : SiteState) (u : Unseen) (moved : Exchange) → bytes_state (site_after image s (FineAct.Unseen u) moved) ≡ bytes_state s
  bytes-after (SiteState.cell n (Cell.memory m)) u moved = refl
  bytes-after _ u moved = refl

  heap-after : (s : SiteState) (u : Unseen) (moved : Exchange) → heap_state (site_after image s (FineAct.Unseen u) moved) ≡ heap_state s
  heap-after (SiteState.cell n (Cell.heap h)) u moved = refl
  heap-after _ u moved = refl

module _ (f : Fine) (m : State) (rel : Rel f m) (e : FineStep) (u : Unseen) (unseen : e.act ≡ FineAct.Unseen u) where
  -- it is no step of the machine
  pub goes-nowhere : Goes m e m
  goes-nowhere = subst (λ act. GoesBy m act m) (sym unseen) refl

  thread-next : (i : Site) → SaysSame (thread_state (changed same_site site_of (s_next f.image) f.sites e i)) (thread_state (f.sites i))
  thread-next i =
      elim (same_site e.site i) as (λ b. SaysSame (thread_state (cond b (s_next f.image (f.sites i) e) (f.sites i))) (thread_state (f.sites i))) [
        | true ↦ subst (λ act. SaysSame (thread_state (site_after f.image (f.sites i) act e.moved)) (thread_state (f.sites i))) (sym unseen) (thread-after f.image (f.sites i) u e.moved)
        | false ↦ same-word (thread_state (f.sites i))
      ]

  pub words-quiet : (t : ℕ) → t < THREADS → WordIs (stepped f.image f.cpus f.processors f.sites e) m t
  words-quiet t few =
      let was = (rel.threads t few).word in
      let now = thread-next (Site.thread t) in
      record { life = now.life ∙ was.life; doomed = now.doomed ∙ was.doomed; mode = now.mode ∙ was.mode; domain = now.domain ∙ was.domain; aborted = now.aborted ∙ was.aborted; suspended = now.suspended ∙ was.suspended }

  -- what a step that no trace shows leaves of a site's state is left
  site-left : {A : Type 0} (of : SiteState → A) → ((s : SiteState) (u : Unseen) (moved : Exchange) → of (site_after f.image s (FineAct.Unseen u) moved) ≡ of s)
      → (i : Site) → of (changed same_site site_of (s_next f.image) f.sites e i) ≡ of (f.sites i)
  site-left of after i =
      elim (same_site e.site i) as (λ b. of (cond b (s_next f.image (f.sites i) e) (f.sites i)) ≡ of (f.sites i)) [
        | true ↦ ap (λ act. of (site_after f.image (f.sites i) act e.moved)) unseen ∙ after (f.sites i) u e.moved
        | false ↦ refl
      ]

  bytes-next : bytes (stepped f.image f.cpus f.processors f.sites e) ≡ bytes f
  bytes-next = site-left bytes_state (bytes-after f.image) Site.memory

  pub memory-quiet : MemoryIs (stepped f.image f.cpus f.processors f.sites e) m
  memory-quiet = record { memory = ap (λ (b : Bytes). b.memory) bytes-next ∙ rel.memory.memory; stacks = ap (λ (b : Bytes). b.stacks) bytes-next ∙ rel.memory.stacks; futexes = ap (λ (b : Bytes). b.futexes) bytes-next ∙ rel.memory.futexes }

  heap-next : heap (stepped f.image f.cpus f.processors f.sites e) ≡ heap f
  heap-next = site-left heap_state (heap-after f.image) Site.heap

  pub heap-quiet : HeapIs (stepped f.image f.cpus f.processors f.sites e) m
  heap-quiet =
      record {
        pools = ap (λ (h : Heap). h.pools) heap-next ∙ rel.heap.pools;
        cost = λ x few. ap (λ (h : Heap). cost_at h x) heap-next ∙ rel.heap.cost x few;
        free = λ x few. ap (λ (h : Heap). slice_index_or h.free x false) heap-next ∙ rel.heap.free x few;
        costs = ap (λ (h : Heap). length h.costs) heap-next ∙ rel.heap.costs;
        frees = ap (λ (h : Heap). length h.free) heap-next ∙ rel.heap.frees;
      }
