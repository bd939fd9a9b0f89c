-- The memory of both machines is written alike, where the relation holds: by stores, by copies out, and by the erasure of a stack.
use Rattle.um_refinement.proofs.Words.{◌≡◌, ℕ, ◌<◌, Bool, true, false, cond, List, length, Option, sym, ap, ◌∙◌, if◌then◌else◌, nat_lt, Act, Image, Addr, Range, Row, Pending, Thread, allowed, with_bytes, Steps, State, thread_at, act_in, bytes_in, FineStep, Site, Bytes, memory_after, SiteState, s_next, same_site, site_after, Todos, allows, says_step, Fine, bytes, bytes_state, MemoryIs, same-itself, Effect, effect, PARTITION_AREA, STACK_AREA, setup_at, stack_range, le_bytes, put_bytes, bytes_of, with_memory, write, start_of, zeros_of, ◌-◌}
use Rattle.um_base.specs.declared.names.Access.TheVariants as Access
use Rattle.um_machine.specs.Table as T
use Rattle.um_refinement.proofs.Erased.{stepped}
use Rattle.um_refinement.proofs.MemorySteps.{allows-it, memory-sort}
use Rattle.um_refinement.specs.Frames.{nothing}
use Rattle.um_refinement.proofs.MemoryKept.{bytes_from}
use Rattle.um_refinement.proofs.Offered.{Shows, act-is, behind-is, moved-made, own-same, site-is}
use Rattle.um_refinement.proofs.Writes.{after_saying}

abbrev erased : State → Option Range → State
erased m range = effect (Effect.bytes (start_of range) (zeros_of range)) m

-- bytes written into the cell, and into the machine's memory
write-same : (image : Image) (m : State) (b : Bytes) (a : ℕ) (bs : List ℕ) → b ≡ bytes_from b.noted m → write image b a bs ≡ bytes_from b.noted (with_bytes m a bs)
write-same image m b a bs e =
    elim (nat_lt a STACK_AREA) as (λ c.
    bytes_of b (if c then record (with_memory image b) { memory = put_bytes b.memory (a - PARTITION_AREA) bs } else record (with_memory image b) { stacks = put_bytes b.stacks (a - STACK_AREA) bs })
    ≡ bytes_from b.noted (if c then record m { memory = put_bytes m.memory (a - PARTITION_AREA) bs } else record m { stacks = put_bytes m.stacks (a - STACK_AREA) bs })) [
      | true ↦ λ i. record (e i) { memory = put_bytes (e i).memory (a - PARTITION_AREA) bs; noted = b.noted }
      | false ↦ λ i. record (e i) { stacks = put_bytes (e i).stacks (a - STACK_AREA) bs; noted = b.noted }
    ]

module _ {f : Fine} {m : State} {k : ℕ} {e : FineStep} {q : Pending} {rest : Steps} {todo : Todos} (h : Shows f m k e q rest todo) where
  bytes-are : bytes f ≡ bytes_from (bytes f).noted m
  bytes-are = λ i. record { memory = h.rel.memory.memory i; stacks = h.rel.memory.stacks i; futexes = h.rel.memory.futexes i; noted = (bytes f).noted }

  -- what the cell of memory keeps after a step that is made there
  pub bytes-after : (act : Act) → e.site ≡ Site.memory → act_in e.act ≡ act → bytes (stepped f.image f.cpus f.processors f.sites e) ≡ memory_after f.image (bytes f) act e.moved
  bytes-after act site said =
      let at = memory-sort (f.sites Site.memory) (h.rel.sorts Site.memory) in
      ap (λ c. bytes_state (cond c (s_next f.image (f.sites Site.memory) e) (f.sites Site.memory))) (ap (λ i. same_site i Site.memory) site ∙ same-itself Site.memory)
      ∙ (ap (λ (s : SiteState). bytes_state (site_after f.image s e.act e.moved)) at.1
      ∙ ap (λ a. memory_after f.image (bytes f) a e.moved) said)

  is-kept : (s : State) (noted : List ℕ) → bytes (stepped f.image f.cpus f.processors f.sites e) ≡ bytes_from noted s → MemoryIs (stepped f.image f.cpus f.processors f.sites e) s
  is-kept s noted same = record { memory = ap (λ (b : Bytes). b.memory) same; stacks = ap (λ (b : Bytes). b.stacks) same; futexes = ap (λ (b : Bytes). b.futexes) same }

module _ {f : Fine} {m : State} {k : ℕ} {e : FineStep} {rest : Steps} {todo : Todos} where
  pub store-kept : (few : (f.processors k).domain < length f.image.domains) (a : Addr) (n value x : ℕ) → Shows f m k e (Pending.Store a n value) rest todo
      → MemoryIs (stepped f.image f.cpus f.processors f.sites e) (T.after m (f.processors k).context.thread x (Pending.Store a n value) rest)
  store-kept few a n value x h =
      let t = (f.processors k).context.thread in
      is-kept h (T.after m t x (Pending.Store a n value) rest) (bytes f).noted
      (bytes-after h (says_step f.image (f.processors k) (Pending.Store a n value) (act_in e.act)) (site-is h) (ap act_in (act-is h))
      ∙ (both (allows f.image (f.processors k) Access.Write a.0 n)
      ∙ ap (λ c. bytes_from (bytes f).noted (after_saying m t x (Pending.Store a n value) (if c then Act.Store a n value else Act.Fault Access.Write a n) rest))
      (allows-it h tt nothing (behind-is h) few Access.Write a.0 n)))
    where
      both : (c : Bool) → memory_after f.image (bytes f) (if c then Act.Store a n value else Act.Fault Access.Write a n) e.moved
          ≡ bytes_from (bytes f).noted (after_saying m (f.processors k).context.thread x (Pending.Store a n value) (if c then Act.Store a n value else Act.Fault Access.Write a n) rest)
      both true = write-same f.image m (bytes f) a.0 (le_bytes n value) (bytes-are h)
      both false = bytes-are h

  pub copy-out-kept : (few : (f.processors k).domain < length f.image.domains) (a : Addr) (x : ℕ) → Shows f m k e (Pending.CopyOut a) rest todo
      → MemoryIs (stepped f.image f.cpus f.processors f.sites e) (T.after m (f.processors k).context.thread x (Pending.CopyOut a) rest)
  copy-out-kept few a x h =
      let c = (f.processors k).context in
      let t = c.thread in
      let buffer : c.buffer ≡ (thread_at m t).buffer = ap (λ (z : Thread). z.buffer) (own-same h) in
      let moved : bytes_in e.moved ≡ (thread_at m t).buffer =
      ap bytes_in (moved-made h) ∙ buffer in
      is-kept h (T.after m t x (Pending.CopyOut a) rest) (bytes f).noted
      (bytes-after h (says_step f.image (f.processors k) (Pending.CopyOut a) (act_in e.act)) (site-is h) (ap act_in (act-is h))
      ∙ (both (allows f.image (f.processors k) Access.Write a.0 (length c.buffer)) moved
      ∙ ap (λ b. bytes_from (bytes f).noted (after_saying m t x (Pending.CopyOut a) (Act.CopyOut a (length (thread_at m t).buffer) b) rest))
      (allows-it h tt nothing (behind-is h) few Access.Write a.0 (length c.buffer) ∙ ap (λ bs. allowed m t Access.Write a.0 (length bs)) buffer)))
    where
      both : (b : Bool) → bytes_in e.moved ≡ (thread_at m (f.processors k).context.thread).buffer
          → memory_after f.image (bytes f) (Act.CopyOut a (length (f.processors k).context.buffer) b) e.moved
          ≡ bytes_from (bytes f).noted (after_saying m (f.processors k).context.thread x (Pending.CopyOut a) (Act.CopyOut a (length (thread_at m (f.processors k).context.thread).buffer) b) rest)
      both true moved =
          ap (write f.image (bytes f) a.0) moved ∙ write-same f.image m (bytes f) a.0 (thread_at m (f.processors k).context.thread).buffer (bytes-are h)
      both false moved = bytes-are h

  pub erase-kept : (stack : Row) (x : ℕ) → Shows f m k e (Pending.Erase stack) rest todo
      → MemoryIs (stepped f.image f.cpus f.processors f.sites e) (T.after m (f.processors k).context.thread x (Pending.Erase stack) rest)
  erase-kept stack x h =
      let t = (f.processors k).context.thread in
      is-kept h (T.after m t x (Pending.Erase stack) rest) (bytes f).noted
      (bytes-after h (Act.Erase stack) (site-is h) (ap act_in (act-is h))
      ∙ ((let range = stack_range (setup_at f.image stack.0) in write-same f.image m (bytes f) (start_of range) (zeros_of range) (bytes-are h))
      ∙ ap (λ (i : Image). bytes_from (bytes f).noted (erased m (stack_range (setup_at i stack.0)))) (sym h.rel.image)))
