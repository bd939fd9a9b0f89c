-- The memory of both machines, and who waits on a futex, stay the same at every event of a pending step that doesn't write them, where the
-- relation holds.
use Rattle.um_refinement.proofs.Words.{◌≡◌, ℕ, Bool, true, false, cond, refl, sym, ap, ◌∙◌, Act, Image, Pending, Steps, State, act_in, Exchange, FineStep, Site, Bytes, memory_after, Cell, SiteState, s_next, same_site, site_after, Todos, Processor, allows, says_step, shows, Fine, bytes, bytes_state, MemoryIs, woken-by, Effect, effect, false≢true, [], List, ◌==◌, not, not-true, if◌then◌else◌}
use Rattle.um_base.specs.declared.names.Access.TheVariants as Access
use Rattle.um_base.specs.declared.limits.TheConstants.{FUTEX_CELL}
use Rattle.um_machine.specs.Table as T
use Rattle.um_refinement.proofs.Erased.{stepped}
use Rattle.um_refinement.proofs.MemorySteps.{memory-sort}
use Rattle.um_refinement.proofs.Offered.{Shows, either-act}
use Rattle.um_refinement.proofs.Writes.{reads-after}

-- what a cell of memory with these numbers of notes keeps of a state
abbrev pub bytes_from : List ℕ → State → Bytes
bytes_from noted s = record { memory = s.memory; stacks = s.stacks; futexes = s.futexes; noted = noted }

-- the steps that write neither memory nor the futexes
abbrev pub Untouched : Pending → Type 0
Untouched (Pending.Store a n value) = ⊥
Untouched (Pending.CopyOut a) = ⊥
Untouched (Pending.Erase stack) = ⊥
Untouched (Pending.FutexWait a value timeout) = ⊥
Untouched (Pending.FutexWake a all) = ⊥
Untouched (Pending.TimeOut who) = ⊥
Untouched (Pending.Cut who) = ⊥
Untouched q = Unit {0}

-- The access-matrix machine.

abbrev no_bytes : Effect → Bool
no_bytes (Effect.bytes a bs) = false
no_bytes (Effect.waiters c ws) = not (c == FUTEX_CELL)
no_bytes e = true

bytes-left : (b : Bytes) (e : Effect) (s : State) → no_bytes e ≡ true → bytes_from [] s ≡ b → bytes_from [] (effect e s) ≡ b
bytes-left b (Effect.bytes a bs) s h k = absurd (false≢true h)
bytes-left b (Effect.wakes woken) s h k = woken-by (λ (z : State). bytes_from [] z ≡ b) (λ z u told k. k) woken s k
bytes-left b (Effect.waiters c ws) s h k =
    ap (λ n. record (bytes_from [] s) { futexes = if n then ws else s.futexes }) (not-true (c == FUTEX_CELL) h) ∙ k
bytes-left b e s h k = k

pub after-untouched : (m : State) (t x : ℕ) (q : Pending) (rest : Steps) → Untouched q → bytes_from [] (T.after m t x q rest) ≡ bytes_from [] m
after-untouched m t x (Pending.Store a n value) rest h = absurd h
after-untouched m t x (Pending.CopyOut a) rest h = absurd h
after-untouched m t x (Pending.Erase stack) rest h = absurd h
after-untouched m t x (Pending.FutexWait a value timeout) rest h = absurd h
after-untouched m t x (Pending.FutexWake a all) rest h = absurd h
after-untouched m t x (Pending.TimeOut who) rest h = absurd h
after-untouched m t x (Pending.Cut who) rest h = absurd h
after-untouched m t x q rest h = reads-after (bytes_from []) no_bytes bytes-left (λ s threads. refl) m t x q rest refl

-- The fine machine.

cell-untouched : (image : Image) (p : Processor) (b : Bytes) (moved : Exchange) (q : Pending) (act : Act) → Untouched q → memory_after image b (says_step image p q act) moved ≡ b
cell-untouched image p b moved (Pending.Load to a n) act h = either-act (λ z. memory_after image b z moved) b (allows image p Access.Read a.0 n) _ _ refl refl
cell-untouched image p b moved (Pending.Store a n value) act h = absurd h
cell-untouched image p b moved (Pending.Fetch a) act h = either-act (λ z. memory_after image b z moved) b (allows image p Access.Exec a.0 4) _ _ refl refl
cell-untouched image p b moved (Pending.CopyOut a) act h = absurd h
cell-untouched image p b moved (Pending.Erase stack) act h = absurd h
cell-untouched image p b moved (Pending.FutexWait a value timeout) act h = absurd h
cell-untouched image p b moved (Pending.FutexWake a all) act h = absurd h
cell-untouched image p b moved q act h = refl

-- both keep their bytes
pub memory-kept : {f : Fine} {m : State} {k : ℕ} {e : FineStep} {q : Pending} {rest : Steps} {todo : Todos} → Shows f m k e q rest todo
    → e.act ≡ shows f.image (f.processors k) q e.act → Untouched q → (x : ℕ)
    → MemoryIs (stepped f.image f.cpus f.processors f.sites e) (T.after m (f.processors k).context.thread x q rest)
memory-kept {f} {m} {k} {e} {q} {rest} h said untouched x =
    let below = after-untouched m (f.processors k).context.thread x q rest untouched in
    record {
      memory = ap (λ (b : Bytes). b.memory) now ∙ (h.rel.memory.memory ∙ sym (ap (λ (b : Bytes). b.memory) below));
      stacks = ap (λ (b : Bytes). b.stacks) now ∙ (h.rel.memory.stacks ∙ sym (ap (λ (b : Bytes). b.stacks) below));
      futexes = ap (λ (b : Bytes). b.futexes) now ∙ (h.rel.memory.futexes ∙ sym (ap (λ (b : Bytes). b.futexes) below));
    }
  where
    at : (n : ℕ) × (f.sites Site.memory ≡ SiteState.cell n (Cell.memory (bytes f)))
    at = memory-sort (f.sites Site.memory) (h.rel.sorts Site.memory)

    here : bytes_state (s_next f.image (f.sites Site.memory) e) ≡ bytes f
    here =
        ap (λ (s : SiteState). bytes_state (site_after f.image s e.act e.moved)) at.1
        ∙ (ap (λ act. memory_after f.image (bytes f) (act_in act) e.moved) said
        ∙ cell-untouched f.image (f.processors k) (bytes f) e.moved q (act_in e.act) untouched)

    now : bytes (stepped f.image f.cpus f.processors f.sites e) ≡ bytes f
    now = elim (same_site e.site Site.memory) as (λ b. bytes_state (cond b (s_next f.image (f.sites Site.memory) e) (f.sites Site.memory)) ≡ bytes f) [ true ↦ here | false ↦ refl ]
