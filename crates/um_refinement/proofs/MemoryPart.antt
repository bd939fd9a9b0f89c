-- Memory is the same in both machines after every lawful step.
use Rattle.um_refinement.proofs.Words.{Act, Addr, Bool, Bytes, Fine, FineAct, FineStep, IsTrue, MemoryIs, More, Pending, ROWS, Site, State, Steps, THREADS, ThreadIx, Todo, Todos, access_over, ap, arith, behind_shown, bytes, eqb-true, false, has_held, if◌then◌else◌, is_hold, is_let_go, is_started, length, list_any, memory_after, not, object_at, refl, same_site, site_at, subst, sym, thread_at, to_thread, true, woken-by, ℕ, ◌&&◌, ◌+◌, ◌<◌, ◌==◌, ◌∙◌, ◌∷◌, ◌≡◌}
use Rattle.um_base.specs.declared.limits.TheConstants.{FUTEX_CELL, JOIN_CELL}
use Rattle.um_base.specs.declared.names.Timeout.{Timeout}
use Rattle.um_machine.specs.Services.{without}
use Rattle.um_machine.specs.State.{waiters_in, with_waiters}
use Rattle.um_machine.specs.Table as T
use Rattle.um_machine.specs.Time.{told_late}
use Rattle.um_words.specs.declared.fine.Mark.{Mark}
use Rattle.um_fine.specs.Asks.{site_by}
use Rattle.um_fine.specs.Places.{armed_for, settling}
use Rattle.um_fine.specs.Sites.{site_numbered}
use Rattle.um_refinement.specs.Frames.{IsWaitOver, both, nothing as over_nothing, rereads, settled}
use Rattle.um_refinement.specs.Stops.{cell_site}
use Rattle.um_refinement.proofs.CellSites.{site-of-cell, waiting_cell}
use Rattle.um_refinement.proofs.FutexSteps.{settling-over, wait-kept, wake-kept}
use Rattle.um_refinement.proofs.WordsKept.{IsShown}
use Rattle.um_refinement.proofs.Erased.{stepped}
use Rattle.um_refinement.proofs.Leaves.{Beside, Lawful, Leaves, acting, beside, cleans, cuts, drops, event, expires, leaves, maker, mine, nothing, passes, recycles, resumes, ticks, times_out}
use Rattle.um_refinement.proofs.MemoryKept.{memory-kept}
use Rattle.um_refinement.proofs.MemoryWritten.{copy-out-kept, erase-kept, store-kept}
use Rattle.um_refinement.proofs.Offered.{IsStep, NotKilled, Shows, at-made, behind-is, own-part}
use Rattle.um_refinement.proofs.PoolsKept.{bytes-else, bytes-put, memory-beside}
use Rattle.um_refinement.proofs.Quiet.{memory-quiet}

-- each thread that was started is in one of the image's domains
abbrev pub InDomains : Fine → State → Type 0
InDomains f m = (t : ℕ) → t < THREADS → IsTrue (is_started (thread_at m t).life) → (thread_at m t).domain < length f.image.domains

-- so a processor that holds its thread has one of them
pub held-domain : {f : Fine} {m : State} {k : ℕ} {e : FineStep} {q : Pending} {rest : Steps} {todo : Todos} → InDomains f m → Shows f m k e q rest todo → NotKilled q
    → (list_any is_let_go (behind_shown f.image (f.processors k).context q) && not (list_any is_hold (behind_shown f.image (f.processors k).context q))) ≡ true
    → (f.processors k).domain < length f.image.domains
held-domain {f} {m} {k} {e} {q} {rest} all h other holds =
    let t = (f.processors k).context.thread in
    let list : (f.processors k).todo ≡ Todo.show q rest ∷ behind_shown f.image (f.processors k).context q = at-made h other ∙ ap (λ (z : Todos). Todo.show q rest ∷ z) (behind-is h) in
    let held : has_held (f.processors k) ≡ true = ap (λ (z : Todos). list_any is_let_go z && not (list_any is_hold z)) list ∙ holds in
    let domain : (f.processors k).domain ≡ (thread_at m t).domain = (h.rel.processors k h.there).domain.kept held ∙ (h.rel.threads t (own-part h).index).word.domain in
    subst (λ d. d < length f.image.domains) (sym domain) (all t (own-part h).index (own-part h).started)

-- and so has one that holds it for a wait on a futex
pub wait-domain : {f : Fine} {m : State} {k : ℕ} {e : FineStep} {a : Addr} {value : ℕ} {timeout : Timeout} {rest : Steps} {todo : Todos} → InDomains f m
    → Shows f m k e (Pending.FutexWait a value timeout) rest todo → (f.processors k).domain < length f.image.domains
wait-domain {f} {m} {k} {e} {a} {value} {timeout} all h =
    let c = (f.processors k).context in
    let q = Pending.FutexWait a value timeout in held-domain all h tt (no-hold (settling f.image c (armed_for f.image c q) q) (settling-over f.image c (armed_for f.image c q) q))
  where
    no-hold : (over : Todos) → IsWaitOver over → (list_any is_let_go (access_over over) && not (list_any is_hold (access_over over))) ≡ true
    no-hold _ over_nothing = refl
    no-hold _ settled = refl
    no-hold _ rereads = refl
    no-hold _ both = refl

module _ (f : Fine) (m : State) (e : FineStep) (law : Lawful f m e) (all : InDomains f m) where
  abbrev Kept : State → Type 0
  Kept s = MemoryIs (stepped f.image f.cpus f.processors f.sites e) s

  by-event : (q : Pending) (rest : Steps) (todo : Todos) (x : ℕ) → Shows f m e.cpu e q rest todo → IsShown q → IsStep f m e.cpu e x q → Kept (T.after m (mine f m e) x q rest)
  by-event (Pending.Store a n value) rest todo x h shown is = store-kept (held-domain all h tt refl) a n value x h
  by-event (Pending.CopyOut a) rest todo x h shown is = copy-out-kept (held-domain all h tt refl) a x h
  by-event (Pending.Erase stack) rest todo x h shown is = erase-kept stack x h
  by-event (Pending.FutexWait a value timeout) rest todo x h shown is = let few = wait-domain all h in wait-kept few a value timeout h x
  by-event (Pending.FutexWake a wakes_all) rest todo x h shown is = wake-kept (held-domain all h tt refl) a wakes_all h x
  by-event (Pending.TimeOut who) rest todo x h shown is = absurd shown
  by-event (Pending.Cut who) rest todo x h shown is = absurd shown
  by-event q rest todo x h shown is = memory-kept h is.said tt x

  -- a look in a cell takes a thread out there, which may wait on a futex
  search-kept : (t x : ℕ) (who : ThreadIx) (act : Act) (s : State) → x < ROWS + 2 → e.site ≡ waiting_cell x → e.act ≡ FineAct.Shown (record { thread = to_thread t; act = act }) More.Nothing
      → (memory_after f.image (bytes f) act e.moved ≡ record (bytes f) { futexes = without who.0 (bytes f).futexes }) → s.memory ≡ m.memory → s.stacks ≡ m.stacks
      → s.futexes ≡ (with_waiters m x (without who.0 (waiters_in m x))).futexes → Kept s
  search-kept t x who act s inside site said takes memory stacks futexes = by (x == JOIN_CELL) refl (x == FUTEX_CELL) refl
    where
      kept : (b : Bytes) → bytes (stepped f.image f.cpus f.processors f.sites e) ≡ b → b.memory ≡ (bytes f).memory → b.stacks ≡ (bytes f).stacks → b.futexes ≡ s.futexes → Kept s
      kept b now bytes-same stacks-same same =
          record {
            memory = ap (λ (z : Bytes). z.memory) now ∙ (bytes-same ∙ (law.rel.memory.memory ∙ sym memory));
            stacks = ap (λ (z : Bytes). z.stacks) now ∙ (stacks-same ∙ (law.rel.memory.stacks ∙ sym stacks));
            futexes = ap (λ (z : Bytes). z.futexes) now ∙ same;
          }

      at : (a b : Bool) → (x == JOIN_CELL) ≡ a → (x == FUTEX_CELL) ≡ b → e.site ≡ (if a then Site.joins else if b then Site.memory else Site.object x)
      at a b p q = site ∙ λ i. if p i then Site.joins else if q i then Site.memory else Site.object x

      elsewhere : same_site e.site Site.memory ≡ false → (x == FUTEX_CELL) ≡ false → Kept s
      elsewhere off q =
          kept (bytes f) (bytes-else f m law.rel e _ More.Nothing said off) refl refl
          (law.rel.memory.futexes ∙ sym (futexes ∙ ap (λ b. if b then without who.0 (waiters_in m x) else m.futexes) q))

      by : (a : Bool) → (x == JOIN_CELL) ≡ a → (b : Bool) → (x == FUTEX_CELL) ≡ b → Kept s
      by true p true q = let one = eqb-true x JOIN_CELL p in let two = eqb-true x FUTEX_CELL q in absurd (omega (arith, one, two))
      by true p false q = elsewhere (ap (λ i. same_site i Site.memory) (at true false p q)) q
      by false p false q = elsewhere (ap (λ i. same_site i Site.memory) (at false false p q)) q
      by false p true q =
          kept (record (bytes f) { futexes = without who.0 (bytes f).futexes }) (bytes-put f m law.rel e _ More.Nothing said (at false true p q) ∙ takes) refl refl
          (ap (without who.0) law.rel.memory.futexes
          ∙ sym (futexes ∙ (λ i. if q i then without who.0 (if p i then m.joins else if q i then m.futexes else (object_at m x).waiters) else m.futexes)))

  made-there : (site : ℕ) (q : Todo) (todo : Todos) (x : ℕ) → (maker f m e).todo ≡ q ∷ todo → site_at f.image (maker f m e) (q ∷ todo) ≡ site_numbered site → site ≡ cell_site x → x < ROWS + 2 → e.site ≡ waiting_cell x
  made-there site q todo x at there place inside =
      sym (ap (λ (s : FineStep). s.site) law.by.may.makes) ∙ (ap (λ (z : Todos). site_by f.image (maker f m e) z e.act) at ∙ (there ∙ (ap site_numbered place ∙ site-of-cell x inside)))

  on-beside : (t x : ℕ) (q : Pending) → Beside f m e t x q → Kept (T.after m t x q (thread_at m t).pending)
  on-beside _ _ _ (cuts who site before x todo at place inside said) =
      search-kept (mine f m e) x (to_thread who) (Act.Cut (to_thread who)) (T.after m (mine f m e) x (Pending.Cut (to_thread who)) (thread_at m (mine f m e)).pending) inside
      (made-there site (Todo.look who site before) todo x at refl place inside) said refl refl refl refl
  on-beside _ _ _ (times_out deadline site x who todo at place inside said) =
      let s = with_waiters m x (without who.0 (waiters_in m x)) in
      search-kept (acting f m e) x who (Act.TimedOut who) (T.after m (acting f m e) x (Pending.TimeOut who) (thread_at m (acting f m e)).pending) inside
      (made-there site (Todo.handle deadline (Mark.Thread who site)) todo x at refl place inside) said refl
      (woken-by (λ (z : State). z.memory ≡ m.memory) (λ z u told k. k) (told_late who x) s refl)
      (woken-by (λ (z : State). z.stacks ≡ m.stacks) (λ z u told k. k) (told_late who x) s refl)
      (woken-by (λ (z : State). z.futexes ≡ s.futexes) (λ z u told k. k) (told_late who x) s refl)
  on-beside _ _ _ (expires deadline x todo at inside said) = memory-beside f m law.rel e _ More.Nothing said Pending.Expire (thread_at m (acting f m e)).pending (acting f m e) x.0 refl tt
  on-beside _ _ _ (ticks at said) = memory-beside f m law.rel e _ More.Nothing said Pending.Tick (thread_at m (acting f m e)).pending (acting f m e) 0 refl tt
  on-beside _ _ _ (leaves todo at said) = memory-beside f m law.rel e _ More.Nothing said Pending.Left (thread_at m (mine f m e)).pending (mine f m e) 0 refl tt

  pub memory-part : (s : State) → Leaves f m e s → Kept s
  memory-part _ (nothing u said) = memory-quiet f m law.rel e u said
  memory-part _ (event q rest todo x h shown is) = by-event q rest todo x h shown is
  memory-part _ (resumes c told rest idle moved said) = memory-beside f m law.rel e _ More.Nothing said Pending.Resume rest c.thread 0 refl tt
  memory-part _ (passes who x rest todo h said) = memory-beside f m law.rel e _ More.Nothing said (Pending.Inherit (to_thread who)) rest (mine f m e) x refl tt
  memory-part _ (drops from x rest todo h said) = memory-beside f m law.rel e _ More.Nothing said (Pending.Drops from) rest (mine f m e) x refl tt
  memory-part _ (cleans who x rest todo h said) = memory-beside f m law.rel e _ More.Nothing said (Pending.CleanPair (to_thread who)) rest (mine f m e) x refl tt
  memory-part _ (recycles x rest todo at few said chosen) = memory-beside f m law.rel e _ More.Nothing said Pending.Recycle rest (mine f m e) x refl tt
  memory-part _ (beside t x q how chosen started) = on-beside t x q how
