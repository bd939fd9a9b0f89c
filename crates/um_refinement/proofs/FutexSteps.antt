-- A wait on a futex and a wake are those steps of the machine, where the relation holds: the cell of memory has the machine's bytes and those who
-- wait, and the processor's table says what its thread may read. Both leave the same of memory and of who waits.
use Rattle.um_refinement.proofs.Words.{Effect, Next, State, effects_of, next_of, shared-went, went, work_change, wrote, Context, ◌≡◌, ℕ, ◌<◌, Bool, List, [], ◌∷◌, ◌++◌, length, Option, Some, None, refl, sym, ap, ◌∙◌, subst, ◌==◌, ◌||◌, not, filter, list_any, Act, Answer, Told, Waiter, Ask, Image, Addr, Reply, ThreadIx, Pending, Thread, Steps, to_thread, allowed, bytes_at, le_value, woken-by, thread_at, More, act_in, answer_in, woken_in, caller_in, FineStep, Site, Bytes, read, memory_after, SiteState, site_answers, Todos, allows, shows, Fine, bytes, MemoryIs}
use Rattle.um_base.specs.declared.limits.TheConstants.{FUTEX_CELL}
use Rattle.um_base.specs.declared.names.Access.TheVariants as Access
use Rattle.um_base.specs.declared.names.Timeout.{Timeout}
use Rattle.um_machine.specs.Futexes.{futex_answer, futex_refusal, futex_wait, futex_woken, wake_answer}
use Rattle.um_machine.specs.Goes.{asked_way}
use Rattle.um_machine.specs.Services.{still_waiting, without}
use Rattle.um_machine.specs.State.{with_waiters}
use Rattle.um_machine.specs.Table as T
use Rattle.um_machine.specs.Writes.{only, says_wait}
use Rattle.um_fine.specs.Asks.{seeker}
use Rattle.um_fine.specs.Memory.{refusal_of, still_there, wait_answer, wake_says, woken_on}
use Rattle.um_fine.specs.Places.{armed_for, settling}
use Rattle.um_refinement.specs.Frames.{IsWaitOver, nothing, settled}
use Rattle.um_refinement.proofs.Erased.{stepped}
use Rattle.um_refinement.proofs.MemorySteps.{allows-it, memory-sort}
use Rattle.um_refinement.proofs.MemoryWritten.{bytes-after}
use Rattle.um_refinement.proofs.Offered.{IsStep, Shows, act-is, behind-is, machine-step, moved-made, own-same, says-at, site-is}
use Rattle.um_refinement.proofs.Says.{read-agrees}

-- behind an act that may wait, its mark is settled at most
pub settling-over : (image : Image) (c : Context) (o : Option ℕ) (q : Pending) → IsWaitOver (settling image c o q)
settling-over image c None q = nothing
settling-over image c (Some deadline) q = settled

module _ {f : Fine} {m : State} {k : ℕ} {e : FineStep} {rest : Steps} {todo : Todos} (few : (f.processors k).domain < length f.image.domains) where
  -- A wait.
  module _ (a : Addr) (value : ℕ) (timeout : Timeout) (h : Shows f m k e (Pending.FutexWait a value timeout) rest todo) where
    waits-allowed : allows f.image (f.processors k) Access.Read a.0 4 ≡ allowed m (f.processors k).context.thread Access.Read a.0 4
    waits-allowed =
        let c = (f.processors k).context in
        let q = Pending.FutexWait a value timeout in
        allows-it h tt (settling-over f.image c (armed_for f.image c q) q) (behind-is h) few Access.Read a.0 4

    wait-says : wait_answer f.image (bytes f) (More.Waits (allows f.image (f.processors k) Access.Read a.0 4) timeout) a.0 value ≡ answer_in (act_in e.act)
    wait-says =
        let act = shows f.image (f.processors k) (Pending.FutexWait a value timeout) e.act in
        let memory = memory-sort (f.sites Site.memory) (h.rel.sorts Site.memory) in
        let here = subst (λ (s : SiteState). site_answers f.image s e.moved act ≡ act) memory.1 (says-at h Site.memory act (site-is h) (act-is h)) in
        ap (λ z. answer_in (act_in z)) here

    found-same : le_value (read f.image (bytes f) a.0 4) ≡ le_value (bytes_at m a.0 4)
    found-same =
        ap le_value (ap (λ (i : Image). read i (bytes f) a.0 4) (sym h.rel.image) ∙ read-agrees m (bytes f) a.0 4 h.rel.memory.memory h.rel.memory.stacks)

    wait-answers : answer_in (act_in e.act) ≡ futex_answer m (f.processors k).context.thread a.0 value timeout
    wait-answers = sym wait-says ∙ (λ i. futex_wait value (found-same i) timeout (refusal_of (sym h.rel.image i) (waits-allowed i) a.0))

    pub wait-step : IsStep f m k e 0 (Pending.FutexWait a value timeout)
    wait-step = machine-step h 0 (act-is h) tt (ap (Act.FutexWait a value) wait-answers)

    asker : Waiter
    asker = seeker f.image (f.processors k) (Ask.FutexWait a)

    asker-same : asker ≡ record { thread = to_thread (f.processors k).context.thread; priority = (thread_at m (f.processors k).context.thread).priority; ask = Ask.FutexWait a; bytes = []; until = (thread_at m (f.processors k).context.thread).until }
    unfolding asker
    asker-same = λ i. record { thread = to_thread (f.processors k).context.thread; priority = (own-same h i).priority; ask = Ask.FutexWait a; bytes = []; until = (own-same h i).until }

    -- who waits stands behind all others
    pub wait-kept : (x : ℕ) → MemoryIs (stepped f.image f.cpus f.processors f.sites e) (T.after m (f.processors k).context.thread x (Pending.FutexWait a value timeout) rest)
    unfolding asker
    wait-kept x =
        by (futex_answer m t a.0 value timeout)
        (bytes-after h (Act.FutexWait a value (answer_in (act_in e.act))) (site-is h) (ap act_in (act-is h)) ∙ ap (λ n. memory_after f.image (bytes f) (Act.FutexWait a value n) e.moved) wait-answers)
      where
        t : ℕ
        t = (f.processors k).context.thread

        After : Answer → State
        After n =
            went rest (wrote (only (says_wait n) (Effect.waiters FUTEX_CELL (T.queued m t FUTEX_CELL (Ask.FutexWait a))) ∷ []) m) t (Next.on (work_change n []) (asked_way n))

        who : caller_in e.moved ≡ asker
        who = ap caller_in (moved-made h)

        by : (n : Answer) → bytes (stepped f.image f.cpus f.processors f.sites e) ≡ memory_after f.image (bytes f) (Act.FutexWait a value n) e.moved
            → MemoryIs (stepped f.image f.cpus f.processors f.sites e) (After n)
        by Answer.Wait now =
            record {
              memory = ap (λ (b : Bytes). b.memory) now ∙ h.rel.memory.memory;
              stacks = ap (λ (b : Bytes). b.stacks) now ∙ h.rel.memory.stacks;
              futexes = ap (λ (b : Bytes). b.futexes) now
                  ∙ (ap (λ (w : Waiter). without w.thread.0 (bytes f).futexes ++ w ∷ []) (who ∙ asker-same)
                  ∙ ap (λ ws. without t ws ++ record { thread = to_thread t; priority = (thread_at m t).priority; ask = Ask.FutexWait a; bytes = []; until = (thread_at m t).until } ∷ []) h.rel.memory.futexes);
            }
        by (Answer.Now reply) now =
            record {
              memory = ap (λ (b : Bytes). b.memory) now ∙ h.rel.memory.memory;
              stacks = ap (λ (b : Bytes). b.stacks) now ∙ h.rel.memory.stacks;
              futexes = ap (λ (b : Bytes). b.futexes) now ∙ h.rel.memory.futexes;
            }

  -- A wake.
  module _ (a : Addr) (all : Bool) (h : Shows f m k e (Pending.FutexWake a all) rest todo) where
    wakes-allowed : allows f.image (f.processors k) Access.Read a.0 4 ≡ allowed m (f.processors k).context.thread Access.Read a.0 4
    wakes-allowed = allows-it h tt nothing (behind-is h) few Access.Read a.0 4

    more : More
    more = More.Wakes (allows f.image (f.processors k) Access.Read a.0 4) all

    woken-same : woken_on f.image (bytes f) (More.Wakes (allows f.image (f.processors k) Access.Read a.0 4) all) a.0 ≡ futex_woken m (f.processors k).context.thread a.0 all
    woken-same = (λ i. woken_on (sym h.rel.image i) (record (bytes f) { futexes = h.rel.memory.futexes i }) (More.Wakes (wakes-allowed i) all) a.0)

    wake-here : let act = shows f.image (f.processors k) (Pending.FutexWake a all) e.act in
        (wake_says f.image (bytes f) (More.Wakes (allows f.image (f.processors k) Access.Read a.0 4) all) a.0 ≡ answer_in (act_in e.act))
        × (T.replies_of (woken_on f.image (bytes f) (More.Wakes (allows f.image (f.processors k) Access.Read a.0 4) all) a.0) ≡ woken_in (act_in e.act))
    wake-here =
        let act = shows f.image (f.processors k) (Pending.FutexWake a all) e.act in
        let memory = memory-sort (f.sites Site.memory) (h.rel.sorts Site.memory) in
        let here = subst (λ (s : SiteState). site_answers f.image s e.moved act ≡ act) memory.1 (says-at h Site.memory act (site-is h) (act-is h)) in
        (ap (λ z. answer_in (act_in z)) here, ap (λ z. woken_in (act_in z)) here)

    wake-answers : answer_in (act_in e.act) ≡ wake_answer (futex_refusal m (f.processors k).context.thread a.0) (length (futex_woken m (f.processors k).context.thread a.0 all))
    wake-answers = sym wake-here.0 ∙ (λ i. wake_answer (refusal_of (sym h.rel.image i) (wakes-allowed i) a.0) (length (woken-same i)))

    pub wake-step : IsStep f m k e 0 (Pending.FutexWake a all)
    wake-step = machine-step h 0 (act-is h) tt (λ i. Act.FutexWake a (wake-answers i) ((sym wake-here.1 ∙ ap T.replies_of woken-same) i))

    -- those who are woken don't wait any more
    told-same : (n : ℕ) (ws : List (ThreadIx × Told)) → list_any (λ (p : ThreadIx × Reply). p.0.0 == n) (T.replies_of ws) ≡ list_any (λ (p : ThreadIx × Told). p.0.0 == n) ws
    told-same n [] = refl
    told-same n (w ∷ ws) = ap (λ b. (w.0.0 == n) || b) (told-same n ws)

    still-same : (ws : List (ThreadIx × Told)) (fs : List Waiter) → still_there (T.replies_of ws) fs ≡ still_waiting ws fs
    still-same ws fs = λ i. filter (λ (w : Waiter). not (told-same w.thread.0 ws i)) fs

    pub wake-kept : (x : ℕ) → MemoryIs (stepped f.image f.cpus f.processors f.sites e) (T.after m (f.processors k).context.thread x (Pending.FutexWake a all) rest)
    wake-kept x =
        record {
          memory = ap (λ (b : Bytes). b.memory) now ∙ (h.rel.memory.memory ∙ sym (after-reads (λ s. s.memory) (λ s threads. refl)));
          stacks = ap (λ (b : Bytes). b.stacks) now ∙ (h.rel.memory.stacks ∙ sym (after-reads (λ s. s.stacks) (λ s threads. refl)));
          futexes = ap (λ (b : Bytes). b.futexes) now
              ∙ ((λ i. still_there ((sym wake-here.1 ∙ ap T.replies_of woken-same) i) (h.rel.memory.futexes i))
              ∙ (still-same woken m.futexes ∙ sym (after-reads (λ s. s.futexes) (λ s threads. refl))));
        }
      where
        t : ℕ
        t = (f.processors k).context.thread

        woken : List (ThreadIx × Told)
        woken = futex_woken m t a.0 all

        now : bytes (stepped f.image f.cpus f.processors f.sites e) ≡ memory_after f.image (bytes f) (Act.FutexWake a (answer_in (act_in e.act)) (woken_in (act_in e.act))) e.moved
        now = bytes-after h (Act.FutexWake a (answer_in (act_in e.act)) (woken_in (act_in e.act))) (site-is h) (ap act_in (act-is h))

        -- what threads are told isn't read
        after-reads : {A : Type 0} (read : State → A) → ((s : State) (threads : List Thread) → read (record s { threads = threads }) ≡ read s)
            → read (T.after m t x (Pending.FutexWake a all) rest) ≡ read (with_waiters m FUTEX_CELL (still_waiting woken m.futexes))
        after-reads read none =
            shared-went read none rest (wrote (effects_of m t x (Pending.FutexWake a all)) m) t (next_of m t x (Pending.FutexWake a all))
            ∙ woken-by (λ (s : State). read s ≡ read (with_waiters m FUTEX_CELL (still_waiting woken m.futexes))) (λ s u told k. none s _ ∙ k) woken
            (with_waiters m FUTEX_CELL (still_waiting woken m.futexes)) refl
