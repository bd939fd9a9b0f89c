-- No thread is woken or cut that there isn't, after every lawful step.
use Rattle.um_refinement.proofs.Words.{Act, Errno, FineAct, Unseen, MayChoose, Waiter, filter, map, in_order, by_me, one_if, ◌+◌, ◌≡◌, ℕ, zero, suc, ◌<◌, ◌≤◌, Bool, true, false, List, [], ◌∷◌, ◌++◌, length, Option, Some, None, refl, sym, ap, ◌∙◌, subst, arith, eq-eqb, ◌==◌, if◌then◌else◌, nat_lt, slice_index_or, list_all, and_from, and_parts, eqb-true, false≢true, lt-ltb, true≢false, Ask, Told, THREADS, Addr, ThreadIx, Pending, Thread, Steps, to_thread, State, nobody, object_at, thread_at, AreKept, is_resume, act_in, outcome_in, outcome_of, Todo, Todos, FineStep, Fine, counted, served, IsServed}
use Rattle.um_base.specs.declared.names.Reply.{Reply}
use Rattle.um_machine.specs.Futexes.{futex_refusal, futex_woken, is_on, roused}
use Rattle.um_machine.specs.Joins.{all_joined, joins as joins_on}
use Rattle.um_machine.specs.Run.{stands_in, waits_at}
use Rattle.um_machine.specs.Services.{runs_out, told}
use Rattle.um_machine.specs.State.{is_waiting, waiters_in}
use Rattle.um_machine.specs.Table as T
use Rattle.um_invariants.proofs.ThreadCells.{cell}
use Rattle.um_invariants.proofs.ThreadWaits.{all-order, some-order, times as times_in, times-first, told-wakings, wakings, wakings-more}
use Rattle.um_words.specs.declared.fine.Mark.{Mark}
use Rattle.um_fine.specs.Answers.{is_void, woken_in}
use Rattle.um_fine.specs.Asks.{by_actor, marks_end}
use Rattle.um_fine.specs.Follows.{told_all, told_marked}
use Rattle.um_refinement.specs.Lists.{is_cut_told}
use Rattle.um_refinement.specs.Threads.{cutters}
use Rattle.um_refinement.proofs.CuttersKept.{cutters-apart, cutters-idle, cutters-on, cutters-other}
use Rattle.um_refinement.proofs.LeaveSteps.{tells}
use Rattle.um_refinement.proofs.ListCuts.{found}
use Rattle.um_refinement.proofs.MemorySteps.{part-total}
use Rattle.um_refinement.proofs.SearchSteps.{cut-chosen, expire-says}
use Rattle.um_refinement.proofs.ToldBeside.{out-back, told-back}
use Rattle.um_refinement.proofs.ToldPart.{few-of}
use Rattle.um_refinement.proofs.ToldSteps.{wakers-now}
use Rattle.um_refinement.proofs.Bounds.{AreBounded, AreThreads}
use Rattle.um_refinement.proofs.ContextsPart.{is_shown, read-only}
use Rattle.um_refinement.proofs.Erased.{around}
use Rattle.um_refinement.proofs.LawfulSteps.{Suits}
use Rattle.um_refinement.proofs.Leaves.{Beside, Lawful, Leaves, beside, cleans, cuts, drops, event, expires, leaves as tells_left, nothing, passes, recycles, resumes, ticks as time_passes, times_out}
use Rattle.um_refinement.proofs.ListWakes.{Wakes, named, takes-wakers, wakers, woken_by}
use Rattle.um_refinement.proofs.MemoryPart.{InDomains}
use Rattle.um_refinement.proofs.Offered.{IsStep, IsStopping, Shows, by-made, own-part}
use Rattle.um_refinement.proofs.OwnKept.{carries}
use Rattle.um_refinement.proofs.Taking.{Idles, idles, taken-index, takes, tends}
use Rattle.um_refinement.proofs.SchedulerSteps.{made-says}
use Rattle.um_refinement.proofs.StepReads.{last-read}

-- who is served by a timer waits there
served-few : (ws : List Waiter) (u : ℕ) (vs : List Waiter) → ((v : ℕ) → times_in v vs ≤ times_in v ws) → wakings u (runs_out ws vs).2 ≤ times_in u ws
served-few ws u [] among = omega arith
served-few ws u (v ∷ vs) among = by (v.thread.0 == u) refl
  where
    one : wakings u ((v.thread, (record { reply = Reply.Num 1; taken = [] })) ∷ []) ≡ (if v.thread.0 == u then 0 + 1 else 0)
    one = wakings-more u (v.thread, (record { reply = Reply.Num 1; taken = [] })) []

    by : (b : Bool) → (v.thread.0 == u) ≡ b → wakings u (runs_out ws (v ∷ vs)).2 ≤ times_in u ws
    by true k =
        let all = one ∙ ap (λ b. if b then 0 + 1 else 0) k in
        let first = times-first v vs in
        let more = among v.thread.0 in
        let here : 1 ≤ times_in u ws = subst (λ n. 1 ≤ times_in n ws) (eqb-true v.thread.0 u k) (omega (arith, first, more)) in
        omega (arith, all, here)
    by false k = let none = one ∙ ap (λ b. if b then 0 + 1 else 0) k in omega (arith, none)

-- Lists of threads.

threads-append : (xs ys : Wakes) → AreThreads xs → AreThreads ys → AreThreads (xs ++ ys)
threads-append [] ys h k = k
threads-append (x ∷ xs) ys h k = let parts = and_parts _ _ h in and_from _ _ parts.0 (threads-append xs ys parts.1 k)

-- a thread that waits is one of those that there are
waits-inside : (ts : List Thread) (u : ℕ) → is_resume (slice_index_or ts u nobody).pending ≡ true → u < length ts
waits-inside [] u h = absurd (false≢true h)
waits-inside (t ∷ ts) zero h = omega arith
waits-inside (t ∷ ts) (suc u) h = let l = waits-inside ts u h in omega (arith, l)

waits-there : (ts : List Thread) (u : ℕ) → is_waiting (slice_index_or ts u nobody) ≡ true → u < length ts
waits-there [] u h = absurd (false≢true h)
waits-there (t ∷ ts) zero h = omega arith
waits-there (t ∷ ts) (suc u) h = let l = waits-there ts u h in omega (arith, l)

module _ (f : Fine) (m : State) (e : FineStep) (law : Lawful f m e) (was : AreBounded f) where
  open around f e use {later, processor as p, now}

  module _ (suits : Suits f m) (all : InDomains f m) (kept : AreKept m) where
    -- Those that are woken.

    cell-below : (y u : ℕ) → 1 ≤ times_in u (cell m y) → u < THREADS
    cell-below y u there =
        let many = law.sound.wide.threads in
        let inside = waits-inside m.threads u (kept.waits y u there).0 in
        omega (arith, many, inside)

    threads-few : (ws : List (ThreadIx × Told)) → ((u : ℕ) → 1 ≤ wakings u ws → u < THREADS) → AreThreads (named ws)
    threads-few [] h = refl
    threads-few (w ∷ ws) h =
        let one : 1 ≤ wakings w.0.0 (w ∷ ws) =
        (let all = wakings-more w.0.0 w ws in let here = ap (λ b. if b then wakings w.0.0 ws + 1 else wakings w.0.0 ws) (eq-eqb w.0.0 w.0.0 refl) in omega (arith, all, here)) in
        and_from _ _ (lt-ltb w.0.0 THREADS (h w.0.0 one)) (threads-few ws (λ u some. h u (more u some)))
      where
        more : (u : ℕ) → 1 ≤ wakings u ws → 1 ≤ wakings u (w ∷ ws)
        more u some =
            let all = wakings-more u w ws in
            elim (w.0.0 == u) as (λ b. wakings u (w ∷ ws) ≡ (if b then wakings u ws + 1 else wakings u ws) → 1 ≤ wakings u (w ∷ ws)) [
              | true ↦ λ e. omega (arith, e)
              | false ↦ λ e. omega (arith, e, some)
            ] all

    -- threads that wait in a cell are woken
    from-cell : (y : ℕ) (ws : List (ThreadIx × Told)) → ((u : ℕ) → wakings u ws ≤ times_in u (cell m y)) → AreThreads (named ws)
    from-cell y ws few = threads-few ws (λ u some. let less = few u in cell-below y u (omega (arith, some, less)))

    work-wakes : (a : Addr) (ask : Ask) (rest : Steps) (todo : Todos) (x : ℕ) → Shows f m e.cpu e (Pending.Work a ask) rest todo → IsStep f m e.cpu e x (Pending.Work a ask)
        → AreThreads (named (outcome_in e.moved).woken)
    work-wakes a ask rest todo x h is = subst (λ z. AreThreads (named z.woken)) (sym outcome) (from-cell (suc (suc (T.row_of m a))) (T.work_of m p.context.thread a ask).woken serves.often)
      where
        room : p.context.thread < length m.threads
        room = let many = law.sound.wide.threads in let index = (own-part h).index in omega (arith, index, many)

        outcome : outcome_in e.moved ≡ outcome_of (T.work_of m p.context.thread a ask)
        outcome = carries f m e law suits all rest todo x (Pending.Work a ask) h room tt is

        serves : IsServed (object_at m (T.row_of m a)).waiters p.context.thread (T.work_of m p.context.thread a ask)
        serves =
            served (object_at m (T.row_of m a)).waiters
            (record {
              thread = to_thread p.context.thread;
              priority = (thread_at m p.context.thread).priority;
              ask = ask;
              bytes = T.bytes_given (thread_at m p.context.thread).buffer ask;
              until = (thread_at m p.context.thread).until;
            }) (kept.once (suc (suc (T.row_of m a)))) (object_at m (T.row_of m a)).contents ask

    futex-wakes : (a : Addr) (every : Bool) (rest : Steps) (x : ℕ) → IsStep f m e.cpu e x (Pending.FutexWake a every) → AreThreads (woken_by e (Todo.show (Pending.FutexWake a every) rest))
    futex-wakes a every rest x is =
        let v = p.context.thread in
        subst AreThreads
        (sym (ap (λ act. named (told_all (woken_in act))) (ap act_in is.said ∙ is.says) ∙ ap named (told-back (Reply.Num 0) (roused m a.0 every (futex_refusal m v a.0)))))
        (from-cell 1 (futex_woken m v a.0 every)
        (λ u. let same = told-wakings (Reply.Num 0) (roused m a.0 every (futex_refusal m v a.0)) u in let less = rousing u (futex_refusal m v a.0) in omega (arith, same, less)))
      where
        rousing : (u : ℕ) (o : Option Errno) → times_in u (roused m a.0 every o) ≤ times_in u m.futexes
        rousing u (Some error) = omega arith
        rousing u None =
            let some = few-of every (in_order (filter (is_on a.0) m.futexes)) u in
            let among = some-order (is_on a.0) m.futexes u in
            omega (arith, some, among)

    woken-below : (q : Pending) (rest : Steps) (todo : Todos) (x : ℕ) → Shows f m e.cpu e q rest todo → IsStep f m e.cpu e x q → AreThreads (woken_by e (Todo.show q rest))
    woken-below (Pending.Work a ask) rest todo x h is = work-wakes a ask rest todo x h is
    woken-below (Pending.FutexWake a every) rest todo x h is = futex-wakes a every rest x is
    woken-below q rest todo x h is = refl

    -- a kill wakes nobody, nor does what stood on the list in its place
    listed-below : (q : Pending) (rest : Steps) (todo : Todos) (x : ℕ) → (h : Shows f m e.cpu e q rest todo) → IsStep f m e.cpu e x q → AreThreads (woken_by e (Todo.show h.listed rest))
    listed-below q rest todo x h is = by-made h (λ z. AreThreads (woken_by e (Todo.show z rest)) → AreThreads (woken_by e (Todo.show h.listed rest))) (λ goes k. k) (λ killed stops k. stopping h.listed stops) (woken-below q rest todo x h is)
      where
        stopping : (z : Pending) → IsStopping z → AreThreads (woken_by e (Todo.show z rest))
        stopping Pending.Begin stops = refl
        stopping Pending.Exit stops = refl
        stopping Pending.Killed stops = refl
        stopping z stops = absurd stops

    tail-threads : (q : Todo) (todo : Todos) → AreThreads (wakers (q ∷ todo)) → AreThreads (wakers todo)
    tail-threads (Todo.wake who told) todo h = (and_parts _ _ h).1
    tail-threads q todo h = h

    wakes-by : (q : Todo) (todo : Todos) → p.todo ≡ q ∷ todo → AreThreads (woken_by e q) → AreThreads (wakers now.todo)
    wakes-by q todo at h =
        subst AreThreads (sym (wakers-now f m e law kept 0 (omega arith) q todo at))
        (threads-append (woken_by e q) (wakers todo) h (tail-threads q todo (subst (λ (z : Todos). AreThreads (wakers z)) at (was.wakes e.cpu law.by.named))))

    wakes-none : p.todo ≡ [] → AreThreads (wakers now.todo)
    wakes-none at = ap (list_all (λ w. nat_lt w.0 THREADS)) (takes-wakers f.image p e at)

    quiet-wakes : is_shown e.act ≡ false → (todo : Todos) → p.todo ≡ todo → AreThreads (wakers now.todo)
    quiet-wakes quiet [] at = wakes-none at
    quiet-wakes quiet (Todo.show q rest ∷ todo) at =
        wakes-by (Todo.show q rest) todo at
        (ap (list_all (λ w. nat_lt w.0 THREADS)) ((last-read f m e law (Todo.show q rest) todo at).0 (read-only f m e law q (made-says f m e law (Todo.show q rest ∷ todo) at) quiet)).1)
    quiet-wakes quiet (Todo.leave ∷ todo) at = wakes-by Todo.leave todo at (ap (list_all (λ w. nat_lt w.0 THREADS)) (unseen-wakes e.act quiet))
      where
        unseen-wakes : (act : FineAct) → is_shown act ≡ false → named (told_all (woken_in (act_in act))) ≡ []
        unseen-wakes (FineAct.Unseen u) h = refl
        unseen-wakes (FineAct.Shown said more) h = absurd (true≢false h)
    quiet-wakes quiet (Todo.handle deadline mark ∷ todo) at = wakes-by (Todo.handle deadline mark) todo at (ap (list_all (λ w. nat_lt w.0 THREADS)) (by (is_void e.act) refl))
      where
        by : (b : Bool) → is_void e.act ≡ b → (if is_void e.act then [] else named (told_marked mark (woken_in (act_in e.act)))) ≡ []
        by true k = ap (λ b. if b then [] else named (told_marked mark (woken_in (act_in e.act)))) k
        by false k =
            absurd
            (false≢true
            (sym quiet
            ∙ ap is_shown (made-says f m e law (Todo.handle deadline mark ∷ todo) at ∙ ap (λ b. if b then FineAct.Unseen Unseen.Void else by_actor f.image p (marks_end f.image p mark e.act)) k)))
    quiet-wakes quiet (q ∷ todo) at = wakes-by q todo at refl

    -- a mark in the hand wakes who waits with it
    marked-wakes : (deadline : ℕ) (mark : Mark) (todo : Todos) → p.todo ≡ Todo.handle deadline mark ∷ todo → AreThreads (named (told_marked mark (woken_in (act_in e.act)))) → AreThreads (wakers now.todo)
    marked-wakes deadline mark todo at h = wakes-by (Todo.handle deadline mark) todo at (by (is_void e.act))
      where
        by : (b : Bool) → AreThreads (if b then [] else named (told_marked mark (woken_in (act_in e.act))))
        by true = refl
        by false = h

    beside-wakes : (t x : ℕ) (q : Pending) → Beside f m e t x q → MayChoose m t x q → AreThreads (wakers now.todo)
    beside-wakes t x _ (cuts who site before _ todo at place inside said) chosen = wakes-by (Todo.look who site before) todo at refl
    beside-wakes t x _ (times_out deadline site _ who todo at place inside said) chosen =
        let waits = (and_parts (is_waiting (thread_at m who.0)) (stands_in who.0 (waiters_in m x)) (and_parts _ (waits_at m who.0 x) chosen).1).0 in
        let many = law.sound.wide.threads in
        let within = waits-there m.threads who.0 waits in
        marked-wakes deadline (Mark.Thread who site) todo at (and_from _ true (lt-ltb who.0 THREADS (omega (arith, many, within))) refl)
    beside-wakes t x _ (expires deadline y todo at inside said) chosen =
        let o = object_at m y.0 in
        marked-wakes deadline (Mark.Timer y) todo at
        (subst AreThreads
        (sym (ap (λ rs. named (told_all rs)) (sym (expire-says f m law.rel suits.waits law.sound.wide.threads e.cpu law.by.named e law.by.may law.taken deadline y todo at said)) ∙ ap named (out-back o.waiters (in_order o.waiters))))
        (from-cell (suc (suc y.0)) (runs_out o.waiters (in_order o.waiters)).2 (λ u. served-few o.waiters u (in_order o.waiters) (all-order o.waiters))))
    beside-wakes t x _ (time_passes at said) chosen = wakes-none at
    beside-wakes t x _ (tells_left todo at said) chosen =
        let v = p.context.thread in
        wakes-by Todo.leave todo at
        (subst AreThreads
        (ap (λ rs. named (told_all rs))
        (ap (λ ws. T.replies_of (map (λ (w : Waiter). told w (Reply.Num 0) []) (in_order (filter (joins_on v) ws)))) (sym law.rel.joins.waiters)
        ∙ tells f m law.rel law.sound suits.proper e.cpu law.by.named e law.by.may law.taken todo at said))
        (subst AreThreads (sym (ap named (told-back (Reply.Num 0) (in_order (filter (joins_on v) m.joins)))))
        (from-cell 0 (all_joined m v)
        (λ u. let same = told-wakings (Reply.Num 0) (in_order (filter (joins_on v) m.joins)) u in let among = some-order (joins_on v) m.joins u in omega (arith, same, among)))))

    pub wakes-mine : (s : State) (leaves : Leaves f m e s) → AreThreads (wakers now.todo)
    wakes-mine _ (nothing u said) = quiet-wakes (ap is_shown said) p.todo refl
    wakes-mine _ (event q rest todo x h shown is) = wakes-by (Todo.show h.listed rest) todo h.at (listed-below q rest todo x h is)
    wakes-mine _ (resumes c told rest idle moved said) = wakes-none idle
    wakes-mine _ (passes who x rest todo v said) = wakes-by (Todo.pass who x) todo v.at refl
    wakes-mine _ (drops from x rest todo v said) = wakes-by (Todo.drop x) todo v.at refl
    wakes-mine _ (cleans who x rest todo v said) = wakes-by (Todo.clean_pair who x) todo v.at refl
    wakes-mine _ (recycles x rest todo at few said chosen) = wakes-by (Todo.recycle x) todo at refl
    wakes-mine _ (beside t x q how chosen started) = beside-wakes t x q how chosen

    -- No thread is cut beyond the last index.
    pub uncut-kept : (s : State) → Leaves f m e s → (t : ℕ) → nat_lt t THREADS ≡ false → cutters later t ≡ 0
    uncut-kept s how t past = by p.todo refl
      where
        before : cutters f t ≡ 0
        before = was.uncut t past

        apart : (u : ℕ) → u < THREADS → u ≡ t → ⊥
        apart u few same = true≢false (sym (lt-ltb u THREADS few) ∙ (ap (λ n. nat_lt n THREADS) same ∙ past))

        -- who is cut by a look waits, and so has an index
        none-found : (q : Todo) (todo : Todos) → p.todo ≡ q ∷ todo → found f.image t e q ≡ 0
        none-found (Todo.look who site before) todo at = which (is_void e.act) refl
          where
            cuts-one : e.act ≡ by_me f.image p (Act.Cut (to_thread who)) → (who == t) ≡ true → ⊥
            cuts-one said same =
                let chosen = cut-chosen f m law.rel suits.waits law.sound.wide.threads e.cpu law.by.named e law.by.may law.taken who site before todo at said in
                let waits = (and_parts (is_waiting (thread_at m who)) _ (and_parts (thread_at m who).aborted _ chosen).1).0 in
                let many = law.sound.wide.threads in
                let within = waits-there m.threads who waits in
                apart who (omega (arith, many, within)) (eqb-true who t same)

            shown : (c : Bool) → (who == t) ≡ c → e.act ≡ by_me f.image p (Act.Cut (to_thread who)) → one_if (who == t) ≡ 0
            shown true k said = absurd (cuts-one said k)
            shown false k said = ap one_if k

            which : (b : Bool) → is_void e.act ≡ b → (if is_void e.act then 0 else one_if (who == t)) ≡ 0
            which true k = ap (λ b. if b then 0 else one_if (who == t)) k
            which false k =
                ap (λ b. if b then 0 else one_if (who == t)) k
                ∙ shown (who == t) refl (made-says f m e law (Todo.look who site before ∷ todo) at ∙ ap (λ b. if b then FineAct.Unseen Unseen.Void else by_me f.image p (Act.Cut (to_thread who))) k)
        none-found q todo at = refl

        not-told : (who : ℕ) (todo : Todos) → p.todo ≡ Todo.tell_cut who ∷ todo → (b : Bool) → (who == t) ≡ b → cutters later t ≡ 0
        not-told who todo at false k = cutters-apart f m e law who todo at t k ∙ before
        not-told who todo at true k =
            let part = part-total (λ j. counted (is_cut_told t) (f.processors j).todo) f.cpus e.cpu law.by.named in
            let one : counted (is_cut_told t) p.todo ≡ counted (is_cut_told t) todo + 1 =
            ap (counted (is_cut_told t)) at ∙ ap (λ b. if b then counted (is_cut_told t) todo + 1 else counted (is_cut_told t) todo) k in
            let zero = before in
            absurd (omega (arith, part, one, zero))

        by : (todo : Todos) → p.todo ≡ todo → cutters later t ≡ 0
        by [] at = idles-none (idles f m e law at)
          where
            idles-none : Idles f e → cutters later t ≡ 0
            idles-none (takes first) =
                let index = taken-index f m e law first in
                let all = cutters-other f m e law at first.site first.said first.thread first.list first.ready t (apart first.thread index) in all ∙ before
            idles-none (tends is) = cutters-idle f m e law t at is.site ∙ before
        by (Todo.tell_cut who ∷ todo) at = not-told who todo at (who == t) refl
        by (q ∷ todo) at =
            let all = cutters-on f m e law t q todo at refl in
            let none = none-found q todo at in
            let zero = before in omega (arith, all, none, zero)
