-- What is told after a step beside the instructions: a mark ends a wait, a timer runs out, and an end is told to those who wait for it.
use Rattle.um_refinement.proofs.Words.{and_parts, ROWS, ne_eqb, ◌&&◌, MayChoose, Row, Waiter, act_in, filter, in_order, wakings-more, ◌≡◌, ℕ, suc, ◌+◌, ◌<◌, ◌≤◌, Bool, true, false, List, [], ◌∷◌, ◌++◌, length, refl, sym, ap, ◌∙◌, subst, arith, ◌==◌, if◌then◌else◌, eqb-true, Told, THREADS, Errno, Pending, to_thread, State, object_at, thread_at, with_object, AreKept, Todo, Todos, FineStep, Site, Fine, ThreadIx, Object, Scheduler, told_at, same_site, scheduler, times, wakings, wakings-more, ToldIs}
use Rattle.std.specs.Prelude.{map}
use Rattle.um_machine.specs.Table as T
use Rattle.um_base.specs.declared.limits.TheConstants.{FUTEX_CELL, JOIN_CELL}
use Rattle.um_base.specs.declared.names.Reply.{Reply}
use Rattle.um_machine.specs.Joins.{all_joined, joins, without_joins}
use Rattle.um_machine.specs.Services.{runs_out, told, without}
use Rattle.um_machine.specs.State.{is_waiting, waiters_in, with_waiters}
use Rattle.um_machine.specs.Time.{late_reply, told_late}
use Rattle.um_machine.specs.Run.{stands_in}
use Rattle.um_machine.specs.Writes.{cut}
use Rattle.um_words.specs.declared.fine.Mark.{Mark}
use Rattle.um_invariants.proofs.ThreadCells.{cell, cell-is, place_of}
use Rattle.um_invariants.proofs.ThreadCounts.{count-any}
use Rattle.um_invariants.proofs.ThreadWaits.{all-order, is_of, some-order, times-first, told-wakings}
use Rattle.um_fine.specs.Answers.{is_void, woken_in}
use Rattle.um_fine.specs.Asks.{idle_site}
use Rattle.um_fine.specs.Follows.{told_all, told_marked}
use Rattle.std.proofs.lemmas.List.{append-nil}
use Rattle.um_refinement.specs.Stops.{cell_site}
use Rattle.um_refinement.proofs.Erased.{around}
use Rattle.um_refinement.proofs.LawfulSteps.{Suits}
use Rattle.um_refinement.proofs.LeaveSteps.{tells}
use Rattle.um_refinement.proofs.Leaves.{Beside, Lawful, cuts, expires, leaves, ticks, times_out}
use Rattle.um_refinement.proofs.ListWakes.{named, takes-wakers, wakers}
use Rattle.um_refinement.proofs.SchedulerSteps.{made-at, sched-else}
use Rattle.um_refinement.proofs.SearchSteps.{expire-says}
use Rattle.um_refinement.proofs.StepReads.{is-behind}
use Rattle.um_refinement.proofs.ToldFacts.{woken-told}
use Rattle.um_refinement.proofs.ToldSteps.{elsewhere, set-told, wakers-now, wakes-same, wakes-some}

-- what an event says of those whom it wakes is what they are told
pub told-back : (reply : Reply) (vs : List Waiter) → let ws = map (λ (w : Waiter). told w reply []) vs in told_all (T.replies_of ws) ≡ ws
told-back reply [] = refl
told-back reply (v ∷ vs) = ap (λ ws. told v reply [] ∷ ws) (told-back reply vs)

-- and so for the one whom a timer serves
pub out-back : (ws vs : List Waiter) → told_all (T.replies_of (runs_out ws vs).2) ≡ (runs_out ws vs).2
out-back ws [] = refl
out-back ws (v ∷ vs) = refl

-- one thread is woken, which waits
one-often : (t : ℕ) (ws : List Waiter) (w : ThreadIx × Told) → 1 ≤ times w.0.0 ws → wakings t (w ∷ []) ≤ times t ws
one-often t ws w there = by (w.0.0 == t) refl
  where
    all : wakings t (w ∷ []) ≡ (if w.0.0 == t then 0 + 1 else 0)
    all = wakings-more t w []

    by : (b : Bool) → (w.0.0 == t) ≡ b → wakings t (w ∷ []) ≤ times t ws
    by true k =
        let one = all ∙ ap (λ b. if b then 0 + 1 else 0) k in
        let here : 1 ≤ times t ws = subst (λ n. 1 ≤ times n ws) (eqb-true w.0.0 t k) there in
        omega (arith, one, here)
    by false k = let none = all ∙ ap (λ b. if b then 0 + 1 else 0) k in omega (arith, none)

-- the cell of a mark's site
marked-cell : (x : ℕ) → x < ROWS + 2 → late_reply (if cell_site x == 304 then FUTEX_CELL else cell_site x) ≡ late_reply x
marked-cell x l = by (x == JOIN_CELL) refl (x == FUTEX_CELL) refl
  where
    site : ℕ → ℕ
    site c = if c == 304 then FUTEX_CELL else c

    by : (a : Bool) → (x == JOIN_CELL) ≡ a → (b : Bool) → (x == FUTEX_CELL) ≡ b → late_reply (if cell_site x == 304 then FUTEX_CELL else cell_site x) ≡ late_reply x
    by true k b h = ap (λ n. late_reply (site (cell_site n))) (eqb-true x JOIN_CELL k) ∙ ap late_reply (sym (eqb-true x JOIN_CELL k))
    by false k true h = ap (λ n. late_reply (site (cell_site n))) (eqb-true x FUTEX_CELL h) ∙ ap late_reply (sym (eqb-true x FUTEX_CELL h))
    by false k false h =
        ap (λ n. late_reply (site n)) (λ i. if k i then 308 else if h i then 304 else 168 + x)
        ∙ (ap late_reply (ap (λ b. if b then FUTEX_CELL else 168 + x) (ne_eqb (168 + x) 304 (λ e. omega (arith, e, l))))
        ∙ (ap (λ b. if b then Errno.ETIMEDOUT else Errno.EAGAIN) (ne_eqb (168 + x) FUTEX_CELL (λ e. omega (arith, e)))
        ∙ sym (ap (λ b. if b then Errno.ETIMEDOUT else Errno.EAGAIN) h)))

module _ (f : Fine) (m : State) (e : FineStep) (law : Lawful f m e) (suits : Suits f m) (kept : AreKept m) (t : ℕ) (few : t < THREADS) where
  open around f e use {later, processor as p, now}
  open is-behind f m e law use {frame}

  room : t < length m.threads
  room = let many = law.sound.wide.threads in omega (arith, few, many)

  -- a look that cuts a thread tells nobody
  cut-told : (u x who site before : ℕ) (todo : Todos) → p.todo ≡ Todo.look who site before ∷ todo → ToldIs later (T.after m u x (Pending.Cut (to_thread who)) (thread_at m u).pending) t
  cut-told u x who site before todo at =
      let z = with_waiters m x (without who (waiters_in m x)) in
      wakes-same f m e law kept t few (T.after m u x (Pending.Cut (to_thread who)) (thread_at m u).pending) (set-told z who (cut (thread_at z who)) t refl)
      (wakers-now f m e law kept t few (Todo.look who site before) todo at ∙ sym (ap wakers at)) (elsewhere f m e law kept t few (Todo.look who site before) todo at refl)

  -- a mark in the hand: whom it wakes stands on the list then
  module _ (deadline : ℕ) (mark : Mark) (todo : Todos) (at : p.todo ≡ Todo.handle deadline mark ∷ todo) (found : is_void e.act ≡ false) where
    bare : wakers p.todo ≡ []
    bare = ap wakers at ∙ ap wakers (frame (Todo.handle deadline mark) todo at)

    lists : wakers now.todo ≡ named (told_marked mark (woken_in (act_in e.act)))
    lists =
        wakers-now f m e law kept t few (Todo.handle deadline mark) todo at
        ∙ ((λ i. (if found i then [] else named (told_marked mark (woken_in (act_in e.act)))) ++ ap wakers (frame (Todo.handle deadline mark) todo at) i) ∙ append-nil (named (told_marked mark (woken_in (act_in e.act)))))

    here : told_at (scheduler later) t ≡ told_at (scheduler f) t
    here = elsewhere f m e law kept t few (Todo.handle deadline mark) todo at refl

  times-out-told : (u deadline site x : ℕ) (who : ThreadIx) (todo : Todos) → p.todo ≡ Todo.handle deadline (Mark.Thread who site) ∷ todo → site ≡ cell_site x → x < ROWS + 2 → is_void e.act ≡ false
      → MayChoose m u x (Pending.TimeOut who) → ToldIs later (T.after m u x (Pending.TimeOut who) (thread_at m u).pending) t
  times-out-told u deadline site x who todo at place inside found chosen =
      wakes-some f m e law kept t few (T.after m u x (Pending.TimeOut who) (thread_at m u).pending) (told_late who x) (place_of x) (one-often t (cell m (place_of x)) (who, (told_late-of who x)) there)
      (woken-told (told_late who x) (with_waiters m x (without who.0 (waiters_in m x))) t room)
      (lists deadline (Mark.Thread who site) todo at found ∙ ap (λ r. named ((who, record { reply = Reply.Fail r; taken = [] }) ∷ [])) (ap (λ n. late_reply (if n == 304 then FUTEX_CELL else n)) place ∙ marked-cell x inside))
      (bare deadline (Mark.Thread who site) todo at found) (here deadline (Mark.Thread who site) todo at found)
    where
      told_late-of : ThreadIx → ℕ → Told
      told_late-of who x = record { reply = Reply.Fail (late_reply x); taken = [] }

      stands : stands_in who.0 (waiters_in m x) ≡ true
      stands = (and_parts (is_waiting (thread_at m who.0)) _ (and_parts _ (is_waiting (thread_at m who.0) && stands_in who.0 (waiters_in m x)) chosen).1).1

      there : 1 ≤ times who.0 (cell m (place_of x))
      there = subst (λ (ws : List Waiter). 1 ≤ times who.0 ws) (cell-is m x) (count-any (is_of who.0) (waiters_in m x) stands)

  expires-told : (u deadline : ℕ) (y : Row) (todo : Todos) → p.todo ≡ Todo.handle deadline (Mark.Timer y) ∷ todo → is_void e.act ≡ false
      → T.replies_of (runs_out (object_at m y.0).waiters (in_order (object_at m y.0).waiters)).2 ≡ woken_in (act_in e.act) → ToldIs later (T.after m u y.0 Pending.Expire (thread_at m u).pending) t
  expires-told u deadline y todo at found says =
      wakes-some f m e law kept t few (T.after m u y.0 Pending.Expire (thread_at m u).pending) (runs_out o.waiters (in_order o.waiters)).2 (suc (suc y.0)) (served (in_order o.waiters) (all-order o.waiters))
      (woken-told (runs_out o.waiters (in_order o.waiters)).2 (with_object m y.0 (record o { contents = (runs_out o.waiters (in_order o.waiters)).0; waiters = (runs_out o.waiters (in_order o.waiters)).1 })) t room)
      (lists deadline (Mark.Timer y) todo at found ∙ (ap (λ rs. named (told_all rs)) (sym says) ∙ ap named (out-back o.waiters (in_order o.waiters))))
      (bare deadline (Mark.Timer y) todo at found) (here deadline (Mark.Timer y) todo at found)
    where
      o : Object
      o = object_at m y.0

      served : (vs : List Waiter) → ((u : ℕ) → times u vs ≤ times u (object_at m y.0).waiters) → wakings t (runs_out (object_at m y.0).waiters vs).2 ≤ times t (cell m (suc (suc y.0)))
      served [] among = omega arith
      served (v ∷ vs) among = one-often t (object_at m y.0).waiters (told v (Reply.Num 1) []) (let first = times-first v vs in let more = among v.thread.0 in omega (arith, first, more))

  left-told : (u : ℕ) (todo : Todos) → p.todo ≡ Todo.leave ∷ todo → T.replies_of (all_joined m u) ≡ woken_in (act_in e.act) → ToldIs later (T.after m u 0 Pending.Left (thread_at m u).pending) t
  left-told u todo at says =
      wakes-some f m e law kept t few (T.after m u 0 Pending.Left (thread_at m u).pending) (all_joined m u) 0 fewer (woken-told (all_joined m u) (with_waiters m JOIN_CELL (without_joins m u)) t room)
      (wakers-now f m e law kept t few Todo.leave todo at
      ∙ ((λ i. named (told_all (sym says i)) ++ behind i) ∙ (append-nil (named (told_all (T.replies_of (all_joined m u)))) ∙ ap named (told-back (Reply.Num 0) (in_order (filter (joins u) m.joins))))))
      (ap wakers at ∙ behind) (elsewhere f m e law kept t few Todo.leave todo at refl)
    where
      behind : wakers todo ≡ []
      behind = ap wakers (frame Todo.leave todo at).2

      fewer : wakings t (all_joined m u) ≤ times t (cell m 0)
      fewer =
          let same = told-wakings (Reply.Num 0) (in_order (filter (joins u) m.joins)) t in
          let among = some-order (joins u) m.joins t in
          omega (arith, same, among)

  -- time goes on
  ticks-told : (s : State) → (thread_at s t).told ≡ (thread_at m t).told → p.todo ≡ [] → e.site ≡ Site.clock → ToldIs later s t
  ticks-told s machine at site =
      wakes-same f m e law kept t few s machine (takes-wakers f.image p e at ∙ sym (ap wakers at)) (ap (λ (z : Scheduler). told_at z t) (sched-else f m e law (ap (λ i. same_site i Site.scheduler) site)))

  pub told-beside : (u x : ℕ) (q : Pending) → Beside f m e u x q → MayChoose m u x q → ToldIs later (T.after m u x q (thread_at m u).pending) t
  told-beside u x _ (cuts who site before _ todo at place inside said) chosen = cut-told u x who site before todo at
  told-beside u x _ (times_out deadline site _ who todo at place inside said) chosen = times-out-told u deadline site x who todo at place inside (ap is_void said) chosen
  told-beside u _ _ (expires deadline y todo at inside said) chosen =
      expires-told u deadline y todo at (ap is_void said)
      (expire-says f m law.rel suits.waits law.sound.wide.threads e.cpu law.by.named e law.by.may law.taken deadline y todo at said)
  told-beside u _ _ (ticks at said) chosen = ticks-told _ refl at (made-at f m e law [] at ∙ ap (idle_site f.image p) said)
  told-beside u _ _ (leaves todo at said) chosen =
      left-told p.context.thread todo at
      (ap (λ ws. T.replies_of (map (λ (w : Waiter). told w (Reply.Num 0) []) (in_order (filter (joins p.context.thread) ws)))) (sym law.rel.joins.waiters)
      ∙ tells f m law.rel law.sound suits.proper e.cpu law.by.named e law.by.may law.taken todo at said)
