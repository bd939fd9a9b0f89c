-- The cell of the joins has the machine's joins, and a place for each thread index, after every lawful step.
use Rattle.um_refinement.proofs.Words.{◌+◌, bytes-leave, allows, site_answers, ◌≡◌, ℕ, ◌<◌, Bool, true, false, List, [], ◌∷◌, ◌++◌, length, None, refl, sym, ap, ◌∙◌, subst, ◌==◌, ◌||◌, not, not-true, filter, if◌then◌else◌, list_any, length-set, true≢false, same-sound, effect, ROWS, Act, Answer, Ask, Effect, Event, Waiter, Image, ThreadIx, Exchange, FineAct, FineStep, More, Unseen, Pending, Steps, State, object_at, thread_at, to_thread, act_in, answer_in, caller_in, woken-by, wrote, work_change, went, Next, Site, SiteState, Todo, Todos, Processor, says_step, same_site, Fine}
use Rattle.um_base.specs.declared.limits.TheConstants.{FUTEX_CELL, JOIN_CELL}
use Rattle.um_base.specs.declared.names.Access.TheVariants as Access
use Rattle.um_base.specs.declared.names.Timeout.{Timeout}
use Rattle.um_machine.specs.Goes.{asked_way}
use Rattle.um_machine.specs.Joins as Plain
use Rattle.um_machine.specs.Services.{without}
use Rattle.um_machine.specs.State.{waiters_in, with_waiters}
use Rattle.um_machine.specs.Table as T
use Rattle.um_machine.specs.Time.{told_late}
use Rattle.um_machine.specs.Writes.{only, says_wait}
use Rattle.um_words.specs.declared.fine.Mark.{Mark}
use Rattle.um_fine.specs.Asks.{site_by}
use Rattle.um_fine.specs.Joins.{Joins, all_joined, is_joined, join_after, join_after_act, join_after_unseen, left_or_shut}
use Rattle.um_fine.specs.Sites.{site_numbered}
use Rattle.um_refinement.specs.Fine.{joins}
use Rattle.um_refinement.specs.Stops.{JoinsAre, cell_site}
use Rattle.um_refinement.proofs.CellSites.{site-of-cell, waiting_cell}
use Rattle.um_refinement.proofs.Erased.{around}
use Rattle.um_refinement.proofs.Kept.{joins-sort}
use Rattle.um_refinement.proofs.Leaves.{Beside, Lawful, Leaves, acting, beside as beside_it, cleans, cuts, drops, event, expires, leaves as leaves_it, mine, nothing, passes, recycles, resumes, ticks, times_out}
use Rattle.um_refinement.proofs.Offered.{IsStep, Shows, either-act, moved-made, own-same, site-is}
use Rattle.um_refinement.proofs.ParkedPart.{joins-else, joins-later}
use Rattle.um_refinement.proofs.SchedulerSteps.{made-at}
use Rattle.um_refinement.proofs.WordsKept.{IsShown}
use Rattle.um_refinement.proofs.Writes.{reads-after}

-- The access-matrix machine.

-- the steps that write nothing of who waits to join
abbrev pub Untouched : Pending → Type 0
Untouched (Pending.Join who timeout) = ⊥
Untouched Pending.Left = ⊥
Untouched (Pending.TimeOut who) = ⊥
Untouched (Pending.Cut who) = ⊥
Untouched q = Unit {0}

abbrev no_join : Effect → Bool
no_join (Effect.waiters c ws) = not (c == JOIN_CELL)
no_join e = true

join-left : (j : List Waiter) (e : Effect) (s : State) → no_join e ≡ true → s.joins ≡ j → (effect e s).joins ≡ j
join-left j (Effect.wakes woken) s h k = woken-by (λ (z : State). z.joins ≡ j) (λ z u told k. k) woken s k
join-left j (Effect.waiters c ws) s h k = ap (λ n. if n then ws else s.joins) (not-true (c == JOIN_CELL) h) ∙ k
join-left j (Effect.bytes a bs) s h k = bytes-leave (λ z. z.joins) (λ z bytes. refl) (λ z bytes. refl) s a bs ∙ k
join-left j e s h k = k

joins-untouched : (m : State) (t x : ℕ) (q : Pending) (rest : Steps) → Untouched q → (T.after m t x q rest).joins ≡ m.joins
joins-untouched m t x (Pending.Join who timeout) rest h = absurd h
joins-untouched m t x Pending.Left rest h = absurd h
joins-untouched m t x (Pending.TimeOut who) rest h = absurd h
joins-untouched m t x (Pending.Cut who) rest h = absurd h
joins-untouched m t x q rest h = reads-after (λ s. s.joins) no_join join-left (λ s threads. refl) m t x q rest refl

-- The fine machine.

pub cell-untouched : (image : Image) (p : Processor) (j : Joins) (moved : Exchange) (q : Pending) (act : Act) → Untouched q → join_after_act j moved (says_step image p q act) ≡ j
cell-untouched image p j moved (Pending.Join who timeout) act h = absurd h
cell-untouched image p j moved Pending.Left act h = absurd h
cell-untouched image p j moved (Pending.TimeOut who) act h = absurd h
cell-untouched image p j moved (Pending.Cut who) act h = absurd h
cell-untouched image p j moved (Pending.Load to a n) act h = either-act (λ z. join_after_act j moved z) j (allows image p Access.Read a.0 n) _ _ refl refl
cell-untouched image p j moved (Pending.Store a n value) act h = either-act (λ z. join_after_act j moved z) j (allows image p Access.Write a.0 n) _ _ refl refl
cell-untouched image p j moved (Pending.Fetch a) act h = either-act (λ z. join_after_act j moved z) j (allows image p Access.Exec a.0 4) _ _ refl refl
cell-untouched image p j moved q act h = refl

-- a place for each index stays
shut-long : (j : Joins) (act : FineAct) (moved : Exchange) → length (join_after j act moved).shut ≡ length j.shut
shut-long j (FineAct.Shown told more) moved = by told.act
  where
    by : (act : Act) → length (join_after_act j moved act).shut ≡ length j.shut
    by (Act.Join who Answer.Wait) = refl
    by (Act.Join who (Answer.Now reply)) = refl
    by (Act.Left who woken) = length-set j.shut who.0 true
    by act = refl
shut-long j (FineAct.Unseen (Unseen.Shut who)) moved = length-set j.shut who.0 true
shut-long j (FineAct.Unseen (Unseen.Unshut who)) moved = length-set j.shut who.0 false
shut-long j (FineAct.Unseen u) moved = refl

asleep-long : (j : Joins) (act : FineAct) (moved : Exchange) → length (join_after j act moved).asleep ≡ length j.asleep
asleep-long j (FineAct.Shown told more) moved = by told.act
  where
    by : (act : Act) → length (join_after_act j moved act).asleep ≡ length j.asleep
    by (Act.Join who Answer.Wait) = refl
    by (Act.Join who (Answer.Now reply)) = refl
    by act = refl
asleep-long j (FineAct.Unseen Unseen.Sleep) moved = length-set j.asleep _ _
asleep-long j (FineAct.Unseen (Unseen.Rouse who)) moved = length-set j.asleep who.0 None
asleep-long j (FineAct.Unseen u) moved = refl

-- nobody is taken out of a list of whom none is meant
none-filtered : (test : Waiter → Bool) (ws : List Waiter) → list_any test ws ≡ false → filter (λ w. not (test w)) ws ≡ ws
none-filtered test [] h = refl
none-filtered test (w ∷ ws) h = by (test w) refl (none-filtered test ws)
  where
    by : (b : Bool) → test w ≡ b → (list_any test ws ≡ false → filter (λ w. not (test w)) ws ≡ ws) → (if not (test w) then w ∷ filter (λ w. not (test w)) ws else filter (λ w. not (test w)) ws) ≡ w ∷ ws
    by true k more = absurd (true≢false (sym (ap (λ b. b || list_any test ws) k) ∙ h))
    by false k more =
        ap (λ b. if not b then w ∷ filter (λ w. not (test w)) ws else filter (λ w. not (test w)) ws) k ∙ ap (λ (z : List Waiter). w ∷ z) (more (sym (ap (λ b. b || list_any test ws) k) ∙ h))

module _ (f : Fine) (m : State) (e : FineStep) (law : Lawful f m e) where
  open around f e use {later, processor as p}

  waiting : (s : State) → (joins later).waiters ≡ (joins f).waiters → s.joins ≡ m.joins → (joins later).waiters ≡ s.joins
  waiting s now same = now ∙ (law.rel.joins.waiters ∙ sym same)

  -- what is so of a part of the cell where its own step leaves it
  by-site : {A : Type 0} (g : Joins → A) → (e.site ≡ Site.joins → g (join_after (joins f) e.act e.moved) ≡ g (joins f)) → g (joins later) ≡ g (joins f)
  by-site g here = by (same_site e.site Site.joins) refl
    where
      by : (b : Bool) → same_site e.site Site.joins ≡ b → g (joins later) ≡ g (joins f)
      by true on = let at = same-sound e.site Site.joins on in ap g (joins-later f m e law at e.act refl) ∙ here at
      by false off = ap g (joins-else f m e law off)

  -- an act that takes no part in joins
  beside-joins : (said : Event) (more : More) → e.act ≡ FineAct.Shown said more → ((j : Joins) → join_after_act j e.moved said.act ≡ j) → (joins later).waiters ≡ (joins f).waiters
  beside-joins said more is none = by-site (λ (j : Joins). j.waiters) (λ at. ap (λ act. (join_after (joins f) act e.moved).waiters) is ∙ ap (λ (j : Joins). j.waiters) (none (joins f)))

  -- an end that nobody waits for: nobody joins that index
  alone : (who : ThreadIx) → e.act ≡ FineAct.Unseen (Unseen.Shut who) → e.site ≡ Site.joins → is_joined (joins f) who.0 ≡ false
  alone who said at = by (is_joined (joins f) who.0) refl
    where
      here : left_or_shut (joins f) who ≡ FineAct.Unseen (Unseen.Shut who)
      here =
          let act = FineAct.Unseen (Unseen.Shut who) in
          subst (λ (s : SiteState). site_answers f.image s e.moved act ≡ act) (joins-sort (f.sites Site.joins) (law.rel.sorts Site.joins)).1
          (subst (λ (z : Site × FineAct). site_answers f.image (f.sites z.0) e.moved z.1 ≡ z.1) (λ j. (at j, said j)) (ap (λ (s : FineStep). s.act) law.taken.filled_in))

      by : (b : Bool) → is_joined (joins f) who.0 ≡ b → b ≡ false
      by false k = refl
      by true k =
          absurd (subst (λ (z : FineAct). elim z as (λ _. Type 0) [ FineAct.Unseen u ↦ ⊥ | FineAct.Shown a b ↦ Unit {0} ])
          (sym (ap (λ b. if b then FineAct.Shown (record { thread = who; act = Act.Left who (T.replies_of (all_joined (joins f) who.0)) }) More.Nothing else FineAct.Unseen (Unseen.Shut who)) k) ∙ here) tt)

  quiet : (u : Unseen) → e.act ≡ FineAct.Unseen u → (joins later).waiters ≡ (joins f).waiters
  quiet u said = by-site (λ (j : Joins). j.waiters) (λ at. ap (λ act. (join_after (joins f) act e.moved).waiters) said ∙ by u said at)
    where
      by : (u : Unseen) → e.act ≡ FineAct.Unseen u → e.site ≡ Site.joins → (join_after_unseen (joins f) e.moved u).waiters ≡ (joins f).waiters
      by (Unseen.Shut who) said at = none-filtered (Plain.joins who.0) (joins f).waiters (alone who said at)
      by u said at = refl

  -- Joins.

  module _ (who : ThreadIx) (timeout : Timeout) (rest : Steps) (todo : Todos) (n : ℕ) (h : Shows f m e.cpu e (Pending.Join who timeout) rest todo) (is : IsStep f m e.cpu e n (Pending.Join who timeout)) where
    abbrev t : ℕ
    t = p.context.thread

    abbrev After : Answer → State
    After a = went rest (wrote (only (says_wait a) (Effect.waiters JOIN_CELL (T.queued m t JOIN_CELL (Ask.Join who))) ∷ []) m) t (Next.on (work_change a []) (asked_way a))

    asks : caller_in e.moved ≡ record { thread = to_thread p.context.thread; priority = (thread_at m p.context.thread).priority; ask = Ask.Join who; bytes = []; until = (thread_at m p.context.thread).until }
    asks =
        ap caller_in (moved-made h)
        ∙ λ i. record { thread = to_thread p.context.thread; priority = (own-same h i).priority; ask = Ask.Join who; bytes = []; until = (own-same h i).until }

    on-join : (joins later).waiters ≡ (T.after m p.context.thread n (Pending.Join who timeout) rest).joins
    on-join = by (answer_in (T.act_of m p.context.thread n (Pending.Join who timeout))) (joins-later f m e law (site-is h) _ is.said ∙ ap (λ a. join_after_act (joins f) e.moved (Act.Join who a)) (ap answer_in is.says))
      where
        by : (a : Answer) → joins later ≡ join_after_act (joins f) e.moved (Act.Join who a) → (joins later).waiters ≡ (After a).joins
        by Answer.Wait now =
            ap (λ (j : Joins). j.waiters) now
            ∙ (ap (λ (w : Waiter). without w.thread.0 (joins f).waiters ++ w ∷ []) asks
            ∙ ap (λ ws. without p.context.thread ws ++ record { thread = to_thread p.context.thread; priority = (thread_at m p.context.thread).priority; ask = Ask.Join who; bytes = []; until = (thread_at m p.context.thread).until } ∷ []) law.rel.joins.waiters)
        by (Answer.Now reply) now = ap (λ (j : Joins). j.waiters) now ∙ law.rel.joins.waiters

  by-event : (q : Pending) (rest : Steps) (todo : Todos) (n : ℕ) → Shows f m e.cpu e q rest todo → IsShown q → IsStep f m e.cpu e n q → (joins later).waiters ≡ (T.after m p.context.thread n q rest).joins
  by-event (Pending.Join who timeout) rest todo n h shown is = on-join who timeout rest todo n h is
  by-event Pending.Left rest todo n h shown is = absurd shown
  by-event (Pending.TimeOut who) rest todo n h shown is = absurd shown
  by-event (Pending.Cut who) rest todo n h shown is = absurd shown
  by-event q rest todo n h shown is =
      waiting (T.after m p.context.thread n q rest)
      (by-site (λ (j : Joins). j.waiters) (λ at. ap (λ act. (join_after (joins f) act e.moved).waiters) is.said ∙ ap (λ (j : Joins). j.waiters) (cell-untouched f.image p (joins f) e.moved q (act_in e.act) tt)))
      (joins-untouched m p.context.thread n q rest tt)

  -- Steps beside the instructions.

  -- a search that takes a thread out of the cell where it waits
  takes-out : (q : Todo) (todo : Todos) (site y : ℕ) (who : ℕ) (act : FineAct) (s : State) → p.todo ≡ q ∷ todo → site_by f.image p (q ∷ todo) e.act ≡ site_numbered site → site ≡ cell_site y → y < ROWS + 2 → e.act ≡ act
      → ((j : Joins) → (join_after j act e.moved).waiters ≡ without who j.waiters) → s.joins ≡ (with_waiters m y (without who (waiters_in m y))).joins → (joins later).waiters ≡ s.joins
  takes-out q todo site y who act s at there place inside said takes same = by (y == JOIN_CELL) refl (y == FUTEX_CELL) refl
    where
      made : e.site ≡ waiting_cell y
      made = made-at f m e law (q ∷ todo) at ∙ (there ∙ (ap site_numbered place ∙ site-of-cell y inside))

      made-by : (a b : Bool) → (y == JOIN_CELL) ≡ a → (y == FUTEX_CELL) ≡ b → e.site ≡ (if a then Site.joins else if b then Site.memory else Site.object y)
      made-by a b j u = made ∙ λ i. if j i then Site.joins else if u i then Site.memory else Site.object y

      by : (a : Bool) → (y == JOIN_CELL) ≡ a → (b : Bool) → (y == FUTEX_CELL) ≡ b → (joins later).waiters ≡ s.joins
      by true j b u =
          ap (λ (z : Joins). z.waiters) (joins-later f m e law (made-by true b j u) act said)
          ∙ (takes (joins f)
          ∙ (ap (without who) law.rel.joins.waiters ∙ sym (same ∙ λ i. if j i then without who (if j i then m.joins else if u i then m.futexes else (object_at m y).waiters) else m.joins)))
      by false j true u = waiting s (ap (λ (z : Joins). z.waiters) (joins-else f m e law (ap (λ i. same_site i Site.joins) (made-by false true j u)))) (same ∙ ap (λ a. if a then without who (waiters_in m y) else m.joins) j)
      by false j false u = waiting s (ap (λ (z : Joins). z.waiters) (joins-else f m e law (ap (λ i. same_site i Site.joins) (made-by false false j u)))) (same ∙ ap (λ a. if a then without who (waiters_in m y) else m.joins) j)

  on-beside : (t y : ℕ) (q : Pending) → Beside f m e t y q → (joins later).waiters ≡ (T.after m t y q (thread_at m t).pending).joins
  on-beside _ _ _ (cuts who site before y todo at place inside said) = takes-out (Todo.look who site before) todo site y (to_thread who).0 _ (T.after m (mine f m e) y (Pending.Cut (to_thread who)) (thread_at m (mine f m e)).pending) at refl place inside said (λ j. refl) refl
  on-beside _ _ _ (times_out deadline site y who todo at place inside said) =
      let s = with_waiters m y (without who.0 (waiters_in m y)) in
      takes-out (Todo.handle deadline (Mark.Thread who site)) todo site y who.0 _ (T.after m (acting f m e) y (Pending.TimeOut who) (thread_at m (acting f m e)).pending) at refl place inside said (λ j. refl)
      (woken-by (λ (z : State). z.joins ≡ s.joins) (λ z u told k. k) (told_late who y) s refl)
  on-beside t y _ (expires deadline x todo at inside said) = waiting (T.after m t y Pending.Expire (thread_at m t).pending) (beside-joins _ _ said (λ j. refl)) (joins-untouched m t y Pending.Expire (thread_at m t).pending tt)
  on-beside t y _ (ticks at said) = waiting (T.after m t y Pending.Tick (thread_at m t).pending) (beside-joins _ _ said (λ j. refl)) (joins-untouched m t y Pending.Tick (thread_at m t).pending tt)
  on-beside t y _ (leaves_it todo at said) =
      ap (λ (j : Joins). j.waiters) (joins-later f m e law (made-at f m e law (Todo.leave ∷ todo) at) _ said)
      ∙ (ap (filter (λ w. not (Plain.joins p.context.thread w))) law.rel.joins.waiters
      ∙ sym (woken-by (λ (z : State). z.joins ≡ Plain.without_joins m p.context.thread) (λ z u told k. k) (Plain.all_joined m p.context.thread) (with_waiters m JOIN_CELL (Plain.without_joins m p.context.thread)) refl))

  waiters-part : (s : State) → Leaves f m e s → (joins later).waiters ≡ s.joins
  waiters-part _ (nothing u said) = waiting m (quiet u said) refl
  waiters-part _ (event q rest todo n h shown is) = by-event q rest todo n h shown is
  waiters-part _ (resumes c told rest at moved said) = waiting (T.after m c.thread 0 Pending.Resume rest) (beside-joins _ _ said (λ j. refl)) (joins-untouched m c.thread 0 Pending.Resume rest tt)
  waiters-part _ (passes who y rest todo h said) = waiting (T.after m p.context.thread y (Pending.Inherit (to_thread who)) rest) (beside-joins _ _ said (λ j. refl)) (joins-untouched m p.context.thread y (Pending.Inherit (to_thread who)) rest tt)
  waiters-part _ (drops from y rest todo h said) = waiting (T.after m p.context.thread y (Pending.Drops from) rest) (beside-joins _ _ said (λ j. refl)) (joins-untouched m p.context.thread y (Pending.Drops from) rest tt)
  waiters-part _ (cleans who y rest todo h said) = waiting (T.after m p.context.thread y (Pending.CleanPair (to_thread who)) rest) (beside-joins _ _ said (λ j. refl)) (joins-untouched m p.context.thread y (Pending.CleanPair (to_thread who)) rest tt)
  waiters-part _ (recycles y rest todo at l said chosen) = waiting (T.after m p.context.thread y Pending.Recycle rest) (beside-joins _ _ said (λ j. refl)) (joins-untouched m p.context.thread y Pending.Recycle rest tt)
  waiters-part _ (beside_it t y q how chosen started) = on-beside t y q how

  pub joins-part : (s : State) → Leaves f m e s → JoinsAre later s
  joins-part s leaves =
      record {
        waiters = waiters-part s leaves;
        shut = by-site (λ (j : Joins). length j.shut) (λ at. shut-long (joins f) e.act e.moved) ∙ law.rel.joins.shut;
        asleep = by-site (λ (j : Joins). length j.asleep) (λ at. asleep-long (joins f) e.act e.moved) ∙ law.rel.joins.asleep;
      }
