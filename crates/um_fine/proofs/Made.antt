-- After its site has filled it in, a step that its processor made is still as the processor makes it.
use Rattle.std.proofs.Common.{◌≡◌, ℕ, Bool, true, false, List, [], ◌∷◌, Option, Some, None, refl, sym, ap, ◌∙◌}
use Rattle.std.specs.Prelude.{◌&&◌, ◌||◌, if◌then◌else◌, is_some, nat_lt, unwrap_or, IsTrue}
use Rattle.std.proofs.lemmas.Bool.{and_parts, false≢true}
use Rattle.um_base.specs.Places.{row_at}
use Rattle.um_base.specs.declared.act.Act.{Act}
use Rattle.um_base.specs.declared.act.Event.{Event}
use Rattle.um_base.specs.declared.image.Image.{Image}
use Rattle.um_base.specs.declared.names.ThreadIx.{ThreadIx}
use Rattle.um_base.specs.declared.names.Access.TheVariants as Access
use Rattle.um_machine.specs.declared.pending.Pending.{Pending}
use Rattle.um_machine.specs.Domains.{domain_after}
use Rattle.um_machine.specs.Order.{Steps, to_thread}
use Rattle.um_machine.specs.Table.{replies_of}
use Rattle.um_words.specs.declared.fine.FineAct.{FineAct}
use Rattle.um_words.specs.declared.fine.Mark.{Mark}
use Rattle.um_words.specs.declared.fine.More.{More}
use Rattle.um_words.specs.declared.fine.Unseen.{Unseen}
use Rattle.um_words.specs.declared.dom_word.DomWord.{DomWord}
use Rattle.um_words.specs.declared.row_word.RowWord.{RowWord}
use Rattle.um_words.specs.declared.thread_word.ThreadWord.{ThreadWord}
use Rattle.um_words.specs.Rows.{row_says, row_says_act, row_takes}
use Rattle.um_words.specs.Threads.{thread_takes}
use Rattle.um_words.specs.Domains.{domain_takes}
use Rattle.um_words.specs.CellActs.{heap_takes, join_takes, memory_takes, object_takes, parts_takes, stops_waiting}
use Rattle.um_fine.specs.Context.{Context, no_context}
use Rattle.um_fine.specs.Steps.{Exchange, FineStep, Site}
use Rattle.um_fine.specs.Addresses.{address_of}
use Rattle.um_fine.specs.Answers.{act_in, before_in, bytes_in, event_in, is_due_act, is_killed, is_shut_act, is_tick, is_visit, is_void, is_word_read, leftover_in, now_in, value_in, woken_in}
use Rattle.um_fine.specs.Threads.{thread_answers, unless_stopped}
use Rattle.um_fine.specs.Seeking.{finds, looked_for, no_step}
use Rattle.um_fine.specs.Clock.{Clock, clock_moves, clock_says, clock_takes}
use Rattle.um_fine.specs.Joins.{Joins, all_joined, asleep_at, is_joined, join_finds, join_moves, join_says, roused, sleeps}
use Rattle.um_fine.specs.Objects.{ObjectCell, is_look, object_finds, object_moves, object_moves_act, object_says, object_says_act, run_out}
use Rattle.um_fine.specs.Memory.{Bytes, memory_moves, memory_says, memory_says_act}
use Rattle.um_fine.specs.Heap.{Heap, heap_says, heap_says_act}
use Rattle.um_fine.specs.Scheduler.{Scheduler, first_ready, has_ready, is_cut, parked_at, sched_moves, sched_says, sched_takes, takes_turn, to_kill, told_at, turn_in}
use Rattle.um_fine.specs.Cells.{Cell}
use Rattle.um_fine.specs.Sites.{SiteMay, SiteState, filled, is_sort, site_answers, site_moves, site_takes}
use Rattle.um_fine.specs.Places.{Todo, Todos}
use Rattle.um_fine.specs.Processor.{Processor, actor_or, edit_of, fails}
use Rattle.um_fine.specs.Asks.{CpuMay, allows, amount, begins, by_actor, by_me, check_site, fits, idle_site, made_by, me, more_of, moves, moves_idle, moves_show, moves_step, next_site, or_void, roused_by, says, says_idle, says_show, says_step, says_turn, shows, site_by, site_of_step}
use Rattle.um_fine.proofs.Filled.{filled-twice}

module _ (image : Image) (p : Processor) where
  if-twice : (f : Act → Act) (b : Bool) (good bad : Act → Act) (a : Act)
      → ((a : Act) → good (f (good a)) ≡ f (good a)) → ((a : Act) → bad (f (bad a)) ≡ f (bad a))
      → let z = f (if b then good a else bad a) in (if b then good z else bad z) ≡ z
  if-twice f true good bad a g h = g a
  if-twice f false good bad a g h = h a

  plain-step : (k : ℕ) (q : Pending) (act : Act) → says_step image p q (says_step image p q act) ≡ (says_step image p q act)
  plain-step k (Pending.Load to a n) act = if-twice (λ z. z) (allows image p Access.Read a.0 n) (λ z. Act.Load a n (value_in z)) (λ z. Act.Fault Access.Read a n) act (λ z. refl) (λ z. refl)
  plain-step k (Pending.Store a n value) act = if-twice (λ z. z) (allows image p Access.Write a.0 n) (λ z. Act.Store a n value) (λ z. Act.Fault Access.Write a n) act (λ z. refl) (λ z. refl)
  plain-step k (Pending.Fetch a) act = if-twice (λ z. z) (allows image p Access.Exec a.0 4) (λ z. Act.Fetch a) (λ z. Act.Fault Access.Exec a 4) act (λ z. refl) (λ z. refl)
  plain-step k q act = refl

  row-step : (w : RowWord) (t : ℕ) (more : More) (q : Pending) (act : Act) → says_step image p q (row_says_act w t more (says_step image p q act)) ≡ row_says_act w t more (says_step image p q act)
  row-step w t more (Pending.Load to a n) act = if-twice (λ z. row_says_act w t more z) (allows image p Access.Read a.0 n) (λ z. Act.Load a n (value_in z)) (λ z. Act.Fault Access.Read a n) act (λ z. refl) (λ z. refl)
  row-step w t more (Pending.Store a n value) act = if-twice (λ z. row_says_act w t more z) (allows image p Access.Write a.0 n) (λ z. Act.Store a n value) (λ z. Act.Fault Access.Write a n) act (λ z. refl) (λ z. refl)
  row-step w t more (Pending.Fetch a) act = if-twice (λ z. row_says_act w t more z) (allows image p Access.Exec a.0 4) (λ z. Act.Fetch a) (λ z. Act.Fault Access.Exec a 4) act (λ z. refl) (λ z. refl)
  row-step w t more q act = refl

  object-step : (o : ObjectCell) (moved : Exchange) (q : Pending) (act : Act) → says_step image p q (object_says_act o moved (says_step image p q act)) ≡ object_says_act o moved (says_step image p q act)
  object-step o moved (Pending.Load to a n) act = if-twice (λ z. object_says_act o moved z) (allows image p Access.Read a.0 n) (λ z. Act.Load a n (value_in z)) (λ z. Act.Fault Access.Read a n) act (λ z. refl) (λ z. refl)
  object-step o moved (Pending.Store a n value) act = if-twice (λ z. object_says_act o moved z) (allows image p Access.Write a.0 n) (λ z. Act.Store a n value) (λ z. Act.Fault Access.Write a n) act (λ z. refl) (λ z. refl)
  object-step o moved (Pending.Fetch a) act = if-twice (λ z. object_says_act o moved z) (allows image p Access.Exec a.0 4) (λ z. Act.Fetch a) (λ z. Act.Fault Access.Exec a 4) act (λ z. refl) (λ z. refl)
  object-step o moved q act = refl

  memory-step : (m : Bytes) (moved : Exchange) (more : More) (q : Pending) (act : Act) → says_step image p q (memory_says_act image m moved more (says_step image p q act)) ≡ memory_says_act image m moved more (says_step image p q act)
  memory-step m moved more (Pending.Load to a n) act = if-twice (λ z. memory_says_act image m moved more z) (allows image p Access.Read a.0 n) (λ z. Act.Load a n (value_in z)) (λ z. Act.Fault Access.Read a n) act (λ z. refl) (λ z. refl)
  memory-step m moved more (Pending.Store a n value) act = if-twice (λ z. memory_says_act image m moved more z) (allows image p Access.Write a.0 n) (λ z. Act.Store a n value) (λ z. Act.Fault Access.Write a n) act (λ z. refl) (λ z. refl)
  memory-step m moved more (Pending.Fetch a) act = if-twice (λ z. memory_says_act image m moved more z) (allows image p Access.Exec a.0 4) (λ z. Act.Fetch a) (λ z. Act.Fault Access.Exec a 4) act (λ z. refl) (λ z. refl)
  memory-step m moved more q act = refl

  heap-step : (h : Heap) (moved : Exchange) (q : Pending) (act : Act) → says_step image p q (heap_says_act image h moved (says_step image p q act)) ≡ heap_says_act image h moved (says_step image p q act)
  heap-step h moved (Pending.Load to a n) act = if-twice (λ z. heap_says_act image h moved z) (allows image p Access.Read a.0 n) (λ z. Act.Load a n (value_in z)) (λ z. Act.Fault Access.Read a n) act (λ z. refl) (λ z. refl)
  heap-step h moved (Pending.Store a n value) act = if-twice (λ z. heap_says_act image h moved z) (allows image p Access.Write a.0 n) (λ z. Act.Store a n value) (λ z. Act.Fault Access.Write a n) act (λ z. refl) (λ z. refl)
  heap-step h moved (Pending.Fetch a) act = if-twice (λ z. heap_says_act image h moved z) (allows image p Access.Exec a.0 4) (λ z. Act.Fetch a) (λ z. Act.Fault Access.Exec a 4) act (λ z. refl) (λ z. refl)
  heap-step h moved q act = refl

  -- at the begin of a turn: the event, the end of an aborted thread, or a read of the word
  begins-twice : (w : ThreadWord) (q : Pending) (e : FineAct) (doomed aborted suspended : Bool) → w.doomed ≡ doomed → w.aborted ≡ aborted → w.suspended ≡ suspended
      → ((f : FineAct) → thread_answers w (shows image p q f) ≡ unless_stopped w.doomed w.aborted w.suspended (event_in (shows image p q f)) (more_of image p q))
      → ((f : FineAct) → begins image p q (shows image p q f) ≡ shows image p q f)
      → begins image p q (thread_answers w (shows image p q e)) ≡ thread_answers w (shows image p q e)
  begins-twice w q e true aborted suspended hd ha hs h k =
      let r = h e ∙ (λ i. unless_stopped (hd i) w.aborted w.suspended (event_in (shows image p q e)) (more_of image p q)) in ap (begins image p q) r ∙ sym r
  begins-twice w q e false true suspended hd ha hs h k =
      let r = h e ∙ (λ i. unless_stopped (hd i) (ha i) w.suspended (event_in (shows image p q e)) (more_of image p q)) in ap (begins image p q) r ∙ sym r
  begins-twice w q e false false true hd ha hs h k =
      let r = h e ∙ (λ i. unless_stopped (hd i) (ha i) (hs i) (event_in (shows image p q e)) (more_of image p q)) in ap (begins image p q) r ∙ sym r
  begins-twice w q e false false false hd ha hs h k =
      let r = h e ∙ (λ i. unless_stopped (hd i) (ha i) (hs i) (event_in (shows image p q e)) (more_of image p q)) in ap (begins image p q) r ∙ (k e ∙ sym r)

  -- Of what is shown at a site of the right sort nothing but the answers differs.
  abbrev pub says_act : Pending → Act → FineAct
  says_act q act = FineAct.Shown (record { thread = me image p; act = act }) (more_of image p q)

  thread-shown : (w : ThreadWord) (q : Pending) (e : FineAct) → IsTrue (is_sort (site_of_step image p q) (SiteState.thread w))
      → says_show image p q (thread_answers w (shows image p q e)) ≡ thread_answers w (shows image p q e)
  thread-shown w Pending.Begin e h = begins-twice w Pending.Begin e w.doomed w.aborted w.suspended refl refl refl (λ f. refl) (λ f. refl)
  thread-shown w Pending.Exit e h = begins-twice w Pending.Exit e w.doomed w.aborted w.suspended refl refl refl (λ f. refl) (λ f. refl)
  thread-shown w (Pending.Check a kind want refusal) e h = refl
  thread-shown w (Pending.Answer reply to) e h = refl
  thread-shown w (Pending.DomMove d who) e h = refl
  thread-shown w (Pending.Start who script stack priority mode) e h = refl
  thread-shown w (Pending.EnterUser script) e h = refl
  thread-shown w (Pending.Fatal reason cause) e h = refl
  thread-shown w (Pending.Dooms from) e h = refl
  thread-shown w (Pending.Abort who) e h = refl
  thread-shown w (Pending.Suspend who) e h = refl
  thread-shown w (Pending.Continue who) e h = refl
  thread-shown w Pending.Killed e h = refl
  thread-shown w q e h = absurd (false≢true h)

  -- of a site that depends on what is checked, or on whether a move fails
  no-check : (there : Site → Bool) (x : Option ℕ) → (IsTrue (there (Site.thread p.context.thread)) → ⊥) → ((y : ℕ) → IsTrue (there (Site.row y)) → ⊥) → IsTrue (there (check_site image p x)) → ⊥
  no-check there None t r h = t h
  no-check there (Some x) t r h = r x h

  no-move : (there : Site → Bool) (b : Bool) (d who : ℕ) → (IsTrue (there (Site.domain d)) → ⊥) → (IsTrue (there (Site.thread who)) → ⊥) → IsTrue (there (if b then Site.domain d else Site.thread who)) → ⊥
  no-move there true d who x y h = x h
  no-move there false d who x y h = y h

  -- no step that shows something is at the scheduler
  no-scheduler : (n : ℕ) (s : Scheduler) (q : Pending) → IsTrue (is_sort (site_of_step image p q) (SiteState.cell n (Cell.scheduler s))) → ⊥
  no-scheduler n s (Pending.Check a kind want refusal) h = by (row_at image a.0) h
    where
      by : (x : Option ℕ) → IsTrue (is_sort (check_site image p x) (SiteState.cell n (Cell.scheduler s))) → ⊥
      by None h = false≢true h
      by (Some x) h = false≢true h
  no-scheduler n s (Pending.DomMove d who) h = by (fails p.reply) h
    where
      by : (b : Bool) → IsTrue (is_sort (if b then Site.domain d else Site.thread who.0) (SiteState.cell n (Cell.scheduler s))) → ⊥
      by true h = false≢true h
      by false h = false≢true h
  no-scheduler n s q h = false≢true h

  -- no step of a thread is a look
  if-look : (b : Bool) (good bad : Act) → is_look good ≡ false → is_look bad ≡ false → is_look (if b then good else bad) ≡ false
  if-look true good bad g h = g
  if-look false good bad g h = h

  step-no-look : (q : Pending) (act : Act) → is_look (says_step image p q act) ≡ false
  step-no-look (Pending.Load to a n) act = if-look (allows image p Access.Read a.0 n) (Act.Load a n (value_in act)) (Act.Fault Access.Read a n) refl refl
  step-no-look (Pending.Store a n value) act = if-look (allows image p Access.Write a.0 n) (Act.Store a n value) (Act.Fault Access.Write a n) refl refl
  step-no-look (Pending.Fetch a) act = if-look (allows image p Access.Exec a.0 4) (Act.Fetch a) (Act.Fault Access.Exec a 4) refl refl
  step-no-look q act = refl

  stops-by : (a : Act) → is_look a ≡ false → stops_waiting a ≡ false
  stops-by (Act.Expire a woken) h = refl
  stops-by a h = h

  -- so the cell says the event
  object-plain : (o : ObjectCell) (moved : Exchange) (q : Pending) (act : Act)
      → object_says o moved (says_act q (says_step image p q act)) ≡ says_act q (object_says_act o moved (says_step image p q act))
  object-plain o moved q act =
      let said = says_act q (object_says_act o moved (says_step image p q act)) in
      ap (λ b. if b then looked_for (object_finds o moved) said else said) (step-no-look q act)

  memory-plain : (m : Bytes) (moved : Exchange) (q : Pending) (act : Act)
      → memory_says image m moved (says_act q (says_step image p q act)) ≡ says_act q (memory_says_act image m moved (more_of image p q) (says_step image p q act))
  memory-plain m moved q act =
      let said = says_act q (memory_says_act image m moved (more_of image p q) (says_step image p q act)) in
      ap (λ b. if b then looked_for (finds m.futexes m.noted moved) said else said) (stops-by (says_step image p q act) (step-no-look q act))

  -- what a step shows at the clock and at the joins
  clock-says-twice : (n : ℕ) (c : Clock) (moved : Exchange) (q : Pending) (e : FineAct) → IsTrue (is_sort (site_of_step image p q) (SiteState.cell n (Cell.clock c)))
      → says_show image p q (clock_says c moved (shows image p q e)) ≡ clock_says c moved (shows image p q e)
  clock-says-twice n c moved (Pending.Arm ticks) e h = refl
  clock-says-twice n c moved (Pending.ArmTimer ticks) e h = refl
  clock-says-twice n c moved (Pending.Check a kind want refusal) e h = absurd (no-check (λ i. is_sort i (SiteState.cell n (Cell.clock c))) (row_at image a.0) (λ x. false≢true x) (λ y x. false≢true x) h)
  clock-says-twice n c moved (Pending.DomMove d who) e h = absurd (no-move (λ i. is_sort i (SiteState.cell n (Cell.clock c))) (fails p.reply) d who.0 (λ x. false≢true x) (λ x. false≢true x) h)
  clock-says-twice n c moved q e h = absurd (false≢true h)

  join-says-twice : (n : ℕ) (j : Joins) (moved : Exchange) (q : Pending) (e : FineAct) → IsTrue (is_sort (site_of_step image p q) (SiteState.cell n (Cell.joins j)))
      → says_show image p q (join_says j moved (shows image p q e)) ≡ join_says j moved (shows image p q e)
  join-says-twice n j moved (Pending.Join who timeout) e h = refl
  join-says-twice n j moved (Pending.Check a kind want refusal) e h = absurd (no-check (λ i. is_sort i (SiteState.cell n (Cell.joins j))) (row_at image a.0) (λ x. false≢true x) (λ y x. false≢true x) h)
  join-says-twice n j moved (Pending.DomMove d who) e h = absurd (no-move (λ i. is_sort i (SiteState.cell n (Cell.joins j))) (fails p.reply) d who.0 (λ x. false≢true x) (λ x. false≢true x) h)
  join-says-twice n j moved q e h = absurd (false≢true h)

  shown-says : (q : Pending) (s : SiteState) (moved : Exchange) (e : FineAct) → IsTrue (is_sort (site_of_step image p q) s)
      → says_show image p q (site_answers image s moved (shows image p q e)) ≡ site_answers image s moved (shows image p q e)
  shown-says Pending.Begin (SiteState.thread w) moved e h = thread-shown w Pending.Begin e h
  shown-says Pending.Begin s moved e h = absurd (false≢true h)
  shown-says Pending.Exit (SiteState.thread w) moved e h = thread-shown w Pending.Exit e h
  shown-says Pending.Exit s moved e h = absurd (false≢true h)
  shown-says q (SiteState.row w) moved e h = ap (says_act q) (row-step w p.context.thread (more_of image p q) q (act_in e))
  shown-says q (SiteState.thread w) moved e h = thread-shown w q e h
  shown-says q (SiteState.domain w) moved e h = ap (says_act q) (plain-step 0 q (act_in e))
  shown-says q (SiteState.cell n (Cell.object o)) moved e h =
      let r = object-plain o moved q (act_in e) in ap (says_show image p q) r ∙ (ap (says_act q) (object-step o moved q (act_in e)) ∙ sym r)
  shown-says q (SiteState.cell n (Cell.parts d)) moved e h = ap (says_act q) (plain-step 0 q (act_in e))
  shown-says q (SiteState.cell n (Cell.memory m)) moved e h =
      let r = memory-plain m moved q (act_in e) in ap (says_show image p q) r ∙ (ap (says_act q) (memory-step m moved (more_of image p q) q (act_in e)) ∙ sym r)
  shown-says q (SiteState.cell n (Cell.heap k)) moved e h = ap (says_act q) (heap-step k moved q (act_in e))
  shown-says q (SiteState.cell n (Cell.scheduler s)) moved e h = absurd (no-scheduler n s q h)
  shown-says q (SiteState.cell n (Cell.clock c)) moved e h = clock-says-twice n c moved q e h
  shown-says q (SiteState.cell n (Cell.joins j)) moved e h = join-says-twice n j moved q e h

  -- what goes with it
  plain-moves : (q : Pending) (moved : Exchange) → moves_step image p q (moves_step image p q moved) ≡ moves_step image p q moved
  plain-moves (Pending.CopyIn a amount') moved =
      elim (allows image p Access.Read a.0 (amount image p amount')) as (λ b. let z = if b then Exchange.bytes (bytes_in moved) else Exchange.nothing in (if b then Exchange.bytes (bytes_in z) else Exchange.nothing) ≡ z) [ true ↦ refl | false ↦ refl ]
  plain-moves q moved = refl

  access-moves : (m : Bytes) (b : Bool) (good bad : Act) → memory_moves image m good Exchange.nothing ≡ Exchange.nothing → memory_moves image m bad Exchange.nothing ≡ Exchange.nothing → Exchange.nothing ≡ memory_moves image m (if b then good else bad) Exchange.nothing
  access-moves m true good bad g h = sym g
  access-moves m false good bad g h = sym h

  memory-moves : (m : Bytes) (q : Pending) (moved : Exchange) (act : Act)
      → moves_step image p q (memory_moves image m (says_step image p q act) (moves_step image p q moved)) ≡ memory_moves image m (says_step image p q act) (moves_step image p q moved)
  memory-moves m (Pending.Load to a n) moved act = access-moves m (allows image p Access.Read a.0 n) (Act.Load a n (value_in act)) (Act.Fault Access.Read a n) refl refl
  memory-moves m (Pending.Store a n value) moved act = access-moves m (allows image p Access.Write a.0 n) (Act.Store a n value) (Act.Fault Access.Write a n) refl refl
  memory-moves m (Pending.Fetch a) moved act = access-moves m (allows image p Access.Exec a.0 4) (Act.Fetch a) (Act.Fault Access.Exec a 4) refl refl
  memory-moves m (Pending.CopyIn a amount') moved act =
      let n = amount image p amount' in
      elim (allows image p Access.Read a.0 n) as (λ b.
      let z = memory_moves image m (Act.CopyIn a n b) (if b then Exchange.bytes (bytes_in moved) else Exchange.nothing) in
      (if b then Exchange.bytes (bytes_in z) else Exchange.nothing) ≡ z) [ true ↦ refl | false ↦ refl ]
  memory-moves m q moved act = refl

  object-moves : (n : ℕ) (o : ObjectCell) (q : Pending) (moved : Exchange) (act : Act)
      → let z = object_moves_act o (moves_step image p q moved) (says_step image p q act) in IsTrue (is_sort (site_of_step image p q) (SiteState.cell n (Cell.object o))) → moves_step image p q z ≡ z
  object-moves n o (Pending.Work a ask) moved act h = refl
  object-moves n o (Pending.Named who) moved act h = refl
  object-moves n o (Pending.Check a kind want refusal) moved act h = refl
  object-moves n o (Pending.DomMove d who) moved act h = refl
  object-moves n o q moved act h = absurd (false≢true h)

  shown-moves : (q : Pending) (s : SiteState) (moved : Exchange) (e : FineAct) → IsTrue (is_sort (site_of_step image p q) s)
      → let z = site_moves image s (shows image p q e) (moves_step image p q moved) in moves_step image p q z ≡ z
  shown-moves q (SiteState.cell n (Cell.object o)) moved e h = object-moves n o q moved (act_in e) h
  shown-moves q (SiteState.cell n (Cell.memory m)) moved e h = memory-moves m q moved (act_in e)
  shown-moves q (SiteState.cell n (Cell.scheduler s)) moved e h = absurd (no-scheduler n s q h)
  shown-moves q s moved e h = plain-moves q moved

  -- what is armed goes with its arming
  armed-moves : (q : Pending) (rest : Steps) (s : SiteState) (moved : Exchange) (e : FineAct) → IsTrue (is_sort (site_of_step image p q) s)
      → let z = site_moves image s (shows image p q e) (moves_show image p q rest moved) in moves_show image p q rest z ≡ z
  armed-moves (Pending.Arm ticks) rest (SiteState.cell n (Cell.clock c)) moved e h = refl
  armed-moves (Pending.Arm ticks) rest s moved e h = absurd (false≢true h)
  armed-moves (Pending.ArmTimer ticks) rest (SiteState.cell n (Cell.clock c)) moved e h = refl
  armed-moves (Pending.ArmTimer ticks) rest s moved e h = absurd (false≢true h)
  armed-moves q rest s moved e h = shown-moves q s moved e h

  -- what is shown at the begin of a turn, the end of an aborted thread, or a read of the word
  begins-made : (q : Pending) (w : ThreadWord) (read killed : Bool) (e : FineAct) → begins image p q (thread_answers w (shows image p q e)) ≡ thread_answers w (shows image p q e)
      → let a = if read then FineAct.Unseen Unseen.WordRead else if killed then by_me image p Act.Killed else shows image p q e in begins image p q (thread_answers w a) ≡ thread_answers w a
  begins-made q w true killed e h = refl
  begins-made q w false true e h = refl
  begins-made q w false false e h = h

  show-made : (q : Pending) (rest : Steps) (s : SiteState) (act : FineAct) (moved : Exchange) → IsTrue (is_sort (site_of_step image p q) s)
      → let a = site_answers image s (moves_show image p q rest moved) (says_show image p q act) in says_show image p q a ≡ a
  show-made Pending.Begin rest (SiteState.thread w) act moved h = begins-made Pending.Begin w (is_word_read act) (is_killed act) act (thread-shown w Pending.Begin act h)
  show-made Pending.Begin rest s act moved h = absurd (false≢true h)
  show-made Pending.Exit rest (SiteState.thread w) act moved h = begins-made Pending.Exit w (is_word_read act) (is_killed act) act (thread-shown w Pending.Exit act h)
  show-made Pending.Exit rest s act moved h = absurd (false≢true h)
  show-made q rest s act moved h = shown-says q s (moves_show image p q rest moved) act h

  show-moves : (q : Pending) (rest : Steps) (s : SiteState) (act : FineAct) (moved : Exchange) → IsTrue (is_sort (site_of_step image p q) s)
      → let z = site_moves image s (says_show image p q act) (moves_show image p q rest moved) in moves_show image p q rest z ≡ z
  show-moves Pending.Begin rest (SiteState.thread w) act moved h = refl
  show-moves Pending.Begin rest s act moved h = absurd (false≢true h)
  show-moves Pending.Exit rest (SiteState.thread w) act moved h = refl
  show-moves Pending.Exit rest s act moved h = absurd (false≢true h)
  show-moves q rest s act moved h = armed-moves q rest s moved act h

  abbrev pub row_fills : RowWord → FineAct → FineAct
  row_fills w a = site_answers image (SiteState.row w) Exchange.nothing a

  -- a step that was filled in, at a site of the right sort that takes it, is as the processor makes it
  abbrev pub IsAsMade : Todos → SiteState → FineAct → Exchange → Type 0
  IsAsMade todo s act moved =
      let said = says image p todo act moved in
      let gave = moves image p todo act moved in
      let a = site_answers image s gave said in
      let m = site_moves image s said gave in
      IsTrue (site_takes s a) → (says image p todo a m ≡ a) × (moves image p todo a m ≡ m) × (site_by image p todo a ≡ site_by image p todo act)

  abbrev pub IsApart : SiteState → Type 0
  IsApart (SiteState.cell n (Cell.scheduler s)) = ⊥
  IsApart s = Unit {0}

  -- An edit, made once more: what was before it is what the cell has. Nobody is looked for at the scheduler.
  abbrev pub IsSettled : Todos → SiteState → Exchange → Type 0
  IsSettled (Todo.look who site before ∷ todo) s moved = IsApart s
  IsSettled (Todo.handle deadline mark ∷ todo) s moved = IsApart s
  IsSettled (Todo.edit d q ∷ todo) (SiteState.cell n (Cell.parts parts)) moved = before_in moved ≡ parts
  IsSettled todo s moved = Unit {0}

  visit-made : (w : RowWord) (act : Act) (again : Act → Act) (b : Bool) → again (row_says_act w p.context.thread More.Nothing act) ≡ row_says_act w p.context.thread More.Nothing act
      → let a = if b then FineAct.Unseen Unseen.Visit else by_me image p act in
      let z = row_fills w a in (if is_visit z then FineAct.Unseen Unseen.Visit else by_me image p (again (act_in z))) ≡ z
  visit-made w act again true h = refl
  visit-made w act again false h = ap (by_me image p) h

  -- a processor without a thread: it takes the first that is ready
  idle-made : (s : Scheduler) (ready : List ℕ) (act : FineAct) → s.ready ≡ ready → IsTrue (sched_takes s (turn_in act (first_ready s ready))) → (IsTrue (sched_takes s act) → IsTrue (has_ready s s.ready))
      → let a = turn_in act (first_ready s ready) in (says_idle image p a (first_ready s ready) ≡ a) × (moves_idle image p (is_tick a) (first_ready s ready) ≡ first_ready s ready) × (idle_site image p a ≡ Site.scheduler)
  idle-made s [] act e h k = absurd (false≢true (ap (has_ready s) (sym e) ∙ k h))
  idle-made s (t ∷ ready) act e h k = elim (told_at s t) as (λ told. let c = to_kill (is_cut s t) (unwrap_or (parked_at s t) no_context) in let a = takes_turn c told in let m = Exchange.thread c told in (says_idle image p a m ≡ a) × (moves_idle image p (is_tick a) m ≡ m) × (idle_site image p a ≡ Site.scheduler)) [ None ↦ (refl, refl, refl) | Some w ↦ (refl, refl, refl) ]

  taken-made : (s : Scheduler) (moved : Exchange) → let act = says_turn image p moved in
      IsTrue (sched_takes s (sched_says s moved act))
      → let a = sched_says s moved act in let m = sched_moves s act moved in (says_idle image p a m ≡ a) × (moves_idle image p (is_tick a) m ≡ m) × (idle_site image p a ≡ Site.scheduler)
  taken-made s (Exchange.thread c None) h = idle-made s s.ready (takes_turn c None) refl h (λ k. k)
  taken-made s (Exchange.thread c (Some told)) h = idle-made s s.ready (takes_turn c (Some told)) refl h (λ k. k)
  taken-made s moved h = idle-made s s.ready (FineAct.Unseen (Unseen.Next (me image p))) refl h (λ k. k)

  -- or a mark that is due, or it lets time go on
  clock-made : (c : Clock) (act : FineAct) (due tick : Bool) (moved : Exchange) → is_due_act act ≡ due → is_tick act ≡ tick → (due || tick) ≡ true
      → let said = if due then FineAct.Unseen Unseen.Due else if tick then by_actor image p (Act.Tick (now_in (act_in act))) else says_turn image p moved in
      let gave = moves_idle image p tick moved in
      let a = clock_says c gave said in
      let m = clock_moves c said gave in (says_idle image p a m ≡ a) × (moves_idle image p (is_tick a) m ≡ m) × (idle_site image p a ≡ Site.clock)
  clock-made c act true tick moved d k h = (refl, refl, refl)
  clock-made c act false true moved d k h = (refl, refl, refl)
  clock-made c act false false moved d k h = absurd (false≢true h)

  -- by the site at which it asks
  abbrev pub idle_by : Bool → Bool → FineAct → Exchange → FineAct
  idle_by due tick act moved = if due then FineAct.Unseen Unseen.Due else if tick then by_actor image p (Act.Tick (now_in (act_in act))) else says_turn image p moved

  tends-made : (s : SiteState) (act : FineAct) (due tick : Bool) (moved : Exchange) → is_due_act act ≡ due → is_tick act ≡ tick
      → let site = if due || tick then Site.clock else Site.scheduler in
      IsTrue (is_sort site s)
      → let said = idle_by due tick act moved in
      let gave = moves_idle image p tick moved in
      let a = site_answers image s gave said in
      let m = site_moves image s said gave in
      IsTrue (site_takes s a) → (says_idle image p a m ≡ a) × (moves_idle image p (is_tick a) m ≡ m) × (idle_site image p a ≡ site)
  tends-made (SiteState.cell n (Cell.clock c)) act true tick moved d k h takes = clock-made c act true tick moved d k refl
  tends-made (SiteState.cell n (Cell.clock c)) act false true moved d k h takes = clock-made c act false true moved d k refl
  tends-made (SiteState.cell n (Cell.scheduler s)) act false false moved d k h takes = taken-made s moved (and_parts _ _ takes).1
  tends-made s act true tick moved d k h takes = absurd (false≢true h)
  tends-made s act false true moved d k h takes = absurd (false≢true h)
  tends-made s act false false moved d k h takes = absurd (false≢true h)

  -- a look: what it is for, or that it finds nothing
  look-made : (f : FineAct → FineAct) (found void : Bool) (event said : FineAct) (again : FineAct → FineAct) (takes : FineAct → Bool)
      → f (FineAct.Unseen Unseen.Void) ≡ looked_for found (FineAct.Unseen Unseen.Void) → f event ≡ looked_for found said → looked_for true said ≡ said
      → again (FineAct.Unseen Unseen.Void) ≡ FineAct.Unseen Unseen.Void → again said ≡ said → takes no_step ≡ false
      → let a = f (if void then FineAct.Unseen Unseen.Void else event) in IsTrue (takes a) → again a ≡ a
  look-made f true true event said again takes fv fe l v h off t = absurd (false≢true (sym off ∙ (ap takes (sym fv) ∙ t)))
  look-made f false true event said again takes fv fe l v h off t = ap again fv ∙ (v ∙ sym fv)
  look-made f true false event said again takes fv fe l v h off t = let r = fe ∙ l in ap again r ∙ (h ∙ sym r)
  look-made f false false event said again takes fv fe l v h off t = ap again fe ∙ (v ∙ sym fe)

  look-moves : (f : FineAct → Exchange) (void : Bool) (event : FineAct) (gave : Exchange) → f (FineAct.Unseen Unseen.Void) ≡ gave → f event ≡ gave → gave ≡ f (if void then FineAct.Unseen Unseen.Void else event)
  look-moves f true event gave v h = sym v
  look-moves f false event gave v h = sym h

  no-look : (takes : FineAct → Bool) (room void : Bool) (event : FineAct) → takes (FineAct.Unseen Unseen.Void) ≡ false → takes event ≡ false → IsTrue (room && takes (if void then FineAct.Unseen Unseen.Void else event)) → ⊥
  no-look takes room true event v h t = false≢true (sym v ∙ (and_parts _ _ t).1)
  no-look takes room false event v h t = false≢true (sym h ∙ (and_parts _ _ t).1)

  -- a look for who waits, by an event that is asked for so
  abbrev pub LookMade : SiteState → Bool → FineAct → Exchange → Type 0
  LookMade s void event gave =
      let said = if void then FineAct.Unseen Unseen.Void else event in
      let a = site_answers image s gave said in
      let m = site_moves image s said gave in IsTrue (site_takes s a) → (or_void image p a event ≡ a) × (gave ≡ m)

  stops-made : (s : SiteState) (void : Bool) (event : Event) (gave : Exchange) → IsApart s
      → ((w : RowWord) → row_takes w (row_says w (FineAct.Shown event More.Nothing)) ≡ false) → ((w : ThreadWord) → thread_takes w (thread_answers w (FineAct.Shown event More.Nothing)) ≡ false)
      → ((w : DomWord) → domain_takes w (FineAct.Shown event More.Nothing) ≡ false) → ((h : Heap) → heap_takes (heap_says image h gave (FineAct.Shown event More.Nothing)) ≡ false)
      → ((c : Clock) → clock_takes c (clock_says c gave (FineAct.Shown event More.Nothing)) ≡ false)
      → ((o : ObjectCell) → object_says o gave (FineAct.Shown event More.Nothing) ≡ looked_for (object_finds o gave) (FineAct.Shown event More.Nothing))
      → ((o : ObjectCell) → object_moves o (FineAct.Shown event More.Nothing) gave ≡ gave)
      → ((m : Bytes) → memory_says image m gave (FineAct.Shown event More.Nothing) ≡ looked_for (finds m.futexes m.noted gave) (FineAct.Shown event More.Nothing))
      → ((m : Bytes) → memory_moves image m event.act gave ≡ gave)
      → ((j : Joins) → join_says j gave (FineAct.Shown event More.Nothing) ≡ looked_for (join_finds j gave) (FineAct.Shown event More.Nothing))
      → LookMade s void (FineAct.Shown event More.Nothing) gave
  stops-made (SiteState.row w) void event gave apart row thread domain heap clock object object-m memory memory-m join takes =
      absurd (no-look (λ z. row_takes w (row_says w z)) (nat_lt w.number 1048575) void (FineAct.Shown event More.Nothing) refl (row w) takes)
  stops-made (SiteState.thread w) void event gave apart row thread domain heap clock object object-m memory memory-m join takes =
      absurd (no-look (λ z. thread_takes w (thread_answers w z)) (nat_lt w.number 268435455) void (FineAct.Shown event More.Nothing) refl (thread w) takes)
  stops-made (SiteState.domain w) void event gave apart row thread domain heap clock object object-m memory memory-m join takes =
      absurd (no-look (λ z. domain_takes w z) (nat_lt w.number 268435455) void (FineAct.Shown event More.Nothing) refl (domain w) takes)
  stops-made (SiteState.cell n (Cell.object o)) void event gave apart row thread domain heap clock object object-m memory memory-m join takes = (
    look-made (object_says o gave) (object_finds o gave) void (FineAct.Shown event More.Nothing) (FineAct.Shown event More.Nothing) (λ z. or_void image p z (FineAct.Shown event More.Nothing)) object_takes refl (object o) refl refl refl refl (and_parts _ _ takes).1,
    look-moves (λ z. object_moves o z gave) void (FineAct.Shown event More.Nothing) gave refl (object-m o),
  )
  stops-made (SiteState.cell n (Cell.memory m)) void event gave apart row thread domain heap clock object object-m memory memory-m join takes = (
    look-made (memory_says image m gave) (finds m.futexes m.noted gave) void (FineAct.Shown event More.Nothing) (FineAct.Shown event More.Nothing) (λ z. or_void image p z (FineAct.Shown event More.Nothing)) memory_takes refl (memory m) refl refl refl refl (and_parts _ _ takes).1,
    look-moves (λ z. memory_moves image m (act_in z) gave) void (FineAct.Shown event More.Nothing) gave refl (memory-m m),
  )
  stops-made (SiteState.cell n (Cell.joins j)) void event gave apart row thread domain heap clock object object-m memory memory-m join takes = (
    look-made (join_says j gave) (join_finds j gave) void (FineAct.Shown event More.Nothing) (FineAct.Shown event More.Nothing) (λ z. or_void image p z (FineAct.Shown event More.Nothing)) join_takes refl (join j) refl refl refl refl (and_parts _ _ takes).1,
    look-moves (λ z. join_moves j z gave) void (FineAct.Shown event More.Nothing) gave refl refl,
  )
  stops-made (SiteState.cell n (Cell.parts parts)) void event gave apart row thread domain heap clock object object-m memory memory-m join takes =
      absurd (no-look parts_takes (nat_lt n 268435455) void (FineAct.Shown event More.Nothing) refl refl takes)
  stops-made (SiteState.cell n (Cell.heap k)) void event gave apart row thread domain heap clock object object-m memory memory-m join takes =
      absurd (no-look (λ z. heap_takes (heap_says image k gave z)) (nat_lt n 268435455) void (FineAct.Shown event More.Nothing) refl (heap k) takes)
  stops-made (SiteState.cell n (Cell.clock c)) void event gave apart row thread domain heap clock object object-m memory memory-m join takes =
      absurd (no-look (λ z. clock_takes c (clock_says c gave z)) (nat_lt n 268435455) void (FineAct.Shown event More.Nothing) refl (clock c) takes)
  stops-made (SiteState.cell n (Cell.scheduler s)) void event gave apart row thread domain heap clock object object-m memory memory-m join takes = absurd apart

  cut-made : (s : SiteState) (void : Bool) (t who : ThreadIx) (gave : Exchange) → IsApart s → LookMade s void (FineAct.Shown (record { thread = t; act = Act.Cut who }) More.Nothing) gave
  cut-made s void t who gave apart = stops-made s void (record { thread = t; act = Act.Cut who }) gave apart (λ w. refl) (λ w. refl) (λ w. refl) (λ h. refl) (λ c. refl) (λ o. refl) (λ o. refl) (λ m. refl) (λ m. refl) (λ j. refl)

  timeout-made : (s : SiteState) (void : Bool) (t who : ThreadIx) (gave : Exchange) → IsApart s → LookMade s void (FineAct.Shown (record { thread = t; act = Act.TimedOut who }) More.Nothing) gave
  timeout-made s void t who gave apart = stops-made s void (record { thread = t; act = Act.TimedOut who }) gave apart (λ w. refl) (λ w. refl) (λ w. refl) (λ h. refl) (λ c. refl) (λ o. refl) (λ o. refl) (λ m. refl) (λ m. refl) (λ j. refl)

  -- a timer that runs out wakes whom its cell says
  expire-made : (o : ObjectCell) (void : Bool) (x : ℕ) (e : FineAct) (gave : Exchange)
      → let event = by_actor image p (Act.Expire (address_of image x) (woken_in (act_in e))) in
      let said = if void then FineAct.Unseen Unseen.Void else event in
      let a = object_says o gave said in
      let m = object_moves o said gave in
      IsTrue (object_takes a) → (or_void image p a (by_actor image p (Act.Expire (address_of image x) (woken_in (act_in a)))) ≡ a) × (gave ≡ m)
  expire-made o void x e gave takes =
      let event = by_actor image p (Act.Expire (address_of image x) (woken_in (act_in e))) in
      let said = by_actor image p (Act.Expire (address_of image x) (replies_of (run_out o).2)) in (
        look-made (object_says o gave) (object_finds o gave) void event said (λ z. or_void image p z (by_actor image p (Act.Expire (address_of image x) (woken_in (act_in z))))) object_takes refl refl refl refl refl refl takes,
        look-moves (λ z. object_moves o z gave) void event gave refl refl,
      )

  -- who sleeps is roused, or isn't there
  sought-made : (j : Joins) (who : ThreadIx) (there : Bool) → let a = looked_for there (FineAct.Unseen Unseen.Void) in
      IsTrue (join_takes a) → (or_void image p a (FineAct.Unseen (Unseen.Rouse who)) ≡ a) × (is_void a ≡ true)
  sought-made j who true takes = absurd (false≢true takes)
  sought-made j who false takes = (refl, refl)

  roused-made : (j : Joins) (who : ℕ) (c : Option Context) → let a = if is_some c then FineAct.Unseen (Unseen.Rouse (to_thread who)) else FineAct.Unseen Unseen.Void in
      let m = roused (to_thread who) c in (or_void image p a (FineAct.Unseen (Unseen.Rouse (to_thread who))) ≡ a) × (roused_by image p who (is_void a) m ≡ m)
  roused-made j who None = (refl, refl)
  roused-made j who (Some c) = (refl, refl)

  rouse-made : (n : ℕ) (j : Joins) (who : ℕ) (void : Bool) (moved : Exchange)
      → let said = if void then FineAct.Unseen Unseen.Void else FineAct.Unseen (Unseen.Rouse (to_thread who)) in
      let gave = roused_by image p who void moved in
      let a = join_says j gave said in
      let m = join_moves j said gave in IsTrue (join_takes a) → (or_void image p a (FineAct.Unseen (Unseen.Rouse (to_thread who))) ≡ a) × (roused_by image p who (is_void a) m ≡ m)
  rouse-made n j who true moved takes =
      let r = sought-made j (to_thread who) (sleeps j who) takes in (r.0, ap (λ b. roused_by image p who b (Exchange.sought (to_thread who) None)) r.1)
  rouse-made n j who false moved takes = roused-made j who (asleep_at j who)

  -- the end of a thread, for which somebody waits or nobody
  abbrev pub leaves : FineAct → FineAct
  leaves z = if is_shut_act z then FineAct.Unseen (Unseen.Shut (me image p)) else by_me image p (Act.Left (me image p) (woken_in (act_in z)))

  leaves-again : (j : Joins) (b : Bool) → let a = if b then by_me image p (Act.Left (me image p) (replies_of (all_joined j p.context.thread))) else FineAct.Unseen (Unseen.Shut (me image p)) in leaves a ≡ a
  leaves-again j true = refl
  leaves-again j false = refl

  leave-made : (j : Joins) (shut : Bool) (e : FineAct) (gave : Exchange)
      → let said = if shut then FineAct.Unseen (Unseen.Shut (me image p)) else by_me image p (Act.Left (me image p) (woken_in (act_in e))) in
      let a = join_says j gave said in (leaves a ≡ a) × (gave ≡ join_moves j said gave)
  leave-made j true e gave = (leaves-again j (is_joined j p.context.thread), refl)
  leave-made j false e gave = (leaves-again j (is_joined j p.context.thread), refl)

  pub as-made : (todo : Todos) (s : SiteState) (act : FineAct) (moved : Exchange) → IsTrue (is_sort (site_by image p todo act) s) → IsSettled todo s moved → IsAsMade todo s act moved
  as-made [] s act moved h e takes = tends-made s act (is_due_act act) (is_tick act) moved refl refl h takes
  as-made (Todo.show q rest ∷ todo) s act moved h e takes = (show-made q rest s act moved h, show-moves q rest s act moved h, refl)
  as-made (Todo.hold ∷ todo) (SiteState.thread w) act moved h e takes = (refl, refl, refl)
  as-made (Todo.let_go ∷ todo) (SiteState.thread w) act moved h e takes = (refl, refl, refl)
  as-made (Todo.read_claim d ∷ todo) (SiteState.domain w) act moved h e takes = (refl, refl, refl)
  as-made (Todo.read_done d ∷ todo) (SiteState.domain w) act moved h e takes = (refl, refl, refl)
  as-made (Todo.region_load ∷ todo) (SiteState.cell n (Cell.parts parts)) act moved h e takes = (refl, refl, refl)
  as-made (Todo.write_claim d ∷ todo) (SiteState.domain w) act moved h e takes = (refl, refl, refl)
  as-made (Todo.edit d q ∷ todo) (SiteState.cell n (Cell.parts parts)) act moved h e takes =
      (refl, λ i. Exchange.edited parts (domain_after (sym e i) (edit_of image q (sym e i))), refl)
  as-made (Todo.size_look x ∷ todo) (SiteState.cell n (Cell.object o)) act moved h e takes = (refl, refl, refl)
  as-made (Todo.end_call x ∷ todo) (SiteState.row w) act moved h e takes = (refl, refl, refl)
  as-made (Todo.wake who told ∷ todo) (SiteState.cell n (Cell.scheduler s)) act moved h e takes = (refl, refl, refl)
  as-made (Todo.add c ∷ todo) (SiteState.cell n (Cell.scheduler s)) act moved h e takes = (refl, refl, refl)
  as-made (Todo.pass who x ∷ todo) (SiteState.row w) act moved h e takes = (visit-made w (Act.Inherit (to_thread who) (address_of image x)) (λ z. Act.Inherit (to_thread who) (address_of image x)) (is_visit act) refl, refl, refl)
  as-made (Todo.drop x ∷ todo) (SiteState.row w) act moved h e takes =
      (visit-made w (Act.DropPair (me image p) (address_of image x) (leftover_in (act_in act))) (λ z. Act.DropPair (me image p) (address_of image x) (leftover_in z)) (is_visit act) refl, refl, refl)
  as-made (Todo.clean_pair who x ∷ todo) (SiteState.row w) act moved h e takes =
      (visit-made w (Act.DropPair (to_thread who) (address_of image x) (leftover_in (act_in act))) (λ z. Act.DropPair (to_thread who) (address_of image x) (leftover_in z)) (is_visit act) refl, refl, refl)
  as-made (Todo.wipe x ∷ todo) (SiteState.cell n (Cell.object o)) act moved h e takes = (refl, refl, refl)
  as-made (Todo.vacate x ∷ todo) (SiteState.row w) act moved h e takes = (refl, refl, refl)
  as-made (Todo.recycle x ∷ todo) (SiteState.cell n (Cell.heap k)) act moved h e takes = (refl, refl, refl)
  as-made (Todo.park ∷ todo) (SiteState.cell n (Cell.scheduler s)) act moved h e takes = (refl, refl, refl)
  as-made (Todo.done ∷ todo) (SiteState.cell n (Cell.scheduler s)) act moved h e takes = (refl, refl, refl)
  as-made (Todo.note site ∷ todo) (SiteState.thread w) act moved h e takes = (refl, refl, refl)
  as-made (Todo.owe ∷ todo) (SiteState.cell n (Cell.scheduler s)) act moved h e takes = (refl, refl, refl)
  as-made (Todo.settle deadline mark ∷ todo) (SiteState.cell n (Cell.clock c)) act moved h e takes = (refl, refl, refl)
  as-made (Todo.reread site ∷ todo) (SiteState.thread w) act moved h e takes = (refl, refl, refl)
  as-made (Todo.look who site before ∷ todo) s act moved h e takes =
      let r = cut-made s (is_void act) (me image p) (to_thread who) (Exchange.sought (to_thread who) (Some before)) e takes in (r.0, r.1, refl)
  as-made (Todo.tell_cut who ∷ todo) (SiteState.cell n (Cell.scheduler s)) act moved h e takes = (refl, refl, refl)
  as-made (Todo.rouse who ∷ todo) (SiteState.cell n (Cell.joins j)) act moved h e takes =
      let r = rouse-made n j who (is_void act) moved (and_parts _ _ takes).1 in (r.0, r.1, refl)
  as-made (Todo.sleep ∷ todo) (SiteState.cell n (Cell.joins j)) act moved h e takes = (refl, refl, refl)
  as-made (Todo.reread_asleep ∷ todo) (SiteState.thread w) act moved h e takes = (refl, refl, refl)
  as-made (Todo.unshut who ∷ todo) (SiteState.cell n (Cell.joins j)) act moved h e takes = (refl, refl, refl)
  as-made (Todo.leave ∷ todo) (SiteState.cell n (Cell.joins j)) act moved h e takes =
      let r = leave-made j (is_shut_act act) act Exchange.nothing in (r.0, r.1, refl)
  as-made (Todo.handle deadline (Mark.Thread who site) ∷ todo) s act moved h e takes =
      let r = timeout-made s (is_void act) (to_thread (actor_or image p.actor)) who (Exchange.mark deadline (Mark.Thread who site)) e takes in (r.0, r.1, refl)
  as-made (Todo.handle deadline (Mark.Timer x) ∷ todo) (SiteState.cell n (Cell.object o)) act moved h e takes =
      let r = expire-made o (is_void act) x.0 act (Exchange.mark deadline (Mark.Timer x)) (and_parts _ _ takes).1 in (r.0, r.1, refl)
  as-made (Todo.paid ∷ todo) (SiteState.cell n (Cell.scheduler s)) act moved h e takes = (refl, refl, refl)
  as-made todo s act moved h e takes = absurd (false≢true h)

module _ (image : Image) where
  -- The step that results from filling in twice, so that an edit has the domain's partitions, is lawful for its processor if its site takes
  -- it and its word fits; and it is lawful for the site.
  pub asks-lawfully : (p : Processor) (s : SiteState) (e : FineStep) → IsTrue (is_sort (next_site image p e.act) s) → IsSettled image p p.todo s e.moved → (let made = filled image s (made_by image p e) in IsTrue (site_takes s made.act) → IsTrue (fits image p p.todo made) → CpuMay image p made × SiteMay image s made)
  asks-lawfully p s e sort settled takes fit =
      let both = as-made image p p.todo s e.act e.moved sort settled takes in
      (record { makes = λ i. record (filled image s (made_by image p e)) { site = both.2 i; act = both.0 i; moved = both.1 i }; fit = fit }, record { takes = takes; filled_in = filled-twice image s (made_by image p e) })
