-- What a lawful step makes of what its site has left.
use Rattle.std.proofs.Common.{◌≡◌, ◌≤◌, ℕ, ◌+◌, Bool, true, false, List, [], ◌∷◌, length, refl, ap, subst, arith, Option, Some, None}
use Rattle.std.specs.Prelude.{is_some, nat_lt, unwrap_or}
use Rattle.std.proofs.lemmas.Bool.{and_parts, false≢true, true≢false}
use Rattle.um_base.specs.declared.act.Act.{Act}
use Rattle.um_base.specs.declared.act.Leftover.{Leftover}
use Rattle.um_base.specs.declared.image.Image.{Image}
use Rattle.um_base.specs.declared.names.Addr.{Addr}
use Rattle.um_base.specs.declared.names.Reply.{Reply}
use Rattle.um_base.specs.declared.names.ThreadIx.{ThreadIx}
use Rattle.um_machine.specs.declared.pending.Pending.{Pending}
use Rattle.um_machine.specs.Order.{Steps}
use Rattle.um_machine.specs.Services.{in_order}
use Rattle.um_machine.specs.Table.{replies_of}
use Rattle.um_words.specs.declared.dom_word.DomWord.{DomWord}
use Rattle.um_words.specs.declared.fine.FineAct.{FineAct}
use Rattle.um_words.specs.declared.fine.Mark.{Mark}
use Rattle.um_words.specs.declared.fine.More.{More}
use Rattle.um_words.specs.declared.fine.Unseen.{Unseen}
use Rattle.um_words.specs.declared.thread_word.ThreadWord.{ThreadWord}
use Rattle.um_words.specs.CellActs.{heap_takes, is_resume, object_takes, parts_takes}
use Rattle.um_words.specs.Domains.{domain_takes}
use Rattle.um_words.specs.Rows.{is_cleaning, row_takes}
use Rattle.um_words.specs.Threads.{thread_takes}
use Rattle.um_fine.specs.Answers.{act_in, answer_in, caller_in, context_in, is_void, outcome_in, row_in, wake_in, woken_in}
use Rattle.um_fine.specs.Cells.{Cell, cell_moves, cell_says, cell_takes}
use Rattle.um_fine.specs.Context.{Context, no_context}
use Rattle.um_fine.specs.Objects.{ObjectCell, object_after, object_finds, object_moves, object_says, outcome_of, run_out, work_on}
use Rattle.um_fine.specs.Seeking.{finds, looked_for}
use Rattle.um_fine.specs.Scheduler.{Scheduler, first_ready, first_taken, has_ready, is_cut, parked_at, sched_after, sched_moves, sched_takes, to_kill, waits}
use Rattle.um_fine.specs.Sites.{SiteMay, SiteState, s_next, site_after, site_answers, site_moves, site_takes, word_of}
use Rattle.um_fine.specs.Steps.{Exchange, FineStep, Outcome, Word}
use Rattle.um_fine_measure.specs.Measure.{object_cost, parked_cost, place_cost, scheduler_cost, site_cost, told_cost}
use Rattle.um_fine_measure.specs.Ready.{AreCut}
use Rattle.um_fine_measure.proofs.Between.{begun_cost, given_by, is_marked, is_sought, joins, taken_by, taken_by_act, taken_cost}
use Rattle.um_fine_measure.proofs.CellLemmas.{cut-less, join-falls, late-less, looks-found, memory-falls, out-less}
use Rattle.um_fine_measure.proofs.ClockLemmas.{clock-falls}
use Rattle.um_fine_measure.proofs.RowLemmas.{begins_by, cost_if, row-falls}
use Rattle.um_measure.proofs.TotalLemmas.{total-set}
use Rattle.um_fine_measure.proofs.WaiterLemmas.{waiters-pay}

-- A cleaning is begun at a row.

abbrev IsOther : Word → Type 0
IsOther (Word.row w) = ⊥
IsOther word = Unit {0}

other-word : (word : Word) → IsOther word → is_cleaning (row_in word).stage ≡ false
other-word (Word.row w) h = absurd h
other-word (Word.thread w) h = refl
other-word (Word.domain w) h = refl
other-word (Word.cell w) h = refl

begins-none : (act : FineAct) (word : Word) → IsOther word → begins_by act word ≡ false
begins-none (FineAct.Shown event more) word h = by event.act
  where
    by : (act : Act) → begins_by (FineAct.Shown (record event { act = act }) more) word ≡ false
    by (Act.DropPair who a Leftover.Gone) = other-word word h
    by (Act.DropPair who a Leftover.Kept) = refl
    by (Act.DropPair who a Leftover.NoPair) = refl
    by act = refl
begins-none (FineAct.Unseen Unseen.EndCall) word h = other-word word h
begins-none (FineAct.Unseen unseen) word h = refl

-- the events that take something from a site
abbrev takes_by_act : Act → Bool
takes_by_act Act.Resume = true
takes_by_act (Act.Work a answer woken) = true
takes_by_act (Act.FutexWake a answer woken) = true
takes_by_act (Act.Left who woken) = true
takes_by_act (Act.Expire a woken) = true
takes_by_act (Act.TimedOut who) = true
takes_by_act (Act.Cut who) = true
takes_by_act (Act.Tick now) = true
takes_by_act act = false

module _ (image : Image) where
  abbrev SiteFalls : SiteState → FineAct → Exchange → Type 0
  SiteFalls s act moved =
      site_cost image (site_after image s act moved) + cost_if (begins_by act (word_of (site_after image s act moved))) + taken_by image act moved
      ≤ site_cost image s + given_by image act moved

  -- Sites that have nothing left.

  -- the acts that take something from a site
  abbrev takes_some : FineAct → Bool
  takes_some (FineAct.Shown event more) = takes_by_act event.act
  takes_some (FineAct.Unseen (Unseen.Next who)) = true
  takes_some (FineAct.Unseen (Unseen.Rouse who)) = true
  takes_some (FineAct.Unseen Unseen.Due) = true
  takes_some (FineAct.Unseen unseen) = false

  takes-none : (act : FineAct) (moved : Exchange) → takes_some act ≡ false → taken_by image act moved ≡ 0
  takes-none (FineAct.Shown event more) moved h = by event.act h
    where
      by : (act : Act) → takes_by_act act ≡ false → taken_by_act image act moved ≡ 0
      by Act.Resume h = absurd (true≢false h)
      by (Act.Work a answer woken) h = absurd (true≢false h)
      by (Act.FutexWake a answer woken) h = absurd (true≢false h)
      by (Act.Left who woken) h = absurd (true≢false h)
      by (Act.Expire a woken) h = absurd (true≢false h)
      by (Act.TimedOut who) h = absurd (true≢false h)
      by (Act.Cut who) h = absurd (true≢false h)
      by (Act.Tick now) h = absurd (true≢false h)
      by act h = refl
  takes-none (FineAct.Unseen (Unseen.Next who)) moved h = absurd (true≢false h)
  takes-none (FineAct.Unseen (Unseen.Rouse who)) moved h = absurd (true≢false h)
  takes-none (FineAct.Unseen Unseen.Due) moved h = absurd (true≢false h)
  takes-none (FineAct.Unseen unseen) moved h = refl

  thread-quiet : (w : ThreadWord) (act : FineAct) → thread_takes w act ≡ true → takes_some act ≡ false
  thread-quiet w (FineAct.Shown event more) h = by event.act h
    where
      by : (act : Act) → thread_takes w (FineAct.Shown (record event { act = act }) more) ≡ true → takes_by_act act ≡ false
      by Act.Resume h = absurd (false≢true h)
      by (Act.Work a answer woken) h = absurd (false≢true h)
      by (Act.FutexWake a answer woken) h = absurd (false≢true h)
      by (Act.Left who woken) h = absurd (false≢true h)
      by (Act.Expire a woken) h = absurd (false≢true h)
      by (Act.TimedOut who) h = absurd (false≢true h)
      by (Act.Cut who) h = absurd (false≢true h)
      by (Act.Tick now) h = absurd (false≢true h)
      by act h = refl
  thread-quiet w (FineAct.Unseen (Unseen.Next who)) h = absurd (false≢true h)
  thread-quiet w (FineAct.Unseen (Unseen.Rouse who)) h = absurd (false≢true h)
  thread-quiet w (FineAct.Unseen Unseen.Due) h = absurd (false≢true h)
  thread-quiet w (FineAct.Unseen unseen) h = refl

  domain-quiet : (w : DomWord) (act : FineAct) → domain_takes w act ≡ true → takes_some act ≡ false
  domain-quiet w (FineAct.Shown event more) h = by event.act h
    where
      by : (act : Act) → domain_takes w (FineAct.Shown (record event { act = act }) more) ≡ true → takes_by_act act ≡ false
      by Act.Resume h = absurd (false≢true h)
      by (Act.Work a answer woken) h = absurd (false≢true h)
      by (Act.FutexWake a answer woken) h = absurd (false≢true h)
      by (Act.Left who woken) h = absurd (false≢true h)
      by (Act.Expire a woken) h = absurd (false≢true h)
      by (Act.TimedOut who) h = absurd (false≢true h)
      by (Act.Cut who) h = absurd (false≢true h)
      by (Act.Tick now) h = absurd (false≢true h)
      by act h = refl
  domain-quiet w (FineAct.Unseen (Unseen.Next who)) h = absurd (false≢true h)
  domain-quiet w (FineAct.Unseen (Unseen.Rouse who)) h = absurd (false≢true h)
  domain-quiet w (FineAct.Unseen Unseen.Due) h = absurd (false≢true h)
  domain-quiet w (FineAct.Unseen unseen) h = refl

  parts-quiet : (act : FineAct) → parts_takes act ≡ true → takes_some act ≡ false
  parts-quiet (FineAct.Unseen Unseen.RegionLoad) h = refl
  parts-quiet (FineAct.Unseen Unseen.Edit) h = refl
  parts-quiet act h = absurd (false≢true h)

  heap-quiet : (act : FineAct) → heap_takes act ≡ true → takes_some act ≡ false
  heap-quiet (FineAct.Shown event more) h = by event.act h
    where
      by : (act : Act) → heap_takes (FineAct.Shown (record event { act = act }) more) ≡ true → takes_by_act act ≡ false
      by (Act.Reserve kind addr) h = refl
      by (Act.Buffer n fits) h = refl
      by (Act.Unbuffer n) h = refl
      by (Act.Recycle a) h = refl
      by act h = absurd (false≢true h)
  heap-quiet (FineAct.Unseen unseen) h = absurd (false≢true h)

  -- The cell of an object.

  abbrev ObjectFalls : ObjectCell → FineAct → Exchange → Type 0
  ObjectFalls o act moved = object_cost (object_after o act moved) + taken_by image act moved ≤ object_cost o + given_by image act moved

  expired : (o : ObjectCell) (t : ThreadIx) (more : More) (moved : Exchange) (a : Addr) (woken : List (ThreadIx × Reply)) (found : Bool)
      → looked_for found (FineAct.Shown (record { thread = t; act = Act.Expire a (replies_of (run_out o).2) }) more) ≡ FineAct.Shown (record { thread = t; act = Act.Expire a woken }) more
      → replies_of (run_out o).2 ≡ woken
  expired o t more moved a woken true h = ap (λ (act : FineAct). woken_in (act_in act)) h
  expired o t more moved a woken false h = absurd (true≢false (ap is_void h))

  sought-there : (o : ObjectCell) (who : ThreadIx) (moved : Exchange) → object_finds o moved ≡ true → is_sought who moved ≡ true → finds o.waiters o.noted moved ≡ true
  sought-there o who (Exchange.sought thread before) found is = found
  sought-there o who moved found is = absurd (false≢true is)

  marked-there : (o : ObjectCell) (who : ThreadIx) (moved : Exchange) → object_finds o moved ≡ true → is_marked who moved ≡ true → finds o.waiters o.noted moved ≡ true
  marked-there o who (Exchange.mark deadline (Mark.Thread thread site)) found is = found
  marked-there o who moved found is = absurd (false≢true is)

  object-shown : (o : ObjectCell) (t : ThreadIx) (more : More) (act : Act) (moved : Exchange) → object_takes (FineAct.Shown (record { thread = t; act = act }) more) ≡ true
      → object_says o moved (FineAct.Shown (record { thread = t; act = act }) more) ≡ FineAct.Shown (record { thread = t; act = act }) more
      → object_moves o (FineAct.Shown (record { thread = t; act = act }) more) moved ≡ moved → ObjectFalls o (FineAct.Shown (record { thread = t; act = act }) more) moved
  object-shown o t more (Act.Work a answer woken) moved takes says moves =
      let outcome : outcome_of (work_on o moved) ≡ outcome_in moved = ap outcome_in moves in
      let pays = waiters-pay o.contents o.waiters (caller_in moved) in
      let woke : length (work_on o moved).woken ≡ length (outcome_in moved).woken = ap (λ (r : Outcome). length r.woken) outcome in
      let joined : joins (work_on o moved).answer ≡ joins answer = ap (λ (act : FineAct). joins (answer_in (act_in act))) says in
      omega (arith, pays, woke, joined)
  object-shown o t more (Act.Named who) moved takes says moves = omega arith
  object-shown o t more (Act.Expire a woken) moved takes says moves =
      let same : replies_of (run_out o).2 ≡ woken = expired o t more moved a woken (object_finds o moved) says in
      let less = out-less o.waiters (in_order o.waiters) refl in
      let long : length (replies_of (run_out o).2) ≡ length woken = ap length same in omega (arith, less, long)
  object-shown o t more (Act.TimedOut who) moved takes says moves =
      let found = looks-found (object_finds o moved) t more (Act.TimedOut who) _ says refl in
      let less = late-less o.waiters o.noted who moved (marked-there o who moved found) in omega (arith, less)
  object-shown o t more (Act.Cut who) moved takes says moves =
      let found = looks-found (object_finds o moved) t more (Act.Cut who) _ says refl in
      let less = cut-less o.waiters o.noted who moved (sought-there o who moved found) in omega (arith, less)
  object-shown o t more act moved takes says moves = absurd (false≢true takes)

  object-falls : (o : ObjectCell) (act : FineAct) (moved : Exchange) → object_takes act ≡ true → object_says o moved act ≡ act → object_moves o act moved ≡ moved → ObjectFalls o act moved
  object-falls o (FineAct.Shown event more) moved takes says moves = object-shown o event.thread more event.act moved takes says moves
  object-falls o (FineAct.Unseen Unseen.SizeLook) moved takes says moves = omega arith
  object-falls o (FineAct.Unseen Unseen.Wipe) moved takes says moves = omega arith
  object-falls o (FineAct.Unseen Unseen.Void) moved takes says moves = omega arith
  object-falls o (FineAct.Unseen unseen) moved takes says moves = absurd (false≢true takes)

  -- The scheduler.

  abbrev SchedulerFalls : Scheduler → FineAct → Exchange → Type 0
  SchedulerFalls s act moved = scheduler_cost image (sched_after s act moved) + taken_by image act moved ≤ scheduler_cost image s + given_by image act moved

  -- who is to be killed costs no more than it did
  killed-cost : (cut : Bool) (c : Context) (steps : Steps) → c.pending ≡ steps → (cut ≡ true → waits steps ≡ true) → parked_cost image (to_kill cut c) ≤ parked_cost image c
  killed-cost false c steps e h = omega arith
  killed-cost true c (Pending.Resume ∷ rest) e h = rw e (omega arith)
  killed-cost true c steps e h = absurd (false≢true (h refl))

  -- the first one is taken
  take-falls : (s : Scheduler) (ready : List ℕ) → ((t : ℕ) (c : Context) → parked_at s t ≡ Some c → is_cut s t ≡ true → waits c.pending ≡ true) → has_ready s ready ≡ true
      → scheduler_cost image (first_taken s ready) + taken_cost image (first_ready s ready) ≤ scheduler_cost image s
  take-falls s [] cut h = absurd (false≢true h)
  take-falls s (t ∷ ready) cut h =
      let parked = total-set (place_cost image) None refl s.parked t None in
      let told = total-set told_cost None refl s.told t None in
      let there = place (parked_at s t) refl (and_parts (is_some (parked_at s t)) (nat_lt s.running 255) h).0 in
      omega (arith, parked, told, there)
    where
      place : (o : Option Context) → parked_at s t ≡ o → is_some o ≡ true → parked_cost image (to_kill (is_cut s t) (unwrap_or o no_context)) ≤ place_cost image o
      place None at e = absurd (false≢true e)
      place (Some c) at e = killed-cost (is_cut s t) c c.pending refl (cut t c at)

  turn-falls : (s : Scheduler) (moved : Exchange) → ((t : ℕ) (c : Context) → parked_at s t ≡ Some c → is_cut s t ≡ true → waits c.pending ≡ true) → has_ready s s.ready ≡ true → first_ready s s.ready ≡ moved
      → scheduler_cost image (first_taken s s.ready) + taken_cost image moved ≤ scheduler_cost image s
  turn-falls s moved cut h moves =
      subst (λ (m : Exchange). scheduler_cost image (first_taken s s.ready) + taken_cost image m ≤ scheduler_cost image s) moves (take-falls s s.ready cut h)

  scheduler-falls : (s : Scheduler) (act : FineAct) (moved : Exchange) → AreCut (SiteState.cell 0 (Cell.scheduler s)) → sched_takes s act ≡ true → sched_moves s act moved ≡ moved → SchedulerFalls s act moved
  scheduler-falls s (FineAct.Shown event more) moved cut takes moves =
      let parts = and_parts (is_resume event.act) (has_ready s s.ready) takes in
      let falls = turn-falls s moved cut parts.1 moves in by event.act parts.0 falls
    where
      by : (act : Act) → is_resume act ≡ true → scheduler_cost image (first_taken s s.ready) + taken_cost image moved ≤ scheduler_cost image s
          → SchedulerFalls s (FineAct.Shown (record event { act = act }) more) moved
      by Act.Resume h falls = omega (arith, falls)
      by act h falls = absurd (false≢true h)
  scheduler-falls s (FineAct.Unseen (Unseen.Next who)) moved cut takes moves = let falls = turn-falls s moved cut takes moves in omega (arith, falls)
  scheduler-falls s (FineAct.Unseen (Unseen.Wake who ready)) moved cut takes moves = let set = total-set told_cost None refl s.told who.0 (Some (wake_in moved)) in omega (arith, set)
  scheduler-falls s (FineAct.Unseen (Unseen.Park who ready)) moved cut takes moves =
      let set = total-set (place_cost image) None refl s.parked (context_in moved).thread (Some (context_in moved)) in omega (arith, set)
  scheduler-falls s (FineAct.Unseen (Unseen.Add who)) moved cut takes moves =
      let set = total-set (place_cost image) None refl s.parked (context_in moved).thread (Some (context_in moved)) in omega (arith, set)
  scheduler-falls s (FineAct.Unseen Unseen.Done) moved cut takes moves = omega arith
  scheduler-falls s (FineAct.Unseen (Unseen.Cut who ready)) moved cut takes moves = omega arith
  scheduler-falls s (FineAct.Unseen Unseen.Owe) moved cut takes moves = omega arith
  scheduler-falls s (FineAct.Unseen Unseen.Paid) moved cut takes moves = omega arith
  scheduler-falls s (FineAct.Unseen unseen) moved cut takes moves = absurd (false≢true takes)

  -- All sites.

  cell-falls : (n : ℕ) (c : Cell) (act : FineAct) (moved : Exchange) → AreCut (SiteState.cell n c) → cell_takes c act ≡ true → cell_says image c moved act ≡ act → cell_moves image c act moved ≡ moved
      → SiteFalls (SiteState.cell n c) act moved
  cell-falls n (Cell.object o) act moved cut takes says moves =
      let none = begins-none act (word_of (site_after image (SiteState.cell n (Cell.object o)) act moved)) tt in
      let falls = object-falls o act moved takes says moves in rw none (omega (arith, falls))
  cell-falls n (Cell.parts d) act moved cut takes says moves =
      let none = begins-none act (word_of (site_after image (SiteState.cell n (Cell.parts d)) act moved)) tt in
      let quiet = takes-none act moved (parts-quiet act takes) in rw none (omega (arith, quiet))
  cell-falls n (Cell.memory m) act moved cut takes says moves =
      let none = begins-none act (word_of (site_after image (SiteState.cell n (Cell.memory m)) act moved)) tt in
      let falls = memory-falls image m act moved takes says in rw none (omega (arith, falls))
  cell-falls n (Cell.heap h) act moved cut takes says moves =
      let none = begins-none act (word_of (site_after image (SiteState.cell n (Cell.heap h)) act moved)) tt in
      let quiet = takes-none act moved (heap-quiet act takes) in rw none (omega (arith, quiet))
  cell-falls n (Cell.scheduler s) act moved cut takes says moves =
      let none = begins-none act (word_of (site_after image (SiteState.cell n (Cell.scheduler s)) act moved)) tt in
      let falls = scheduler-falls s act moved cut takes moves in rw none (omega (arith, falls))
  cell-falls n (Cell.clock c) act moved cut takes says moves =
      let none = begins-none act (word_of (site_after image (SiteState.cell n (Cell.clock c)) act moved)) tt in
      let falls = clock-falls image c act moved takes says in rw none (omega (arith, falls))
  cell-falls n (Cell.joins j) act moved cut takes says moves =
      let none = begins-none act (word_of (site_after image (SiteState.cell n (Cell.joins j)) act moved)) tt in
      let falls = join-falls image j act moved takes says moves in rw none (omega (arith, falls))

  falls : (s : SiteState) (act : FineAct) (moved : Exchange) → AreCut s → site_takes s act ≡ true → site_answers image s moved act ≡ act → site_moves image s act moved ≡ moved → SiteFalls s act moved
  falls (SiteState.row w) act moved cut takes says moves = row-falls image w act moved (and_parts (nat_lt w.number 1048575) (row_takes w act) takes).1 says
  falls (SiteState.thread w) act moved cut takes says moves =
      let none = begins-none act (word_of (site_after image (SiteState.thread w) act moved)) tt in
      let quiet = takes-none act moved (thread-quiet w act (and_parts (nat_lt w.number 268435455) (thread_takes w act) takes).1) in rw none (omega (arith, quiet))
  falls (SiteState.domain w) act moved cut takes says moves =
      let none = begins-none act (word_of (site_after image (SiteState.domain w) act moved)) tt in
      let quiet = takes-none act moved (domain-quiet w act (and_parts (nat_lt w.number 268435455) (domain_takes w act) takes).1) in rw none (omega (arith, quiet))
  falls (SiteState.cell n c) act moved cut takes says moves = cell-falls n c act moved cut (and_parts (nat_lt n 268435455) (cell_takes c act) takes).1 says moves

  -- what a site has left after a step, and what the step takes from there, is no more than was left and what the step adds
  pub site-falls : (s : SiteState) (e : FineStep) → SiteMay image s e → AreCut s
      → site_cost image (s_next image s e) + begun_cost e + taken_by image e.act e.moved ≤ site_cost image s + given_by image e.act e.moved
  site-falls s e may cut =
      let says : site_answers image s e.moved e.act ≡ e.act = ap (λ (g : FineStep). g.act) may.filled_in in
      let moves : site_moves image s e.act e.moved ≡ e.moved = ap (λ (g : FineStep). g.moved) may.filled_in in
      let left : word_of (site_after image s (site_answers image s e.moved e.act) (site_moves image s e.act e.moved)) ≡ e.word = ap (λ (g : FineStep). g.word) may.filled_in in
      let word : word_of (s_next image s e) ≡ e.word = subst (λ (z : FineAct × Exchange). word_of (site_after image s z.0 z.1) ≡ e.word) (λ i. (says i, moves i)) left in
      let begun : cost_if (begins_by e.act (word_of (s_next image s e))) ≡ begun_cost e = ap (λ (z : Word). cost_if (begins_by e.act z)) word in
      let less = falls s e.act e.moved cut may.takes says moves in omega (arith, begun, less)
