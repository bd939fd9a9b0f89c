-- Filling a step in twice is the same as once: what a site fills in doesn't depend on what was filled in before.
use Rattle.std.proofs.Common.{◌≡◌, ℕ, Bool, true, false, Option, Some, None, refl, sym, ap, ◌∙◌}
use Rattle.std.specs.Prelude.{if◌then◌else◌, is_some}
use Rattle.um_base.specs.declared.names.ThreadIx.{ThreadIx}
use Rattle.um_base.specs.declared.act.Act.{Act}
use Rattle.um_base.specs.declared.act.Event.{Event}
use Rattle.um_base.specs.declared.image.Image.{Image}
use Rattle.um_base.specs.Regions.{Partitions}
use Rattle.um_machine.specs.Table.{replies_of}
use Rattle.um_words.specs.declared.fine.FineAct.{FineAct}
use Rattle.um_words.specs.declared.fine.More.{More}
use Rattle.um_words.specs.declared.fine.Unseen.{Unseen}
use Rattle.um_words.specs.declared.row_word.RowWord.{RowWord}
use Rattle.um_words.specs.declared.thread_word.ThreadWord.{ThreadWord}
use Rattle.um_words.specs.Rows.{row_says_act}
use Rattle.um_fine.specs.Context.{Context}
use Rattle.um_fine.specs.Steps.{Exchange, FineStep}
use Rattle.um_fine.specs.Answers.{act_in}
use Rattle.um_fine.specs.Seeking.{finds, looked_for, no_step}
use Rattle.um_fine.specs.Clock.{Clock, clock_moves, clock_says}
use Rattle.um_fine.specs.Joins.{Joins, all_joined, asleep_at, is_joined, join_finds, join_moves, join_says, left_or_shut, roused}
use Rattle.um_fine.specs.Threads.{thread_answers, unless_stopped}
use Rattle.um_fine.specs.Objects.{ObjectCell, object_finds, object_moves, object_says, parts_moves, run_out}
use Rattle.um_fine.specs.Memory.{Bytes, memory_moves, memory_says}
use Rattle.um_fine.specs.Heap.{Heap, heap_says_act}
use Rattle.um_fine.specs.Scheduler.{Scheduler, first_ready, sched_moves, sched_says, takes_turn, turn_in}
use Rattle.um_fine.specs.Cells.{Cell, cell_moves, cell_says}
use Rattle.um_fine.specs.Sites.{SiteState, filled, site_after, site_answers, site_moves, word_of}

row-twice : (w : RowWord) (t : ℕ) (more : More) (act : Act) → row_says_act w t more (row_says_act w t more act) ≡ row_says_act w t more act
row-twice w t more (Act.Check a kind want verdict) = refl
row-twice w t more (Act.Grant who a given) = refl
row-twice w t more (Act.Own who given) = refl
row-twice w t more (Act.Publish a given) = refl
row-twice w t more (Act.DropPair who a left) = refl
row-twice w t more (Act.SetInit a set) = refl
row-twice w t more act = refl

-- a thread at rest goes on, is killed, or is found doomed or suspended
rest-twice : (w : ThreadWord) (e : Event) (more : More) (doomed aborted suspended : Bool) → w.doomed ≡ doomed → w.aborted ≡ aborted → w.suspended ≡ suspended
    → (let a = FineAct.Shown e more in thread_answers w a ≡ unless_stopped w.doomed w.aborted w.suspended e more → thread_answers w (thread_answers w a) ≡ thread_answers w a)
rest-twice w e more true aborted suspended hd ha hs h =
    let r : thread_answers w (FineAct.Shown e more) ≡ FineAct.Unseen Unseen.WordRead = h ∙ (λ i. unless_stopped (hd i) w.aborted w.suspended e more) in ap (thread_answers w) r ∙ sym r
rest-twice w e more false true suspended hd ha hs h =
    let r : thread_answers w (FineAct.Shown e more) ≡ FineAct.Shown (record e { act = Act.Killed }) More.Nothing = h ∙ (λ i. unless_stopped (hd i) (ha i) w.suspended e more) in ap (thread_answers w) r ∙ sym r
rest-twice w e more false false true hd ha hs h =
    let r : thread_answers w (FineAct.Shown e more) ≡ FineAct.Unseen Unseen.WordRead = h ∙ (λ i. unless_stopped (hd i) (ha i) (hs i) e more) in ap (thread_answers w) r ∙ sym r
rest-twice w e more false false false hd ha hs h =
    let r : thread_answers w (FineAct.Shown e more) ≡ FineAct.Shown e more = h ∙ (λ i. unless_stopped (hd i) (ha i) (hs i) e more) in ap (thread_answers w) r

thread-twice : (w : ThreadWord) (t : ThreadIx) (more : More) (act : Act)
    → let a = FineAct.Shown (record { thread = t; act = act }) more in thread_answers w (thread_answers w a) ≡ thread_answers w a
thread-twice w t more (Act.Begin script line) = rest-twice w (record { thread = t; act = Act.Begin script line }) more w.doomed w.aborted w.suspended refl refl refl refl
thread-twice w t more Act.Exit = rest-twice w (record { thread = t; act = Act.Exit }) more w.doomed w.aborted w.suspended refl refl refl refl
thread-twice w t more (Act.Check a kind want verdict) = refl
thread-twice w t more act = refl

-- a look: what it finds, and that it finds nothing
found-twice : (f : FineAct → FineAct) (finds : Bool) (e : Event) (more : More) → f (FineAct.Shown e more) ≡ looked_for finds (FineAct.Shown e more) → f (FineAct.Unseen Unseen.Void) ≡ looked_for finds (FineAct.Unseen Unseen.Void)
    → f (looked_for finds (FineAct.Shown e more)) ≡ looked_for finds (FineAct.Shown e more)
found-twice f true e more h v = h
found-twice f false e more h v = v

void-twice : (f : FineAct → FineAct) (finds : Bool) → f (FineAct.Unseen Unseen.Void) ≡ looked_for finds (FineAct.Unseen Unseen.Void) → f no_step ≡ no_step
    → f (looked_for finds (FineAct.Unseen Unseen.Void)) ≡ looked_for finds (FineAct.Unseen Unseen.Void)
void-twice f true h n = n
void-twice f false h n = h

looked-moves : (f : FineAct → Exchange) (moved : Exchange) (finds : Bool) (act : FineAct) → f (looked_for true act) ≡ moved → f (FineAct.Unseen Unseen.Void) ≡ moved → f (looked_for finds act) ≡ moved
looked-moves f moved true act h v = h
looked-moves f moved false act h v = v

object-act-twice : (o : ObjectCell) (moved : Exchange) (t : ThreadIx) (more : More) (act : Act)
    → let a = FineAct.Shown (record { thread = t; act = act }) more in object_says o (object_moves o a moved) (object_says o moved a) ≡ object_says o moved a
object-act-twice o moved t more (Act.Work a answer woken) = refl
object-act-twice o moved t more (Act.Expire a woken) = found-twice (object_says o moved) (object_finds o moved) (record { thread = t; act = Act.Expire a (replies_of (run_out o).2) }) more refl refl
object-act-twice o moved t more (Act.TimedOut who) = found-twice (object_says o moved) (object_finds o moved) (record { thread = t; act = Act.TimedOut who }) more refl refl
object-act-twice o moved t more (Act.Cut who) = found-twice (object_says o moved) (object_finds o moved) (record { thread = t; act = Act.Cut who }) more refl refl
object-act-twice o moved t more act = refl

object-moves-twice : (o : ObjectCell) (moved : Exchange) (t : ThreadIx) (more : More) (act : Act)
    → let a = FineAct.Shown (record { thread = t; act = act }) more in let m = object_moves o a moved in object_moves o (object_says o moved a) m ≡ m
object-moves-twice o moved t more (Act.Work a answer woken) = refl
object-moves-twice o moved t more (Act.Expire a woken) = looked-moves (λ z. object_moves o z moved) moved (object_finds o moved) (FineAct.Shown (record { thread = t; act = Act.Expire a (replies_of (run_out o).2) }) more) refl refl
object-moves-twice o moved t more (Act.TimedOut who) = looked-moves (λ z. object_moves o z moved) moved (object_finds o moved) (FineAct.Shown (record { thread = t; act = Act.TimedOut who }) more) refl refl
object-moves-twice o moved t more (Act.Cut who) = looked-moves (λ z. object_moves o z moved) moved (object_finds o moved) (FineAct.Shown (record { thread = t; act = Act.Cut who }) more) refl refl
object-moves-twice o moved t more act = refl

object-unseen-twice : (o : ObjectCell) (u : Unseen) (moved : Exchange) → let a = FineAct.Unseen u in object_says o (object_moves o a moved) (object_says o moved a) ≡ object_says o moved a
object-unseen-twice o Unseen.Void moved = void-twice (object_says o moved) (object_finds o moved) refl refl
object-unseen-twice o u moved = refl

object-unseen-moves : (o : ObjectCell) (u : Unseen) (moved : Exchange) → let a = FineAct.Unseen u in let m = object_moves o a moved in object_moves o (object_says o moved a) m ≡ m
object-unseen-moves o Unseen.SizeLook moved = refl
object-unseen-moves o Unseen.Wipe moved = refl
object-unseen-moves o Unseen.Void moved = looked-moves (λ z. object_moves o z moved) moved (object_finds o moved) (FineAct.Unseen Unseen.Void) refl refl
object-unseen-moves o u moved = refl

parts-twice : (d : Option Partitions) (act : FineAct) (moved : Exchange) → parts_moves d act (parts_moves d act moved) ≡ parts_moves d act moved
parts-twice d (FineAct.Unseen Unseen.RegionLoad) moved = refl
parts-twice d (FineAct.Unseen Unseen.Edit) (Exchange.edited before after) = refl
parts-twice d act moved = refl

memory-act-twice : (image : Image) (m : Bytes) (moved : Exchange) (t : ThreadIx) (more : More) (act : Act)
    → let a = FineAct.Shown (record { thread = t; act = act }) more in memory_says image m (memory_moves image m act moved) (memory_says image m moved a) ≡ memory_says image m moved a
memory-act-twice image m moved t more (Act.Load a n value) = refl
memory-act-twice image m moved t more (Act.CopyStr a found) = refl
memory-act-twice image m moved t more (Act.FutexWait a value answer) = refl
memory-act-twice image m moved t more (Act.FutexWake a answer woken) = refl
memory-act-twice image m moved t more (Act.TimedOut who) = found-twice (memory_says image m moved) (finds m.futexes m.noted moved) (record { thread = t; act = Act.TimedOut who }) more refl refl
memory-act-twice image m moved t more (Act.Cut who) = found-twice (memory_says image m moved) (finds m.futexes m.noted moved) (record { thread = t; act = Act.Cut who }) more refl refl
memory-act-twice image m moved t more act = refl

memory-moves-twice : (image : Image) (m : Bytes) (moved : Exchange) (t : ThreadIx) (more : More) (act : Act)
    → let n = memory_moves image m act moved in let a = memory_says image m moved (FineAct.Shown (record { thread = t; act = act }) more) in memory_moves image m (act_in a) n ≡ n
memory-moves-twice image m moved t more (Act.CopyIn a n true) = refl
memory-moves-twice image m moved t more (Act.CopyIn a n false) = refl
memory-moves-twice image m moved t more (Act.Load a n value) = refl
memory-moves-twice image m moved t more (Act.CopyStr a found) = refl
memory-moves-twice image m moved t more (Act.FutexWait a value answer) = refl
memory-moves-twice image m moved t more (Act.FutexWake a answer woken) = refl
memory-moves-twice image m moved t more (Act.TimedOut who) = looked-moves (λ z. memory_moves image m (act_in z) moved) moved (finds m.futexes m.noted moved) (FineAct.Shown (record { thread = t; act = Act.TimedOut who }) more) refl refl
memory-moves-twice image m moved t more (Act.Cut who) = looked-moves (λ z. memory_moves image m (act_in z) moved) moved (finds m.futexes m.noted moved) (FineAct.Shown (record { thread = t; act = Act.Cut who }) more) refl refl
memory-moves-twice image m moved t more act = refl

memory-unseen-twice : (image : Image) (m : Bytes) (u : Unseen) (moved : Exchange) → let a = FineAct.Unseen u in memory_says image m moved (memory_says image m moved a) ≡ memory_says image m moved a
memory-unseen-twice image m Unseen.Void moved = void-twice (memory_says image m moved) (finds m.futexes m.noted moved) refl refl
memory-unseen-twice image m u moved = refl

memory-unseen-moves : (image : Image) (m : Bytes) (u : Unseen) (moved : Exchange) → memory_moves image m (act_in (memory_says image m moved (FineAct.Unseen u))) moved ≡ moved
memory-unseen-moves image m Unseen.Void moved = looked-moves (λ z. memory_moves image m (act_in z) moved) moved (finds m.futexes m.noted moved) (FineAct.Unseen Unseen.Void) refl refl
memory-unseen-moves image m u moved = refl

clock-act-twice : (c : Clock) (moved : Exchange) (t : ThreadIx) (more : More) (act : Act)
    → let a = FineAct.Shown (record { thread = t; act = act }) more in clock_says c moved (clock_says c moved a) ≡ clock_says c moved a
clock-act-twice c moved t more (Act.Arm deadline) = refl
clock-act-twice c moved t more (Act.Tick now) = refl
clock-act-twice c moved t more act = refl

clock-unseen-moves : (c : Clock) (u : Unseen) (moved : Exchange) → let a = FineAct.Unseen u in let m = clock_moves c a moved in clock_moves c a m ≡ m
clock-unseen-moves c Unseen.Due moved = refl
clock-unseen-moves c u moved = refl

-- the end of a thread for which somebody waits, or nobody
left-twice : (j : Joins) (moved : Exchange) (who : ThreadIx) (b : Bool)
    → join_says j moved (if b then FineAct.Shown (record { thread = who; act = Act.Left who (replies_of (all_joined j who.0)) }) More.Nothing else FineAct.Unseen (Unseen.Shut who)) ≡ left_or_shut j who
left-twice j moved who true = refl
left-twice j moved who false = refl

left-moves : (j : Joins) (moved : Exchange) (who : ThreadIx) (b : Bool)
    → join_moves j (if b then FineAct.Shown (record { thread = who; act = Act.Left who (replies_of (all_joined j who.0)) }) More.Nothing else FineAct.Unseen (Unseen.Shut who)) moved ≡ moved
left-moves j moved who true = refl
left-moves j moved who false = refl

join-act-twice : (j : Joins) (moved : Exchange) (t : ThreadIx) (more : More) (act : Act)
    → let a = FineAct.Shown (record { thread = t; act = act }) more in join_says j moved (join_says j moved a) ≡ join_says j moved a
join-act-twice j moved t more (Act.Join who answer) = refl
join-act-twice j moved t more (Act.Left who woken) = left-twice j moved who (is_joined j who.0)
join-act-twice j moved t more act = found-twice (join_says j moved) (join_finds j moved) (record { thread = t; act = act }) more refl refl

join-moves-twice : (j : Joins) (moved : Exchange) (t : ThreadIx) (more : More) (act : Act)
    → join_moves j (join_says j moved (FineAct.Shown (record { thread = t; act = act }) more)) moved ≡ moved
join-moves-twice j moved t more (Act.Join who answer) = refl
join-moves-twice j moved t more (Act.Left who woken) = left-moves j moved who (is_joined j who.0)
join-moves-twice j moved t more act = looked-moves (λ z. join_moves j z moved) moved (join_finds j moved) (FineAct.Shown (record { thread = t; act = act }) more) refl refl

-- who sleeps is roused, or isn't there
rouse-twice : (j : Joins) (who : ThreadIx) (c : Option Context) → asleep_at j who.0 ≡ c
    → let a = if is_some c then FineAct.Unseen (Unseen.Rouse who) else FineAct.Unseen Unseen.Void in join_says j (roused who c) a ≡ a
rouse-twice j who None h = ap (λ c. looked_for (is_some c) (FineAct.Unseen Unseen.Void)) h
rouse-twice j who (Some c) h = ap (λ c. if is_some c then FineAct.Unseen (Unseen.Rouse who) else FineAct.Unseen Unseen.Void) h

rouse-moves : (j : Joins) (who : ThreadIx) (c : Option Context) → asleep_at j who.0 ≡ c
    → join_moves j (if is_some c then FineAct.Unseen (Unseen.Rouse who) else FineAct.Unseen Unseen.Void) (roused who c) ≡ roused who c
rouse-moves j who None h = refl
rouse-moves j who (Some c) h = ap (roused who) h

join-unseen-twice : (j : Joins) (u : Unseen) (moved : Exchange) → let a = FineAct.Unseen u in join_says j (join_moves j a moved) (join_says j moved a) ≡ join_says j moved a
join-unseen-twice j (Unseen.Shut who) moved = left-twice j moved who (is_joined j who.0)
join-unseen-twice j (Unseen.Rouse who) moved = rouse-twice j who (asleep_at j who.0) refl
join-unseen-twice j Unseen.Void moved = void-twice (join_says j moved) (join_finds j moved) refl refl
join-unseen-twice j u moved = refl

join-unseen-moves : (j : Joins) (u : Unseen) (moved : Exchange) → let a = FineAct.Unseen u in let m = join_moves j a moved in join_moves j (join_says j moved a) m ≡ m
join-unseen-moves j (Unseen.Shut who) moved = left-moves j moved who (is_joined j who.0)
join-unseen-moves j (Unseen.Rouse who) moved = rouse-moves j who (asleep_at j who.0) refl
join-unseen-moves j Unseen.Void moved = looked-moves (λ z. join_moves j z moved) moved (join_finds j moved) (FineAct.Unseen Unseen.Void) refl refl
join-unseen-moves j u moved = refl

heap-twice : (image : Image) (h : Heap) (moved : Exchange) (act : Act) → heap_says_act image h moved (heap_says_act image h moved act) ≡ heap_says_act image h moved act
heap-twice image h moved (Act.Reserve kind addr) = refl
heap-twice image h moved (Act.Buffer n fits) = refl
heap-twice image h moved act = refl

-- the first of the ready list
first-act : (s : Scheduler) (act : FineAct) (f : Exchange) → first_ready s s.ready ≡ f → sched_says s f act ≡ turn_in act f → sched_says s f (turn_in act f) ≡ turn_in act f
first-act s act (Exchange.thread c None) h e = ap (turn_in (takes_turn c None)) h
first-act s act (Exchange.thread c (Some told)) h e = ap (turn_in (takes_turn c (Some told))) h
first-act s act f h e = e

first-moves : (s : Scheduler) (act : FineAct) (f : Exchange) → first_ready s s.ready ≡ f → sched_moves s act f ≡ first_ready s s.ready → sched_moves s (turn_in act f) f ≡ f
first-moves s act (Exchange.thread c None) h e = h
first-moves s act (Exchange.thread c (Some told)) h e = h
first-moves s act f h e = e ∙ h

sched-act-twice : (s : Scheduler) (act : FineAct) (moved : Exchange) → sched_says s (sched_moves s act moved) (sched_says s moved act) ≡ sched_says s moved act
sched-act-twice s (FineAct.Shown event more) moved = first-act s (FineAct.Shown event more) (first_ready s s.ready) refl refl
sched-act-twice s (FineAct.Unseen (Unseen.Next who)) moved = first-act s (FineAct.Unseen (Unseen.Next who)) (first_ready s s.ready) refl refl
sched-act-twice s (FineAct.Unseen u) moved = refl

sched-moves-twice : (s : Scheduler) (act : FineAct) (moved : Exchange) → sched_moves s (sched_says s moved act) (sched_moves s act moved) ≡ sched_moves s act moved
sched-moves-twice s (FineAct.Shown event more) moved = first-moves s (FineAct.Shown event more) (first_ready s s.ready) refl refl
sched-moves-twice s (FineAct.Unseen (Unseen.Next who)) moved = first-moves s (FineAct.Unseen (Unseen.Next who)) (first_ready s s.ready) refl refl
sched-moves-twice s (FineAct.Unseen u) moved = refl

module _ (image : Image) where
  cell-act-twice : (c : Cell) (act : FineAct) (moved : Exchange)
      → cell_says image c (cell_moves image c act moved) (cell_says image c moved act) ≡ cell_says image c moved act
  cell-act-twice (Cell.object o) (FineAct.Shown e more) moved = object-act-twice o moved e.thread more e.act
  cell-act-twice (Cell.object o) (FineAct.Unseen u) moved = object-unseen-twice o u moved
  cell-act-twice (Cell.parts d) act moved = refl
  cell-act-twice (Cell.memory m) (FineAct.Shown e more) moved = memory-act-twice image m moved e.thread more e.act
  cell-act-twice (Cell.memory m) (FineAct.Unseen u) moved = memory-unseen-twice image m u moved
  cell-act-twice (Cell.heap h) (FineAct.Shown e more) moved = ap (λ a. FineAct.Shown (record e { act = a }) more) (heap-twice image h moved e.act)
  cell-act-twice (Cell.heap h) (FineAct.Unseen u) moved = refl
  cell-act-twice (Cell.scheduler s) act moved = sched-act-twice s act moved
  cell-act-twice (Cell.clock c) (FineAct.Shown e more) moved = clock-act-twice c moved e.thread more e.act
  cell-act-twice (Cell.clock c) (FineAct.Unseen u) moved = refl
  cell-act-twice (Cell.joins j) (FineAct.Shown e more) moved = join-act-twice j moved e.thread more e.act
  cell-act-twice (Cell.joins j) (FineAct.Unseen u) moved = join-unseen-twice j u moved

  cell-moves-twice : (c : Cell) (act : FineAct) (moved : Exchange)
      → cell_moves image c (cell_says image c moved act) (cell_moves image c act moved) ≡ cell_moves image c act moved
  cell-moves-twice (Cell.object o) (FineAct.Shown e more) moved = object-moves-twice o moved e.thread more e.act
  cell-moves-twice (Cell.object o) (FineAct.Unseen u) moved = object-unseen-moves o u moved
  cell-moves-twice (Cell.parts d) act moved = parts-twice d act moved
  cell-moves-twice (Cell.memory m) (FineAct.Shown e more) moved = memory-moves-twice image m moved e.thread more e.act
  cell-moves-twice (Cell.memory m) (FineAct.Unseen u) moved = memory-unseen-moves image m u moved
  cell-moves-twice (Cell.heap h) act moved = refl
  cell-moves-twice (Cell.scheduler s) act moved = sched-moves-twice s act moved
  cell-moves-twice (Cell.clock c) (FineAct.Shown e more) moved = refl
  cell-moves-twice (Cell.clock c) (FineAct.Unseen u) moved = clock-unseen-moves c u moved
  cell-moves-twice (Cell.joins j) (FineAct.Shown e more) moved = join-moves-twice j moved e.thread more e.act
  cell-moves-twice (Cell.joins j) (FineAct.Unseen u) moved = join-unseen-moves j u moved

  act-twice : (s : SiteState) (act : FineAct) (moved : Exchange)
      → site_answers image s (site_moves image s act moved) (site_answers image s moved act) ≡ site_answers image s moved act
  act-twice (SiteState.row w) (FineAct.Shown e more) moved = ap (λ a. FineAct.Shown (record e { act = a }) more) (row-twice w e.thread.0 more e.act)
  act-twice (SiteState.row w) (FineAct.Unseen u) moved = refl
  act-twice (SiteState.thread w) (FineAct.Shown e more) moved = thread-twice w e.thread more e.act
  act-twice (SiteState.thread w) (FineAct.Unseen u) moved = refl
  act-twice (SiteState.domain w) act moved = refl
  act-twice (SiteState.cell n c) act moved = cell-act-twice c act moved

  moves-twice : (s : SiteState) (act : FineAct) (moved : Exchange)
      → site_moves image s (site_answers image s moved act) (site_moves image s act moved) ≡ site_moves image s act moved
  moves-twice (SiteState.cell n c) act moved = cell-moves-twice c act moved
  moves-twice (SiteState.row w) act moved = refl
  moves-twice (SiteState.thread w) act moved = refl
  moves-twice (SiteState.domain w) act moved = refl

  -- a step that its site has filled in is lawful there where the site takes it
  pub filled-twice : (s : SiteState) (e : FineStep) → filled image s (filled image s e) ≡ filled image s e
  filled-twice s e =
      let a = act-twice s e.act e.moved in
      let m = moves-twice s e.act e.moved in
      λ i. record e { act = a i; word = word_of (site_after image s (a i) (m i)); moved = m i }
