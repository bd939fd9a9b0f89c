-- The event that tables log is the event of the step, and an inheritance that a row refuses is due there. A change at a site leaves the log.
use Rattle.std.proofs.Common.{◌≡◌, ℕ, Bool, true, false, None, Some, ◌&&◌, not, ap, refl, ◌∙◌, if◌then◌else◌}
use Rattle.um_base.specs.declared.act.Act.{Act}
use Rattle.um_base.specs.declared.act.Leftover.{Leftover}
use Rattle.um_base.specs.declared.ask.Told.{Told}
use Rattle.um_base.specs.declared.image.Image.{Image}
use Rattle.um_machine.specs.declared.thread.Life.{Life}
use Rattle.um_machine.specs.Order.{to_thread}
use Rattle.um_machine.specs.State.{is_living}
use Rattle.um_words.specs.declared.fine.FineAct.{FineAct}
use Rattle.um_words.specs.declared.fine.More.{More}
use Rattle.um_words.specs.declared.fine.Unseen.{Unseen}
use Rattle.um_words.specs.declared.row_word.RowWord.{RowWord}
use Rattle.um_words.specs.declared.thread_word.ThreadWord.{ThreadWord}
use Rattle.um_words.specs.Rows.{has}
use Rattle.um_words.specs.Threads.{ended_word, flagged, thread_after}
use Rattle.um_fine.specs.Answers.{thread_in}
use Rattle.um_fine.specs.Cells.{Cell}
use Rattle.um_fine.specs.Context.{Context}
use Rattle.um_fine.specs.Heap.{Heap, heap_says}
use Rattle.um_fine.specs.Memory.{Bytes, memory_says}
use Rattle.um_fine.specs.Scheduler.{takes_turn}
use Rattle.um_fine.specs.Sites.{SiteState, filled}
use Rattle.um_fine.specs.Steps.{Exchange, FineStep, Site}
use Rattle.um_fine.specs.Threads.{unless_stopped}
use Rattle.um_tables.specs.Asked.{asked, by_thread, event_of, shown}
use Rattle.um_tables.specs.HeapActs.{heap_act, heap_event, heap_said}
use Rattle.um_tables.specs.MemoryActs.{memory_act, memory_event, memory_said}
use Rattle.um_tables.specs.Parked.{some_if}
use Rattle.um_words.specs.RowActs.{row_event}
use Rattle.um_tables.specs.RowActs.{row_made, row_said}
use Rattle.um_tables.specs.Sited.{IsDue, IsSeen, Sited, WasMade, logged, with_state}
use Rattle.um_words.specs.ThreadActs.{event_unless_stopped, thread_event}
use Rattle.um_tables.specs.ThreadActs.{thread_made}
use Rattle.um_tables.specs.declared.heap_act.HeapAct.{HeapAct}
use Rattle.um_tables.specs.declared.memory_act.MemoryAct.{MemoryAct}
use Rattle.um_words.specs.declared.row_act.RowAct.{RowAct}
use Rattle.um_words.specs.declared.thread_act.ThreadAct.{ThreadAct}
use Rattle.um_tables.proofs.ByteLemmas.{memory-made}

module _ (image : Image) (cpu x : ℕ) (w : RowWord) where
  -- the step of an event where there is something to do, and a look else
  abbrev where_due : Bool → FineAct → FineStep
  where_due b act = filled image (SiteState.row w) (asked cpu (Site.row x) (if b then act else FineAct.Unseen Unseen.Visit) Exchange.nothing)

  pub row-event : (act : RowAct) → row_event act (row_said (row_made image cpu x w act)) ≡ event_of (row_made image cpu x w act).act
  row-event (RowAct.Pass t who a) = by (has w t.0 && not (has w who.0))
    where
      by : (b : Bool) → let e = where_due b (shown t (Act.Inherit who a) More.Nothing) in row_event (RowAct.Pass t who a) (row_said e) ≡ event_of e.act
      by true = refl
      by false = refl
  row-event (RowAct.Sweep t who a) = by (has w who.0)
    where
      by : (b : Bool) → let e = where_due b (shown t (Act.DropPair who a Leftover.NoPair) More.Nothing) in row_event (RowAct.Sweep t who a) (row_said e) ≡ event_of e.act
      by true = refl
      by false = refl
  row-event act = refl

  pub row-seen : (act : RowAct) → IsSeen (SiteState.row w) (row_made image cpu x w act).act
  row-seen (RowAct.Pass t who a) = by (has w t.0 && not (has w who.0)) refl
    where
      by : (b : Bool) → (has w t.0 && not (has w who.0)) ≡ b → IsDue w (where_due b (shown t (Act.Inherit who a) More.Nothing)).act
      by true h = h
      by false h = tt
  row-seen (RowAct.Sweep t who a) = by (has w who.0)
    where
      by : (b : Bool) → IsDue w (where_due b (shown t (Act.DropPair who a Leftover.NoPair) More.Nothing)).act
      by true = tt
      by false = tt
  row-seen act = tt

-- of a thread at rest that would go on, the event is by the word that is left
-- a thread that gets or loses a flag lives as before
kept-life : (w z : ThreadWord) → z.life ≡ w.life → (flagged w z).life ≡ w.life
kept-life w z h = by (is_living w.life)
  where
    by : (b : Bool) → (if b then z else w).life ≡ w.life
    by true = h
    by false = refl

pub thread-event : (image : Image) (cpu t : ℕ) (w : ThreadWord) (act : ThreadAct)
    → thread_event act (thread_in (thread_made image cpu t w act).word) ≡ event_of (thread_made image cpu t w act).act
thread-event image cpu t w (ThreadAct.Begin who script line) = begins w.doomed w.aborted w.suspended refl refl refl
  where
    begins : (doomed aborted suspended : Bool) → w.doomed ≡ doomed → w.aborted ≡ aborted → w.suspended ≡ suspended
        → let made = unless_stopped doomed aborted suspended (by_thread who (Act.Begin script line)) More.Nothing in
        event_unless_stopped (thread_after w made) who (Act.Begin script line) ≡ event_of made
    begins true aborted suspended d a s = ap (λ (b : Bool). event_unless_stopped (record w { doomed = b }) who (Act.Begin script line)) d
    begins false true suspended d a s = λ i. event_unless_stopped (record (ended_word w) { doomed = d i; aborted = a i }) who (Act.Begin script line)
    begins false false true d a s = λ i. event_unless_stopped (record w { doomed = d i; aborted = a i; suspended = s i }) who (Act.Begin script line)
    begins false false false d a s = λ i. event_unless_stopped (record w { doomed = d i; aborted = a i; suspended = s i }) who (Act.Begin script line)
thread-event image cpu t w (ThreadAct.Exit who) = ends w.doomed w.aborted w.suspended refl refl refl
  where
    ends : (doomed aborted suspended : Bool) → w.doomed ≡ doomed → w.aborted ≡ aborted → w.suspended ≡ suspended
        → let made = unless_stopped doomed aborted suspended (by_thread who Act.Exit) More.Nothing in
        event_unless_stopped (thread_after w made) who Act.Exit ≡ event_of made
    ends true aborted suspended d a s = ap (λ (b : Bool). event_unless_stopped (record w { doomed = b }) who Act.Exit) d
    ends false true suspended d a s = λ i. event_unless_stopped (record (ended_word w) { doomed = d i; aborted = a i }) who Act.Exit
    ends false false true d a s = λ i. event_unless_stopped (record w { doomed = d i; aborted = a i; suspended = s i }) who Act.Exit
    ends false false false d a s = λ i. event_unless_stopped (record (ended_word w) { doomed = d i; aborted = a i; suspended = s i }) who Act.Exit
thread-event image cpu t w (ThreadAct.Abort by who) = ap (λ (l : Life). Some (by_thread by (Act.Abort who (is_living l)))) (kept-life w (record w { aborted = true }) refl)
thread-event image cpu t w (ThreadAct.Suspend by who) = ap (λ (l : Life). Some (by_thread by (Act.Suspend who (is_living l)))) (kept-life w (record w { suspended = true }) refl)
thread-event image cpu t w (ThreadAct.Continue by who) = ap (λ (l : Life). Some (by_thread by (Act.Continue who (is_living l)))) (kept-life w (record w { suspended = false }) refl)
thread-event image cpu t w act = refl

pub heap-event : (image : Image) (h : Heap) (moved : Exchange) (act : HeapAct)
    → let said = heap_says image h moved (heap_act act) in Some (heap_event act (heap_said said)) ≡ event_of said
heap-event image h moved (HeapAct.Reserve t kind) = refl
heap-event image h moved (HeapAct.Buffer t n) = refl
heap-event image h moved (HeapAct.Unbuffer t n) = refl
heap-event image h moved (HeapAct.Recycle t a) = refl

pub memory-event : (image : Image) (m : Bytes) (moved : Exchange) (act : MemoryAct)
    → let said = memory_says image m moved (memory_act act) in Some (memory_event act (memory_said said)) ≡ event_of said
memory-event image m moved act = (memory-made image m moved act).1

-- a thread that was told something resumes
pub resumes : (c : Context) (told : Told) (woken : Bool) → (if woken then Some (by_thread (to_thread c.thread) Act.Resume) else None) ≡ event_of (takes_turn c (some_if woken told))
resumes c told true = refl
resumes c told false = refl

-- a change at a site leaves the log and its room
pub log-kept : (s : Sited) (site : Site) (z : SiteState) → ((with_state s site z).log ≡ s.log) × ((with_state s site z).most ≡ s.most)
log-kept s (Site.row x) (SiteState.row w) = (refl, refl)
log-kept s (Site.thread t) (SiteState.thread w) = (refl, refl)
log-kept s (Site.domain d) (SiteState.domain w) = (refl, refl)
log-kept s (Site.parts d) (SiteState.cell n (Cell.parts parts)) = (refl, refl)
log-kept s (Site.object x) (SiteState.cell n (Cell.object o)) = (refl, refl)
log-kept s Site.memory (SiteState.cell n (Cell.memory m)) = (refl, refl)
log-kept s Site.heap (SiteState.cell n (Cell.heap h)) = (refl, refl)
log-kept s Site.scheduler (SiteState.cell n (Cell.scheduler t)) = (refl, refl)
log-kept s Site.clock (SiteState.cell n (Cell.clock c)) = (refl, refl)
log-kept s Site.joins (SiteState.cell n (Cell.joins j)) = (refl, refl)
log-kept s site state = (refl, refl)

-- a step that was made stands last in the log, where it shows an event
pub made-log : (image : Image) (old : Sited) (e : FineStep) (new : Sited) → WasMade image old e new → new.log ≡ logged old.log (event_of e.act)
made-log image old e new m = ap (λ (s : Sited). s.log) m.leaves ∙ (log-kept (record old { log = logged old.log (event_of e.act) }) e.site _).0

pub made-most : (image : Image) (old : Sited) (e : FineStep) (new : Sited) → WasMade image old e new → new.most ≡ old.most
made-most image old e new m = ap (λ (s : Sited). s.most) m.leaves ∙ (log-kept (record old { log = logged old.log (event_of e.act) }) e.site _).1
