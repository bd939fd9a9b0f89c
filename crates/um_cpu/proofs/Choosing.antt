-- When a step is chosen: a processor that has a list has steps of one kind alone; one that has none takes a thread, or tends to time where it saw that
-- no thread is ready. If its seat is alone, what it saw is as its own steps have left it.
use Rattle.std.proofs.Common.{◌≡◌, ◌≢◌, ℕ, ◌-◌, ◌/◌, ◌%◌, ◌≤◌, Bool, true, false, List, [], length, Option, Some, None, refl, sym, ap, ◌∙◌, subst, arith}
use Rattle.std.specs.Prelude.{◌&&◌, IsTrue, is_some, nat_lt}
use Rattle.std.proofs.lemmas.Bool.{false≢true, true≢false}
use Rattle.um_base.specs.declared.image.Image.{Image}
use Rattle.um_words.specs.History.{bare}
use Rattle.um_words.specs.Packed.{cell_of}
use Rattle.um_words.specs.declared.cell_word.CellWord.{CellWord}
use Rattle.um_words.specs.declared.fine.FineAct.{FineAct}
use Rattle.um_words.specs.declared.fine.Unseen.{Unseen}
use Rattle.um_fine.specs.Answers.{is_due_act, is_tick}
use Rattle.um_fine.specs.Cells.{Cell}
use Rattle.um_fine.specs.Clock.{Clock, Marked, clock_takes, first_due}
use Rattle.um_fine.specs.Processor.{Processor}
use Rattle.um_fine.specs.Sites.{SiteState, is_sort, site_takes, word_of}
use Rattle.um_fine.specs.Steps.{FineStep, Site}
use Rattle.um_processor.specs.Idles.{is_turn}
use Rattle.um_processor.specs.Processors.{Goes}
use Rattle.um_refinement.specs.After.{left_by}
use Rattle.um_refinement.specs.Choice.{IsChosen}
use Rattle.um_refinement.specs.Fine.{Fine, clock, clock_state, scheduler, scheduler_state}
use Rattle.um_refinement.specs.Room.{has_number}
use Rattle.um_core.proofs.Chosen.{due-no-tick, listed-untimed, tick-no-due, turn-untimed}
use Rattle.um_core.proofs.Counts.{can-count}
use Rattle.um_core.proofs.Sorts.{sorts-after}
use Rattle.um_site.specs.declared.seat.Seat.{Seat}
use Rattle.um_site.proofs.Bare.{bare-high}
use Rattle.um_board.specs.Contents.{Known}
use Rattle.um_board.specs.Noted.{packed}
use Rattle.um_board.specs.Saw.{SawAt}
use Rattle.um_history.specs.Fine.{IsAlone, WasRefused, left_at}
use Rattle.um_history.specs.Played.{SCHEDULER}
use Rattle.um_history.proofs.Alone.{alone-run}
use Rattle.um_history.proofs.CellRuns.{CellKnown, cell-reads}
use Rattle.um_history.proofs.QuietEnd.{no-length}
use Rattle.um_history.proofs.Stood.{IsSeatOf, g, left-stood, word-stood}
use Rattle.um_cpu.proofs.Advances.{ChosenBehind, own}
use Rattle.um_cpu.proofs.Runs.{RunsKnown}

-- By the kind of step.

plain : (f : Fine) (e : FineStep) → (is_due_act e.act ≡ false) × (is_tick e.act ≡ false) → IsChosen f e
plain f e (due, tick) = record { due = λ h. absurd (true≢false (sym h ∙ due)); tick = λ h. absurd (true≢false (sym h ∙ tick)) }

pub turn-chosen : (f : Fine) (e : FineStep) → is_turn e.act ≡ true → IsChosen f e
turn-chosen f e turn = plain f e (turn-untimed e.act turn)

pub listed-chosen : (f : Fine) (cpu : ℕ) (image : Image) (p q : Processor) (e : FineStep) → p.todo ≢ [] → Goes cpu image p e q → IsChosen f e
listed-chosen f cpu image p q e some goes = plain f e (listed-untimed image p some e goes.asks.makes)

due-chosen : (f : Fine) (e : FineStep) → is_due_act e.act ≡ true → (scheduler f).ready ≡ [] → IsChosen f e
due-chosen f e due ready = record { due = λ h. ready; tick = λ h. absurd (true≢false (sym h ∙ due-no-tick e.act due)) }

tick-chosen : (f : Fine) (e : FineStep) → is_tick e.act ≡ true → (scheduler f).ready ≡ [] → first_due (clock f).now (clock f).marks ≡ None → (scheduler f).running ≡ 0 → IsChosen f e
tick-chosen f e tick ready none running = record { due = λ h. absurd (true≢false (sym h ∙ tick-no-due e.act tick)); tick = λ h. (ready, none, running) }

-- What the scheduler's word tells, a turn aside.

ready-kept : (w z : ℕ) → w - w % 2 ≡ z → w / 2 % 256 ≡ z / 2 % 256
ready-kept w z e = let half : w / 2 ≡ z / 2 = omega arith in ap (λ n. n % 256) half

running-kept : (w z : ℕ) → w - w % 2 ≡ z → w / 512 % 256 ≡ z / 512 % 256
running-kept w z e = let same : w / 512 ≡ z / 512 = omega arith in ap (λ n. n % 256) same

-- the word counts what is ready and what runs
record Counts (s : SiteState) (w : ℕ) : Type 0 where
  ready : length (scheduler_state s).ready ≡ (cell_of w).ready
  running : (scheduler_state s).running ≡ (cell_of w).running

counted : (image : Image) (last : Known) (s : SiteState) (w : ℕ) → CellKnown image last Site.scheduler s [] → packed (word_of s) ≡ w → Counts s w
counted image last (SiteState.cell n (Cell.scheduler z)) w known word =
    let reads = sym (ap cell_of (sym word) ∙ cell-reads Site.scheduler n (Cell.scheduler z) known.0) in
    record { ready = ap (λ (x : CellWord). x.ready) reads; running = ap (λ (x : CellWord). x.running) reads }
counted image last (SiteState.cell n (Cell.object o)) w known word = absurd (false≢true known.0.sort)
counted image last (SiteState.cell n (Cell.parts p)) w known word = absurd (false≢true known.0.sort)
counted image last (SiteState.cell n (Cell.memory m)) w known word = absurd (false≢true known.0.sort)
counted image last (SiteState.cell n (Cell.heap h)) w known word = absurd (false≢true known.0.sort)
counted image last (SiteState.cell n (Cell.clock c)) w known word = absurd (false≢true known.0.sort)
counted image last (SiteState.cell n (Cell.joins j)) w known word = absurd (false≢true known.0.sort)
counted image last (SiteState.row a) w known word = absurd known
counted image last (SiteState.thread a) w known word = absurd known
counted image last (SiteState.domain a) w known word = absurd known

-- A clock that refuses to give a mark has none that is due.

clock-takes : (c : Clock) (act : FineAct) → is_due_act act ≡ true → clock_takes c act ≡ is_some (first_due c.now c.marks)
clock-takes c (FineAct.Unseen Unseen.Due) due = refl
clock-takes c (FineAct.Unseen unseen) due = absurd (false≢true due)
clock-takes c (FineAct.Shown event more) due = absurd (false≢true due)

some-none : (o : Option Marked) → is_some o ≡ false → o ≡ None
some-none None h = refl
some-none (Some m) h = absurd (true≢false h)

second : (a b : Bool) → a ≡ true → (a && b) ≡ false → b ≡ false
second true b h k = k
second false b h k = absurd (false≢true h)

no-mark : (s : SiteState) (act : FineAct) → IsTrue (is_sort Site.clock s) → has_number s ≡ true → is_due_act act ≡ true → site_takes s act ≡ false → first_due (clock_state s).now (clock_state s).marks ≡ None
no-mark (SiteState.cell n (Cell.clock c)) act sort number due refused =
    some-none (first_due c.now c.marks) (sym (clock-takes c act due) ∙ second (nat_lt n 268435455) (clock_takes c act) number refused)
no-mark s act sort number due refused = absurd (false≢true sort)

module _ (image : Image) (runs : RunsKnown image) (k : ℕ) (s : Seat Known) (seat : IsSeatOf image k s) where
  -- it looked at the scheduler's word, at a moment with the steps that it has made
  module _ (w : ℕ) (saw : SawAt s SCHEDULER w) where
    -- so the scheduler is as its own steps have left it
    counts-own : IsAlone s → Counts (left_at image (own image k s) Site.scheduler) w
    counts-own alone =
        let run = g image runs.described runs.can runs.longest k s seat SCHEDULER w saw in
        let same = alone-run image runs.described runs.can runs.longest k s seat SCHEDULER w saw alone in
        let known = left-stood image runs.described runs.can runs.longest k s seat SCHEDULER w saw Site.scheduler refl refl in
        let word = word-stood image runs.described runs.can runs.longest k s seat SCHEDULER w saw Site.scheduler refl refl in
        let z = bare SCHEDULER w in
        let there = counted image known.0 (left_at image run Site.scheduler) z known.1 word in
        let high : w - w % 2 ≡ z = sym (bare-high SCHEDULER w (omega arith)) in
        subst (λ (l : List FineStep). Counts (left_at image l Site.scheduler) w) same
        (record { ready = there.ready ∙ sym (ready-kept w z high); running = there.running ∙ sym (running-kept w z high) })

    -- by the word none is ready
    module _ (none : (cell_of w).ready ≡ 0) where
      ready-none : IsAlone s → (scheduler (left_by image 1 (own image k s))).ready ≡ []
      ready-none alone = no-length _ ((counts-own alone).ready ∙ none)

      -- a mark that it takes then
      pub gives : (e : FineStep) → is_due_act e.act ≡ true → ChosenBehind image k s e
      gives e due alone = due-chosen (left_by image 1 (own image k s)) e due (ready-none alone)

      -- the next deadline, where it was refused a mark and none runs
      pub ticks : (cell_of w).running ≡ 0 → (t : Seat Known) (d : FineStep) → d.site ≡ Site.clock → is_due_act d.act ≡ true → WasRefused image k s t d → (e : FineStep) → is_tick e.act ≡ true → ChosenBehind image k s e
      ticks still t d at due refused e tick alone =
          let steps = own image k s in
          let same = refused.alone alone in
          let few = refused.stood.few in
          let light = runs.described.lawful.light in
          let short : length steps ≤ 400000 = (let long = ap length same in omega (arith, few, light, long)) in
          let there = subst (λ (i : Site). site_takes (left_at image steps i) d.act ≡ false) at (subst (λ (l : List FineStep). site_takes (left_at image l d.site) d.act ≡ false) same refused.refuses) in
          tick-chosen (left_by image 1 steps) e tick (ready-none alone)
          (no-mark (left_at image steps Site.clock) d.act (sorts-after image steps Site.clock) ((can-count image steps short 1).numbers Site.clock) due there)
          ((counts-own alone).running ∙ still)
