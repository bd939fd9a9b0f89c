use Rattle.std.proofs.Common.{◌≡◌, ◌<◌, ◌∙◌, ℕ, List, ap, length, sym, map}
use Rattle.std.proofs.lemmas.List.Elements.{All-map, All-same}
use Rattle.um_base.specs.declared.limits.TheConstants.{THREADS}
use Rattle.um_machine.specs.declared.thread.Thread.{Thread}
use Rattle.um_fine.specs.Cells.{Cell}
use Rattle.um_fine.specs.Opening.{boot_index, indexed, scheduler_cell}
use Rattle.um_fine.specs.Scheduler.{Scheduler}
use Rattle.um_tables.specs.Contexts.{rests}
use Rattle.um_tables.specs.Parked.{resting, scheduler_of}
use Rattle.um_opening.proofs.Lists.{ok-more, scheduler-is}
use Rattle.um_opening.proofs.cells.scheduler.Goals as goal

pub at_rest-requires-clause-ready : goal.at_rest-requires-clause-ready
at_rest-requires-clause-ready c =
    let s = c.args.state.now in
    All-same (λ (t : ℕ). t < THREADS) c.ready.result.items (map (boot_index s) s.image.boots) c.ready.ensures
    (All-map (λ (t : ℕ). t < THREADS) (boot_index s) s.image.boots c.requires.boots)

pub at_rest-requires-clause-rest : goal.at_rest-requires-clause-rest
at_rest-requires-clause-rest c = All-same rests c.threads.result.now c.args.state.now.threads c.threads.ensures.value c.requires.rest

pub returns : goal.returns
returns c =
    let s = c.args.state.now in
    let threads = c.threads.result.now in
    let long : length s.threads ≡ THREADS = ap (λ (ts : List Thread). length ts) (sym c.threads.ensures.value) ∙ c.threads.ensures.all in
    ok-more (λ (kept : Scheduler). kept ≡ scheduler_of c.ready.result.items (indexed resting 0 threads) 0 0) (λ (kept : Scheduler). Cell.scheduler kept ≡ scheduler_cell s)
    (λ kept e. ap Cell.scheduler (e ∙ ap (λ (ready : List ℕ). scheduler_of ready (indexed resting 0 threads) 0 0) c.ready.ensures
    ∙ ap (λ (ts : List Thread). scheduler_of (map (boot_index s) s.image.boots) (indexed resting 0 ts) 0 0) c.threads.ensures.value
    ∙ scheduler-is s THREADS long))
    c.at_rest.result c.at_rest.ensures
