use Rattle.std.proofs.Common.{rules, ◌≡◌, ◌∙◌, ap, Some, Option}
use Rattle.um_base.specs.declared.image.Image.{Image}
use Rattle.um_machine.specs.declared.object.Cost.{Cost}
use Rattle.um_fine.specs.Cells.{Cell}
use Rattle.um_fine.specs.Steps.{Exchange, Site}
use Rattle.um_fine.specs.Answers.{act_in}
use Rattle.um_fine.specs.Heap.{Heap, heap_after, heap_says}
use Rattle.um_tables.specs.HeapActs.{heap_act, heap_event, heap_said}
use Rattle.um_tables.specs.declared.heap_act.HeapAct.{HeapAct}
use Rattle.um_tables.specs.declared.heap_act.HeapSaid.{HeapSaid}
use Rattle.um_tables.proofs.HeapLemmas.{heap-takes}
use Rattle.um_tables.proofs.Noted.{heap-event}
use Rattle.um_board.proofs.CellSteps.{cell-takes}
use Rattle.um_board.proofs.Keeping.{noted-then}
use Rattle.um_board.proofs.NextRuns.{next-then}
use Rattle.um_board.proofs.sites.SeatedSites.heap.Goals as goal

-- what the heap says, as of the heap that was kept
said-of : (image : Image) (act : HeapAct) (charge : Option Cost) (h d : Heap) (said : HeapSaid) → h ≡ d
    → let heard = λ (x : Heap). heap_said (heap_says image x (Exchange.charge charge) (heap_act act)) in said ≡ heard h → said ≡ heard d
said-of image act charge h d said was is = is ∙ ap (λ (x : Heap). heap_said (heap_says image x (Exchange.charge charge) (heap_act act))) was

pub leave_cell-requires-clause-takes : goal.leave_cell-requires-clause-takes
leave_cell-requires-clause-takes c =
    let d = c.in-Some.turn.before.value.value in
    let was : c.deref_mut.result.now ≡ d = search rules in
    let image = c.args.here.now.image.now in
    let paid = Exchange.charge c.args.charge in
    let says = λ (h : Heap). heap_says image h paid (heap_act c.args.act.now) in
    cell-takes image c.args.here.now.cpu Site.heap c.in-Some.turn.number (Cell.heap d) _ (heap_act c.args.act.now) paid c.in-Some.ensures.turn.1.turn.room (heap-takes image d paid c.args.act.now)
    (ap Cell.heap (c.make-said.ensures.leaves ∙ ap (λ (h : Heap). heap_after image h (act_in (says h)) paid) was))

pub leave_cell-requires-clause-event : goal.leave_cell-requires-clause-event
leave_cell-requires-clause-event c =
    let d = c.in-Some.turn.before.value.value in
    let act = c.args.act.now in
    let said = said-of c.args.here.now.image.now act c.args.charge c.deref_mut.result.now d _ (search rules) c.make-said.ensures.said in
    c.event-event.ensures ∙ (ap (λ (s : HeapSaid). Some (heap_event act s)) said ∙ heap-event c.args.here.now.image.now d (Exchange.charge c.args.charge) act)

pub leave_cell-requires-clause-goes : goal.leave_cell-requires-clause-goes
leave_cell-requires-clause-goes c = next-then _ _ _ _ _ _ c.in-Some.ensures.unnoted (c.requires.goes c.in-Some.turn.number c.in-Some.turn.before.value.value)

pub returns-clause-said : goal.returns-clause-said
returns-clause-said c =
    let d = c.in-Some.turn.before.value.value in
    let said = said-of c.args.here.now.image.now c.args.act.now c.args.charge c.deref_mut.result.now d _ (search rules) c.make-said.ensures.said in
    (c.in-Some.turn.number, d, noted-then _ _ _ _ _ _ _ c.in-Some.ensures.unnoted c.leave_cell.ensures.made, said)

pub returns-in_default-clause-said : goal.returns-in_default-clause-said
returns-in_default-clause-said c = (c.turn.ensures.unnoted, c.in_default.ensures.turn.1)
