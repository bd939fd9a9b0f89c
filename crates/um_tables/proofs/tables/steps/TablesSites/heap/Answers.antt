use Rattle.std.proofs.Common.{arith, ◌∙◌, Some, ap, refl}
use Rattle.um_fine.specs.Cells.{Cell}
use Rattle.um_fine.specs.Steps.{Exchange, Site}
use Rattle.um_tables.specs.HeapActs.{heap_act, heap_event}
use Rattle.um_tables.specs.Sited.{logged}
use Rattle.um_tables.specs.declared.heap_act.HeapSaid.{HeapSaid}
use Rattle.um_tables.proofs.Celled.{cell-ends, cell-taken}
use Rattle.um_tables.proofs.HeapLemmas.{heap-takes}
use Rattle.um_tables.proofs.Noted.{heap-event}
use Rattle.um_tables.proofs.tables.steps.TablesSites.heap.Goals as goal

pub returns-clause-said : goal.returns-clause-said
returns-clause-said c =
    let h = c.self.inside.heap in (
      c.self.inside.heap_steps,
      h,
      cell-taken c.args.here.now.image.now _ _ c.self.view_is c.args.here.now.cpu Site.heap c.self.inside.heap_steps (Cell.heap h) (Cell.heap c.make-said.new.self) (heap_act c.args.act.now) (Exchange.charge c.args.charge) refl (omega arith) (heap-takes c.args.here.now.image.now h (Exchange.charge c.args.charge) c.args.act.now) (ap Cell.heap c.make-said.ensures.leaves)
          _
          _
          (c.note.ensures.events
          ∙ ap (logged c.self.inside.log.items)
          (c.event.ensures
          ∙ (ap (λ (said : HeapSaid). Some (heap_event c.args.act.now said)) c.make-said.ensures.said ∙ heap-event c.args.here.now.image.now h (Exchange.charge c.args.charge) c.args.act.now)))
          c.note.ensures.room,
      c.make-said.ensures.said,
    )

pub returns-then-self-ge-LAST-clause-said : goal.returns-then-self-ge-LAST-clause-said
returns-then-self-ge-LAST-clause-said c = (
  c.self.inside.heap_steps,
  c.self.inside.heap,
  refl,
  cell-ends c.args.here.now.image.now _ _ c.self.view_is c.args.here.now.cpu Site.heap c.self.inside.heap_steps (Cell.heap c.self.inside.heap) (heap_act c.args.act.now) (Exchange.charge c.args.charge) refl (search arith),
)
