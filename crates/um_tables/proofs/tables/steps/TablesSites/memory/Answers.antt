use Rattle.std.proofs.Common.{arith, ◌∙◌, Some, ap, refl}
use Rattle.um_fine.specs.Cells.{Cell}
use Rattle.um_fine.specs.Steps.{Site}
use Rattle.um_tables.specs.MemoryActs.{memory_act, memory_event, memory_sent}
use Rattle.um_tables.specs.Sited.{logged}
use Rattle.um_tables.specs.declared.memory_act.MemorySaid.{MemorySaid}
use Rattle.um_tables.proofs.ByteLemmas.{memory-takes}
use Rattle.um_tables.proofs.Celled.{cell-ends, cell-taken}
use Rattle.um_tables.proofs.Noted.{memory-event}
use Rattle.um_tables.proofs.tables.steps.TablesSites.memory.Goals as goal

pub returns-clause-said : goal.returns-clause-said
returns-clause-said c =
    let m = c.self.inside.memory in
    let sent = memory_sent c.args.act.now c.args.buffer.now in (
      c.self.inside.memory_steps,
      m,
      cell-taken c.args.here.now.image.now _ _ c.self.view_is c.args.here.now.cpu Site.memory c.self.inside.memory_steps (Cell.memory m) (Cell.memory c.make-said.new.self) (memory_act c.args.act.now) sent refl (omega arith) (memory-takes c.args.here.now.image.now m sent c.args.act.now) (ap Cell.memory c.make-said.ensures.leaves)
          _
          _
          (c.note.ensures.events
          ∙ ap (logged c.self.inside.log.items)
          (c.event.ensures
          ∙ (ap (λ (said : MemorySaid). Some (memory_event c.args.act.now said)) c.make-said.ensures.said ∙ memory-event c.args.here.now.image.now m sent c.args.act.now)))
          c.note.ensures.room,
      record { said_is = c.make-said.ensures.said; taken = c.make-said.ensures.taken },
    )

pub returns-then-self-ge-LAST-clause-said : goal.returns-then-self-ge-LAST-clause-said
returns-then-self-ge-LAST-clause-said c = (
  c.self.inside.memory_steps,
  c.self.inside.memory,
  refl,
  cell-ends c.args.here.now.image.now _ _ c.self.view_is c.args.here.now.cpu Site.memory c.self.inside.memory_steps (Cell.memory c.self.inside.memory) (memory_act c.args.act.now) (memory_sent c.args.act.now c.args.buffer.now) refl (search arith),
  refl,
)
