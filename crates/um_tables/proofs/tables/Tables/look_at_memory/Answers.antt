use Rattle.std.proofs.Common.{arith, ◌∙◌, ap, refl}
use Rattle.um_fine.specs.Cells.{Cell}
use Rattle.um_fine.specs.Steps.{Site}
use Rattle.um_tables.specs.Looks.{look_act, look_sent}
use Rattle.um_tables.specs.Sited.{logged}
use Rattle.um_tables.proofs.Celled.{cell-ends, cell-taken}
use Rattle.um_tables.proofs.Looked.{looked-at-memory}
use Rattle.um_tables.proofs.tables.Tables.look_at_memory.Goals as goal

pub returns-clause-said : goal.returns-clause-said
returns-clause-said c =
    let kept = c.self.inside.memory in
    let look = c.args.look.now in
    let comes = looked-at-memory c.args.here.now.image.now kept look c.look-found.result c.look-found.ensures.found in (
      c.self.inside.memory_steps,
      kept,
      cell-taken c.args.here.now.image.now _ _ c.self.view_is c.args.here.now.cpu Site.memory c.self.inside.memory_steps (Cell.memory kept) (Cell.memory c.look-found.new.self) (look_act look) (look_sent look) refl (omega arith) comes.takes_it
          (ap Cell.memory (c.look-found.ensures.left ∙ comes.leaves))
          _
          _
          (c.note.ensures.events ∙ ap (logged c.self.inside.log.items) (c.event.ensures ∙ comes.event_is))
          c.note.ensures.room,
      comes.found_is,
    )

pub returns-then-self-ge-LAST-clause-said : goal.returns-then-self-ge-LAST-clause-said
returns-then-self-ge-LAST-clause-said c = (
  c.self.inside.memory_steps,
  c.self.inside.memory,
  refl,
  cell-ends c.args.here.now.image.now _ _ c.self.view_is c.args.here.now.cpu Site.memory c.self.inside.memory_steps (Cell.memory c.self.inside.memory) (look_act c.args.look.now) (look_sent c.args.look.now) refl (search arith),
)
