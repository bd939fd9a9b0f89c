use Rattle.std.proofs.Common.{arith, ◌∙◌, Some, ap, refl}
use Rattle.um_base.specs.declared.act.Act.{Act}
use Rattle.um_base.specs.declared.act.Answer.{Answer}
use Rattle.um_base.specs.declared.act.Event.{Event}
use Rattle.um_fine.specs.Cells.{Cell}
use Rattle.um_fine.specs.Memory.{memory_after}
use Rattle.um_fine.specs.Steps.{Site}
use Rattle.um_tables.specs.Asked.{by_thread}
use Rattle.um_tables.specs.FutexActs.{wait_act, wait_sent}
use Rattle.um_tables.specs.Sited.{logged}
use Rattle.um_tables.proofs.Celled.{cell-ends, cell-taken}
use Rattle.um_tables.proofs.tables.steps.TablesSites.futex_wait.Goals as goal

pub returns-clause-said : goal.returns-clause-said
returns-clause-said c =
    let m = c.self.inside.memory in
    let image = c.args.here.now.image.now in
    let act = c.args.act.now in
    let e = c.wait-answer.ensures in (
      c.self.inside.memory_steps,
      m,
      cell-taken image _ _ c.self.view_is c.args.here.now.cpu Site.memory c.self.inside.memory_steps (Cell.memory m) (Cell.memory c.wait-answer.new.self) (wait_act act) (wait_sent act) refl (omega arith) refl
          (ap Cell.memory (e.left ∙ ap (λ (answer : Answer). memory_after image m (Act.FutexWait act.addr act.value answer) (wait_sent act)) e.answer))
          _
          _
          (c.note.ensures.events ∙ ap (λ (event : Event). logged c.self.inside.log.items (Some event)) (c.waited.ensures ∙ ap (λ (answer : Answer). by_thread act.seeker.thread (Act.FutexWait act.addr act.value answer)) e.answer))
          c.note.ensures.room,
      e.answer,
    )

pub returns-then-self-ge-LAST-clause-said : goal.returns-then-self-ge-LAST-clause-said
returns-then-self-ge-LAST-clause-said c = (
  c.self.inside.memory_steps,
  c.self.inside.memory,
  refl,
  cell-ends c.args.here.now.image.now _ _ c.self.view_is c.args.here.now.cpu Site.memory c.self.inside.memory_steps (Cell.memory c.self.inside.memory) (wait_act c.args.act.now) (wait_sent c.args.act.now) refl (search arith),
)
