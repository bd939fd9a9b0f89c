use Rattle.std.proofs.Common.{arith, ◌∙◌, Some, ap, refl, sym}
use Rattle.um_base.specs.declared.act.Act.{Act}
use Rattle.um_base.specs.declared.act.Event.{Event}
use Rattle.um_machine.specs.Table.{replies_of}
use Rattle.um_fine.specs.Cells.{Cell}
use Rattle.um_fine.specs.Memory.{memory_after}
use Rattle.um_fine.specs.Steps.{Exchange, Site}
use Rattle.um_tables.specs.Asked.{by_thread}
use Rattle.um_tables.specs.FutexActs.{wake_act}
use Rattle.um_tables.specs.Sited.{logged}
use Rattle.um_tables.proofs.Celled.{cell-ends, cell-taken}
use Rattle.um_tables.proofs.Told.{told-well}
use Rattle.um_tables.proofs.tables.steps.TablesSites.futex_wake.Goals as goal

pub returns-clause-said : goal.returns-clause-said
returns-clause-said c =
    let m = c.self.inside.memory in
    let image = c.args.here.now.image.now in
    let act = c.args.act.now in
    let e = c.wake-answer.ensures in (
      c.self.inside.memory_steps,
      m,
      cell-taken image _ _ c.self.view_is c.args.here.now.cpu Site.memory c.self.inside.memory_steps (Cell.memory m) (Cell.memory c.wake-answer.new.self) (wake_act act) Exchange.nothing refl (omega arith) refl
          (ap Cell.memory (e.left ∙ (λ i. memory_after image m (Act.FutexWake act.addr (e.answer i) (replies_of (e.woken i))) Exchange.nothing)))
          _
          _
          (c.note.ensures.events ∙ ap (λ (event : Event). logged c.self.inside.log.items (Some event)) (c.woke.ensures ∙ (λ i. by_thread act.thread (Act.FutexWake act.addr (e.answer i) (replies_of (e.woken i))))))
          c.note.ensures.room,
      (e.answer, e.woken ∙ sym (told-well _)),
    )

pub returns-then-self-ge-LAST-clause-said : goal.returns-then-self-ge-LAST-clause-said
returns-then-self-ge-LAST-clause-said c = (
  c.self.inside.memory_steps,
  c.self.inside.memory,
  refl,
  cell-ends c.args.here.now.image.now _ _ c.self.view_is c.args.here.now.cpu Site.memory c.self.inside.memory_steps (Cell.memory c.self.inside.memory) (wake_act c.args.act.now) Exchange.nothing refl (search arith),
  refl,
)
