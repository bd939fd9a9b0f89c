use Rattle.std.proofs.Common.{arith, ◌∙◌, false, Some, ap, refl}
use Rattle.um_fine.specs.Cells.{Cell}
use Rattle.um_fine.specs.Steps.{Exchange, Site}
use Rattle.um_tables.specs.Sited.{logged}
use Rattle.um_tables.proofs.Celled.{cell-ends, cell-taken}
use Rattle.std.proofs.Common.{ℕ, ◌++◌, ◌∷◌, []}
use Rattle.um_base.specs.declared.act.Act.{Act}
use Rattle.um_base.specs.declared.act.Event.{Event}
use Rattle.um_tables.specs.Asked.{by_thread}
use Rattle.um_tables.specs.ClockActs.{arm_act}
use Rattle.um_tables.specs.Timed.{Timed}
use Rattle.um_tables.proofs.tables.steps.TablesSites.arm.Goals as goal

pub returns-clause-said : goal.returns-clause-said
returns-clause-said c =
    let kept = c.self.inside.clock.clock in
    let e = c.arm-deadline.ensures in (
      c.self.inside.clock_steps,
      kept,
      cell-taken c.args.here.now.image.now _ _ c.self.view_is c.args.here.now.cpu Site.clock c.self.inside.clock_steps (Cell.clock kept) (Cell.clock c.arm-deadline.new.self.clock) (arm_act c.args.thread) (Exchange.armed c.args.ticks c.args.mark) refl (omega arith) refl
          (ap (λ (t : Timed). Cell.clock t.clock) e.left
          ∙ ap (λ (d : ℕ). Cell.clock (record kept { marks = kept.marks ++ record { deadline = d; mark = c.args.mark; settled = false; given = false } ∷ [] })) e.deadline)
          _
          _
          (c.note.ensures.events ∙ ap (logged c.self.inside.log.items) (ap (λ (event : Event). Some event) c.armed.ensures ∙ ap (λ (d : ℕ). Some (by_thread c.args.thread (Act.Arm d))) e.deadline))
          c.note.ensures.room,
      e.deadline,
    )

pub returns-then-self-ge-LAST-clause-said : goal.returns-then-self-ge-LAST-clause-said
returns-then-self-ge-LAST-clause-said c = (
  c.self.inside.clock_steps,
  c.self.inside.clock.clock,
  refl,
  cell-ends c.args.here.now.image.now _ _ c.self.view_is c.args.here.now.cpu Site.clock c.self.inside.clock_steps (Cell.clock c.self.inside.clock.clock) (arm_act c.args.thread) (Exchange.armed c.args.ticks c.args.mark) refl (search arith),
)
