use Rattle.std.proofs.Common.{arith, ◌∙◌, Option, Some, ap, refl, sym, is_some, unwrap_or}
use Rattle.um_fine.specs.Cells.{Cell}
use Rattle.um_fine.specs.Steps.{Exchange, Site}
use Rattle.um_tables.specs.Sited.{logged}
use Rattle.um_tables.proofs.Celled.{cell-ends, cell-refused, cell-taken, clock-kept}
use Rattle.std.proofs.Common.{ℕ}
use Rattle.um_base.specs.declared.act.Act.{Act}
use Rattle.um_base.specs.declared.act.Event.{Event}
use Rattle.um_tables.specs.Asked.{by_thread}
use Rattle.um_tables.specs.ClockActs.{tick_act}
use Rattle.um_tables.specs.Timed.{Timed}
use Rattle.um_tables.proofs.tables.steps.TablesSites.tick.Goals as goal

pub returns-clause-said : goal.returns-clause-said
returns-clause-said c =
    let kept = c.self.inside.clock.clock in
    let e = c.in-Some.ensures in
    let now = ap (λ (o : Option ℕ). unwrap_or o kept.now) e.next in (
      c.self.inside.clock_steps,
      kept,
      cell-taken c.args.here.now.image.now _ _ c.self.view_is c.args.here.now.cpu Site.clock c.self.inside.clock_steps (Cell.clock kept) (Cell.clock c.tick.new.self.clock) (tick_act c.args.thread) (Exchange.nothing) refl (omega arith) (sym (ap (λ (o : Option ℕ). is_some o) e.next))
          (ap (λ (t : Timed). Cell.clock t.clock) e.left ∙ ap (λ (n : ℕ). Cell.clock (record kept { now = n })) now)
          _
          _
          (c.note.ensures.events ∙ ap (logged c.self.inside.log.items) (ap (λ (event : Event). Some event) c.ticked.ensures ∙ ap (λ (n : ℕ). Some (by_thread c.args.thread (Act.Tick n))) now))
          c.note.ensures.room,
    )

pub returns-in-None-clause-said : goal.returns-in-None-clause-said
returns-in-None-clause-said c =
    let kept = c.self.inside.clock.clock in (
      c.self.inside.clock_steps,
      kept,
      clock-kept _ _ c.self.view_is _ (ap (λ (t : Timed). t.clock) c.in-None.ensures.left),
      cell-refused c.args.here.now.image.now _ _ c.self.view_is c.args.here.now.cpu Site.clock c.self.inside.clock_steps (Cell.clock kept) (tick_act c.args.thread) (Exchange.nothing) refl (sym (ap (λ (o : Option ℕ). is_some o) c.in-None.ensures.next)),
    )

pub returns-then-self-ge-LAST-clause-said : goal.returns-then-self-ge-LAST-clause-said
returns-then-self-ge-LAST-clause-said c = (
  c.self.inside.clock_steps,
  c.self.inside.clock.clock,
  refl,
  cell-ends c.args.here.now.image.now _ _ c.self.view_is c.args.here.now.cpu Site.clock c.self.inside.clock_steps (Cell.clock c.self.inside.clock.clock) (tick_act c.args.thread) (Exchange.nothing) refl (search arith),
)
