use Rattle.std.proofs.Common.{◌≡◌, arith, ap, sym, subst, Bool}
use Rattle.um_fine.specs.Scheduler.{Scheduler}
use Rattle.um_core.specs.CoreSteps.{HasPassed, scheduler_there}
use Rattle.um_core.specs.Cores.{Core}
use Rattle.um_core.proofs.CoreMoves.{has-passed}
use Rattle.um_core.proofs.processors.Core.pass.Goals as goal

pub returns-clause-passes : goal.returns-clause-passes
returns-clause-passes c =
    let still : (scheduler_there c.args.self.now).running ≡ 0 =
    (let view = ap (λ (core : Core). (scheduler_there core).running) c.self.view_is in
    let cell = ap (λ (s : Scheduler). s.running) c.scheduler_cell.ensures in
    let read = c.running.ensures in
    let none = c.if-running-gt0.false in
    omega (arith, view, cell, read, none)) in
    subst (λ (b : Bool). HasPassed b c.args.image.now c.args.cpu c.args.self.now c.tick.new.self) (sym c.is_made.ensures)
    (has-passed c.args.image.now c.args.cpu c.args.self.now c.tick.new.self c.requires.idle still c.tick.result c.tick.ensures.turn)
