use Rattle.std.proofs.Common.{◌≡◌, subst}
use Rattle.um_fine.specs.Steps.{FineStep, Site}
use Rattle.um_processor.specs.Standing.{whole}
use Rattle.um_processor.specs.Processors.{Turned}
use Rattle.um_processor.specs.declared.phase.Turn.{Turn}
use Rattle.um_board.specs.Saw.{SawAt}
use Rattle.um_board.specs.Seated.{Noted, Unnoted}
use Rattle.um_board.specs.declared.seated.Seated.{Seated}
use Rattle.um_cpu.proofs.Advances.{LateAt, ShutAt, noted-all, stands-next, stands-on, stands-there}
use Rattle.um_cpu.proofs.Asks.{has-next, not-stuck, seat-of}
use Rattle.um_cpu.proofs.Runs.{runs-known}
use Rattle.um_cpu.proofs.WholeTurns.{turn-asked, turn-goes, turn-keeps}
use Rattle.um_cpu.proofs.cpu.Cpu.ask.Goals as goal

pub step-requires-clause-goes : goal.step-requires-clause-goes
step-requires-clause-goes c =
    let s = c.args.self.now.place in
    stands-next c.args.image.now c.args.self.now.number (whole c.args.self.now.processor) s.seat s.log.items c.requires.stands

pub returns-clause-keeps : goal.returns-clause-keeps
returns-clause-keeps c =
    turn-keeps c.args.image.now c.args.self.now.number c.args.self.now.place c.step.new.sites (whole c.args.self.now.processor) (whole c.step.new.self) c.step.result c.step.ensures.turn

pub returns-clause-goes : goal.returns-clause-goes
returns-clause-goes c =
    turn-goes c.args.image.now c.args.self.now.number c.args.self.now.place c.step.new.sites (whole c.args.self.now.processor) (whole c.step.new.self) c.step.result c.step.ensures.same c.step.ensures.turn c.step.ensures.takes

pub returns-clause-stands : goal.returns-clause-stands
returns-clause-stands c =
    let s = c.args.self.now.place in
    let t = c.step.new.sites in
    stands-on c.args.image.now c.args.self.now.number (whole c.args.self.now.processor) (whole c.step.new.self) s.seat s.log.items t.seat t.log.items c.requires.stands (returns-clause-keeps c) (returns-clause-goes c)

pub returns-clause-asked : goal.returns-clause-asked
returns-clause-asked c =
    let image = c.args.image.now in
    let self = c.args.self.now in
    let s = self.place in
    let stands = c.requires.stands in
    let runs = runs-known image c.requires.described c.requires.can c.longest_fine_run.ensures c.every_fine_run.ensures.run c.every_fine_run.ensures.waits c.every_deadline.ensures in
    turn-asked image self.number s c.step.new.sites (whole self.processor) (whole c.step.new.self) runs
    (seat-of image _ _ self.number (whole self.processor) s.seat s.log.items c.requires.place.seated stands)
    (stands-there image self.number (whole self.processor) s.seat s.log.items stands)
    (noted-all image self.number (whole self.processor) s.seat s.log.items stands) c.requires.place.enough
    c.step.result c.step.ensures.same c.step.ensures.turn (not-stuck c.step.result c.in-Made.is)

pub unreachable-requires : goal.unreachable-requires
unreachable-requires c =
    let image = c.args.image.now in
    let self = c.args.self.now in
    let s = self.place in
    let t = c.step.new.sites in
    let stands = c.requires.stands in
    let runs = runs-known image c.requires.described c.requires.can c.longest_fine_run.ensures c.every_fine_run.ensures.run c.every_fine_run.ensures.waits c.every_deadline.ensures in
    let turned = subst (λ (turn : Turn). Turned turn self.number image (whole self.processor) (whole c.step.new.self)
    (λ (e : FineStep). Noted s.seat s.log.items e t.seat t.log.items)
    (λ (e : FineStep). Unnoted s.seat s.log.items t.seat t.log.items × ShutAt image s t e)
    (λ (site : Site). Unnoted s.seat s.log.items t.seat t.log.items × LateAt s t site)
    (t ≡ s)) c.in-Stuck.is c.step.ensures.turn in
    has-next image runs self.number s.seat (seat-of image _ _ self.number (whole self.processor) s.seat s.log.items c.requires.place.seated stands) (whole self.processor)
    (stands-there image self.number (whole self.processor) s.seat s.log.items stands)
    306 c.look_scheduler.result (subst (λ (x : Seated). SawAt x.seat 306 c.look_scheduler.result) turned.0 c.look_scheduler.ensures.saw) turned.1
