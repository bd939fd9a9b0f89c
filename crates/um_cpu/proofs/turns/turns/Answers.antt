use Rattle.std.proofs.Common.{ℕ, subst}
use Rattle.um_cpu.specs.Cpus.{Rests}
use Rattle.um_processor.specs.Standing.{whole}
use Rattle.um_cpu.proofs.Advances.{plays-out}
use Rattle.um_cpu.proofs.turns.turns.Goals as goal

pub step-requires : goal.step-requires
step-requires g c =
    record {
      given = c.requires.given;
      described = c.requires.described;
      can = c.requires.can;
      place = c.loop.invariant.place;
      stands = c.loop.invariant.stands;
    }

pub returns-in-Quiet-clause-out : goal.returns-in-Quiet-clause-out
returns-in-Quiet-clause-out g c =
    let first = c.args.cpu.now in
    let before = c.loop.cpu in
    let last = c.step.new.self in
    let rests = subst (λ (k : ℕ). Rests c.args.image.now k (whole before.processor) (whole last.processor) before.place.seat before.place.log.items last.place.seat last.place.log.items c.in-Quiet.word)
    c.loop.invariant.number c.in-Quiet.ensures.told.0 in
    plays-out c.args.image.now first.number (whole first.processor) (whole before.processor) (whole last.processor) first.place.seat first.place.log.items
    before.place.seat before.place.log.items last.place.seat last.place.log.items c.in-Quiet.word c.loop.invariant.reaches rests c.in-Quiet.ensures.told.1
