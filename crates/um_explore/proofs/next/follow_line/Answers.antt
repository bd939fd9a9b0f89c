use Rattle.std.proofs.Common.{ap, length, List, ℕ, refl, subst, sym}
use Rattle.um_base.specs.declared.act.Event.{Event}
use Rattle.um_machine.specs.State.{State}
use Rattle.um_explore.specs.Steps.{AreSteps, Has}
use Rattle.um_explore.proofs.NextLemmas.{has-step, line-follows, no-line}
use Rattle.um_explore.proofs.next.follow_line.Goals as goal

pub unreachable-requires : goal.unreachable-requires
unreachable-requires c =
    let steps = subst (λ (s : State). AreSteps s c.steps_of.new.events.items) c.tables.ensures c.in_ok-steps_of.ensures in
    let has = subst (λ (events : List Event). Has events c.in-Some.event) c.deref.ensures.value c.in-Some.ensures.first.1 in
    let is = has-step c.args.matrix.now c.steps_of.new.events.items c.in-Some.event steps has in
    c.in-Err.ensures.refused is.0 is.1

pub returns-in-None-clause-follows : goal.returns-in-None-clause-follows
returns-in-None-clause-follows c =
    let steps = subst (λ (s : State). AreSteps s c.steps_of.new.events.items) c.tables.ensures c.in_ok-steps_of.ensures in (
      no-line c.args.image.now c.args.matrix.now c.steps_of.new.events.items c.args.rest.now steps
          (λ event more has. c.in-None.ensures.first event more (subst (λ (events : List Event). Has events event) (sym c.deref.ensures.value) has)),
      refl,
    )

pub returns-in-Ok-clause-follows : goal.returns-in-Ok-clause-follows
returns-in-Ok-clause-follows c =
    let first = c.in-Some.ensures.first in
    line-follows c.args.image.now c.args.matrix.now c.apply.new.self c.args.rest.now c.first_of.new.room.items first.0 c.in-Some.event (length c.as_slice.result.now) c.in-Ok.ensures.ok first.2 first.3
    (ap (λ (l : List ℕ). length l) c.as_slice.ensures.value)
