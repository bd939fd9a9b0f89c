use Rattle.std.proofs.Common.{List, ◌∙◌, ap, subst, sym}
use Rattle.um_matrix.proofs.ReachLemmas.{image-opening}
use Rattle.um_base.specs.declared.act.Event.{Event}
use Rattle.um_machine.specs.Run.{IsRun, Runs, opening}
use Rattle.um_machine.specs.State.{State}
use Rattle.um_matrix.specs.Offered.{IsRefusedAt}
use Rattle.um_explore.proofs.MetLemmas.{image-run, never-refused, one-path}
use Rattle.um_explore.proofs.rooms.rebuild.Goals as goal

pub unreachable-requires : goal.unreachable-requires
unreachable-requires c =
    let image = c.args.image.now in
    let there = c.requires.are.reached c.args.k c.requires.met in
    let events = c.in_ok-events.events.items in
    let same = one-path c.args.links.now c.args.k there.1.0 events there.1.1 c.in_ok-events.ensures in
    let run = subst (λ (es : List Event). IsRun image es there.0) same there.1.2 in
    let refused = c.in-Err.ensures.refused in
    let opened = c.in_ok-set_to.ensures.ok ∙ c.requires.opens in
    never-refused image c.requires.are.described events there.0 c.judge.new.self c.in-Err.field-0 run
    (subst (λ (s : State). IsRefusedAt s events c.in-Err.field-0 c.judge.new.self) opened
    (subst (λ (es : List Event). IsRefusedAt c.set_to.new.self es c.in-Err.field-0 c.judge.new.self) c.deref.ensures.value refused))

pub set_to-requires : goal.set_to-requires
set_to-requires c = c.requires.room ∙ sym (ap (λ (s : State). s.image) c.requires.opens ∙ image-opening c.args.image.now)

pub returns-clause-image : goal.returns-clause-image
returns-clause-image c =
    let image = c.args.image.now in
    let opened = c.in_ok-set_to.ensures.ok ∙ c.requires.opens in
    let run : Runs (opening image) c.deref.result.now c.judge.new.self = subst (λ (s : State). Runs s c.deref.result.now c.judge.new.self) opened c.in-Ok.ensures.ok in
    image-run image c.deref.result.now c.judge.new.self run
