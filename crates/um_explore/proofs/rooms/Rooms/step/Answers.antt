use Rattle.std.proofs.Common.{◌∙◌, ap}
use Rattle.um_machine.specs.State.{State}
use Rattle.um_matrix.proofs.ReachLemmas.{image-step}
use Rattle.um_explore.proofs.rooms.Rooms.step.Goals as goal

pub returns-clause-rooms : goal.returns-clause-rooms
returns-clause-rooms c =
    let rooms = c.requires.rooms in
    record {
      opens = rooms.opens;
      here = rooms.here;
      there = image-step c.set_to.new.self c.apply.new.self c.args.event.now c.in-Ok.ensures.ok ∙ ap (λ (s : State). s.image) c.in_ok-set_to.ensures.ok ∙ rooms.here;
      other = rooms.other;
    }
