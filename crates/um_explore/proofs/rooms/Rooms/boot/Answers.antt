use Rattle.std.proofs.Common.{◌≡◌, ◌∙◌, ap}
use Rattle.um_base.specs.declared.image.Image.{Image}
use Rattle.um_machine.specs.Run.{opening}
use Rattle.um_machine.specs.State.{State}
use Rattle.um_matrix.proofs.ReachLemmas.{image-opening}
use Rattle.um_explore.proofs.rooms.Rooms.boot.Goals as goal

opened : (image : Image) (s : State) → s ≡ opening image → s.image ≡ image
opened image s is = ap (λ (now : State). now.image) is ∙ image-opening image

pub returns-clause-rooms : goal.returns-clause-rooms
returns-clause-rooms c =
    let image = c.args.image.now in
    record {
      opens = c.trim.ensures ∙ c.in_ok-opens.ensures;
      here = opened image c.trim-2.new.self (c.trim-2.ensures ∙ c.in_ok-here.ensures);
      there = opened image c.trim-3.new.self (c.trim-3.ensures ∙ c.in_ok-there.ensures);
      other = opened image c.trim-4.new.self (c.trim-4.ensures ∙ c.in_ok-other.ensures);
    }
