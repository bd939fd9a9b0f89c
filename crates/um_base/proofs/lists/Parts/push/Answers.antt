-- One more at the end of the front keeps the room behind it blank.
use Rattle.um_base.specs.Room.{room_after_push}
use Rattle.um_base.proofs.lists.Parts.push.Goals as goal

pub invariant_of-self : goal.invariant_of-self
invariant_of-self c = room_after_push _ c.self.invariant c.self.view_is c.requires
