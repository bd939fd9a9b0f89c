use Rattle.std.proofs.Common.{◌-◌, ◌≡◌, length}
use Rattle.um_merge.specs.Merged.{AreShown, IsMerging}
use Rattle.um_merge.proofs.merging.merge.Given as goal

abbrev pub invariant-steps : goal.invariant-steps
invariant-steps l = IsMerging l.logs l.room.items l.places l.done × AreShown l.logs l.places l.shown × (length l.shown ≡ 8) × (l.room.room ≡ l.initial.room.room)

abbrev pub decreases-steps : goal.decreases-steps
decreases-steps l = l.initial.room.room - length l.room.items
