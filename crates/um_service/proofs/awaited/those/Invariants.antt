use Rattle.std.proofs.Common.{◌≡◌, filter, take}
use Rattle.um_service.specs.Awaits.{chosen}
use Rattle.um_service.proofs.awaited.those.Given as goal

abbrev pub invariant-loop-i : goal.invariant-loop-i
invariant-loop-i l = record {
  so_far : l.those ≡ filter (chosen l.awaited l.wanted) (take l.i l.all);
}
