use Rattle.std.proofs.Common.{◌≡◌, ◌≤◌, ◌-◌}
use Rattle.um_base.specs.Weight.{weight}
use Rattle.um_machine.specs.Memory.{rodata_of}
use Rattle.um_core.proofs.CoreRuns.{SoFar}
use Rattle.um_core.proofs.running.picked.Given as goal

abbrev pub invariant-turns : goal.invariant-turns
invariant-turns l = record {
  so_far : SoFar l.image l.cpus l.fn.pick l.count l.core l.order;
  rodata : l.core.sites.rodata ≡ rodata_of l.image;
  room : weight l.image ≤ l.core.sites.most;
}

abbrev pub decreases-turns : goal.decreases-turns
decreases-turns l = weight l.image - l.count
