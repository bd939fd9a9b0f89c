use Rattle.std.proofs.Common.{◌≡◌, ◌≤◌, ◌-◌}
use Rattle.um_base.specs.Weight.{weight}
use Rattle.um_machine.specs.Memory.{rodata_of}
use Rattle.um_core.proofs.AloneRuns.{AloneSoFar}
use Rattle.um_core.proofs.running.alone.Given as goal

abbrev pub invariant-steps : goal.invariant-steps
invariant-steps l = record {
  so_far : AloneSoFar l.image l.count l.core;
  rodata : l.core.sites.rodata ≡ rodata_of l.image;
  room : weight l.image ≤ l.core.sites.most;
}

abbrev pub decreases-steps : goal.decreases-steps
decreases-steps l = weight l.image - l.count
