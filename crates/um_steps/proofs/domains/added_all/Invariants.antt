use Rattle.std.proofs.Common.{◌≡◌, ◌≤◌, [], drop, length, map}
use Rattle.um_machine.specs.Domains.{added_all, part_named}
use Rattle.um_steps.proofs.domains.added_all.Given as goal

abbrev pub invariant-loop-part : goal.invariant-loop-part
invariant-loop-part l = record {
  so_far : added_all l.image.mpu l.made (map (part_named l.image) (drop l.part-index l.parts)) ≡ added_all l.image.mpu [] (map (part_named l.image) l.parts);
  few : length l.made ≤ l.part-index;
}
