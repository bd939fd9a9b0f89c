use Rattle.std.proofs.Common.{◌≡◌, ◌≤◌, take, length, All}
use Rattle.std.specs.List.{flat_map}
use Rattle.um_description.specs.InLimits.{IsSize}
use Rattle.um_description.specs.Resolve.{asked_stack}
use Rattle.um_description.proofs.resolve.ranges.asked_stacks.Given as goal

abbrev pub invariant-loop-entry : goal.invariant-loop-entry
invariant-loop-entry l = record {
  items : l.sizes.items ≡ flat_map asked_stack (take l.entry-index l.d.objects);
  asked : All IsSize l.sizes.items;
  few : length l.sizes.items ≤ l.entry-index;
}
