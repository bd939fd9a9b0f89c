use Rattle.std.proofs.Common.{◌≡◌}
use Rattle.um_machine.specs.Memory.{rodata_of}
use Rattle.test_tables.proofs.tests.a_cleared_queue_says_its_cost.Given as goal

abbrev pub invariant-loop-cost : goal.invariant-loop-cost
invariant-loop-cost g l = l.sites.rodata ≡ rodata_of l.here.image.now
