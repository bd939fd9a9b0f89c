use Rattle.std.proofs.Common.{◌≡◌}
use Rattle.um_machine.specs.Memory.{rodata_of}
use Rattle.test_tables.proofs.tests.a_pool_pays_for_one_object_at_a_time.Given as goal

abbrev pub invariant-loop-act : goal.invariant-loop-act
invariant-loop-act g l = l.sites.rodata ≡ rodata_of l.here.image.now
