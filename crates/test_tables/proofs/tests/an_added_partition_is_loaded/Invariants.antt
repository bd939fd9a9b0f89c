use Rattle.std.proofs.Common.{◌≡◌}
use Rattle.um_machine.specs.Memory.{rodata_of}
use Rattle.test_tables.proofs.tests.an_added_partition_is_loaded.Given as goal

abbrev pub invariant-loop-call : goal.invariant-loop-call
invariant-loop-call g l = l.sites.rodata ≡ rodata_of l.here.image.now

abbrev pub invariant-loop-domain : goal.invariant-loop-domain
invariant-loop-domain g l = l.sites.rodata ≡ rodata_of l.here.image.now
