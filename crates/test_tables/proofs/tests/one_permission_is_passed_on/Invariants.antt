use Rattle.std.proofs.Common.{◌≡◌}
use Rattle.um_machine.specs.Memory.{rodata_of}
use Rattle.test_tables.proofs.tests.one_permission_is_passed_on.Given as goal

abbrev pub invariant-loop-row : goal.invariant-loop-row
invariant-loop-row g l = l.sites.rodata ≡ rodata_of l.here.image.now
