use Rattle.std.proofs.Common.{◌≡◌}
use Rattle.um_machine.specs.Memory.{rodata_of}
use Rattle.test_tables.proofs.tests.events.events_are_logged_until_the_log_is_full.Given as goal

abbrev pub invariant-loop-act : goal.invariant-loop-act
invariant-loop-act g l = l.sites.rodata ≡ rodata_of l.here.image.now

abbrev pub invariant-loop : goal.invariant-loop
invariant-loop g l = l.sites.rodata ≡ rodata_of l.here.image.now
