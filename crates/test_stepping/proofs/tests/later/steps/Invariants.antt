use Rattle.std.proofs.Common.{◌≡◌, length}
use Rattle.um_machine.specs.Memory.{rodata_of}
use Rattle.test_stepping.proofs.tests.later.steps.Given as goal

abbrev pub invariant-loop-made : goal.invariant-loop-made
invariant-loop-made l = record {
  rodata : l.core.sites.rodata ≡ rodata_of l.image;
  three : length l.core.processors ≡ 3;
}
