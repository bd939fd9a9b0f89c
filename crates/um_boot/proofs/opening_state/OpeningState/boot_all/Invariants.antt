use Rattle.std.proofs.Common.{◌≡◌, drop}
use Rattle.um_machine.specs.Run.{booted}
use Rattle.um_boot.proofs.opening_state.OpeningState.boot_all.Given as goal

abbrev pub invariant-loop-boot : goal.invariant-loop-boot
invariant-loop-boot l = booted (drop l.boot-index l.boots) l.self ≡ booted l.boots l.fn.self
