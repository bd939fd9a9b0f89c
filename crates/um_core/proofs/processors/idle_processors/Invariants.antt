use Rattle.std.proofs.Common.{◌≡◌, map, replicate}
use Rattle.um_fine.specs.Processor.{idle}
use Rattle.um_processor.specs.Standing.{whole}
use Rattle.um_core.proofs.processors.idle_processors.Given as goal

abbrev pub invariant-loop : goal.invariant-loop
invariant-loop l = map whole l.all.items ≡ replicate l.counter idle
