use Rattle.std.proofs.Common.{◌≡◌, drop}
use Rattle.um_description.specs.Resolve.{futex_named}
use Rattle.um_description.proofs.resolve.lines.futex_named.Given as goal

abbrev pub invariant-loop-futex : goal.invariant-loop-futex
invariant-loop-futex l = futex_named l.image l.name l.other l.futexes ≡ futex_named l.image l.name l.other (drop l.futex-index l.futexes)
