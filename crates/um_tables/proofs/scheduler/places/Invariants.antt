use Rattle.std.proofs.Common.{◌≡◌, replicate}
use Rattle.um_tables.specs.Parked.{nobody}
use Rattle.um_tables.proofs.scheduler.places.Given as goal

abbrev pub invariant-loop : goal.invariant-loop
invariant-loop l = l.all.items ≡ replicate l.counter nobody
