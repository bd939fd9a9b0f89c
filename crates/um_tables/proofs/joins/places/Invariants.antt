use Rattle.std.proofs.Common.{◌≡◌, None, replicate}
use Rattle.um_tables.proofs.joins.places.Given as goal

abbrev pub invariant-loop : goal.invariant-loop
invariant-loop l = l.all.items ≡ replicate l.counter None
