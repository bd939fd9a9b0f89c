use Rattle.std.proofs.Common.{◌≡◌, ◌≤◌, ◌+◌, drop}
use Rattle.um_machine.specs.Objects.{thread_holds}
use Rattle.um_fine.specs.Opening.{count, indexed}
use Rattle.um_opening.proofs.words.claims.Given as goal

abbrev pub invariant-loop-t : goal.invariant-loop-t
invariant-loop-t l = record {
  so_far : l.claims + count (indexed (thread_holds l.image l.x) l.t (drop l.t l.threads)) ≡ count (indexed (thread_holds l.image l.x) 0 l.threads);
  few : l.claims ≤ l.t;
}
