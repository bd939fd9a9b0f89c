use Rattle.std.proofs.Common.{◌≡◌, drop}
use Rattle.um_fine.specs.Seeking.{deadline_of}
use Rattle.um_tables.proofs.look.waits_to.Given as goal

abbrev pub invariant-loop-i : goal.invariant-loop-i
invariant-loop-i l = record {
  rest : deadline_of l.who.0 l.waiters ≡ deadline_of l.who.0 (drop l.i l.waiters);
}
