use Rattle.std.proofs.Common.{◌≡◌, take, length}
use Rattle.um_machine.specs.Table.{replies_of}
use Rattle.um_service.proofs.outcome.Woken.replies.Given as goal

abbrev pub invariant-loop-i : goal.invariant-loop-i
invariant-loop-i l = record {
  so_far : l.replies ≡ replies_of (take l.i l.woken);
  count : length l.replies ≡ l.i;
}
