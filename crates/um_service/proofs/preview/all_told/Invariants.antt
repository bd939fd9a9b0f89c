use Rattle.std.proofs.Common.{◌≡◌, length, take}
use Rattle.um_service.proofs.PreviewLemmas.{fails}
use Rattle.um_service.proofs.preview.all_told.Given as goal

abbrev pub invariant-loop-i : goal.invariant-loop-i
invariant-loop-i l = record {
  so_far : l.woken ≡ fails l.error (take l.i l.queue);
  count : length l.woken ≡ l.i;
}
