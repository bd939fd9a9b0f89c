use Rattle.std.proofs.Common.{◌≡◌, ◌≤◌, ◌++◌, length, drop}
use Rattle.um_service.specs.Preview.{shares}
use Rattle.um_service.proofs.preview.shares.Given as goal

abbrev pub invariant-loop-i : goal.invariant-loop-i
invariant-loop-i l = record {
  so_far : l.woken ++ shares (drop l.i l.queue) l.left ≡ shares l.queue l.n;
  count : length l.woken ≡ l.i;
  few : l.left ≤ 256;
}
