use Rattle.std.proofs.Common.{◌≡◌, take}
use Rattle.std.specs.Prelude.{filter, vec_capacity}
use Rattle.um_fine.specs.Clock.{is_unsettled}
use Rattle.um_tables.specs.Timed.{not_settled}
use Rattle.um_tables.proofs.Timing.{NoneOf}
use Rattle.um_tables.proofs.clock.settle_first.Given as goal

abbrev pub invariant-loop-k : goal.invariant-loop-k
invariant-loop-k l = record {
  none : NoneOf (is_unsettled l.deadline l.mark) (take l.k (filter not_settled l.marks));
  same : l.marks ≡ l.fn.marks;
  listed : l.unsettled.items ≡ l.fn.unsettled.items;
  room : vec_capacity l.unsettled ≡ vec_capacity l.fn.unsettled;
}
