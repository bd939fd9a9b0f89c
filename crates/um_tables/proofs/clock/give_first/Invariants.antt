use Rattle.std.proofs.Common.{◌≡◌, take}
use Rattle.std.specs.Prelude.{filter, vec_capacity}
use Rattle.um_fine.specs.Clock.{is_due}
use Rattle.um_tables.specs.Timed.{not_given}
use Rattle.um_tables.proofs.Timing.{NoneOf}
use Rattle.um_tables.proofs.clock.give_first.Given as goal

abbrev pub invariant-loop-k : goal.invariant-loop-k
invariant-loop-k l = record {
  none : NoneOf (is_due l.now) (take l.k (filter not_given l.marks));
  same : l.marks ≡ l.fn.marks;
  listed : l.ungiven.items ≡ l.fn.ungiven.items;
  room : vec_capacity l.ungiven ≡ vec_capacity l.fn.ungiven;
}
