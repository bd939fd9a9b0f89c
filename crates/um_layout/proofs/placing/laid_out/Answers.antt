use Rattle.std.proofs.Common.{arith}
use Rattle.std.proofs.lemmas.Result.{IfOk-weaker}
use Rattle.um_layout.specs.Standing.{IsLayout}
use Rattle.um_layout.specs.Entries.{AreStanding}
use Rattle.um_layout.proofs.Laid.{InOrder, length_in_order, each_is, bytes_in_order, some_bytes, laid}
use Rattle.um_layout.proofs.placing.laid_out.Goals as goal

abbrev in_order : (c : goal.After-deref) → InOrder c.args.mpu c.args.sizes.now c.in_ok-entries.entries.items c.put_in_order.new.entries.items
in_order c = record {
  entries = c.in_ok-entries.ensures;
  permutation = c.put_in_order.ensures.permutation;
  distinct = c.put_in_order.ensures.distinct;
  ordered = c.put_in_order.ensures.ordered;
}

pub stand-requires-clause-numbers : goal.stand-requires-clause-numbers
stand-requires-clause-numbers c =
    let h = in_order c in rw c.deref.ensures.value (λ k d inside. omega (arith, (each_is h k d inside).0, length_in_order h))

pub stand-requires-clause-sizes : goal.stand-requires-clause-sizes
stand-requires-clause-sizes c = rw c.deref.ensures.value (some_bytes (in_order c) c.requires.asked)

pub stand-requires-clause-bytes : goal.stand-requires-clause-bytes
stand-requires-clause-bytes c = rw c.deref.ensures.value (omega (arith, bytes_in_order (in_order c)))

pub stand-requires-clause-fits : goal.stand-requires-clause-fits
stand-requires-clause-fits c = rw c.deref.ensures.value (omega (arith, bytes_in_order (in_order c)))

pub returns : goal.returns
returns c =
    let h : InOrder c.args.mpu c.args.sizes.now c.in_ok-entries.entries.items c.put_in_order.new.entries.items = record {
      entries = c.in_ok-entries.ensures;
      permutation = c.put_in_order.ensures.permutation;
      distinct = c.put_in_order.ensures.distinct;
      ordered = c.put_in_order.ensures.ordered;
    } in
    IfOk-weaker _ (λ ranges. AreStanding c.args.area.start.0 c.deref.result.now ranges.items) (λ ranges. IsLayout c.args.mpu c.args.area c.args.sizes.now ranges.items)
    (λ ranges s. laid c.args.area ranges.items h (rw c.deref.ensures.value at s) c.requires.area_start c.requires.room) c.stand.ensures
