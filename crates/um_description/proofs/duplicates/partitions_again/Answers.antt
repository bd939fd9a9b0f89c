use Rattle.std.proofs.Common.{arith, Ok, ap, sym, ◌∙◌}
use Rattle.um_description.specs.Duplicates.{added}
use Rattle.um_description.specs.Names.{names_within}
use Rattle.um_description.proofs.AgainLemmas.{partition_step, partition_here, partition_added_step, nothing_there}
use Rattle.um_description.proofs.duplicates.partitions_again.Goals as goal

pub loop-partition-preserved : goal.loop-partition-preserved
loop-partition-preserved c =
    let gone = sym c.is_some.ensures ∙ c.if-is_some.false in
    let put = c.in_ok-found.ensures.added (ap Ok (nothing_there c.in_ok-found.found gone)) in
    record {
      rest =
          partition_step c.loop-partition.seen c.partition_found.new.seen c.args.partitions.now c.loop-partition.index c.loop-partition.partition-index c.partition-item.result c.in_ok-found.found _
          c.loop-partition-test.true c.partition-item.is c.in_ok-found.ensures.found gone put c.loop-partition.invariant.rest;
      all =
          partition_added_step c.loop-partition.seen c.partition_found.new.seen (added c.args.seen.now (names_within c.args.partitions.now)) c.args.partitions.now c.loop-partition.partition-index c.partition-item.result
          c.loop-partition-test.true c.partition-item.is put c.loop-partition.invariant.all;
      index = omega (arith, c.loop-partition.invariant.index);
    }

pub returns-then-is_some-clause-found : goal.returns-then-is_some-clause-found
returns-then-is_some-clause-found c =
    partition_here c.loop-partition.seen c.args.partitions.now c.loop-partition.index c.loop-partition.partition-index c.partition-item.result c.in_ok-found.found _
    c.loop-partition-test.true c.partition-item.is c.in_ok-found.ensures.found (sym c.is_some.ensures ∙ c.if-is_some.true) c.loop-partition.invariant.rest
