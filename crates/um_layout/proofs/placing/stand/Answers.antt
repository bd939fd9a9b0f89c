use Rattle.std.proofs.Common.{◌+◌, ◌∙◌, ap, slice_index_or, arith}
use Rattle.std.proofs.lemmas.List.{length-set}
use Rattle.um_layout.specs.declared.entries.Entry.{Entry}
use Rattle.um_layout.proofs.Stand.{standing_more, bytes_more, bytes_more_le}
use Rattle.um_layout.proofs.placing.stand.Goals as goal

pub overflow_add-start : goal.overflow_add-start
overflow_add-start c =
    let d : Entry = record { size = 0; number = 0 } in
    let left = bytes_more_le c.args.entries.now c.loop-entry.entry-index d (omega arith) in
    let some = c.requires.sizes c.loop-entry.entry-index d (omega arith) in
    omega (arith, c.loop-entry.invariant.1)

pub overflow_add-offset : goal.overflow_add-offset
overflow_add-offset c =
    let d : Entry = record { size = 0; number = 0 } in
    let left = bytes_more_le c.args.entries.now c.loop-entry.entry-index d (omega arith) in
    omega (arith, c.loop-entry.invariant.1)

pub loop-entry-preserved : goal.loop-entry-preserved
loop-entry-preserved c =
    let d : Entry = record { size = 0; number = 0 } in
    let i = c.loop-entry.entry-index in
    let more = bytes_more c.args.entries.now i d (omega arith) in (
      length-set _ _ _ ∙ c.loop-entry.invariant.0,
      omega (arith, c.loop-entry.invariant.1),
      standing_more c.args.start.0 i c.args.entries.now c.loop-entry.ranges.items d _ c.requires.distinct c.requires.numbers c.loop-entry.invariant.0 (omega arith)
          (ap (λ n. record { start = record { 0 = c.args.start.0 + n }; size = (slice_index_or c.args.entries.now i d).size }) c.loop-entry.invariant.1) c.loop-entry.invariant.2,
    )
