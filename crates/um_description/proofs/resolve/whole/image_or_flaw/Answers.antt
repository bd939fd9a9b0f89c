use Rattle.std.proofs.Common.{◌∙◌}
use Rattle.um_description.proofs.MeaningLemmas.{whole}
use Rattle.um_description.proofs.resolve.whole.image_or_flaw.Goals as goal

pub returns : goal.returns
returns c =
    c.told.ensures
    ∙ whole c.args.d.now c.in_ok-image.image c.is_too_heavy-heavy.result c.in_ok-partitions.partitions.need c.in_ok-stacks.stacks.need c.in_ok-partitions.partitions.ranges.items c.in_ok-stacks.stacks.ranges.items
    c.is_too_heavy-heavy.ensures c.in_ok-image.ensures c.in_ok-partitions.ensures.fits c.in_ok-partitions.ensures.full c.in_ok-stacks.ensures.fits c.in_ok-stacks.ensures.full
