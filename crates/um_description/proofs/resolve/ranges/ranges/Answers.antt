use Rattle.std.proofs.Common.{◌∙◌, ap}
use Rattle.um_base.specs.Layout.{starts}
use Rattle.um_description.proofs.RangeLemmas.{ranges_are}
use Rattle.um_description.proofs.resolve.ranges.ranges.Goals as goal

pub returns-in-Ok-clause-placed : goal.returns-in-Ok-clause-placed
returns-in-Ok-clause-placed c =
    let sizes = c.in-Ok.ensures.sizes in
    ranges_are c.in-Ok.ranges.items _ _ (c.in-Ok.ensures.places ∙ ap (starts c.args.mpu c.args.area) sizes) sizes
