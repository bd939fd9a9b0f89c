use Rattle.std.proofs.Common.{◌≡◌, drop, []}
use Rattle.std.proofs.lemmas.List.{drop_all}
use Rattle.um_description.proofs.WeightLemmas.{counted_end}
use Rattle.um_description.proofs.weighing.boots_weight.Goals as goal

pub returns : goal.returns
returns c = λ all h.
    let none : drop c.loop-boot.boot-index c.args.boots.now ≡ [] = drop_all c.loop-boot.boot-index c.args.boots.now c.loop-boot-test.false in
    counted_end c.loop-boot.sum _ c.loop-boot.invariant.fits (rw none at (c.loop-boot.invariant.counts all h))
