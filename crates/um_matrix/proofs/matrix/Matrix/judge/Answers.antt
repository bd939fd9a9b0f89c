use Rattle.std.proofs.Common.{◌≡◌, ◌<◌, refl, length, arith, Some, slice_get}
use Rattle.std.proofs.lemmas.Option.{slice_get_read}
use Rattle.um_matrix.proofs.RunLemmas.{runs_more}
use Rattle.um_matrix.proofs.matrix.Matrix.judge.Goals as goal

pub loop-k-preserved : goal.loop-k-preserved
loop-k-preserved c =
    let within : c.loop-k.k < length c.args.events.now = omega (arith, c.loop-k-test.true) in
    let here : slice_get c.args.events.now c.loop-k.k ≡ Some c.index-events-k.result =
    slice_get_read c.args.events.now (length c.args.events.now) c.loop-k.k c.index-events-k.result refl within c.index-events-k.is in
    runs_more c.args.self.now c.args.events.now c.loop-k.k c.loop-k.self c.index-events-k.result c.apply.new.self here c.loop-k.invariant c.in-Ok.ensures.ok
