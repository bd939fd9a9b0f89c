-- The test is exact.
use Rattle.std.proofs.lemmas.Bool.Decides.{Decides-at}
use Rattle.um_base.specs.Exact.{exact-decides}
use Rattle.um_steps.proofs.ActLemmas.{acts}
use Rattle.um_steps.proofs.same.same_act.Goals as goal

pub returns : goal.returns
returns c = Decides-at _ _ c.eq.ensures (exact-decides acts c.args.a.now c.args.b.now)
