use Rattle.std.proofs.Common.{arith, length, ap}
use Rattle.um_merge.specs.Logs.{Log}
use Rattle.um_merge.proofs.Told.{told-length}
use Rattle.um_merge.proofs.log.Log.len.Goals as goal

pub returns : goal.returns
returns c =
    let v = c.self.inside in
    let same = ap (λ (l : Log). length l.items) c.self.view_is in
    omega (arith, c.len.ensures, v.steps.ok.0, same, told-length v.steps.items v.events.items)
