use Rattle.std.proofs.Common.{◌≤◌, length, subst}
use Rattle.um_merge.specs.Logs.{Log}
use Rattle.um_board.specs.Saw.{Hinders}
use Rattle.um_board.proofs.seated.Seated.look_to_step.Goals as goal

pub returns-then-is_full-clause-seen : goal.returns-then-is_full-clause-seen
returns-then-is_full-clause-seen c =
    let seen = c.look-word.ensures in
    Hinders.full c.look-word.result seen.saw (subst (λ (l : Log). l.room ≤ length l.items) seen.log (c.is_full.ensures.full c.if-is_full.true))
