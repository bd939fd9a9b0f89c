use Rattle.std.proofs.Common.{◌≡◌, drop}
use Rattle.um_machine.specs.Run.{granted}
use Rattle.um_boot.proofs.opening_state.OpeningState.grant_all.Given as goal

abbrev pub invariant-loop-x : goal.invariant-loop-x
invariant-loop-x l = granted l.t (drop l.x-index l.rows) l.self ≡ granted l.t l.rows l.fn.self
