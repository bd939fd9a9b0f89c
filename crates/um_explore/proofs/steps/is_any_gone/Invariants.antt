use Rattle.std.proofs.Common.{◌≡◌, ℕ, ◌<◌, false}
use Rattle.um_machine.specs.Objects.{is_gone}
use Rattle.um_machine.specs.State.{object_at}
use Rattle.um_explore.proofs.steps.is_any_gone.Given as goal

abbrev pub invariant-loop-x : goal.invariant-loop-x
invariant-loop-x l = (x : ℕ) → x < l.x → is_gone (object_at l.tables x).status ≡ false
