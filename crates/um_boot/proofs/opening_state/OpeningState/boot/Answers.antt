use Rattle.std.proofs.Common.{ap, ◌∙◌}
use Rattle.um_machine.specs.State.{State}
use Rattle.um_machine.specs.Run.{booted, loaded}
use Rattle.um_boot.proofs.opening_state.OpeningState.boot.Goals as goal

pub returns : goal.returns
returns c =
    let image = c.args.image.now in
    let loads = rw c.as_slice.ensures.value at c.load_all.ensures in
    let boots = rw c.as_slice-2.ensures.value at c.boot_all.ensures in
    boots ∙ ap (λ (s : State). booted image.boots s) (loads ∙ ap (λ (s : State). loaded image.partitions s) c.in_ok-state.ensures)
