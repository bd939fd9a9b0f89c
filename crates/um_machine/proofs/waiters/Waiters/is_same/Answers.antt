use Rattle.std.proofs.Common.{sym, ◌∙◌}
use Rattle.um_machine.proofs.SameLemmas.{items, waiter}
use Rattle.um_machine.proofs.waiters.Waiters.is_same.Goals as goal

pub returns : goal.returns
returns c h =
    sym c.as_slice.ensures.value ∙ (items waiter).same c.as_slice.result.now c.as_slice-2.result.now (sym c.eq.ensures ∙ h) ∙ c.as_slice-2.ensures.value
