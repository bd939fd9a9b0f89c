use Rattle.std.proofs.Common.{reverse, take, sym, ap, ◌∙◌}
use Rattle.um_machine.proofs.SameLemmas.{items, step}
use Rattle.um_machine.proofs.pending.Pendings.is_same.Goals as goal

pub returns : goal.returns
returns c h =
    let a = c.self.inside in
    let b = c.other.inside in
    sym c.self.view_is ∙ ap reverse ((items step).same (take a.len a.items) (take b.len b.items) (sym c.eq.ensures ∙ h)) ∙ c.other.view_is
