use Rattle.std.proofs.Common.{take, ap, sym, ◌∙◌, arith}
use Rattle.um_matrix.proofs.AreaLemmas.{same-area}
use Rattle.um_matrix.proofs.area.Area.is_same.Goals as goal
use Rattle.um_machine.proofs.SameLemmas.{items}
use Rattle.um_base.specs.Exact.{exact-number}

pub returns : goal.returns
returns c h =
    let a = c.self.inside in
    let b = c.other.inside in
    let n = c.max-n.result in
    let most = c.max-n.ensures in
    let front = (items exact-number).same (take n c.deref.result.now) (take n c.deref-2.result.now) (sym c.eq.ensures ∙ h) in
    let known = ap (take n) (sym c.deref.ensures.value) ∙ front ∙ ap (take n) c.deref-2.ensures.value in
    sym c.self.view_is ∙ same-area a.bytes.items b.bytes.items 524288 n a.used b.used known c.self.invariant.2 c.other.invariant.2 (omega (arith, most)) (omega (arith, most)) ∙ c.other.view_is
