use Rattle.std.proofs.Common.{◌≡◌, ℕ, ◌+◌, ◌-◌, ◌<◌, ap, sym, ◌∙◌, length, arith, take, drop, reverse}
use Rattle.um_machine.specs.declared.pending.Pending.TheVariants as Pending
use Rattle.um_machine.proofs.StepLemmas.{front_more}
use Rattle.um_machine.proofs.pending.Pendings.pop.Goals as goal

pub returns-then-self-gt0 : goal.returns-then-self-gt0
returns-then-self-gt0 c =
    let items = c.self.inside.items in
    let n = c.self.inside.len - 1 in
    let inside : n < length items = omega arith in
    let one_more : c.self.inside.len ≡ n + 1 = omega arith in
    ap (drop 1) (sym (ap (λ (k : ℕ). reverse (take k items)) one_more ∙ front_more items n Pending.Resume inside) ∙ c.self.view_is)
