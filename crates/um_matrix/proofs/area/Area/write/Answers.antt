use Rattle.std.proofs.Common.{ℕ, List, ap, ◌∙◌, arith}
use Rattle.um_machine.specs.Memory.{put_bytes}
use Rattle.um_matrix.proofs.AreaLemmas.{area-put}
use Rattle.um_matrix.proofs.area.Area.write.Goals as goal

pub invariant_of-self : goal.invariant_of-self
invariant_of-self c =
    let area = c.self.inside in
    let xs = area.bytes.items in
    let bytes = c.args.bytes.now in
    let known = c.self.invariant in
    let least = c.min.ensures in
    let most = c.max-self-inside.ensures in
    area-put xs bytes c.write.new.memory c.args.i area.bytes.len area.used c.max-self-inside.result 524288 (omega (arith, area.bytes.ok.0)) known.0 known.1 known.2
    (c.write.ensures ∙ ap (λ (l : List ℕ). put_bytes l c.args.i bytes) c.deref_mut.ensures.value) (omega (arith, least, most))
