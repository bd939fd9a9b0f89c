use Rattle.std.proofs.Common.{Bool, ap, ◌∙◌}
use Rattle.um_base.specs.declared.act.Act.{Act}
use Rattle.um_fine.specs.Heap.{heap_after}
use Rattle.um_fine.specs.Steps.{Exchange}
use Rattle.um_tables.proofs.heap.Heap.make.Goals as goal

pub returns-in-Buffer-clause-leaves : goal.returns-in-Buffer-clause-leaves
returns-in-Buffer-clause-leaves c =
    rw c.in-Buffer.is
    (c.buffer.ensures.leaves c.args.image.now
    ∙ ap (λ (fits : Bool). heap_after c.args.image.now c.args.self.now (Act.Buffer c.in-Buffer.size fits) (Exchange.charge c.args.charge)) c.buffer.ensures.said)
