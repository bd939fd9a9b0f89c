use Rattle.std.proofs.Common.{◌≡◌, map, subst}
use Rattle.um_base.specs.Lawful.{most_parts}
use Rattle.um_machine.specs.Domains.{initialised, part_named}
use Rattle.um_machine.specs.State.{State}
use Rattle.um_machine.specs.Table.{domain_at}
use Rattle.um_matrix.proofs.tables.Tables.initialised.Goals as goal

pub returns : goal.returns
returns c =
    subst (λ (s : State). c.initialised.result ≡ initialised s.image.mpu (most_parts s.image) (domain_at c.args.self.now c.args.domain) (map (part_named s.image) c.args.parts.now))
    c.self.view_is
    (rw c.as_slice.ensures.value at (rw c.domain_at.ensures at c.initialised.ensures))
