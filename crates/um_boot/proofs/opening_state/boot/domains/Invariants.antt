use Rattle.std.proofs.Common.{◌≡◌, map, take}
use Rattle.um_base.specs.declared.image.DomainDef.{DomainDef}
use Rattle.um_machine.specs.Run.{parts_of}
use Rattle.um_boot.proofs.opening_state.boot.domains.Given as goal

abbrev pub invariant-loop-domain : goal.invariant-loop-domain
invariant-loop-domain l = l.all.items ≡ map (λ (d : DomainDef). parts_of l.image d.parts) (take l.domain-index l.domain-items)
