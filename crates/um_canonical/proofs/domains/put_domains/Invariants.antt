use Rattle.std.proofs.Common.{◌≡◌, ◌++◌, take}
use Rattle.std.specs.List.{flat_map}
use Rattle.um_canonical.specs.Pieces.{domain_text}
use Rattle.um_canonical.proofs.domains.put_domains.Given as goal

abbrev pub invariant-loop-domain : goal.invariant-loop-domain
invariant-loop-domain l = l.text.items ≡ l.fn.text.items ++ flat_map (domain_text l.partitions) (take l.domain-index l.domains)
