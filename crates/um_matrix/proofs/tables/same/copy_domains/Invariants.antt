use Rattle.std.proofs.Common.{◌≡◌, ◌≤◌, length, take, vec_capacity}
use Rattle.um_matrix.proofs.tables.same.copy_domains.Given as goal

abbrev pub invariant-loop-domain : goal.invariant-loop-domain
invariant-loop-domain l = record {
  items : l.copy.items ≡ take l.domain-index l.domains;
  room : length l.domains ≤ vec_capacity l.copy;
}
