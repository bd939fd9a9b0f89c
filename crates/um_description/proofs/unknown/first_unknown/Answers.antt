use Rattle.std.proofs.Common.{rules}
use Rattle.um_description.specs.Unknown.{unknown_in_domain, unknown_in_boot, unknown_in_futex}
use Rattle.um_description.proofs.Firsts.{or_two}
use Rattle.um_description.proofs.unknown.first_unknown.Goals as goal

pub returns : goal.returns
returns c =
    let domains = c.first_found-found.ensures (unknown_in_domain c.args.d.now) (λ i entry found is. search rules) in
    let boots = c.first_found-in_boots.ensures (unknown_in_boot c.args.d.now) (λ i entry found is. search rules) in
    let futexes = c.first_found-in_futexes.ensures (unknown_in_futex c.args.d.now) (λ i entry found is. search rules) in
    or_two _ _ (or_two _ _ (rw c.as_slice-domains.ensures at domains) (rw c.as_slice-boots.ensures at boots) c.or.ensures) (rw c.as_slice-futexes.ensures at futexes) c.or-2.ensures
