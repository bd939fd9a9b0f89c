use Rattle.std.proofs.Common.{rules}
use Rattle.um_description.specs.Limits.{pool_limits, partition_limits, domain_limits, boot_limits, script_limits, futex_limits}
use Rattle.um_description.proofs.Firsts.{or_two}
use Rattle.um_description.proofs.limits.first_limit.Goals as goal

pub returns : goal.returns
returns c =
    let pools = c.first_found.ensures pool_limits (λ i entry found is. search rules) in
    let partitions = c.first_found-2.ensures partition_limits (λ i entry found is. search rules) in
    let domains = c.first_found-domains.ensures (domain_limits c.most_parts-most.result) (λ i entry found is. search rules) in
    let boots = c.first_found-3.ensures boot_limits (λ i entry found is. search rules) in
    let scripts = c.first_found-4.ensures script_limits (λ i entry found is. search rules) in
    let futexes = c.first_found-futexes.ensures (futex_limits c.as_slice-partitions.result.now) (λ i entry found is. search rules) in
    let top = or_two _ _ c.top_limit.ensures (rw (← c.as_slice-3.ensures) pools) c.or.ensures in
    let with_partitions = or_two _ _ top (rw (← c.as_slice-4.ensures) partitions) c.or-2.ensures in
    let with_domains = or_two _ _ with_partitions (rw (← c.as_slice.ensures, ← c.most_parts-most.ensures.value) domains) c.or-3.ensures in
    let with_objects = or_two _ _ with_domains (rw (← c.as_slice-5.ensures) c.object_limits.ensures) c.or-4.ensures in
    let with_boots = or_two _ _ with_objects (rw (← c.as_slice-6.ensures) boots) c.or-5.ensures in
    let with_scripts = or_two _ _ with_boots (rw (← c.as_slice-7.ensures) scripts) c.or-6.ensures in
    or_two _ _ with_scripts (rw (c.as_slice-partitions.ensures, c.as_slice-2.ensures) at futexes) c.or-7.ensures
