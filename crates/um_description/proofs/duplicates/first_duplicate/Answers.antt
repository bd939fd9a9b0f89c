use Rattle.std.proofs.Common.{Ok, ap}
use Rattle.um_description.proofs.DuplicateLemmas.{duplicates_found}
use Rattle.um_description.proofs.duplicates.first_duplicate.Goals as goal

pub returns : goal.returns
returns c =
    rw (c.or-6.ensures, c.or-5.ensures, c.or-4.ensures, c.or-3.ensures, c.or-2.ensures, c.or.ensures)
    (duplicates_found c.args.d.now c.new-seen.result c.pools_again.new.seen c.partitions_again.new.seen c.domain_again.new.seen c.objects_again.new.seen c.scripts_again.new.seen
    c.in_ok-pools.pools c.in_ok-partitions.partitions c.in_ok-domains.domains c.in_ok-objects.objects c.in_ok-boots.boots c.in_ok-scripts.scripts c.in_ok-futexes.futexes c.new-seen.ensures
    (rw (← c.as_slice.ensures) c.in_ok-pools.ensures.found) (λ n. rw (← c.as_slice.ensures) (c.in_ok-pools.ensures.added (ap Ok n)))
    (rw (← c.as_slice-2.ensures) c.in_ok-partitions.ensures.found) (λ n. rw (← c.as_slice-2.ensures) (c.in_ok-partitions.ensures.added (ap Ok n)))
    (rw (← c.as_slice-3.ensures) c.in_ok-domains.ensures.found) (λ n. rw (← c.as_slice-3.ensures) (c.in_ok-domains.ensures.added (ap Ok n)))
    (rw (← c.as_slice-4.ensures) c.in_ok-objects.ensures.found) (λ n. rw (← c.as_slice-4.ensures) (c.in_ok-objects.ensures.added (ap Ok n)))
    (rw (← c.as_slice-5.ensures) c.in_ok-boots.ensures)
    (rw (← c.as_slice-6.ensures) c.in_ok-scripts.ensures.found) (λ n. rw (← c.as_slice-6.ensures) (c.in_ok-scripts.ensures.added (ap Ok n)))
    (rw (← c.as_slice-7.ensures) c.in_ok-futexes.ensures))
