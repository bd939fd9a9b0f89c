use Rattle.um_base.specs.declared.limits.TheConstants.{THREADS}
use Rattle.um_machine.proofs.ServingLemmas.{first_served, none_served}
use Rattle.um_machine.proofs.waiters.Waiters.take_first.Goals as goal

pub returns-in-Some : goal.returns-in-Some
returns-in-Some c =
    let first = rw (c.in-Some.is, c.as_slice-all.ensures.value) at c.first_place.ensures in
    let read = rw c.as_slice-all.ensures.value at c.index-all-i.is in
    let distinct = rw c.as_slice-all.ensures.value at c.as_slice-all.ensures.distinct in
    rw c.remove.ensures (first_served c.args.which THREADS c.args.self.now c.in-Some.i c.index-all-i.result distinct read first)

pub returns-in-None : goal.returns-in-None
returns-in-None c =
    let first = rw (c.in-None.is, c.as_slice-all.ensures.value) at c.first_place.ensures in
    none_served c.args.which c.args.self.now first
