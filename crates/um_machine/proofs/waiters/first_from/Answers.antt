use Rattle.std.proofs.Common.{◌≡◌, true, false}
use Rattle.std.specs.Prelude.{int_lt}
use Rattle.um_machine.specs.Serving.{serves}
use Rattle.um_machine.proofs.ServingLemmas.{first_alone, first_behind, first_before}
use Rattle.um_machine.proofs.waiters.first_from.Goals as goal

pub returns-then-is_before : goal.returns-then-is_before
returns-then-is_before c =
    let passes : serves c.args.which c.index-all-i.result ≡ true = cc in
    let lesser : int_lt c.index-all-j.result.priority c.index-all-i.result.priority ≡ true = cc in
    first_behind (serves c.args.which) c.args.all.now c.args.i c.in-Some.j c.index-all-i.result c.index-all-j.result c.requires.here c.index-all-i.is passes c.index-all-j.is lesser (rw c.in-Some.is at c.requires.there)

pub returns-else-is_before : goal.returns-else-is_before
returns-else-is_before c =
    let passes : serves c.args.which c.index-all-i.result ≡ true = cc in
    let lesser : int_lt c.index-all-j.result.priority c.index-all-i.result.priority ≡ false = cc in
    first_before (serves c.args.which) c.args.all.now c.args.i c.in-Some.j c.index-all-i.result c.index-all-j.result c.requires.here c.index-all-i.is passes c.index-all-j.is lesser (rw c.in-Some.is at c.requires.there)

pub returns-in-None : goal.returns-in-None
returns-in-None c =
    let passes : serves c.args.which c.index-all-i.result ≡ true = cc in
    first_alone (serves c.args.which) c.args.all.now c.args.i c.index-all-i.result c.requires.here c.index-all-i.is passes (rw c.in-None.is at c.requires.there)
