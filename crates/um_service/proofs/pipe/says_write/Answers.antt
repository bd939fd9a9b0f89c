use Rattle.std.proofs.Common.{◌≡◌, ◌∙◌, ◌+◌, ◌-◌, ◌++◌, false, length, take, ap, arith, length-append}
use Rattle.std.specs.Prelude.{◌==◌, nat_le}
use Rattle.std.proofs.lemmas.Bool.Decides.{nat_tests}
use Rattle.std.proofs.lemmas.List.{length-take}
use Rattle.um_machine.specs.declared.served.Served.TheVariants as Served
use Rattle.um_service.specs.Preview.{queue_of, shares}
use Rattle.um_service.proofs.PreviewLemmas.{write-says}
use Rattle.um_service.proofs.pipe.says_write.Goals as goal

pub returns : goal.returns
returns c who =
    let pipe = c.args.pipe.now in
    let n = c.args.n in
    let given = c.args.given.now in
    let bytes = take (pipe.size - length pipe.bytes) given in
    let some : (n == 0) ≡ false = grind (arith, nat_tests) in
    let opened : pipe.closed ≡ false = cc in
    let room : nat_le pipe.size (length pipe.bytes) ≡ false = grind (arith, nat_tests) in
    let put : c.min-put.result ≡ length bytes = omega (arith, length-take (pipe.size - length pipe.bytes) given) in
    let there : c.len-there.result + c.min-put.result ≡ length (pipe.bytes ++ bytes) = omega (arith, length-append pipe.bytes bytes) in
    write-says pipe.size pipe.bytes pipe.closed c.args.waiters.now who n given c.args.timeout c.min-put.result c.shares.result some opened room put
    (c.shares.ensures ∙ ap (shares (queue_of Served.Readers c.args.waiters.now)) there)
