use Rattle.std.proofs.Common.{◌≡◌, ◌∙◌, ◌-◌, false, length, take, drop, ap, arith, length-drop}
use Rattle.std.specs.Prelude.{◌==◌}
use Rattle.std.proofs.lemmas.Bool.Decides.{nat_tests}
use Rattle.std.proofs.lemmas.List.{length-take}
use Rattle.um_machine.specs.declared.served.Served.TheVariants as Served
use Rattle.um_machine.specs.Services.{is_empty}
use Rattle.um_service.specs.Preview.{queue_of, shares}
use Rattle.um_service.proofs.PipeLemmas.{empty-length}
use Rattle.um_service.proofs.PreviewLemmas.{read-says}
use Rattle.um_service.proofs.pipe.says_read.Goals as goal

pub returns-then-there-gt0 : goal.returns-then-there-gt0
returns-then-there-gt0 c who =
    let pipe = c.args.pipe.now in
    let n = c.args.n in
    let some : (n == 0) ≡ false = grind (arith, nat_tests) in
    let long : (length pipe.bytes == 0) ≡ false = grind (arith, nat_tests) in
    let there : is_empty pipe.bytes ≡ false = empty-length pipe.bytes ∙ long in
    let taken : c.min-taken.result ≡ length (take n pipe.bytes) = omega (arith, length-take n pipe.bytes) in
    let room : c.saturating_sub.result ≡ pipe.size - length (drop n pipe.bytes) = omega (arith, length-drop n pipe.bytes) in
    read-says pipe.size pipe.bytes pipe.closed c.args.waiters.now who n c.args.timeout c.min-taken.result c.shares.result some there taken
    (c.shares.ensures ∙ ap (shares (queue_of Served.Writers c.args.waiters.now)) room)
