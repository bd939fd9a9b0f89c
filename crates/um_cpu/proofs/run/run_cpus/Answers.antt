use Rattle.std.proofs.Common.{◌≡◌, ◌∙◌, ◌++◌, List, ap, arith, drop, length, length-append, take}
use Rattle.std.proofs.lemmas.List.{length-take}
use Rattle.um_steps.specs.Given.{IsGiven}
use Rattle.um_cpu.specs.declared.cpu.Cpu.{Cpu}
use Rattle.um_cpu.proofs.Gathers.{all-ended}
use Rattle.um_cpu.proofs.run.run_cpus.Goals as goal

pub run_all-requires-clause-given : goal.run_all-requires-clause-given
unfolding IsGiven
run_all-requires-clause-given g c κs within = c.requires.lawful

pub returns : goal.returns
returns g c =
    let it = c.gather-seat.ensures in
    let all = c.in_ok-all.all in
    let new = c.run_all.new.cpus in
    let rest : List Cpu = drop (length new) all.items in
    let same : length (take all.len (new ++ rest)) ≡ c.args.cpus = (
    let taken = length-take all.len (new ++ rest) in
    let long = length-append new rest in
    let count = c.run_all.ensures.count in
    let value = ap length c.as_mut_slice.ensures.value in
    let many = c.in_ok-all.ensures.count in
    omega (arith, taken, long, count, value, all.ok.0, many)
    ) in
    all-ended c.args.image.now c.gather-seat.result.token.me.0 (length (take all.len (new ++ rest))) c.args.cpus c.in-Ok.closed c.gather-seat.new.logs.items same c.requires.some c.in-Ok.ensures.closed.0 it.knows (c.in-Ok.ensures.sites.0 ∙ c.in_ok-board.ensures.seated.words) (c.in-Ok.ensures.sites.1 ∙ c.in_ok-board.ensures.slots)
    (c.in-Ok.ensures.cells it.knows.turn)
