use Rattle.std.proofs.Common.{◌≤◌, ◌+◌, length, ◌++◌, take, length-append, rules}
use Rattle.std.proofs.KnownBytes.{Consumes-trans}
use Rattle.um_io.proofs.reading.read_all.Goals as goal

pub returns-in_err-extend_from_slice-clause-memory : goal.returns-in_err-extend_from_slice-clause-memory
returns-in_err-extend_from_slice-clause-memory g c _ =
    let front = take c.in_ok-count.count c.read.new.into in
    let all = c.loop-piece.bytes.items ++ front in
    let short : length all ≤ c.args.limit + 1 = search (rules, length-append) in
    (all, short, Consumes-trans _ _ _ c.loop-piece.bytes.items front c.loop-piece.invariant.taken c.in_ok-count.ensures.bytes.0)
