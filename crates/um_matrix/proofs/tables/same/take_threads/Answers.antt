use Rattle.std.proofs.Common.{arith, ◌∙◌}
use Rattle.std.proofs.lemmas.List.{same_lists}
use Rattle.um_matrix.proofs.tables.same.take_threads.Goals as goal

pub returns : goal.returns
returns c =
    let long = c.loop-t.invariant.long ∙ c.requires in
    same_lists c.loop-t.own c.args.other.now long (λ k d below. c.loop-t.invariant.same k (omega (arith, c.loop-t-test.false, below, long)) d)
