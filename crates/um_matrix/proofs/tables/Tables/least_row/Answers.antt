use Rattle.std.proofs.Common.{ℕ, IsTrue, arith}
use Rattle.um_machine.specs.Run.{MayChoose}
use Rattle.um_matrix.proofs.OfferLemmas.{below-next, rows-choose}
use Rattle.um_matrix.proofs.tables.Tables.least_row.Goals as goal

pub loop-x-preserved : goal.loop-x-preserved
loop-x-preserved c =
    let s = c.args.self.now in
    below-next (λ (x : ℕ). MayChoose s c.args.t x c.args.step.now → ⊥) c.loop-x.x c.loop-x.invariant
    (λ may. let yes : IsTrue c.may_choose.result = c.may_choose.ensures.1 may in let no = c.if-may_choose.false in cc)

pub returns-clause-none : goal.returns-clause-none
returns-clause-none c =
    rows-choose c.args.self.now c.args.t c.args.step.now c.row_count-x-end.ensures.objects c.row_count-x-end.ensures.pairs (λ x below. c.loop-x.invariant x (omega arith))
