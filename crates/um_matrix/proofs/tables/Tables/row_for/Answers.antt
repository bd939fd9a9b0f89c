use Rattle.std.proofs.Common.{◌≡◌, ◌∙◌, sym, ℕ, IsTrue, arith}
use Rattle.um_machine.specs.Table.{act_of}
use Rattle.um_machine.specs.Run.{MayChoose}
use Rattle.um_matrix.proofs.OfferLemmas.{below-next, rows-say}
use Rattle.um_matrix.proofs.tables.Tables.row_for.Goals as goal
use Rattle.um_matrix.proofs.tables.Tables.row_for.Goals.{else-may_choose-via-then-may_choose+else-same_act, else-may_choose-via-else-may_choose}

pub loop-x-preserved : goal.loop-x-preserved
loop-x-preserved c =
    let s = c.args.self.now in
    below-next (λ (x : ℕ). MayChoose s c.args.t x c.args.step.now → c.args.act.now ≡ act_of s c.args.t x c.args.step.now → ⊥) c.loop-x.x c.loop-x.invariant
    (λ may says. elim c.else-may_choose.branch [
      | else-may_choose-via-then-may_choose+else-same_act w ↦ let yes : IsTrue w.same_act.result = w.same_act.ensures.1 (says ∙ sym w.says.ensures) in let no = w.if-same_act.false in cc
      | else-may_choose-via-else-may_choose w ↦ let yes : IsTrue c.may_choose.result = c.may_choose.ensures.1 may in let no = w.if-may_choose.false in cc
    ])

pub returns-clause-none : goal.returns-clause-none
returns-clause-none c =
    rows-say c.args.self.now c.args.t c.args.act.now c.args.step.now c.row_count-x-end.ensures.objects c.row_count-x-end.ensures.pairs (λ x below. c.loop-x.invariant x (omega arith))
