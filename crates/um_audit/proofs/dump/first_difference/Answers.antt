use Rattle.um_audit.proofs.AlikeLemmas.{alike-later, alike-differs, alike-ends, head-apart, ends-apart, ends-apart-other, tells-none, tells-some, tells-same, tells-apart}
use Rattle.um_audit.proofs.dump.first_difference.Goals as goal

pub returns-then-is_empty-clause-differs : goal.returns-then-is_empty-clause-differs
returns-then-is_empty-clause-differs c =
    alike-differs c.args.text.now c.args.other.now c.loop-rest.rest.now c.loop-rest.others.now c.loop-rest.lines c.loop-rest.invariant
    (ends-apart-other c.loop-rest.rest.now c.loop-rest.others.now (tells-some _ _ c.is_empty.ensures c.loop-rest-test.true) (tells-none _ _ c.is_empty-in-loop-rest.ensures c.if-is_empty.true))

pub returns-then-ne-clause-differs : goal.returns-then-ne-clause-differs
returns-then-ne-clause-differs c =
    alike-differs c.args.text.now c.args.other.now c.loop-rest.rest.now c.loop-rest.others.now c.loop-rest.lines c.loop-rest.invariant
    (head-apart _ _ _ _ _ _ c.first_piece.ensures.piece c.first_piece-in-loop-rest.ensures.piece (tells-apart _ _ _ c.ne.ensures c.if-ne.true))

pub loop-rest-preserved : goal.loop-rest-preserved
loop-rest-preserved c =
    alike-later _ _ _ _ _ _ _ _ _ c.loop-rest.invariant c.first_piece.ensures.piece c.first_piece-in-loop-rest.ensures.piece c.first_piece.ensures.shorter (tells-same _ _ _ c.ne.ensures c.if-ne.false)

pub returns-else-is_empty-2-clause-differs : goal.returns-else-is_empty-2-clause-differs
returns-else-is_empty-2-clause-differs c =
    alike-differs c.args.text.now c.args.other.now c.loop-rest.rest.now c.loop-rest.others.now c.loop-rest.lines c.loop-rest.invariant
    (ends-apart c.loop-rest.rest.now c.loop-rest.others.now (tells-none _ _ c.is_empty.ensures c.loop-rest-test.false) (tells-some _ _ c.is_empty-2.ensures c.if-is_empty-2.false))

pub returns-then-is_empty-2-clause-same : goal.returns-then-is_empty-2-clause-same
returns-then-is_empty-2-clause-same c =
    alike-ends _ _ _ _ _ c.loop-rest.invariant (tells-none _ _ c.is_empty.ensures c.loop-rest-test.false) (tells-none _ _ c.is_empty-2.ensures c.if-is_empty-2.true)
