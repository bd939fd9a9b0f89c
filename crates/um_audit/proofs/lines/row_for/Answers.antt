use Rattle.std.proofs.Common.{IsTrue, ℕ, arith}
use Rattle.um_matrix.proofs.OfferLemmas.{below-next}
use Rattle.um_audit.specs.Steps.{SaysLine}
use Rattle.um_audit.proofs.StepLemmas.{rows-say}
use Rattle.um_audit.proofs.lines.row_for.Goals as goal

pub loop-x-preserved : goal.loop-x-preserved
loop-x-preserved c =
    let room = c.loop-x.invariant.room in
    let more = c.loop-x.invariant.more in
    let grows = c.says_line.ensures.capacity in
    record {
      room = omega (arith, room, grows);
      more = omega (arith, more, grows);
      none =
          below-next (λ (x : ℕ). SaysLine c.args.image.now c.args.line.now c.args.tables.now c.args.t c.args.step.now x → ⊥) c.loop-x.x c.loop-x.invariant.none
          (λ says. let yes : IsTrue c.says_line.result = c.says_line.ensures.says.1 says in let no = c.if-says_line.false in cc);
    }

pub returns-clause-none : goal.returns-clause-none
returns-clause-none c =
    rows-say c.args.image.now c.args.line.now c.args.tables.now c.args.t c.args.step.now c.row_count-x-end.ensures.objects c.row_count-x-end.ensures.pairs (λ x below. c.loop-x.invariant.none x (omega arith))
