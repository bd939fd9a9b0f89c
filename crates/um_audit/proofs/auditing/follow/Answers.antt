use Rattle.std.proofs.Common.{◌≡◌, sym, ◌∙◌, subst, arith, List, ℕ, false}
use Rattle.um_audit.specs.Lines.{is_dump}
use Rattle.um_audit.specs.Steps.{IsStepLine, IsNoStepLine}
use Rattle.um_audit.proofs.AlikeLemmas.{pieces-none, tells-none}
use Rattle.um_audit.proofs.ProgressLemmas.{at-next, stuck-at, stuck-end}
use Rattle.um_audit.proofs.auditing.follow.Goals as goal

pub loop-rest-preserved : goal.loop-rest-preserved
loop-rest-preserved c =
    let piece = c.first_line.ensures.line.piece in
    let plain : is_dump piece ≡ false = sym (c.is_dump.ensures piece c.first_line.ensures.line.is) ∙ c.if-is_dump.false in
    let step = subst (λ (line : List ℕ). IsStepLine c.args.image.now line c.loop-rest.matrix c.takes_line.new.matrix) c.first_line.ensures.line.is (c.takes_line.ensures.yes c.if-not-takes_line.false) in
    let room = c.loop-rest.invariant.room in
    let grows = c.takes_line.ensures.capacity in
    record {
      room = omega (arith, room, grows);
      at =
          at-next c.args.image.now c.args.text.now c.loop-rest.rest.now c.first_line.result.1.now c.loop-rest.lines piece c.loop-rest.matrix c.takes_line.new.matrix c.loop-rest.invariant.at c.first_line.ensures.line.first
          c.first_line.ensures.shorter plain step;
    }

pub returns-then-not-takes_line : goal.returns-then-not-takes_line
returns-then-not-takes_line c =
    let piece = c.first_line.ensures.line.piece in
    let plain : is_dump piece ≡ false = sym (c.is_dump.ensures piece c.first_line.ensures.line.is) ∙ c.if-is_dump.false in
    let none = subst (λ (line : List ℕ). IsNoStepLine c.args.image.now line c.loop-rest.matrix) c.first_line.ensures.line.is (c.takes_line.ensures.no c.if-not-takes_line.true) in
    stuck-at c.args.image.now c.args.text.now c.loop-rest.rest.now c.loop-rest.lines piece _ c.loop-rest.matrix c.takes_line.new.matrix (c.takes_line.ensures.same c.if-not-takes_line.true) c.loop-rest.invariant.at
    c.first_line.ensures.line.first plain none

pub returns : goal.returns
returns c =
    stuck-end c.args.image.now c.args.text.now c.loop-rest.rest.now c.loop-rest.lines c.loop-rest.matrix c.loop-rest.invariant.at
    (pieces-none c.loop-rest.rest.now (tells-none _ _ c.is_empty.ensures c.loop-rest-test.false))
