use Rattle.std.proofs.Common.{◌≡◌, ◌∙◌, sym, true, false}
use Rattle.um_audit.specs.Parts.{is_between}
use Rattle.um_audit.proofs.AlikeLemmas.{tells-none}
use Rattle.um_audit.proofs.DivisionLemmas.{at-line, at-end, behind-more}
use Rattle.um_audit.proofs.parts.parts_of.Goals as goal

pub returns-then-is_between-clause-description : goal.returns-then-is_between-clause-description
returns-then-is_between-clause-description c =
    let piece = c.first_line.ensures.line.piece in
    let between : is_between piece ≡ true = sym (c.is_between.ensures piece c.first_line.ensures.line.is) ∙ c.if-is_between.true in
    (at-line c.args.input.now c.loop-rest.rest.now c.first_line.result.1.now piece c.loop-rest.invariant c.first_line.ensures.line.first between).0

pub returns-then-is_between-clause-trace : goal.returns-then-is_between-clause-trace
returns-then-is_between-clause-trace c =
    let piece = c.first_line.ensures.line.piece in
    let between : is_between piece ≡ true = sym (c.is_between.ensures piece c.first_line.ensures.line.is) ∙ c.if-is_between.true in
    (at-line c.args.input.now c.loop-rest.rest.now c.first_line.result.1.now piece c.loop-rest.invariant c.first_line.ensures.line.first between).1

pub loop-rest-preserved : goal.loop-rest-preserved
loop-rest-preserved c =
    let piece = c.first_line.ensures.line.piece in
    let plain : is_between piece ≡ false = sym (c.is_between.ensures piece c.first_line.ensures.line.is) ∙ c.if-is_between.false in
    behind-more c.args.input.now c.loop-rest.rest.now c.first_line.result.1.now piece c.loop-rest.invariant c.first_line.ensures.line.first plain

pub returns-clause-description : goal.returns-clause-description
returns-clause-description c = (at-end c.args.input.now c.loop-rest.rest.now c.loop-rest.invariant (tells-none _ _ c.is_empty.ensures c.loop-rest-test.false)).0

pub returns-clause-none : goal.returns-clause-none
returns-clause-none c = (at-end c.args.input.now c.loop-rest.rest.now c.loop-rest.invariant (tells-none _ _ c.is_empty.ensures c.loop-rest-test.false)).1
