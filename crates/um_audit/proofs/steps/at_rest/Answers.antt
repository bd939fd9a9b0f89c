use Rattle.std.proofs.Common.{subst, sym}
use Rattle.um_matrix.specs.declared.tables.choice.Choice.{Choice}
use Rattle.um_audit.specs.Steps.{IsLineChoice}
use Rattle.um_audit.proofs.StepLemmas.{rest-line, rest-line-choice}
use Rattle.um_audit.proofs.steps.at_rest.Goals as goal

pub returns-then-not-is_line-clause-none : goal.returns-then-not-is_line-clause-none
returns-then-not-is_line-clause-none c =
    rest-line c.args.image.now c.args.line.now c.args.tables.now c.args.t c.in-Some.act (sym c.in-Some.ensures) (λ is. let yes_it_is = c.is_line.ensures.is.1 is in let no_it_is_not = c.if-not-is_line.true in cc)

pub returns-clause-some : goal.returns-clause-some
returns-clause-some c =
    subst (λ (choice : Choice). IsLineChoice c.args.image.now c.args.line.now c.args.tables.now c.args.t choice) (sym c.at_rest.ensures)
    (rest-line-choice c.args.image.now c.args.line.now c.args.tables.now c.args.t c.in-Some.act c.requires.rest (sym c.in-Some.ensures) (c.is_line.ensures.is.0 c.if-not-is_line.false))
