use Rattle.std.proofs.Common.{sym, ◌∙◌}
use Rattle.std.proofs.lemmas.Result.{err_from_is_err_and}
use Rattle.um_script.proofs.OptionLoop.{last_option, next_option, bad_option, many_options}
use Rattle.um_script.proofs.choices.some_options.Goals as goal

pub returns-in-None : goal.returns-in-None
returns-in-None c = c.option.ensures ∙ last_option c.loop.counter c.loop.set c.loop.rest.now _ c.loop-test.true (sym c.in-None.ensures) c.loop.invariant

pub returns-in_err-set-in-Some : goal.returns-in_err-set-in-Some
returns-in_err-set-in-Some c =
    let p = err_from_is_err_and c.from_residual.result c.from_residual.ensures.1 in
    rw (p.1, p.2) (bad_option c.loop.counter c.loop.set c.in_err-set-in-Some.field-0.0 c.loop.rest.now c.in-Some.first.now c.in-Some.others.now _ c.loop-test.true (sym c.in-Some.ensures) (sym c.in_err-set-in-Some.ensures) c.loop.invariant)

pub loop-preserved : goal.loop-preserved
loop-preserved c =
    next_option c.loop.counter c.loop.set _ c.loop.rest.now c.in-Some.first.now c.in-Some.others.now _ c.loop-test.true (sym c.in-Some.ensures) (sym c.in_ok-set-in-Some.ensures) c.loop.invariant

pub returns : goal.returns
returns c = many_options c.loop.counter c.loop.set c.loop.rest.now _ c.loop-test.false c.loop.invariant
