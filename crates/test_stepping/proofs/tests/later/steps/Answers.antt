use Rattle.std.proofs.Common.{◌∙◌, ap, length}
use Rattle.std.proofs.lemmas.List.{length-set}
use Rattle.um_steps.specs.Given.{IsGiven}
use Rattle.test_stepping.proofs.tests.later.steps.Goals as goal

pub step-requires-clause-given : goal.step-requires-clause-given
unfolding IsGiven
step-requires-clause-given c = c.requires.lawful

pub loop-made-preserved : goal.loop-made-preserved
loop-made-preserved c =
    let steps = c.step.ensures.steps c.if-not-step.false in
    record {
      rodata = c.step.ensures.rodata;
      three = ap length steps.makes.leaves ∙ (length-set _ _ _ ∙ c.loop-made.invariant.three);
    }
