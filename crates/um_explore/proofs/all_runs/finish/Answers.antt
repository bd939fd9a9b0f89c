use Rattle.std.proofs.Common.{◌∷◌, ◌++◌, ◌∙◌, [], List, ap, append_assoc, subst, sym}
use Rattle.um_base.specs.declared.act.Event.{Event}
use Rattle.um_machine.specs.Run.{Runs}
use Rattle.um_machine.proofs.RunLemmas.{runs-push}
use Rattle.um_explore.proofs.all_runs.finish.Goals as goal

pub steps-preserved : goal.steps-preserved
steps-preserved c =
    let event = c.in-Some.event in
    let more = c.steps.invariant.more in
    record {
      run = λ s run. subst (λ (es : List Event). Runs s es c.apply.new.self) (sym c.in_ok-push.ensures) (runs-push s c.steps.run.items c.steps.state event c.apply.new.self (c.steps.invariant.run s run) c.in-Ok.ensures.ok);
      more = (more.0 ++ event ∷ [], c.in_ok-push.ensures ∙ ap (λ (es : List Event). es ++ event ∷ []) more.1 ∙ append_assoc c.args.run.now.items more.0 (event ∷ []));
    }
