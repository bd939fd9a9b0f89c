use Rattle.std.proofs.Common.{ℕ, ◌≤◌, subst}
use Rattle.std.proofs.lemmas.Result.{IfOk-weaker}
use Rattle.um_base.specs.declared.limits.TheConstants.{STATIC_ROWS}
use Rattle.um_core.specs.Ended.{HasEnded}
use Rattle.um_invariants.specs.Described.{IsDescribed}
use Rattle.um_app.specs.Ended.{IsEnded}
use Rattle.um_app.proofs.RunsOf.{ended}
use Rattle.um_app.proofs.sim.ran.Goals as goal

pub returns : goal.returns
returns c =
    let image = c.args.image.now in
    let options = c.args.options in
    let given : IsDescribed image = record { lawful = c.requires.lawful; few = subst (λ (n : ℕ). n ≤ STATIC_ROWS) c.len-objects.ensures.value c.len-objects.ensures.few } in
    IfOk-weaker c.run.result (λ sites. HasEnded image options.cpus options.pick sites) (λ sites. IsEnded image options sites)
    (λ sites end. ended image options c.requires.cpus.0 given (λ steps. c.one_order.ensures image steps given) (λ pick steps. c.one_whole.ensures.picked image pick steps) sites end)
    c.run.ensures
