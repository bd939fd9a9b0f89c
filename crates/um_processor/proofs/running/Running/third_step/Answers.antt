use Rattle.std.proofs.Common.{rules, ◌≡◌, ap}
use Rattle.std.specs.Box.{with_value}
use Rattle.um_fine.specs.Context.{Context}
use Rattle.um_processor.proofs.running.Running.third_step.Goals as goal

pub returns-in-Some-clause-same : goal.returns-in-Some-clause-same
returns-in-Some-clause-same c =
    let r = c.args.self.now in
    let same : c.third.new.self ≡ r.context.value = search rules in
    ap (λ (own : Context). record r { context = with_value r.context own }) same

pub returns-in-None-clause-same : goal.returns-in-None-clause-same
returns-in-None-clause-same c =
    let r = c.args.self.now in
    let same : c.third.new.self ≡ r.context.value = search rules in
    ap (λ (own : Context). record r { context = with_value r.context own }) same
