use Rattle.std.proofs.Common.{arith, length, ap, ◌∙◌}
use Rattle.um_merge.specs.Logs.{Log}
use Rattle.um_merge.specs.declared.logged.Logged.{Logged}
use Rattle.um_merge.specs.declared.logged.Short.{Short}
use Rattle.um_merge.proofs.Told.{told-length, told-place}
use Rattle.um_merge.proofs.log.Log.place.Goals as goal

pub index-step-requires : goal.index-step-requires
index-step-requires c =
    let v = c.self.inside in
    let same = ap (λ (l : Log). length l.items) c.self.view_is in
    omega (arith, c.requires, v.steps.ok.0, same, told-length v.steps.items v.events.items)

pub returns-clause-site : goal.returns-clause-site
returns-clause-site c =
    let v = c.self.inside in
    let same = ap (λ (l : Log). l.items) c.self.view_is in
    ap (λ (s : Short). s.site) c.index-step.ensures ∙ ap (λ (x : Logged). x.site) (told-place v.steps.items v.events.items _ same c.args.at c.index-step.result.now c.requires)

pub returns-clause-number : goal.returns-clause-number
returns-clause-number c =
    let v = c.self.inside in
    let same = ap (λ (l : Log). l.items) c.self.view_is in
    ap (λ (s : Short). s.number) c.index-step.ensures ∙ ap (λ (x : Logged). x.number) (told-place v.steps.items v.events.items _ same c.args.at c.index-step.result.now c.requires)

pub returns-clause-small : goal.returns-clause-small
returns-clause-small c =
    let v = c.self.inside in
    let same = ap (λ (l : Log). length l.items) c.self.view_is in
    omega (arith, c.requires, v.steps.ok.0, v.steps.small, same, told-length v.steps.items v.events.items)
