use Rattle.std.proofs.Common.{◌≤◌, ◌+◌, ℕ, subst}
use Rattle.um_base.specs.declared.limits.TheConstants.{STATIC_ROWS}
use Rattle.um_invariants.specs.Described.{IsDescribed}
use Rattle.um_audit.specs.declared.verdict.Verdict.{Verdict}
use Rattle.um_audit.proofs.ProgressLemmas.{verdict-stuck}
use Rattle.um_audit.proofs.LawLemmas.{exact-of}
use Rattle.um_audit.proofs.auditing.audit.Goals as goal

pub returns-in-NoStep-clause-verdict : goal.returns-in-NoStep-clause-verdict
returns-in-NoStep-clause-verdict c =
    let stop = c.in-NoStep.ensures in verdict-stuck c.args.image.now c.args.text.now stop.0 c.in-NoStep.lines c.follow.new.matrix stop.1 stop.2

pub returns-in-NoStep-clause-exact : goal.returns-in-NoStep-clause-exact
returns-in-NoStep-clause-exact c =
    let given : IsDescribed c.args.image.now = record { lawful = c.requires.lawful; few = subst (λ (n : ℕ). n ≤ STATIC_ROWS) c.len-objects.ensures.value c.len-objects.ensures.few } in
    let stop = c.in-NoStep.ensures in
    exact-of c.args.image.now given c.args.text.now (Verdict.NoStep (c.in-NoStep.lines + 1)) (verdict-stuck c.args.image.now c.args.text.now stop.0 c.in-NoStep.lines c.follow.new.matrix stop.1 stop.2)

pub returns-clause-exact : goal.returns-clause-exact
returns-clause-exact c =
    let given : IsDescribed c.args.image.now = record { lawful = c.requires.lawful; few = subst (λ (n : ℕ). n ≤ STATIC_ROWS) c.len-objects.ensures.value c.len-objects.ensures.few } in
    let stop = c.in-Dump.ensures in exact-of c.args.image.now given c.args.text.now c.ended.result (c.ended.ensures c.args.text.now stop.0 stop.1)
