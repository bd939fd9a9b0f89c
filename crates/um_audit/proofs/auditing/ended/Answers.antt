use Rattle.std.proofs.Common.{ap, subst, ◌∙◌, List, ℕ}
use Rattle.um_machine.specs.State.{State}
use Rattle.um_trace.specs.Dump.{dump}
use Rattle.um_audit.specs.Lines.{pieces}
use Rattle.um_audit.specs.Verdict.{DiffersAt}
use Rattle.um_audit.proofs.ProgressLemmas.{not-final, verdict-open, verdict-yes, verdict-dump}
use Rattle.um_audit.proofs.auditing.ended.Goals as goal

pub returns-then-not-is_final : goal.returns-then-not-is_final
returns-then-not-is_final c = λ text at begins.
    verdict-open c.args.image.now text c.args.rest.now c.args.lines c.args.matrix.now at begins (not-final c.args.matrix.now (c.is_final.ensures.no c.if-not-is_final.true))

pub returns-in-None : goal.returns-in-None
returns-in-None c = λ text at begins.
    verdict-yes c.args.image.now text c.args.rest.now c.args.lines c.args.matrix.now at begins (c.is_final.ensures.yes c.if-not-is_final.false)
    (c.in-None.ensures.same ∙ ap pieces (c.deref.ensures.value ∙ c.dump_text.ensures ∙ ap (λ (s : State). dump c.args.image.now s) c.tables.ensures))

pub returns-in-Some : goal.returns-in-Some
returns-in-Some c = λ text at begins.
    verdict-dump c.args.image.now text c.args.rest.now c.args.lines c.in-Some.more c.args.matrix.now at begins (c.is_final.ensures.yes c.if-not-is_final.false)
    (subst (λ (bytes : List ℕ). DiffersAt (pieces c.args.rest.now) (pieces bytes) c.in-Some.more) (c.deref.ensures.value ∙ c.dump_text.ensures ∙ ap (λ (s : State). dump c.args.image.now s) c.tables.ensures) c.in-Some.ensures.differs)
