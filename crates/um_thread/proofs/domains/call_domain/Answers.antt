use Rattle.std.proofs.Common.{ap, ◌∙◌, subst}
use Rattle.um_words.specs.declared.fine.FineAct.{FineAct}
use Rattle.um_words.specs.DomainActs.{domain_act as act_of_word}
use Rattle.um_words.specs.Packed.{domain_in}
use Rattle.um_words.specs.Steps.{DomainStep}
use Rattle.um_thread.proofs.Edits.{domain-asked}
use Rattle.um_thread.proofs.domains.call_domain.Goals as goal

pub step_at-requires-clause-leaves : goal.step_at-requires-clause-leaves
step_at-requires-clause-leaves g c = let a = c.args.asked in
    subst (λ (act : FineAct). DomainStep a.seen act c.in-Some-step.next) (ap act_of_word c.act-act.ensures ∙ domain-asked a.by c.args.domain a.call (domain_in a.seen) c.requires.fits) c.in-Some-step.ensures
