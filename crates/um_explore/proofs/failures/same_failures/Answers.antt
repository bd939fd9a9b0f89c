use Rattle.std.proofs.Common.{◌∙◌, sym}
use Rattle.um_base.specs.Exact.{IsExact, ◌&◌, ◌⊕◌, exact-bare, exact-enum, exact-number, exact-option, exact-end as none, exact-last as last, exact-done as done}
use Rattle.um_base.specs.Equality.{exact-errno}
use Rattle.um_base.specs.contracts.act.Cause as cause_type
use Rattle.um_base.specs.contracts.act.CausePartialEq.TheImpl as cause_equality
use Rattle.um_machine.proofs.SameLemmas.{items}
use Rattle.um_explore.specs.contracts.failures.FailurePartialEq.TheImpl as failure_equality
use Rattle.um_explore.proofs.failures.same_failures.Goals as goal

cause : IsExact cause_equality.ghosts.eq
cause = exact-enum cause_type.enum (last exact-errno ⊕ none ⊕ none ⊕ none ⊕ none ⊕ none ⊕ none ⊕ none ⊕ none ⊕ none ⊕ done)

failure : IsExact failure_equality.ghosts.eq
failure =
    let both = exact-number & cause in
    record {
      same = λ x y h i. let p = both.same (x.reason, x.cause) (y.reason, y.cause) h i in record { reason = p.0; cause = p.1 };
      itself = λ x. both.itself (x.reason, x.cause);
    }

pub returns : goal.returns
returns c h = (items (exact-option failure)).same _ _ (sym c.eq.ensures ∙ h)
