use Rattle.std.proofs.Common.{◌≡◌, ◌∷◌, drop, false, sym, ap, subst, ◌∙◌}
use Rattle.um_machine.specs.declared.pending.Pending.TheVariants as Pending
use Rattle.um_fine.specs.Context.{Context}
use Rattle.um_processor.specs.declared.phase.Phase.{Phase}
use Rattle.um_processor.specs.Processors.{processor_of}
use Rattle.um_processor.proofs.Expanded.{direct-goes}
use Rattle.um_processor.proofs.running.Running.expands.Goals as goal

pub returns-in-Some-direct_phase : goal.returns-in-Some-direct_phase
returns-in-Some-direct_phase c =
    let r = c.args.self.now in
    let image = c.args.image.now in
    let step = c.in-Some.step in
    let steps = subst (λ (own : Context). own.pending ≡ step ∷ drop 1 own.pending) c.deref.ensures c.in-Some.ensures.step in
    let direct = c.in-Some-direct_phase.ensures in
    ap (λ (phase : Phase). processor_of (record r { visited = false; phase = phase })) (sym (direct.1 image r.context.value))
    ∙ direct-goes image r _ step steps direct.0
