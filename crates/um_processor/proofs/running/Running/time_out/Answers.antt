use Rattle.std.proofs.Common.{◌≡◌, ℕ, Bool, Some, ◌++◌, ◌∷◌, [], sym, ap, ◌∙◌}
use Rattle.um_service.specs.declared.outcome.Outcome.{Outcome}
use Rattle.um_processor.specs.declared.phase.Phase.{Phase}
use Rattle.um_processor.specs.declared.running.Running.{Running}
use Rattle.um_processor.specs.Processors.{in_phase}
use Rattle.um_processor.proofs.Looked.{paying, timed-goes, woken_late}
use Rattle.um_processor.proofs.running.Running.time_out.Goals.{then-found, else-found}
use Rattle.um_processor.proofs.running.Running.time_out.Goals as goal

pub returns-clause-turn : goal.returns-clause-turn
returns-clause-turn g c =
    let h = c.in-Made.ensures.said in
    let image = c.args.here.now.image.now in
    let cpu = c.args.here.now.cpu in
    let r = c.args.self.now in
    let left : record c.if-found.self { phase = Phase.Paid } ≡ paying image cpu r c.in-Made.said r =
    elim c.if-found.branch [
      | then-found w ↦ ap (λ (q : Running). record q { phase = Phase.Paid }) w.self-is ∙ (ap (λ (t : ℕ). record r { actor = Some t; phase = Phase.Paid }) c.actor-thread.ensures ∙ ap (λ (b : Bool). paying image cpu r b r) (sym w.if-found.true))
      | else-found w ↦ ap (λ (q : Running). record q { phase = Phase.Paid }) w.self-is ∙ ap (λ (b : Bool). paying image cpu r b r) (sym w.if-found.false)
    ] in
    let woken : c.if-found.outcome.woken ≡ woken_late image cpu r c.in-Made.said c.args.who c.args.site =
    elim c.if-found.branch [
      | then-found w ↦ ap (λ (o : Outcome). o.woken) w.outcome-is ∙ (w.push.ensures ∙ ((λ i. c.clear.ensures i ++ (c.args.who, w.told_late.ensures i) ∷ []) ∙ ap (λ (b : Bool). woken_late image cpu r b c.args.who c.args.site) (sym w.if-found.true)))
      | else-found w ↦ ap (λ (o : Outcome). o.woken) w.outcome-is ∙ (c.clear.ensures ∙ ap (λ (b : Bool). woken_late image cpu r b c.args.who c.args.site) (sym w.if-found.false))
    ] in
    let goes =
    timed-goes image cpu r c.args.who c.args.site c.in-Some.cell h.0 h.1 c.actor-thread.result.0 c.requires.mark c.in-Some.ensures.site c.actor-thread.ensures c.in-Made.said h.3 _ woken _ (ap (λ (q : Running). in_phase Phase.Paid q) left) in
    (_, h.2, goes)
