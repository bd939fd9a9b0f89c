use Rattle.std.proofs.Common.{◌≡◌, ℕ, Bool, Some, sym, ap, ◌∙◌}
use Rattle.um_machine.specs.Order.{to_addr}
use Rattle.um_processor.specs.declared.phase.Phase.{Phase}
use Rattle.um_processor.specs.declared.running.Running.{Running}
use Rattle.um_processor.specs.Processors.{in_phase}
use Rattle.um_processor.proofs.Looked.{expires-goes, paying}
use Rattle.um_processor.proofs.running.Running.expire.Goals.{then-found, else-found}
use Rattle.um_processor.proofs.running.Running.expire.Goals as goal

pub returns-clause-turn : goal.returns-clause-turn
returns-clause-turn g c =
    let h = c.in-Made.ensures.said in
    let image = c.args.here.now.image.now in
    let cpu = c.args.here.now.cpu in
    let r = c.args.self.now in
    let left : record c.if-found.self { phase = Phase.Paid } ≡ paying image cpu r c.in-Made.said r =
    elim c.if-found.branch [
      | then-found w ↦ ap (λ (q : Running). record q { phase = Phase.Paid }) w.self-is ∙ (ap (λ (t : ℕ). record r { actor = Some t; phase = Phase.Paid }) c.actor-thread.ensures ∙ ap (λ (b : Bool). paying image cpu r b r) (sym w.if-found.true))
      | else-found w ↦ ap (λ (q : Running). record q { phase = Phase.Paid }) w.self-is ∙ ap (λ (b : Bool). paying image cpu r b r) (sym w.if-found.false)
    ] in
    let goes =
    expires-goes image cpu r c.args.row.0 h.0 h.1 c.actor-thread.result.0 _ c.requires.mark c.actor-thread.ensures (ap (λ (a : ℕ). to_addr a) c.addr_of.ensures) c.in-Made.said h.3.0 _ h.3.1 _ (ap (λ (q : Running). in_phase Phase.Paid q) left) in
    (_, h.2, goes)
