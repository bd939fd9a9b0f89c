use Rattle.std.proofs.Common.{ℕ, ◌+◌, Some, ap, ◌∙◌, if◌then◌else◌}
use Rattle.um_words.specs.declared.row_act.RowSaid.{RowSaid}
use Rattle.um_processor.specs.declared.phase.Phase.{Phase}
use Rattle.um_processor.specs.declared.running.Running.{Running}
use Rattle.um_processor.specs.Processors.{visiting}
use Rattle.um_fine.specs.Context.{Context}
use Rattle.um_fine.specs.Places.{but}
use Rattle.um_processor.proofs.Visited.{pass-goes}
use Rattle.um_processor.proofs.running.Running.pass.Goals as goal

pub returns : goal.returns
returns g c =
    let h = c.in-Made.ensures.said in
    let thread = c.thread-thread.ensures.value ∙ ap (λ (own : Context). own.thread) c.deref.ensures in
    let said = c.in-Made.said.visits in
    let acted = c.acts_unless.ensures ∙ ap (λ (t : ℕ). record c.args.self.now { actor = if said then c.args.self.now.actor else Some t }) thread in
    let goes = pass-goes c.args.here.now.image.now c.args.here.now.cpu c.args.self.now h.0 _ _ _ _ _ said _ thread c.passed_to.ensures c.addr_of.ensures c.own_row-own.ensures.value (c.but.ensures ∙ ap (λ (q : Running). but c.own_row-own.result (q.row + 1)) acted) (ap (λ (s : RowSaid). s.visits) h.2) (c.visits.ensures ∙ ap (λ (r : Running). visiting c.but.result Phase.Pass r) acted) in
    record { turn = (c.in-Made.ensures.image, tt, (_, h.1, goes)) }
