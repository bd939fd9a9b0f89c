use Rattle.std.proofs.Common.{◌≡◌, ◌∙◌, List, ap, length}
use Rattle.std.proofs.lemmas.Grind.{common_steps}
use Rattle.std.proofs.Common.{arith}
use Rattle.std.proofs.lemmas.List.{with_items_is}
use Rattle.std.specs.Vec.{with_items}
use Rattle.um_base.specs.declared.ask.Told.{Told}
use Rattle.um_base.specs.declared.ask.Waiter.{Waiter}
use Rattle.um_base.specs.declared.names.ThreadIx.{ThreadIx}
use Rattle.um_machine.specs.declared.thread.Thread.{Thread}
use Rattle.um_machine.specs.Joins.{all_joined, without_joins}
use Rattle.um_machine.specs.State.{State}
use Rattle.um_matrix.specs.Worked.{threads_woken}
use Rattle.um_matrix.proofs.WorkLemmas.{left-is}
use Rattle.um_matrix.proofs.tables.Tables.left.Goals as goal

pub returns : goal.returns
returns c = λ rest.
    let s : State = c.args.self.now in
    let t = c.args.t in
    let woken = c.end_joins.new.woken in
    let ws = c.end_joins.new.waiters in
    let threads = (with_items c.self.inside.threads c.wake.new.threads).items in
    let same_length : length c.wake.new.threads ≡ c.self.inside.threads.len = grind (arith, common_steps) in
    let all : threads ≡ c.wake.new.threads = with_items_is c.self.inside.threads c.wake.new.threads same_length in
    let first : c.deref_mut.result.now ≡ s.threads = grind (arith, common_steps) in
    let told : c.wake.new.threads ≡ threads_woken woken s.threads =
    c.wake.ensures ∙ ap (λ (ps : List (ThreadIx × Told)). threads_woken ps c.deref_mut.result.now) c.as_slice.ensures.value ∙ ap (λ (ts : List Thread). threads_woken woken ts) first in
    let before : State → List Waiter = λ (v : State). without_joins v t in
    let ends : woken ≡ all_joined s t = c.end_joins.ensures.woken ∙ ap (λ (v : State). all_joined v t) c.self.view_is in
    let leave : ws ≡ without_joins s t = c.end_joins.ensures.left ∙ ap before c.self.view_is in
    let frame : State → State = λ (v : State). record v { threads = threads; joins = ws } in
    ap frame c.self.view_is ∙ left-is s t rest woken ws threads ends leave (all ∙ told)
