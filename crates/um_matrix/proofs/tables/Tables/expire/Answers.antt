use Rattle.std.proofs.Common.{◌≡◌, ◌∙◌, List, ap, arith, length, slice_set, sym}
use Rattle.std.proofs.lemmas.Grind.{common_steps}
use Rattle.std.proofs.lemmas.List.{with_items_is}
use Rattle.std.specs.Vec.{with_items}
use Rattle.um_base.specs.declared.ask.Told.{Told}
use Rattle.um_base.specs.declared.names.ThreadIx.{ThreadIx}
use Rattle.um_machine.specs.declared.object.Object.{Object}
use Rattle.um_machine.specs.declared.thread.Thread.{Thread}
use Rattle.um_machine.specs.Services.{in_order, runs_out}
use Rattle.um_machine.specs.State.{State, object_at}
use Rattle.um_matrix.specs.Worked.{threads_woken}
use Rattle.um_matrix.proofs.WorkLemmas.{expire-is}
use Rattle.um_matrix.proofs.tables.Tables.expire.Goals as goal

pub returns : goal.returns
returns c =
    let s : State = c.args.self.now in
    let x = c.args.x in
    let contents = c.run_out.new.contents in
    let ws = c.run_out.new.waiters in
    let woken = c.run_out.new.woken in
    let before : Object = c.row_mut-object.result.now in
    let threads = (with_items c.self.inside.threads c.wake.new.threads).items in
    let same_length : length c.wake.new.threads ≡ c.self.inside.threads.len = grind (arith, common_steps) in
    let all : threads ≡ c.wake.new.threads = with_items_is c.self.inside.threads c.wake.new.threads same_length in
    let first : c.deref_mut.result.now ≡ s.threads = grind (arith, common_steps) in
    let told : c.wake.new.threads ≡ threads_woken woken s.threads =
    c.wake.ensures ∙ ap (λ (ps : List (ThreadIx × Told)). threads_woken ps c.deref_mut.result.now) c.as_slice.ensures.value ∙ ap (λ (ts : List Thread). threads_woken woken ts) first in
    let object : before ≡ object_at s x = grind (arith, common_steps) in
    let after : Object = record before { contents = contents; waiters = ws } in
    let frame : State → State = λ (v : State). record v { threads = threads; objects = slice_set v.objects x after } in
    ap frame c.self.view_is
    ∙ expire-is s x contents ws woken after threads (ap (λ (o : Object). runs_out o.waiters (in_order o.waiters)) (sym object) ∙ c.run_out.ensures) (ap (λ (o : Object). record o { contents = contents; waiters = ws }) object) (all ∙ told)
