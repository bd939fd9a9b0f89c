use Rattle.std.proofs.Common.{◌≡◌, ◌∙◌, ℕ, arith, List, length, drop, slice_index_or, slice_set, sym, ap, Option}
use Rattle.std.proofs.lemmas.Grind.{common_steps}
use Rattle.std.proofs.lemmas.List.{with_items_is}
use Rattle.std.specs.Vec.{with_items}
use Rattle.um_base.specs.declared.ask.Told.{Told}
use Rattle.um_base.specs.declared.ask.Waiter.{Waiter}
use Rattle.um_base.specs.declared.image.Image.{Image}
use Rattle.um_base.specs.declared.names.ThreadIx.{ThreadIx}
use Rattle.um_machine.specs.declared.object.Cost.{Cost}
use Rattle.um_machine.specs.declared.object.Object.{Object}
use Rattle.um_machine.specs.declared.thread.Thread.{Thread}
use Rattle.um_machine.specs.Order.{Steps, to_thread}
use Rattle.um_machine.specs.Services.{Acted, acted}
use Rattle.um_machine.specs.State.{State, nobody, thread_at, object_at}
use Rattle.um_machine.specs.Table.{row_of, bytes_given, work_of, buffer_cost}
use Rattle.um_service.specs.Left.{left}
use Rattle.um_matrix.specs.Worked.{threads_woken, answered}
use Rattle.um_matrix.proofs.WorkLemmas.{worked, pending-threads_woken}
use Rattle.um_matrix.proofs.tables.Tables.work.Goals as goal

pub returns-clause-leaves : goal.returns-clause-leaves
returns-clause-leaves c =
    let s : State = c.args.self.now in
    let t = c.args.t in
    let ask = c.args.ask.now in
    let x = c.row_of-x.result in
    let w : Acted = left c.act.new.contents c.act.new.waiters c.act.new.outcome in
    let before : Object = c.row_mut-object.result.now in
    let me : Thread = c.index_mut.result.now in
    let threads = (with_items c.self.inside.threads c.wake.new.threads).items in
    let rest : Steps = drop c.args.taken (thread_at s t).pending in
    let who : Waiter = record { thread = to_thread t; priority = (thread_at s t).priority; ask = ask; bytes = bytes_given (thread_at s t).buffer ask; until = (thread_at s t).until } in
    let same_length : length c.wake.new.threads ≡ c.self.inside.threads.len = grind (arith, common_steps) in
    let all : threads ≡ c.wake.new.threads = with_items_is c.self.inside.threads c.wake.new.threads same_length in
    let first : c.deref_mut.result.now ≡ s.threads = grind (arith, common_steps) in
    let told : c.wake.new.threads ≡ threads_woken w.woken s.threads =
    c.wake.ensures ∙ ap (λ (ps : List (ThreadIx × Told)). threads_woken ps c.deref_mut.result.now) c.as_slice.ensures.value
    ∙ ap (λ (ts : List Thread). threads_woken w.woken ts) first in
    let row : x ≡ row_of s c.args.a = cc in
    let object : before ≡ object_at s x = grind (arith, common_steps) in
    let work : w ≡ work_of s t c.args.a ask =
    sym c.act.ensures ∙ ap (λ (v : Waiter). acted before.contents before.waiters v) c.worker-who.ensures.value
    ∙ ap (λ (o : Object). acted o.contents o.waiters who) (object ∙ ap (λ (y : ℕ). object_at s y) row) in
    let thread : me ≡ slice_index_or threads t nobody = grind (arith, common_steps) in
    let steps : (slice_index_or threads t nobody).pending ≡ (thread_at s t).pending =
    ap (λ (ts : List Thread). (slice_index_or ts t nobody).pending) (all ∙ told) ∙ pending-threads_woken w.woken s t in
    let image : c.self.inside.image.now ≡ s.image = grind (arith, common_steps) in
    let answers : c.after_answer.new.thread ≡ answered s.image (slice_index_or threads t nobody) ask w.taken rest w.answer =
    c.after_answer.ensures ∙ ap (λ (i : Image). answered i me ask w.taken (drop c.args.taken me.pending) w.answer) image
    ∙ ap (λ (m : Thread). answered s.image m ask w.taken (drop c.args.taken m.pending) w.answer) thread
    ∙ ap (λ (p : Steps). answered s.image (slice_index_or threads t nobody) ask w.taken (drop c.args.taken p) w.answer) steps in
    let after : Object = record before { contents = c.act.new.contents; waiters = c.act.new.waiters; buffer = c.buffer_cost-object.result } in
    let is : after ≡ record (object_at s x) { contents = w.contents; waiters = w.waiters; buffer = buffer_cost ask w.answer (object_at s x).buffer } =
    ap (λ (b : Option Cost). record before { contents = w.contents; waiters = w.waiters; buffer = b }) c.buffer_cost-object.ensures
    ∙ ap (λ (o : Object). record o { contents = w.contents; waiters = w.waiters; buffer = buffer_cost ask w.answer o.buffer }) object in
    let frame : State → State = λ (v : State). record v { objects = slice_set v.objects x after; threads = slice_set threads t c.after_answer.new.thread } in
    ap frame c.self.view_is ∙ worked s t c.args.a ask rest w x after threads c.after_answer.new.thread work row is (all ∙ told) answers
