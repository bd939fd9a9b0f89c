use Rattle.std.proofs.Common.{◌≡◌, ◌∙◌, ℕ, List, ap, arith, drop, length, slice_index_or, slice_set, sym, Option}
use Rattle.std.proofs.lemmas.Grind.{common_steps}
use Rattle.std.proofs.lemmas.List.{with_items_is}
use Rattle.std.specs.Vec.{with_items}
use Rattle.um_base.specs.declared.act.Answer.{Answer}
use Rattle.um_base.specs.declared.ask.Told.{Told}
use Rattle.um_base.specs.declared.ask.Waiter.{Waiter}
use Rattle.um_base.specs.declared.image.Image.{Image}
use Rattle.um_base.specs.declared.names.Errno.{Errno}
use Rattle.um_base.specs.declared.names.ThreadIx.{ThreadIx}
use Rattle.um_machine.specs.declared.thread.Thread.{Thread}
use Rattle.um_machine.specs.Futexes.{futex_refusal, futex_woken, roused, wake_answer}
use Rattle.um_machine.specs.Order.{Steps}
use Rattle.um_machine.specs.Services.{still_waiting}
use Rattle.um_machine.specs.State.{State, nobody, thread_at}
use Rattle.um_service.specs.Awaits.{all_well}
use Rattle.um_matrix.specs.Worked.{asked, threads_woken}
use Rattle.um_matrix.proofs.WorkLemmas.{pending-threads_woken, woken-is}
use Rattle.um_matrix.proofs.tables.Tables.futex_wake.Goals as goal

pub returns : goal.returns
returns c =
    let s : State = c.args.self.now in
    let t = c.args.t in
    let a = c.args.a in
    let woken = c.rouse.new.woken in
    let ws = c.rouse.new.waiters in
    let me : Thread = c.index_mut-2.result.now in
    let rest : Steps = drop c.args.taken (thread_at s t).pending in
    let threads = (with_items c.self.inside.threads c.wake.new.threads).items in
    let same_length : length c.wake.new.threads ≡ c.self.inside.threads.len = grind (arith, common_steps) in
    let all : threads ≡ c.wake.new.threads = with_items_is c.self.inside.threads c.wake.new.threads same_length in
    let first : c.deref_mut.result.now ≡ s.threads = grind (arith, common_steps) in
    let told : c.wake.new.threads ≡ threads_woken woken s.threads =
    c.wake.ensures ∙ ap (λ (ps : List (ThreadIx × Told)). threads_woken ps c.deref_mut.result.now) c.as_slice.ensures.value ∙ ap (λ (ts : List Thread). threads_woken woken ts) first in
    let on : s.futexes ≡ c.self.inside.futexes = ap (λ (v : State). v.futexes) (sym c.self.view_is) in
    let roused_are : woken ≡ futex_woken s t a.0 c.args.all =
    c.rouse.ensures.woken s on ∙ ap (λ (e : Option Errno). all_well (roused s a.0 c.args.all e)) c.futex_refusal-refusal.ensures in
    let left_are : ws ≡ still_waiting woken s.futexes = c.rouse.ensures.left ∙ ap (λ (vs : List Waiter). still_waiting woken vs) (sym on) in
    let thread : me ≡ slice_index_or threads t nobody = grind (arith, common_steps) in
    let steps : (slice_index_or threads t nobody).pending ≡ (thread_at s t).pending =
    ap (λ (ts : List Thread). (slice_index_or ts t nobody).pending) (all ∙ told) ∙ pending-threads_woken woken s t in
    let image : c.self.inside.image.now ≡ s.image = ap (λ (v : State). v.image) c.self.view_is in
    let answer : c.wake_answer-answer.result ≡ wake_answer (futex_refusal s t a.0) (length woken) =
    c.wake_answer-answer.ensures ∙ ap (λ (e : Option Errno). wake_answer e c.len.result) c.futex_refusal-refusal.ensures ∙ ap (λ (n : ℕ). wake_answer (futex_refusal s t a.0) n) c.len.ensures.value in
    let answers : c.after_asking.new.thread ≡ asked s.image (slice_index_or threads t nobody) rest (wake_answer (futex_refusal s t a.0) (length woken)) =
    c.after_asking.ensures ∙ ap (λ (i : Image). asked i me (drop c.args.taken me.pending) c.wake_answer-answer.result) image
    ∙ ap (λ (m : Thread). asked s.image m (drop c.args.taken m.pending) c.wake_answer-answer.result) thread
    ∙ ap (λ (p : Steps). asked s.image (slice_index_or threads t nobody) (drop c.args.taken p) c.wake_answer-answer.result) steps
    ∙ ap (λ (b : Answer). asked s.image (slice_index_or threads t nobody) rest b) answer in
    let frame : State → State = λ (v : State). record v { threads = slice_set threads t c.after_asking.new.thread; futexes = ws } in
    ap frame c.self.view_is ∙ woken-is s t a c.args.all rest woken ws threads c.after_asking.new.thread roused_are left_are (all ∙ told) answers
