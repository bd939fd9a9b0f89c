use Rattle.std.proofs.Common.{sym, ap, ◌∙◌, subst}
use Rattle.um_words.specs.declared.thread_act.ThreadAct.{ThreadAct}
use Rattle.um_words.specs.Packed.{is_thread, thread_in}
use Rattle.um_words.specs.Steps.{ThreadStep}
use Rattle.um_words.specs.ThreadActs.{thread_act_at}
use Rattle.um_thread.specs.Acts.{forbids_thread}
use Rattle.um_thread.proofs.Taken.{read-of, thread-leaves}
use Rattle.um_thread.proofs.threads.call_thread.Goals as goal

pub step_at-requires-clause-leaves : goal.step_at-requires-clause-leaves
step_at-requires-clause-leaves g c = let a = c.args.asked in let w = thread_in a.seen in
    let read = read-of w c.in-Some.before c.unpack.result (is_thread a.seen) c.requires.at.2 c.unpack.ensures.value c.in-Some.is in
    thread-leaves a.by c.args.who a.seen c.in-Some-step.next a.call (sym (c.is_forbidden.ensures ∙ ap (forbids_thread a.call) read) ∙ c.if-is_forbidden.false)
    (subst (λ (act : ThreadAct). ThreadStep a.seen (thread_act_at w act) c.in-Some-step.next) c.act-act.ensures c.in-Some-step.ensures)
