use Rattle.std.proofs.Common.{◌≡◌, ◌∙◌, ◌<◌, ◌≤◌, List, ℕ, arith, inl, inr, length, subst, sym}
use Rattle.std.specs.Io.KnownBytes.{Appends}
use Rattle.um_io.specs.Bytes.{AppendsFront}
use Rattle.um_command.specs.declared.command.Command.{Command}
use Rattle.um_app.proofs.Ends.{all_of_it}
use Rattle.um_app.proofs.InputLemmas.{of-refusal}
use Rattle.um_app.specs.Answered.{Answered, IsRefusal}
use Rattle.um_app.specs.declared.answer.Answer.{Answer}
use Rattle.um_app.specs.Inputs.{IsOf, most_described}
use Rattle.um_app.specs.Top.{IsOutput, IsThreadOutput}
use Rattle.um_app.proofs.top.threaded.Goals as goal

pub returns-in-Ok-thread_answer_to-clause-done : goal.returns-in-Ok-thread_answer_to-clause-done
returns-in-Ok-thread_answer_to-clause-done g c = λ e.
    let made = c.in-Ok-thread_answer_to.made in
    let output = subst (λ (bytes : List ℕ). IsOutput (Command.Run c.args.cpus) bytes made.text.items) c.deref.ensures.value c.in-Ok-thread_answer_to.ensures.output in (
      made.text.items,
      record { input = c.in-Ok.input.items; read = record { taken = c.in-Ok.ensures.whole; at_end = c.in-Ok.ensures.at_end; short = c.in-Ok.ensures.short }; output = output },
      subst (λ (bytes : List ℕ). Appends (g.O.Sink.taken c.args.out.now) (g.O.Sink.taken c.write_text-status.new.out) bytes) c.deref-in-Ok-thread_answer_to.ensures.value (c.write_text-status.ensures.done e),
    )

pub returns-in-Ok-thread_answer_to-clause-ran : goal.returns-in-Ok-thread_answer_to-clause-ran
returns-in-Ok-thread_answer_to-clause-ran g c = λ e.
    let made = c.in-Ok-thread_answer_to.made in
    let output = subst (λ (bytes : List ℕ). IsThreadOutput c.args.cpus bytes made.closed made.text.items) c.deref.ensures.value c.in-Ok-thread_answer_to.ensures.played in (
      made.text.items,
      record {
        input = c.in-Ok.input.items;
        read = record { taken = c.in-Ok.ensures.whole; at_end = c.in-Ok.ensures.at_end; short = c.in-Ok.ensures.short };
        closed = made.closed;
        left = c.leave.ensures.done e;
        output = output;
      },
      subst (λ (bytes : List ℕ). Appends (g.O.Sink.taken c.args.out.now) (g.O.Sink.taken c.write_text-status.new.out) bytes) c.deref-in-Ok-thread_answer_to.ensures.value (c.write_text-status.ensures.done e),
    )

pub returns-in-Ok-thread_answer_to-clause-refuses : goal.returns-in-Ok-thread_answer_to-clause-refuses
returns-in-Ok-thread_answer_to-clause-refuses g c = λ input line told short refusal no_read.
    let command = Command.Run c.args.cpus in
    let same : c.deref.result.now ≡ input = c.deref.ensures.value ∙ all_of_it _ _ input c.in-Ok.input.items told c.in-Ok.ensures.whole c.in-Ok.ensures.at_end in
    let out = c.in-Ok-thread_answer_to.ensures.output in
    absurd (of-refusal command c.deref.result.now out.trace line out.image out.is_of (subst (λ (bytes : List ℕ). IsRefusal command bytes line) (sym same) refusal))

pub returns-in-Ok-thread_answer_to-clause-front : goal.returns-in-Ok-thread_answer_to-clause-front
returns-in-Ok-thread_answer_to-clause-front g c = λ e.
    let made = c.in-Ok-thread_answer_to.made in
    let output = subst (λ (bytes : List ℕ). IsOutput (Command.Run c.args.cpus) bytes made.text.items) c.deref.ensures.value c.in-Ok-thread_answer_to.ensures.output in
    let front = c.write_text-status.ensures.front e in (
      made.text.items,
      record { input = c.in-Ok.input.items; read = record { taken = c.in-Ok.ensures.whole; at_end = c.in-Ok.ensures.at_end; short = c.in-Ok.ensures.short }; output = output },
      subst (λ (bytes : List ℕ). AppendsFront (g.O.Sink.taken c.args.out.now) (g.O.Sink.taken c.write_text-status.new.out) bytes) c.deref-in-Ok-thread_answer_to.ensures.value front.0,
      subst (λ (bytes : List ℕ). g.O.Sink.room c.args.out.now < length bytes) c.deref-in-Ok-thread_answer_to.ensures.value front.1,
    )

pub returns-in-Err-Refused-clause-complete : goal.returns-in-Err-Refused-clause-complete
returns-in-Err-Refused-clause-complete g c = λ input told short image trace is no_read no_write.
    let command = Command.Run c.args.cpus in
    let same : c.deref.result.now ≡ input = c.deref.ensures.value ∙ all_of_it _ _ input c.in-Ok.input.items told c.in-Ok.ensures.whole c.in-Ok.ensures.at_end in
    absurd (of-refusal command c.deref.result.now trace _ image (subst (λ (bytes : List ℕ). IsOf command bytes image trace) (sym same) is)
    (subst (λ (answer : Answer). Answered command answer c.deref.result.now) c.in-Err-Refused.field-0-is c.in-Err-Refused.ensures.answered.0))

pub returns-in-Ok-thread_answer_to-clause-exceeds : goal.returns-in-Ok-thread_answer_to-clause-exceeds
returns-in-Ok-thread_answer_to-clause-exceeds g c = λ input told long no_read.
    let same = all_of_it _ _ input c.in-Ok.input.items told c.in-Ok.ensures.whole c.in-Ok.ensures.at_end in
    let short : length input ≤ most_described = subst (λ (bytes : List ℕ). length bytes ≤ most_described) same c.in-Ok.ensures.short in
    absurd (elim long [ inl over ↦ omega arith | inr over ↦ omega arith ])

pub returns-in-Ok-thread_answer_to-clause-told : goal.returns-in-Ok-thread_answer_to-clause-told
returns-in-Ok-thread_answer_to-clause-told g c = λ not_done not_refused. c.tell_status.ensures.told not_done
