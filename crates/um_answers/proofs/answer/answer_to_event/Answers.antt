use Rattle.std.proofs.Common.{◌≡◌, List, ℕ, inr, subst}
use Rattle.std.specs.Prelude.{string_bytes}
use Rattle.std.proofs.lemmas.Result.{IfOk-weaker}
use Rattle.um_question.specs.Text.{IsAsked}
use Rattle.um_question.specs.declared.asking.Asking.{Asking}
use Rattle.um_answers.specs.Answered.{IsRefusal}
use Rattle.um_answers.specs.Messages.{unknown_word_line}
use Rattle.um_answers.specs.Top.{Finds, IsOutput}
use Rattle.um_answers.specs.declared.command.Command.{Command}
use Rattle.um_answers.proofs.answer.answer_to_event.Goals as goal

pub returns-in-Ok-Is : goal.returns-in-Ok-Is
returns-in-Ok-Is c = λ input trace is.
    let image = c.args.image.now in
    let event = c.args.event.now in
    let command = Command.Find c.args.states in
    let question = c.in-Ok-Is.question in
    let asked : IsAsked image event (Asking.Is question) = subst (λ (asking : Asking). IsAsked image event asking) c.in-Ok-Is.field-0-is c.in-Ok-Is.ensures.asked in
    c.text.ensures command event input
    (IfOk-weaker c.found.result (λ told. Finds image question told.status told.text.items) (λ told. IsOutput command event input told.status told.text.items)
    (λ told finds. record { image = image; trace = trace; is_of = is; writes = (question, asked, finds) })
    c.found.ensures)

pub returns-in-Ok-Unknown : goal.returns-in-Ok-Unknown
returns-in-Ok-Unknown c = λ input trace is.
    let image = c.args.image.now in
    let event = c.args.event.now in
    let command = Command.Find c.args.states in
    let word = c.in-Ok-Unknown.word in
    let asked : IsAsked image event (Asking.Unknown word) = subst (λ (asking : Asking). IsAsked image event asking) c.in-Ok-Unknown.field-0-is c.in-Ok-Unknown.ensures.asked in
    c.refusal.ensures command event input
    (IfOk-weaker c.line_of_unknown_word.result (λ line. string_bytes line ≡ unknown_word_line word) (λ line. IsRefusal command event input (string_bytes line))
    (λ line told. record { short = is.short; cause = inr (inr (record { image = image; trace = trace; is_of = is; unasked = (word, asked, told) })) })
    c.line_of_unknown_word.ensures)
