use Rattle.std.proofs.Common.{◌≡◌, ◌≤◌, ◌∙◌, List, ℕ, length, subst, sym}
use Rattle.um_answers.proofs.AnswerLemmas.{output-answered}
use Rattle.um_answers.proofs.Ends.{all_of_it}
use Rattle.um_answers.proofs.InputLemmas.{of-refusal, output-refusal}
use Rattle.um_answers.specs.Answered.{IsRefusal}
use Rattle.um_answers.specs.Inputs.{IsOf}
use Rattle.um_answers.proofs.top.described.Goals as goal

pub write_text-status-requires : goal.write_text-status-requires
write_text-status-requires g c =
    let text = c.in-Text.text in output-answered c.args.command c.args.event.now c.deref.result.now text.status text.text.items c.in-Text.ensures

pub returns-in-Text-clause-refuses : goal.returns-in-Text-clause-refuses
returns-in-Text-clause-refuses g c = λ input line told short refusal no_read.
    let same : c.deref.result.now ≡ input = c.deref.ensures.value ∙ all_of_it _ _ input c.in-Ok.input.items told c.in-Ok.ensures.whole c.in-Ok.ensures.at_end in
    let text = c.in-Text.text in
    absurd (output-refusal c.args.command c.args.event.now c.deref.result.now line text.status text.text.items c.in-Text.ensures (subst (λ (bytes : List ℕ). IsRefusal c.args.command c.args.event.now bytes line) (sym same) refusal))

pub returns-in-Refused-clause-complete : goal.returns-in-Refused-clause-complete
returns-in-Refused-clause-complete g c = λ input told short image trace is asked no_read no_write.
    let same : c.deref.result.now ≡ input = c.deref.ensures.value ∙ all_of_it _ _ input c.in-Ok.input.items told c.in-Ok.ensures.whole c.in-Ok.ensures.at_end in
    absurd (of-refusal c.args.command c.args.event.now c.deref.result.now trace _ image (subst (λ (bytes : List ℕ). IsOf c.args.command bytes image trace) (sym same) is) asked c.in-Refused.ensures)

pub returns-in-Text-clause-within : goal.returns-in-Text-clause-within
returns-in-Text-clause-within g c = λ _ _.
    (c.in-Ok.input.items, subst (λ (most : ℕ). length c.in-Ok.input.items ≤ most) c.limit.ensures c.in-Ok.ensures.short, c.in-Ok.ensures.whole)
