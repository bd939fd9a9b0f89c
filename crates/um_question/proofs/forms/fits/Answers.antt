use Rattle.std.proofs.Common.{◌∙◌, sym}
use Rattle.um_question.proofs.FormLemmas.{fits-ends, fits-goes, fits-lacks, fits-not}
use Rattle.um_question.proofs.forms.fits.Goals as goal

pub returns-then-not-is_word : goal.returns-then-not-is_word
returns-then-not-is_word c =
    let f = c.first_word-more_forms in
    let l = c.first_word-more in
    sym (c.loop-forms_behind.invariant ∙ fits-not c.loop-forms_behind.forms.now c.loop-forms_behind.rest.now l.result.0.now f.result.0.now f.result.1.now l.result.1.now f.result.2 l.result.2 f.ensures l.ensures (sym c.is_word.ensures ∙ c.if-not-is_word.true))

pub returns-then-not-more : goal.returns-then-not-more
returns-then-not-more c =
    let f = c.first_word-more_forms in
    let l = c.first_word-more in
    sym (c.loop-forms_behind.invariant ∙ fits-ends c.loop-forms_behind.forms.now c.loop-forms_behind.rest.now l.result.0.now f.result.0.now f.result.1.now l.result.1.now f.result.2 l.result.2 f.ensures l.ensures (sym c.is_word.ensures ∙ c.if-not-is_word.false) c.if-not-more.true)

pub returns-then-not-more_forms : goal.returns-then-not-more_forms
returns-then-not-more_forms c =
    let f = c.first_word-more_forms in
    let l = c.first_word-more in
    sym (c.loop-forms_behind.invariant ∙ fits-lacks c.loop-forms_behind.forms.now c.loop-forms_behind.rest.now l.result.0.now f.result.0.now f.result.1.now l.result.1.now f.result.2 l.result.2 f.ensures l.ensures (sym c.is_word.ensures ∙ c.if-not-is_word.false) c.if-not-more.false c.if-not-more_forms.true)

pub loop-forms_behind-preserved : goal.loop-forms_behind-preserved
loop-forms_behind-preserved c =
    let f = c.first_word-more_forms in
    let l = c.first_word-more in
    c.loop-forms_behind.invariant ∙ fits-goes c.loop-forms_behind.forms.now c.loop-forms_behind.rest.now l.result.0.now f.result.0.now f.result.1.now l.result.1.now f.result.2 l.result.2 f.ensures l.ensures (sym c.is_word.ensures ∙ c.if-not-is_word.false) c.if-not-more.false c.if-not-more_forms.false
