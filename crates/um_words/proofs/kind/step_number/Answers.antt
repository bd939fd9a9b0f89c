use Rattle.std.proofs.Common.{◌≡◌, ℕ, sym, ap, ◌∙◌}
use Rattle.um_words.specs.declared.kind.WordKind.{WordKind}
use Rattle.um_words.specs.Steps.{kind_at, number, number_in}
use Rattle.um_words.proofs.kind.step_number.Goals as goal

reads : (kind : WordKind) (site w : ℕ) → kind_at site ≡ kind → number_in kind w ≡ number site w
unfolding number
reads kind site w is = ap (λ k. number_in k w) (sym is)

pub returns-in-Row : goal.returns-in-Row
returns-in-Row c = reads WordKind.Row c.args.site c.args.word (sym c.at.ensures ∙ c.in-Row.is)

pub returns-in-Thread : goal.returns-in-Thread
returns-in-Thread c = reads WordKind.Thread c.args.site c.args.word (sym c.at.ensures ∙ c.in-Thread.is)

pub returns-in-Domain : goal.returns-in-Domain
returns-in-Domain c = reads WordKind.Domain c.args.site c.args.word (sym c.at.ensures ∙ c.in-Domain.is)

pub returns-in-Cell : goal.returns-in-Cell
returns-in-Cell c = reads (WordKind.Cell c.in-Cell.field-0) c.args.site c.args.word (sym c.at.ensures ∙ c.in-Cell.is)
