use Rattle.std.proofs.Common.{◌≡◌, ℕ, ◌+◌, ◌*◌, sym, ap, ◌∙◌, drop, [], ◌∷◌, arith}
use Rattle.std.proofs.lemmas.List.{drop_more, drop_all}
use Rattle.um_base.specs.declared.instr.Instr.{Instr}
use Rattle.um_base.specs.Weight.{line_cost, lines_cost, turns_after}
use Rattle.um_description.specs.Weights.{counted}
use Rattle.um_description.proofs.WeightLemmas.{counted_sum, counted_end}
use Rattle.um_description.proofs.weighing.lines_cost.Goals as goal

pub loop-line-preserved : goal.loop-line-preserved
loop-line-preserved c = record {
  counts = λ later h.
      let line = c.line-item.result in
      let lines = c.args.lines.now in
      let i = c.args.i in
      let before = c.loop-line.turns in
      let rest = drop (c.loop-line.line-index + 1) lines in
      let more : drop c.loop-line.line-index lines ≡ line ∷ rest = drop_more lines c.loop-line.line-index line c.loop-line-test.true ∙ ap (λ (x : Instr). x ∷ rest) (sym c.line-item.is) in
      let cost = c.line_cost.ensures later h in
      let product : c.saturating_mul.result ≡ counted (before * counted (line_cost later i line)) = c.saturating_mul.ensures ∙ ap (λ (n : ℕ). counted (before * n)) cost in
      let sum : c.saturating_add-sum.result ≡ counted (c.loop-line.sum + counted (before * counted (line_cost later i line)))
      = c.saturating_add-sum.ensures ∙ ap (λ (n : ℕ). counted (c.loop-line.sum + n)) product in
      rw c.turns_after-turns.ensures
      (counted_sum c.loop-line.sum before (line_cost later i line) (lines_cost later i (turns_after before line) rest) c.saturating_add-sum.result sum
      ∙ (rw more at (c.loop-line.invariant.counts later h)));
  fits = omega (arith, c.saturating_add-sum.type_inv);
}

pub returns : goal.returns
returns c = λ later h.
    let none : drop c.loop-line.line-index c.args.lines.now ≡ [] = drop_all c.loop-line.line-index c.args.lines.now c.loop-line-test.false in
    counted_end c.loop-line.sum _ c.loop-line.invariant.fits (rw none at (c.loop-line.invariant.counts later h))
