use Rattle.std.proofs.Common.{◌++◌, ap, sym, ◌∙◌, arith, List, ℕ, append_assoc, length-append}
use Rattle.std.proofs.lemmas.List.{append-nil}
use Rattle.um_matrix.proofs.StringLemmas.{string_bytes_more, string_bytes_end}
use Rattle.um_matrix.proofs.tables.Tables.string_bytes.Goals as goal

pub loop-before-preserved : goal.loop-before-preserved
loop-before-preserved c = record {
  whole =
      rw (c.push.ensures, c.byte_behind.ensures)
      (append_assoc c.loop-before.bytes _ _
      ∙ ap (λ (rest : List ℕ). c.loop-before.bytes ++ rest) (sym (string_bytes_more c.args.self.now c.args.a c.loop-before.before c.args.n c.loop-before-test.true))
      ∙ c.loop-before.invariant.whole);
  count = rw c.push.ensures (omega (arith, length-append {A = ℕ}, c.loop-before.invariant.count));
}

pub returns : goal.returns
returns c =
    sym (append-nil c.loop-before.bytes)
    ∙ ap (λ (rest : List ℕ). c.loop-before.bytes ++ rest) (sym (string_bytes_end c.args.self.now c.args.a c.loop-before.before c.args.n (omega arith)))
    ∙ c.loop-before.invariant.whole
