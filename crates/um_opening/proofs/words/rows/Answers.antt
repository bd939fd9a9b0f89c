use Rattle.std.proofs.Common.{◌≡◌, ℕ, arith, length-append}
use Rattle.um_fine.specs.Answers.{no_row}
use Rattle.um_fine.specs.Opening.{row_state}
use Rattle.um_fine.specs.Sites.{SiteState}
use Rattle.um_words.specs.declared.row_word.RowWord.{RowWord}
use Rattle.um_opening.proofs.Lists.{each-more}
use Rattle.um_opening.proofs.words.rows.Goals as goal

pub loop-x-preserved : goal.loop-x-preserved
loop-x-preserved c = record {
  words =
      each-more (λ (x : ℕ) (w : RowWord). SiteState.row w ≡ row_state c.args.state.now x) no_row _ _ _ _ c.in_ok-push.ensures.items c.loop-x.invariant.long
      c.row_word.ensures c.loop-x.invariant.words;
  long = rw c.in_ok-push.ensures.items (omega (arith, length-append {A = RowWord}, c.loop-x.invariant.long));
}
