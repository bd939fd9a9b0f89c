use Rattle.std.proofs.Common.{◌≡◌, ◌*◌, ◌∙◌, arith, length}
use Rattle.um_board.proofs.FirstWords.{cell-number, scheduler-value}
use Rattle.um_board.proofs.first_words.scheduler_word.Goals as goal

pub returns : goal.returns
returns c =
    let word = c.pack.ensures.value in let many = c.len.ensures.value in let few = c.len.ensures.few in
    let is : c.pack.result ≡ 2 * length c.args.image.now.boots = omega (arith, word, many, few) in
    record {
      value = is ∙ omega arith ∙ scheduler-value c.args.image.now;
      unstepped = cell-number 306 c.pack.result (omega arith) (omega (arith, word, few));
      free = λ high. omega (arith, is);
    }
