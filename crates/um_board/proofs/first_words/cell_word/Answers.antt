use Rattle.std.proofs.Common.{refl, sym, arith}
use Rattle.um_board.proofs.FirstWords.{cell-number, cell-value}
use Rattle.um_board.proofs.first_words.cell_word.Goals as goal

pub returns : goal.returns
returns c = let s = c.requires.site in
    record { value = sym (cell-value c.args.image.now c.args.site s.0 s.1 s.2); unstepped = cell-number c.args.site 0 s.0 (omega arith); free = λ high. refl }
