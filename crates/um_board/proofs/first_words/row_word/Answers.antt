use Rattle.um_board.proofs.FirstWords.{row-fits, row-here, row-packed}
use Rattle.um_board.proofs.first_words.row_word.Goals as goal

pub pack-requires : goal.pack-requires
pack-requires c = let a = c.args in let i = c.index-rows-row in let r = c.requires in
    row-fits a.image.now a.row i.result (row-here a.image.now a.rows.now a.row i.result _ r.rows r.all r.site i.is)

pub returns : goal.returns
returns c = let a = c.args in let i = c.index-rows-row in let r = c.requires in
    row-packed a.image.now a.row c.pack.result i.result c.pack.ensures.back c.pack.ensures.value r.site (row-here a.image.now a.rows.now a.row i.result _ r.rows r.all r.site i.is)
