use Rattle.std.proofs.Common.{sym, ap, ◌∙◌}
use Rattle.um_fine.specs.Sites.{SiteState}
use Rattle.um_board.specs.Contents.{Known}
use Rattle.um_board.proofs.FirstCells.{one-more}
use Rattle.um_board.proofs.first_contents.add.Goals as goal

pub returns-clause-first : goal.returns-clause-first
returns-clause-first c =
    one-more c.args.image.now c.args.all.now.items _ c.new.result c.in_ok-push.ensures.items c.requires.first
    (record { of = ap (λ (k : Known). k.image) c.new.ensures; first = c.requires.opens ∙ ap (λ (k : Known). SiteState.cell 0 k.cell) (sym c.new.ensures) })
