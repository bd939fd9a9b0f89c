use Rattle.std.proofs.Common.{None, ap, sym, subst, ◌∙◌}
use Rattle.um_site.specs.Tells.{HasTurn}
use Rattle.um_board.specs.Contents.{Follows, Known, Opens, known}
use Rattle.um_board.proofs.Keeping.{gave-turn}
use Rattle.um_board.proofs.seated.Seated.put_back.Goals as goal

pub put_quiet-requires-clause-held : goal.put_quiet-requires-clause-held
put_quiet-requires-clause-held g c =
    let is = c.new-contents.ensures ∙ ap (known c.args.image.now) (c.into_kept.ensures.cell ∙ c.requires.same) in
    subst (λ (x : Known). HasTurn Opens Follows c.args.self.now.seat.token.me c.args.site c.args.turn.word None x) (sym is) c.requires.turn.turn

pub returns-clause-unnoted : goal.returns-clause-unnoted
returns-clause-unnoted g c = gave-turn _ _ _ _ _ c.put_quiet.ensures.same c.put_quiet.ensures.told.1
