use Rattle.std.proofs.Common.{◌<◌, subst}
use Rattle.um_site.proofs.Moves.{looks}
use Rattle.um_site.proofs.board.Board.look.Goals as goal

pub load-requires : goal.load-requires
load-requires g c = let key = c.args.self.now.table.shared.key in
    (c.requires.here, c.requires.site, looks g.T.Content.opens g.T.Content.follows g.L.Local.goes key.0.value key.1.value.items _ _ _ _ c.args.seat.now.live (subst (λ n. c.args.site < n) c.args.self.now.sized c.requires.site))
