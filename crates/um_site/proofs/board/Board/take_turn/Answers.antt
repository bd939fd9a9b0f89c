use Rattle.um_site.proofs.Moves.{take_allowed}
use Rattle.um_site.proofs.board.Board.take_turn.Goals as goal

pub fetch_or-requires : goal.fetch_or-requires
fetch_or-requires g c = let key = c.args.self.now.table.shared.key in
    (c.requires.here, c.requires.site, take_allowed g.T.Content.opens g.T.Content.follows g.L.Local.goes key.0.value key.1.value.items _ _ _ _ c.args.seat.now.live c.requires.idle c.requires.full)
