use Rattle.um_site.proofs.Moves.{splits}
use Rattle.um_site.proofs.board.Board.split.Goals as goal

pub split_seat-token-requires : goal.split_seat-token-requires
split_seat-token-requires g c = let key = c.args.self.now.table.shared.key in
    (c.requires.here, c.requires.words, splits g.T.Content.opens g.T.Content.follows g.L.Local.goes key.0.value key.1.value.items _ _ c.args.seat.now.live)
