use Rattle.std.proofs.Common.{inr}
use Rattle.um_site.proofs.Moves.{return_allowed}
use Rattle.um_site.proofs.board.Board.give_back.Goals as goal

pub store-requires : goal.store-requires
store-requires g c = let key = c.args.self.now.table.shared.key in let turn = c.requires.held.1 in let me = c.args.seat.now.token.me in (
  c.requires.here,
  c.requires.site,
  return_allowed g.T.Content.opens g.T.Content.follows g.L.Local.goes key.0.value key.1.value.items _ _ me turn.turn _ _ _ _ me.0.filled c.args.seat.now.live turn.has turn.site turn.at turn.slot turn.contents (λ i a. inr a),
)
