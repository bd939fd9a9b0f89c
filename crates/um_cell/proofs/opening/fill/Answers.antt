use Rattle.um_cell.proofs.Turns.{opened_held}
use Rattle.um_cell.proofs.opening.fill.Goals as goal

pub give_filled-requires-clause-held : goal.give_filled-requires-clause-held
give_filled-requires-clause-held g c = let told = c.reach_turn-word.ensures.told in (
  c.args.contents,
  opened_held g.T.Content.opens g.T.Content.follows c.args.seat.now.token.me.0 c.args.cell c.reach_turn-word.result c.reach_turn-word.new.seat.token.me c.exchange-old.new.seat.me _ _ c.args.contents
      _ told.1.0 told.2 told.1.1 c.exchange-old.ensures.2 c.exchange-old.ensures.3 c.requires.opens,
)
