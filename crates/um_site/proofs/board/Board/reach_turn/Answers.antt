use Rattle.std.proofs.Common.{◌≡◌, ◌<◌, length, subst, arith}
use Rattle.um_site.proofs.Moves.{reach_allowed}
use Rattle.um_site.proofs.board.Board.reach_turn.Goals as goal

pub fetch_or-requires : goal.fetch_or-requires
fetch_or-requires g c = let key = c.args.self.now.table.shared.key in let seat = c.args.seat.now in
    let none : length seat.token.me.0.children ≡ 0 = let a = seat.counted in let b = c.requires.alone.1 in omega arith in (
      c.requires.here,
      c.requires.cell.1,
      reach_allowed g.T.Content.opens g.T.Content.follows g.L.Local.goes key.0.value key.1.value.items _ _ _ _ seat.live (seat.is_first c.requires.alone.0) none c.requires.idle c.requires.cell.0
          (subst (λ n. c.args.cell < n) c.args.self.now.sized c.requires.cell.1) c.requires.cell.2 c.requires.unstepped.0 c.requires.unstepped.1,
    )
