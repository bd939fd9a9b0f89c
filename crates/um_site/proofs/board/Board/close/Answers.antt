use Rattle.std.proofs.Common.{◌≡◌, true, false, length, not, Bool, refl, ap, sym, arith}
use Rattle.um_site.proofs.Moves.{shadows, closes, closes_cells}
use Rattle.um_site.proofs.board.Board.close.Goals as goal

pub split_seat-shadow-requires : goal.split_seat-shadow-requires
split_seat-shadow-requires g c = let key = c.args.self.table.shared.key in
    (c.requires.here, c.requires.words, shadows g.T.Content.opens g.T.Content.follows g.L.Local.goes key.0.value key.1.value.items _ _)

not_false : (b : Bool) → not b ≡ false → b ≡ true
not_false true e = refl
not_false false e = sym e

pub returns-clause-closed : goal.returns-clause-closed
returns-clause-closed g c = let key = c.args.self.table.shared.key in let v = c.args.seat.token.me.0 in let is = ap (λ m. m.0) c.split_seat-shadow.ensures.2 in
    let first : c.args.seat.first ≡ true = not_false c.args.seat.first c.if-not-seat.false in
    let fin = c.close_with-table.ensures.values.2 in
    let none : length v.children ≡ 0 = let a = c.args.seat.counted in let b = c.if-seat.false in omega arith in (
      ap (λ m. m.0) c.split_seat-shadow.ensures.4,
      c.close_with-table.ensures.values.0,
      closes g.T.Content.opens g.T.Content.follows g.L.Local.goes key.0.value key.1.value.items _ v _ _ c.args.seat.live (c.args.seat.is_first first) none (rw is at fin),
    )

pub returns-clause-cells : goal.returns-clause-cells
returns-clause-cells g c = let key = c.args.self.table.shared.key in let v = c.args.seat.token.me.0 in let is = ap (λ m. m.0) c.split_seat-shadow.ensures.2 in
    let first : c.args.seat.first ≡ true = not_false c.args.seat.first c.if-not-seat.false in
    let fin = c.close_with-table.ensures.values.2 in
    let none : length v.children ≡ 0 = let a = c.args.seat.counted in let b = c.if-seat.false in omega arith in
    λ idle. closes_cells g.T.Content.opens g.T.Content.follows g.L.Local.goes key.0.value key.1.value.items _ v _ _ c.args.seat.live (c.args.seat.is_first first) none idle (rw is at fin)
