use Rattle.std.proofs.Common.{arith, length, ap, ◌∙◌}
use Rattle.um_site.proofs.Joining.{joiner_children}
use Rattle.um_site.proofs.Moves.{joins}
use Rattle.um_site.proofs.board.Board.join.Goals as goal

pub join_seat-requires : goal.join_seat-requires
join_seat-requires g c = let key = c.args.self.now.table.shared.key in
    (c.requires.here.0, c.requires.here.1, c.requires.empty.0, c.requires.words, joins g.T.Content.opens g.T.Content.follows g.L.Local.goes key.0.value key.1.value.items _ _ _ _ c.args.seat.now.live c.args.other.live c.requires.out c.requires.empty.1)

pub invariant_of-seat : goal.invariant_of-seat
invariant_of-seat g c = let is = ap (λ m. m.0) c.join_seat.ensures.2 in let v = c.args.seat.now.token.me.0 in let w = c.args.other.token.me.0 in record {
  live = ap (λ u. u.live) is ∙ c.args.seat.now.live;
  counted = let k = joiner_children v w c.requires.out in let n = ap (λ u. length u.children) is in let a = c.args.seat.now.counted in let b = c.args.other.counted in omega arith;
  is_first = λ f. ap (λ u. u.name) is ∙ c.args.seat.now.is_first f;
}
