use Rattle.std.proofs.Common.{◌≡◌, ◌-◌, ◌%◌, refl, arith}
use Rattle.um_cell.proofs.Turns.{taken}
use Rattle.um_cell.proofs.cells.Cells.take.Goals as goal

pub returns-clause-held : goal.returns-clause-held
returns-clause-held g c =
    let even : c.take_turn-word.result % 2 ≡ 0 = let odd = c.if-word-eq1.false in omega arith in
    let t = c.take_turn-word.ensures.told.0 even in
    (refl, (taken g.T.Content.opens g.T.Content.follows c.args.seat.now.token.me.0 c.args.cell c.take_turn-word.result c.take_turn-word.new.seat.token.me c.exchange.new.seat.me (c.args.cell - 168) g.L.Local.goes t.0 _ c.in-Some.contents _ t.1 t.2 c.exchange.ensures.2 c.in-Some.is c.exchange.ensures.3).0)

pub returns-clause-slots : goal.returns-clause-slots
returns-clause-slots g c =
    let even : c.take_turn-word.result % 2 ≡ 0 = let odd = c.if-word-eq1.false in omega arith in
    let t = c.take_turn-word.ensures.told.0 even in
    (taken g.T.Content.opens g.T.Content.follows c.args.seat.now.token.me.0 c.args.cell c.take_turn-word.result c.take_turn-word.new.seat.token.me c.exchange.new.seat.me (c.args.cell - 168) g.L.Local.goes t.0 _ c.in-Some.contents _ t.1 t.2 c.exchange.ensures.2 c.in-Some.is c.exchange.ensures.3).1

pub returns-clause-told : goal.returns-clause-told
returns-clause-told g c =
    let even : c.take_turn-word.result % 2 ≡ 0 = let odd = c.if-word-eq1.false in omega arith in
    let t = c.take_turn-word.ensures.told.0 even in
    (even, (taken g.T.Content.opens g.T.Content.follows c.args.seat.now.token.me.0 c.args.cell c.take_turn-word.result c.take_turn-word.new.seat.token.me c.exchange.new.seat.me (c.args.cell - 168) g.L.Local.goes t.0 _ c.in-Some.contents _ t.1 t.2 c.exchange.ensures.2 c.in-Some.is c.exchange.ensures.3).2)
