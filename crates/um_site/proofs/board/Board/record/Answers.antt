use Rattle.std.proofs.Common.{sym, subst}
use Rattle.um_words.specs.Steps.{WordMay}
use Rattle.um_words.specs.declared.made.Made.{Made}
use Rattle.um_site.proofs.Moves.{record_allowed}
use Rattle.um_site.proofs.board.Board.record.Goals as goal

pub store-requires : goal.store-requires
store-requires g c = let key = c.args.self.now.table.shared.key in let held = c.requires.held in let turn = held.3 in let e = g.D.Step.made in let v = c.args.seat.now.token.me.0 in
    let m : Made = record { site = c.args.cell; act = e.act; word = c.args.word; moved = e.moved } in (
      c.requires.here,
      c.requires.site,
      record_allowed g.T.Content.opens g.T.Content.follows g.L.Local.goes key.0.value key.1.value.items _ _ _ turn.turn m e held.1 held.2 _ c.requires.step c.args.seat.now.live turn.has turn.site
          turn.slot turn.contents held.5 (subst (λ n. WordMay m.site n m.act m.word) (sym turn.at) held.4) (subst (λ (z : Made). g.L.Local.goes v.image v.name v.made z) c.requires.step c.requires.goes),
    )
