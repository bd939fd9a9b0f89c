use Rattle.std.proofs.Common.{◌<◌, subst}
use Rattle.um_words.specs.declared.made.Made.{Made}
use Rattle.um_site.specs.Tells.{made}
use Rattle.um_site.proofs.Moves.{exchanges}
use Rattle.um_site.proofs.board.Board.exchange.Goals as goal

pub compare_exchange-requires : goal.compare_exchange-requires
compare_exchange-requires g c = let key = c.args.self.now.table.shared.key in let e = g.D.Step.made in let m = made c.args.site e.act c.args.word in let v = c.args.seat.now.token.me.0 in (
  c.requires.here,
  c.requires.site,
  exchanges g.T.Content.opens g.T.Content.follows g.L.Local.goes key.0.value key.1.value.items _ _ _ m e c.args.seen c.requires.step c.args.seat.now.live
      (subst (λ n. c.args.site < n) c.args.self.now.sized c.requires.site) c.requires.low c.requires.lawful (subst (λ (z : Made). g.L.Local.goes v.image v.name v.made z) c.requires.step c.requires.goes),
)
