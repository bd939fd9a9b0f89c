use Rattle.um_board.specs.Saw.{Hinders, OthersAt}
use Rattle.um_board.proofs.Keeping.{unnoted-then}
use Rattle.um_board.proofs.Saws.{asked-first, got-one}
use Rattle.um_board.proofs.seated.Seated.turn.Goals as goal

pub returns-then-look-eq1-clause-turn : goal.returns-then-look-eq1-clause-turn
returns-then-look-eq1-clause-turn g c =
    (c.look.ensures.image, Hinders.others (OthersAt.out _ c.requires.site.0 (got-one _ _ _ _ c.look.ensures.got) c.if-look-eq1.true))

pub returns-clause-unnoted : goal.returns-clause-unnoted
returns-clause-unnoted g c = unnoted-then _ _ _ _ _ _ c.look.ensures.unnoted c.turn_at_once.ensures.unnoted

pub returns-clause-turn : goal.returns-clause-turn
returns-clause-turn g c =
    asked-first g.K.Kind.cell g.K.Kind.room c.args.image.now c.args.self.now c.look.new.self c.turn_at_once.new.self c.args.site c.turn_at_once.result c.look.ensures.unnoted c.look.ensures.log c.turn_at_once.ensures.turn
