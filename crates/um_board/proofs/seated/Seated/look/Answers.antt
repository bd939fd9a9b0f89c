use Rattle.std.proofs.Common.{refl}
use Rattle.um_board.proofs.Keeping.{looked-at}
use Rattle.um_board.proofs.seated.Seated.look.Goals as goal

pub returns-clause-unnoted : goal.returns-clause-unnoted
returns-clause-unnoted c =
    let e = c.look.ensures in
    looked-at _ _ _ _ _ (e.same.0, e.same.1, e.counts.0, e.counts.1, e.counts.2) e.told.2

pub returns-clause-saw : goal.returns-clause-saw
returns-clause-saw c =
    record { view = c.args.self.now.seat.token.me.0; of = record { image = refl; opening = refl; name = refl; made = refl; children = refl; lists = refl; filled = refl }; moment = c.look.ensures.moment }
