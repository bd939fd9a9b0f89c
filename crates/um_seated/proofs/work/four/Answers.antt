use Rattle.um_seated.proofs.Again.{again}
use Rattle.um_seated.proofs.work.four.Goals as goal

pub returns-clause-kin : goal.returns-clause-kin
returns-clause-kin g c = let a = c.join-mine.result.0.0.token.me.0 in let b = c.join-mine.result.1.0.token.me.0 in
    again c.args.seat.token.me.0 c.split-other.new.seat.token.me.0 c.split-other.result.token.me.0 a b c.join.new.seat.token.me.0 c.split-other.ensures.kept c.split-other.ensures.new.1
    c.join-mine.ensures.first.1.0 c.join-mine.ensures.first.1.1 c.join-mine.ensures.second.1.0 c.join-mine.ensures.second.1.1 c.join.ensures.both
