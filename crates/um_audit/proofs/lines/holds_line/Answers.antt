use Rattle.um_audit.proofs.LineLemmas.{holds-line}
use Rattle.um_audit.proofs.lines.holds_line.Goals as goal

pub returns-then-last-eq10 : goal.returns-then-last-eq10
returns-then-last-eq10 c =
    let cut = c.in-Some.ensures in holds-line c.args.room.now c.in-Some.front.now c.args.line.now c.in-Some.last.now c.eq.result cut.cases.0 c.if-last-eq10.true c.eq.ensures
