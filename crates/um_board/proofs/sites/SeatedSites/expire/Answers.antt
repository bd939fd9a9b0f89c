use Rattle.std.proofs.Common.{rules, arith, ◌≡◌, ◌∙◌, ap, refl, subst, ℕ, Bool, List}
use Rattle.um_base.specs.declared.ask.Told.{Told}
use Rattle.um_base.specs.declared.names.Addr.{Addr}
use Rattle.um_base.specs.declared.names.ThreadIx.{ThreadIx}
use Rattle.um_fine.specs.Cells.{Cell}
use Rattle.um_fine.specs.Steps.{Exchange, Site}
use Rattle.um_machine.specs.Order.{to_row}
use Rattle.um_tables.proofs.Looked.{Expires, expired-at-timer}
use Rattle.um_tables.specs.ObjectCells.{expiry, kept_in}
use Rattle.um_tables.specs.declared.object_cell.ObjectCell.{ObjectCell}
use Rattle.um_words.specs.declared.fine.Mark.{Mark}
use Rattle.um_board.proofs.CellKinds.{object-kind}
use Rattle.um_board.proofs.CellSteps.{cell-takes}
use Rattle.um_board.proofs.Keeping.{noted-then}
use Rattle.um_board.proofs.NextRuns.{next-then}
use Rattle.um_board.proofs.sites.SeatedSites.expire.Goals as goal

-- what comes of the timer, as of the cell that was kept
expires-of : (o d : ObjectCell) (t : ThreadIx) (a : Addr) (x deadline : ℕ) (z : ObjectCell) (woken : List (ThreadIx × Told)) (found : Bool) → o ≡ d → Expires o t a x deadline z woken found → Expires d t a x deadline z woken found
expires-of o d t a x deadline z woken found was = subst (λ (y : ObjectCell). Expires y t a x deadline z woken found) was

pub turn-requires-clause-site : goal.turn-requires-clause-site
turn-requires-clause-site c = (omega arith, let low = c.requires.row in omega (arith, low), object-kind c.args.row.0 c.requires.row)

pub leave_cell-requires-clause-takes : goal.leave_cell-requires-clause-takes
leave_cell-requires-clause-takes c =
    let d = c.in-Some.turn.before.value in
    let was : c.in-Some.cell ≡ d = search rules in
    let e = c.expire-found.ensures in
    let comes = expires-of c.in-Some.cell d c.args.thread c.args.addr c.args.row.0 c.args.deadline c.expire-found.new.self c.expire-found.new.woken c.expire-found.result was (expired-at-timer c.in-Some.cell c.args.thread c.args.addr c.args.row.0 c.args.deadline c.expire-found.new.self c.expire-found.new.woken c.expire-found.result e.found e.left e.kept) in
    cell-takes c.args.here.now.image.now c.args.here.now.cpu (Site.object c.args.row.0) c.in-Some.turn.number (Cell.object (kept_in d)) _ (expiry c.args.thread c.args.addr) (Exchange.mark c.args.deadline (Mark.Timer (to_row c.args.row.0))) c.in-Some.ensures.turn.1.turn.room comes.comes.takes_it (ap Cell.object comes.comes.leaves)

pub leave_cell-requires-clause-event : goal.leave_cell-requires-clause-event
leave_cell-requires-clause-event c =
    let d = c.in-Some.turn.before.value in
    let was : c.in-Some.cell ≡ d = search rules in
    let e = c.expire-found.ensures in
    let comes = expires-of c.in-Some.cell d c.args.thread c.args.addr c.args.row.0 c.args.deadline c.expire-found.new.self c.expire-found.new.woken c.expire-found.result was (expired-at-timer c.in-Some.cell c.args.thread c.args.addr c.args.row.0 c.args.deadline c.expire-found.new.self c.expire-found.new.woken c.expire-found.result e.found e.left e.kept) in
    c.expired-event.ensures ∙ comes.comes.event_is

pub leave_cell-requires-clause-goes : goal.leave_cell-requires-clause-goes
leave_cell-requires-clause-goes c = next-then _ _ _ _ _ _ c.in-Some.ensures.unnoted (c.requires.goes c.in-Some.turn.number (kept_in c.in-Some.turn.before.value))

pub returns-clause-said : goal.returns-clause-said
returns-clause-said c =
    let d = c.in-Some.turn.before.value in
    let was : c.in-Some.cell ≡ d = search rules in
    let e = c.expire-found.ensures in
    let comes = expires-of c.in-Some.cell d c.args.thread c.args.addr c.args.row.0 c.args.deadline c.expire-found.new.self c.expire-found.new.woken c.expire-found.result was (expired-at-timer c.in-Some.cell c.args.thread c.args.addr c.args.row.0 c.args.deadline c.expire-found.new.self c.expire-found.new.woken c.expire-found.result e.found e.left e.kept) in
    (c.in-Some.turn.number, kept_in d, noted-then _ _ _ _ _ _ _ c.in-Some.ensures.unnoted c.leave_cell.ensures.made, (comes.comes.found_is, comes.woken_is))

pub returns-in_default-clause-said : goal.returns-in_default-clause-said
returns-in_default-clause-said c = (c.turn.ensures.unnoted, c.in_default.ensures.turn.1, refl)
