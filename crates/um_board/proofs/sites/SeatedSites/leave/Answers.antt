use Rattle.std.proofs.Common.{rules, ◌≡◌, ◌∙◌, ap, refl}
use Rattle.um_fine.specs.Cells.{Cell}
use Rattle.um_fine.specs.Joins.{Joins}
use Rattle.um_fine.specs.Joins.{all_joined, is_joined, shut_down}
use Rattle.um_fine.specs.Steps.{Exchange, Site}
use Rattle.um_tables.proofs.Parting.{leaves-joins}
use Rattle.um_words.specs.declared.fine.FineAct.{FineAct}
use Rattle.um_words.specs.declared.fine.Unseen.{Unseen}
use Rattle.um_board.proofs.CellSteps.{cell-takes}
use Rattle.um_board.proofs.Keeping.{noted-then}
use Rattle.um_board.proofs.NextRuns.{next-then}
use Rattle.um_board.proofs.sites.SeatedSites.leave.Goals as goal

pub leave_cell-requires-clause-takes : goal.leave_cell-requires-clause-takes
leave_cell-requires-clause-takes c =
    let d = c.in-Some.turn.before.value.value in
    let was : c.deref_mut.result.now ≡ d = search rules in
    let e = c.leave-joined.ensures in
    let who = c.args.who in
    let comes = leaves-joins d who c.leave-joined.new.self c.leave-joined.new.woken c.leave-joined.result (e.joined ∙ ap (λ (j : Joins). is_joined j who.0) was) (e.woken ∙ ap (λ (j : Joins). all_joined j who.0) was) (e.left ∙ ap (λ (j : Joins). shut_down j who.0) was) in
    cell-takes c.args.here.now.image.now c.args.here.now.cpu Site.joins c.in-Some.turn.number (Cell.joins d) _ (FineAct.Unseen (Unseen.Shut who)) Exchange.nothing c.in-Some.ensures.turn.1.turn.room comes.takes_it (ap Cell.joins comes.leaves)

pub leave_cell-requires-clause-event : goal.leave_cell-requires-clause-event
leave_cell-requires-clause-event c =
    let d = c.in-Some.turn.before.value.value in
    let was : c.deref_mut.result.now ≡ d = search rules in
    let e = c.leave-joined.ensures in
    let who = c.args.who in
    let comes = leaves-joins d who c.leave-joined.new.self c.leave-joined.new.woken c.leave-joined.result (e.joined ∙ ap (λ (j : Joins). is_joined j who.0) was) (e.woken ∙ ap (λ (j : Joins). all_joined j who.0) was) (e.left ∙ ap (λ (j : Joins). shut_down j who.0) was) in
    c.left-event.ensures ∙ comes.event_is

pub leave_cell-requires-clause-goes : goal.leave_cell-requires-clause-goes
leave_cell-requires-clause-goes c = next-then _ _ _ _ _ _ c.in-Some.ensures.unnoted (c.requires.goes c.in-Some.turn.number c.in-Some.turn.before.value.value)

pub returns-clause-said : goal.returns-clause-said
returns-clause-said c =
    let d = c.in-Some.turn.before.value.value in
    let was : c.deref_mut.result.now ≡ d = search rules in
    let e = c.leave-joined.ensures in
    let who = c.args.who in
    let comes = leaves-joins d who c.leave-joined.new.self c.leave-joined.new.woken c.leave-joined.result (e.joined ∙ ap (λ (j : Joins). is_joined j who.0) was) (e.woken ∙ ap (λ (j : Joins). all_joined j who.0) was) (e.left ∙ ap (λ (j : Joins). shut_down j who.0) was) in
    (c.in-Some.turn.number, d, noted-then _ _ _ _ _ _ _ c.in-Some.ensures.unnoted c.leave_cell.ensures.made, (comes.joined_is, comes.woken_is))

pub returns-in_default-clause-said : goal.returns-in_default-clause-said
returns-in_default-clause-said c = (c.turn.ensures.unnoted, c.in_default.ensures.turn.1, refl)
