use Rattle.std.proofs.Common.{rules, ◌≡◌, ◌∙◌, ap, refl, sym, None, slice_set}
use Rattle.um_fine.specs.Cells.{Cell}
use Rattle.um_fine.specs.Joins.{Joins}
use Rattle.um_fine.specs.Joins.{asleep_at, sleeps}
use Rattle.um_fine.specs.Steps.{Exchange, Site}
use Rattle.um_tables.proofs.Parting.{rouses}
use Rattle.um_words.specs.declared.fine.FineAct.{FineAct}
use Rattle.um_words.specs.declared.fine.Unseen.{Unseen}
use Rattle.um_board.proofs.CellSteps.{cell-takes}
use Rattle.um_board.proofs.Keeping.{noted-then}
use Rattle.um_board.proofs.NextRuns.{next-then}
use Rattle.um_board.proofs.sites.SeatedSites.rouse.Goals as goal

pub leave_cell-requires-clause-takes : goal.leave_cell-requires-clause-takes
leave_cell-requires-clause-takes c =
    let d = c.in-Some.turn.before.value.value in
    let was : c.deref_mut.result.now ≡ d = search rules in
    let e = c.rouse-found.ensures in
    let who = c.args.who in
    let own = c.rouse-found.new.context.value in
    let comes = rouses d who c.rouse-found.new.self own c.rouse-found.result (e.found ∙ ap (λ (j : Joins). sleeps j who.0) was) (λ is. ap (λ (j : Joins). asleep_at j who.0) (sym was) ∙ e.taken is) (e.left ∙ ap (λ (j : Joins). record j { asleep = slice_set j.asleep who.0 None }) was) in
    cell-takes c.args.here.now.image.now c.args.here.now.cpu Site.joins c.in-Some.turn.number (Cell.joins d) _ (FineAct.Unseen (Unseen.Rouse who)) Exchange.nothing c.in-Some.ensures.turn.1.turn.room comes.takes_it (ap Cell.joins comes.leaves)

pub leave_cell-requires-clause-event : goal.leave_cell-requires-clause-event
leave_cell-requires-clause-event c =
    let d = c.in-Some.turn.before.value.value in
    let was : c.deref_mut.result.now ≡ d = search rules in
    let e = c.rouse-found.ensures in
    let who = c.args.who in
    let own = c.rouse-found.new.context.value in
    let comes = rouses d who c.rouse-found.new.self own c.rouse-found.result (e.found ∙ ap (λ (j : Joins). sleeps j who.0) was) (λ is. ap (λ (j : Joins). asleep_at j who.0) (sym was) ∙ e.taken is) (e.left ∙ ap (λ (j : Joins). record j { asleep = slice_set j.asleep who.0 None }) was) in
    sym comes.no_event

pub leave_cell-requires-clause-goes : goal.leave_cell-requires-clause-goes
leave_cell-requires-clause-goes c = next-then _ _ _ _ _ _ c.in-Some.ensures.unnoted (c.requires.goes c.in-Some.turn.number c.in-Some.turn.before.value.value)

pub returns-clause-said : goal.returns-clause-said
returns-clause-said c =
    let d = c.in-Some.turn.before.value.value in
    let was : c.deref_mut.result.now ≡ d = search rules in
    let e = c.rouse-found.ensures in
    let who = c.args.who in
    let own = c.rouse-found.new.context.value in
    let comes = rouses d who c.rouse-found.new.self own c.rouse-found.result (e.found ∙ ap (λ (j : Joins). sleeps j who.0) was) (λ is. ap (λ (j : Joins). asleep_at j who.0) (sym was) ∙ e.taken is) (e.left ∙ ap (λ (j : Joins). record j { asleep = slice_set j.asleep who.0 None }) was) in
    (c.in-Some.turn.number, d, noted-then _ _ _ _ _ _ _ c.in-Some.ensures.unnoted c.leave_cell.ensures.made, (comes.found_is, comes.roused))

pub returns-in_default-clause-said : goal.returns-in_default-clause-said
returns-in_default-clause-said c = (c.turn.ensures.unnoted, c.in_default.ensures.turn.1, refl)
