use Rattle.std.proofs.Common.{rules, ℕ, ◌≡◌, ◌<◌, ◌∙◌, ap, refl, subst, sym}
use Rattle.um_base.specs.Weight.{weight}
use Rattle.um_fine.specs.Cells.{Cell}
use Rattle.um_fine.specs.Clock.{settle_first}
use Rattle.um_fine.specs.Steps.{Exchange, Site}
use Rattle.um_tables.specs.Timed.{Timed, with_marks}
use Rattle.um_words.specs.declared.fine.FineAct.{FineAct}
use Rattle.um_words.specs.declared.fine.Unseen.{Unseen}
use Rattle.um_board.proofs.CellSteps.{cell-takes}
use Rattle.um_board.proofs.Keeping.{noted-then}
use Rattle.um_board.proofs.NextRuns.{next-then}
use Rattle.um_board.proofs.sites.SeatedSites.settle.Goals as goal

pub leave_cell-requires-clause-takes : goal.leave_cell-requires-clause-takes
leave_cell-requires-clause-takes c =
    let d = c.in-Some.turn.before.value.value in
    let was : c.deref_mut.result.now ≡ d = search rules in
    let left = c.settle.ensures.left ∙ ap (λ (t : Timed). with_marks t (settle_first c.args.deadline c.args.mark t.clock.marks)) was in
    cell-takes c.args.here.now.image.now c.args.here.now.cpu Site.clock c.in-Some.turn.number (Cell.clock d.clock) _ (FineAct.Unseen Unseen.Settle) (Exchange.mark c.args.deadline c.args.mark) c.in-Some.ensures.turn.1.turn.room refl (ap (λ (t : Timed). Cell.clock t.clock) left)

pub leave_cell-requires-clause-goes : goal.leave_cell-requires-clause-goes
leave_cell-requires-clause-goes c = next-then _ _ _ _ _ _ c.in-Some.ensures.unnoted (c.requires.goes c.in-Some.turn.number c.in-Some.turn.before.value.value.clock)

pub returns-clause-said : goal.returns-clause-said
returns-clause-said c =
    let d = c.in-Some.turn.before.value.value in
    let was : c.deref_mut.result.now ≡ d = search rules in
    let left = c.settle.ensures.left ∙ ap (λ (t : Timed). with_marks t (settle_first c.args.deadline c.args.mark t.clock.marks)) was in
    (c.in-Some.turn.number, d.clock, noted-then _ _ _ _ _ _ _ c.in-Some.ensures.unnoted c.leave_cell.ensures.made)

pub returns-in_default-clause-said : goal.returns-in_default-clause-said
returns-in_default-clause-said c = (c.turn.ensures.unnoted, c.in_default.ensures.turn.1)

pub leave_cell-requires-clause-room : goal.leave_cell-requires-clause-room
leave_cell-requires-clause-room c =
    let d = c.in-Some.turn.before.value.value in
    let was : c.deref_mut.result.now ≡ d = search rules in
    let marks = c.in-Some.ensures.turn.1.marks in
    let most : c.settle.new.self.most ≡ d.most = ap (λ (t : Timed). t.most) (c.settle.ensures.left) ∙ ap (λ (t : Timed). t.most) was in
    subst (λ (n : ℕ). weight c.args.here.now.image.now < n) (sym most) marks
