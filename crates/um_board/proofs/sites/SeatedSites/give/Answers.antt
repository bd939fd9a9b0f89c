use Rattle.std.proofs.Common.{rules, ℕ, ◌≡◌, ◌<◌, ◌∙◌, ap, refl, subst, sym, arith, Some}
use Rattle.um_base.specs.Weight.{weight}
use Rattle.um_fine.specs.Cells.{Cell}
use Rattle.um_fine.specs.Clock.{first_due, give_first}
use Rattle.um_fine.specs.Steps.{Exchange, Site}
use Rattle.um_tables.proofs.Timing.{given-is, none-given}
use Rattle.um_tables.specs.Timed.{Timed, with_marks}
use Rattle.um_tables.specs.Timed.{given_of}
use Rattle.um_words.specs.declared.fine.FineAct.{FineAct}
use Rattle.um_words.specs.declared.fine.Unseen.{Unseen}
use Rattle.um_board.proofs.CellSteps.{cell-takes}
use Rattle.um_board.proofs.Keeping.{noted-then}
use Rattle.um_board.proofs.NextRuns.{next-then}
use Rattle.um_board.proofs.Saws.{refused}
use Rattle.um_board.proofs.sites.SeatedSites.give.Goals as goal

pub leave_cell-requires-clause-takes : goal.leave_cell-requires-clause-takes
leave_cell-requires-clause-takes c =
    let d = c.in-Some.turn.before.value.value in
    let was : c.deref_mut.result.now ≡ d = search rules in
    let given : Some c.in-Some-give.given ≡ given_of (first_due d.clock.now d.clock.marks) = c.in-Some-give.ensures.given ∙ ap (λ (t : Timed). given_of (first_due t.clock.now t.clock.marks)) was in
    let is = given-is (first_due d.clock.now d.clock.marks) c.in-Some-give.given given in
    cell-takes c.args.here.now.image.now c.args.here.now.cpu Site.clock c.in-Some.turn.number (Cell.clock d.clock) _ (FineAct.Unseen Unseen.Due) Exchange.nothing c.in-Some.ensures.turn.1.turn.room is.0 (ap (λ (t : Timed). Cell.clock t.clock) (c.in-Some-give.ensures.left ∙ ap (λ (t : Timed). with_marks t (give_first t.clock.now t.clock.marks)) was))

pub leave_cell-requires-clause-goes : goal.leave_cell-requires-clause-goes
leave_cell-requires-clause-goes c = next-then _ _ _ _ _ _ c.in-Some.ensures.unnoted (c.requires.goes c.in-Some.turn.number c.in-Some.turn.before.value.value.clock)

pub returns-clause-said : goal.returns-clause-said
returns-clause-said c =
    let d = c.in-Some.turn.before.value.value in
    let was : c.deref_mut.result.now ≡ d = search rules in
    let given : Some c.in-Some-give.given ≡ given_of (first_due d.clock.now d.clock.marks) = c.in-Some-give.ensures.given ∙ ap (λ (t : Timed). given_of (first_due t.clock.now t.clock.marks)) was in
    let is = given-is (first_due d.clock.now d.clock.marks) c.in-Some-give.given given in
    (c.in-Some.turn.number, d.clock, noted-then _ _ _ _ _ _ _ c.in-Some.ensures.unnoted c.leave_cell.ensures.made, is.1)

pub returns-in_default-clause-said : goal.returns-in_default-clause-said
returns-in_default-clause-said c = (c.turn.ensures.unnoted, c.in_default.ensures.turn.1)

pub leave_cell-requires-clause-room : goal.leave_cell-requires-clause-room
leave_cell-requires-clause-room c =
    let d = c.in-Some.turn.before.value.value in
    let was : c.deref_mut.result.now ≡ d = search rules in
    let marks = c.in-Some.ensures.turn.1.marks in
    let most : c.give.new.self.most ≡ d.most = ap (λ (t : Timed). t.most) (c.in-Some-give.ensures.left) ∙ ap (λ (t : Timed). t.most) was in
    subst (λ (n : ℕ). weight c.args.here.now.image.now < n) (sym most) marks

pub returns-in-None-clause-said : goal.returns-in-None-clause-said
returns-in-None-clause-said c =
    let d = c.in-Some.turn.before.value.value in
    let was : c.deref_mut.result.now ≡ d = search rules in
    let t = c.in-Some.ensures.turn.1 in
    let denied = none-given (first_due d.clock.now d.clock.marks) (c.in-None.ensures.given ∙ ap (λ (t : Timed). given_of (first_due t.clock.now t.clock.marks)) was) in
    let shut = refused c.args.here.now.image.now c.args.here.now.cpu Site.clock c.in-Some.turn.number _ (Cell.clock d.clock) (FineAct.Unseen Unseen.Due) Exchange.nothing _ _ _ _ _ _ c.in-Some.ensures.unnoted c.put_back.ensures.unnoted (omega arith) t.turn.says t.got t.saw denied in
    (c.in-Some.turn.number, d.clock, shut.0, shut.1)

pub put_back-requires-clause-same : goal.put_back-requires-clause-same
put_back-requires-clause-same c =
    let d = c.in-Some.turn.before.value.value in
    let was : c.deref_mut.result.now ≡ d = search rules in
    ap (λ (t : Timed). Cell.clock t.clock) (c.in-None.ensures.none refl ∙ was)

pub put_back-requires-clause-room : goal.put_back-requires-clause-room
put_back-requires-clause-room c =
    let d = c.in-Some.turn.before.value.value in
    let was : c.deref_mut.result.now ≡ d = search rules in
    let most = ap (λ (t : Timed). t.most) (c.in-None.ensures.none refl ∙ was) in
    subst (λ (n : ℕ). weight c.args.here.now.image.now < n) (sym most) c.in-Some.ensures.turn.1.marks
