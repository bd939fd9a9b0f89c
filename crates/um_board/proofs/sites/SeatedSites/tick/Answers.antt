use Rattle.std.proofs.Common.{rules, ℕ, ◌≡◌, ◌<◌, ◌∙◌, ap, subst, sym, arith, Option, Some, is_some, unwrap_or}
use Rattle.um_base.specs.Weight.{weight}
use Rattle.um_base.specs.declared.act.Act.{Act}
use Rattle.um_base.specs.declared.act.Event.{Event}
use Rattle.um_fine.specs.Cells.{Cell}
use Rattle.um_fine.specs.Steps.{Exchange, Site}
use Rattle.um_tables.specs.Asked.{by_thread}
use Rattle.um_tables.specs.ClockActs.{tick_act}
use Rattle.um_tables.specs.Timed.{Timed, later_of, with_time}
use Rattle.um_board.proofs.CellSteps.{cell-takes}
use Rattle.um_board.proofs.Keeping.{noted-then}
use Rattle.um_board.proofs.NextRuns.{next-then}
use Rattle.um_board.proofs.Saws.{refused}
use Rattle.um_board.proofs.sites.SeatedSites.tick.Goals as goal

pub leave_cell-requires-clause-takes : goal.leave_cell-requires-clause-takes
leave_cell-requires-clause-takes c =
    let d = c.in-Some.turn.before.value.value in
    let was : c.deref_mut.result.now ≡ d = search rules in
    let e = c.in-Some-tick.ensures in
    let next : Some c.in-Some-tick.now ≡ later_of d = e.next ∙ ap later_of was in
    let now = ap (λ (o : Option ℕ). unwrap_or o d.clock.now) next in
    cell-takes c.args.here.now.image.now c.args.here.now.cpu Site.clock c.in-Some.turn.number (Cell.clock d.clock) _ (tick_act c.args.thread) Exchange.nothing c.in-Some.ensures.turn.1.turn.room (sym (ap (λ (o : Option ℕ). is_some o) next))
    (ap (λ (t : Timed). Cell.clock t.clock) (e.left ∙ ap (λ (t : Timed). with_time t c.in-Some-tick.now) was) ∙ ap (λ (n : ℕ). Cell.clock (record d.clock { now = n })) now)

pub leave_cell-requires-clause-event : goal.leave_cell-requires-clause-event
leave_cell-requires-clause-event c =
    let d = c.in-Some.turn.before.value.value in
    let was : c.deref_mut.result.now ≡ d = search rules in
    let e = c.in-Some-tick.ensures in
    let next : Some c.in-Some-tick.now ≡ later_of d = e.next ∙ ap later_of was in
    let now = ap (λ (o : Option ℕ). unwrap_or o d.clock.now) next in
    ap (λ (v : Event). Some v) c.ticked.ensures ∙ ap (λ (n : ℕ). Some (by_thread c.args.thread (Act.Tick n))) now

pub leave_cell-requires-clause-goes : goal.leave_cell-requires-clause-goes
leave_cell-requires-clause-goes c = next-then _ _ _ _ _ _ c.in-Some.ensures.unnoted (c.requires.goes c.in-Some.turn.number c.in-Some.turn.before.value.value.clock)

pub returns-clause-said : goal.returns-clause-said
returns-clause-said c =
    let d = c.in-Some.turn.before.value.value in
    let was : c.deref_mut.result.now ≡ d = search rules in
    let e = c.in-Some-tick.ensures in
    let next : Some c.in-Some-tick.now ≡ later_of d = e.next ∙ ap later_of was in
    let now = ap (λ (o : Option ℕ). unwrap_or o d.clock.now) next in
    (c.in-Some.turn.number, d.clock, noted-then _ _ _ _ _ _ _ c.in-Some.ensures.unnoted c.leave_cell.ensures.made)

pub returns-in_default-clause-said : goal.returns-in_default-clause-said
returns-in_default-clause-said c = (c.turn.ensures.unnoted, c.in_default.ensures.turn.1)

pub leave_cell-requires-clause-room : goal.leave_cell-requires-clause-room
leave_cell-requires-clause-room c =
    let d = c.in-Some.turn.before.value.value in
    let was : c.deref_mut.result.now ≡ d = search rules in
    let marks = c.in-Some.ensures.turn.1.marks in
    let most : c.tick.new.self.most ≡ d.most = ap (λ (t : Timed). t.most) (c.in-Some-tick.ensures.left) ∙ ap (λ (t : Timed). t.most) was in
    subst (λ (n : ℕ). weight c.args.here.now.image.now < n) (sym most) marks

pub returns-in-None-clause-said : goal.returns-in-None-clause-said
returns-in-None-clause-said c =
    let d = c.in-Some.turn.before.value.value in
    let was : c.deref_mut.result.now ≡ d = search rules in
    let t = c.in-Some.ensures.turn.1 in
    let denied = sym (ap (λ (o : Option ℕ). is_some o) (c.in-None.ensures.next ∙ ap later_of was)) in
    let shut = refused c.args.here.now.image.now c.args.here.now.cpu Site.clock c.in-Some.turn.number _ (Cell.clock d.clock) (tick_act c.args.thread) Exchange.nothing _ _ _ _ _ _ c.in-Some.ensures.unnoted c.put_back.ensures.unnoted (omega arith) t.turn.says t.got t.saw denied in
    (c.in-Some.turn.number, d.clock, shut.0, shut.1)

pub put_back-requires-clause-same : goal.put_back-requires-clause-same
put_back-requires-clause-same c =
    let d = c.in-Some.turn.before.value.value in
    let was : c.deref_mut.result.now ≡ d = search rules in
    ap (λ (t : Timed). Cell.clock t.clock) (c.in-None.ensures.left ∙ was)

pub put_back-requires-clause-room : goal.put_back-requires-clause-room
put_back-requires-clause-room c =
    let d = c.in-Some.turn.before.value.value in
    let was : c.deref_mut.result.now ≡ d = search rules in
    let most = ap (λ (t : Timed). t.most) (c.in-None.ensures.left ∙ was) in
    subst (λ (n : ℕ). weight c.args.here.now.image.now < n) (sym most) c.in-Some.ensures.turn.1.marks
