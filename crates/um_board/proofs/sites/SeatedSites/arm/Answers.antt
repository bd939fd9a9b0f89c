use Rattle.std.proofs.Common.{rules, ℕ, ◌≡◌, ◌≤◌, ◌<◌, ◌+◌, ◌++◌, ◌∷◌, [], ◌⊎◌, inl, inr, ◌∙◌, ap, false, refl, subst, sym, Some, arith, length}
use Rattle.um_base.specs.Weight.{weight}
use Rattle.um_base.specs.declared.act.Act.{Act}
use Rattle.um_base.specs.declared.act.Event.{Event}
use Rattle.um_fine.specs.Cells.{Cell}
use Rattle.um_fine.specs.Steps.{Exchange, Site}
use Rattle.um_tables.specs.Asked.{by_thread}
use Rattle.um_tables.specs.ClockActs.{arm_act}
use Rattle.um_tables.specs.Timed.{Timed, with_marks}
use Rattle.um_board.proofs.CellSteps.{cell-takes}
use Rattle.um_board.proofs.Keeping.{noted-then}
use Rattle.um_board.proofs.Keeping.{unnoted-then}
use Rattle.um_board.proofs.NextRuns.{next-then}
use Rattle.um_board.specs.Saw.{Hinders}
use Rattle.um_board.proofs.sites.SeatedSites.arm.Goals as goal

-- the clock is full
many-marks : (w n most : ℕ) → w < most → (most ≤ n) ⊎ (268435455 ≤ n) → (w < n) ⊎ (268435455 ≤ n)
many-marks w n most room (inl full) = inl (omega (arith, room, full))
many-marks w n most room (inr full) = inr full

pub leave_cell-requires-clause-takes : goal.leave_cell-requires-clause-takes
leave_cell-requires-clause-takes c =
    let d = c.in-Some.turn.before.value.value in
    let was : c.deref_mut.result.now ≡ d = search rules in
    let e = c.arm-deadline.ensures in
    let deadline : c.arm-deadline.result ≡ d.clock.now + c.args.ticks = e.deadline ∙ ap (λ (t : Timed). t.clock.now + c.args.ticks) was in
    cell-takes c.args.here.now.image.now c.args.here.now.cpu Site.clock c.in-Some.turn.number (Cell.clock d.clock) _ (arm_act c.args.thread) (Exchange.armed c.args.ticks c.args.mark) c.in-Some.ensures.turn.1.turn.room refl
    (ap (λ (t : Timed). Cell.clock t.clock) (e.left ∙ ap (λ (t : Timed). with_marks t (t.clock.marks ++ record { deadline = c.arm-deadline.result; mark = c.args.mark; settled = false; given = false } ∷ [])) was)
    ∙ ap (λ (n : ℕ). Cell.clock (record d.clock { marks = d.clock.marks ++ record { deadline = n; mark = c.args.mark; settled = false; given = false } ∷ [] })) deadline)

pub leave_cell-requires-clause-event : goal.leave_cell-requires-clause-event
leave_cell-requires-clause-event c =
    let d = c.in-Some.turn.before.value.value in
    let was : c.deref_mut.result.now ≡ d = search rules in
    let e = c.arm-deadline.ensures in
    let deadline : c.arm-deadline.result ≡ d.clock.now + c.args.ticks = e.deadline ∙ ap (λ (t : Timed). t.clock.now + c.args.ticks) was in
    ap (λ (v : Event). Some v) c.armed.ensures ∙ ap (λ (n : ℕ). Some (by_thread c.args.thread (Act.Arm n))) deadline

pub leave_cell-requires-clause-goes : goal.leave_cell-requires-clause-goes
leave_cell-requires-clause-goes c = next-then _ _ _ _ _ _ c.in-Some.ensures.unnoted (c.requires.goes c.in-Some.turn.number c.in-Some.turn.before.value.value.clock)

pub returns-clause-said : goal.returns-clause-said
returns-clause-said c =
    let d = c.in-Some.turn.before.value.value in
    let was : c.deref_mut.result.now ≡ d = search rules in
    let e = c.arm-deadline.ensures in
    let deadline : c.arm-deadline.result ≡ d.clock.now + c.args.ticks = e.deadline ∙ ap (λ (t : Timed). t.clock.now + c.args.ticks) was in
    (c.in-Some.turn.number, d.clock, noted-then _ _ _ _ _ _ _ c.in-Some.ensures.unnoted c.leave_cell.ensures.made, deadline)

pub returns-in_default-clause-said : goal.returns-in_default-clause-said
returns-in_default-clause-said c = (c.turn.ensures.unnoted, c.in_default.ensures.turn.1)

pub leave_cell-requires-clause-room : goal.leave_cell-requires-clause-room
leave_cell-requires-clause-room c =
    let d = c.in-Some.turn.before.value.value in
    let was : c.deref_mut.result.now ≡ d = search rules in
    let marks = c.in-Some.ensures.turn.1.marks in
    let most : c.arm-deadline.new.self.most ≡ d.most = ap (λ (t : Timed). t.most) (c.arm-deadline.ensures.left) ∙ ap (λ (t : Timed). t.most) was in
    subst (λ (n : ℕ). weight c.args.here.now.image.now < n) (sym most) marks

pub arm-deadline-requires-clause-room : goal.arm-deadline-requires-clause-room
arm-deadline-requires-clause-room c =
    let open_for = c.is_full.ensures.open c.if-is_full.false in
    let same : c.deref_mut.result.now ≡ c.deref.result.now = search rules in
    subst (λ (t : Timed). length t.clock.marks < t.most) (sym same) open_for.0

pub arm-deadline-requires-clause-few : goal.arm-deadline-requires-clause-few
arm-deadline-requires-clause-few c =
    let open_for = c.is_full.ensures.open c.if-is_full.false in
    let same : c.deref_mut.result.now ≡ c.deref.result.now = search rules in
    subst (λ (t : Timed). length t.clock.marks < 268435455) (sym same) open_for.1

pub returns-then-is_full-clause-said : goal.returns-then-is_full-clause-said
returns-then-is_full-clause-said c =
    let d = c.in-Some.turn.before.value.value in
    let was : c.deref.result.now ≡ d = search rules in
    let t = c.in-Some.ensures.turn.1 in
    let full = subst (λ (t : Timed). (t.most ≤ length t.clock.marks) ⊎ (268435455 ≤ length t.clock.marks)) was (c.is_full.ensures.full c.if-is_full.true) in (
      unnoted-then _ _ _ _ _ _ c.in-Some.ensures.unnoted c.put_back.ensures.unnoted,
      Hinders.crowded c.in-Some.turn.word c.args.here.now.image.now d.clock refl t.saw (many-marks (weight c.args.here.now.image.now) (length d.clock.marks) d.most t.marks full),
    )
