use Rattle.std.proofs.Common.{rules, ◌≡◌, ◌∙◌, ap, refl, sym, Some}
use Rattle.um_base.specs.declared.act.Act.{Act}
use Rattle.um_base.specs.declared.act.Event.{Event}
use Rattle.um_fine.specs.Cells.{Cell}
use Rattle.um_fine.specs.Memory.{Bytes, memory_after, wake_says, woken_on}
use Rattle.um_fine.specs.Steps.{Exchange, Site}
use Rattle.um_machine.specs.Table.{replies_of}
use Rattle.um_tables.proofs.Told.{told-well}
use Rattle.um_tables.specs.Asked.{by_thread}
use Rattle.um_tables.specs.FutexActs.{wake_act, wake_more}
use Rattle.um_board.proofs.CellSteps.{cell-takes}
use Rattle.um_board.proofs.Keeping.{noted-then}
use Rattle.um_board.proofs.NextRuns.{next-then}
use Rattle.um_board.proofs.sites.SeatedSites.futex_wake.Goals as goal

pub leave_cell-requires-clause-takes : goal.leave_cell-requires-clause-takes
leave_cell-requires-clause-takes c =
    let d = c.in-Some.turn.before.value.value in
    let was : c.deref_mut.result.now ≡ d = search rules in
    let image = c.args.here.now.image.now in
    let act = c.args.act.now in
    let answer = c.wake-answer.ensures.answer ∙ ap (λ (m : Bytes). wake_says image m (wake_more act) act.addr.0) was in
    let woken = c.wake-answer.ensures.woken ∙ ap (λ (m : Bytes). woken_on image m (wake_more act) act.addr.0) was in
    cell-takes image c.args.here.now.cpu Site.memory c.in-Some.turn.number (Cell.memory d) _ (wake_act act) Exchange.nothing c.in-Some.ensures.turn.1.turn.room refl
    (ap Cell.memory (c.wake-answer.ensures.left ∙ (λ i. memory_after image (was i) (Act.FutexWake act.addr (answer i) (replies_of (woken i))) Exchange.nothing)))

pub leave_cell-requires-clause-event : goal.leave_cell-requires-clause-event
leave_cell-requires-clause-event c =
    let d = c.in-Some.turn.before.value.value in
    let was : c.deref_mut.result.now ≡ d = search rules in
    let image = c.args.here.now.image.now in
    let act = c.args.act.now in
    let answer = c.wake-answer.ensures.answer ∙ ap (λ (m : Bytes). wake_says image m (wake_more act) act.addr.0) was in
    let woken = c.wake-answer.ensures.woken ∙ ap (λ (m : Bytes). woken_on image m (wake_more act) act.addr.0) was in
    ap (λ (e : Event). Some e) c.woke.ensures ∙ (λ i. Some (by_thread act.thread (Act.FutexWake act.addr (answer i) (replies_of (woken i)))))

pub leave_cell-requires-clause-goes : goal.leave_cell-requires-clause-goes
leave_cell-requires-clause-goes c = next-then _ _ _ _ _ _ c.in-Some.ensures.unnoted (c.requires.goes c.in-Some.turn.number c.in-Some.turn.before.value.value)

pub returns-clause-said : goal.returns-clause-said
returns-clause-said c =
    let d = c.in-Some.turn.before.value.value in
    let was : c.deref_mut.result.now ≡ d = search rules in
    let image = c.args.here.now.image.now in
    let act = c.args.act.now in
    let answer = c.wake-answer.ensures.answer ∙ ap (λ (m : Bytes). wake_says image m (wake_more act) act.addr.0) was in
    let woken = c.wake-answer.ensures.woken ∙ ap (λ (m : Bytes). woken_on image m (wake_more act) act.addr.0) was in
    (c.in-Some.turn.number, d, noted-then _ _ _ _ _ _ _ c.in-Some.ensures.unnoted c.leave_cell.ensures.made, (answer, woken ∙ sym (told-well _)))

pub returns-in_default-clause-said : goal.returns-in_default-clause-said
returns-in_default-clause-said c = (c.turn.ensures.unnoted, c.in_default.ensures.turn.1, refl)
