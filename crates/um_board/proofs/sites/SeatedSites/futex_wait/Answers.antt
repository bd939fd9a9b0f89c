use Rattle.std.proofs.Common.{rules, ◌≡◌, ◌∙◌, ap, refl, Some}
use Rattle.um_base.specs.declared.act.Act.{Act}
use Rattle.um_base.specs.declared.act.Answer.{Answer}
use Rattle.um_base.specs.declared.act.Event.{Event}
use Rattle.um_fine.specs.Cells.{Cell}
use Rattle.um_fine.specs.Memory.{Bytes, memory_after, wait_answer}
use Rattle.um_fine.specs.Steps.{Site}
use Rattle.um_tables.specs.Asked.{by_thread}
use Rattle.um_tables.specs.FutexActs.{wait_act, wait_more, wait_sent}
use Rattle.um_board.proofs.CellSteps.{cell-takes}
use Rattle.um_board.proofs.Keeping.{noted-then}
use Rattle.um_board.proofs.NextRuns.{next-then}
use Rattle.um_board.proofs.sites.SeatedSites.futex_wait.Goals as goal

pub leave_cell-requires-clause-takes : goal.leave_cell-requires-clause-takes
leave_cell-requires-clause-takes c =
    let d = c.in-Some.turn.before.value.value in
    let was : c.deref_mut.result.now ≡ d = search rules in
    let image = c.args.here.now.image.now in
    let act = c.args.act.now in
    let answer = c.wait-answer.ensures.answer ∙ ap (λ (m : Bytes). wait_answer image m (wait_more act) act.addr.0 act.value) was in
    cell-takes image c.args.here.now.cpu Site.memory c.in-Some.turn.number (Cell.memory d) _ (wait_act act) (wait_sent act) c.in-Some.ensures.turn.1.turn.room refl
    (ap Cell.memory (c.wait-answer.ensures.left ∙ ap (λ (m : Bytes). memory_after image m (Act.FutexWait act.addr act.value c.wait-answer.result) (wait_sent act)) was
    ∙ ap (λ (a : Answer). memory_after image d (Act.FutexWait act.addr act.value a) (wait_sent act)) answer))

pub leave_cell-requires-clause-event : goal.leave_cell-requires-clause-event
leave_cell-requires-clause-event c =
    let d = c.in-Some.turn.before.value.value in
    let was : c.deref_mut.result.now ≡ d = search rules in
    let image = c.args.here.now.image.now in
    let act = c.args.act.now in
    let answer = c.wait-answer.ensures.answer ∙ ap (λ (m : Bytes). wait_answer image m (wait_more act) act.addr.0 act.value) was in
    ap (λ (e : Event). Some e) c.waited.ensures ∙ ap (λ (a : Answer). Some (by_thread act.seeker.thread (Act.FutexWait act.addr act.value a))) answer

pub leave_cell-requires-clause-goes : goal.leave_cell-requires-clause-goes
leave_cell-requires-clause-goes c = next-then _ _ _ _ _ _ c.in-Some.ensures.unnoted (c.requires.goes c.in-Some.turn.number c.in-Some.turn.before.value.value)

pub returns-clause-said : goal.returns-clause-said
returns-clause-said c =
    let d = c.in-Some.turn.before.value.value in
    let was : c.deref_mut.result.now ≡ d = search rules in
    let image = c.args.here.now.image.now in
    let act = c.args.act.now in
    let answer = c.wait-answer.ensures.answer ∙ ap (λ (m : Bytes). wait_answer image m (wait_more act) act.addr.0 act.value) was in
    (c.in-Some.turn.number, d, noted-then _ _ _ _ _ _ _ c.in-Some.ensures.unnoted c.leave_cell.ensures.made, answer)

pub returns-in_default-clause-said : goal.returns-in_default-clause-said
returns-in_default-clause-said c = (c.turn.ensures.unnoted, c.in_default.ensures.turn.1)
