use Rattle.std.proofs.Common.{rules, ◌≡◌, ◌∙◌, ap, refl, Some}
use Rattle.um_base.specs.declared.act.Act.{Act}
use Rattle.um_base.specs.declared.act.Answer.{Answer}
use Rattle.um_base.specs.declared.act.Event.{Event}
use Rattle.um_base.specs.declared.ask.Ask.{Ask}
use Rattle.um_fine.specs.Cells.{Cell}
use Rattle.um_fine.specs.Joins.{Joins}
use Rattle.um_fine.specs.Joins.{begins_waiting, join_answer}
use Rattle.um_fine.specs.Steps.{Site}
use Rattle.um_tables.specs.Asked.{by_thread}
use Rattle.um_tables.specs.JoinActs.{join_act}
use Rattle.um_tables.specs.Seekers.{seeking}
use Rattle.um_board.proofs.CellSteps.{cell-takes}
use Rattle.um_board.proofs.Keeping.{noted-then}
use Rattle.um_board.proofs.NextRuns.{next-then}
use Rattle.um_board.proofs.sites.SeatedSites.join.Goals as goal

pub leave_cell-requires-clause-takes : goal.leave_cell-requires-clause-takes
leave_cell-requires-clause-takes c =
    let d = c.in-Some.turn.before.value.value in
    let was : c.deref_mut.result.now ≡ d = search rules in
    let s = c.args.seeker.now in
    let e = c.join-answer.ensures in
    let sent = seeking s (Ask.Join c.args.who) in
    let answer = e.answer ∙ ap (λ (j : Joins). join_answer j s.thread.0 c.args.who.0 c.args.timeout) was in
    cell-takes c.args.here.now.image.now c.args.here.now.cpu Site.joins c.in-Some.turn.number (Cell.joins d) _ (join_act s c.args.who c.args.timeout) sent c.in-Some.ensures.turn.1.turn.room refl
    (ap Cell.joins (e.left ∙ ap (λ (j : Joins). begins_waiting j sent c.join-answer.result) was ∙ ap (λ (a : Answer). begins_waiting d sent a) answer))

pub leave_cell-requires-clause-event : goal.leave_cell-requires-clause-event
leave_cell-requires-clause-event c =
    let d = c.in-Some.turn.before.value.value in
    let was : c.deref_mut.result.now ≡ d = search rules in
    let s = c.args.seeker.now in
    let e = c.join-answer.ensures in
    let sent = seeking s (Ask.Join c.args.who) in
    let answer = e.answer ∙ ap (λ (j : Joins). join_answer j s.thread.0 c.args.who.0 c.args.timeout) was in
    ap (λ (v : Event). Some v) c.joined.ensures ∙ ap (λ (a : Answer). Some (by_thread s.thread (Act.Join c.args.who a))) answer

pub leave_cell-requires-clause-goes : goal.leave_cell-requires-clause-goes
leave_cell-requires-clause-goes c = next-then _ _ _ _ _ _ c.in-Some.ensures.unnoted (c.requires.goes c.in-Some.turn.number c.in-Some.turn.before.value.value)

pub returns-clause-said : goal.returns-clause-said
returns-clause-said c =
    let d = c.in-Some.turn.before.value.value in
    let was : c.deref_mut.result.now ≡ d = search rules in
    let s = c.args.seeker.now in
    let e = c.join-answer.ensures in
    let sent = seeking s (Ask.Join c.args.who) in
    let answer = e.answer ∙ ap (λ (j : Joins). join_answer j s.thread.0 c.args.who.0 c.args.timeout) was in
    (c.in-Some.turn.number, d, noted-then _ _ _ _ _ _ _ c.in-Some.ensures.unnoted c.leave_cell.ensures.made, answer)

pub returns-in_default-clause-said : goal.returns-in_default-clause-said
returns-in_default-clause-said c = (c.turn.ensures.unnoted, c.in_default.ensures.turn.1)
