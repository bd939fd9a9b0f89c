use Rattle.std.proofs.Common.{refl, ap, ◌∙◌, subst}
use Rattle.um_words.specs.declared.fine.FineAct.{FineAct}
use Rattle.um_words.specs.Packed.{row_of}
use Rattle.um_words.specs.RowActs.{row_act_at, row_answers}
use Rattle.um_words.specs.Steps.{RowStep}
use Rattle.um_site.proofs.Lives.{cleans-once}
use Rattle.um_perm.specs.Pairs.{answer_by, row_act}
use Rattle.um_perm.proofs.LastPairs.{cleaner}
use Rattle.um_perm.proofs.Taken.{answers, told}
use Rattle.um_perm.proofs.calls.call_row.Goals as goal

pub step_at-requires-clause-leaves : goal.step_at-requires-clause-leaves
step_at-requires-clause-leaves g c = let a = c.args.asked in let w = row_of a.seen in
    subst (λ (act : FineAct). RowStep a.seen act c.in-Some.next) (ap (row_act_at w) c.act-act.ensures ∙ told a.by w a.call) c.in-Some.ensures.0

pub returns-in_err-step_at-clause-once : goal.returns-in_err-step_at-clause-once
returns-in_err-step_at-clause-once g c = cleans-once g.L.Local.goes c.args.seat.now.token.me.0 c.args.row.0 c.requires.at.1

pub returns-clause-answer : goal.returns-clause-answer
returns-clause-answer g c = let a = c.args.asked in let w = row_of a.seen in
    c.answer.ensures ∙ ap (answer_by a.call) (c.in-Some.ensures.1 ∙ ap (row_answers w) c.act-act.ensures) ∙ answers a.by w a.call

pub returns-clause-cleaner : goal.returns-clause-cleaner
returns-clause-cleaner g c = let a = c.args.asked in let w = row_of a.seen in
    cleaner g.L.Local.goes c.args.seat.now.token.me.0 c.step_at.new.seat.token.me.0 c.args.row.0 a.seen a.by c.requires.at.1 a.call w (row_act a.by a.call w) c.answer.result
    refl refl (c.answer.ensures ∙ ap (answer_by a.call) (c.in-Some.ensures.1 ∙ ap (row_answers w) c.act-act.ensures) ∙ answers a.by w a.call) c.in_ok-step_at.ensures.told

pub returns-clause-once : goal.returns-clause-once
returns-clause-once g c = cleans-once g.L.Local.goes c.args.seat.now.token.me.0 c.args.row.0 c.requires.at.1
