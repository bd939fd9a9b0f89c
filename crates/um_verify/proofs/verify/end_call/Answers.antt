use Rattle.std.proofs.Common.{sym, ap, ◌∙◌, subst}
use Rattle.std.specs.Prelude.{◌==◌, ◌&&◌, not}
use Rattle.um_words.specs.declared.row_act.RowSaid.{RowSaid}
use Rattle.um_words.specs.Packed.{row_of}
use Rattle.um_words.specs.Rows.{is_cleaning}
use Rattle.um_site.proofs.Lives.{cleans-once}
use Rattle.um_verify.specs.Checks.{TellsCleaning}
use Rattle.um_verify.proofs.LastClaims.{came-to-cleaning, tells, to-clean-it}
use Rattle.um_verify.proofs.verify.end_call.Goals as goal

pub returns-in_err-step_at-clause-once : goal.returns-in_err-step_at-clause-once
returns-in_err-step_at-clause-once g c = cleans-once g.L.Local.goes c.args.seat.now.token.me.0 c.args.row.0 c.requires.at.1

pub returns-clause-cleaner : goal.returns-clause-cleaner
returns-clause-cleaner g c = let a = c.args in let v = a.seat.now.token.me.0 in let w = c.step_at.new.seat.token.me.0 in let r = row_of a.seen in
    let is = c.begins-clean.ensures ∙ ap (λ (s : RowSaid). s.cleans && not (is_cleaning r.stage)) c.in-Some.ensures.1 ∙ came-to-cleaning r.stage (r.claims == 1) in
    subst (λ b. TellsCleaning a.row.0 a.seen v b w) (sym is) (tells g.L.Local.goes v w a.row.0 a.seen c.requires.at.1 c.in_ok-step_at.ensures.told)

pub returns-clause-cleans : goal.returns-clause-cleans
returns-clause-cleans g c = let a = c.args in let r = row_of a.seen in
    let is = c.begins-clean.ensures ∙ ap (λ (s : RowSaid). s.cleans && not (is_cleaning r.stage)) c.in-Some.ensures.1 ∙ came-to-cleaning r.stage (r.claims == 1) in
    λ e. to-clean-it g.L.Local.goes a.seat.now.token.me.0 c.step_at.new.seat.token.me.0 a.row.0 a.seen c.requires.at.1 c.in_ok-step_at.ensures.told (sym is ∙ e)

pub returns-clause-once : goal.returns-clause-once
returns-clause-once g c = cleans-once g.L.Local.goes c.args.seat.now.token.me.0 c.args.row.0 c.requires.at.1
