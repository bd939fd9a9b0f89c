use Rattle.std.proofs.Common.{◌∙◌, List, ap, subst, sym}
use Rattle.um_base.specs.declared.act.Event.{Event}
use Rattle.um_machine.specs.Run.{Runs, opening}
use Rattle.um_trace.specs.Text.{text}
use Rattle.um_explore.specs.declared.finding.Finding.TheVariants as Finding
use Rattle.um_explore.proofs.FindLemmas.{opening-finding}
use Rattle.um_explore.proofs.all_runs.show_opening.Goals as goal

pub returns : goal.returns
returns c asked meets =
    let image = c.args.image.now in
    let events = c.finish.new.run.items in
    let last = c.finish.new.state in
    let begins : Runs (opening image) c.new-run.result.items c.args.state.now = subst (λ (es : List Event). Runs (opening image) es c.args.state.now) (sym c.new-run.ensures.items) c.requires.opens in
    opening-finding image asked meets (Finding.Found c.in_ok-text_of.field-0) (
      events,
      last,
      c.in_ok-ended.ensures.run (opening image) begins,
      c.in_ok-ended.ensures.complete c.if-not-ended.false,
      c.in_ok-text_of.ensures ∙ ap (λ (es : List Event). text image es last) c.as_slice-2.ensures.value,
    )
