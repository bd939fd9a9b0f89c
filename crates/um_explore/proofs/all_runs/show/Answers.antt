use Rattle.std.proofs.Common.{◌∙◌, List, ap, subst}
use Rattle.um_base.specs.declared.act.Event.{Event}
use Rattle.um_trace.specs.Text.{text}
use Rattle.um_explore.specs.Met.{IsLed}
use Rattle.um_explore.specs.declared.met.Link.{Link}
use Rattle.um_explore.proofs.FindLemmas.{shows}
use Rattle.um_explore.proofs.MetLemmas.{leads-led}
use Rattle.um_explore.proofs.all_runs.show.Goals as goal

pub unreachable-requires : goal.unreachable-requires
unreachable-requires c =
    let front = c.in_ok-run.run'.items in
    let state = c.rebuild.new.room in
    let led = subst (λ (links : List Link). IsLed c.args.image.now links c.args.number front state) c.as_slice.ensures.value c.in_ok-run.ensures.led in
    let next = c.requires.step state (leads-led c.args.image.now c.args.met.now.links.items c.args.number front state led) in
    c.in-Err.ensures.refused next.0 next.1

pub returns : goal.returns
returns c =
    let image = c.args.image.now in
    let event = c.args.event.now in
    let front = c.in_ok-run.run'.items in
    let state = c.rebuild.new.room in
    let last = c.finish.new.state in
    let led = subst (λ (links : List Link). IsLed image links c.args.number front state) c.as_slice.ensures.value c.in_ok-run.ensures.led in
    let more = c.in_ok-ended.ensures.more in
    shows image c.args.met.now.links.items c.args.number event front c.push.new.events.items c.finish.new.run.items more.0 state c.apply.new.self last c.in_ok-text_of.field-0.items led c.in-Ok.ensures.ok c.in_ok-push.ensures
    c.in_ok-ended.ensures.run more.1 (c.in_ok-ended.ensures.complete c.if-not-ended.false) (c.in_ok-text_of.ensures ∙ ap (λ (es : List Event). text image es last) c.as_slice-3.ensures.value)
