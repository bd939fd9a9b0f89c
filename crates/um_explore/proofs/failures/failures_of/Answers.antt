use Rattle.std.proofs.Common.{◌∙◌, ◌++◌, ◌∷◌, [], List, ap, arith, sym, take}
use Rattle.std.proofs.lemmas.List.{take_more}
use Rattle.um_base.specs.declared.act.Event.{Event}
use Rattle.um_explore.specs.Failures.{failures, noted}
use Rattle.um_explore.proofs.FailureLemmas.{failures-push}
use Rattle.um_explore.proofs.failures.failures_of.Goals as goal

pub loop-event-preserved : goal.loop-event-preserved
loop-event-preserved c =
    let events = c.args.events.now in
    let i = c.loop-event.event-index in
    let e = c.event-item.result in
    c.note.ensures ∙ ap (noted e) c.loop-event.invariant ∙ sym (failures-push (take i events) e)
    ∙ ap (λ (es : List Event). failures es) (ap (λ (x : Event). take i events ++ x ∷ []) c.event-item.is ∙ sym (take_more events i e c.loop-event-test.true))
