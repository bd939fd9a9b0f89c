use Rattle.std.proofs.Common.{◌≡◌, ◌∙◌, ◌≤◌, ◌<◌, false, List, Some, ap, arith, length, slice_get, subst, sym}
use Rattle.std.proofs.lemmas.Bool.Decides.{nat_tests}
use Rattle.std.proofs.lemmas.Option.{slice_get-get_or}
use Rattle.um_base.specs.declared.act.Event.{Event}
use Rattle.um_machine.specs.Run.{IsRun, Step}
use Rattle.um_machine.specs.State.{State}
use Rattle.um_matrix.specs.Offered.{IsStep}
use Rattle.um_question.specs.Asked.{is_met}
use Rattle.um_explore.specs.Failures.{Failures, failures, noted}
use Rattle.um_explore.specs.Met.{IsLed}
use Rattle.um_explore.specs.Steps.{AreSteps}
use Rattle.um_explore.specs.declared.met.Link.{Link}
use Rattle.um_explore.proofs.MetLemmas.{grows-more, leads-led, led-kept}
use Rattle.um_explore.proofs.NextLemmas.{has-step}
use Rattle.um_explore.proofs.SearchLemmas.{all-expanded, complete-of, each-kept, not-met, unfinished-of}
use Rattle.um_explore.proofs.search.expand.Goals as goal

pub returns-then-is_empty-clause-expands : goal.returns-then-is_empty-clause-expands
returns-then-is_empty-clause-expands c =
    let image = c.args.asked.now.image.now in
    let links = c.args.met.now.links.items in
    let path = c.in_ok-path.path.items in
    let state = c.rebuild.new.room in
    let led = subst (λ (ls : List Link). IsLed image ls c.args.k path state) c.as_slice.ensures.value c.in_ok-path.ensures.led in
    let steps = subst (λ (s : State). AreSteps s c.steps_of.new.events.items) c.tables.ensures c.in_ok-steps_of.ensures in
    let none : length c.as_slice-steps.result.now ≡ 0 = grind (arith, nat_tests, c.is_empty.ensures, c.if-is_empty.true) in
    (complete-of state c.steps_of.new.events.items steps (subst (λ (es : List Event). length es ≡ 0) c.as_slice-steps.ensures.value none), leads-led image links c.args.k path state led)

pub step-requires-clause-step : goal.step-requires-clause-step
step-requires-clause-step c =
    let events = c.steps_of.new.events.items in
    let i = c.loop-event.event-index in
    let e = c.event-item.result in
    let state = c.rebuild.new.room in
    let steps = subst (λ (s : State). AreSteps s events) c.tables.ensures c.in_ok-steps_of.ensures in
    let here : slice_get c.as_slice-steps.result.now i ≡ Some e = slice_get-get_or c.as_slice-steps.result.now i e c.loop-event-test.true ∙ ap Some (sym c.event-item.is) in
    let at : slice_get events i ≡ Some e = ap (λ (es : List Event). slice_get es i) (sym c.as_slice-steps.ensures.value) ∙ here in
    subst (λ (s : State). IsStep s e) (sym c.loop-event.invariant.here) (has-step state events e steps (i, at))

pub take-requires-clause-led : goal.take-requires-clause-led
take-requires-clause-led c =
    let image = c.args.asked.now.image.now in
    let e = c.event-item.result in
    let path = c.in_ok-path.path.items in
    let state = c.rebuild.new.room in
    let led = subst (λ (ls : List Link). IsLed image ls c.args.k path state) c.as_slice.ensures.value c.in_ok-path.ensures.led in (
      path,
      record {
        path = c.loop-event.invariant.grows.paths c.args.k path led.path;
        run = subst (λ (s : State). IsRun image path s) (sym (c.in_ok-step.ensures.here ∙ c.loop-event.invariant.here)) led.run;
      },
      c.note.ensures ∙ ap (λ (ns : Failures). noted e ns) (c.failures_of-before.ensures ∙ ap (λ (es : List Event). failures es) c.deref.ensures.value),
    )

pub loop-event-preserved : goal.loop-event-preserved
loop-event-preserved c =
    let image = c.args.asked.now.image.now in
    let test = is_met image c.args.asked.now.question.now in
    let i = c.loop-event.event-index in
    let e = c.event-item.result in
    let path = c.in_ok-path.path.items in
    let state = c.rebuild.new.room in
    let before = c.loop-event.met.links.items in
    let links = c.take.new.self.links.items in
    let took = c.in_ok-take.ensures in
    let stepped = c.in_ok-step.ensures in
    let so_far = c.loop-event.invariant in
    let room = so_far.room in
    let capacity = so_far.more in
    let wider = c.meets.ensures.capacity in
    let longer = so_far.grows.more in
    let within = c.requires.met in
    let led = subst (λ (ls : List Link). IsLed image ls c.args.k path state) c.as_slice.ensures.value c.in_ok-path.ensures.led in
    let here : slice_get c.as_slice-steps.result.now i ≡ Some e = slice_get-get_or c.as_slice-steps.result.now i e c.loop-event-test.true ∙ ap Some (sym c.event-item.is) in
    let missed : test (Some e) c.step.new.self.there ≡ false = ap (λ (s : State). test (Some e) s) (sym c.tables-in-loop-event.ensures) ∙ sym c.meets.ensures.meets ∙ c.if-meets.false in
    record {
      room = omega (arith, room, wider);
      more = omega (arith, capacity, wider);
      are = took.are;
      rooms = took.rooms;
      here = took.here ∙ stepped.here ∙ so_far.here;
      layered = took.layered;
      near = took.near;
      few = took.few;
      grows = grows-more image c.args.met.now.links.items before links so_far.grows took.grows;
      leads =
          each-kept image test before links c.args.k i state c.as_slice-steps.result.now e so_far.are (omega (arith, within, longer)) took.grows so_far.leads here
          (λ s2 step. not-met image test path state c.step.new.self.there s2 e c.requires.are.described led.run (subst (λ (s : State). Step s e c.step.new.self.there) (stepped.here ∙ so_far.here) stepped.step) missed step) (took.leads c.if-not-branch.false);
    }

pub returns-clause-expands : goal.returns-clause-expands
returns-clause-expands c =
    let image = c.args.asked.now.image.now in
    let test = is_met image c.args.asked.now.question.now in
    let path = c.in_ok-path.path.items in
    let state = c.rebuild.new.room in
    let events = c.steps_of.new.events.items in
    let before = c.args.met.now.links.items in
    let links = c.loop-event.met.links.items in
    let led = subst (λ (ls : List Link). IsLed image ls c.args.k path state) c.as_slice.ensures.value c.in_ok-path.ensures.led in
    let steps = subst (λ (s : State). AreSteps s events) c.tables.ensures c.in_ok-steps_of.ensures in
    let all = subst (λ (es : List Event). length es ≤ c.loop-event.event-index) c.as_slice-steps.ensures.value c.loop-event-test.false in
    let some : 0 < length c.as_slice-steps.result.now = grind (arith, nat_tests, c.is_empty.ensures, c.if-is_empty.false) in
    let kept = led-kept image before links c.args.k path state c.loop-event.invariant.grows led in
    let there = leads-led image before c.args.k path state led in
    rw c.loop-event.invariant.here (
      unfinished-of state events steps (subst (λ (es : List Event). 0 < length es) c.as_slice-steps.ensures.value some),
      leads-led image links c.args.k path state kept,
      all-expanded image test before links c.args.k c.loop-event.event-index state events c.requires.are.described c.loop-event.invariant.grows there steps all
          (λ i h event at. c.loop-event.invariant.leads i h event (ap (λ (es : List Event). slice_get es i) c.as_slice-steps.ensures.value ∙ at)),
    )
