use Rattle.std.proofs.Common.{◌≡◌, ℕ, ◌++◌, List, Some, ap, arith, drop, length, slice_get, subst, sym, ◌∙◌}
use Rattle.std.proofs.lemmas.Bool.Decides.{Decides-eqb}
use Rattle.std.proofs.lemmas.Option.{slice_get-get_or, slice_get_within}
use Rattle.std.proofs.lemmas.Slice.Eq.{starts_is}
use Rattle.um_base.specs.declared.act.Event.{Event}
use Rattle.um_trace.specs.Acts.{event_line}
use Rattle.um_matrix.proofs.OfferLemmas.{below-next}
use Rattle.um_explore.proofs.next.first_of.Goals as goal

pub returns-then-starts_with-clause-first : goal.returns-then-starts_with-clause-first
returns-then-starts_with-clause-first c =
    let e = c.event-item.result in
    let line = c.as_slice.result.now in
    let rest = c.args.rest.now in
    let there : slice_get c.args.events.now c.loop-event.event-index ≡ Some e = slice_get-get_or c.args.events.now c.loop-event.event-index e c.loop-event-test.true ∙ ap Some (sym c.event-item.is) in
    let cut = (starts_is Decides-eqb rest line c.starts_with.result c.starts_with.ensures.value).0 c.if-starts_with.true in
    let same : line ≡ event_line c.args.image.now e = c.as_slice.ensures.value ∙ c.line_text.ensures.text in
    (drop (length line) rest, (c.loop-event.event-index, there), c.line_text.ensures.text, subst (λ (l : List ℕ). rest ≡ l ++ drop (length line) rest) same cut)

pub loop-event-preserved : goal.loop-event-preserved
loop-event-preserved c =
    let room = c.loop-event.invariant.room in
    let so_far = c.loop-event.invariant.more in
    let grows = c.line_text.ensures.capacity in
    let e = c.event-item.result in
    let rest = c.args.rest.now in
    record {
      room = omega (arith, room, grows);
      more = omega (arith, so_far, grows);
      none = below-next (λ (k : ℕ). (event : Event) (more : List ℕ) → slice_get c.args.events.now k ≡ Some event → rest ≡ event_line c.args.image.now event ++ more → ⊥) c.loop-event.event-index c.loop-event.invariant.none
          (λ event more at is.
          let there : slice_get c.args.events.now c.loop-event.event-index ≡ Some e = slice_get-get_or c.args.events.now c.loop-event.event-index e c.loop-event-test.true ∙ ap Some (sym c.event-item.is) in
          let same : e ≡ event = (let both : Some e ≡ Some event = sym there ∙ at in cc) in
          let line : c.as_slice.result.now ≡ event_line c.args.image.now event = c.as_slice.ensures.value ∙ c.line_text.ensures.text ∙ ap (event_line c.args.image.now) same in
          let yes = (starts_is Decides-eqb rest c.as_slice.result.now c.starts_with.result c.starts_with.ensures.value).1 more (subst (λ (l : List ℕ). rest ≡ l ++ more) (sym line) is) in
          let no = c.if-starts_with.false in cc);
    }

pub returns-clause-first : goal.returns-clause-first
returns-clause-first c event more has is =
    let within = slice_get_within c.args.events.now has.0 event has.1 in
    c.loop-event.invariant.none has.0 (omega (arith, within, c.loop-event-test.false)) event more has.1 is
