use Rattle.std.proofs.Common.{◌≡◌, Some, ap, arith, slice_get, sym, ◌∙◌}
use Rattle.std.proofs.lemmas.Option.{slice_get-get_or, slice_get_within}
use Rattle.um_base.specs.Exact.{exact-number}
use Rattle.um_explore.specs.declared.ways.Way.{Way}
use Rattle.um_machine.proofs.SameLemmas.{items}
use Rattle.um_matrix.proofs.OfferLemmas.{below-next}
use Rattle.um_explore.proofs.EndLemmas.{clash}
use Rattle.um_explore.proofs.ways.place_of.Goals as goal

pub returns-then-eq : goal.returns-then-eq
returns-then-eq c =
    let w = c.index-ways-i.result in
    let at : slice_get c.args.ways.now c.loop-i.i ≡ Some w = slice_get-get_or c.args.ways.now c.loop-i.i w c.loop-i-test.true ∙ ap Some (sym c.index-ways-i.is) in
    (w, at, sym c.as_slice.ensures.value ∙ (items exact-number).same c.as_slice.result.now c.args.text.now (sym c.eq.ensures ∙ c.if-eq.true))

pub loop-i-preserved : goal.loop-i-preserved
loop-i-preserved c =
    let w = c.index-ways-i.result in
    let at : slice_get c.args.ways.now c.loop-i.i ≡ Some w = slice_get-get_or c.args.ways.now c.loop-i.i w c.loop-i-test.true ∙ ap Some (sym c.index-ways-i.is) in
    below-next _ c.loop-i.i c.loop-i.invariant
    (λ v there is.
    let same : w ≡ v = (let both : Some w ≡ Some v = sym at ∙ there in cc) in
    let texts = c.as_slice.ensures.value ∙ ap (λ (x : Way). x.text.items) same ∙ is in
    clash c.eq.result (c.eq.ensures ∙ rw texts ((items exact-number).itself c.args.text.now)) c.if-eq.false)

pub returns : goal.returns
returns c (j, w, at, is) =
    let within = slice_get_within c.args.ways.now j w at in
    c.loop-i.invariant j (omega (arith, within, c.loop-i-test.false)) w at is
