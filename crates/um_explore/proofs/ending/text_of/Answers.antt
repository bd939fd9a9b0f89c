use Rattle.std.proofs.Common.{◌≡◌, ◌∙◌, List, Some, ap, arith, slice_get, sym}
use Rattle.std.proofs.lemmas.Option.{slice_get-get_or}
use Rattle.um_explore.specs.declared.ways.Way.{Way}
use Rattle.um_explore.proofs.EndLemmas.{told-next}
use Rattle.um_explore.proofs.ending.text_of.Goals as goal

pub loop-k-preserved : goal.loop-k-preserved
loop-k-preserved c =
    let k = c.loop-k.k in
    let w = c.way-item.result in
    let ways = c.args.ways.now.ways.items in
    let these = c.as_slice-way-items.result.now in
    let here : slice_get these k ≡ Some w = slice_get-get_or these k w c.loop-k-test.true ∙ ap Some (sym c.way-item.is) in
    let at : slice_get ways k ≡ Some w = ap (λ (ws : List Way). slice_get ws k) (sym c.as_slice-way-items.ensures.value) ∙ here in
    let room = c.loop-k.invariant.room in
    let wider = c.in_ok-add_ending.ensures.capacity in
    let told = c.in_ok-add_ending.ensures.text in
    record {
      room = omega (arith, room, wider);
      listed = told-next c.args.image.now c.args.links.now ways w k c.loop-k.text.items c.add_ending.new.text.items told.0 at told.1 told.2 c.loop-k.invariant.listed;
    }
