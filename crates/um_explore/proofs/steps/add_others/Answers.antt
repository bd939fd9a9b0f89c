use Rattle.um_explore.proofs.StepLemmas.{further, one-more, others-kept}
use Rattle.um_explore.proofs.steps.add_others.Goals as goal

pub loop-who-preserved : goal.loop-who-preserved
loop-who-preserved c =
    let s = c.args.tables.now in
    let t = c.args.t in
    let who = c.loop-who.who in
    let before = c.loop-who.events.items in
    let now = c.add_waking.new.events.items in
    let wakes = c.in_ok-add_waking.ensures in
    record {
      goes = further s c.args.events.now.items before now c.loop-who.invariant.goes wakes.goes;
      has = one-more s t who now (others-kept s t who before now wakes.goes c.loop-who.invariant.has) wakes.times wakes.cuts;
    }
