use Rattle.std.proofs.Common.{ℕ, ap, arith, length, List, sym, ◌∙◌}
use Rattle.um_machine.specs.declared.thread.Thread.{Thread}
use Rattle.um_matrix.proofs.OfferLemmas.{below-next}
use Rattle.um_explore.specs.Steps.{HasThread}
use Rattle.um_explore.proofs.StepLemmas.{all-steps, thread-kept}
use Rattle.um_explore.proofs.steps.steps_of.Goals as goal

pub loop-t-preserved : goal.loop-t-preserved
loop-t-preserved c =
    let s = c.args.tables.now in
    let before = c.loop-t.events.items in
    let now = c.add_thread.new.events.items in
    let added = c.in_ok-add_thread.ensures in
    record {
      each = added.goes.each c.loop-t.invariant.each;
      has = below-next (λ (t : ℕ). HasThread s t now) c.loop-t.t (λ t h. thread-kept s t before now added.goes (c.loop-t.invariant.has t h)) added.has;
    }

pub returns : goal.returns
returns c =
    let whole = ap (λ (ts : List Thread). length ts) (sym c.threads-t-end.ensures.value) ∙ c.threads-t-end.ensures.all in
    all-steps c.args.tables.now c.loop-t.events.items whole c.loop-t.invariant.each (λ t h. c.loop-t.invariant.has t (omega (arith, h, c.loop-t-test.false, c.threads-t-end.ensures.all)))
