use Rattle.std.proofs.Common.{ℕ, ap, arith, length, List, Bool, sym, ◌∙◌}
use Rattle.um_base.specs.declared.names.ThreadIx.{ThreadIx}
use Rattle.um_machine.specs.declared.pending.Pending.TheVariants as Pending
use Rattle.um_machine.specs.Table.{act_of}
use Rattle.um_matrix.specs.Offered.{event_of}
use Rattle.um_matrix.proofs.OfferLemmas.{below-next}
use Rattle.um_explore.specs.Steps.{HasPair}
use Rattle.um_explore.proofs.StepLemmas.{further, pairs-rows}
use Rattle.um_explore.proofs.steps.add_pairs.Goals as goal

pub loop-x-preserved : goal.loop-x-preserved
loop-x-preserved c =
    let s = c.args.tables.now in
    let t = c.args.t in
    let before = c.loop-x.events.items in
    let now = c.add_pairs_at.new.events.items in
    let added = c.in_ok-add_pairs_at.ensures in
    record {
      goes = further s c.args.events.now.items before now c.loop-x.invariant.goes added.goes;
      has = below-next (λ (x : ℕ). (who : ThreadIx) → HasPair s t now who x) c.loop-x.x
          (λ x h who m. added.goes.keeps (event_of t (act_of s t x (Pending.CleanPair who))) (c.loop-x.invariant.has x h who m)) added.has;
    }

pub returns-clause-has : goal.returns-clause-has
returns-clause-has c =
    let rows = c.pairs-x-end.ensures in
    let whole = ap (λ (ps : List (List Bool)). length ps) (sym rows.value) ∙ rows.all in
    pairs-rows c.args.tables.now c.args.t c.loop-x.events.items c.loop-x.x whole (omega (arith, c.loop-x-test.false, rows.all)) c.loop-x.invariant.has
