use Rattle.std.proofs.Common.{refl, sym, ap, ◌∙◌, is_some}
use Rattle.std.proofs.lemmas.List.{drop_all}
use Rattle.toml.specs.View.{items_view}
use Rattle.um_document.specs.First.{first_place}
use Rattle.um_document.specs.Parts.{each_item}
use Rattle.um_document.proofs.FirstLemmas.{items_before, items_behind}
use Rattle.um_document.proofs.check.broken_at_items.Goals as goal

pub loop-index-init : goal.loop-index-init
loop-index-init g c = λ check f finds. refl

pub returns-in-Some : goal.returns-in-Some
returns-in-Some g c = λ check f finds.
    sym c.in-Some.is
    ∙ items_before check f c.args.items.now c.loop-index.index c.loop-index.index c.index-items-index.result c.find.result _ c.loop-index-test.true c.index-items-index.is
    (finds _ _ _ c.find.ensures) (ap is_some c.in-Some.is) (c.loop-index.invariant check f finds)

pub loop-index-preserved : goal.loop-index-preserved
loop-index-preserved g c = λ check f finds.
    items_behind check f c.args.items.now c.loop-index.index c.loop-index.index c.index-items-index.result c.find.result _ c.loop-index-test.true c.index-items-index.is
    (finds _ _ _ c.find.ensures) (ap is_some c.in_default.is) (c.loop-index.invariant check f finds)

pub returns : goal.returns
returns g c = λ check f finds.
    ap (λ vs. first_place check (each_item f c.loop-index.index (items_view vs))) (sym (drop_all c.loop-index.index c.args.items.now c.loop-index-test.false))
    ∙ c.loop-index.invariant check f finds
