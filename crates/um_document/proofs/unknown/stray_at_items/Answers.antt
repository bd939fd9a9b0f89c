use Rattle.std.proofs.Common.{Ok, sym, ap, refl, ◌∙◌}
use Rattle.std.proofs.lemmas.List.{drop_all}
use Rattle.toml.specs.View.{items_view}
use Rattle.um_document.specs.First.{first_of}
use Rattle.um_document.specs.Parts.{each_item}
use Rattle.um_document.proofs.FirstLemmas.{items_first_before, items_first_behind}
use Rattle.um_document.proofs.unknown.stray_at_items.Goals as goal

pub loop-index-init : goal.loop-index-init
loop-index-init g c = λ f finds. refl

pub returns-then-is_some : goal.returns-then-is_some
returns-then-is_some g c = λ f finds.
    items_first_before f c.args.items.now c.loop-index.index c.index-items-index.result c.in_ok-found.found _ c.loop-index-test.true c.index-items-index.is
    (finds _ _ (Ok c.in_ok-found.found) c.in_ok-found.ensures) (sym c.is_some.ensures ∙ c.if-is_some.true) (c.loop-index.invariant f finds)

pub loop-index-preserved : goal.loop-index-preserved
loop-index-preserved g c = λ f finds.
    items_first_behind f c.args.items.now c.loop-index.index c.index-items-index.result c.in_ok-found.found _ c.loop-index-test.true c.index-items-index.is
    (finds _ _ (Ok c.in_ok-found.found) c.in_ok-found.ensures) (sym c.is_some.ensures ∙ c.if-is_some.false) (c.loop-index.invariant f finds)

pub returns : goal.returns
returns g c = λ f finds.
    ap (λ vs. first_of (each_item f c.loop-index.index (items_view vs))) (sym (drop_all c.loop-index.index c.args.items.now c.loop-index-test.false))
    ∙ c.loop-index.invariant f finds
