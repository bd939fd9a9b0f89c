use Rattle.std.proofs.Common.{refl, sym, ap, ◌∙◌, is_some}
use Rattle.std.proofs.lemmas.List.{drop_all}
use Rattle.um_document.specs.First.{first_of}
use Rattle.um_description.specs.Names.{each}
use Rattle.um_description.proofs.EachLemmas.{each_step, each_here}
use Rattle.um_description.proofs.first.first_found.Goals as goal

pub loop-i-init : goal.loop-i-init
loop-i-init g c = λ f finds. refl

pub returns-in-Some : goal.returns-in-Some
returns-in-Some g c = λ f finds.
    sym c.in-Some.is
    ∙ each_here f c.args.entries.now c.loop-i.i c.loop-i.i c.index-entries-i.result c.find.result _ c.loop-i-test.true c.index-entries-i.is (finds _ _ _ c.find.ensures)
    (ap is_some c.in-Some.is) (c.loop-i.invariant f finds)

pub loop-i-preserved : goal.loop-i-preserved
loop-i-preserved g c = λ f finds.
    each_step f c.args.entries.now c.loop-i.i c.loop-i.i c.index-entries-i.result c.find.result _ c.loop-i-test.true c.index-entries-i.is (finds _ _ _ c.find.ensures)
    (ap is_some c.in_default.is) (c.loop-i.invariant f finds)

pub returns : goal.returns
returns g c = λ f finds.
    ap (λ ys. first_of (each f c.loop-i.i ys)) (sym (drop_all c.loop-i.i c.args.entries.now c.loop-i-test.false)) ∙ c.loop-i.invariant f finds
