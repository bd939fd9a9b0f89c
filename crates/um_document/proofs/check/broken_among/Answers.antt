use Rattle.std.proofs.Common.{sym, ap, ◌∙◌, is_some}
use Rattle.um_document.specs.First.{first_place}
use Rattle.um_document.proofs.FirstLemmas.{flat_before, flat_behind}
use Rattle.um_document.proofs.check.broken_among.Goals as goal

pub returns-in-Some : goal.returns-in-Some
returns-in-Some g c = λ check f finds.
    sym c.in-Some.is
    ∙ flat_before check f c.args.all.now c.loop-one.one-index c.one-item.result c.find.result _ c.loop-one-test.true
    (finds _ _ c.find.ensures ∙ ap (λ one. first_place check (f one)) c.one-item.is) (ap is_some c.in-Some.is) (c.loop-one.invariant check f finds)

pub loop-one-preserved : goal.loop-one-preserved
loop-one-preserved g c = λ check f finds.
    flat_behind check f c.args.all.now c.loop-one.one-index c.one-item.result c.find.result _ c.loop-one-test.true
    (finds _ _ c.find.ensures ∙ ap (λ one. first_place check (f one)) c.one-item.is) (ap is_some c.in_default.is) (c.loop-one.invariant check f finds)
