use Rattle.std.proofs.Common.{◌≡◌, List, [], drop, ap, sym, ◌∙◌}
use Rattle.std.proofs.lemmas.List.{drop_all}
use Rattle.um_description.specs.Duplicates.{added}
use Rattle.um_description.specs.Names.{Text, is_among}
use Rattle.um_description.proofs.AgainLemmas.{added_step}
use Rattle.um_description.proofs.KnownLemmas.{same_as_added}
use Rattle.um_description.proofs.unknown.set_of.Goals as goal

pub loop-name-preserved : goal.loop-name-preserved
loop-name-preserved c =
    added_step c.loop-name.known c.add.new.self c.args.names.now (added [] c.args.names.now) c.loop-name.name-index c.name-item.result c.as_slice.result.now
    c.loop-name-test.true c.name-item.is c.as_slice.ensures.value c.in_ok-_again.ensures.added c.loop-name.invariant

pub returns : goal.returns
returns c = λ q.
    let none : drop c.loop-name.name-index c.args.names.now ≡ [] = drop_all c.loop-name.name-index c.args.names.now c.loop-name-test.false in
    ap (λ (rest : List Text). is_among q (added c.loop-name.known rest)) (sym none) ∙ c.loop-name.invariant q ∙ same_as_added c.args.names.now q
