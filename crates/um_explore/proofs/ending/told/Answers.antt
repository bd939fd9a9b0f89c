use Rattle.std.proofs.Common.{List, length, subst, sym, ◌≤◌}
use Rattle.um_explore.specs.Ends.{AreTold, HaveAllWays}
use Rattle.um_explore.specs.declared.met.Link.{Link}
use Rattle.um_explore.proofs.EndLemmas.{all-ends}
use Rattle.um_explore.proofs.ending.told.Goals as goal

pub text_of-requires-clause-met : goal.text_of-requires-clause-met
text_of-requires-clause-met c i w at =
    let all = rw c.in_default.is at c.in_ok-from.ensures.all in
    subst (λ (ls : List Link). w.number ≤ length ls) (sym c.as_slice-2.ensures.value) (all.known.each i w at).within

pub returns : goal.returns
returns c =
    let image = c.args.asked.now.image.now in
    let links = c.find_ways.new.met.links.items in
    let ways = c.find_ways.new.ways.ways.items in
    let all = rw c.in_default.is at c.in_ok-from.ensures.all in
    let told = c.in_ok-text.ensures in
    (told.0, all-ends image links ways told.0 all (subst (λ (ls : List Link). AreTold ls ways told.0) c.as_slice-2.ensures.value told.1) told.2, told.3)
