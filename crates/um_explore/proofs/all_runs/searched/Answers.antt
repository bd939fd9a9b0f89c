use Rattle.std.proofs.Common.{◌≡◌, ◌∙◌, false, IsTrue, None, sym}
use Rattle.std.proofs.lemmas.Bool.{false≢true}
use Rattle.um_machine.specs.Run.{opening}
use Rattle.um_question.specs.Asked.{is_met}
use Rattle.um_explore.specs.Met.{Shows}
use Rattle.um_explore.specs.Questions.{IsFinding}
use Rattle.um_explore.specs.declared.finding.Finding.{Finding}
use Rattle.um_explore.proofs.FindLemmas.{finding-of, hit-step, ok-each}
use Rattle.um_explore.proofs.SearchLemmas.{never}
use Rattle.um_explore.proofs.all_runs.searched.Goals as goal

pub show-requires-clause-step : goal.show-requires-clause-step
show-requires-clause-step c =
    let image = c.args.asked.now.image.now in
    let test = is_met image c.args.asked.now.question.now in
    let ends = rw c.in-Hit.is at c.in_ok-search.ensures.ends in
    hit-step image test c.search.new.met.links.items c.in-Hit.number c.in-Hit.event c.in_ok-search.ensures.are.described ends.1

pub returns : goal.returns
returns c =
    let image = c.args.asked.now.image.now in
    let test = is_met image c.args.asked.now.question.now in
    let links = c.search.new.met.links.items in
    let ends = rw c.in-Hit.is at c.in_ok-search.ensures.ends in
    let not : IsTrue (test None (opening image)) → ⊥ = λ meets. false≢true (sym c.requires.opening ∙ meets) in
    ok-each (λ (f : Finding). Shows image links c.in-Hit.number c.in-Hit.event f) (λ (f : Finding). IsFinding image test f) c.show.result c.show.ensures
    (λ f shown. finding-of image test links c.in-Hit.number c.in-Hit.event c.in_ok-search.ensures.layered ends.2 not ends.1 f shown)

pub returns-in-Never : goal.returns-in-Never
returns-in-Never c =
    let image = c.args.asked.now.image.now in
    let test = is_met image c.args.asked.now.question.now in
    let ends = rw c.in-Never.is at c.in_ok-search.ensures.ends in
    let not : IsTrue (test None (opening image)) → ⊥ = λ meets. false≢true (sym c.requires.opening ∙ meets) in
    never image test c.search.new.met.links.items ends.0 ends.2 ends.1 not
