use Rattle.std.proofs.Common.{◌≡◌, ◌∙◌, false, true, IsTrue, None, ap, sym}
use Rattle.um_machine.specs.Run.{opening}
use Rattle.um_machine.specs.State.{State}
use Rattle.um_question.specs.Asked.{is_met}
use Rattle.um_explore.specs.Questions.{IsFinding, Test}
use Rattle.um_explore.specs.declared.finding.Finding.{Finding}
use Rattle.um_explore.proofs.FindLemmas.{ok-each}
use Rattle.um_explore.proofs.all_runs.found.Goals as goal

pub searched-requires-clause-opening : goal.searched-requires-clause-opening
searched-requires-clause-opening c =
    let image = c.args.asked.now.image.now in
    let question = c.args.asked.now.question.now in
    ap (λ (s : State). is_met image question None s) (sym (c.tables.ensures ∙ c.requires.here)) ∙ sym c.meets.ensures.meets ∙ c.if-meets.false

pub returns-then-meets : goal.returns-then-meets
returns-then-meets c =
    let image = c.args.asked.now.image.now in
    let test = is_met image c.args.asked.now.question.now in
    let met : test None (opening image) ≡ true = ap (λ (s : State). test None s) (sym (c.tables.ensures ∙ c.requires.here)) ∙ sym c.meets.ensures.meets ∙ c.if-meets.true in
    ok-each (λ (f : Finding). (asked : Test) → IsTrue (asked None (opening image)) → IsFinding image asked f) (λ (f : Finding). IsFinding image test f) c.show_opening.result c.show_opening.ensures (λ f shown. shown test met)
