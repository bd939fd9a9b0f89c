use Rattle.std.proofs.Common.{◌≡◌, ◌∙◌, ap, sym, subst, Some, IsTrue}
use Rattle.um_matrix.specs.declared.tables.choice.Choice.{Choice}
use Rattle.um_matrix.specs.Offered.{IsChoice, rest_act}
use Rattle.um_matrix.proofs.OfferLemmas.{rest-chosen, rest-not}
use Rattle.um_matrix.proofs.tables.Tables.at_rest.Goals as goal

pub returns-then-not-same_act-clause-none : goal.returns-then-not-same_act-clause-none
returns-then-not-same_act-clause-none c =
    rest-not c.args.self.now c.args.t c.args.act.now
    (λ says.
    let there : rest_act c.args.self.now c.args.t ≡ Some c.in-Some.said = sym c.in-Some.ensures in
    let same : c.args.act.now ≡ c.in-Some.said = cc in
    let yes : IsTrue c.same_act.result = c.same_act.ensures.1 same in cc)

pub returns-else-not-same_act-clause-some : goal.returns-else-not-same_act-clause-some
returns-else-not-same_act-clause-some c =
    let s = c.args.self.now in
    let same : c.args.act.now ≡ c.in-Some.said = c.same_act.ensures.0 c.if-not-same_act.false in
    let says : rest_act s c.args.t ≡ Some c.args.act.now = sym c.in-Some.ensures ∙ ap Some (sym same) in
    subst (λ (choice : Choice). IsChoice s c.args.t c.args.act.now choice) (sym c.at_rest.ensures) (rest-chosen s c.args.t c.args.act.now c.requires.rest says)
