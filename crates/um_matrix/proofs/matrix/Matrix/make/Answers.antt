use Rattle.std.proofs.Common.{subst, sym}
use Rattle.um_machine.specs.State.{State}
use Rattle.um_matrix.specs.Offered.{IsChoice}
use Rattle.um_matrix.specs.OfRun.{IsOfRun}
use Rattle.um_matrix.proofs.ReachLemmas.{of-choice, of-room}
use Rattle.um_matrix.proofs.matrix.Matrix.make.Goals as goal

pub make_choice-requires-clause-room : goal.make_choice-requires-clause-room
make_choice-requires-clause-room c =
    let chosen = subst (λ (s : State). IsChoice s c.args.t c.requires.chosen.0 c.args.choice.now) (sym c.self.view_is) c.requires.chosen.1 in
    of-room _ (of-choice c.self.inside.tables c.args.t c.requires.chosen.0 c.args.choice.now c.self.invariant chosen)

pub invariant_of-self : goal.invariant_of-self
invariant_of-self c =
    let chosen = subst (λ (s : State). IsChoice s c.args.t c.requires.chosen.0 c.args.choice.now) (sym c.self.view_is) c.requires.chosen.1 in
    subst IsOfRun (sym c.make_choice.ensures) (of-choice c.self.inside.tables c.args.t c.requires.chosen.0 c.args.choice.now c.self.invariant chosen)
