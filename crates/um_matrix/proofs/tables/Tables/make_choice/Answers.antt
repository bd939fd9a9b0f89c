use Rattle.std.proofs.Common.{◌∙◌, [], ap, sym}
use Rattle.um_matrix.specs.declared.tables.choice.Choice.{Choice}
use Rattle.um_matrix.specs.Offered.{after_choice}
use Rattle.um_matrix.proofs.tables.Tables.make_choice.Goals as goal

pub returns-in-Stops : goal.returns-in-Stops
returns-in-Stops c = c.killed.ensures [] ∙ ap (λ (choice : Choice). after_choice c.args.self.now c.args.t choice) (sym c.in-Stops.is)

pub returns-in-Leaves : goal.returns-in-Leaves
returns-in-Leaves c = c.left.ensures [] ∙ ap (λ (choice : Choice). after_choice c.args.self.now c.args.t choice) (sym c.in-Leaves.is)
