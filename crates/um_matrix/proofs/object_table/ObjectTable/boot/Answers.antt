use Rattle.std.proofs.Common.{◌∙◌, ◌++◌, List, ap}
use Rattle.um_machine.specs.declared.object.Object.{Object}
use Rattle.um_machine.specs.State.{vacant}
use Rattle.um_steps.specs.Padded.{padded}
use Rattle.um_steps.proofs.PaddedLemmas.{padded-front}
use Rattle.um_matrix.proofs.object_table.ObjectTable.boot.Goals as goal

pub returns-clause-items : goal.returns-clause-items
returns-clause-items c =
    let statics = c.in_ok-statics.statics.items in
    ap (λ (rows : List Object). padded vacant 96 statics ++ padded vacant 32 rows) c.in_ok-dynamics.ensures.items ∙ padded-front vacant 96 32 statics c.in_ok-statics.ensures.few ∙ c.in_ok-statics.ensures.items
