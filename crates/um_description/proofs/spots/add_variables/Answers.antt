use Rattle.std.proofs.Common.{◌∙◌, ap, ℕ, List, Some, None, if◌then◌else◌, bytes_eq}
use Rattle.um_description.specs.Spots.{or_else, spot_in}
use Rattle.um_description.proofs.SpotLemmas.{variable_step}
use Rattle.um_description.proofs.spots.add_variables.Goals as goal

pub loop-variable-preserved : goal.loop-variable-preserved
loop-variable-preserved c = λ text.
    variable_step text c.args.partition c.args.variables.now c.loop-variable.variable-index c.loop-variable.end c.offset_behind-offset.result c.end_behind-end.result
    (spot_in c.loop-variable.spots text) (spot_in c.add.new.spots text) _ c.variable-item.result c.loop-variable-test.true c.variable-item.is
    c.offset_behind-offset.ensures c.end_behind-end.ensures
    (c.in_ok-add.ensures text
    ∙ ap (λ (name : List ℕ). or_else (spot_in c.loop-variable.spots text) (if bytes_eq text name then Some (record { partition = c.args.partition; offset = c.offset_behind-offset.result }) else None))
    c.as_slice.ensures.value)
    (c.loop-variable.invariant text)
