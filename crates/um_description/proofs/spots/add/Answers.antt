use Rattle.std.proofs.Common.{sym, ap, ◌∙◌, ◌++◌}
use Rattle.um_description.proofs.SpotLemmas.{added_spot}
use Rattle.um_description.proofs.spots.add.Goals as goal

pub returns : goal.returns
returns c =
    added_spot c.args.spots.now c.insert.new.self c.extend_from_slice.new.self c.args.name.now c.args.spot
    (c.in_ok-extend_from_slice.ensures.items ∙ ap (λ xs. xs ++ c.args.name.now) c.new-key.ensures.items)
    (sym c.contains_key.ensures ∙ c.if-contains_key.false) c.in_ok-insert.ensures.updates
