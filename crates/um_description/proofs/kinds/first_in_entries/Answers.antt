use Rattle.std.proofs.Common.{sym, ◌∙◌}
use Rattle.um_description.proofs.KindLemmas.{duplicate_first, unknown_first, limit_first}
use Rattle.um_description.proofs.kinds.first_in_entries.Goals as goal

pub returns-in-Some : goal.returns-in-Some
returns-in-Some c = duplicate_first c.args.d.now (sym c.in-Some.is ∙ c.in_ok-place.ensures)

pub returns-in-Some-2 : goal.returns-in-Some-2
returns-in-Some-2 c =
    unknown_first c.args.d.now (sym c.in_default.is ∙ c.in_ok-place.ensures) (sym c.in-Some-2.is ∙ c.in_ok-place-2.ensures)

pub returns : goal.returns
returns c =
    limit_first c.args.d.now (sym c.in_default.is ∙ c.in_ok-place.ensures) (sym c.in_default-2.is ∙ c.in_ok-place-2.ensures) c.first_limit.ensures
