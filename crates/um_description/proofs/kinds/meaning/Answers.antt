use Rattle.std.proofs.Common.{sym, rules, ◌∙◌}
use Rattle.um_description.proofs.KindLemmas.{entries_in_limits, entry_means, line_means, image_told}
use Rattle.um_description.proofs.PackedLemmas.{told_has}
use Rattle.um_description.proofs.kinds.meaning.Goals as goal

pub image_or_flaw-requires : goal.image_or_flaw-requires
image_or_flaw-requires c = record {
  read = search rules;
  limits = entries_in_limits c.args.d.now (sym c.in_default.is ∙ c.in_ok-flaw.ensures);
}

pub returns-in-Some-clause-value : goal.returns-in-Some-clause-value
returns-in-Some-clause-value c = entry_means c.args.d.now (sym c.in-Some.is ∙ c.in_ok-flaw.ensures)

pub returns-in-Some-2-clause-value : goal.returns-in-Some-2-clause-value
returns-in-Some-2-clause-value c = line_means c.args.d.now (sym c.in_default.is ∙ c.in_ok-flaw.ensures) (sym c.in-Some-2.is ∙ c.in_ok-flaw-2.ensures)

pub returns-clause-value : goal.returns-clause-value
returns-clause-value c =
    image_told c.args.d.now c.image_or_flaw.result (sym c.in_default.is ∙ c.in_ok-flaw.ensures) (sym c.in_default-2.is ∙ c.in_ok-flaw-2.ensures) c.image_or_flaw.ensures

pub returns-clause-packed : goal.returns-clause-packed
returns-clause-packed c = told_has c.args.d.now c.image_or_flaw.result (sym c.in_default.is ∙ c.in_ok-flaw.ensures) c.image_or_flaw.ensures
