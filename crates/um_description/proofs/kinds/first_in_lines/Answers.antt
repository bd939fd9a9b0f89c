use Rattle.std.proofs.Common.{sym, ◌∙◌}
use Rattle.um_description.proofs.KindLemmas.{unread_first, block_first, stranger_first, misordered_first, no_line_first}
use Rattle.um_description.proofs.kinds.first_in_lines.Goals as goal

pub returns-in-Some : goal.returns-in-Some
returns-in-Some c = unread_first c.args.d.now (sym c.in-Some.is ∙ (rw c.requires at c.first_unread.ensures))

pub returns-in-Some-2 : goal.returns-in-Some-2
returns-in-Some-2 c =
    block_first c.args.d.now (sym c.in_default.is ∙ (rw c.requires at c.first_unread.ensures))
    (sym c.in-Some-2.is ∙ (rw c.requires at c.in_ok-place.ensures))

pub returns-in-Some-3 : goal.returns-in-Some-3
returns-in-Some-3 c =
    stranger_first c.args.d.now (sym c.in_default.is ∙ (rw c.requires at c.first_unread.ensures))
    (sym c.in_default-2.is ∙ (rw c.requires at c.in_ok-place.ensures))
    (sym c.in-Some-3.is ∙ (rw c.requires at c.in_ok-flaw.ensures))

pub returns-in-Some-first_misordered : goal.returns-in-Some-first_misordered
returns-in-Some-first_misordered c =
    misordered_first c.args.d.now (sym c.in_default.is ∙ (rw c.requires at c.first_unread.ensures))
    (sym c.in_default-2.is ∙ (rw c.requires at c.in_ok-place.ensures))
    (sym c.in_default-3.is ∙ (rw c.requires at c.in_ok-flaw.ensures))
    (sym c.in-Some-first_misordered.is ∙ c.first_misordered.ensures)

pub returns : goal.returns
returns c =
    no_line_first c.args.d.now (sym c.in_default.is ∙ (rw c.requires at c.first_unread.ensures))
    (sym c.in_default-2.is ∙ (rw c.requires at c.in_ok-place.ensures))
    (sym c.in_default-3.is ∙ (rw c.requires at c.in_ok-flaw.ensures))
    (sym c.in_default-first_misordered.is ∙ c.first_misordered.ensures)
