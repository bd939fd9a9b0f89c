use Rattle.std.proofs.Common.{sym, ◌∙◌}
use Rattle.std.proofs.lemmas.Bool.{false≢true}
use Rattle.std.proofs.lemmas.Bool.Decides.{Decides-eqb}
use Rattle.std.proofs.lemmas.Slice.Eq.{starts_is}
use Rattle.um_audit.proofs.steps.begins.Goals as goal

pub returns : goal.returns
returns c apart more is =
    false≢true (sym apart ∙ (starts_is Decides-eqb c.args.line.now c.args.beginning.now c.starts_with.result c.starts_with.ensures.value).1 more is)
