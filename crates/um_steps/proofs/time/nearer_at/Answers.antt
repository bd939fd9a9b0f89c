use Rattle.std.proofs.Common.{◌∙◌, rules}
use Rattle.um_steps.proofs.TimeLemmas.{nearer}
use Rattle.um_steps.proofs.time.nearer_at.Goals as goal

pub returns : goal.returns
returns c = c.nearer.ensures ∙ nearer c.args.now c.args.armed.now c.args.i _ c.args.behind c.requires.here (search rules) c.requires.there
