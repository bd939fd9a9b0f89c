use Rattle.std.proofs.Common.{ap, ◌∙◌}
use Rattle.um_description.specs.Names.{is_among}
use Rattle.um_description.proofs.SeenLemmas.{among_keys}
use Rattle.um_description.proofs.seen.Seen.has.Goals as goal

pub returns : goal.returns
returns c =
    c.contains.ensures ∙ among_keys c.args.text.now c.self.inside.texts.keys ∙ ap (is_among c.args.text.now) c.self.view_is
