use Rattle.std.proofs.Common.{ap, ◌∙◌, is_some, map}
use Rattle.um_description.proofs.NameLemmas.{is_some_named}
use Rattle.um_description.proofs.named.has_name.Goals as goal

pub returns : goal.returns
returns g c = λ f gives. c.is_some.ensures ∙ ap is_some (c.number_of.ensures.value f gives) ∙ is_some_named (map f c.args.entries.now) c.args.text.now
