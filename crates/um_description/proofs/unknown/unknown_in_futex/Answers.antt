use Rattle.std.proofs.Common.{Bool, sym, ap, ◌∙◌}
use Rattle.um_document.specs.declared.place.Place.{Place}
use Rattle.um_document.specs.declared.shape.Key.{Key}
use Rattle.um_document.specs.declared.shape.Section.{Section}
use Rattle.um_document.specs.First.{first_of}
use Rattle.um_description.specs.Names.{Text, is_among, partition_names}
use Rattle.um_description.specs.Unknown.{unless}
use Rattle.um_description.proofs.KnownLemmas.{among_named}
use Rattle.um_description.proofs.unknown.unknown_in_futex.Goals as goal

pub returns : goal.returns
returns c =
    let text = c.args.futex.now.partition in
    let known = c.has.ensures ∙ ap (λ (t : Text). is_among t c.args.known.now) c.as_slice.ensures ∙ c.requires text ∙ sym (among_named text (partition_names c.args.d.now)) in
    c.unless.ensures ∙ ap (λ (b : Bool). first_of {A = Place} (unless b (Place.Field Section.Futex c.args.index Key.Partition))) known
