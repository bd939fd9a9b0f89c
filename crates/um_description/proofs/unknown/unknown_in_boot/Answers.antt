use Rattle.std.proofs.Common.{ap, ◌∙◌}
use Rattle.um_document.specs.First.{first_of}
use Rattle.um_document.specs.declared.place.Place.{Place}
use Rattle.um_description.proofs.Firsts.{or_two}
use Rattle.um_description.proofs.KnownLemmas.{boot_same}
use Rattle.um_description.proofs.unknown.unknown_in_boot.Goals as goal

pub returns : goal.returns
returns c =
    or_two _ _ c.unknown_key.ensures (rw (← c.as_slice-grants.ensures) c.unknown_item.ensures) c.or.ensures
    ∙ ap (first_of {A = Place}) (boot_same c.args.d.now c.args.objects.now c.requires c.args.index c.args.boot.now)
