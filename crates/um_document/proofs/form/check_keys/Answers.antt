use Rattle.std.proofs.Common.{◌∙◌, sym, refl}
use Rattle.toml.specs.View.{table_view}
use Rattle.um_document.specs.declared.fault.ImageFault.TheVariants as fault
use Rattle.um_document.specs.Faults.{unknown_key_faults}
use Rattle.um_document.specs.Unknown.{unknown_keys}
use Rattle.um_document.proofs.FormLemmas.{first_map, no_first}
use Rattle.um_document.proofs.form.check_keys.Goals as goal

pub returns-in-Some : goal.returns-in-Some
unfolding unknown_key_faults
returns-in-Some c = λ other.
    first_map fault.UnknownKey (unknown_keys (table_view c.args.table.now)) ∙ rw (← c.in_ok-spot.ensures, c.in-Some.is) refl

pub returns-in-None : goal.returns-in-None
unfolding unknown_key_faults
returns-in-None c = rw (no_first (unknown_keys (table_view c.args.table.now)) (sym c.in-None.is ∙ c.in_ok-spot.ensures)) refl
