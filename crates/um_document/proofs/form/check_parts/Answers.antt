use Rattle.std.proofs.Common.{◌∙◌, sym, refl}
use Rattle.toml.specs.View.{table_view}
use Rattle.um_document.specs.Faults.{broken_parts, fault_of}
use Rattle.um_document.specs.Parts.{parts}
use Rattle.um_document.proofs.FormLemmas.{first_told, no_first}
use Rattle.um_document.proofs.form.check_parts.Goals as goal

pub returns-in_ok-spot-in-Some : goal.returns-in_ok-spot-in-Some
unfolding broken_parts
returns-in_ok-spot-in-Some c = λ other.
    first_told (fault_of c.args.check) c.args.check (parts (table_view c.args.table.now)) ∙ rw (← c.in-Some.ensures, c.fault.ensures, c.in_ok-spot-in-Some.ensures) refl

pub returns-in-None : goal.returns-in-None
unfolding broken_parts
returns-in-None c = no_first _ (sym (first_told (fault_of c.args.check) c.args.check (parts (table_view c.args.table.now)) ∙ rw (← c.in-None.ensures) refl))
