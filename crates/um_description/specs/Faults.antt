-- The fault that is told of a flaw: the same, with its places as they are written.
use Rattle.std.specs.Prelude.{ℕ, List, codes}
use Rattle.um_document.specs.declared.fault.ImageFault.{ImageFault}
use Rattle.um_document.specs.declared.fault.ImageFault.TheVariants as fault
use Rattle.um_document.specs.Places.{place_text}
use Rattle.um_document.specs.Shape.{word}
use Rattle.um_description.specs.declared.flaw.Counted.{Counted}
use Rattle.um_description.specs.declared.flaw.Counted.TheVariants as counted
use Rattle.um_description.specs.declared.flaw.Flaw.{Flaw}

abbrev pub counted_text : Counted → List ℕ
counted_text (counted.Key key) = word key
counted_text counted.Threads = codes "threads"

abbrev pub fault_of : Flaw → ImageFault
fault_of (Flaw.Duplicate place) = fault.Duplicate (place_text place)
fault_of (Flaw.UnknownName place) = fault.UnknownName (place_text place)
fault_of (Flaw.Limit what number place) = fault.Limit (counted_text what) number (place_text place)
fault_of (Flaw.Line kind place column) = fault.Line kind (place_text place) column
fault_of (Flaw.Block place) = fault.Block (place_text place)
fault_of (Flaw.LineName place column) = fault.LineName (place_text place) column
fault_of (Flaw.ScriptOrder place) = fault.ScriptOrder (place_text place)
fault_of Flaw.Weight = fault.Weight
fault_of (Flaw.Layout stacks need have) = fault.Layout stacks need have
