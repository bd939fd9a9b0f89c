-- How a fault of a description is written.
use Rattle.std.specs.Prelude.{ℕ, List, ◌++◌, codes, decimal, Bool, if◌then◌else◌}
use Rattle.std.specs.Fmt.{signed_decimal}
use Rattle.um_document.specs.declared.fault.ImageFault.{ImageFault}
use Rattle.um_document.specs.declared.fault.ImageFault.TheVariants as fault
use Rattle.um_script.specs.declared.fault.LineKind.{LineKind}

abbrev pub line_kind_word : LineKind → List ℕ
line_kind_word LineKind.UnknownWord = codes "UnknownWord"
line_kind_word LineKind.Missing = codes "Missing"
line_kind_word LineKind.Operand = codes "Operand"
line_kind_word LineKind.Range = codes "Range"
line_kind_word LineKind.Extra = codes "Extra"

abbrev pub area_word : Bool → List ℕ
area_word stacks = if stacks then codes "stacks" else codes "partitions"

-- a word and what stands behind it, with a space between them
abbrev pub told : List ℕ → List ℕ → List ℕ
told word spot = word ++ codes " " ++ spot

abbrev pub fault_text : ImageFault → List ℕ
fault_text fault.NotToml = codes "NotToml"
fault_text fault.Version = codes "Version"
fault_text (fault.MissingKey spot) = told (codes "MissingKey") spot
fault_text (fault.WrongType spot) = told (codes "WrongType") spot
fault_text (fault.UnknownKey spot) = told (codes "UnknownKey") spot
fault_text (fault.BadName spot) = told (codes "BadName") spot
fault_text (fault.Duplicate spot) = told (codes "Duplicate") spot
fault_text (fault.UnknownName spot) = told (codes "UnknownName") spot
fault_text (fault.Limit counted number spot) = codes "Limit " ++ counted ++ codes " " ++ signed_decimal number ++ codes " " ++ spot
fault_text (fault.Line kind spot column) = codes "Line " ++ line_kind_word kind ++ codes " " ++ spot ++ codes ":" ++ decimal column
fault_text (fault.Block spot) = told (codes "Block") spot
fault_text (fault.LineName spot column) = codes "LineName " ++ spot ++ codes ":" ++ decimal column
fault_text (fault.ScriptOrder spot) = told (codes "ScriptOrder") spot
fault_text fault.Weight = codes "Weight"
fault_text (fault.Layout stacks need have) = codes "Layout " ++ area_word stacks ++ codes " " ++ decimal need ++ codes " " ++ decimal have
fault_text fault.Memory = codes "Memory"
