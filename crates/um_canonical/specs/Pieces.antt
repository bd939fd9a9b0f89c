-- The printed text, entry by entry.
use Rattle.std.specs.Prelude.{ℕ, List, ◌++◌, map, pos}
use Rattle.std.specs.List.{flat_map}
use Rattle.um_base.specs.declared.image.Boot.{Boot}
use Rattle.um_base.specs.declared.image.DomainDef.{DomainDef}
use Rattle.um_base.specs.declared.image.Futex.{Futex}
use Rattle.um_base.specs.declared.image.Image.{Image}
use Rattle.um_base.specs.declared.image.ObjectDef.{ObjectDef}
use Rattle.um_base.specs.declared.image.Partition.{Partition}
use Rattle.um_base.specs.declared.image.Pool.{Pool}
use Rattle.um_base.specs.declared.image.Script.{Script}
use Rattle.um_base.specs.declared.names.Row.{Row}
use Rattle.um_document.specs.declared.shape.Key.{Key}
use Rattle.um_document.specs.Shape.{word}
use Rattle.um_canonical.specs.Printed.{Printed, Pairs, header, pair, line_text}
use Rattle.um_canonical.specs.Entries.{Names, Packed, packed_by, pool_entry, domain_entry, object_entry, boot_entry, futex_entry, row_names}
use Rattle.um_canonical.specs.Fresh.{variable_name, first_name}
use Rattle.um_canonical.specs.Sections.{variable_atoms, texts_pair}
use Rattle.um_canonical.specs.Text.{script_entry, of_pool, of_partition, of_domain, of_object, of_boot, of_script, of_futex, top_by}

-- a key's line
abbrev pub pair_text : List ℕ × Printed → List ℕ
pair_text p = line_text (pair p.0 p.1)

abbrev pub pairs_text : Pairs → List ℕ
pairs_text ps = flat_map pair_text ps

abbrev pub header_text : Key → List ℕ
header_text section = line_text (header (word section))

-- an entry: its header, and a line for each of its keys
abbrev pub entry_text : Key → Pairs → List ℕ
entry_text section ps = header_text section ++ pairs_text ps

unfoldable pub top_text : Image → List ℕ
top_text image = pairs_text (top_by image.mpu (pos image.regions) image.policy image.rodata_bytes)

unfoldable pub pool_text : Pool → List ℕ
pool_text p = entry_text Key.Pool (of_pool (pool_entry p))

unfoldable pub partition_text : Packed → List ℕ
partition_text p = entry_text Key.Partition (of_partition p)

-- the list of one variable of so many bytes
unfoldable pub variable_text : List ℕ → ℕ → List ℕ → List ℕ
variable_text variable size bytes = pair_text (word Key.Vars, Printed.inline (variable_atoms variable (pos size) bytes))

-- the name of the first of these variables
abbrev pub first_variable : List ℕ → List ℕ
first_variable numbers = first_name (map variable_name numbers)

-- partitions, each with one of these variables
abbrev pub partitions_text : List ℕ → List Partition → List ℕ
partitions_text numbers ps = flat_map partition_text (packed_by (map variable_name numbers) ps)

unfoldable pub domain_text : Names → DomainDef → List ℕ
domain_text partitions m = entry_text Key.Domain (of_domain (domain_entry partitions m))

unfoldable pub object_text : ObjectDef → List ℕ
object_text o = entry_text Key.Object (of_object (object_entry o))

-- the list of the objects of these rows
unfoldable pub rows_text : Names → List Row → List ℕ
rows_text objects rows = pair_text (texts_pair Key.Grants (row_names objects rows))

unfoldable pub boot_text : Names → Names → Names → Names → Boot → List ℕ
boot_text objects scripts domains pools b = entry_text Key.Boot (of_boot (boot_entry objects scripts domains pools b))

unfoldable pub script_text : Names → Names → Names → Script → List ℕ
script_text partitions domains scripts s = entry_text Key.Script (of_script (script_entry partitions domains scripts s))

unfoldable pub futex_text : Names → Futex → List ℕ
futex_text partitions f = entry_text Key.Futex (of_futex (futex_entry partitions f))
