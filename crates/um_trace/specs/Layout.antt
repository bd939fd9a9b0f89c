-- Where everything stands: the read-only data, the partitions and the objects of an image.
use Rattle.std.specs.Prelude.{ℕ, ◌+◌, ◌*◌, List, [], ◌++◌, length, codes, decimal, Option, Some, None}
use Rattle.std.specs.List.{flat_map}
use Rattle.um_base.specs.declared.image.Image.{Image}
use Rattle.um_base.specs.declared.image.ObjectDef.{ObjectDef}
use Rattle.um_base.specs.declared.image.Partition.{Partition}
use Rattle.um_base.specs.declared.image.Setup.{Setup}
use Rattle.um_base.specs.declared.names.Range.{Range}
use Rattle.um_trace.specs.Acts.{range_text}
use Rattle.um_trace.specs.Digits.{address}
use Rattle.um_vocabulary.specs.Words.{attr_word, kind_word}

-- the line of the read-only data, where there is some
unfoldable pub rodata_line : Option Range → List ℕ
rodata_line (Some range) = codes "rodata " ++ range_text range.start.0 range.size ++ codes "\n"
rodata_line None = []

-- the line of a partition, with its rounded size
unfoldable pub partition_line : Partition → List ℕ
partition_line p = codes "partition " ++ p.name ++ codes " " ++ range_text p.range.start.0 p.range.size ++ codes " " ++ attr_word p.attr ++ codes "\n"

-- the rounded size of a thread stack
unfoldable pub stack_size_text : Setup → List ℕ
stack_size_text (Setup.ThreadStack range declared) = codes " " ++ decimal range.size
stack_size_text _ = []

-- the line of an object
unfoldable pub place_line : ObjectDef → List ℕ
place_line o = codes "object " ++ o.name ++ codes " " ++ kind_word o.kind ++ codes " " ++ address o.addr.0 ++ stack_size_text o.setup ++ codes "\n"

-- the text of the addresses of an image, in the order of its description
unfoldable pub layout_text : Image → List ℕ
layout_text image = rodata_line image.rodata ++ flat_map partition_line image.partitions ++ flat_map place_line image.objects

-- how many bytes it takes at most
unfoldable pub layout_room : Image → ℕ
layout_room image = 32 + 72 * length image.partitions + 72 * length image.objects
