use Rattle.std.proofs.Common.{◌+◌, ◌*◌, ◌++◌, length, take}
use Rattle.std.specs.List.{flat_map}
use Rattle.um_trace.specs.Layout.{rodata_line, partition_line, place_line}
use Rattle.um_trace.specs.Room.{Puts}
use Rattle.um_trace.proofs.layout.layout_text.Given as goal

abbrev pub invariant-loop-partition : goal.invariant-loop-partition
invariant-loop-partition l =
    Puts l.fn.room l.room (rodata_line l.image.rodata ++ flat_map partition_line (take l.partition-index l.image.partitions)) (32 + 72 * l.partition-index)

abbrev pub invariant-loop-object : goal.invariant-loop-object
invariant-loop-object l =
    Puts l.fn.room l.room (rodata_line l.image.rodata ++ flat_map partition_line l.image.partitions ++ flat_map place_line (take l.object-index l.image.objects))
    (32 + 72 * length l.image.partitions + 72 * l.object-index)
