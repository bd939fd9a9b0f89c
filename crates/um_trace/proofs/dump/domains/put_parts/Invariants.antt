use Rattle.std.proofs.Common.{◌≡◌, ◌*◌, take}
use Rattle.um_trace.specs.Dump.{joined, part_of}
use Rattle.um_trace.specs.Room.{Puts}
use Rattle.um_trace.proofs.ListLemmas.{is_none}
use Rattle.um_trace.proofs.dump.domains.put_parts.Given as goal

abbrev pub invariant-loop-part : goal.invariant-loop-part
invariant-loop-part l = record {
  text : Puts l.fn.room l.room (joined part_of (take l.part-index l.parts)) (34 * l.part-index);
  first : l.first ≡ is_none (take l.part-index l.parts);
}
