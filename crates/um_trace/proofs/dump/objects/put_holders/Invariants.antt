use Rattle.std.proofs.Common.{◌≡◌, ◌*◌}
use Rattle.um_trace.specs.Dump.{joined, holders_below}
use Rattle.um_trace.specs.Names.{thread_text}
use Rattle.um_trace.specs.Room.{Puts}
use Rattle.um_trace.proofs.ListLemmas.{is_none}
use Rattle.um_trace.proofs.dump.objects.put_holders.Given as goal

abbrev pub invariant-loop-thread : goal.invariant-loop-thread
invariant-loop-thread g l = record {
  text : Puts l.fn.room l.room (joined (thread_text l.image) (holders_below (g.D.Dumped.state l.last) l.row l.thread)) (25 * l.thread);
  first : l.first ≡ is_none (holders_below (g.D.Dumped.state l.last) l.row l.thread);
}
