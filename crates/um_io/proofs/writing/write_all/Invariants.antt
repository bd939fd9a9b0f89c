use Rattle.std.proofs.Common.{◌≡◌, ◌+◌, ◌-◌, ◌≤◌, length, take}
use Rattle.std.specs.Io.KnownBytes.{Appends}
use Rattle.um_io.proofs.writing.write_all.Given as goal

abbrev pub invariant-loop-done : goal.invariant-loop-done
invariant-loop-done g l = record {
  taken : Appends (g.O.Sink.taken l.fn.sink) (g.O.Sink.taken l.sink) (take l.done l.bytes);
  later : g.O.Sink.faults l.fn.sink ≤ g.O.Sink.faults l.sink;
  within : l.done ≤ length l.bytes;
  quiet : length l.bytes ≤ g.O.Sink.room l.fn.sink → g.O.Sink.faults l.sink ≡ g.O.Sink.faults l.fn.sink;
  room : length l.bytes ≤ g.O.Sink.room l.fn.sink → g.O.Sink.room l.sink + l.done ≡ g.O.Sink.room l.fn.sink;
}

abbrev pub decreases-loop-done : goal.decreases-loop-done
decreases-loop-done g l = length l.bytes - l.done
