use Rattle.std.proofs.Common.{◌≡◌, ◌+◌, drop}
use Rattle.um_machine.specs.Memory.{put_bytes}
use Rattle.um_steps.proofs.bytes.write.Given as goal

abbrev pub invariant-loop-k : goal.invariant-loop-k
invariant-loop-k l = put_bytes l.memory (l.fn.i + l.k) (drop l.k l.bytes) ≡ put_bytes l.initial.memory l.fn.i l.bytes
