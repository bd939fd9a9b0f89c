use Rattle.std.proofs.Common.{◌≡◌, ℕ, ◌+◌, ◌-◌, replicate}
use Rattle.um_machine.specs.Memory.{put_bytes}
use Rattle.um_steps.proofs.bytes.clear.Given as goal

abbrev pub invariant-loop-k : goal.invariant-loop-k
invariant-loop-k l = put_bytes l.memory (l.fn.i + l.k) (replicate {A = ℕ} (l.n - l.k) 0) ≡ put_bytes l.initial.memory l.fn.i (replicate {A = ℕ} l.n 0)
