use Rattle.std.specs.Prelude.{◌≡◌, ◌==◌, ℕ, take}
use Rattle.std.specs.List.{list_all}
use Rattle.um_trace.proofs.dump.memory.is_zero.Given as goal

abbrev pub invariant-bytes : goal.invariant-bytes
invariant-bytes l = (l.bits == 0) ≡ list_all (λ (b : ℕ). b == 0) (take l.b-index l.chunk)
