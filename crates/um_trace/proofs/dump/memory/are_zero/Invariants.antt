use Rattle.std.specs.Prelude.{◌≡◌, ◌==◌, ◌*◌, ℕ, drop}
use Rattle.std.specs.List.{list_all}
use Rattle.um_trace.proofs.dump.memory.are_zero.Given as goal

abbrev pub invariant-chunks : goal.invariant-chunks
invariant-chunks l = list_all (λ (b : ℕ). b == 0) l.bytes ≡ list_all (λ (b : ℕ). b == 0) (drop (l.chunk-index * 1024) l.bytes)
