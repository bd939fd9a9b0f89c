use Rattle.std.proofs.Common.{ℕ, List, map}
use denote.Ref.{Bor}
use Rattle.um_gen.proofs.KeptLemmas.{KeptSoFar}
use Rattle.um_gen.proofs.writer.Writer.put_kept.Given as goal

abbrev pub invariant-loop-name : goal.invariant-loop-name
invariant-loop-name l = KeptSoFar (map (λ (name : Bor (List ℕ)). name.now) l.names) l.fn.self l.self l.is_first l.name-index
