use Rattle.std.proofs.Common.{◌≡◌, ℕ, ◌++◌, length, codes, Some, slice_get}
use Rattle.std.specs.Global.{Vec}
use Rattle.um_trace.specs.Names.{thread_text}
use Rattle.um_audit.proofs.names.beginnings.Given as goal

abbrev pub invariant-loop-t : goal.invariant-loop-t
invariant-loop-t l = record {
  count : length l.names.items ≡ l.t;
  each : (t : ℕ) (name : Vec ℕ) → slice_get l.names.items t ≡ Some name → name.items ≡ thread_text l.image t ++ codes " ";
}
