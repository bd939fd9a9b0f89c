use Rattle.std.proofs.Common.{◌≡◌, [], drop}
use Rattle.um_document.specs.First.{first_of}
use Rattle.um_description.specs.Duplicates.{futexes_again}
use Rattle.um_description.proofs.duplicates.futexes_again.Given as goal

abbrev pub invariant-loop-futex : goal.invariant-loop-futex
invariant-loop-futex l = record {
  rest : first_of (futexes_again l.names l.spots l.index (drop l.futex-index l.futexes)) ≡ first_of (futexes_again l.fn.names [] 0 l.futexes);
  index : l.index ≡ l.futex-index;
}
