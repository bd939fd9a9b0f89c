use Rattle.std.proofs.Common.{◌≡◌, [], drop}
use Rattle.um_document.specs.First.{first_of}
use Rattle.um_description.specs.Duplicates.{parts_again}
use Rattle.um_description.proofs.duplicates.part_again.Given as goal

abbrev pub invariant-loop-part : goal.invariant-loop-part
invariant-loop-part l = record {
  rest : first_of (parts_again l.seen l.domain l.index (drop l.part-index l.parts)) ≡ first_of (parts_again [] l.domain 0 l.parts);
  index : l.index ≡ l.part-index;
}
