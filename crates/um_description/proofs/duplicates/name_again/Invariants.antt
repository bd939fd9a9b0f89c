use Rattle.std.proofs.Common.{◌≡◌, drop}
use Rattle.um_document.specs.First.{first_of}
use Rattle.um_description.specs.Duplicates.{SameTexts, names_again, added}
use Rattle.um_description.proofs.duplicates.name_again.Given as goal

abbrev pub invariant-loop-name : goal.invariant-loop-name
invariant-loop-name l = record {
  rest : first_of (names_again l.seen l.section l.index (drop l.name-index l.names)) ≡ first_of (names_again l.fn.seen l.section 0 l.names);
  all : SameTexts (added l.seen (drop l.name-index l.names)) (added l.fn.seen l.names);
  index : l.index ≡ l.name-index;
}
