use Rattle.std.proofs.Common.{◌≡◌, ◌+◌, drop}
use Rattle.um_document.specs.First.{first_of}
use Rattle.um_description.specs.Mentions.{in_parts, strangers}
use Rattle.um_description.proofs.mentions.in_parts.Given as goal

abbrev pub invariant-loop-part : goal.invariant-loop-part
invariant-loop-part l = record {
  rest : first_of (strangers l.d (in_parts (l.index + 2) (drop l.part-index l.parts))) ≡ first_of (strangers l.d (in_parts 2 l.parts));
  index : l.index ≡ l.part-index;
}
