use Rattle.std.proofs.Common.{◌≡◌, ◌+◌, false, length}
use Rattle.um_document.specs.First.{first_of}
use Rattle.um_description.specs.Lines.{broken_blocks}
use Rattle.um_description.proofs.blocks.broken_block.Given as goal

abbrev pub invariant-lines : goal.invariant-lines
invariant-lines l = record {
  broken : first_of (broken_blocks l.within l.script l.index l.rest) ≡ first_of (broken_blocks false l.script 0 l.brackets);
  count : l.index + length l.rest ≡ length l.brackets;
}

abbrev pub decreases-lines : goal.decreases-lines
decreases-lines l = length l.rest
