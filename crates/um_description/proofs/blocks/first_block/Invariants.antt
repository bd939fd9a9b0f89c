use Rattle.std.proofs.Common.{◌≡◌, drop}
use Rattle.um_document.specs.First.{first_of}
use Rattle.um_description.specs.Lines.{blocks_of}
use Rattle.um_description.specs.Names.{each}
use Rattle.um_description.proofs.blocks.first_block.Given as goal

abbrev pub invariant-loop-script : goal.invariant-loop-script
invariant-loop-script l = record {
  rest : first_of (each blocks_of l.index (drop l.script-index l.scripts)) ≡ first_of (each blocks_of 0 l.scripts);
  index : l.index ≡ l.script-index;
}
