use Rattle.std.proofs.Common.{◌≡◌, [], drop}
use Rattle.um_document.specs.First.{first_of}
use Rattle.um_description.specs.Duplicates.{boots_again}
use Rattle.um_description.proofs.duplicates.boot_again.Given as goal

abbrev pub invariant-loop-boot : goal.invariant-loop-boot
invariant-loop-boot l = record {
  rest : first_of (boots_again l.threads l.stacks l.index (drop l.boot-index l.boots)) ≡ first_of (boots_again [] [] 0 l.boots);
  index : l.index ≡ l.boot-index;
}
