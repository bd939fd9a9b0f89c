use Rattle.std.proofs.Common.{◌≡◌, map, drop}
use Rattle.um_document.specs.First.{first_of}
use Rattle.um_description.specs.Duplicates.{SameTexts, variables_again, added}
use Rattle.um_description.proofs.AgainLemmas.{variable_name}
use Rattle.um_description.proofs.duplicates.variable_again.Given as goal

abbrev pub invariant-loop-variable : goal.invariant-loop-variable
invariant-loop-variable l = record {
  rest : first_of (variables_again l.seen l.partition l.index (drop l.variable-index l.variables)) ≡ first_of (variables_again l.fn.seen l.partition 0 l.variables);
  all : SameTexts (added l.seen (map variable_name (drop l.variable-index l.variables))) (added l.fn.seen (map variable_name l.variables));
  index : l.index ≡ l.variable-index;
}
