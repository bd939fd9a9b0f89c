use Rattle.std.proofs.Common.{◌≡◌, ◌≤◌, filter, length, not, take}
use Rattle.um_base.specs.declared.attr.Attr.{Attr}
use Rattle.um_base.specs.declared.names.Range.{Range}
use Rattle.um_machine.specs.Domains.{is_same_range}
use Rattle.um_steps.proofs.domains.others.Given as goal

abbrev pub invariant-loop-part : goal.invariant-loop-part
invariant-loop-part l = record {
  so_far : l.left ≡ filter (λ (part : Range × Attr). not (is_same_range l.range part)) (take l.part-index l.parts);
  few : length l.left ≤ l.part-index;
}
