use Rattle.std.proofs.Common.{◌≡◌, drop}
use Rattle.um_script.specs.Canonical.{with_parts}
use Rattle.um_script.proofs.writing.put_parts.Given as goal

abbrev pub invariant-loop-part : goal.invariant-loop-part
invariant-loop-part l = with_parts l.text.items (drop l.part-index l.parts) ≡ with_parts l.fn.text.items l.parts
