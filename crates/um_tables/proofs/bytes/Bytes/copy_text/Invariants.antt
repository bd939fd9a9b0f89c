use Rattle.std.proofs.Common.{◌≡◌, ◌+◌, ◌-◌, ◌++◌, length}
use Rattle.um_fine.specs.Memory.{text_bytes, text_found}
use Rattle.um_tables.proofs.bytes.Bytes.copy_text.Given as goal

abbrev pub invariant-loop-before : goal.invariant-loop-before
invariant-loop-before l = record {
  found : text_found l.image l.self (l.a + l.before) (l.readable - l.before) l.before ≡ text_found l.image l.self l.a l.readable 0;
  whole : l.text ++ text_bytes l.image l.self (l.a + l.before) (l.readable - l.before) ≡ text_bytes l.image l.self l.a l.readable;
  kept : l.buffer ≡ l.fn.buffer;
  count : length l.text ≡ l.before;
}
