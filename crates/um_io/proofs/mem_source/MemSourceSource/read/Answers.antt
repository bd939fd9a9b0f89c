use Rattle.std.proofs.Common.{◌≡◌, length, rules}
use Rattle.um_io.proofs.Fronts.{read_front, read_end}
use Rattle.um_io.proofs.mem_source.MemSourceSource.read.Goals as goal

pub returns-clause-bytes : goal.returns-clause-bytes
returns-clause-bytes c =
    let old = c.args.self.now in
    let given = c.copy_from_slice.new.self in
    let count = c.min-count.result in
    let calls = c.next_fails.new.self in
    let front = rw c.deref.ensures.value at c.copy_from_slice.ensures.after in
    let least = rw c.deref.ensures.value at c.min.ensures in
    let len : length given ≡ count = search (rules, c.copy_from_slice.ensures.len) in (
      read_front old.bytes.items c.args.into.now given old.at count front len,
      λ none room. read_end old.bytes.items c.args.into.now given old.at c.min.result count calls.piece
          calls.some len least c.min-count.ensures none room,
    )
