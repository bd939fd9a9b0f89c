use Rattle.std.proofs.lemmas.Result.{on_ok_weaker}
use Rattle.um_canonical.proofs.EntryTexts.{futex_is}
use Rattle.um_canonical.proofs.futexes.put_futex.Goals as goal

pub returns : goal.returns
returns c =
    let name = rw c.as_slice.ensures.value at c.in_ok-put_text.ensures in
    let partition = rw (c.as_slice-2.ensures.value, c.name_at.ensures) at c.in_ok-put_text-2.ensures in
    on_ok_weaker c.put_number.result (futex_is _ _ _ _ _ c.args.partitions.now c.args.futex.now c.in_ok-put_header.ensures name partition) c.put_number.ensures
