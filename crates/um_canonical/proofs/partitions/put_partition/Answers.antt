use Rattle.std.proofs.lemmas.Result.{on_ok_weaker}
use Rattle.um_canonical.specs.Pieces.{first_variable}
use Rattle.um_canonical.proofs.EntryTexts.{partition_is}
use Rattle.um_canonical.proofs.partitions.put_partition.Goals as goal

pub returns : goal.returns
returns c =
    let name = rw c.as_slice.ensures.value at c.in_ok-put_text.ensures in
    let attr = rw c.attr_word.ensures.value at c.in_ok-put_text-2.ensures in
    let vars = rw c.as_slice-2.ensures.value at c.put_variable.ensures in
    on_ok_weaker c.put_variable.result (partition_is _ _ _ _ _ (first_variable c.args.numbers.now) c.args.partition.now c.in_ok-put_header.ensures name attr) vars
