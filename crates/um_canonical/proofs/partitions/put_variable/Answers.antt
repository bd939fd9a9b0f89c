use Rattle.std.proofs.lemmas.Result.{on_ok_weaker}
use Rattle.um_canonical.specs.Pieces.{first_variable}
use Rattle.um_canonical.proofs.EntryTexts.{variable_is}
use Rattle.um_canonical.proofs.partitions.put_variable.Goals as goal

pub returns : goal.returns
returns c =
    let variable = first_variable c.args.numbers.now in
    on_ok_weaker c.put-4.result
    (variable_is _ _ _ _ _ _ _ _ _ _ variable c.args.size c.args.bytes.now c.in_ok-put_key.ensures c.in_ok-put.ensures c.in_ok-put_first.ensures c.in_ok-put-2.ensures c.in_ok-put_digits.ensures c.in_ok-put-3.ensures
    c.in_ok-put_digits-2.ensures c.in_ok-put_data.ensures)
    c.put-4.ensures
