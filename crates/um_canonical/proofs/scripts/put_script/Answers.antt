use Rattle.std.proofs.lemmas.Result.{on_ok_weaker}
use Rattle.um_canonical.proofs.EntryTexts.{script_is}
use Rattle.um_canonical.proofs.scripts.put_script.Goals as goal

pub returns : goal.returns
returns c =
    let name = rw c.as_slice.ensures.value at c.in_ok-put_text.ensures in
    let lines = rw c.as_slice-2.ensures.value at c.put_list.ensures in
    on_ok_weaker c.put_list.result (script_is _ _ _ _ c.args.names.now c.args.script.now c.in_ok-put_header.ensures name) lines
