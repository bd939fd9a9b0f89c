use Rattle.std.proofs.lemmas.Result.{on_ok_weaker}
use Rattle.um_canonical.proofs.EntryTexts.{domain_is}
use Rattle.um_canonical.proofs.domains.put_domain.Goals as goal

pub returns : goal.returns
returns c =
    let name = rw c.as_slice.ensures.value at c.in_ok-put_text.ensures in
    on_ok_weaker c.put_parts.result (domain_is _ _ _ _ c.args.partitions.now c.args.domain.now c.in_ok-put_header.ensures name) c.put_parts.ensures
