use Rattle.std.proofs.lemmas.Result.{on_ok_weaker}
use Rattle.um_canonical.proofs.EntryTexts.{text_is}
use Rattle.um_canonical.proofs.text.put_all.Goals as goal

pub returns : goal.returns
returns c =
    let pools = rw c.as_slice.ensures.value at c.in_ok-put_pools.ensures in
    let partitions = rw c.as_slice-2.ensures.value at c.in_ok-put_partitions.ensures in
    let domains = rw (c.deref.ensures.value, c.as_slice-3.ensures.value) at c.in_ok-put_domains.ensures in
    let objects = rw c.as_slice-4.ensures.value at c.in_ok-put_objects.ensures in
    let boots = rw c.as_slice-5.ensures.value at c.in_ok-put_boots.ensures in
    let scripts = rw c.as_slice-6.ensures.value at c.in_ok-put_scripts.ensures in
    let futexes = rw (c.deref-2.ensures.value, c.as_slice-7.ensures.value) at c.put_futexes.ensures in
    on_ok_weaker c.put_futexes.result
    (text_is _ _ _ _ _ _ _ _ _ c.args.names.now c.args.numbers.now c.args.image.now c.in_ok-put_top.ensures pools partitions domains objects boots scripts)
    futexes
