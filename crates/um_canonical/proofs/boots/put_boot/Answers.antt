use Rattle.std.proofs.lemmas.Result.{on_ok_weaker}
use Rattle.um_canonical.proofs.EntryTexts.{boot_is}
use Rattle.um_canonical.proofs.boots.put_boot.Goals as goal

pub returns : goal.returns
returns c =
    let t = c.args.names.now in
    let thread = rw c.deref.ensures.value at c.in_ok-put_named.ensures in
    let stack = rw c.deref-2.ensures.value at c.in_ok-put_named-2.ensures in
    let script = rw c.deref-3.ensures.value at c.in_ok-put_named-3.ensures in
    let domain = rw c.deref-4.ensures.value at c.in_ok-put_named-4.ensures in
    let mode = rw c.mode_word.ensures.value at c.in_ok-put_text.ensures in
    let pool = rw c.deref-5.ensures.value at c.in_ok-put_pool.ensures in
    let grants = rw (c.deref-6.ensures.value, c.as_slice.ensures.value) at c.put_grants.ensures in
    on_ok_weaker c.put_grants.result
    (boot_is _ _ _ _ _ _ _ _ _ _ t.objects.items t.scripts.items t.domains.items t.pools.items c.args.boot.now c.in_ok-put_header.ensures thread stack script c.in_ok-put_priority.ensures domain mode pool)
    grants
