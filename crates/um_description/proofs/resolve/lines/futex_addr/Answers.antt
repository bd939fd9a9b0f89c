use Rattle.std.proofs.Common.{ℕ, ◌%◌, ◌^◌, sym, ap}
use Rattle.um_description.proofs.resolve.lines.futex_addr.Goals as goal

pub returns : goal.returns
returns c =
    let start = rw c.as_slice.ensures.value at c.start_of.ensures in
    ap (λ (n : ℕ). n % 2 ^ 32) (sym (start c.args.futex.now.offset))
