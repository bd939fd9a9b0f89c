use Rattle.std.proofs.Common.{◌≡◌, ◌+◌, ◌∙◌, ◌==◌, ℕ, List, ap, sym}
use Rattle.std.specs.Prelude.{Bool, ◌&&◌, slice_index_or, take}
use Rattle.std.specs.List.{list_all}
use Rattle.um_trace.proofs.ZeroLemmas.{or-zero, zero-more}
use Rattle.um_trace.proofs.dump.memory.is_zero.Goals as goal

pub bytes-preserved : goal.bytes-preserved
bytes-preserved c =
    let items = c.as_slice-b-items.result.now in
    let same : items ≡ c.args.chunk.now = c.as_slice-b-items.ensures in
    let before = c.bytes.invariant in
    let b = slice_index_or items c.bytes.b-index 0 in
    or-zero c.bytes.bits b
    ∙ ap (λ (x : Bool). x && (b == 0)) (before ∙ ap (λ (l : List ℕ). list_all (λ (b : ℕ). b == 0) (take c.bytes.b-index l)) (sym same))
    ∙ sym (zero-more items c.bytes.b-index c.bytes-test.true)
    ∙ ap (λ (l : List ℕ). list_all (λ (b : ℕ). b == 0) (take (c.bytes.b-index + 1) l)) same
