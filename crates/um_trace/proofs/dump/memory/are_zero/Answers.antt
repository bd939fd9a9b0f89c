use Rattle.std.proofs.Common.{◌≡◌, ◌∙◌, ◌==◌, ◌*◌, ◌+◌, ◌/◌, ◌<◌, ℕ, List, [], ap, arith, length, sym, true, false}
use Rattle.std.specs.Prelude.{Bool, ◌&&◌, drop, slice_index_or}
use Rattle.std.specs.List.{list_all}
use Rattle.std.specs.Simd.{first_chunks}
use Rattle.um_trace.proofs.ZeroLemmas.{zero-chunk}
use Rattle.um_trace.proofs.dump.memory.are_zero.Goals as goal

pub returns-then-not-is_zero : goal.returns-then-not-is_zero
returns-then-not-is_zero c =
    let bytes = c.args.bytes.now in
    let k = length bytes / 1024 in
    let i = c.chunks.chunk-index in
    let less : i < k = (let t = c.chunks-test.true in let l = c.as_chunks.ensures.front_len in omega (arith, t, l)) in
    let chunk : list_all (λ (b : ℕ). b == 0) (slice_index_or (first_chunks 1024 k bytes) i []) ≡ false =
    ap (λ (l : List (List ℕ)). list_all (λ (b : ℕ). b == 0) (slice_index_or l i [])) (sym c.as_chunks.ensures.front) ∙ sym c.is_zero.ensures ∙ c.if-not-is_zero.true in
    sym (c.chunks.invariant ∙ zero-chunk 1024 k bytes i less ∙ ap (λ (b : Bool). b && list_all (λ (b : ℕ). b == 0) (drop ((i + 1) * 1024) bytes)) chunk)

pub chunks-preserved : goal.chunks-preserved
chunks-preserved c =
    let bytes = c.args.bytes.now in
    let k = length bytes / 1024 in
    let i = c.chunks.chunk-index in
    let less : i < k = (let t = c.chunks-test.true in let l = c.as_chunks.ensures.front_len in omega (arith, t, l)) in
    let chunk : list_all (λ (b : ℕ). b == 0) (slice_index_or (first_chunks 1024 k bytes) i []) ≡ true =
    ap (λ (l : List (List ℕ)). list_all (λ (b : ℕ). b == 0) (slice_index_or l i [])) (sym c.as_chunks.ensures.front) ∙ sym c.is_zero.ensures ∙ c.if-not-is_zero.false in
    c.chunks.invariant ∙ zero-chunk 1024 k bytes i less ∙ ap (λ (b : Bool). b && list_all (λ (b : ℕ). b == 0) (drop ((i + 1) * 1024) bytes)) chunk
