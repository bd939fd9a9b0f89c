use Rattle.std.proofs.Common.{◌≡◌, ◌+◌, ◌-◌, ◌*◌, ◌==◌, ◌∙◌, ap, arith, drop, subst, sym, take, ℕ, List}
use Rattle.std.specs.List.{flat_map, list_all, range_with_len}
use Rattle.um_trace.specs.Dump.{block_line}
use Rattle.um_trace.specs.Room.{Puts}
use Rattle.um_trace.proofs.PageLemmas.{puts_nothing, puts_line, zero_blocks}
use Rattle.um_trace.proofs.dump.memory.put_page.Goals as goal

pub loop-k-init : goal.loop-k-init
loop-k-init c = puts_nothing c.args.room.now 0

pub loop-k-preserved : goal.loop-k-preserved
loop-k-preserved c = puts_line (block_line c.args.area c.args.bytes.now) 83 (32 * c.args.page) c.loop-k.k _ _ _ c.loop-k.invariant c.put_block.ensures

pub returns-then-are_zero : goal.returns-then-are_zero
returns-then-are_zero c =
    let bytes = c.args.bytes.now in
    let first = 32 * c.args.page in
    let size : 32 * first + 32 * 32 - 32 * first ≡ 32 * 32 = omega arith in
    let zero = ap (λ (n : ℕ). list_all (λ (b : ℕ). b == 0) (take n (drop (32 * first) bytes))) (sym size) ∙ ap (list_all (λ (b : ℕ). b == 0)) (sym c.between.ensures.value) ∙ sym c.are_zero.ensures ∙ c.if-are_zero.true in
    subst (λ (lines : List ℕ). Puts c.args.room.now c.args.room.now lines (83 * 32)) (sym (zero_blocks c.args.area bytes first 32 zero)) (puts_nothing c.args.room.now (83 * 32))

pub returns : goal.returns
returns c =
    let all : c.loop-k.k ≡ 32 = omega arith in
    subst (λ (k : ℕ). Puts c.args.room.now c.loop-k.room (flat_map (block_line c.args.area c.args.bytes.now) (range_with_len (32 * c.args.page) k)) (83 * k)) all c.loop-k.invariant
