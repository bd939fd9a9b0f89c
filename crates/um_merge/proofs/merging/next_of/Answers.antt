use Rattle.std.proofs.Common.{arith, ℕ, ◌<◌, List, length, slice_index_or, slice_index, sym, subst, below_more}
use Rattle.um_merge.specs.Logs.{Log, blank}
use Rattle.um_merge.specs.Merged.{IsNextIn}
use Rattle.um_merge.specs.declared.logged.Logged.{Logged}
use Rattle.um_merge.proofs.Orders.{log-read}
use Rattle.um_merge.proofs.merging.next_of.Goals as goal

pub is_next-requires : goal.is_next-requires
is_next-requires c = let here : c.loop-cpu.cpu < length c.args.logs.now = omega arith in
    let same = log-read c.args.logs.now c.loop-cpu.cpu _ _ c.index-logs-cpu.is here in
    subst (λ (l : List Logged). (k : ℕ) → k < length l → (slice_index_or l k blank).site < 309) (sym same) (c.requires.sites c.loop-cpu.cpu here)

pub returns-then-is_next-clause-found : goal.returns-then-is_next-clause-found
returns-then-is_next-clause-found c = let here : c.loop-cpu.cpu < length c.args.logs.now = omega arith in
    let same = log-read c.args.logs.now c.loop-cpu.cpu _ _ c.index-logs-cpu.is here in
    (here, subst (λ (l : List Logged). IsNextIn l (slice_index c.args.places.now c.loop-cpu.cpu) c.args.done.now) same (c.is_next.ensures.0 c.if-is_next.true))

pub loop-cpu-preserved : goal.loop-cpu-preserved
loop-cpu-preserved c = let here : c.loop-cpu.cpu < length c.args.logs.now = omega arith in
    let same = log-read c.args.logs.now c.loop-cpu.cpu _ _ c.index-logs-cpu.is here in
    below_more _ _ c.loop-cpu.invariant (λ n. let yes = c.is_next.ensures.1 (subst (λ (l : List Logged). IsNextIn l (slice_index c.args.places.now c.loop-cpu.cpu) c.args.done.now) (sym same) n) in absurd (cc))
