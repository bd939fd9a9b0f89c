use Rattle.std.proofs.Common.{◌≡◌, ℕ, List, length, map, arith}
use denote.Ref.{Bor}
use Rattle.std.proofs.lemmas.List.{length-map}
use Rattle.um_gen.proofs.KeptLemmas.{kept_at_first, kept_more, kept_at_last, map_drop, nothing_left}
use Rattle.um_gen.proofs.writer.Writer.put_kept.Goals as goal

pub loop-name-init : goal.loop-name-init
loop-name-init c = kept_at_first _ _

pub put_name-is_first-requires-clause-room : goal.put_name-is_first-requires-clause-room
put_name-is_first-requires-clause-room c = omega (arith, c.loop-name.invariant.len, c.loop-name.invariant.capacity)

pub loop-name-preserved : goal.loop-name-preserved
loop-name-preserved c =
    kept_more _ _ _ _ _ _ _ _ c.loop-name.invariant c.put_name-is_first.ensures.text c.put_name-is_first.ensures.first (map_drop c.args.names.now c.loop-name.name-index _ (omega arith))

pub returns : goal.returns
returns c =
    let names = map (λ (name : Bor (List ℕ)). name.now) c.args.names.now in
    let all : length names ≡ length c.args.names.now = length-map c.args.names.now (λ (name : Bor (List ℕ)). name.now) in
    rw (← all) (kept_at_last _ _ _ _ _ c.loop-name.invariant (nothing_left names c.loop-name.name-index (omega arith)) (omega arith))
