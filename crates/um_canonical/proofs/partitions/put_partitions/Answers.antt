use Rattle.std.proofs.Common.{◌≡◌, ℕ, suc, ◌+◌, List, [], ◌∷◌, ◌++◌, map, drop, add-one, refl, sym, ap, ◌∙◌, append_assoc}
use Rattle.std.proofs.Math.Seq.{drop-cons}
use Rattle.um_base.specs.declared.image.Partition.{Partition}
use Rattle.um_canonical.specs.Entries.{packed}
use Rattle.um_canonical.specs.Fresh.{variable_name}
use Rattle.um_canonical.specs.Pieces.{first_variable, partition_text, partitions_text}
use Rattle.um_canonical.proofs.partitions.put_partitions.Goals as goal

others_named : (numbers : List ℕ) → drop 1 (map variable_name numbers) ≡ map variable_name (drop 1 numbers)
others_named [] = refl
others_named (n ∷ numbers) = refl

one_more : (t numbers : List ℕ) (p : Partition) (ps : List Partition)
    → t ++ partitions_text numbers (p ∷ ps) ≡ (t ++ partition_text (packed (first_variable numbers) p)) ++ partitions_text (drop 1 numbers) ps
one_more t numbers p ps =
    rw (others_named numbers) (sym (append_assoc t (partition_text (packed (first_variable numbers) p)) (partitions_text (drop 1 numbers) ps)))

pub loop-partition-preserved : goal.loop-partition-preserved
loop-partition-preserved c =
    let t = c.loop-partition.text.items in
    let left = c.loop-partition.left.now in
    let p = c.partition-item.result in
    let ps = c.args.partitions.now in
    let i = c.loop-partition.partition-index in
    let more : drop i ps ≡ p ∷ drop (i + 1) ps =
    drop-cons ps i p c.loop-partition-test.true ∙ ap (λ (q : Partition). q ∷ drop (suc i) ps) (sym c.partition-item.is) ∙ ap (λ (k : ℕ). p ∷ drop k ps) (sym (add-one i)) in
    rw (c.in_ok-put_partition.ensures, c.others-left.ensures)
    (sym (one_more t left p (drop (i + 1) ps)) ∙ ap (λ (qs : List Partition). t ++ partitions_text left qs) (sym more) ∙ c.loop-partition.invariant)
