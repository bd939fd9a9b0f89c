use Rattle.std.proofs.Common.{rules}
use Rattle.std.proofs.lemmas.List.Sorted.{answers_always}
use Rattle.um_layout.specs.declared.entries.Entry.{Entry}
use Rattle.um_layout.proofs.Order.{sorted_from_keys, ordered_from_sorted, distinct_permuted}
use Rattle.um_layout.proofs.entries.put_in_order.Goals as goal

pub returns-in-V7-clause-distinct : goal.returns-in-V7-clause-distinct
returns-in-V7-clause-distinct c = distinct_permuted _ _ c.requires.numbered c.sort_unstable_by_key.ensures.permutation

pub returns-in-V7-clause-ordered : goal.returns-in-V7-clause-ordered
returns-in-V7-clause-ordered c =
    let sorted = c.sort_unstable_by_key.ensures.sorted (λ (e : Entry). (record { 0 = e.size }, e.number)) (answers_always _ _ _ (λ f a r g h. search rules)) in
    rw c.in-V7.is (ordered_from_sorted _ (sorted_from_keys _ sorted) (distinct_permuted _ _ c.requires.numbered c.sort_unstable_by_key.ensures.permutation))
