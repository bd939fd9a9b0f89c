-- Offsets that stand still at the greatest number of 32 bits, ends that never fall, and the law of packing.
use Rattle.std.proofs.Common.{◌≡◌, ℕ, ◌+◌, ◌-◌, ◌^◌, ◌<◌, ◌≤◌, Bool, true, false, nat_le, List, [], ◌∷◌, drop, get_or, length, suc, add-one, drop-cons, if◌then◌else◌, Option, Some, bytes_eq, refl, ap, sym, ◌∙◌, arith}
use Rattle.std.specs.Int.{next_multiple_of}
use Rattle.std.proofs.Math.Nat.{min-eq_left}
use Rattle.std.proofs.lemmas.Bool.Decides.{nat_tests}
use Rattle.um_document.specs.declared.description.Alignment.{Alignment}
use Rattle.um_document.specs.declared.description.VariableEntry.{VariableEntry}
use Rattle.um_document.specs.Words.{alignment_bytes}
use Rattle.um_description.specs.Names.{Text}
use Rattle.um_description.specs.Numbers.{natural, bounded}
use Rattle.um_description.specs.Packing.{offset_of, end_of, offsets_from, offsets, last_end, with_data, bytes_from, offset_named, IsLeastOffset, ArePacked}

-- ---- numbers that stand still

bounded_next_by : (n y : ℕ) (b : Bool) → nat_le n (2 ^ 32 - 1) ≡ b → bounded (next_multiple_of (bounded n) y) ≡ bounded (next_multiple_of n y)
bounded_next_by n y true h =
    let small : n ≤ 2 ^ 32 - 1 = grind (arith, nat_tests) in
    let same : bounded n ≡ n = min-eq_left small in
    ap (λ (m : ℕ). bounded (next_multiple_of m y)) same
bounded_next_by n y false h =
    let large : 2 ^ 32 - 1 < n = grind (arith, nat_tests) in omega (arith, large)

bounded_next : (n y : ℕ) → bounded (next_multiple_of (bounded n) y) ≡ bounded (next_multiple_of n y)
bounded_next n y = bounded_next_by n y (nat_le n (2 ^ 32 - 1)) refl

pub bounded_sum : (n m : ℕ) → bounded (bounded n + m) ≡ bounded (n + m)
bounded_sum n m = omega arith

pub bounded_twice : (n m : ℕ) → bounded (n + bounded m) ≡ bounded (n + m)
bounded_twice n m = omega arith

pub bounded_again : (n : ℕ) → bounded (bounded n) ≡ bounded n
bounded_again n = omega arith

-- an end that stands still doesn't change whether the next does
bounded_end : (n : ℕ) (v : VariableEntry) → bounded (end_of (bounded n) v) ≡ bounded (end_of n v)
bounded_end n v =
    sym (bounded_sum (offset_of (bounded n) v) (natural v.size))
    ∙ ap (λ (o : ℕ). bounded (o + natural v.size)) (bounded_next n (alignment_bytes v.align))
    ∙ bounded_sum (offset_of n v) (natural v.size)

pub bounded_last : (n : ℕ) (vs : List VariableEntry) → bounded (last_end (bounded n) vs) ≡ bounded (last_end n vs)
bounded_last n [] = omega arith
bounded_last n (v ∷ vs) =
    sym (bounded_last (end_of (bounded n) v) vs) ∙ ap (λ (e : ℕ). bounded (last_end e vs)) (bounded_end n v) ∙ bounded_last (end_of n v) vs

pub bounded_named : (name : Text) (n : ℕ) (vs : List VariableEntry) → offset_named name (bounded n) vs ≡ offset_named name n vs
bounded_named name n [] = refl
bounded_named name n (v ∷ vs) =
    ap (λ (o : ℕ). if bytes_eq name v.name then Some o else offset_named name (end_of (bounded n) v) vs) (bounded_next n (alignment_bytes v.align))
    ∙ ap (λ (r : Option ℕ). if bytes_eq name v.name then Some (bounded (offset_of n v)) else r)
    (sym (bounded_named name (end_of (bounded n) v) vs) ∙ ap (λ (e : ℕ). offset_named name e vs) (bounded_end n v) ∙ bounded_named name (end_of n v) vs)

-- the end of a variable as it is counted
pub counted_end : (e o z : ℕ) (v : VariableEntry) → o ≡ bounded (offset_of e v) → z ≡ bounded (o + natural v.size) → z ≡ bounded (end_of e v)
counted_end e o z v is ends = ends ∙ ap (λ (x : ℕ). bounded (x + natural v.size)) is ∙ bounded_sum (offset_of e v) (natural v.size)

-- ---- ends never fall

pub ends_grow : (n : ℕ) (vs : List VariableEntry) → n ≤ last_end n vs
ends_grow n [] = omega arith
ends_grow n (v ∷ vs) = let rest = ends_grow (end_of n v) vs in omega (arith, rest)

-- variables that end within 32 bits begin and end there
pub end_fits : (e : ℕ) (v : VariableEntry) (vs : List VariableEntry) → last_end e (v ∷ vs) ≤ 65536 → (bounded (offset_of e v) ≡ offset_of e v) × (bounded (end_of e v) ≡ end_of e v)
end_fits e v vs fits =
    let grows = ends_grow (end_of e v) vs in (omega (arith, fits, grows), omega (arith, fits, grows))

pub cut_at : {A : Type 0} (xs : List A) (k : ℕ) (x : A) → k < length xs → x ≡ get_or xs k x → drop k xs ≡ x ∷ drop (k + 1) xs
cut_at xs k x lt is = rw add-one (drop-cons xs k x lt ∙ ap (λ w. w ∷ drop (suc k) xs) (sym is))

-- the next variable of some
pub size_step : (vs : List VariableEntry) (k e o z total : ℕ) (v : VariableEntry) → k < length vs → v ≡ get_or vs k v → o ≡ bounded (offset_of e v) → z ≡ bounded (o + natural v.size)
    → bounded (last_end e (drop k vs)) ≡ total → bounded (last_end z (drop (k + 1) vs)) ≡ total
size_step vs k e o z total v lt at is ends so_far =
    ap (λ (x : ℕ). bounded (last_end x (drop (k + 1) vs))) (counted_end e o z v is ends) ∙ bounded_last (end_of e v) (drop (k + 1) vs)
    ∙ ap (λ ws. bounded (last_end e ws)) (sym (cut_at vs k v lt at)) ∙ so_far

pub named_step : (name : Text) (vs : List VariableEntry) (k e o z : ℕ) (total : Option ℕ) (v : VariableEntry) → k < length vs → v ≡ get_or vs k v → o ≡ bounded (offset_of e v)
    → z ≡ bounded (o + natural v.size) → bytes_eq name v.name ≡ false → offset_named name e (drop k vs) ≡ total → offset_named name z (drop (k + 1) vs) ≡ total
named_step name vs k e o z total v lt at is ends other so_far =
    let one : offset_named name e (v ∷ drop (k + 1) vs) ≡ offset_named name (end_of e v) (drop (k + 1) vs) = rw other refl in
    ap (λ (x : ℕ). offset_named name x (drop (k + 1) vs)) (counted_end e o z v is ends) ∙ bounded_named name (end_of e v) (drop (k + 1) vs) ∙ sym one
    ∙ ap (λ ws. offset_named name e ws) (sym (cut_at vs k v lt at)) ∙ so_far

pub named_here : (name : Text) (vs : List VariableEntry) (k e o : ℕ) (total : Option ℕ) (v : VariableEntry) → k < length vs → v ≡ get_or vs k v → o ≡ bounded (offset_of e v)
    → bytes_eq name v.name ≡ true → offset_named name e (drop k vs) ≡ total → Some o ≡ total
named_here name vs k e o total v lt at is same so_far =
    let one : offset_named name e (v ∷ drop (k + 1) vs) ≡ Some (bounded (offset_of e v)) = rw same refl in
    ap Some is ∙ sym one ∙ ap (λ ws. offset_named name e ws) (sym (cut_at vs k v lt at)) ∙ so_far

-- the ends of variables that end within the greatest size
pub ends_step : (vs : List VariableEntry) (k e o z : ℕ) (v : VariableEntry) → k < length vs → v ≡ get_or vs k v → o ≡ bounded (offset_of e v) → z ≡ bounded (o + natural v.size)
    → last_end e (drop k vs) ≤ 65536 → (o ≡ offset_of e v) × (z ≡ end_of e v) × (last_end z (drop (k + 1) vs) ≤ 65536)
ends_step vs k e o z v lt at is ends fits =
    let cut = cut_at vs k v lt at in
    let whole : last_end e (v ∷ drop (k + 1) vs) ≤ 65536 = rw (← cut) fits in
    let exact = end_fits e v (drop (k + 1) vs) whole in
    let whole_end : z ≡ end_of e v = counted_end e o z v is ends ∙ exact.1 in
    (is ∙ exact.0, whole_end, rw whole_end whole)

pub bytes_step : (vs : List VariableEntry) (k e o z : ℕ) (bytes more total : List ℕ) (v : VariableEntry) → k < length vs → v ≡ get_or vs k v → o ≡ offset_of e v → z ≡ end_of e v
    → more ≡ with_data bytes o v.data → bytes_from bytes e (drop k vs) ≡ total → bytes_from more z (drop (k + 1) vs) ≡ total
bytes_step vs k e o z bytes more total v lt at is ends put so_far =
    ap (λ (x : ℕ). bytes_from more x (drop (k + 1) vs)) ends ∙ ap (λ (b : List ℕ). bytes_from b (end_of e v) (drop (k + 1) vs)) (put ∙ ap (λ (x : ℕ). with_data bytes x v.data) is)
    ∙ ap (λ ws. bytes_from bytes e ws) (sym (cut_at vs k v lt at)) ∙ so_far

-- ---- the law of packing

pub least_offset : (end : ℕ) (align : Alignment) → IsLeastOffset end align (next_multiple_of end (alignment_bytes align))
least_offset end Alignment.One = record { aligned = omega arith; behind = omega arith; least = λ other h k. omega (arith, h, k) }
least_offset end Alignment.Two = record { aligned = omega arith; behind = omega arith; least = λ other h k. omega (arith, h, k) }
least_offset end Alignment.Four = record { aligned = omega arith; behind = omega arith; least = λ other h k. omega (arith, h, k) }
least_offset end Alignment.Eight = record { aligned = omega arith; behind = omega arith; least = λ other h k. omega (arith, h, k) }
least_offset end Alignment.Sixteen = record { aligned = omega arith; behind = omega arith; least = λ other h k. omega (arith, h, k) }
least_offset end Alignment.ThirtyTwo = record { aligned = omega arith; behind = omega arith; least = λ other h k. omega (arith, h, k) }

pub packed : (end : ℕ) (vs : List VariableEntry) → ArePacked end vs (offsets_from end vs)
packed end [] = refl
packed end (v ∷ vs) = (least_offset end v.align, packed (end_of end v) vs)

-- the law over all variables
pub packed_law : (vs : List VariableEntry) → ArePacked 0 vs (offsets vs)
packed_law vs = packed 0 vs
