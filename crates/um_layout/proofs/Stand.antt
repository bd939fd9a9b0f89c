-- Ranges that are put into their places one after another.
use Rattle.std.proofs.Common.{◌≡◌, inl, inr, ℕ, ◌+◌, ◌<◌, ◌≤◌, List, length, take, get_or, set, ap, ◌∙◌, arith}
use Rattle.std.specs.List.{All}
use Rattle.std.proofs.lemmas.Bool.{cases_lt}
use Rattle.std.proofs.lemmas.List.{get_or_default, get_or-set_same, get_or-set_other}
use Rattle.std.proofs.lemmas.List.Sums.{sum_by_more, sum_by_more_le}
use Rattle.um_base.specs.declared.names.Range.{Range}
use Rattle.um_layout.specs.Entries.{AreDistinct, bytes_of, range_of}
use Rattle.um_layout.specs.declared.entries.Entry.{Entry}

-- the range of an entry doesn't depend on a default
same_range : (a : ℕ) (entries : List Entry) (i : ℕ) (d e : Entry) → i < length entries → range_of a entries i d ≡ range_of a entries i e
same_range a entries i d e h = ap (λ (x : Entry). record { start = record { 0 = a + bytes_of (take i entries) }; size = x.size }) (get_or_default entries i d e h)

-- one more range in its place
pub standing_more : (a i : ℕ) (entries : List Entry) (ranges : List Range) (c : Entry) (r : Range)
    → AreDistinct entries → All (λ e. e.number < length entries) entries → length ranges ≡ length entries → i < length entries → r ≡ range_of a entries i c
    → ((k : ℕ) (d : Entry) (e : Range) → k < i → get_or ranges (get_or entries k d).number e ≡ range_of a entries k d)
    → (k : ℕ) (d : Entry) (e : Range) → k < i + 1 → get_or (set ranges (get_or entries i c).number r) (get_or entries k d).number e ≡ range_of a entries k d
standing_more a i entries ranges c r distinct within len inside is before k d e h =
    let within_i = within i c inside in
    elim (cases_lt k i) [
      | inl less ↦ get_or-set_other ranges (get_or entries i c).number (get_or entries k d).number r e
          (λ same. absurd (omega (arith, distinct k i c (omega arith) inside (ap (λ (x : Entry). x.number) (get_or_default entries k c d (omega arith)) ∙ same)))) ∙ before k d e less
      | inr last ↦
          let here : k ≡ i = omega arith in
          rw (here, get_or_default entries i d c inside) (get_or-set_same ranges (get_or entries i c).number r e (omega arith) ∙ is)
    ]

pub bytes_more : (entries : List Entry) (i : ℕ) (d : Entry) → i < length entries → bytes_of (take (i + 1) entries) ≡ bytes_of (take i entries) + (get_or entries i d).size
bytes_more entries i d h = sum_by_more (λ (e : Entry). e.size) entries i d h

pub bytes_more_le : (entries : List Entry) (i : ℕ) (d : Entry) → i < length entries → bytes_of (take i entries) + (get_or entries i d).size ≤ bytes_of entries
bytes_more_le entries i d h = sum_by_more_le (λ (e : Entry). e.size) entries i d h
