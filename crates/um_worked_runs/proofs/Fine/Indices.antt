-- A list by number of which one entry is written.
use Rattle.std.specs.Prelude.{◌≡◌, ◌≢◌, ℕ, ◌<◌, List, length, slice_index_or, slice_set}
use Rattle.std.proofs.lemmas.List.{get_or-set_other, get_or-set_same, length-set}

pub written-here : {A : Type 0} (xs : List A) (i : ℕ) (x d : A) → i < length xs → slice_index_or (slice_set xs i x) i d ≡ x
written-here xs i x d h = get_or-set_same xs i x d h

pub written-else : {A : Type 0} (xs : List A) (i j : ℕ) (x d : A) → j ≢ i → slice_index_or (slice_set xs i x) j d ≡ slice_index_or xs j d
written-else xs i j x d ne = get_or-set_other xs i j x d ne

pub written-length : {A : Type 0} (xs : List A) (i : ℕ) (x : A) → length (slice_set xs i x) ≡ length xs
written-length xs i x = length-set xs i x
