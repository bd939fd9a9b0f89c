-- The rows of a table.
use Rattle.std.proofs.Common.{◌≡◌, ◌+◌, ◌-◌, ◌<◌, ◌≤◌, ◌++◌, ◌∙◌, ℕ, List, [], ◌∷◌, ap, zero, suc, length, length-append, replicate, slice_index_or, slice_set, sym, refl, arith}
use Rattle.std.proofs.lemmas.List.{get_or_default, get_or_past, same_lists, set_at}
use native.Mathlib.Decide.{dec_lt}
use mathlib.Core.Logic.{dite}
use Rattle.um_steps.specs.Padded.{padded}
use Rattle.um_steps.proofs.PaddedLemmas.{length-padded}
use Rattle.um_machine.specs.declared.object.Object.{Object}
use Rattle.um_machine.specs.State.{vacant}

-- a row that was just filled up to is written
pub filled_last : (rows : List Object) (x : ℕ) (o : Object) → length rows ≡ x → slice_set (rows ++ replicate (x + 1 - length rows) vacant) x o ≡ rows ++ o ∷ []
filled_last rows x o count =
    let one : x + 1 - length rows ≡ 1 = omega arith in
    ap (λ (k : ℕ). slice_set (rows ++ replicate k vacant) x o) one ∙ set_at rows vacant [] o x count

-- a table has a row for each number
pub rows_long : (statics dynamics : List Object) → length statics ≤ 96 → length dynamics ≤ 32 → length (padded vacant 96 statics ++ padded vacant 32 dynamics) ≡ 128
rows_long statics dynamics few few2 =
    let one = length-padded vacant 96 statics few in
    let two = length-padded vacant 32 dynamics few2 in
    let both = length-append (padded vacant 96 statics) (padded vacant 32 dynamics) in omega (arith, one, two, both)

-- tables that are the same row by row
pub same_rows : (xs ys : List Object) → length xs ≡ length ys → ((j : ℕ) → j < length xs → slice_index_or xs j vacant ≡ slice_index_or ys j vacant) → xs ≡ ys
same_rows xs ys long each = same_lists xs ys long (λ k d below. get_or_default xs k d vacant below ∙ each k below ∙ get_or_default ys k vacant d (omega (arith, below, long)))

-- a row that was never written reads as the vacant one
read_vacant : (k j : ℕ) → slice_index_or (replicate k vacant) j vacant ≡ vacant
read_vacant zero j = refl
read_vacant (suc k) zero = refl
read_vacant (suc k) (suc j) = read_vacant k j

read_padded : (k j : ℕ) (xs : List Object) → slice_index_or (xs ++ replicate k vacant) j vacant ≡ slice_index_or xs j vacant
read_padded k j [] = read_vacant k j
read_padded k zero (x ∷ xs) = refl
read_padded k (suc j) (x ∷ xs) = read_padded k j xs

-- rows that read the same, with vacant ones behind them
pub same_padded : (n : ℕ) (xs ys : List Object) → length xs ≤ n → length ys ≤ n → ((j : ℕ) → slice_index_or xs j vacant ≡ slice_index_or ys j vacant) → padded vacant n xs ≡ padded vacant n ys
same_padded n xs ys few fewer each =
    let one = length-padded vacant n xs few in
    let two = length-padded vacant n ys fewer in
    same_rows (padded vacant n xs) (padded vacant n ys) (one ∙ sym two) (λ j below. read_padded (n - length xs) j xs ∙ each j ∙ sym (read_padded (n - length ys) j ys))

-- it is enough to read those that are written in one of the lists
pub same_read : (m : ℕ) (xs ys : List Object) → length xs ≤ m → length ys ≤ m → ((j : ℕ) → j < m → slice_index_or xs j vacant ≡ slice_index_or ys j vacant)
    → (j : ℕ) → slice_index_or xs j vacant ≡ slice_index_or ys j vacant
same_read m xs ys few fewer each j = dite (dec_lt j m)
    (λ below. each j below)
    (λ past. get_or_past xs j vacant (omega (arith, past, few)) ∙ sym (get_or_past ys j vacant (omega (arith, past, fewer))))
