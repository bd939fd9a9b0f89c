-- Rows that are filled up with blank ones, and written to.
use Rattle.std.proofs.Common.{◌≡◌, ◌<◌, ◌≤◌, [], ◌+◌, ◌-◌, ◌∙◌, ℕ, List, ◌++◌, length, replicate, slice_set, slice_index_or, arith, sym, ap, append_assoc, length-append}
use Rattle.std.proofs.lemmas.List.{set-append_left, set-append_right, replicate-append-replicate, get_or_append_left, get_or-append_right, length-set, length-replicate, get_or_default}
use Rattle.um_steps.specs.Padded.{padded}

module _ {A : Type 0} (blank : A) where
  -- the rows up to this many
  abbrev pub filled : List A → ℕ → List A
  filled xs m = xs ++ replicate (m - length xs) blank

  length-filled : (xs : List A) (m : ℕ) → length (filled xs m) ≡ length xs + (m - length xs)
  length-filled xs m = length-append xs (replicate (m - length xs) blank) ∙ ap (λ (k : ℕ). length xs + k) (length-replicate (m - length xs) blank)

  pub length-padded : (n : ℕ) (xs : List A) → length xs ≤ n → length (padded blank n xs) ≡ n
  length-padded n xs few = let e = length-filled xs n in omega arith

  -- blank rows more change nothing
  padded-filled : (n m : ℕ) (xs : List A) → length xs ≤ n → m ≤ n → padded blank n (filled xs m) ≡ padded blank n xs
  padded-filled n m xs few less =
      let l = length-filled xs m in
      let e : (m - length xs) + (n - length (filled xs m)) ≡ n - length xs = omega arith in
      append_assoc xs (replicate (m - length xs) blank) (replicate (n - length (filled xs m)) blank)
      ∙ ap (λ (ys : List A). xs ++ ys) (replicate-append-replicate (m - length xs) (n - length (filled xs m)) blank ∙ ap (λ (k : ℕ). replicate k blank) e)

  -- a row is written
  padded-set : (n i : ℕ) (xs : List A) (o : A) → i < length xs → padded blank n (slice_set xs i o) ≡ slice_set (padded blank n xs) i o
  padded-set n i xs o within =
      ap (λ (k : ℕ). slice_set xs i o ++ replicate (n - k) blank) (length-set xs i o) ∙ sym (set-append_left xs (replicate (n - length xs) blank) i o within)

  -- a row is written, up to which rows were filled
  padded-filled-set : (n i : ℕ) (xs : List A) (o : A) → length xs ≤ n → i < n → padded blank n (slice_set (filled xs (i + 1)) i o) ≡ slice_set (padded blank n xs) i o
  padded-filled-set n i xs o few within =
      let l = length-filled xs (i + 1) in
      padded-set n i (filled xs (i + 1)) o (omega arith) ∙ ap (λ (ys : List A). slice_set ys i o) (padded-filled n (i + 1) xs few (omega arith))

  pub set-static : (n m x : ℕ) (xs ys rows : List A) (o : A) → length xs ≤ n → x < n → rows ≡ filled xs (x + 1)
      → padded blank n (slice_set rows x o) ++ padded blank m ys ≡ slice_set (padded blank n xs ++ padded blank m ys) x o
  set-static n m x xs ys rows o few within is =
      let l = length-padded n xs few in
      ap (λ (rs : List A). padded blank n (slice_set rs x o) ++ padded blank m ys) is ∙ ap (λ (rs : List A). rs ++ padded blank m ys) (padded-filled-set n x xs o few within)
      ∙ sym (set-append_left (padded blank n xs) (padded blank m ys) x o (omega arith))

  pub set-dynamic : (n m x : ℕ) (xs ys rows : List A) (o : A) → length xs ≤ n → length ys ≤ m → n ≤ x → x - n < m → rows ≡ filled ys (x - n + 1)
      → padded blank n xs ++ padded blank m (slice_set rows (x - n) o) ≡ slice_set (padded blank n xs ++ padded blank m ys) x o
  set-dynamic n m x xs ys rows o few fewer past within is =
      ap (λ (rs : List A). padded blank n xs ++ padded blank m (slice_set rs (x - n) o)) is ∙ ap (λ (rs : List A). padded blank n xs ++ rs) (padded-filled-set m (x - n) ys o fewer within)
      ∙ sym (set-append_right (padded blank n xs) (padded blank m ys) n x o (length-padded n xs few) past)

  -- what is read there is what stood there
  get-static : (n m x : ℕ) (xs ys rows : List A) (d : A) → length xs ≤ n → x < n → rows ≡ filled xs (x + 1)
      → slice_index_or rows x d ≡ slice_index_or (padded blank n xs ++ padded blank m ys) x d
  get-static n m x xs ys rows d few within is =
      let l = length-padded n xs few in
      let k = length-filled xs (x + 1) in
      ap (λ (rs : List A). slice_index_or rs x d) is
      ∙ sym (get_or_append_left (filled xs (x + 1)) (replicate (n - length (filled xs (x + 1))) blank) d x (omega arith))
      ∙ ap (λ (rs : List A). slice_index_or rs x d) (padded-filled n (x + 1) xs few (omega arith))
      ∙ sym (get_or_append_left (padded blank n xs) (padded blank m ys) d x (omega arith))

  get-dynamic : (n m x : ℕ) (xs ys rows : List A) (d : A) → length xs ≤ n → length ys ≤ m → n ≤ x → x - n < m → rows ≡ filled ys (x - n + 1)
      → slice_index_or rows (x - n) d ≡ slice_index_or (padded blank n xs ++ padded blank m ys) x d
  get-dynamic n m x xs ys rows d few fewer past within is =
      let k = length-filled ys (x - n + 1) in
      ap (λ (rs : List A). slice_index_or rs (x - n) d) is
      ∙ sym (get_or_append_left (filled ys (x - n + 1)) (replicate (m - length (filled ys (x - n + 1))) blank) d (x - n) (omega arith))
      ∙ ap (λ (rs : List A). slice_index_or rs (x - n) d) (padded-filled m (x - n + 1) ys fewer (omega arith))
      ∙ sym (get_or-append_right (padded blank n xs) (padded blank m ys) n x d (length-padded n xs few) past)

  length-both : (n m : ℕ) (xs ys : List A) → length xs ≤ n → length ys ≤ m → length (padded blank n xs ++ padded blank m ys) ≡ n + m
  length-both n m xs ys few fewer = length-append (padded blank n xs) (padded blank m ys) ∙ ap (λ (k : ℕ). k + length (padded blank m ys)) (length-padded n xs few) ∙ ap (λ (k : ℕ). n + k) (length-padded m ys fewer)

  pub read-static : (n m x : ℕ) (xs ys rows : List A) (o : A) → length xs ≤ n → length ys ≤ m → x < n → rows ≡ filled xs (x + 1) → o ≡ slice_index_or rows x o
      → o ≡ slice_index_or (padded blank n xs ++ padded blank m ys) x blank
  read-static n m x xs ys rows o few fewer within is read =
      let l = length-both n m xs ys few fewer in
      read ∙ get-static n m x xs ys rows o few within is ∙ get_or_default (padded blank n xs ++ padded blank m ys) x o blank (omega arith)

  pub read-dynamic : (n m x : ℕ) (xs ys rows : List A) (o : A) → length xs ≤ n → length ys ≤ m → n ≤ x → x - n < m → rows ≡ filled ys (x - n + 1) → o ≡ slice_index_or rows (x - n) o
      → o ≡ slice_index_or (padded blank n xs ++ padded blank m ys) x blank
  read-dynamic n m x xs ys rows o few fewer past within is read =
      let l = length-both n m xs ys few fewer in
      read ∙ get-dynamic n m x xs ys rows o few fewer past within is ∙ get_or_default (padded blank n xs ++ padded blank m ys) x o blank (omega arith)

  -- rows of which the last ones are blank from the beginning
  pub padded-front : (n m : ℕ) (xs : List A) → length xs ≤ n → padded blank n xs ++ padded blank m [] ≡ xs ++ replicate (n + m - length xs) blank
  padded-front n m xs few =
      let e : (n - length xs) + (m - 0) ≡ n + m - length xs = omega arith in
      append_assoc xs (replicate (n - length xs) blank) (replicate (m - 0) blank)
      ∙ ap (λ (ys : List A). xs ++ ys) (replicate-append-replicate (n - length xs) (m - 0) blank ∙ ap (λ (k : ℕ). replicate k blank) e)
