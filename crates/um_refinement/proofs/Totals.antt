-- Bounds of sums.
use Rattle.um_refinement.proofs.Words.{◌≡◌, ℕ, zero, suc, ◌+◌, ◌*◌, ◌<◌, ◌≤◌, Bool, true, false, List, [], ◌∷◌, length, refl, sym, ap, ◌∙◌, arith, eq-eqb, ◌==◌, if◌then◌else◌, nat_lt, list_all, and_parts, eqb-false, eqb-true, ltb-true, ROWS, Todo, Todos, cleanings, one_if, total, counted, is_recycle, names_row, occurs, ltb-false}
use Rattle.std.proofs.Math.Nat.{suc-mul}
use Rattle.um_refinement.proofs.HeldRows.{total-zero}
use Rattle.um_refinement.proofs.Sums.{total-one}

-- what is added up is at most so much each
pub total-each : (g : ℕ → ℕ) (most n : ℕ) → ((k : ℕ) → k < n → g k ≤ most) → total g n ≤ n * most
total-each g most zero h = omega arith
total-each g most (suc n) h =
    let before = total-each g most n (λ k l. h k (omega (arith, l))) in
    let last = h n (omega arith) in
    let product = suc-mul n most in omega (arith, before, last, product)

pub total-most : (g : ℕ → ℕ) (n : ℕ) → ((k : ℕ) → k < n → g k ≤ 1) → total g n ≤ n
total-most g n h = let each = total-each g 1 n h in omega (arith, each)

-- one number at most is so
pub total-sole : (g : ℕ → Bool) (n : ℕ) → ((a b : ℕ) → a < n → b < n → g a ≡ true → g b ≡ true → a ≡ b) → total (λ k. one_if (g k)) n ≤ 1
total-sole g zero h = omega arith
total-sole g (suc n) h = by (g n) refl (total-sole g n (λ a b l r. h a b (omega (arith, l)) (omega (arith, r))))
  where
    others : g n ≡ true → (k : ℕ) → k < n → (b : Bool) → g k ≡ b → one_if (g k) ≡ 0
    others e k l true q = let same = h k n (omega (arith, l)) (omega arith) q e in absurd (omega (arith, l, same))
    others e k l false q = ap one_if q

    by : (b : Bool) → g n ≡ b → total (λ k. one_if (g k)) n ≤ 1 → total (λ k. one_if (g k)) n + one_if (g n) ≤ 1
    by true e before =
        let none = total-zero (λ k. one_if (g k)) n (λ k l. others e k l (g k) refl) in
        let one = ap one_if e in
        omega (arith, none, one)
    by false e before = let last = ap one_if e in omega (arith, before, last)

-- numbers of at most one from s on, one of which is none
pub total-late : (g : ℕ → ℕ) (n s : ℕ) → s ≤ n → ((k : ℕ) → k < s → g k ≡ 0) → ((k : ℕ) → k < n → g k ≤ 1) → total g n + s ≤ n
total-late g zero s l none most = omega (arith, l)
total-late g (suc n) s l none most = by (nat_lt n s) refl (λ below. total-late g n s below none (λ k r. most k (omega (arith, r))))
  where
    by : (b : Bool) → nat_lt n s ≡ b → (s ≤ n → total g n + s ≤ n) → total g n + g n + s ≤ suc n
    by true e more =
        let past = ltb-true n s e in
        let before = total-zero g n (λ k r. none k (omega (arith, r, past))) in
        let last = none n past in
        omega (arith, l, before, last)
    by false e more =
        let before = more (ltb-false n s e) in
        let last = most n (omega arith) in
        omega (arith, before, last)

pub total-gap : (g : ℕ → ℕ) (n s c : ℕ) → s ≤ c → c < n → ((k : ℕ) → k < s → g k ≡ 0) → ((k : ℕ) → k < n → g k ≤ 1) → g c ≡ 0 → total g n + s < n
total-gap g zero s c l r none most gap = absurd (omega (arith, r))
total-gap g (suc n) s c l r none most gap = by (c == n) refl (λ below. total-gap g n s c l below none (λ k q. most k (omega (arith, q))) gap)
  where
    by : (b : Bool) → (c == n) ≡ b → (c < n → total g n + s < n) → total g n + g n + s < suc n
    by true e more =
        let same = eqb-true c n e in
        let before = total-late g n s (omega (arith, same, l)) none (λ k q. most k (omega (arith, q))) in
        let last : g n ≡ 0 = ap g (sym same) ∙ gap in
        omega (arith, before, last)
    by false e more =
        let other = eqb-false c n e in
        let before = more (omega (arith, r, other)) in
        let last = most n (omega arith) in
        omega (arith, before, last)

-- A list of numbers below n has as many as each of these stands in it.
pub occurs-total : (n : ℕ) (xs : List ℕ) → list_all (λ x. nat_lt x n) xs ≡ true → total (λ t. occurs t xs) n ≡ length xs
occurs-total n [] h = total-zero (λ t. 0) n (λ k l. refl)
occurs-total n (x ∷ xs) h =
    let parts = and_parts (nat_lt x n) (list_all (λ y. nat_lt y n) xs) h in
    let before = occurs-total n xs parts.1 in
    let here : occurs x (x ∷ xs) ≡ occurs x xs + 1 = ap (λ b. if b then occurs x xs + 1 else occurs x xs) (eq-eqb x x refl) in
    let all = total-one (λ t. occurs t (x ∷ xs)) (λ t. occurs t xs) n x (ltb-true x n parts.0) (λ k ne. else-where k x xs ne) in
    omega (arith, before, here, all)
  where
    else-where : (k y : ℕ) (ys : List ℕ) → (k ≡ y → ⊥) → occurs k (y ∷ ys) ≡ occurs k ys
    else-where k y ys ne = by (k == y) refl
      where
        by : (b : Bool) → (k == y) ≡ b → (if k == y then occurs k ys + 1 else occurs k ys) ≡ occurs k ys
        by true e = absurd (ne (eqb-true k y e))
        by false e = ap (λ b. if b then occurs k ys + 1 else occurs k ys) e

-- The objects to clean on a list are those of all rows.
pub recycles-total : (todo : Todos) → list_all names_row todo ≡ true → total (λ x. counted (is_recycle x) todo) ROWS ≡ cleanings todo
recycles-total [] h = total-zero (λ x. 0) ROWS (λ k l. refl)
recycles-total (Todo.recycle y ∷ todo) h =
    let parts = and_parts (nat_lt y ROWS) (list_all names_row todo) h in
    let before = recycles-total todo parts.1 in
    let here : counted (is_recycle y) (Todo.recycle y ∷ todo) ≡ counted (is_recycle y) todo + 1 = ap (λ b. if b then counted (is_recycle y) todo + 1 else counted (is_recycle y) todo) (eq-eqb y y refl) in
    let all = total-one (λ x. counted (is_recycle x) (Todo.recycle y ∷ todo)) (λ x. counted (is_recycle x) todo) ROWS y (ltb-true y ROWS parts.0) else-where in
    omega (arith, before, here, all)
  where
    else-where : (x : ℕ) → (x ≡ y → ⊥) → counted (is_recycle x) (Todo.recycle y ∷ todo) ≡ counted (is_recycle x) todo
    else-where x ne = by (x == y) refl
      where
        by : (b : Bool) → (x == y) ≡ b → (if x == y then counted (is_recycle x) todo + 1 else counted (is_recycle x) todo) ≡ counted (is_recycle x) todo
        by true e = absurd (ne (eqb-true x y e))
        by false e = ap (λ b. if b then counted (is_recycle x) todo + 1 else counted (is_recycle x) todo) e
recycles-total (q ∷ todo) h = recycles-total todo (and_parts (names_row q) (list_all names_row todo) h).1
